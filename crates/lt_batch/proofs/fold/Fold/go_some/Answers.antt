use Rattle.std.proofs.Common.{◌∙◌, List, [], ◌∷◌, ap, map, refl, rules, sym, subst, take}
use Rattle.std.specs.Arc.{arc_value}
use Rattle.std.specs.List.{AllByRecursion}
use Rattle.lt_model.specs.declared.normal.Stmt.{Stmt}
use Rattle.lt_model.specs.Fits.{Fits}
use Rattle.lt_base.specs.Tables.{state_of}
use Rattle.lt_batch.specs.declared.fold.Fold.{Fold}
use Rattle.lt_batch.specs.declared.pace.Pace.{Pace}
use Rattle.lt_batch.specs.Folding.{HasGone, IsAlike}
use Rattle.lt_batch.proofs.Gone.{each_taken, first_taken, gone_alike}
use Rattle.lt_batch.proofs.Indexed.{each_item}
use Rattle.lt_batch.proofs.fold.Fold.go_some.Goals as goal

-- with another pace
paced : (f : Fold) (p : Pace) → IsAlike f (record f { pace = p })
paced f p = record { state = refl; indexes = λ relation columns there. there; replies = refl; effects = refl; keeps = refl }

pub go_on_together-requires : goal.go_on_together-requires
go_on_together-requires g c = (
  search rules,
  subst (λ xs. AllByRecursion (Fits (state_of c.args.self.now.db)) (map arc_value xs)) (sym c.split_at.ensures.front)
      (each_taken (Fits (state_of c.args.self.now.db)) arc_value c.args.progs.now c.min-count.result c.requires.fit),
)

pub returns-then-together-clause-gone : goal.returns-then-together-clause-gone
returns-then-together-clause-gone g c =
    let mid : Fold = record c.args.self.now { pace = c.next_round.new.self } in
    gone_alike (map arc_value (take c.min-count.result c.args.progs.now)) c.args.self.now mid c.go_on_together.new.self
    (paced c.args.self.now c.next_round.new.self)
    (subst (λ xs. HasGone (map arc_value xs) mid c.go_on_together.new.self) c.split_at.ensures.front c.in_ok-go_on_together.ensures)

pub go_one-requires-clause-fit : goal.go_one-requires-clause-fit
go_one-requires-clause-fit g c = λ lifetimes outlive.
    rw c.deref.ensures (each_item (Fits (state_of c.args.self.now.db)) arc_value c.args.progs.now 0 c.index-progs-0.result c.requires.some c.index-progs-0.is c.requires.fit)

pub returns-clause-gone : goal.returns-clause-gone
returns-clause-gone g c =
    let mid : Fold = record c.args.self.now { pace = c.next_round.new.self } in
    let one : List (List Stmt) = map arc_value (take 1 c.args.progs.now) in
    gone_alike one c.args.self.now mid c.go_one.new.self (paced c.args.self.now c.next_round.new.self)
    (subst (λ (ps : List (List Stmt)). HasGone ps mid c.go_one.new.self)
    (ap (λ (p : List Stmt). p ∷ []) c.deref.ensures ∙ sym (first_taken arc_value c.args.progs.now c.index-progs-0.result c.requires.some c.index-progs-0.is))
    c.in_ok-go_one.ensures)
