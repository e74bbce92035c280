use Rattle.std.proofs.Common.{◌≡◌, ℕ, Bool, true, false, inl, inr, refl, sym, ap, ◌∙◌, subst}
use Rattle.std.specs.Prelude.{◌⊎◌, List}
use Rattle.lt_face.specs.Lists.{IsIn}
use Rattle.lt_face.specs.State.{Row, State, AgreeOn}
use Rattle.lt_model.specs.Fits.{Fits}
use Rattle.lt_model.specs.Marks.{laid}
use Rattle.lt_base.specs.Changed.{differ_on}
use Rattle.lt_base.specs.Tables.{Table, state_of}
use Rattle.lt_query.proofs.Distinct.{IsIn-filter}
use Rattle.lt_program.specs.Tally.{HasIndexes}
use Rattle.lt_batch.proofs.Runs.{agree_laid, marked_or_agree}
use Rattle.lt_restate.proofs.Asking.{laid_relations}
use Rattle.lt_run_trials.proofs.restatement.again_by_name.Goals as goal

pub restate-requires-clause-fits : goal.restate-requires-clause-fits
restate-requires-clause-fits c = subst (Fits (state_of c.in_ok-next.next)) (sym c.requires.program) c.in_ok-next.ensures.fits

pub restate-requires-clause-indexes : goal.restate-requires-clause-indexes
restate-requires-clause-indexes c = subst (HasIndexes c.in_ok-next.next) (sym c.requires.program) c.in_ok-next.ensures.indexes

pub restate-requires-clause-relations : goal.restate-requires-clause-relations
restate-requires-clause-relations c = laid_relations (state_of c.args.db.now) (state_of c.args.old.now.base) (state_of c.in_ok-next.next) c.args.first.now c.args.second.now c.requires.base c.in_ok-next.ensures.state

pub restate-requires-clause-named : goal.restate-requires-clause-named
restate-requires-clause-named c = λ relation row.
    let snapshot = state_of c.args.db.now in
    let a = c.args.first.now in
    let b = c.args.second.now in
    let s : State = state_of c.args.old.now.base in
    let t : State = state_of c.in_ok-next.next in
    let agree = marked_or_agree a b s t (λ relation row same.
    subst (λ (x : State). AgreeOn s x relation row) (sym c.in_ok-next.ensures.state)
    (subst (λ (x : State). AgreeOn x (laid snapshot b) relation row) (sym c.requires.base)
    (agree_laid snapshot a b c.requires.first c.requires.second relation row same))) in
    let go : (v : Bool) → differ_on s t relation row ≡ v → IsIn (relation, row) c.in_ok-all.all → AgreeOn s t relation row ⊎ IsIn (relation, row) c.in_ok-named.named = λ v e there.
    elim v as (λ x. differ_on s t relation row ≡ x → AgreeOn s t relation row ⊎ IsIn (relation, row) c.in_ok-named.named) [
      | true ↦ λ differs. inr (subst (λ (xs : List (ℕ × Row)). IsIn (relation, row) xs) (sym c.in_ok-named.ensures)
          (IsIn-filter (λ change. differ_on (state_of c.base.result.now) t change.0 change.1) (relation, row) c.in_ok-all.all there (ap (λ (d : List Table). differ_on (state_of d) t relation row) c.base.ensures ∙ differs)))
      | false ↦ λ same. inl (c.differing.ensures.agree s t relation row same)
    ] e in
    elim (agree relation row) [ inl is ↦ inl is | inr on ↦ go (differ_on s t relation row) refl (c.in_ok-all.ensures relation row on) ]
