use Rattle.std.proofs.Common.{◌≡◌, ◌+◌, ◌<◌, ◌∙◌, true, Option, None, map, length, List, sym, subst, arith}
use Rattle.std.proofs.lemmas.List.{length-map}
use Rattle.std.proofs.Math.ListN.{length-set}
use Rattle.std.specs.Prelude.{slice_set}
use Rattle.std.specs.Arc.{arc_value}
use Rattle.lt_model.specs.declared.normal.Stmt.{Stmt}
use Rattle.lt_model.specs.Fits.{Fits, FitMarks}
use Rattle.lt_model.specs.Marks.{Marks}
use Rattle.lt_base.specs.Tables.{state_of}
use Rattle.lt_program.specs.Tally.{HasIndexes}
use Rattle.lt_batch.specs.declared.ahead.Ahead.{Ahead}
use Rattle.lt_batch.specs.Batch.{program_at}
use Rattle.lt_batch.specs.Folding.{AreAhead, HasRun}
use Rattle.lt_batch.proofs.AheadRuns.{IsGoing, found, going_ahead, going_all, going_fits, going_indexes, going_more, going_none, next_run, taken_ahead}
use Rattle.lt_batch.proofs.Runs.{item_at}
use Rattle.lt_batch.proofs.fold.Fold.go_round.Goals as goal

pub loop-i-init : goal.loop-i-init
loop-i-init c =
    subst (λ (since : Marks). IsGoing (map arc_value c.args.round.now) c.args.self.now 0 c.args.self.now since c.args.ahead.now.items) (sym c.in_ok-since.ensures)
    (going_none (map arc_value c.args.round.now) c.args.self.now c.args.ahead.now.items c.requires.indexes (c.requires.long ∙ sym (length-map c.args.round.now arc_value)) c.requires.ahead)

pub take_or_go_on-requires-clause-fit : goal.take_or_go_on-requires-clause-fit
take_or_go_on-requires-clause-fit c =
    let below : c.loop-i.i < length (map arc_value c.args.round.now) = omega (arith, length-map c.args.round.now arc_value) in
    let is : program_at (map arc_value c.args.round.now) c.loop-i.i ≡ c.deref.result.now = item_at arc_value c.args.round.now c.loop-i.i c.index-round-i.result (omega arith) c.index-round-i.is ∙ sym c.deref.ensures in
    subst (Fits (state_of c.loop-i.self.db)) is (going_fits (map arc_value c.args.round.now) c.args.self.now c.loop-i.i c.loop-i.self c.loop-i.since c.loop-i.ahead.items below c.loop-i.invariant c.requires.fit)

pub take_or_go_on-requires-clause-indexes : goal.take_or_go_on-requires-clause-indexes
take_or_go_on-requires-clause-indexes c =
    let below : c.loop-i.i < length (map arc_value c.args.round.now) = omega (arith, length-map c.args.round.now arc_value) in
    let is : program_at (map arc_value c.args.round.now) c.loop-i.i ≡ c.deref.result.now = item_at arc_value c.args.round.now c.loop-i.i c.index-round-i.result (omega arith) c.index-round-i.is ∙ sym c.deref.ensures in
    subst (HasIndexes c.loop-i.self.db) is (going_indexes (map arc_value c.args.round.now) c.args.self.now c.loop-i.i c.loop-i.self c.loop-i.since c.loop-i.ahead.items below c.loop-i.invariant)

pub take_or_go_on-requires-clause-ahead : goal.take_or_go_on-requires-clause-ahead
take_or_go_on-requires-clause-ahead c =
    let long = c.loop-i.invariant.long in
    let below : c.loop-i.i < length c.loop-i.ahead.items = omega (arith, long, length-map c.args.round.now arc_value) in
    let is : program_at (map arc_value c.args.round.now) c.loop-i.i ≡ c.deref.result.now = item_at arc_value c.args.round.now c.loop-i.i c.index-round-i.result (omega arith) c.index-round-i.is ∙ sym c.deref.ensures in
    next_run (map arc_value c.args.round.now) c.deref.result.now (state_of c.loop-i.self.db) c.loop-i.since c.loop-i.i c.loop-i.ahead.items c.index_mut.result.now c.take-one.result is
    (found c.loop-i.ahead.items c.loop-i.i c.index_mut.result.now None below c.index_mut.ensures.value) c.take-one.ensures.value
    (going_ahead (map arc_value c.args.round.now) c.args.self.now c.loop-i.i c.loop-i.self c.loop-i.since c.loop-i.ahead.items c.loop-i.invariant)

pub loop-i-preserved : goal.loop-i-preserved
loop-i-preserved c =
    let below : c.loop-i.i < length (map arc_value c.args.round.now) = omega (arith, length-map c.args.round.now arc_value) in
    let is : program_at (map arc_value c.args.round.now) c.loop-i.i ≡ c.deref.result.now = item_at arc_value c.args.round.now c.loop-i.i c.index-round-i.result (omega arith) c.index-round-i.is ∙ sym c.deref.ensures in
    let did = subst (λ (p : List Stmt). HasRun p true c.loop-i.self c.take_or_go_on.new.self c.in_ok-ran.ran) (sym is) c.in_ok-ran.ensures in
    let fits = subst (FitMarks (state_of c.loop-i.self.db)) (sym did.marks) did.fits in
    let left = subst (λ (x : Option Ahead). AreAhead (map arc_value c.args.round.now) (state_of c.loop-i.self.db) c.loop-i.since (c.loop-i.i + 1) (slice_set c.loop-i.ahead.items c.loop-i.i x)) (sym c.take-one.ensures.after)
    (taken_ahead (map arc_value c.args.round.now) (state_of c.loop-i.self.db) c.loop-i.since c.loop-i.i c.loop-i.ahead.items c.loop-i.invariant.are) in
    going_more (map arc_value c.args.round.now) c.args.self.now c.loop-i.i c.loop-i.self c.take_or_go_on.new.self c.push.new.self c.loop-i.since c.add.new.self c.loop-i.ahead.items c.let_go.new.ahead.items c.in_ok-ran.ran
    below c.loop-i.invariant did c.in_ok-push.ensures.replies c.in_ok-push.ensures.effects c.in_ok-push.ensures.db c.in_ok-push.ensures.keeps
    (c.let_go.ensures.long ∙ length-set c.loop-i.ahead.items c.loop-i.i c.take-one.new.self)
    c.in_ok-add.ensures.ok
    (c.let_go.ensures.left (state_of c.loop-i.self.db) c.loop-i.since fits left)

pub returns : goal.returns
returns c = going_all (map arc_value c.args.round.now) c.args.self.now c.loop-i.i c.loop-i.self c.loop-i.since c.loop-i.ahead.items (omega (arith, length-map c.args.round.now arc_value)) c.loop-i.invariant
