use Rattle.std.proofs.Common.{◌≡◌, ◌∙◌, ◌<◌, ◌+◌, ◌≤◌, Bor, List, [], Option, length, sym, ap, subst, arith}
use Rattle.std.specs.Prelude.{◌/◌, IfSome}
use Rattle.std.specs.Option.{option_map}
use Rattle.std.specs.Arc.{arc_value}
use Rattle.lt_model.specs.Fits.{Fits, FitMarks}
use Rattle.lt_model.specs.declared.normal.Stmt.{Stmt}
use Rattle.lt_model.specs.Marks.{Marks, laid}
use Rattle.lt_model.specs.Run.{run}
use Rattle.lt_base.specs.Tables.{state_of}
use Rattle.lt_program.specs.Tally.{HasIndexes}
use Rattle.lt_batch.specs.declared.leaf.LeafTally.{LeafTally}
use Rattle.lt_batch.specs.declared.spans.Span.{Span}
use Rattle.lt_batch.specs.Early.{early_at, early_of}
use Rattle.lt_batch.specs.LeafRun.{IsRunOn, StandsFor}
use Rattle.lt_batch.specs.Priors.{IsRestatedFrom, helper, leaf_bound}
use Rattle.lt_batch.specs.Spans.{AreWithin}
use Rattle.lt_batch.specs.Work.{BatchView, FitsBatch, marks_for}
use Rattle.lt_batch.proofs.Helpers.{bound_is, helper_is, of_early, of_prior, stands_is}
use Rattle.lt_batch.proofs.Indexed.{each_item}
use Rattle.lt_batch.proofs.LeafPlaces.{early_there, place_below, place_in, program_there, segment_there, work_of}
use Rattle.lt_batch.proofs.Runs.{item_at}
use Rattle.lt_batch.proofs.work.BatchWorkLeafWork.work.Goals as goal

pub place_of-place-requires-clause-segment : goal.place_of-place-requires-clause-segment
place_of-place-requires-clause-segment g c = subst (λ (ss : List Span). c.args.leaf / 256 < length ss) (sym c.deref.ensures.value) (segment_there c.self.inside.snapshot arc_value c.self.inside.programs.items c.self.inside.early.items c.self.inside.spans.items c.args.self.now c.self.view_is c.args.leaf c.requires.leaf)

pub place_of-place-requires-clause-within : goal.place_of-place-requires-clause-within
place_of-place-requires-clause-within g c = subst (λ (ss : List Span). AreWithin ss 2048) (sym c.deref.ensures.value) c.self.invariant.within

pub index-prog-requires : goal.index-prog-requires
index-prog-requires g c =
    let is = place_in c.args.leaf c.place_of-place.ensures c.deref.ensures.value in
    let here = place_below c.self.inside.snapshot arc_value c.self.inside.programs.items c.self.inside.early.items c.self.inside.spans.items c.args.self.now c.self.view_is c.args.leaf c.requires.leaf c.place_of-place.result is in
    omega (arith, here)

pub tally_on-requires-clause-marks : goal.tally_on-requires-clause-marks
tally_on-requires-clause-marks g c =
    c.in_ok-on.ensures.fits (state_of c.self.inside.snapshot) (subst (λ (w : BatchView). FitMarks (state_of w.snapshot) c.args.correction.now) (sym c.self.view_is) c.requires.correction.0)

pub tally_on-requires-clause-fits : goal.tally_on-requires-clause-fits
tally_on-requires-clause-fits g c =
    let is = place_in c.args.leaf c.place_of-place.ensures c.deref.ensures.value in
    let here = place_below c.self.inside.snapshot arc_value c.self.inside.programs.items c.self.inside.early.items c.self.inside.spans.items c.args.self.now c.self.view_is c.args.leaf c.requires.leaf c.place_of-place.result is in
    each_item (Fits (state_of c.self.inside.snapshot)) arc_value c.self.inside.programs.items c.place_of-place.result c.index-prog.result.now here c.index-prog.ensures c.self.invariant.batch.runnable.fit

pub tally_on-requires-clause-indexes : goal.tally_on-requires-clause-indexes
tally_on-requires-clause-indexes g c =
    let is = place_in c.args.leaf c.place_of-place.ensures c.deref.ensures.value in
    let here = place_below c.self.inside.snapshot arc_value c.self.inside.programs.items c.self.inside.early.items c.self.inside.spans.items c.args.self.now c.self.view_is c.args.leaf c.requires.leaf c.place_of-place.result is in
    each_item (HasIndexes c.self.inside.snapshot) arc_value c.self.inside.programs.items c.place_of-place.result c.index-prog.result.now here c.index-prog.ensures c.self.invariant.batch.indexed

pub tally_on-requires-clause-prior : goal.tally_on-requires-clause-prior
tally_on-requires-clause-prior g c =
    let is = place_in c.args.leaf c.place_of-place.ensures c.deref.ensures.value in
    let own = work_of c.self.inside.snapshot arc_value c.self.inside.programs.items c.self.inside.early.items c.self.inside.spans.items in
    let prog_is = program_there c.self.inside.snapshot arc_value c.self.inside.programs.items c.self.inside.early.items c.self.inside.spans.items c.args.self.now c.self.view_is c.args.leaf c.requires.leaf c.place_of-place.result is c.index-prog.result.now c.index-prog.ensures in
    let item_is = item_at arc_value c.self.inside.programs.items c.place_of-place.result c.index-prog.result.now (place_below c.self.inside.snapshot arc_value c.self.inside.programs.items c.self.inside.early.items c.self.inside.spans.items c.args.self.now c.self.view_is c.args.leaf c.requires.leaf c.place_of-place.result is) c.index-prog.ensures in
    helper_is (early_of c.self.inside.early.items c.place_of-place.result) c.args.prior c.helper_in-helper.result c.helper_in-helper.ensures own c.args.leaf (arc_value c.index-prog.result.now) prog_is
    (subst (λ (p : List Stmt). IfSome (early_of c.self.inside.early.items c.place_of-place.result) (IsRunOn p (state_of c.self.inside.snapshot) [])) item_is (c.self.invariant.early c.place_of-place.result))
    (subst (λ (w : BatchView). IfSome c.args.prior (λ (old : Bor LeafTally). (on : Marks) × FitsBatch w on × StandsFor w old.now c.args.leaf on)) (sym c.self.view_is) c.requires.prior)

pub returns-clause-stands : goal.returns-clause-stands
returns-clause-stands g c =
    let is = place_in c.args.leaf c.place_of-place.ensures c.deref.ensures.value in
    let own = work_of c.self.inside.snapshot arc_value c.self.inside.programs.items c.self.inside.early.items c.self.inside.spans.items in
    let prog_is = program_there c.self.inside.snapshot arc_value c.self.inside.programs.items c.self.inside.early.items c.self.inside.spans.items c.args.self.now c.self.view_is c.args.leaf c.requires.leaf c.place_of-place.result is c.index-prog.result.now c.index-prog.ensures in
    let runs : run (arc_value c.index-prog.result.now) (laid (state_of c.self.inside.snapshot) c.in_ok-on.on) ≡ run (arc_value c.index-prog.result.now) (laid (state_of c.self.inside.snapshot) c.args.correction.now) =
    subst (λ (p : List Stmt). run p (laid (state_of c.self.inside.snapshot) c.in_ok-on.on) ≡ run p (laid (state_of c.self.inside.snapshot) c.args.correction.now)) c.deref-2.ensures (c.in_ok-on.ensures.run (state_of c.self.inside.snapshot)) in
    let on_is : c.in_ok-on.on ≡ marks_for (arc_value c.index-prog.result.now) c.args.correction.now = c.in_ok-on.ensures.marks ∙ ap (λ (p : List Stmt). marks_for p c.args.correction.now) c.deref-2.ensures in
    subst (λ (w : BatchView). StandsFor w c.in_ok-tally.tally c.args.leaf c.args.correction.now) c.self.view_is
    (stands_is own c.args.leaf (arc_value c.index-prog.result.now) prog_is c.in_ok-on.on c.args.correction.now on_is c.in_ok-tally.tally runs c.in_ok-tally.ensures.run)

pub returns-clause-moves : goal.returns-clause-moves
returns-clause-moves g c =
    let is = place_in c.args.leaf c.place_of-place.ensures c.deref.ensures.value in
    let own = work_of c.self.inside.snapshot arc_value c.self.inside.programs.items c.self.inside.early.items c.self.inside.spans.items in
    let prog_is = program_there c.self.inside.snapshot arc_value c.self.inside.programs.items c.self.inside.early.items c.self.inside.spans.items c.args.self.now c.self.view_is c.args.leaf c.requires.leaf c.place_of-place.result is c.index-prog.result.now c.index-prog.ensures in
    let help_is = c.helper_in-helper.ensures ∙ ap (λ (o : Option LeafTally). helper o (option_map (λ (old : Bor LeafTally). old.now) c.args.prior)) (early_there c.self.inside.snapshot arc_value c.self.inside.programs.items c.self.inside.early.items c.self.inside.spans.items c.args.self.now c.self.view_is c.args.leaf c.requires.leaf c.place_of-place.result is) in
    let on_is : c.in_ok-on.on ≡ marks_for (arc_value c.index-prog.result.now) c.args.correction.now = c.in_ok-on.ensures.marks ∙ ap (λ (p : List Stmt). marks_for p c.args.correction.now) c.deref-2.ensures in
    subst (λ (w : BatchView). IfSome (leaf_bound w (option_map (λ (old : Bor LeafTally). old.now) c.args.prior) c.args.leaf c.args.correction.now) (λ most. c.tally_on.new.moves ≤ c.args.moves.now + most)) c.self.view_is
    (bound_is own c.args.leaf (arc_value c.index-prog.result.now) prog_is c.in_ok-on.on c.args.correction.now on_is
    (option_map (λ (old : Bor LeafTally). old.now) c.args.prior) (option_map (λ (old : Bor LeafTally). old.now) c.helper_in-helper.result) c.args.moves.now c.tally_on.new.moves help_is c.tally_on.ensures.moves)

pub returns-clause-restated : goal.returns-clause-restated
returns-clause-restated g c =
    of_prior (early_of c.self.inside.early.items c.place_of-place.result) c.args.prior c.helper_in-helper.result c.helper_in-helper.ensures (λ (old : LeafTally). IsRestatedFrom old c.in_ok-tally.tally) c.in_ok-tally.ensures.restated

pub returns-clause-early : goal.returns-clause-early
returns-clause-early g c = λ none.
    let is = place_in c.args.leaf c.place_of-place.ensures c.deref.ensures.value in
    subst (λ (w : BatchView). IfSome (early_at w.early c.args.leaf) (λ (old : LeafTally). IsRestatedFrom old c.in_ok-tally.tally)) c.self.view_is
    (subst (λ (o : Option LeafTally). IfSome o (λ (old : LeafTally). IsRestatedFrom old c.in_ok-tally.tally)) (early_there c.self.inside.snapshot arc_value c.self.inside.programs.items c.self.inside.early.items c.self.inside.spans.items c.args.self.now c.self.view_is c.args.leaf c.requires.leaf c.place_of-place.result is)
    (of_early (early_of c.self.inside.early.items c.place_of-place.result) c.args.prior c.helper_in-helper.result c.helper_in-helper.ensures (λ (old : LeafTally). IsRestatedFrom old c.in_ok-tally.tally) c.in_ok-tally.ensures.restated none))
