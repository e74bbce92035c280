use Rattle.std.proofs.Common.{◌∙◌, sym, subst}
use Rattle.lt_base.specs.Tables.{state_of}
use Rattle.lt_query.specs.Lists.{IsRising}
use Rattle.lt_program.proofs.KeptSlices.{AreOf, statement_joins, slices_answerable, planned_levels, mended_are, mended_is, mending_told}
use Rattle.lt_program.proofs.slicing.mend_slices.Goals as goal

pub unwrap-kept-requires : goal.unwrap-kept-requires
unwrap-kept-requires g c = c.slices.ensures.there ∙ (c.requires.old.1.sliced.by_key ∙ c.requires.sliced)

pub mend-requires-clause-can_join : goal.mend-requires-clause-can_join
mend-requires-clause-can_join g c = statement_joins c.args.tables.now c.args.stmt.now c.body_of.result.now c.args.plan.now c.body_of.ensures c.requires.plan c.requires.can_evaluate

pub mend-requires-clause-answerable : goal.mend-requires-clause-answerable
mend-requires-clause-answerable g c = slices_answerable c.args.tables.now c.args.stmt.now c.body_of.result.now c.in_ok-terms.terms c.body_of.ensures c.in_ok-terms.ensures c.requires.can_evaluate c.requires.sliced

pub mend-requires-clause-has_levels : goal.mend-requires-clause-has_levels
mend-requires-clause-has_levels g c = planned_levels c.args.stmt.now c.args.plan.now c.requires.plan c.requires.sliced

pub part_by-requires-clause-fits : goal.part_by-requires-clause-fits
part_by-requires-clause-fits g c = (state_of c.args.tables.now, c.requires.can_evaluate.wide, c.requires.can_evaluate.fits)

pub returns-clause-part : goal.returns-clause-part
returns-clause-part g c =
    let state = state_of c.args.tables.now in
    let root = rw c.unwrap-kept.ensures at c.slices.ensures.root in
    let slices = rw c.unwrap-kept.ensures at c.slices.ensures.slices in
    let its : AreOf c.args.old.now c.unwrap-kept.result.now = record { root = root; slices = slices } in
    c.in_ok-part.ensures.part state
    (mended_are c.args.stmt.now c.body_of.result.now c.args.plan.now c.in_ok-terms.terms c.requires.old.0 state c.args.old.now c.unwrap-kept.result.now c.as_slice.result.now c.args.keys.now c.in_ok-found.found.root c.in_ok-found.found.slices
    c.body_of.ensures c.requires.plan c.in_ok-terms.ensures its c.as_slice.ensures c.requires.sliced c.requires.old.1 c.requires.old.2 (c.in_ok-found.ensures.right c.requires.old.0))

pub returns-clause-mended : goal.returns-clause-mended
returns-clause-mended g c =
    let root = rw c.unwrap-kept.ensures at c.slices.ensures.root in
    let slices = rw c.unwrap-kept.ensures at c.slices.ensures.slices in
    let its : AreOf c.args.old.now c.unwrap-kept.result.now = record { root = root; slices = slices } in
    mended_is c.args.old.now c.in_ok-part.part c.unwrap-kept.result.now c.as_slice.result.now c.args.keys.now c.in_ok-found.found.root c.in_ok-found.found.slices its c.as_slice.ensures
    c.in_ok-part.ensures.root c.in_ok-part.ensures.slices c.in_ok-found.ensures.root c.in_ok-found.ensures.slices

pub returns-clause-cost : goal.returns-clause-cost
returns-clause-cost g c = mending_told (state_of c.args.tables.now) c.args.stmt.now c.body_of.result.now c.args.plan.now c.as_slice.result.now c.args.keys.now c.args.moves.now c.mend.new.moves c.body_of.ensures c.requires.plan c.as_slice.ensures c.mend.ensures.cost

pub returns-in_err-found-clause-cost : goal.returns-in_err-found-clause-cost
returns-in_err-found-clause-cost g c = mending_told (state_of c.args.tables.now) c.args.stmt.now c.body_of.result.now c.args.plan.now c.as_slice.result.now c.args.keys.now c.args.moves.now c.mend.new.moves c.body_of.ensures c.requires.plan c.as_slice.ensures c.mend.ensures.cost

pub returns-in_err-part-clause-cost : goal.returns-in_err-part-clause-cost
returns-in_err-part-clause-cost g c = mending_told (state_of c.args.tables.now) c.args.stmt.now c.body_of.result.now c.args.plan.now c.as_slice.result.now c.args.keys.now c.args.moves.now c.mend.new.moves c.body_of.ensures c.requires.plan c.as_slice.ensures c.mend.ensures.cost

pub mend-requires-clause-keys : goal.mend-requires-clause-keys
mend-requires-clause-keys g c = subst IsRising (sym c.as_slice.ensures) c.requires.keys
