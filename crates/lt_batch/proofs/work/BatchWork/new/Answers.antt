use Rattle.std.proofs.Common.{◌≡◌, ◌∙◌, ◌∷◌, ◌+◌, ◌*◌, [], arith, sym, subst, map}
use Rattle.std.proofs.lemmas.List.{length-map}
use Rattle.std.specs.Arc.{arc_value}
use Rattle.std.specs.List.{AllByRecursion}
use Rattle.lt_model.specs.Fits.{Fits}
use Rattle.lt_base.specs.Tables.{state_of}
use Rattle.lt_batch.specs.Work.{IsLeaf, IsSnapshot}
use Rattle.lt_batch.proofs.Leaves.{is_leaf}
use Rattle.lt_batch.proofs.work.BatchWork.new.Goals as goal

pub over-requires-clause-fit : goal.over-requires-clause-fit
over-requires-clause-fit g c = λ lifetimes outlive. subst (AllByRecursion (Fits (state_of c.args.db.now))) (sym c.in_ok-programs.ensures.all) c.requires.fit

pub returns-clause-programs : goal.returns-clause-programs
returns-clause-programs g c = c.in_ok-work.ensures.programs ∙ c.in_ok-programs.ensures.all

pub returns-clause-batches : goal.returns-clause-batches
returns-clause-batches g c = c.in_ok-work.ensures.batches ∙ c.in_ok-programs.ensures.parted

pub returns-clause-leaves : goal.returns-clause-leaves
returns-clause-leaves g c = λ i below.
    let few = c.requires.few in
    let first : 256 * 0 + i ≡ i = omega arith in
    subst (IsLeaf c.in_ok-work.work) first
    (is_leaf c.in_ok-work.work (state_of c.args.db.now) (map arc_value c.args.progs.now ∷ []) 0 i c.in_ok-work.ensures.snapshot (returns-clause-batches g c)
    (subst IsSnapshot c.in_ok-work.ensures.snapshot c.in_ok-work.ensures.runnable.snapshot) (c.requires.fit, tt) (omega (arith, below, few)) (omega (arith, below, length-map c.args.progs.now arc_value)))
