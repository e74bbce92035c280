use Rattle.std.proofs.Common.{◌≡◌, ◌∙◌, ap, sym, subst, add-one, arith}
use Rattle.lt_face.specs.State.{State}
use Rattle.lt_model.specs.Fits.{FitMarks}
use Rattle.lt_model.specs.Marks.{laid}
use Rattle.lt_base.specs.Tables.{state_of}
use Rattle.lt_batch.specs.Line.{state_before}
use Rattle.lt_batch.proofs.LineRuns.{fits_base, leads_on, past_at, segment_at}
use Rattle.lt_batch.proofs.line_gathering.left_by_line.Goals as goal

pub loop-s-init : goal.loop-s-init
loop-s-init c = ap state_of (c.in_ok-db.ensures ∙ c.requires.snapshot)

pub root_effect-requires : goal.root_effect-requires
root_effect-requires c = segment_at c.args.line.now _ c.requires.line c.loop-s.s (omega arith)

pub lay-requires : goal.lay-requires
lay-requires c =
    subst (λ (s : State). FitMarks s c.root_effect.result.now) (sym c.loop-s.invariant)
    (fits_base c.args.line.now _ c.requires.line c.loop-s.s c.root_effect.result.now (omega arith) c.root_effect.ensures.fits.0)

pub loop-s-preserved : goal.loop-s-preserved
loop-s-preserved c =
    rw add-one
    (c.in_ok-lay.ensures.state ∙ ap (λ (s : State). laid s c.root_effect.result.now) c.loop-s.invariant
    ∙ leads_on c.args.line.now _ c.requires.line c.loop-s.s c.root_effect.result.now (omega arith) (c.root_effect.ensures.serial (past_at c.args.line.now _ c.requires.line c.loop-s.s (omega arith))))

pub returns : goal.returns
returns c =
    let long : c.loop-s.s ≡ _ = omega arith in
    c.loop-s.invariant ∙ ap (state_before c.args.line.now.work.batches (state_of c.args.line.now.work.snapshot)) long
