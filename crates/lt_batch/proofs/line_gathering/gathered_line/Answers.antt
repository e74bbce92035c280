use Rattle.std.proofs.Common.{◌≡◌, ◌∙◌, ◌+◌, ◌++◌, ◌∷◌, [], ap, get_or, length, sym, take, add-one, arith}
use Rattle.std.specs.List.{AllByRecursion}
use Rattle.lt_model.specs.Fits.{FitMarks}
use Rattle.lt_base.specs.Tables.{state_of}
use Rattle.lt_program.specs.Run.{AreReplied}
use Rattle.lt_batch.specs.Line.{line_effects, line_replies}
use Rattle.lt_batch.proofs.InOrder.{each_end}
use Rattle.lt_batch.proofs.LineLists.{effects_more, replies_more, size_at, taken_batches}
use Rattle.lt_batch.proofs.LineRuns.{run_below}
use Rattle.std.proofs.lemmas.List.{length-map}
use Rattle.lt_batch.proofs.line_gathering.gathered_line.Goals as goal

pub gathered_in-requires-clause-line : goal.gathered_in-requires-clause-line
gathered_in-requires-clause-line c =
    run_below (length c.args.line.now.work.batches) (c.loop-s.s + 1) c.args.line.now (omega (arith, ap length c.requires.leaves, length-map c.args.line.now.work.batches length)) c.requires.line

pub gathered_in-requires-clause-leaves : goal.gathered_in-requires-clause-leaves
gathered_in-requires-clause-leaves c = ap (λ (zs : _). get_or zs c.loop-s.s 0) c.requires.leaves ∙ size_at c.args.line.now.work.batches c.loop-s.s

pub loop-s-preserved : goal.loop-s-preserved
loop-s-preserved c =
    let before = c.loop-s.invariant in
    rw (add-one, c.in_ok-push.ensures.ok, c.in_ok-push-2.ensures.ok)
    (record {
      replies =
          ap (λ rs. rs ++ c.in_ok-answered.answered ∷ []) before.replies
          ∙ ap (λ r. line_replies (take c.loop-s.s c.args.line.now.work.batches) (state_of c.args.line.now.work.snapshot) ++ r ∷ []) c.in_ok-answered.ensures.replies
          ∙ sym (replies_more c.args.line.now.work.batches (state_of c.args.line.now.work.snapshot) c.loop-s.s (omega (arith, ap length c.requires.leaves, length-map c.args.line.now.work.batches length)));
      effects =
          ap (λ es. es ++ c.in_ok-answered.wrote ∷ []) before.effects
          ∙ ap (λ e. line_effects (take c.loop-s.s c.args.line.now.work.batches) (state_of c.args.line.now.work.snapshot) ++ e ∷ []) c.in_ok-answered.ensures.effects
          ∙ sym (effects_more c.args.line.now.work.batches (state_of c.args.line.now.work.snapshot) c.loop-s.s (omega (arith, ap length c.requires.leaves, length-map c.args.line.now.work.batches length)));
      fit = each_end (AllByRecursion (FitMarks (state_of c.args.line.now.work.snapshot))) c.loop-s.effects c.in_ok-answered.wrote before.fit c.in_ok-answered.ensures.fit;
      printed = each_end (AllByRecursion AreReplied) c.loop-s.replies c.in_ok-answered.answered before.printed c.in_ok-answered.ensures.printed;
    })

pub returns-clause-replies : goal.returns-clause-replies
returns-clause-replies c =
    let long : c.loop-s.s ≡ length c.args.line.now.work.batches = omega (arith, ap length c.requires.leaves, length-map c.args.line.now.work.batches length) in
    c.loop-s.invariant.replies ∙ ap (λ bs. line_replies bs (state_of c.args.line.now.work.snapshot)) (ap (λ k. take k c.args.line.now.work.batches) long ∙ taken_batches c.args.line.now.work.batches)

pub returns-clause-effects : goal.returns-clause-effects
returns-clause-effects c =
    let long : c.loop-s.s ≡ length c.args.line.now.work.batches = omega (arith, ap length c.requires.leaves, length-map c.args.line.now.work.batches length) in
    c.loop-s.invariant.effects ∙ ap (λ bs. line_effects bs (state_of c.args.line.now.work.snapshot)) (ap (λ k. take k c.args.line.now.work.batches) long ∙ taken_batches c.args.line.now.work.batches)

pub overflow_cast-s : goal.overflow_cast-s
overflow_cast-s c =
    let short = c.requires.line.over.short in
    omega (arith, short, ap length c.requires.leaves, length-map c.args.line.now.work.batches length)
