use Rattle.std.proofs.Common.{map, take, sym, subst, arith}
use Rattle.std.specs.Arc.{arc_value}
use Rattle.std.specs.List.{AllByRecursion}
use Rattle.lt_model.specs.Fits.{Fits}
use Rattle.lt_base.specs.Tables.{state_of}
use Rattle.lt_batch.specs.Folding.{HasGone}
use Rattle.lt_batch.proofs.Gone.{all_gone, gone_none, gone_steps, left_fit}
use Rattle.lt_batch.proofs.fold.Fold.go_all.Goals as goal

pub steps-init : goal.steps-init
steps-init g c = record { within = omega arith; gone = gone_none c.args.self.now }

pub go_some-requires-clause-fit : goal.go_some-requires-clause-fit
go_some-requires-clause-fit g c = λ lifetimes outlive.
    subst (λ xs. AllByRecursion (Fits (state_of c.steps.self.db)) (map arc_value xs)) (sym c.split_at.ensures.back)
    (left_fit arc_value c.args.progs.now c.steps.next c.args.self.now c.steps.self c.steps.invariant.gone c.requires.fit)

pub steps-preserved : goal.steps-preserved
steps-preserved g c = record {
  within =
      let some = c.in_ok-count.ensures.some in
      let left = c.split_at.ensures.back_len in
      omega (arith, some, left);
  gone = gone_steps arc_value c.args.progs.now c.steps.next c.in_ok-count.count c.args.self.now c.steps.self c.go_some.new.self c.steps.invariant.gone
      (subst (λ xs. HasGone (map arc_value (take c.in_ok-count.count xs)) c.steps.self c.go_some.new.self) c.split_at.ensures.back c.in_ok-count.ensures.gone);
}

pub returns : goal.returns
returns g c = all_gone arc_value c.args.progs.now c.steps.next c.args.self.now c.steps.self (omega arith) c.steps.invariant.gone
