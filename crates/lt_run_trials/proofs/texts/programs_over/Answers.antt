use Rattle.std.proofs.Common.{◌∙◌, ap, arith, length, map, sym, subst}
use Rattle.std.proofs.lemmas.List.{length-map}
use Rattle.std.specs.Arc.{arc_value}
use Rattle.std.specs.List.{AllByRecursion}
use Rattle.lt_base.specs.Tables.{state_of}
use Rattle.lt_run_trials.specs.Fitting.{FitsBoth}
use Rattle.lt_run_trials.proofs.Fitting.{all_fit}
use Rattle.lt_run_trials.proofs.texts.programs_over.Goals as goal

pub all_routed-requires : goal.all_routed-requires
all_routed-requires c = rw c.deref.ensures.value (all_fit (state_of c.in_ok-base.base) (map arc_value c.loop-i.progs.items) c.in_ok-base.ensures c.loop-i.invariant.fit)

pub returns-clause-many : goal.returns-clause-many
returns-clause-many c =
    let same = ap length (c.in_ok-routed.ensures ∙ ap (map arc_value) c.deref.ensures.value) in
    let long = length-map c.in_ok-routed.routed.items arc_value in
    let old = length-map c.loop-i.progs.items arc_value in
    let many = c.loop-i.invariant.many in
    omega (arith, same, long, old, many)

pub returns-clause-fit : goal.returns-clause-fit
returns-clause-fit c = subst (AllByRecursion FitsBoth) (sym (c.in_ok-routed.ensures ∙ ap (map arc_value) c.deref.ensures.value)) c.loop-i.invariant.fit
