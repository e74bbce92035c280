use Rattle.std.proofs.Common.{◌≡◌, ◌+◌, ◌<◌, ◌≤◌, ◌++◌, ◌∷◌, [], ◌∙◌, arith, refl, length, ap, subst}
use Rattle.std.proofs.lemmas.List.{length-map}
use Rattle.lt_circuit.specs.Line.{line_state}
use Rattle.lt_circuit.specs.Row.{sizes}
use Rattle.lt_workers.specs.Given.{HasGiven}
use Rattle.lt_workers.proofs.Finals.{given_next, given_same, past_below}
use Rattle.lt_workers.proofs.giving.give_up_to.Goals as goal

pub root_effect-requires : goal.root_effect-requires
root_effect-requires g c =
    let same : length (sizes c.args.line.now.row) ≡ length c.args.line.now.row = length-map c.args.line.now.row _ in
    omega (arith, same, c.requires.end, c.loop-segment-test.true)

pub on_final-requires : goal.on_final-requires
on_final-requires g c = record { fits = c.loop-segment.invariant.2 _ (c.requires.base _ c.root_effect.ensures.fits) }

pub loop-segment-init : goal.loop-segment-init
loop-segment-init g c = (refl, (λ before h. h), (λ m fits. fits), (λ le. le))

pub loop-segment-preserved : goal.loop-segment-preserved
loop-segment-preserved g c =
    let inv = c.loop-segment.invariant in
    let k = c.loop-segment.segment in
    let s = line_state c.args.line.now in
    let more : k < length (sizes c.args.line.now.row) = omega (arith, c.requires.end, c.loop-segment-test.true) in
    let next : k + 1 ≤ c.args.end = omega (arith, c.loop-segment-test.true) in
    let is = c.in_ok-on_final.ensures.given ∙ ap (λ m. g.O.OnFinal.given c.loop-segment.on ++ m ∷ []) c.root_effect.ensures.value in (
      refl,
      (λ before h. given_next (sizes c.args.line.now.row) before (g.O.OnFinal.given c.loop-segment.on) (g.O.OnFinal.given c.on_final.new.self) k s
          (subst (λ n. HasGiven (sizes c.args.line.now.row) before (g.O.OnFinal.given c.loop-segment.on) n s) inv.0 (inv.1 before h)) more (past_below s (k + 1) c.args.end next c.requires.past) is),
      (λ m fits. c.on_final.ensures.base m (inv.2 m fits)),
      (λ le. next),
    )

pub returns-in_err-on_final-clause-given : goal.returns-in_err-on_final-clause-given
returns-in_err-on_final-clause-given g c = λ before h.
    given_same (sizes c.args.line.now.row) before (g.O.OnFinal.given c.loop-segment.on) (g.O.OnFinal.given c.on_final.new.self) c.loop-segment.count (line_state c.args.line.now) (c.loop-segment.invariant.1 before h) c.in_err-on_final.ensures.refused

pub returns-in_err-on_final-clause-base : goal.returns-in_err-on_final-clause-base
returns-in_err-on_final-clause-base g c = λ m fits. c.on_final.ensures.base m (c.loop-segment.invariant.2 m fits)

pub returns-clause-all : goal.returns-clause-all
returns-clause-all g c = λ le. let here = c.loop-segment.invariant.0 in let within = c.loop-segment.invariant.3 le in omega (arith, here, within, c.loop-segment-test.false)

pub returns-clause-given : goal.returns-clause-given
returns-clause-given g c = c.loop-segment.invariant.1

pub returns-clause-base : goal.returns-clause-base
returns-clause-base g c = c.loop-segment.invariant.2
