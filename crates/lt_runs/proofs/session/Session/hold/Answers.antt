use Rattle.std.proofs.Common.{◌∷◌, [], length, arith, sym, subst, ap}
use Rattle.std.proofs.lemmas.List.{length-append}
use Rattle.std.proofs.lemmas.Result.{err_from_is_err_and}
use Rattle.lt_world.specs.declared.tracing.Traced.{Traced}
use Rattle.lt_runs.specs.Waiting.{held}
use Rattle.lt_world.specs.World.{IsWorld, Shows}
use Rattle.lt_runs.proofs.Held.{answered_ran, held_more, held_within, ready_ran, refused, waits_more}
use Rattle.lt_runs.proofs.session.Session.hold.Goals as goal

pub returns-in_err-keep-clause-answers : goal.returns-in_err-keep-clause-answers
returns-in_err-keep-clause-answers g c = λ m s.
    let p = err_from_is_err_and c.from_residual.result c.from_residual.ensures.1 in
    refused c.from_residual.result p.0 c.args.options m _ _ _ _ _ p.1 p.2

pub returns-then-len-options-clause-answers : goal.returns-then-len-options-clause-answers
returns-then-len-options-clause-answers g c = λ m s.
    waits_more _ c.args.options m c.args.self.now c.keep.new.self c.args.programs _ _ s c.in_ok-keep.ensures.waiting c.keep.ensures.made

pub run_waiting-requires-clause-world : goal.run_waiting-requires-clause-world
run_waiting-requires-clause-world g c = λ lifetimes outlive. subst (λ (t : Traced). IsWorld t.world) (sym c.keep.ensures.made) c.requires.ready.world

pub run_waiting-requires-clause-within : goal.run_waiting-requires-clause-within
run_waiting-requires-clause-within g c = λ lifetimes outlive. held_within c.args.self.now c.keep.new.self c.args.programs c.requires.ready.within c.requires.within c.in_ok-keep.ensures.waiting

pub run_waiting-requires-clause-short : goal.run_waiting-requires-clause-short
run_waiting-requires-clause-short g c =
    omega (arith, c.requires.pipeline, c.requires.ready.few, ap length c.in_ok-keep.ensures.waiting, length-append c.args.self.now.waiting.items (c.args.programs ∷ []))

pub returns-clause-ready : goal.returns-clause-ready
returns-clause-ready g c =
    ready_ran c.run_waiting.result c.args.options c.keep.new.self.made.world (held c.keep.new.self) c.run_waiting.new.self c.requires.pipeline.0 (subst (λ (t : Traced). IsWorld t.world) (sym c.keep.ensures.made) c.requires.ready.world) c.run_waiting.ensures.world c.run_waiting.ensures.waiting

pub returns-clause-answers : goal.returns-clause-answers
returns-clause-answers g c = λ m s.
    let full = c.keep.new.self in
    answered_ran c.run_waiting.result c.args.options m _ c.args.self.now full c.run_waiting.new.self _ _ _ _ c.requires.untraced (held_more c.args.self.now full c.args.programs c.in_ok-keep.ensures.waiting) c.keep.ensures.made s
    (c.run_waiting.ensures.text m (subst (λ (t : Traced). Shows t.world m) (sym c.keep.ensures.made) s)) c.run_waiting.ensures.world c.run_waiting.ensures.waiting c.run_waiting.ensures.blocks
