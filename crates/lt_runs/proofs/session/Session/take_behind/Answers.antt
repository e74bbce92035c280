use Rattle.std.proofs.Common.{◌∷◌, []}
use Rattle.std.proofs.lemmas.Result.{err_from_is_err_and}
use Rattle.lt_runs.specs.Waiting.{held}
use Rattle.lt_runs.proofs.Held.{answered_behind, answered_front, ready_taken}
use Rattle.lt_runs.proofs.session.Session.take_behind.Goals as goal

pub returns-in_err-run_waiting-clause-answers : goal.returns-in_err-run_waiting-clause-answers
returns-in_err-run_waiting-clause-answers g c = λ m s.
    let p = err_from_is_err_and c.from_residual.result c.from_residual.ensures.1 in
    answered_front c.from_residual.result p.0 _ c.args.options m (held c.args.self.now) (c.args.item ∷ []) _ _ _ _ _ _ p.1 p.2 (c.in_err-run_waiting.ensures.text m s)

pub returns-clause-answers : goal.returns-clause-answers
returns-clause-answers g c = λ m s.
    answered_behind _ c.take.result c.args.options m c.args.item c.args.self.now c.run_waiting.new.self _ _ _ _ _ _ _ c.requires.untraced s (c.in_ok-run_waiting.ensures.text m s) c.in_ok-run_waiting.ensures.world c.in_ok-run_waiting.ensures.blocks c.in_ok-run_waiting.ensures.waiting
    (λ n shows. c.take.ensures.text n shows) c.take.ensures.world c.take.ensures.block

pub returns-clause-ready : goal.returns-clause-ready
returns-clause-ready g c =
    let world = c.requires.ready.world in
    ready_taken c.take.result c.args.options c.run_waiting.new.self.made.world c.args.item _ c.requires.pipeline.0 (record { model = _; shows = c.in_ok-run_waiting.ensures.world c.args.options.marks world.model world.shows }) c.take.ensures.world c.in_ok-run_waiting.ensures.waiting
