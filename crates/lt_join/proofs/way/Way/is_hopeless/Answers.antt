use Rattle.std.specs.Prelude.{◌≡◌}
use Rattle.std.proofs.Common.{ap, ◌∙◌}
use Rattle.lt_join.specs.Way.{WayView}
use Rattle.lt_join.proofs.Bounding.{way_hopeless}
use Rattle.lt_join.proofs.way.Way.is_hopeless.Goals as goal

pub returns-then-is_tested : goal.returns-then-is_tested
returns-then-is_tested g c = λ fails.
    let levels : c.as_slice-levels.result.now ≡ c.args.self.now.plan.levels = c.as_slice-levels.ensures ∙ ap (λ (w : WayView). w.plan.levels) c.self.view_is in
    let tests : c.as_slice-tests.result.now ≡ c.args.self.now.body.tests = c.as_slice-tests.ensures ∙ ap (λ (w : WayView). w.body.tests) c.self.view_is in
    way_hopeless c.args.self.now c.as_slice-levels.result.now c.as_slice-tests.result.now c.args.keys.now levels tests (c.one_fails.ensures fails)
