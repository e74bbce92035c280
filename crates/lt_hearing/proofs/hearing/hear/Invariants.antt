use Rattle.std.specs.Prelude.{◌≡◌, ℕ, List, false}
use Rattle.lt_model.specs.declared.syntax.Item.{Item}
use Rattle.lt_model.specs.Report as model
use Rattle.lt_script.specs.Feed.{HasFed}
use Rattle.lt_world.specs.World.{IsWorld, Shows}
use Rattle.lt_hearing.specs.Answered.{Heard}
use Rattle.lt_hearing.proofs.hearing.hear.Given as goal

abbrev pub invariant-steps : goal.invariant-steps
invariant-steps g l =
    IsWorld l.world
    × (l.settings.talks ≡ false → l.settings.timed ≡ false → (bytes : List ℕ) (items : List Item) (m : model.World) → HasFed l.fn.script.fed bytes items → Shows l.fn.world m
    → Heard m bytes items l.world l.script.fed (g.K.Sink.holds l.fn.sink) (g.K.Sink.holds l.sink))
