-- Feeds, whatever was pushed.
use Rattle.std.specs.Prelude.{ℕ, List, ⊤}
use Rattle.lt_model.specs.declared.syntax.Item.{Item}
use Rattle.lt_model.specs.Limits.{IsWithinLimits}
use Rattle.lt_script.specs.declared.feed.Feed.{Feed}
use Rattle.lt_script.specs.declared.feed.FeedStep.{FeedStep}
use Rattle.lt_script.specs.declared.feed.FeedStep.TheVariants as steps
use Rattle.lt_script.specs.Feed.{HasFed}

-- some bytes were pushed, and some items answered
pub record IsFed (f : Feed) : Type 0 where
  pub bytes : List ℕ
  pub items : List Item
  pub fed : HasFed f bytes items

-- an item that is answered is within all limits
abbrev pub IsStepWithin : FeedStep → Type 0
IsStepWithin (steps.Item item) = IsWithinLimits item
IsStepWithin steps.End = ⊤
IsStepWithin (steps.Fault line code) = ⊤
IsStepWithin steps.More = ⊤
IsStepWithin steps.NoMemory = ⊤
