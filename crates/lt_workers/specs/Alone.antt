-- What one worker alone does before others are called.
use Rattle.std.specs.Prelude.{◌≡◌}
use Rattle.lt_net.specs.Net.{Net}
use Rattle.lt_net.specs.Alone.{IsUnclaimed}
use Rattle.lt_turn.specs.Journal.{GoesOn}
use Rattle.lt_workers.specs.Seen.{Stand, IsStanding}

-- it is over the same, no claim stands, and the journal goes on with entries of worker 0 alone
pub record WentAlone {B : Type 0} (net_of : B → Net) (old new : Stand B) : Type 0 where
  pub basis : new.basis ≡ old.basis
  pub free : IsUnclaimed new.state
  pub later : GoesOn 1 old.pairs new.pairs
  pub standing : IsStanding net_of old → IsStanding net_of new
