use Rattle.std.proofs.Common.{◌≡◌, false}
use Rattle.lt_text_trials.proofs.feeds.first_other.Given as goal

-- the end wasn't said
abbrev pub invariant-pieces : goal.invariant-pieces
invariant-pieces l = l.feed.ended ≡ false
