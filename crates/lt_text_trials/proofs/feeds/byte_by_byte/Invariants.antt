use Rattle.std.proofs.Common.{◌≡◌, false}
use Rattle.lt_text_trials.proofs.feeds.byte_by_byte.Given as goal

-- the end wasn't said
abbrev pub invariant-bytes : goal.invariant-bytes
invariant-bytes l = l.feed.ended ≡ false
