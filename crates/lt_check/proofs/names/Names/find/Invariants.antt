use Rattle.std.proofs.Common.{◌≡◌, ◌+◌, drop}
use Rattle.std.specs.List.{position_or_len}
use Rattle.std.specs.Str.{bytes_eq}
use Rattle.lt_check.specs.Seen.{seen}
use Rattle.lt_check.proofs.names.Names.find.Given as goal

-- none before is this name
abbrev pub invariant-loop-place : goal.invariant-loop-place
invariant-loop-place l = position_or_len (bytes_eq l.name) (seen (drop l.place l.known-items)) + l.place ≡ position_or_len (bytes_eq l.name) (seen l.known-items)
