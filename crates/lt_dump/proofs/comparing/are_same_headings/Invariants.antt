use Rattle.std.proofs.Common.{◌≡◌, take}
use Rattle.lt_dump.proofs.comparing.are_same_headings.Given as goal

abbrev pub invariant-headings : goal.invariant-headings
invariant-headings l = take l.number l.one ≡ take l.number l.other
