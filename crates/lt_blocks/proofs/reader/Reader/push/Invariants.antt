use Rattle.std.proofs.Common.{◌≡◌, ◌≤◌, ◌+◌, ◌++◌, ℕ, List, take}
use Rattle.lt_blocks.specs.declared.reader.Stage.TheVariants as stages
use Rattle.lt_blocks.specs.Reading.{HasRead}
use Rattle.lt_blocks.proofs.reader.Reader.push.Given as goal

-- what was read so far
abbrev pub invariant-bytes : goal.invariant-bytes
invariant-bytes l = record {
  stage : l.self.stage ≡ stages.Reading;
  number : l.self.number ≤ l.fn.self.number + l.i;
  read : (bytes : List ℕ) → HasRead l.fn.self bytes → HasRead l.self (bytes ++ take l.i l.piece);
}
