use Rattle.std.proofs.Common.{◌≡◌, ◌+◌, ◌==◌, drop}
use Rattle.std.specs.Prelude.{not}
use Rattle.std.specs.List.{prefix_len}
use Rattle.lt_blocks.proofs.words.word_len.Given as goal

abbrev pub invariant-bytes : goal.invariant-bytes
invariant-bytes l = l.i + prefix_len (λ c. not (c == 32)) (drop l.i l.line) ≡ prefix_len (λ c. not (c == 32)) l.line
