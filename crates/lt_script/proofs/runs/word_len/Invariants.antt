use Rattle.std.proofs.Common.{◌≡◌, ◌+◌, drop}
use Rattle.std.specs.List.{prefix_len}
use Rattle.lt_model.specs.Tokens.{in_word}
use Rattle.lt_script.proofs.runs.word_len.Given as goal

abbrev pub invariant-bytes : goal.invariant-bytes
invariant-bytes l = l.i + prefix_len in_word (drop l.i l.bytes) ≡ prefix_len in_word l.bytes
