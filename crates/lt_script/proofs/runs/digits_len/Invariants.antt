use Rattle.std.proofs.Common.{◌≡◌, ◌+◌, drop}
use Rattle.std.specs.List.{prefix_len}
use Rattle.lt_model.specs.Tokens.{is_digit}
use Rattle.lt_script.proofs.runs.digits_len.Given as goal

abbrev pub invariant-bytes : goal.invariant-bytes
invariant-bytes l = l.i + prefix_len is_digit (drop l.i l.bytes) ≡ prefix_len is_digit l.bytes
