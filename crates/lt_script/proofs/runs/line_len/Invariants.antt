use Rattle.std.proofs.Common.{◌≡◌, ◌+◌, ◌==◌, drop}
use Rattle.std.specs.Prelude.{not}
use Rattle.std.specs.List.{prefix_len}
use Rattle.lt_script.proofs.runs.line_len.Given as goal

abbrev pub invariant-bytes : goal.invariant-bytes
invariant-bytes l = l.i + prefix_len (λ c. not (c == 10)) (drop l.i l.bytes) ≡ prefix_len (λ c. not (c == 10)) l.bytes
