use Rattle.std.proofs.Common.{◌≡◌, ◌+◌, drop}
use Rattle.std.specs.List.{position_or_len}
use Rattle.std.specs.Str.{bytes_eq}
use Rattle.lt_check.proofs.schema.Schema.find.Given as goal

-- none before stands under this name
abbrev pub invariant-loop-number : goal.invariant-loop-number
invariant-loop-number l = position_or_len (λ heading. bytes_eq heading.0 l.name) (drop l.number l.self) + l.number ≡ position_or_len (λ heading. bytes_eq heading.0 l.name) l.self
