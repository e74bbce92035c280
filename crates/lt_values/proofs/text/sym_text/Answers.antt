use Rattle.std.proofs.Common.{◌∙◌, ap, drop, List, ℕ, ◌==◌}
use Rattle.std.specs.Prelude.{take_while, not}
use Rattle.lt_values.proofs.text.sym_text.Goals as goal

pub returns : goal.returns
returns c = c.new.ensures ∙ c.before_zero.ensures ∙ ap (λ (s : List ℕ). take_while (λ b. not (b == 0)) s) (c.split_at.ensures.back ∙ ap (λ (s : List ℕ). drop 1 s) c.to_be_bytes-digits.ensures)
