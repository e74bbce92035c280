use Rattle.std.proofs.Common.{◌≡◌}
use Rattle.lt_script.proofs.forms.Forms.take_by.Given as goal

abbrev pub invariant-loop-place : goal.invariant-loop-place
invariant-loop-place l = l.statements.items ≡ l.fn.statements.items
