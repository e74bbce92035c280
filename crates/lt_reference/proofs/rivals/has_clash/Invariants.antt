use Rattle.std.proofs.Common.{◌≡◌, false, take}
use Rattle.std.specs.List.{list_any}
use Rattle.lt_model.specs.Effect.{contend}
use Rattle.lt_reference.proofs.rivals.has_clash.Given as goal

abbrev pub invariant-loop-row : goal.invariant-loop-row
invariant-loop-row l = list_any (λ row. list_any (contend l.keys row) l.rows) (take l.row-index l.rows) ≡ false
