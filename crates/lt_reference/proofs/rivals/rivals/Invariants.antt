use Rattle.std.proofs.Common.{◌≡◌, take}
use Rattle.std.specs.Prelude.{filter, flat_map}
use Rattle.lt_reference.specs.Rivals.{is_rival}
use Rattle.lt_reference.proofs.rivals.rivals.Given as goal

abbrev pub invariant-loop-row : goal.invariant-loop-row
invariant-loop-row l = l.found.items ≡ flat_map (λ row. filter (is_rival l.keys row) l.there) (take l.row-index l.rows)
