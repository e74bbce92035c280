use Rattle.std.proofs.Common.{◌≡◌, take, drop}
use Rattle.std.specs.List.{list_any}
use Rattle.lt_model.specs.Check.{is_unknown}
use Rattle.lt_check.specs.Seen.{seen, HasColumns}
use Rattle.lt_check.proofs.columns.list_columns.Given as goal

abbrev pub invariant-loop-atom : goal.invariant-loop-atom
invariant-loop-atom l =
    (list_any (is_unknown l.schema) (seen (drop l.atom-index l.atoms)) ≡ list_any (is_unknown l.schema) (seen l.atoms))
    × HasColumns l.schema (seen (take l.atom-index l.atoms)) (seen l.columns.items)
