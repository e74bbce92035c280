use Rattle.std.proofs.Common.{◌≡◌, drop}
use Rattle.std.specs.List.{list_any}
use Rattle.lt_model.specs.Check.{is_misfit}
use Rattle.lt_check.specs.Seen.{seen}
use Rattle.lt_check.proofs.columns.has_misfit.Given as goal

abbrev pub invariant-loop-i : goal.invariant-loop-i
invariant-loop-i l = list_any (is_misfit l.schema) (seen (drop l.i l.atoms)) ≡ list_any (is_misfit l.schema) (seen l.atoms)
