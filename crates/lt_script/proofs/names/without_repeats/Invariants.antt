use Rattle.std.proofs.Common.{◌≡◌, [], drop}
use Rattle.std.specs.Prelude.{fold}
use Rattle.lt_model.specs.Variables.{with_name}
use Rattle.lt_script.specs.Parsed.{texts}
use Rattle.lt_script.proofs.names.without_repeats.Given as goal

-- the names that are left add to those that were kept what all add to none
abbrev pub invariant-names : goal.invariant-names
invariant-names l = fold with_name (texts l.once.items) (texts (drop l.name-index l.names)) ≡ fold with_name [] (texts l.names)
