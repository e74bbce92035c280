use Rattle.std.proofs.Common.{◌≡◌, drop}
use Rattle.std.specs.List.{list_any}
use Rattle.std.specs.Str.{bytes_eq}
use Rattle.lt_script.specs.Parsed.{texts}
use Rattle.lt_script.proofs.among.contains.Given as goal

abbrev pub invariant-loop-name : goal.invariant-loop-name
invariant-loop-name l = list_any (bytes_eq l.text) (texts (drop l.name-index l.names)) ≡ list_any (bytes_eq l.text) (texts l.names)
