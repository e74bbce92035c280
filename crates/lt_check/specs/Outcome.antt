-- What a check answers.
use Rattle.std.specs.Prelude.{◌≡◌, ℕ, Option, Some}
use Rattle.lt_model.specs.Check.{Checked, Bad}
use Rattle.lt_check.specs.declared.check.CheckFault.{CheckFault}
use Rattle.lt_check.specs.declared.check.CheckFault.TheVariants as faults

-- the statement of this number has this first code, unless memory ran out
abbrev pub IsCode : Option ℕ → ℕ → CheckFault → Type 0
IsCode first number (faults.Bad code statement) = (first ≡ Some code) × (statement ≡ number)
IsCode first number faults.NoMemory = Unit {0}

-- the check gives this code and this statement, unless memory ran out
abbrev pub IsFault : Checked → CheckFault → Type 0
IsFault answer (faults.Bad code statement) = answer ≡ Bad code statement
IsFault answer faults.NoMemory = Unit {0}
