-- Wherever a script leads, a relation has one row for a key at most.
use Rattle.std.specs.Prelude.{Bool, List, fold}
use Rattle.std.specs.List.{AllByRecursion}
use Rattle.lt_model.specs.declared.syntax.Item.{Item}
use Rattle.lt_model.specs.Keyed.{keys_in, IsKeyed}
use Rattle.lt_model.specs.Limits.{IsWithinLimits}
use Rattle.lt_model.specs.Report.{World, opening, step}

-- each relation has one row for a key at most, now and at each version
pub record HasOneForEachKey (m : World) : Type 0 where
  pub now : IsKeyed (keys_in m.schema) m.state
  pub versions : AllByRecursion (IsKeyed (keys_in m.schema)) m.versions

-- so it is behind the items of every script
abbrev pub ScriptsStayKeyed : Type 0
ScriptsStayKeyed = (marks : Bool) (items : List Item) → AllByRecursion IsWithinLimits items → HasOneForEachKey (fold (step marks) opening items)
