-- Constants.
use Rattle.std.specs.Prelude.{◌≡◌, List, [], filter_map}
use Rattle.std.specs.List.{AllByRecursion}
use Rattle.lt_model.specs.declared.syntax.Term.{Term}
use Rattle.lt_model.specs.Limits.{HasCell}
use Rattle.lt_model.specs.Variables.{variable_of}

-- terms without a variable
pub record AreConstants (terms : List Term) : Type 0 where
  pub cells : AllByRecursion HasCell terms
  pub plain : filter_map variable_of terms ≡ []
