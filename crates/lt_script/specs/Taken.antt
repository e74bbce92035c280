-- What is found where an item may begin.
use Rattle.std.specs.Prelude.{◌≡◌, ◌≢◌, ℕ, List, [], ◌∷◌, ◌++◌}
use Rattle.lt_model.specs.declared.syntax.Item.{Item}
use Rattle.lt_model.specs.Tokens.{Shape, Token, Ending, Read, finished, broken}
use Rattle.lt_model.specs.Grammar.{legal, SpellsItem, Derives}
use Rattle.lt_model.specs.Faults.{Faulty}
use Rattle.lt_model.specs.Limits.{IsWithinLimits}
use Rattle.lt_model.specs.Script as script
use Rattle.lt_reading.specs.Faults.{code_of}
use Rattle.lt_script.specs.declared.standing.Standing.{Standing}
use Rattle.lt_script.specs.declared.standing.Standing.TheVariants as standing
use Rattle.lt_script.specs.declared.refusal.Refusal.{Refusal}
use Rattle.lt_script.specs.declared.refusal.Refusal.TheVariants.{NoMemory, Fault}
use Rattle.lt_script.specs.Parsed.{cause_of}
use Rattle.lt_script.specs.declared.step.Step.{Step}
use Rattle.lt_script.specs.declared.step.Step.TheVariants as steps
use Rattle.lt_script.specs.Ahead.{Place, ahead, shapes}

-- Whatever items stand before them, these tokens lie inside one item more, and none of all has a fault.
abbrev pub Begins : List Shape → Type 0
Begins left = (done : List Shape) (items : List Item) → Derives legal done items → script.Stops (done ++ left) items left

-- Whatever items stand before these tokens, this one behind them has the fault.
abbrev pub HasFault : List Shape → Shape → ℕ → Type 0
HasFault left t code = (done : List Shape) (items : List Item) → Derives legal done items → Faulty (done ++ left) t code

-- The fault behind these tokens: at the next token; at the end, which comes too early; or inside a broken token.
pub data HaltsAt (left : List Shape) (next : Read) : ℕ → ℕ → Type 0 where
  at_token : (t : Token) (others : List Token) (ending : Ending) (code : ℕ) → next ≡ (t ∷ others, ending) → HasFault left t.shape code → HaltsAt left next t.line code
  cut : (line : ℕ) → next ≡ ([], finished line) → left ≢ [] → HaltsAt left next line 7
  torn : (line code : ℕ) → next ≡ ([], broken line code) → HaltsAt left next line code

-- one item, between two places
pub record Takes (old new : Place) (item : Item) : Type 0 where
  pub same : new.source ≡ old.source
  pub tokens : List Shape
  pub parts : shapes old ≡ tokens ++ shapes new
  pub spelled : SpellsItem legal item tokens
  pub within : IsWithinLimits item

-- from one place to a fault
pub record Halts (old new : Place) (line code : ℕ) : Type 0 where
  pub same : new.source ≡ old.source
  pub left : List Shape
  pub parts : shapes old ≡ left ++ shapes new
  pub begins : Begins left
  pub at : HaltsAt left (ahead new) line code

-- what was found from a place on, up to another
abbrev pub IsTaken : Place → Place → Step → Type 0
IsTaken old new (steps.Item item) = Takes old new item
IsTaken old new steps.End = (line : ℕ) × (ahead old ≡ ([], finished line)) × (new ≡ old)
IsTaken old new (steps.Fault line code) = Halts old new line code
IsTaken old new steps.NoMemory = Unit {0}

-- the fault at a token with this code, or the one that lies ahead of it: the end comes too early, or a token is broken
abbrev pub fault_of : Standing → ℕ → Step
fault_of (standing.Token line) code = steps.Fault line code
fault_of (standing.End line) code = steps.Fault line 7
fault_of (standing.Broken line inner) code = steps.Fault line inner

-- what is answered where an item was not read, and this stands next
abbrev pub IsRefused : Refusal → Standing → Step → Type 0
IsRefused NoMemory s step = step ≡ steps.NoMemory
IsRefused (Fault cause) s step = step ≡ fault_of s (code_of (cause_of cause))
