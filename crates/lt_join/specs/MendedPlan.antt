-- The plan of a body with the term of its first level pinned.
use Rattle.std.specs.Prelude.{◌≡◌, ℕ, Bool, false, ◌&&◌, ◌==◌, if◌then◌else◌, List, [], ◌∷◌, ◌⊎◌}
use Rattle.std.specs.List.{list_all, sum_by}
use Rattle.lt_face.specs.Lists.{AnyByRecursion}
use Rattle.lt_face.specs.State.{State}
use Rattle.lt_model.specs.declared.normal.Term.{Term}
use Rattle.lt_model.specs.declared.normal.Term.TheVariants.{Var, Cell}
use Rattle.lt_model.specs.declared.normal.Body.{Body}
use Rattle.lt_model.specs.Cells.{is_cell}
use Rattle.lt_query.specs.declared.plans.Level.{Level}
use Rattle.lt_query.specs.declared.plans.Plan.{Plan}
use Rattle.lt_join.specs.Cost.{bound}

-- the first level has the key as its one pin
abbrev pub pinned_levels : ℕ → List Level → List Level
pinned_levels key [] = []
pinned_levels key (level ∷ levels) = record level { pins = key ∷ [] } ∷ levels

abbrev pub pinned_plan : ℕ → Plan → Plan
pinned_plan key plan = record plan { levels = pinned_levels key plan.levels }

-- a term may be pinned to the key: a constant to itself alone
abbrev pub MayPin : Term → ℕ → Type 0
MayPin (Cell c) key = c ≡ key
MayPin (Var v) key = Unit {0}

-- the key is no cell, or a pin of the level is another
abbrev pub IsForbidden : Level → ℕ → Type 0
IsForbidden level key = (is_cell key ≡ false) ⊎ AnyByRecursion (λ pin. pin ≡ key → ⊥) level.pins

-- whether the level admits the key: it is a cell, and each pin is the key
abbrev pub admits : Level → ℕ → Bool
admits level key = is_cell key && list_all (λ pin. pin == key) level.pins

-- whether the first level does
abbrev pub first_admits : List Level → ℕ → Bool
first_admits [] key = false
first_admits (level ∷ levels) key = admits level key

-- the moves that the slice of the key may take: none where the first level doesn't admit it, and where it does, all pins of that
-- level are the key, so one stands for all
abbrev pub slice_cost : ℕ → Body → Plan → State → ℕ
slice_cost key body plan state = if first_admits plan.levels key then bound body (pinned_plan key plan) state else 0

-- the moves that the slices of the keys may take
abbrev pub mending_cost : List ℕ → Body → Plan → State → ℕ
mending_cost keys body plan state = sum_by (λ key. slice_cost key body plan state) keys
