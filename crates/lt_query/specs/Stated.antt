-- The plan in the stated order.
use Rattle.std.specs.Prelude.{◌≡◌, ℕ, ◌+◌, ◌<◌, ◌==◌, if◌then◌else◌, List, [], ◌∷◌, map, filter, length, slice_index, ⊤}
use Rattle.std.specs.List.{flat_map}
use Rattle.lt_model.specs.declared.normal.Atom.{Atom}
use Rattle.lt_model.specs.declared.normal.Body.{Body}
use Rattle.lt_query.specs.declared.plans.Guide.{Guide}
use Rattle.lt_query.specs.declared.plans.Plan.{Plan}
use Rattle.lt_query.specs.declared.places.Place.{Place}
use Rattle.lt_query.specs.LevelsOf.{levels_from}
use Rattle.lt_query.specs.Lists.{below}
use Rattle.lt_query.specs.Order.{places_of, origin, stated_order, stated_terms, terms_at, IsStatedOrder}

-- where x stands first in the list, counted from l
abbrev pub index_from : ℕ → List ℕ → ℕ → ℕ
index_from l [] x = l
index_from l (y ∷ ys) x = if y == x then l else index_from (l + 1) ys x

-- the levels of the columns of an atom whose first place is `from`
abbrev pub column_levels : List Place → List ℕ → ℕ → ℕ → List ℕ
column_levels places order from width = map (λ c. index_from 0 order (origin places (from + c))) (below width)

-- the columns at a level
abbrev pub columns_at : List ℕ → ℕ → List ℕ
columns_at levels l = filter (λ c. slice_index levels c == l) (below (length levels))

-- the columns in the order of their levels, of n levels
abbrev pub sorted_columns : List ℕ → ℕ → List ℕ
sorted_columns levels n = flat_map (columns_at levels) (below n)

abbrev pub guide_of : List Place → List ℕ → ℕ → Atom → Guide
guide_of places order from atom =
    let levels = column_levels places order from (length atom.terms) in
    record { relation = atom.relation; places = levels; columns = sorted_columns levels (length order) }

abbrev pub guides_from : List Place → List ℕ → ℕ → List Atom → List Guide
guides_from places order from [] = []
guides_from places order from (atom ∷ atoms) = guide_of places order from atom ∷ guides_from places order (from + length atom.terms) atoms

abbrev pub stated_guides : Body → List Guide
stated_guides body = guides_from (places_of body.atoms) (stated_order body.tests (places_of body.atoms)) 0 body.atoms

abbrev pub stated_plan : Body → Plan
stated_plan body = record { levels = levels_from body.tests [] (stated_terms body); guides = stated_guides body }

-- each column of an atom whose first place is `from` is at the level where its variable begins
abbrev pub IsStatedGuide : List Place → List ℕ → ℕ → Atom → Guide → Type 0
IsStatedGuide places order from atom guide =
    (c : ℕ) → c < length atom.terms → (slice_index guide.places c < length order) × (slice_index order (slice_index guide.places c) ≡ origin places (from + c))

abbrev pub AreStatedGuides : List Place → List ℕ → ℕ → List Atom → List Guide → Type 0
AreStatedGuides places order from [] [] = ⊤
AreStatedGuides places order from [] (guide ∷ guides) = ⊥
AreStatedGuides places order from (atom ∷ atoms) [] = ⊥
AreStatedGuides places order from (atom ∷ atoms) (guide ∷ guides) =
    IsStatedGuide places order from atom guide × AreStatedGuides places order (from + length atom.terms) atoms guides

-- the levels are the body's variables in the stated order, each with its pins and its tie, and the atoms' columns are at
-- the levels of their variables
pub record IsStatedPlan (body : Body) (plan : Plan) : Type 0 where
  pub order : List ℕ
  pub in_order : IsStatedOrder body.tests (places_of body.atoms) order
  pub levels : plan.levels ≡ levels_from body.tests [] (terms_at (places_of body.atoms) order)
  pub guides : AreStatedGuides (places_of body.atoms) order 0 body.atoms plan.guides
