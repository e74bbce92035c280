-- Which indexes the plans of a program's statements go through.
use Rattle.std.specs.Prelude.{◌≡◌, Bool, ◌&&◌, ◌==◌, if◌then◌else◌, List, [], ◌∷◌, ◌++◌, map, length, ◌⊎◌}
use Rattle.std.specs.List.{AllByRecursion, list_any, flat_map}
use Rattle.std.specs.Cmp.Lexicographic.{pointwise}
use Rattle.lt_model.specs.declared.normal.Atom.{Atom}
use Rattle.lt_model.specs.declared.normal.Body.{Body}
use Rattle.lt_query.specs.declared.plans.Guide.{Guide}
use Rattle.lt_query.specs.declared.plans.Plan.{Plan}
use Rattle.lt_model.specs.declared.normal.Stmt.{Stmt}
use Rattle.lt_model.specs.declared.normal.Stmt.TheVariants.{Insert, Delete, Replace, Require, Print}
use Rattle.lt_query.specs.declared.plans.IndexName.{IndexName}
use Rattle.lt_face.specs.Lists.{IsIn}
use Rattle.lt_query.specs.Lists.{below}
use Rattle.lt_query.specs.Plan.{IsPlanOf}
use Rattle.lt_query.specs.Stated.{stated_plan, IsStatedPlan}

abbrev pub body_of : Stmt → Body
body_of (Insert head keys body) = body
body_of (Delete head body) = body
body_of (Replace gone come keys body) = body
body_of (Require some body) = body
body_of (Print terms kinds body) = body

-- the index that an atom is gone through
abbrev pub index_of : Guide → IndexName
index_of guide = record { relation = guide.relation; columns = guide.columns }

-- a guide of the plan goes through this index
abbrev pub IsWalked : Plan → IndexName → Type 0
IsWalked plan name = (guide : Guide) × IsIn guide plan.guides × (index_of guide ≡ name)

-- the first index of an atom's relation: its columns in their own order
abbrev pub first_index : Atom → IndexName
first_index atom = record { relation = atom.relation; columns = below (length atom.terms) }

-- a negated atom is looked up in this index
abbrev pub IsLookedUp : Body → IndexName → Type 0
IsLookedUp body name = (atom : Atom) × IsIn atom body.absents × (first_index atom ≡ name)

-- the plan of one of the statements goes through this index, or one of its negated atoms is looked up there
abbrev pub IsNeeded : List Stmt → IndexName → Type 0
IsNeeded program name =
    (stmt : Stmt) × IsIn stmt program
    × (((plan : Plan) × IsPlanOf (body_of stmt) plan × IsStatedPlan (body_of stmt) plan × IsWalked plan name) ⊎ IsLookedUp (body_of stmt) name)

-- each guide of the plan goes through one of these indexes
abbrev pub AreNamed : List IndexName → Plan → Type 0
AreNamed names plan = AllByRecursion (λ (guide : Guide). IsIn (index_of guide) names) plan.guides

-- so does each guide of the plan of each of the statements, in the stated order
abbrev pub HaveNames : List IndexName → List Stmt → Type 0
HaveNames names program = (stmt : Stmt) → IsIn stmt program → (plan : Plan) → IsPlanOf (body_of stmt) plan → IsStatedPlan (body_of stmt) plan → AreNamed names plan

-- the first index of each negated atom is one of these indexes
abbrev pub HaveFirsts : List IndexName → Body → Type 0
HaveFirsts names body = AllByRecursion (λ (atom : Atom). IsIn (first_index atom) names) body.absents

-- ---- the indexes, computed

abbrev pub same_name : IndexName → IndexName → Bool
same_name name other = other.relation == name.relation && pointwise ◌==◌ other.columns name.columns

abbrev pub has_name : List IndexName → IndexName → Bool
has_name names name = list_any (same_name name) names

-- with one more, if it isn't there
abbrev pub with_name : List IndexName → IndexName → List IndexName
with_name names name = if has_name names name then names else names ++ name ∷ []

abbrev pub with_names : List IndexName → List IndexName → List IndexName
with_names names [] = names
with_names names (name ∷ more) = with_names (with_name names name) more

-- the indexes that the plans of the statements go through, in text order
abbrev pub names_of : List Stmt → List IndexName
names_of stmts = flat_map (λ stmt. map index_of (stated_plan (body_of stmt)).guides) stmts

-- the first indexes of their negated atoms, in text order
abbrev pub firsts_of : List Stmt → List IndexName
firsts_of stmts = flat_map (λ stmt. map first_index (body_of stmt).absents) stmts
