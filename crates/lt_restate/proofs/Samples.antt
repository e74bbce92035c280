-- `print (x, y) where e(x, y);` on e {(1, 2), (3, 4)}, and then with (5, 6).
use Rattle.std.specs.Prelude.{◌≡◌, ℕ, ◌+◌, true, nat_lt, if◌then◌else◌, List, [], ◌∷◌, length, Some}
use Rattle.std.proofs.Common.{refl, ap, ◌∙◌}
use Rattle.lt_face.specs.State.{Row, State}
use Rattle.lt_model.specs.declared.kind.Kind.{Kind}
use Rattle.lt_model.specs.declared.kind.Kind.TheVariants.{Int}
use Rattle.lt_model.specs.declared.normal.Term.{Term}
use Rattle.lt_model.specs.declared.normal.Body.{Body}
use Rattle.lt_model.specs.declared.normal.Stmt.{Stmt}
use Rattle.lt_model.specs.declared.normal.Stmt.TheVariants.{Print}
use Rattle.lt_model.specs.declared.normal.Term.TheVariants.{Var}
use Rattle.lt_query.specs.declared.plans.Plan.{Plan}
use Rattle.lt_query.specs.Needs.{body_of}
use Rattle.lt_query.specs.Stated.{stated_plan}
use Rattle.lt_join.specs.MendedPlan.{mending_cost}
use Rattle.lt_sense.specs.declared.covering.KeptGap.{KeptGap}
use Rattle.lt_join.specs.Slices.{Slice}
use Rattle.lt_sense.specs.Cut.{cut}
use Rattle.lt_program.specs.declared.part.Found.TheVariants.{Rows}
use Rattle.lt_program.specs.Part.{Part}
use Rattle.lt_program.specs.Tally.{is_sliced, outcome_on, sense_of, cost_on, mending_on}
use Rattle.lt_restate.specs.Changes.{is_disturbed, touched_on}
use Rattle.lt_restate.specs.Touches.{cost_after}

abbrev pair : ℕ → ℕ → Row
pair x y = x ∷ y ∷ []

abbrev body : Body
body = record { atoms = record { relation = 0; terms = Var 0 ∷ Var 1 ∷ [] } ∷ []; absents = []; tests = []; vars = 2 }

abbrev printed : Stmt
printed = Print (Var 0 ∷ Var 1 ∷ []) (Int ∷ Int ∷ []) body

abbrev first : State
first = record { width = 2; rows = pair 1 2 ∷ pair 3 4 ∷ [] } ∷ []

abbrev second : State
second = record { width = 2; rows = pair 1 2 ∷ pair 3 4 ∷ pair 5 6 ∷ [] } ∷ []

abbrev gap : Row → ℕ → ℕ → KeptGap
gap prefix lo hi = record { relation = 0; columns = 0 ∷ 1 ∷ []; prefix = prefix; lo = lo; hi = hi }

-- the slice of a key with one row; 9 stands for the end
abbrev slice : ℕ → ℕ → Slice
slice x y = record {
  key = x;
  rows = pair x y ∷ [];
  sense = record { gaps = gap (x ∷ []) 0 y ∷ gap (x ∷ []) (y + 1) 9 ∷ []; hits = record { relation = 0; row = pair x y } ∷ [] };
}

abbrev part : Part
part = record {
  outcome = Rows (pair 1 2 ∷ pair 3 4 ∷ []);
  sense = record { gaps = gap [] 0 1 ∷ gap [] 2 3 ∷ gap [] 4 9 ∷ []; hits = [] };
  slices = slice 1 2 ∷ slice 3 4 ∷ [];
  by_key = true;
}

-- x comes first, then y, along e itself
abbrev plan : Plan
plan = record {
  levels = record { term = Var 0; pins = []; ties = [] } ∷ record { term = Var 1; pins = []; ties = [] } ∷ [];
  guides = record { relation = 0; places = 0 ∷ 1 ∷ []; columns = 0 ∷ 1 ∷ [] } ∷ [];
}

planned : stated_plan body ≡ plan
planned = refl

-- a print whose plan has a level is kept by slices
with_level : (terms : List Term) (kinds : List Kind) (where_so : Body) (p : Plan) → stated_plan where_so ≡ p → nat_lt 0 (length p.levels) ≡ true → is_sliced (Print terms kinds where_so) ≡ true
with_level terms kinds where_so p is some = ap (λ (x : Plan). nat_lt 0 (length x.levels)) is ∙ some

answered : outcome_on printed first ≡ part.outcome
answered = refl

-- the change is covered, so there is a touch
covered : is_disturbed (sense_of part) first second ≡ true
covered = refl

touched : touched_on part first second ≡ 5 ∷ []
touched = refl

-- two iterators at the first level, one at the second, and one key at each: 2 * (1 + 2) + 1 * (1 + 2)
mended : mending_cost (5 ∷ []) body plan second ≡ 9
mended = refl

-- the moves of a statement kept by slices, by its touched keys and its plan
by_keys : (was : Part) (stmt : Stmt) (s t : State) (keys : List ℕ) (p : Plan) (n : ℕ) → is_sliced stmt ≡ true → touched_on was s t ≡ keys → stated_plan (body_of stmt) ≡ p → mending_cost keys (body_of stmt) p t ≡ n → cost_after (Some was) (Some stmt) s t ≡ n
by_keys was stmt s t keys p n sliced touches is cost =
    ap (λ b. if b then mending_on (touched_on was s t) (Some stmt) t else cost_on (Some stmt) t) sliced
    ∙ (ap (λ (ks : List ℕ). mending_cost ks (body_of stmt) (stated_plan (body_of stmt)) t) touches ∙ (ap (λ (x : Plan). mending_cost keys (body_of stmt) x t) is ∙ cost))

root_gaps : cut (touched_on part first second) part.sense ≡ record { gaps = gap [] 0 1 ∷ gap [] 2 3 ∷ gap [] 4 5 ∷ gap [] 6 9 ∷ []; hits = [] }
root_gaps = refl

answers_again : outcome_on printed second ≡ Rows (pair 1 2 ∷ pair 3 4 ∷ pair 5 6 ∷ [])
answers_again = refl
