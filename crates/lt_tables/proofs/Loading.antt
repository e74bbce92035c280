-- Lists that a loop makes, one element more each time.
use Rattle.std.proofs.Common.{◌≡◌, ◌≤◌, ◌+◌, ◌++◌, ◌∷◌, ℕ, List, [], length, refl, arith, zero, suc}
use Rattle.std.specs.Prelude.{filter_map}
use Rattle.std.specs.List.{AllByRecursion}
use Rattle.lt_face.specs.Rows.{IsCell}
use Rattle.lt_model.specs.declared.kind.Kind.{Kind}
use Rattle.lt_model.specs.declared.syntax.Term.{Term}
use Rattle.lt_model.specs.declared.syntax.Term.TheVariants.{Name, Cell}
use Rattle.lt_model.specs.Limits.{HasCell}
use Rattle.lt_model.specs.Variables.{variable_of}
use Rattle.lt_tables.specs.Loads.{AreConstants}

pub all_more : {X : Type 0} (P : X → Type 0) (xs : List X) (x : X) → AllByRecursion P xs → P x → AllByRecursion P (xs ++ x ∷ [])
all_more P [] x all here = (here, tt)
all_more P (y ∷ xs) x all here = (all.0, all_more P xs x all.1 here)

pub length_more : {X : Type 0} (xs : List X) (x : X) (n : ℕ) → length xs ≤ n → length (xs ++ x ∷ []) ≤ n + 1
length_more [] x n few = omega arith
length_more (y ∷ xs) x zero few = absurd (omega arith)
length_more (y ∷ xs) x (suc n) few = let rest = length_more xs x n (omega arith) in omega arith

plain_more : (terms : List Term) (kind : Kind) (cell : ℕ) → filter_map variable_of terms ≡ [] → filter_map variable_of (terms ++ Cell kind cell ∷ []) ≡ []
plain_more [] kind cell e = refl
plain_more (Name name ∷ terms) kind cell e = absurd cc
plain_more (Cell k c ∷ terms) kind cell e = plain_more terms kind cell e

pub constants_more : (terms : List Term) (kind : Kind) (cell : ℕ) → AreConstants terms → IsCell cell → AreConstants (terms ++ Cell kind cell ∷ [])
constants_more terms kind cell h is = record { cells = all_more HasCell terms (Cell kind cell) h.cells is; plain = plain_more terms kind cell h.plain }
