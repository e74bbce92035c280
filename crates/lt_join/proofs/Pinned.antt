-- A body with a term pinned to a key.
use Rattle.std.specs.Prelude.{◌≡◌, ℕ, ◌<◌, Bool, true, false, ◌&&◌, ◌||◌, ◌==◌, List, [], ◌∷◌, length}
use Rattle.std.specs.List.{list_all, AllZip}
use Rattle.std.proofs.Common.{refl, sym, ap, ◌∙◌, subst, inl, inr}
use Rattle.std.proofs.lemmas.Bool.{and_parts, and_from, eqb-true, eq-eqb}
use Rattle.lt_face.specs.Lists.{IsIn}
use Rattle.lt_face.proofs.Membership.{IsIn-map, IsIn-flat_map}
use Rattle.lt_face.proofs.RowLemmas.{each_weaker}
use Rattle.lt_model.specs.declared.normal.Term.{Term}
use Rattle.lt_model.specs.declared.normal.Term.TheVariants.{Var, Cell}
use Rattle.lt_model.specs.declared.normal.Atom.{Atom}
use Rattle.lt_model.specs.declared.syntax.Op.TheVariants.{Eq}
use Rattle.lt_model.specs.declared.normal.Test.{Test}
use Rattle.lt_model.specs.declared.normal.Test.TheVariants.{Cmp}
use Rattle.lt_model.specs.declared.normal.Body.{Body}
use Rattle.lt_model.specs.Answers.{Assignment, cell_of, rows_under, passes, holds, terms_of}
use Rattle.lt_model.specs.Cells.{is_cell}
use Rattle.lt_model.specs.Bound.{is_var, stands, is_known, know, know_all, is_bound, are_bound}
use Rattle.lt_model.specs.Fits.{test_terms}
use Rattle.lt_query.specs.Answering.{AreTestsBound}
use Rattle.lt_query.specs.declared.plans.Plan.{Plan}
use Rattle.lt_query.specs.Plan.{term_at, IsGuideOf, IsPlanOf}
use Rattle.lt_query.proofs.Given.{know_all_keeps}
use Rattle.lt_query.proofs.Standing.{is_var_itself}
use Rattle.lt_join.specs.Sliced.{pinned}
use Rattle.lt_join.proofs.Repair.{list_any_of}

-- ---- the assignments that hold

pub holds_pinned : (a : Assignment) (term : Term) (key : ℕ) (body : Body) → holds a (pinned term key body) ≡ true → (holds a body ≡ true) × (cell_of a term ≡ key)
holds_pinned a term key body h =
    let both = and_parts (list_all (λ row. list_all is_cell row) (rows_under a body.atoms)) (list_all (passes a) (Cmp term Eq (Cell key) ∷ body.tests)) h in
    let tests = and_parts (cell_of a term == key) (list_all (passes a) body.tests) both.1 in
    (and_from (list_all (λ row. list_all is_cell row) (rows_under a body.atoms)) (list_all (passes a) body.tests) both.0 tests.1, eqb-true (cell_of a term) key tests.0)

pub pinned_holds : (a : Assignment) (term : Term) (key : ℕ) (body : Body) → holds a body ≡ true → cell_of a term ≡ key → holds a (pinned term key body) ≡ true
pinned_holds a term key body h e =
    let both = and_parts (list_all (λ row. list_all is_cell row) (rows_under a body.atoms)) (list_all (passes a) body.tests) h in
    and_from (list_all (λ row. list_all is_cell row) (rows_under a body.atoms)) (list_all (passes a) (Cmp term Eq (Cell key) ∷ body.tests)) both.0
    (and_from (cell_of a term == key) (list_all (passes a) body.tests) (eq-eqb (cell_of a term) key e) both.1)

-- ---- what is bound

is_known_of : (terms : List Term) (term : Term) → IsIn term terms → is_known (stands terms) term ≡ true
is_known_of terms (Cell c) h = refl
is_known_of terms (Var v) h = list_any_of (is_var v) (Var v) terms h (is_var_itself v)

or_false : (b : Bool) → (b || false) ≡ b
or_false true = refl
or_false false = refl

know_same : (known : ℕ → Bool) (v key : ℕ) → known v ≡ true → know known (Cmp (Var v) Eq (Cell key)) ≡ known
know_same known v key h =
    let each = λ (u : ℕ). elim (u == v) as (λ b. (u == v) ≡ b → (known u || (b && true)) ≡ known u) [
      | true ↦ λ e. let yes : known u ≡ true = ap known (eqb-true u v e) ∙ h in rw yes refl
      | false ↦ λ e. or_false (known u)
    ] refl in
    λ i. λ u. each u i

is_bound_pinned : (term : Term) (key : ℕ) (body : Body) → is_known (stands (terms_of body.atoms)) term ≡ true → is_bound (pinned term key body) ≡ is_bound body
is_bound_pinned (Cell c) key body known = refl
is_bound_pinned (Var v) key body known = ap (λ f. know_all f body.tests) (know_same (stands (terms_of body.atoms)) v key known)

pub are_bound_pinned : (term : Term) (key : ℕ) (body : Body) → IsIn term (terms_of body.atoms) → (terms : List Term) → are_bound (pinned term key body) terms ≡ are_bound body terms
are_bound_pinned term key body at terms = ap (λ f. list_all (is_known f) terms) (is_bound_pinned term key body (is_known_of (terms_of body.atoms) term at))

known_still : (body : Body) (term : Term) → is_known (stands (terms_of body.atoms)) term ≡ true → is_known (is_bound body) term ≡ true
known_still body (Cell c) h = refl
known_still body (Var v) h = know_all_keeps (stands (terms_of body.atoms)) body.tests v h

pub tests_pinned : (term : Term) (key : ℕ) (body : Body) → IsIn term (terms_of body.atoms) → AreTestsBound body → AreTestsBound (pinned term key body)
tests_pinned term key body at whole = (
  (
    are_bound_pinned term key body at (term ∷ Cell key ∷ []) ∙ and_from (is_known (is_bound body) term) (list_all (is_known (is_bound body)) (Cell key ∷ [])) (known_still body term (is_known_of (terms_of body.atoms) term at)) refl,
    each_weaker (λ (test : Test). are_bound body (test_terms test) ≡ true) (λ (test : Test). are_bound (pinned term key body) (test_terms test) ≡ true) (λ test h. are_bound_pinned term key body at (test_terms test) ∙ h) body.tests whole.0,
  ),
  each_weaker (λ (atom : Atom). are_bound body atom.terms ≡ true) (λ (atom : Atom). are_bound (pinned term key body) atom.terms ≡ true) (λ atom h. are_bound_pinned term key body at atom.terms ∙ h) body.absents whole.1,
)

-- ---- a level's term is one of the atoms'

zip_left : {X Y : Type 0} (R : X → Y → Type 0) (xs : List X) (ys : List Y) (y : Y) → AllZip R xs ys → IsIn y ys → (x : X) × IsIn x xs × R x y
zip_left R [] [] y z h = absurd h
zip_left R [] (v ∷ ys) y z h = absurd z
zip_left R (u ∷ xs) [] y z h = absurd h
zip_left R (u ∷ xs) (v ∷ ys) y z h =
    elim h [ inl e ↦ (u, inl refl, subst (R u) e z.0) | inr r ↦ let k = zip_left R xs ys y z.1 r in (k.0, inr k.1, k.2) ]

pub term_in : (body : Body) (plan : Plan) → IsPlanOf body plan → (l : ℕ) → l < length plan.levels → IsIn (term_at plan.levels l) (terms_of body.atoms)
term_in body plan of_body l lt =
    let held = of_body.held l lt in
    let atom = zip_left (IsGuideOf plan.levels) body.atoms plan.guides held.0 of_body.guides held.1 in
    IsIn-flat_map (λ (atom : Atom). atom.terms) atom.0 (term_at plan.levels l) body.atoms atom.1
    (subst (IsIn (term_at plan.levels l)) (sym atom.2.terms) (IsIn-map (term_at plan.levels) l held.0.places held.2))
