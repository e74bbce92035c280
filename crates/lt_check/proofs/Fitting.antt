-- A checked program fits the states that have the schema's relations, and inserts by their keys.
use Rattle.std.proofs.Common.{◌≡◌, ℕ, zero, suc, ◌+◌, ◌<◌, ◌≤◌, Bool, true, false, not, cond, ◌&&◌, ◌||◌, List, [], ◌∷◌, ◌++◌, map, length, fold, Option, Some, None, refl, sym, ap, subst, ◌∙◌, arith}
use mathlib.Core.Bool.{true≢false}
use Rattle.std.specs.Prelude.{◌==◌, flat_map, filter_map, is_none, unwrap_or, option_map, option_and_then, slice_get, nat_lt}
use Rattle.std.specs.List.{AllByRecursion, list_all, list_any, position_or_len}
use Rattle.std.specs.Str.{bytes_eq}
use Rattle.std.proofs.lemmas.Bool.{eqb-true}
use Rattle.std.proofs.lemmas.List.{length-map}
use Rattle.std.proofs.lemmas.List.Folds.{list_any-append}
use Rattle.std.proofs.lemmas.List.Quantifiers.{position-Some}
use Rattle.std.proofs.lemmas.Option.{slice_get-map, slice_get-get_or}
use Rattle.std.proofs.lemmas.Slice.Eq.{bytes_eq-Decides}
use Rattle.lt_face.specs.State.{State, Relation}
use Rattle.lt_model.specs.declared.kind.Kind.{Kind}
use Rattle.lt_model.specs.declared.syntax.Term.{Term}
use Rattle.lt_model.specs.declared.syntax.Term.TheVariants.{Name, Cell}
use Rattle.lt_model.specs.declared.syntax.Head.{Head}
use Rattle.lt_model.specs.declared.syntax.Literal.{Literal}
use Rattle.lt_model.specs.declared.syntax.Literal.TheVariants.{Atom, Absent, Cmp, Sum}
use Rattle.lt_model.specs.declared.syntax.Statement.{Statement}
use Rattle.lt_model.specs.declared.syntax.Statement.TheVariants as statements
use Rattle.lt_model.specs.declared.syntax.Program.{Program}
use Rattle.lt_model.specs.declared.normal.Atom as normal
use Rattle.lt_model.specs.declared.normal.Body.{Body}
use Rattle.lt_model.specs.declared.normal.Stmt.{Stmt}
use Rattle.lt_model.specs.Schema.{Schema, number_of, columns_of, keys_of}
use Rattle.lt_model.specs.Variables.{atoms_of, atom_of, absent_of, named_of, body_of, front_terms, literal_terms, terms_of, variable_of, variables, with_name, place_of}
use Rattle.lt_model.specs.Bound.{is_known, is_bound, are_bound}
use Rattle.lt_model.specs.Check.{term, atom, test_of, normal_body, normal, kind_of, choice_for, is_unknown, is_misfit, all_bound, code_of, Checked, Good, Bad, after_good, or_bad, checked_from, checked}
use Rattle.lt_model.specs.Fits.{IsWide, IsTermOf, IsAtomOf, test_terms, IsBodyOf, IsHeadOf, AreKeysOf, FitsStatement, Fits}
use Rattle.lt_model.specs.Keyed.{keys_in, InsertsBy}
use Rattle.lt_model.specs.Limits.{HasCell, IsLiteralWithin, IsStatementWithin, IsProgramWithin}
use Rattle.lt_check.specs.States.{IsStateOf, HasKeyColumns, HaveKeyColumns}
use Rattle.lt_check.proofs.Limits.{All_both, All_flat}
use Rattle.lt_check.proofs.Statements.{chosen}

-- ---- lists

All_front : {X : Type 0} (P : X → Type 0) (xs ys : List X) → AllByRecursion P (xs ++ ys) → AllByRecursion P xs
All_front P [] ys h = tt
All_front P (x ∷ xs) ys h = (h.0, All_front P xs ys h.1)

All_back : {X : Type 0} (P : X → Type 0) (xs ys : List X) → AllByRecursion P (xs ++ ys) → AllByRecursion P ys
All_back P [] ys h = h
All_back P (x ∷ xs) ys h = All_back P xs ys h.1

none_any : {X : Type 0} (p : X → Bool) (xs : List X) → list_any p xs ≡ false → AllByRecursion (λ x. p x ≡ false) xs
none_any p [] h = tt
none_any p (x ∷ xs) h = let e = neither (p x) (list_any p xs) h in (e.0, none_any p xs e.1)
  where
    neither : (a b : Bool) → (a || b) ≡ false → (a ≡ false) × (b ≡ false)
    neither true b h = absurd (true≢false h)
    neither false b h = (refl, h)

both : (a b : Bool) → (a && b) ≡ true → (a ≡ true) × (b ≡ true)
both true b h = (refl, h)
both false b h = absurd cc

-- ---- numbers of variables

stays : (n m : List ℕ) (names : List (List ℕ)) → list_any (bytes_eq n) names ≡ true → list_any (bytes_eq n) (with_name names m) ≡ true
stays n m names h = go (list_any (bytes_eq m) names)
  where
    go : (b : Bool) → list_any (bytes_eq n) (cond b names (names ++ m ∷ [])) ≡ true
    go true = h
    go false = list_any-append (bytes_eq n) names (m ∷ []) ∙ ap (λ b. b || list_any (bytes_eq n) (m ∷ [])) h

gets : (n : List ℕ) (names : List (List ℕ)) → list_any (bytes_eq n) (with_name names n) ≡ true
gets n names = go (list_any (bytes_eq n) names) refl
  where
    either : (a b : Bool) → b ≡ true → (a || (b || false)) ≡ true
    either true b e = refl
    either false b e = ap (λ x. x || false) e

    go : (b : Bool) → list_any (bytes_eq n) names ≡ b → list_any (bytes_eq n) (cond b names (names ++ n ∷ [])) ≡ true
    go true h = h
    go false h = list_any-append (bytes_eq n) names (n ∷ []) ∙ either (list_any (bytes_eq n) names) (bytes_eq n n) ((bytes_eq-Decides n n).1 refl)

stays_in_all : (n : List ℕ) (names places : List (List ℕ)) → list_any (bytes_eq n) names ≡ true → list_any (bytes_eq n) (fold with_name names places) ≡ true
stays_in_all n names [] h = h
stays_in_all n names (m ∷ places) h = stays_in_all n (with_name names m) places (stays n m names h)

-- each place's name is among the variables
all_named : (names places : List (List ℕ)) → AllByRecursion (λ n. list_any (bytes_eq n) (fold with_name names places) ≡ true) places
all_named names [] = tt
all_named names (n ∷ places) = (stays_in_all n (with_name names n) places (gets n names), all_named (with_name names n) places)

first_within : {X : Type 0} (p : X → Bool) (xs : List X) → list_any p xs ≡ true → position_or_len p xs < length xs
first_within p [] h = absurd cc
first_within p (x ∷ xs) h = go (p x) h (first_within p xs)
  where
    go : (b : Bool) → (b || list_any p xs) ≡ true → (list_any p xs ≡ true → position_or_len p xs < length xs) → cond (not b) (1 + position_or_len p xs) 0 < length (x ∷ xs)
    go true h more = omega arith
    go false h more = let below = more h in omega arith

place_within : (names : List (List ℕ)) (n : List ℕ) → list_any (bytes_eq n) names ≡ true → place_of names n < length names
place_within names n h = go (nat_lt (position_or_len (bytes_eq n) names) (length names)) (first_within (bytes_eq n) names h)
  where
    go : (b : Bool) → position_or_len (bytes_eq n) names < length names → unwrap_or (cond b (Some (position_or_len (bytes_eq n) names)) None) 0 < length names
    go true below = below
    go false below = omega arith

-- ---- terms

-- a term whose variable has a number, and is bound; a constant is a cell
IsGood : List (List ℕ) → Body → Term → Type 0
IsGood names body t = IsTermOf (length names) (term names t) × (is_known (is_bound body) (term names t) ≡ true)

all_good : (names : List (List ℕ)) (body : Body) (terms : List Term) → AllByRecursion HasCell terms → AllByRecursion (λ n. list_any (bytes_eq n) names ≡ true) (filter_map variable_of terms) → list_all (is_known (is_bound body)) (map (term names) terms) ≡ true → AllByRecursion (IsGood names body) terms
unfolding IsGood
all_good names body [] cells named bound = tt
all_good names body (Name n ∷ terms) cells named bound =
    let e = both (is_bound body (place_of names n)) (list_all (is_known (is_bound body)) (map (term names) terms)) bound in
    ((place_within names n named.0, e.0), all_good names body terms cells.1 named.1 e.1)
all_good names body (Cell kind cell ∷ terms) cells named bound = ((cells.0, refl), all_good names body terms cells.1 named bound)

good_terms : (names : List (List ℕ)) (body : Body) (terms : List Term) → AllByRecursion (IsGood names body) terms → AllByRecursion (IsTermOf (length names)) (map (term names) terms)
unfolding IsGood
good_terms names body [] h = tt
good_terms names body (t ∷ terms) h = (h.0.0, good_terms names body terms h.1)

good_bound : (names : List (List ℕ)) (body : Body) (terms : List Term) → AllByRecursion (IsGood names body) terms → are_bound body (map (term names) terms) ≡ true
unfolding IsGood
good_bound names body [] h = refl
good_bound names body (t ∷ terms) h = ap (λ b. b && are_bound body (map (term names) terms)) h.0.1 ∙ good_bound names body terms h.1

-- ---- widths

some_at : {X : Type 0} (xs : List X) (n : ℕ) → n < length xs → (x : X) × (slice_get xs n ≡ Some x)
some_at [] n h = absurd (omega arith)
some_at (x ∷ xs) zero h = (x, refl)
some_at (x ∷ xs) (suc n) h = some_at xs n (omega arith)

at_number : (schema : Schema) (state : State) (n k : ℕ) (o : Option ℕ) → IsStateOf schema state → o ≡ Some n → n < length schema → (k == length (unwrap_or (option_map (λ (h : List ℕ × List Kind × ℕ). h.1) (option_and_then (slice_get schema) o)) [])) ≡ true → IsWide state n k
at_number schema state n k o fits e below same =
    let x = some_at schema n below in
    let width : ℕ = length (x.0).1 in
    let is : k ≡ width = eqb-true k width (ap (λ p. k == length (unwrap_or (option_map (λ (h : List ℕ × List Kind × ℕ). h.1) p) [])) (sym (ap (option_and_then (slice_get schema)) e ∙ x.1)) ∙ same) in
    sym (slice_get-map (λ (r : Relation). r.width) state n)
    ∙ ap (λ xs. slice_get xs n) fits
    ∙ slice_get-map (λ (h : List ℕ × List Kind × ℕ). length h.1) schema n
    ∙ ap (option_map (λ (h : List ℕ × List Kind × ℕ). length h.1)) x.1
    ∙ ap Some (sym is)

not_false : (b : Bool) → not b ≡ false → b ≡ true
not_false true h = refl
not_false false h = absurd cc

is_wide : (schema : Schema) (state : State) (h : Head) → IsStateOf schema state → is_unknown schema h ≡ false → is_misfit schema h ≡ false → IsWide state (unwrap_or (number_of schema h.relation) 0) (length h.terms)
is_wide schema state h fits known fit = go (number_of schema h.relation) refl
  where
    go : (o : Option ℕ) → number_of schema h.relation ≡ o → IsWide state (unwrap_or o 0) (length h.terms)
    go None e = absurd (true≢false (ap is_none (sym e) ∙ known))
    go (Some n) e =
        let at = position-Some (λ (heading : List ℕ × List Kind × ℕ). bytes_eq heading.0 h.relation) schema n ([], [], 0) e in
        at_number schema state n (length h.terms) (number_of schema h.relation) fits e at.0 (not_false (length h.terms == length (columns_of schema h.relation)) fit)

-- ---- keys

at_place : {X : Type 0} (P : X → Type 0) (xs : List X) (n : ℕ) (x : X) → AllByRecursion P xs → slice_get xs n ≡ Some x → P x
at_place P [] n x all e = absurd cc
at_place P (y ∷ xs) zero x all e = let same : y ≡ x = cc in subst P same all.0
at_place P (y ∷ xs) (suc n) x all e = at_place P xs n x all.1 e

-- the key columns of a heading that is there are some of its columns
abbrev AreSome : Option (List ℕ × List Kind × ℕ) → Type 0
AreSome o = (1 ≤ unwrap_or (option_map (λ (h : List ℕ × List Kind × ℕ). h.2) o) 0) × (unwrap_or (option_map (λ (h : List ℕ × List Kind × ℕ). h.2) o) 0 ≤ length (unwrap_or (option_map (λ (h : List ℕ × List Kind × ℕ). h.1) o) []))

keys_at : (schema : Schema) (n : ℕ) (o : Option ℕ) → HaveKeyColumns schema → o ≡ Some n → n < length schema → AreSome (option_and_then (slice_get schema) o)
keys_at schema n o keyed e below =
    let x = some_at schema n below in
    subst AreSome (sym (ap (option_and_then (slice_get schema)) e ∙ x.1)) (at_place HasKeyColumns schema n x.0 keyed x.1)

keys_within : (schema : Schema) (h : Head) → HaveKeyColumns schema → is_unknown schema h ≡ false → is_misfit schema h ≡ false → (1 ≤ keys_of schema h.relation) × (keys_of schema h.relation ≤ length h.terms)
keys_within schema h keyed known fit = go (number_of schema h.relation) refl
  where
    as_long : length h.terms ≡ length (columns_of schema h.relation)
    as_long = eqb-true (length h.terms) (length (columns_of schema h.relation)) (not_false (length h.terms == length (columns_of schema h.relation)) fit)

    go : (o : Option ℕ) → number_of schema h.relation ≡ o → (1 ≤ keys_of schema h.relation) × (keys_of schema h.relation ≤ length h.terms)
    go None e = absurd (true≢false (ap is_none (sym e) ∙ known))
    go (Some n) e =
        let at = position-Some (λ (heading : List ℕ × List Kind × ℕ). bytes_eq heading.0 h.relation) schema n ([], [], 0) e in
        let some = keys_at schema n (number_of schema h.relation) keyed e at.0 in
        (some.0, subst (λ k. keys_of schema h.relation ≤ k) (sym as_long) some.1)

-- ---- atoms and bodies

-- a relation that is there, with as many columns
IsThere : Schema → Head → Type 0
IsThere schema h = (is_unknown schema h ≡ false) × (is_misfit schema h ≡ false)

all_there : (schema : Schema) (heads : List Head) → AllByRecursion (λ h. is_unknown schema h ≡ false) heads → AllByRecursion (λ h. is_misfit schema h ≡ false) heads → AllByRecursion (IsThere schema) heads
unfolding IsThere
all_there schema [] p q = tt
all_there schema (h ∷ heads) p q = ((p.0, q.0), all_there schema heads p.1 q.1)

atom_fits_state : (schema : Schema) (state : State) (names : List (List ℕ)) (body : Body) (h : Head) → IsStateOf schema state → IsThere schema h → AllByRecursion (IsGood names body) h.terms → IsAtomOf state (length names) (atom schema names h)
unfolding IsThere
atom_fits_state schema state names body h fits there good = record {
  is_wide =
      let P : ℕ → Type 0 = λ k. IsWide state (unwrap_or (number_of schema h.relation) 0) k in
      subst P (sym (length-map h.terms (term names))) (is_wide schema state h fits there.0 there.1);
  has_terms = good_terms names body h.terms good;
}

head_keys : (schema : Schema) (names : List (List ℕ)) (h : Head) → HaveKeyColumns schema → IsThere schema h → AreKeysOf (atom schema names h) (keys_of schema h.relation)
unfolding IsThere
head_keys schema names h keyed there =
    let k = keys_within schema h keyed there.0 there.1 in
    (k.0, subst (λ n. keys_of schema h.relation ≤ n) (sym (length-map h.terms (term names))) k.1)

head_fits_state : (schema : Schema) (state : State) (names : List (List ℕ)) (literals : List Literal) (h : Head) → IsStateOf schema state → IsThere schema h → AllByRecursion (IsGood names (normal_body schema names literals)) h.terms → IsHeadOf state (normal_body schema names literals) (atom schema names h)
head_fits_state schema state names literals h fits there good = record {
  fits = atom_fits_state schema state names (normal_body schema names literals) h fits there good;
  is_bound = good_bound names (normal_body schema names literals) h.terms good;
}

atoms_fit_state : (schema : Schema) (state : State) (names : List (List ℕ)) (body : Body) (literals : List Literal) → IsStateOf schema state → AllByRecursion (IsThere schema) (filter_map named_of literals) → AllByRecursion (IsGood names body) (flat_map literal_terms literals) → AllByRecursion (IsAtomOf state (length names)) (map (atom schema names) (filter_map atom_of literals))
atoms_fit_state schema state names body [] fits there good = tt
atoms_fit_state schema state names body (Atom h ∷ literals) fits there good = (
  atom_fits_state schema state names body h fits there.0 (All_front (IsGood names body) h.terms (flat_map literal_terms literals) good),
  atoms_fit_state schema state names body literals fits there.1 (All_back (IsGood names body) h.terms (flat_map literal_terms literals) good),
)
atoms_fit_state schema state names body (Absent h ∷ literals) fits there good = atoms_fit_state schema state names body literals fits there.1 (All_back (IsGood names body) h.terms (flat_map literal_terms literals) good)
atoms_fit_state schema state names body (Cmp left op right ∷ literals) fits there good = atoms_fit_state schema state names body literals fits there good.1.1
atoms_fit_state schema state names body (Sum var a minus b ∷ literals) fits there good = atoms_fit_state schema state names body literals fits there good.1.1.1

absents_fit_state : (schema : Schema) (state : State) (names : List (List ℕ)) (body : Body) (literals : List Literal) → IsStateOf schema state → AllByRecursion (IsThere schema) (filter_map named_of literals) → AllByRecursion (IsGood names body) (flat_map literal_terms literals) → AllByRecursion (IsAtomOf state (length names)) (map (atom schema names) (filter_map absent_of literals))
absents_fit_state schema state names body [] fits there good = tt
absents_fit_state schema state names body (Atom h ∷ literals) fits there good = absents_fit_state schema state names body literals fits there.1 (All_back (IsGood names body) h.terms (flat_map literal_terms literals) good)
absents_fit_state schema state names body (Absent h ∷ literals) fits there good = (
  atom_fits_state schema state names body h fits there.0 (All_front (IsGood names body) h.terms (flat_map literal_terms literals) good),
  absents_fit_state schema state names body literals fits there.1 (All_back (IsGood names body) h.terms (flat_map literal_terms literals) good),
)
absents_fit_state schema state names body (Cmp left op right ∷ literals) fits there good = absents_fit_state schema state names body literals fits there good.1.1
absents_fit_state schema state names body (Sum var a minus b ∷ literals) fits there good = absents_fit_state schema state names body literals fits there good.1.1.1

absents_bound : (schema : Schema) (names : List (List ℕ)) (body : Body) (literals : List Literal) → AllByRecursion (IsGood names body) (flat_map literal_terms literals) → AllByRecursion (λ (a : normal.Atom). are_bound body a.terms ≡ true) (map (atom schema names) (filter_map absent_of literals))
absents_bound schema names body [] good = tt
absents_bound schema names body (Atom h ∷ literals) good = absents_bound schema names body literals (All_back (IsGood names body) h.terms (flat_map literal_terms literals) good)
absents_bound schema names body (Absent h ∷ literals) good = (
  good_bound names body h.terms (All_front (IsGood names body) h.terms (flat_map literal_terms literals) good),
  absents_bound schema names body literals (All_back (IsGood names body) h.terms (flat_map literal_terms literals) good),
)
absents_bound schema names body (Cmp left op right ∷ literals) good = absents_bound schema names body literals good.1.1
absents_bound schema names body (Sum var a minus b ∷ literals) good = absents_bound schema names body literals good.1.1.1

tests_fit : (names : List (List ℕ)) (body : Body) (literals : List Literal) → AllByRecursion (IsGood names body) (flat_map literal_terms literals) → AllByRecursion (λ test. AllByRecursion (IsTermOf (length names)) (test_terms test)) (filter_map (test_of names) literals)
unfolding IsGood
tests_fit names body [] good = tt
tests_fit names body (Atom h ∷ literals) good = tests_fit names body literals (All_back (IsGood names body) h.terms (flat_map literal_terms literals) good)
tests_fit names body (Absent h ∷ literals) good = tests_fit names body literals (All_back (IsGood names body) h.terms (flat_map literal_terms literals) good)
tests_fit names body (Cmp left op right ∷ literals) good = ((good.0.0, (good.1.0.0, tt)), tests_fit names body literals good.1.1)
tests_fit names body (Sum var a minus b ∷ literals) good = ((good.0.0, (good.1.0.0, (good.1.1.0.0, tt))), tests_fit names body literals good.1.1.1)

tests_bound : (names : List (List ℕ)) (body : Body) (literals : List Literal) → AllByRecursion (IsGood names body) (flat_map literal_terms literals) → AllByRecursion (λ test. are_bound body (test_terms test) ≡ true) (filter_map (test_of names) literals)
tests_bound names body [] good = tt
tests_bound names body (Atom h ∷ literals) good = tests_bound names body literals (All_back (IsGood names body) h.terms (flat_map literal_terms literals) good)
tests_bound names body (Absent h ∷ literals) good = tests_bound names body literals (All_back (IsGood names body) h.terms (flat_map literal_terms literals) good)
tests_bound names body (Cmp left op right ∷ literals) good = (good_bound names body (left ∷ right ∷ []) (good.0, (good.1.0, tt)), tests_bound names body literals good.1.1)
tests_bound names body (Sum var a minus b ∷ literals) good = (good_bound names body (Name var ∷ a ∷ b ∷ []) (good.0, (good.1.0, (good.1.1.0, tt))), tests_bound names body literals good.1.1.1)

apart : (schema : Schema) (names : List (List ℕ)) (literals : List Literal) → length (map (atom schema names) (filter_map atom_of literals)) + length (map (atom schema names) (filter_map absent_of literals)) + length (filter_map (test_of names) literals) ≡ length literals
apart schema names [] = refl
apart schema names (Atom h ∷ literals) = let e = apart schema names literals in omega arith
apart schema names (Absent h ∷ literals) = let e = apart schema names literals in omega arith
apart schema names (Cmp left op right ∷ literals) = let e = apart schema names literals in omega arith
apart schema names (Sum var a minus b ∷ literals) = let e = apart schema names literals in omega arith

body_fits_state : (schema : Schema) (state : State) (names : List (List ℕ)) (literals : List Literal) → IsStateOf schema state → length names ≤ 16 → length literals ≤ 16 → AllByRecursion (IsThere schema) (filter_map named_of literals) → AllByRecursion (IsGood names (normal_body schema names literals)) (flat_map literal_terms literals) → IsBodyOf state (normal_body schema names literals)
body_fits_state schema state names literals fits few short there good =
    let body = normal_body schema names literals in
    record {
      atoms = atoms_fit_state schema state names body literals fits there good;
      absents = absents_fit_state schema state names body literals fits there good;
      tests = tests_fit names body literals good;
      is_bound = tests_bound names body literals good;
      are_absents_bound = absents_bound schema names body literals good;
      has_few_variables = few;
      has_few_literals = let e = apart schema names literals in omega (arith, e, short);
    }

-- ---- statements and programs

literal_cells : (l : Literal) → IsLiteralWithin l → AllByRecursion HasCell (literal_terms l)
literal_cells (Atom h) is = is.cells
literal_cells (Absent h) is = is.cells
literal_cells (Cmp left op right) is = (is.0, (is.1, tt))
literal_cells (Sum var a minus b) is = (tt, (is.0, (is.1, tt)))

body_cells : (literals : List Literal) → AllByRecursion IsLiteralWithin literals → AllByRecursion (λ l. AllByRecursion HasCell (literal_terms l)) literals
body_cells [] is = tt
body_cells (l ∷ literals) is = (literal_cells l is.0, body_cells literals is.1)

front_cells : (s : Statement) → IsStatementWithin s → AllByRecursion HasCell (front_terms s)
front_cells (statements.Insert head literals) is = All_both HasCell head.terms [] is.heads.0.cells tt
front_cells (statements.Delete head literals) is = All_both HasCell head.terms [] is.heads.0.cells tt
front_cells (statements.Replace gone come literals) is = All_both HasCell gone.terms (come.terms ++ []) is.heads.0.cells (All_both HasCell come.terms [] is.heads.1.0.cells tt)
front_cells (statements.Require some literals) is = tt
front_cells (statements.Print terms literals) is = is.printed.cells

-- all constants of a statement are cells
cells_of : (s : Statement) → IsStatementWithin s → AllByRecursion HasCell (terms_of s)
cells_of s is = All_both HasCell (front_terms s) (flat_map literal_terms (body_of s)) (front_cells s is) (All_flat HasCell literal_terms (body_of s) (body_cells (body_of s) is.literals))

-- what no code says of a statement
pub record HasNoCode (schema : Schema) (s : Statement) : Type 0 where
  pub known : list_any (is_unknown schema) (atoms_of s) ≡ false
  pub fit : list_any (is_misfit schema) (atoms_of s) ≡ false
  pub bound : all_bound schema s ≡ true

no_code_means : (schema : Schema) (s : Statement) → code_of schema s ≡ None → HasNoCode schema s
no_code_means schema s h = go (list_any (is_unknown schema) (atoms_of s)) refl (list_any (is_misfit schema) (atoms_of s)) refl (is_none (choice_for schema s)) (all_bound schema s) refl h
  where
    go : (a : Bool) → list_any (is_unknown schema) (atoms_of s) ≡ a → (b : Bool) → list_any (is_misfit schema) (atoms_of s) ≡ b → (c d : Bool) → all_bound schema s ≡ d → chosen a b c (not d) ≡ None → HasNoCode schema s
    go true p b q c d r h = absurd cc
    go false p true q c d r h = absurd cc
    go false p false q true d r h = absurd cc
    go false p false q false false r h = absurd cc
    go false p false q false true r h = record { known = p; fit = q; bound = r }

statement_fits : (schema : Schema) (state : State) (s : Statement) → IsStateOf schema state → HaveKeyColumns schema → IsStatementWithin s → code_of schema s ≡ None → FitsStatement state (normal schema s)
statement_fits schema state s fits keyed is h =
    let n = no_code_means schema s h in
    let body = normal_body schema (variables s) (body_of s) in
    go s fits is
    (all_there schema (atoms_of s) (none_any (is_unknown schema) (atoms_of s) n.known) (none_any (is_misfit schema) (atoms_of s) n.fit))
    (all_good (variables s) body (terms_of s) (cells_of s is) (all_named [] (filter_map variable_of (terms_of s))) n.bound)
  where
    go : (s : Statement) → IsStateOf schema state → IsStatementWithin s → AllByRecursion (IsThere schema) (atoms_of s) → AllByRecursion (IsGood (variables s) (normal_body schema (variables s) (body_of s))) (terms_of s) → FitsStatement state (normal schema s)
    go (statements.Insert head literals) fits is there good =
        let s = statements.Insert head literals in
        let P = IsGood (variables s) (normal_body schema (variables s) literals) in
        let front = All_front P (front_terms s) (flat_map literal_terms literals) good in (
          body_fits_state schema state (variables s) literals fits is.few_variables is.few_literals there.1 (All_back P (front_terms s) (flat_map literal_terms literals) good),
          head_fits_state schema state (variables s) literals head fits there.0 (All_front P head.terms [] front),
          head_keys schema (variables s) head keyed there.0,
        )
    go (statements.Delete head literals) fits is there good =
        let s = statements.Delete head literals in
        let P = IsGood (variables s) (normal_body schema (variables s) literals) in
        let front = All_front P (front_terms s) (flat_map literal_terms literals) good in (
          body_fits_state schema state (variables s) literals fits is.few_variables is.few_literals there.1 (All_back P (front_terms s) (flat_map literal_terms literals) good),
          head_fits_state schema state (variables s) literals head fits there.0 (All_front P head.terms [] front),
        )
    go (statements.Replace gone come literals) fits is there good =
        let s = statements.Replace gone come literals in
        let P = IsGood (variables s) (normal_body schema (variables s) literals) in
        let front = All_front P (front_terms s) (flat_map literal_terms literals) good in
        let second = All_back P gone.terms (come.terms ++ []) front in (
          body_fits_state schema state (variables s) literals fits is.few_variables is.few_literals there.1.1 (All_back P (front_terms s) (flat_map literal_terms literals) good),
          head_fits_state schema state (variables s) literals gone fits there.0 (All_front P gone.terms (come.terms ++ []) front),
          head_fits_state schema state (variables s) literals come fits there.1.0 (All_front P come.terms [] second),
          head_keys schema (variables s) come keyed there.1.0,
        )
    go (statements.Require some literals) fits is there good =
        let s = statements.Require some literals in
        body_fits_state schema state (variables s) literals fits is.few_variables is.few_literals there good
    go (statements.Print terms literals) fits is there good =
        let s = statements.Print terms literals in
        let names = variables s in
        let body = normal_body schema names literals in
        let P = IsGood names body in
        let front = All_front P terms (flat_map literal_terms literals) good in
        let kind = kind_of names (unwrap_or (choice_for schema s) []) in
        let wide = length-map terms kind in
        let long = length-map terms (term names) in (
          body_fits_state schema state names literals fits is.few_variables is.few_literals there (All_back P terms (flat_map literal_terms literals) good),
          record {
            has_terms = good_terms names body terms front;
            is_bound = good_bound names body terms front;
            is_wide = long ∙ sym wide;
            has_some = omega (arith, wide, is.printed.some);
            has_few = omega (arith, wide, is.printed.few);
          },
        )

-- what a good rest of a program comes from
record ComesFrom (P : Stmt → Type 0) (statements : List Statement) (program : List Stmt) : Type 0 where
  pub each : AllByRecursion P program
  pub long : length program ≡ length statements

-- what the normal form of each statement without a code is, each statement of a good rest is
rest_good : (P : Stmt → Type 0) (schema : Schema) → ((s : Statement) → IsStatementWithin s → code_of schema s ≡ None → P (normal schema s)) → (statements : List Statement) (j : ℕ) (program : List Stmt) → AllByRecursion IsStatementWithin statements → checked_from schema j statements ≡ Good program → ComesFrom P statements program
rest_good P schema one [] j [] is h = record { each = tt; long = refl }
rest_good P schema one [] j (x ∷ program) is h = absurd cc
rest_good P schema one (s ∷ statements) j program is h =
    go (code_of schema s) refl (checked_from schema (j + 1) statements) refl program h (λ more. rest_good P schema one statements (j + 1) more is.1)
  where
    go : (o : Option ℕ) → code_of schema s ≡ o → (rest : Checked) → checked_from schema (j + 1) statements ≡ rest → (program : List Stmt) → or_bad j o (after_good (normal schema s) rest) ≡ Good program → ((more : List Stmt) → checked_from schema (j + 1) statements ≡ Good more → ComesFrom P statements more) → ComesFrom P (s ∷ statements) program
    go (Some code) e rest f program h more = absurd cc
    go None e (Bad code k) f program h more = absurd cc
    go None e (Good good) f program h more =
        let same : program ≡ normal schema s ∷ good = cc in
        let left = more good f in
        subst (ComesFrom P (s ∷ statements)) (sym same) (record { each = (one s is.0 e, left.each); long = let k = left.long in omega (arith, k) })

-- a checked program fits each state that has the schema's relations
pub good_fits : (schema : Schema) (state : State) (program : Program) (good : List Stmt) → IsProgramWithin program → IsStateOf schema state → HaveKeyColumns schema → checked program schema ≡ Good good → Fits state good
good_fits schema state program good is fits keyed h =
    let from = rest_good (FitsStatement state) schema (λ s within none. statement_fits schema state s fits keyed within none) program.statements 1 good is.statements h in
    record { each = from.each; has_few = let e = from.long in let few = is.few in omega (arith, e, few) }

-- ---- rows come by the relations' keys

-- a relation that is there has as many key columns by name as by number
keys_by_number : (schema : Schema) (h : Head) → is_unknown schema h ≡ false → keys_of schema h.relation ≡ keys_in schema (unwrap_or (number_of schema h.relation) 0)
keys_by_number schema h known = go (number_of schema h.relation) refl
  where
    go : (o : Option ℕ) → number_of schema h.relation ≡ o → keys_of schema h.relation ≡ keys_in schema (unwrap_or (number_of schema h.relation) 0)
    go None e = absurd (true≢false (ap is_none (sym e) ∙ known))
    go (Some n) e =
        let at = position-Some (λ (heading : List ℕ × List Kind × ℕ). bytes_eq heading.0 h.relation) schema n ([], [], 0) e in
        ap (λ o. unwrap_or (option_map (λ (heading : List ℕ × List Kind × ℕ). heading.2) (option_and_then (slice_get schema) o)) 0) e
        ∙ ap (λ o. unwrap_or (option_map (λ (heading : List ℕ × List Kind × ℕ). heading.2) o) 0) (slice_get-get_or schema n ([], [], 0) at.0)
        ∙ ap (λ o. keys_in schema (unwrap_or o 0)) (sym e)

statement_inserts : (schema : Schema) (s : Statement) → code_of schema s ≡ None → InsertsBy (keys_in schema) (normal schema s)
statement_inserts schema s h = go s (none_any (is_unknown schema) (atoms_of s) (no_code_means schema s h).known)
  where
    go : (s : Statement) → AllByRecursion (λ a. is_unknown schema a ≡ false) (atoms_of s) → InsertsBy (keys_in schema) (normal schema s)
    go (statements.Insert head literals) known = keys_by_number schema head known.0
    go (statements.Delete head literals) known = tt
    go (statements.Replace gone come literals) known = keys_by_number schema come known.1.0
    go (statements.Require some literals) known = tt
    go (statements.Print terms literals) known = tt

-- a checked program inserts by the schema's keys
pub good_inserts : (schema : Schema) (program : Program) (good : List Stmt) → IsProgramWithin program → checked program schema ≡ Good good → AllByRecursion (InsertsBy (keys_in schema)) good
good_inserts schema program good is h = (rest_good (InsertsBy (keys_in schema)) schema (λ s within none. statement_inserts schema s none) program.statements 1 good is.statements h).each
