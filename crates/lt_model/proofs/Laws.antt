-- The laws of `specs/Laws.antt`, proved.
use Rattle.std.proofs.Common.{◌≡◌, ◌≢◌, ℕ, zero, suc, ◌<◌, Bool, true, false, cond, not, ◌&&◌, ◌||◌, List, [], ◌∷◌, length, Option, Some, None, refl, sym, ap, ◌∙◌, arith, inl, inr, ◌⊎◌}
use mathlib.Core.Bool.{true≢false}
use Rattle.std.specs.Prelude.{find, flat_map, unwrap_or, if◌then◌else◌, ◌==◌}
use Rattle.std.specs.Ordering.{is_eq}
use Rattle.std.specs.declared.cmp.Ordering.{Ordering}
use Rattle.std.specs.declared.cmp.Ordering.TheVariants.{Less, Equal, Greater}
use Rattle.std.proofs.lemmas.Bool.Decides.{eqb_tells}
use Rattle.lt_face.specs.Rows.{row_cmp, has_row, by_order, with_row, without_row}
use Rattle.lt_face.proofs.RowLemmas.{rows_exact, cmp_itself}
use Rattle.lt_model.specs.declared.kind.Kind.{Kind}
use Rattle.lt_model.specs.declared.kind.Kind.TheVariants.{Int, Sym}
use Rattle.lt_model.specs.declared.mark.Mark.{Mark}
use Rattle.lt_model.specs.declared.syntax.Item.{Item}
use Rattle.lt_model.specs.Variables.{variables}
use Rattle.lt_model.specs.Check.{Choice, choices, choice_fits}
use Rattle.lt_face.specs.State.{Row, State, rows_in}
use Rattle.lt_model.specs.Marks.{change, write, lay, laid}
use Rattle.lt_model.specs.Run.{run}
use Rattle.lt_model.specs.Report.{report}
use Rattle.lt_model.specs.Laws.{OneDerivation, OneFault, NoFaultAhead, OneReading, OneReport, SomeChoice, FoundChoice, later, mark_on, LaidHas, SerialJoins}
use Rattle.lt_model.proofs.Levels.{NoFault-open}
use Rattle.lt_model.proofs.Unique.{Derives-unique, Faulty-unique, Script-unique}

pub one_derivation : OneDerivation
one_derivation = Derives-unique

pub one_fault : OneFault
one_fault = Faulty-unique

pub no_fault_ahead : NoFaultAhead
no_fault_ahead = NoFault-open

pub one_reading : OneReading
one_reading = Script-unique

pub one_report : OneReport
one_report bytes marks xs ys c d h k = let same = Script-unique bytes xs ys c d h k in ap (λ (z : List Item). report marks z c) same.0 ∙ ap (report marks ys) same.1

-- ---- serial

pub serial_joins : SerialJoins
serial_joins [] b state = refl
serial_joins (p ∷ a) b state =
    let done = run p state in
    ap (λ rest. (done ∷ rest.0, rest.1)) (serial_joins a b (laid state done.1))

-- ---- choices

found_passes : {A : Type 0} (test : A → Bool) (xs : List A) (x : A) → find test xs ≡ Some x → test x ≡ true
found_passes test [] x e = absurd cc
found_passes test (y ∷ ys) x e = go (test y) refl e (found_passes test ys x)
  where
    go : (b : Bool) → test y ≡ b → cond b (Some y) (find test ys) ≡ Some x → (find test ys ≡ Some x → test x ≡ true) → test x ≡ true
    go true h e more = let same : y ≡ x = cc in ap test (sym same) ∙ h
    go false h e more = more e

pub found_choice : FoundChoice
found_choice schema s choice e = found_passes (choice_fits schema s) (choices (length (variables s))) choice e

-- x stands in the list
abbrev IsIn : {A : Type 0} → A → List A → Type 0
IsIn x [] = ⊥
IsIn x (y ∷ ys) = (y ≡ x) ⊎ IsIn x ys

passes_found : {A : Type 0} (test : A → Bool) (xs : List A) (x : A) → IsIn x xs → test x ≡ true → find test xs ≢ None
passes_found test [] x there h e = there
passes_found test (y ∷ ys) x there h e = go (test y) refl e there (λ k. passes_found test ys x k h)
  where
    go : (b : Bool) → test y ≡ b → cond b (Some y) (find test ys) ≡ None → (y ≡ x) ⊎ IsIn x ys → (IsIn x ys → find test ys ≢ None) → ⊥
    go true k e there more = absurd cc
    go false k e (inl same) more = true≢false (sym h ∙ ap test (sym same) ∙ k)
    go false k e (inr there) more = more there e

-- each choice has both kinds in front
both_fronts : (k : Kind) (choice : Choice) (all : List Choice) → IsIn choice all → IsIn (k ∷ choice) (flat_map (λ c. (Int ∷ c) ∷ (Sym ∷ c) ∷ []) all)
both_fronts k choice [] there = there
both_fronts Int choice (c ∷ all) (inl same) = inl (ap (λ (z : Choice). Int ∷ z) same)
both_fronts Sym choice (c ∷ all) (inl same) = inr (inl (ap (λ (z : Choice). Sym ∷ z) same))
both_fronts k choice (c ∷ all) (inr there) = inr (inr (both_fronts k choice all there))

each_choice : (n : ℕ) (choice : Choice) → length choice ≡ n → IsIn choice (choices n)
each_choice zero [] h = inl refl
each_choice zero (k ∷ choice) h = absurd (omega (arith, h))
each_choice (suc n) [] h = absurd (omega (arith, h))
each_choice (suc n) (k ∷ choice) h = both_fronts k choice (choices n) (each_choice n choice (omega (arith, h)))

pub some_choice : SomeChoice
some_choice schema s choice n fits e = passes_found (choice_fits schema s) (choices (length (variables s))) choice (each_choice (length (variables s)) choice n) fits e

-- ---- laid states

abbrev same_row : Row → Row → Bool
same_row p q = is_eq (row_cmp p q)

equal_is : (o : Ordering) → is_eq o ≡ true → o ≡ Equal
equal_is Less h = absurd cc
equal_is Equal h = refl
equal_is Greater h = absurd cc

pub same_is : (p q : Row) → same_row p q ≡ true → p ≡ q
same_is p q h = rows_exact p q (equal_is (row_cmp p q) h)

pub itself : (p : Row) → same_row p p ≡ true
itself p = ap is_eq (cmp_itself p)

swap_or : (a b c : Bool) → (a || (b || c)) ≡ (b || (a || c))
swap_or true true c = refl
swap_or true false c = refl
swap_or false true c = refl
swap_or false false c = refl

twice_or : (a c : Bool) → (a || c) ≡ (a || (a || c))
twice_or true c = refl
twice_or false c = refl

-- a row put in is there, and the others as before
has-with_row : (rows : List Row) (q r : Row) → has_row (with_row rows q) r ≡ (same_row q r || has_row rows r)
has-with_row [] q r = refl
has-with_row (x ∷ rows) q r =
    elim (row_cmp x q) as (λ o. row_cmp x q ≡ o → has_row (by_order o (x ∷ with_row rows q) (x ∷ rows) (q ∷ (x ∷ rows))) r ≡ (same_row q r || (same_row x r || has_row rows r))) [
      | Less ↦ λ h. ap (λ b. same_row x r || b) (has-with_row rows q r) ∙ swap_or (same_row x r) (same_row q r) (has_row rows r)
      | Equal ↦ λ h. twice_or (same_row x r) (has_row rows r) ∙ ap (λ (z : Row). same_row z r || (same_row x r || has_row rows r)) (rows_exact x q h)
      | Greater ↦ λ h. refl
    ] refl

-- a row taken out isn't there, and the others as before
has-without_row : (rows : List Row) (q r : Row) → has_row (without_row rows q) r ≡ (not (same_row q r) && has_row rows r)
has-without_row [] q r = none (same_row q r)
  where
    none : (b : Bool) → false ≡ (not b && false)
    none true = refl
    none false = refl
has-without_row (x ∷ rows) q r =
    elim (same_row x q) as (λ b. same_row x q ≡ b → has_row (cond (not b) (x ∷ without_row rows q) (without_row rows q)) r ≡ (not (same_row q r) && (same_row x r || has_row rows r))) [
      | true ↦ λ h. has-without_row rows q r ∙ dropped (same_row q r) (has_row rows r) ∙ ap (λ (z : Row). not (same_row q r) && (same_row z r || has_row rows r)) (sym (same_is x q h))
      | false ↦ λ h. ap (λ b. same_row x r || b) (has-without_row rows q r) ∙ kept (same_row q r) refl (same_row x r) refl h (has_row rows r)
    ] refl
  where
    dropped : (a c : Bool) → (not a && c) ≡ (not a && (a || c))
    dropped true c = refl
    dropped false c = refl

    kept : (a : Bool) → same_row q r ≡ a → (b : Bool) → same_row x r ≡ b → same_row x q ≡ false → (c : Bool) → (b || (not a && c)) ≡ (not a && (b || c))
    kept true k true l h c = absurd (true≢false (sym l ∙ ap (same_row x) (sym (same_is q r k)) ∙ h))
    kept true k false l h c = refl
    kept false k true l h c = refl
    kept false k false l h c = refl

change_at : (n : ℕ) (f : List Row → List Row) (state : State) → n < length state → rows_in (change n f state) n ≡ f (rows_in state n)
change_at n f [] h = absurd (omega arith)
change_at zero f (relation ∷ state) h = refl
change_at (suc n) f (relation ∷ state) h = change_at n f state (omega arith)

change_off : (n k : ℕ) (f : List Row → List Row) (state : State) → n ≢ k → rows_in (change n f state) k ≡ rows_in state k
change_off n k f [] h = refl
change_off zero zero f (relation ∷ state) h = absurd (h refl)
change_off zero (suc k) f (relation ∷ state) h = refl
change_off (suc n) zero f (relation ∷ state) h = refl
change_off (suc n) (suc k) f (relation ∷ state) h = change_off n k f state (λ e. h (ap suc e))

pub change_length : (n : ℕ) (f : List Row → List Row) (state : State) → length (change n f state) ≡ length state
change_length n f [] = refl
change_length zero f (relation ∷ state) = omega arith
change_length (suc n) f (relation ∷ state) = omega (arith, change_length n f state)

-- the sign of one mark on a row
abbrev sign_on : Mark → ℕ → Row → Option Bool
sign_on m relation row = if m.relation == relation && same_row m.row row then Some m.plus else None

written : (plus here there : Bool) → (rows : List Row) (q r : Row) → same_row q r ≡ here → has_row rows r ≡ there → has_row (cond plus (with_row rows q) (without_row rows q)) r ≡ unwrap_or (cond here (Some plus) None) there
written true here there rows q r e f = has-with_row rows q r ∙ ap (λ b. b || has_row rows r) e ∙ ap (λ b. here || b) f ∙ told here there
  where
    told : (a b : Bool) → (a || b) ≡ unwrap_or (cond a (Some true) None) b
    told true b = refl
    told false b = refl
written false here there rows q r e f = has-without_row rows q r ∙ ap (λ b. not b && has_row rows r) e ∙ ap (λ b. not here && b) f ∙ told here there
  where
    told : (a b : Bool) → (not a && b) ≡ unwrap_or (cond a (Some false) None) b
    told true b = refl
    told false b = refl

has-lay : (state : State) (m : Mark) (relation : ℕ) (row : Row) → relation < length state → has_row (rows_in (lay state m) relation) row ≡ unwrap_or (sign_on m relation row) (has_row (rows_in state relation) row)
has-lay state m relation row h = go (eqb_tells m.relation relation)
  where
    go : (((m.relation == relation) ≡ true) × (m.relation ≡ relation)) ⊎ (((m.relation == relation) ≡ false) × (m.relation ≢ relation)) → has_row (rows_in (lay state m) relation) row ≡ unwrap_or (sign_on m relation row) (has_row (rows_in state relation) row)
    go (inl e) =
        ap (λ (n : ℕ). has_row (rows_in (change n (write m) state) relation) row) e.1
        ∙ ap (λ (rows : List Row). has_row rows row) (change_at relation (write m) state h)
        ∙ written m.plus (same_row m.row row) (has_row (rows_in state relation) row) (rows_in state relation) m.row row refl refl
        ∙ ap (λ b. unwrap_or (cond (b && same_row m.row row) (Some m.plus) None) (has_row (rows_in state relation) row)) (sym e.0)
    go (inr e) =
        ap (λ (rows : List Row). has_row rows row) (change_off m.relation relation (write m) state e.1)
        ∙ ap (λ b. unwrap_or (cond (b && same_row m.row row) (Some m.plus) None) (has_row (rows_in state relation) row)) (sym e.0)

both_laid : (x y : Option Bool) (b : Bool) → unwrap_or x (unwrap_or y b) ≡ unwrap_or (later x y) b
both_laid None y b = refl
both_laid (Some p) y b = refl

pub laid_has : LaidHas
laid_has state [] relation row h = refl
laid_has state (m ∷ marks) relation row h =
    let in_range : relation < length (lay state m) = omega (arith, h, change_length m.relation (write m) state) in
    laid_has (lay state m) marks relation row in_range
    ∙ ap (unwrap_or (mark_on marks relation row)) (has-lay state m relation row h)
    ∙ both_laid (mark_on marks relation row) (sign_on m relation row) (has_row (rows_in state relation) row)
