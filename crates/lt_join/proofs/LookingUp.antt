-- Rows that are looked up.
use Rattle.std.specs.Prelude.{◌≡◌, ℕ, zero, suc, ◌+◌, ◌-◌, ◌<◌, ◌≤◌, ◌^◌, Bool, true, false, ◌==◌, ◌&&◌, nat_lt, nat_le, if◌then◌else◌, List, [], ◌∷◌, ◌++◌, length, slice_index, take, Option, Some, None, option_and_then, unwrap_or}
use Rattle.std.specs.List.{AllByRecursion, AllZip}
use Rattle.std.specs.Option.{option_to_list}
use Rattle.std.proofs.Common.{refl, sym, ap, ◌∙◌, subst, inl, inr, cond, arith, get_or}
use Rattle.std.proofs.lemmas.Bool.{and_parts, and_from, eqb-true, eq-eqb, leb-true, ltb-true, le-leb, lt-ltb, cases_Bool, true≢false}
use Rattle.std.proofs.lemmas.List.{map-append, take_more, append-nil}
use Rattle.lt_face.specs.Lists.{IsIn, AnyByRecursion}
use Rattle.lt_face.specs.Rows.{has_row}
use Rattle.lt_face.specs.State.{Row, State, Has, permuted}
use Rattle.lt_face.proofs.Membership.{IsIn-append_left, IsIn-append_right}
use Rattle.lt_model.specs.declared.normal.Term.{Term}
use Rattle.lt_model.specs.declared.normal.Term.TheVariants.{Var, Cell}
use Rattle.lt_model.specs.declared.normal.Atom.{Atom}
use Rattle.lt_model.specs.declared.syntax.Op.TheVariants.{Eq}
use Rattle.lt_model.specs.declared.normal.Test.{Test}
use Rattle.lt_model.specs.declared.normal.Test.TheVariants.{Cmp, Sum}
use Rattle.lt_model.specs.declared.normal.Body.{Body}
use Rattle.lt_model.specs.Answers.{Assignment, Values, cell_of, cells_of, or_else, term_value, give_value, give, give_all}
use Rattle.lt_model.specs.Bound.{is_var}
use Rattle.lt_model.specs.Cells.{is_cell, last_int, int_or_none, sum_of}
use Rattle.lt_model.specs.Fits.{IsTermOf}
use Rattle.lt_query.specs.Lists.{below}
use Rattle.lt_query.specs.declared.plans.Level.{Level}
use Rattle.lt_query.specs.Plan.{Keys}
use Rattle.lt_query.proofs.Ascending.{has_row-true, has_row_is}
use Rattle.lt_sense.specs.declared.covering.KeptGap.{KeptGap}
use Rattle.lt_sense.specs.declared.covering.Hit.{Hit}
use Rattle.lt_sense.specs.Kept.{Sense}
use Rattle.lt_sense.specs.Sense.{IsTight, gap_covers, lies_in}
use Rattle.lt_join.specs.Certify.{IsGapped, IsHitOf}
use Rattle.lt_join.specs.Cost.{GainsFewer}
use Rattle.lt_join.specs.Holders.{IsLookUpFor}
use Rattle.lt_join.specs.LookUp.{LookUpView}
use Rattle.lt_join.specs.Values.{IsTest}
use Rattle.lt_join.specs.Walked.{at, value_from, leaf_assignment, Grows}
use Rattle.lt_join.proofs.Repair.{GapIsTight}

-- ---- columns in their own order

own_below : (row : Row) (n : ℕ) → n ≤ length row → permuted (below n) row ≡ take n row
own_below [] zero le = refl
own_below (x ∷ row) zero le = refl
own_below [] (suc n) le = absurd (omega (arith, le))
own_below (x ∷ row) (suc n) le =
    let all : Row = x ∷ row in
    map-append (λ c. slice_index all c) (below n) (n ∷ [])
    ∙ (ap (λ (w : Row). w ++ slice_index all n ∷ []) (own_below all n (omega (arith, le))) ∙ sym (last all n (omega (arith, le))))
  where
    last : (xs : Row) (i : ℕ) → i < length xs → take (suc i) xs ≡ take i xs ++ slice_index xs i ∷ []
    last [] i lt = absurd (omega (arith, lt))
    last (y ∷ xs) zero lt = refl
    last (y ∷ xs) (suc i) lt = ap (λ (w : Row). y ∷ w) (last xs i (omega (arith, lt)))

take_all : (row : Row) → take (length row) row ≡ row
take_all [] = refl
take_all (x ∷ row) = ap (λ (w : Row). x ∷ w) (take_all row)

pub permuted_own : (row : Row) → permuted (below (length row)) row ≡ row
permuted_own row = own_below row (length row) (omega arith) ∙ take_all row

pub length_below : (n : ℕ) → length (below n) ≡ n
length_below zero = refl
length_below (suc n) = more (below n) n ∙ ap suc (length_below n)
  where
    more : (xs : List ℕ) (x : ℕ) → length (xs ++ x ∷ []) ≡ suc (length xs)
    more [] x = refl
    more (y ∷ xs) x = ap suc (more xs x)

pub look_up_wide : (state : State) (relation width : ℕ) (v : LookUpView) → IsLookUpFor state relation width v → (row : Row) → Has state relation row → length row ≡ width
look_up_wide state relation width v is row there = is.index.rows_wide row there ∙ length_below width

pub looked_there : (state : State) (relation : ℕ) (row : Row) (v : LookUpView) → IsLookUpFor state relation (length row) v → has_row v.rows row ≡ true → Has state relation row
looked_there state relation row v is h =
    let from = is.index.from row (has_row-true v.rows row h) in
    let wide : length from.0 ≡ length row = look_up_wide state relation (length row) v is from.0 from.1 in
    let same : from.0 ≡ row = sym (ap (λ n. permuted (below n) from.0) (sym wide) ∙ permuted_own from.0) ∙ from.2 in
    subst (Has state relation) same from.1

pub looked_absent : (state : State) (relation : ℕ) (row : Row) (v : LookUpView) → IsLookUpFor state relation (length row) v → has_row v.rows row ≡ false → Has state relation row → ⊥
looked_absent state relation row v is h there =
    true≢false (sym (has_row_is v.rows row (subst (λ r. IsIn r v.rows) (permuted_own row) (is.index.there row there))) ∙ h)

-- ---- what is kept

push_in : {X : Type 0} (xs : List X) (x : X) → IsIn x (xs ++ x ∷ [])
push_in xs x = IsIn-append_right x xs (x ∷ []) (inl refl)

all_push : {X : Type 0} (P : X → Type 0) (xs : List X) (x : X) → AllByRecursion P xs → P x → AllByRecursion P (xs ++ x ∷ [])
all_push P [] x h k = (k, tt)
all_push P (y ∷ xs) x h k = (h.0, all_push P xs x h.1 k)

length_push : {X : Type 0} (xs : List X) (x : X) → length (xs ++ x ∷ []) ≡ length xs + 1
length_push [] x = refl
length_push (y ∷ xs) x = let e = length_push xs x in omega arith

pub hit_kept : (state : State) (old new : Sense) (hit : Hit) → new.hits ≡ old.hits ++ hit ∷ [] → new.gaps ≡ old.gaps → IsTight old state → Has state hit.relation hit.row → Grows old new × IsTight new state × IsIn hit new.hits
hit_kept state old new hit hits gaps tight there = (
  record { gaps = λ gap h. subst (IsIn gap) (sym gaps) h; hits = λ other h. subst (IsIn other) (sym hits) (IsIn-append_left other old.hits (hit ∷ []) h) },
  record { gaps = subst (AllByRecursion (GapIsTight state)) (sym gaps) tight.gaps; hits = subst (AllByRecursion (λ (h : Hit). Has state h.relation h.row)) (sym hits) (all_push (λ (h : Hit). Has state h.relation h.row) old.hits hit tight.hits there) },
  subst (IsIn hit) (sym hits) (push_in old.hits hit),
)

lies_last : (prefix : Row) (c : ℕ) → lies_in prefix c (c + 1) (prefix ++ c ∷ []) ≡ true
lies_last [] c = and_from (nat_le c c) (nat_lt c (c + 1)) (le-leb c c (omega arith)) (lt-ltb c (c + 1) (omega arith))
lies_last (p ∷ ps) c = and_from (p == p) (lies_in ps c (c + 1) (ps ++ c ∷ [])) (eq-eqb p p refl) (lies_last ps c)

last_lies : (prefix : Row) (c : ℕ) (row : Row) → length row ≡ length (prefix ++ c ∷ []) → lies_in prefix c (c + 1) row ≡ true → row ≡ prefix ++ c ∷ []
last_lies prefix c [] n h = cc
last_lies [] c (x ∷ []) n h =
    let both = and_parts (nat_le c x) (nat_lt x (c + 1)) h in
    let from = leb-true c x both.0 in
    let below = ltb-true x (c + 1) both.1 in
    let e : x ≡ c = omega (arith, from, below) in ap (λ y. y ∷ []) e
last_lies [] c (x ∷ y ∷ row) n h = absurd (omega (arith, n))
last_lies (p ∷ ps) c (x ∷ row) n h =
    let both = and_parts (p == x) (lies_in ps c (c + 1) row) h in
    let e : x ≡ p = sym (eqb-true p x both.0) in
    ap (λ y. y ∷ row) e ∙ ap (λ (w : Row). p ∷ w) (last_lies ps c row (omega (arith, n)) both.1)

pub gap_kept : (state : State) (old new : Sense) (relation c : ℕ) (columns : List ℕ) (prefix row : Row) → new.gaps ≡ old.gaps ++ record { relation = relation; columns = columns; prefix = prefix; lo = c; hi = c + 1 } ∷ [] → new.hits ≡ old.hits → IsTight old state
    → columns ≡ below (length row) → row ≡ prefix ++ c ∷ [] → ((other : Row) → Has state relation other → length other ≡ length row) → (Has state relation row → ⊥)
    → Grows old new × IsTight new state × ((gap : KeptGap) × IsIn gap new.gaps × (gap_covers gap relation row ≡ true))
gap_kept state old new relation c columns prefix row gaps hits tight own is wide absent =
    let gap : KeptGap = record { relation = relation; columns = columns; prefix = prefix; lo = c; hi = c + 1 } in
    let here : lies_in prefix c (c + 1) (permuted columns row) ≡ true = ap (λ (w : List ℕ). lies_in prefix c (c + 1) (permuted w row)) own ∙ (ap (lies_in prefix c (c + 1)) (permuted_own row ∙ is) ∙ lies_last prefix c) in
    let free : GapIsTight state gap = λ other there. elim (cases_Bool (lies_in prefix c (c + 1) (permuted columns other))) [
      | inl inside ↦
          let n : length other ≡ length row = wide other there in
          let cells : permuted columns other ≡ other = ap (λ (w : List ℕ). permuted w other) (own ∙ ap below (sym n)) ∙ permuted_own other in
          let same : other ≡ row = last_lies prefix c other (n ∙ ap length is) (sym (ap (lies_in prefix c (c + 1)) cells) ∙ inside) ∙ sym is in
          absurd (absent (subst (Has state relation) same there))
      | inr e ↦ e
    ] in (
      record { gaps = λ g h. subst (IsIn g) (sym gaps) (IsIn-append_left g old.gaps (gap ∷ []) h); hits = λ h k. subst (IsIn h) (sym hits) k },
      record { gaps = subst (AllByRecursion (GapIsTight state)) (sym gaps) (all_push (GapIsTight state) old.gaps gap tight.gaps free); hits = subst (AllByRecursion (λ (h : Hit). Has state h.relation h.row)) (sym hits) tight.hits },
      (gap, subst (IsIn gap) (sym gaps) (push_in old.gaps gap), and_from (relation == relation) (lies_in prefix c (c + 1) (permuted columns row)) (eq-eqb relation relation refl) here),
    )

pub one_gap_more : (old new : Sense) (gap : KeptGap) → new.gaps ≡ old.gaps ++ gap ∷ [] → length new.gaps ≤ length old.gaps + 1
one_gap_more old new gap e = let n = ap length e ∙ length_push old.gaps gap in omega (arith, n)

pub gains_hit : (old new : Sense) (hit : Hit) (begun now : ℕ) → new.hits ≡ old.hits ++ hit ∷ [] → new.gaps ≡ old.gaps → now ≡ begun + 1 → GainsFewer old new begun now
gains_hit old new hit begun now hits gaps e =
    let n = ap length hits ∙ length_push old.hits hit in
    let m = ap length gaps in
    record { gaps = omega (arith, m, e); hits = omega (arith, n, e) }

pub gains_gap : (old new : Sense) (begun now : ℕ) → length new.gaps ≤ length old.gaps + 1 → new.hits ≡ old.hits → now ≡ begun + 1 → GainsFewer old new begun now
gains_gap old new begun now gaps hits e =
    let m = ap length hits in
    record { gaps = omega (arith, gaps, e); hits = omega (arith, m, e) }

pub gains_none : (sense : Sense) (now : ℕ) → GainsFewer sense sense now now
gains_none sense now = record { gaps = omega arith; hits = omega arith }

pub gains_chain : (s t u : Sense) (a b c : ℕ) → GainsFewer s t a b → GainsFewer t u b c → GainsFewer s u a c
gains_chain s t u a b c g h =
    let p = g.gaps in
    let q = h.gaps in
    let x = g.hits in
    let y = h.hits in
    record { gaps = omega (arith, p, q); hits = omega (arith, x, y) }

pub Grows-none : (sense : Sense) → Grows sense sense
Grows-none sense = record { gaps = λ gap h. h; hits = λ hit h. h }

pub Grows-both : (s t u : Sense) → Grows s t → Grows t u → Grows s u
Grows-both s t u g h = record { gaps = λ gap k. h.gaps gap (g.gaps gap k); hits = λ hit k. h.hits hit (g.hits hit k) }

-- the last cell of a row of small ones
pub last_small : (prefix : Row) (c : ℕ) → AllByRecursion (λ x. x < 2 ^ 120) (prefix ++ c ∷ []) → c < 2 ^ 120
last_small [] c h = h.0
last_small (p ∷ ps) c h = last_small ps c h.1

-- ---- what the values at a leaf are

AreSmall : Values → Type 0
AreSmall values = (v y : ℕ) → values v ≡ Some y → y < 2 ^ 120

some_same : (x y : ℕ) → Some x ≡ Some y → x ≡ y
some_same x y e = let k = e in cc

small_give_value : (values : Values) (v : ℕ) (x : Option ℕ) → AreSmall values → ((y : ℕ) → x ≡ Some y → y < 2 ^ 120) → AreSmall (give_value values v x)
unfolding AreSmall
small_give_value values v x small given u y e =
    elim (u == v) as (λ b. cond b (or_else (values u) x) (values u) ≡ Some y → y < 2 ^ 120) [
      | true ↦ λ k. elim (values u) as (λ o. values u ≡ o → or_else o x ≡ Some y → y < 2 ^ 120) [
        | None ↦ λ none j. given y j
        | Some z ↦ λ there j. small u y (there ∙ j)
      ] refl k
      | false ↦ λ k. small u y k
    ] e

small_term : (values : Values) (t : Term) → AreSmall values → IsTermOf 16 t → (y : ℕ) → term_value values t ≡ Some y → y < 2 ^ 120
unfolding AreSmall
small_term values (Var v) small h y e = small v y e
small_term values (Cell c) small h y e = subst (λ n. n < 2 ^ 120) (some_same c y e) h.1

small_sum : (minus : Bool) (x y z : ℕ) → sum_of minus x y ≡ Some z → z < 2 ^ 120
small_sum minus x y z e = go (if minus then _ else _) e
  where
    go : (cell : ℕ) → int_or_none cell ≡ Some z → z < 2 ^ 120
    go cell e = elim (nat_lt 0 cell && nat_le cell last_int) as (λ b. (nat_lt 0 cell && nat_le cell last_int) ≡ b → cond b (Some cell) None ≡ Some z → z < 2 ^ 120) [
      | true ↦ λ is k.
          let most = leb-true cell last_int (and_parts (nat_lt 0 cell) (nat_le cell last_int) is).1 in
          let same : cell ≡ z = some_same cell z k in omega (arith, most, same)
      | false ↦ λ is k. absurd (cc)
    ] refl e

small_both : (minus : Bool) (a b : Option ℕ) (z : ℕ) → option_and_then (λ x. option_and_then (λ y. sum_of minus x y) b) a ≡ Some z → z < 2 ^ 120
small_both minus None b z e = absurd (cc)
small_both minus (Some x) None z e = absurd (cc)
small_both minus (Some x) (Some y) z e = small_sum minus x y z e

small_give : (values : Values) (test : Test) → AreSmall values → IsTest test → AreSmall (give values test)
small_give values (Cmp (Var v) Eq right) small h = small_give_value values v (term_value values right) small (λ y e. small_term values right small h.1.0 y e)
small_give values (Sum v a minus b) small h = small_give_value values v (option_and_then (λ x. option_and_then (λ y. sum_of minus x y) (term_value values b)) (term_value values a)) small (λ y e. small_both minus (term_value values a) (term_value values b) y e)
small_give values (Cmp left op right) small h = small

small_give_all : (values : Values) (tests : List Test) → AreSmall values → AllByRecursion IsTest tests → AreSmall (give_all values tests)
small_give_all values [] small h = small
small_give_all values (test ∷ tests) small h = small_give_all (give values test) tests (small_give values test small h.0) h.1

small_from : (levels : List Level) (l : ℕ) (keys : Keys) → ((i : ℕ) → l ≤ i → i < l + length levels → keys i < 2 ^ 120) → AreSmall (value_from levels l keys)
unfolding AreSmall
small_from [] l keys each v y e = absurd (cc)
small_from (level ∷ levels) l keys each v y e =
    elim (is_var v level.term) as (λ b. cond b (Some (keys l)) (value_from levels (l + 1) keys v) ≡ Some y → y < 2 ^ 120) [
      | true ↦ λ k. subst (λ n. n < 2 ^ 120) (some_same (keys l) y k) (each l (omega arith) (omega arith))
      | false ↦ λ k. small_from levels (l + 1) keys (λ i from below. each i (omega (arith, from)) (omega (arith, below))) v y k
    ] e

small_keys : (keys : List ℕ) → AllByRecursion (λ k. is_cell k ≡ true) keys → (i : ℕ) → i < length keys → at keys i < 2 ^ 120
small_keys [] h i lt = absurd (omega (arith, lt))
small_keys (k ∷ keys) h zero lt = ltb-true k (2 ^ 120) (and_parts (nat_lt 0 k) (nat_lt k (2 ^ 120)) h.0).1
small_keys (k ∷ keys) h (suc i) lt = small_keys keys h.1 i (omega (arith, lt))

small_cell : (values : Values) (t : Term) → AreSmall values → IsTermOf 16 t → cell_of (λ v. unwrap_or (values v) 0) t < 2 ^ 120
unfolding AreSmall
small_cell values (Var v) small h =
    elim (values v) as (λ o. values v ≡ o → unwrap_or o 0 < 2 ^ 120) [ None ↦ λ e. omega arith | Some y ↦ λ e. small v y e ] refl
small_cell values (Cell c) small h = h.1

small_cells : (values : Values) (ts : List Term) → AreSmall values → AllByRecursion (IsTermOf 16) ts → AllByRecursion (λ c. c < 2 ^ 120) (cells_of (λ v. unwrap_or (values v) 0) ts)
small_cells values [] small h = tt
small_cells values (t ∷ ts) small h = (small_cell values t small h.0, small_cells values ts small h.1)

-- the cells of the negated atoms at a leaf are small
pub small_rows : (body : Body) (levels : List Level) (keys : List ℕ) → length keys ≡ length levels → AllByRecursion (λ k. is_cell k ≡ true) keys → AllByRecursion IsTest body.tests → (atoms : List Atom) → AllByRecursion (λ (atom : Atom). AllByRecursion (IsTermOf 16) atom.terms) atoms
    → AllByRecursion (λ (atom : Atom). AllByRecursion (λ c. c < 2 ^ 120) (cells_of (leaf_assignment body levels (at keys)) atom.terms)) atoms
small_rows body levels keys full cells tests atoms h =
    each atoms h
  where
    small : AreSmall (give_all (value_from levels 0 (at keys)) body.tests)
    small = small_give_all (value_from levels 0 (at keys)) body.tests (small_from levels 0 (at keys) (λ i from below. small_keys keys cells i (omega (arith, below, full)))) tests

    each : (atoms : List Atom) → AllByRecursion (λ (atom : Atom). AllByRecursion (IsTermOf 16) atom.terms) atoms → AllByRecursion (λ (atom : Atom). AllByRecursion (λ c. c < 2 ^ 120) (cells_of (leaf_assignment body levels (at keys)) atom.terms)) atoms
    each [] h = tt
    each (atom ∷ atoms) h = (small_cells (give_all (value_from levels 0 (at keys)) body.tests) atom.terms small h.0, each atoms h.1)

-- ---- atom by atom

pub gapped_more : (sense : Sense) (a : Assignment) (atoms : List Atom) (i : ℕ) (atom : Atom) → i < length atoms → atom ≡ get_or atoms i atom → IsGapped sense a atom → AllByRecursion (IsGapped sense a) (take i atoms) → AllByRecursion (IsGapped sense a) (take (i + 1) atoms)
gapped_more sense a atoms i atom lt is one so = subst (AllByRecursion (IsGapped sense a)) (sym (take_more atoms i atom lt ∙ ap (λ (x : Atom). take i atoms ++ x ∷ []) (sym is))) (all_push (IsGapped sense a) (take i atoms) atom so one)

pub hit_at : (sense : Sense) (a : Assignment) (atoms : List Atom) (i : ℕ) (atom : Atom) → i < length atoms → atom ≡ get_or atoms i atom → IsHitOf sense a atom → AnyByRecursion (IsHitOf sense a) atoms
hit_at sense a [] i atom lt is one = absurd (omega (arith, lt))
hit_at sense a (x ∷ atoms) zero atom lt is one = inl (subst (IsHitOf sense a) is one)
hit_at sense a (x ∷ atoms) (suc i) atom lt is one = inr (hit_at sense a atoms i atom (omega (arith, lt)) is one)

pub all_taken : (sense : Sense) (a : Assignment) (atoms : List Atom) (i : ℕ) → length atoms ≤ i → AllByRecursion (IsGapped sense a) (take i atoms) → AllByRecursion (IsGapped sense a) atoms
all_taken sense a [] i le h = tt
all_taken sense a (x ∷ atoms) zero le h = absurd (omega (arith, le))
all_taken sense a (x ∷ atoms) (suc i) le h = (h.0, all_taken sense a atoms i (omega (arith, le)) h.1)

pub look_up_at : {X : Type 0} (R : Atom → X → Type 0) (atoms : List Atom) (xs : List X) (i : ℕ) (atom : Atom) (x : X) → AllZip R atoms xs → i < length atoms → atom ≡ get_or atoms i atom → x ≡ get_or xs i x → R atom x
look_up_at R [] xs i atom x z lt is at = absurd (omega (arith, lt))
look_up_at R (a ∷ atoms) [] i atom x z lt is at = absurd z
look_up_at R (a ∷ atoms) (y ∷ xs) zero atom x z lt is at = subst (λ b. R b x) (sym is) (subst (R a) (sym at) z.0)
look_up_at R (a ∷ atoms) (y ∷ xs) (suc i) atom x z lt is at = look_up_at R atoms xs i atom x z.1 (omega (arith, lt)) is at

pub popped_none : (row rest : Row) (o : Option ℕ) → o ≡ None → row ≡ rest ++ option_to_list o → rest ≡ take (length row - 1) row → 0 < length row → ⊥
popped_none row rest None e cells is some =
    let whole : row ≡ rest = cells ∙ append-nil rest in
    let n : length row ≡ length (take (length row - 1) row) = ap length (whole ∙ is) in
    let m = length_within row (length row - 1) in omega (arith, n, m, some)
  where
    length_within : (xs : Row) (k : ℕ) → length (take k xs) ≤ k
    length_within [] zero = omega arith
    length_within [] (suc k) = omega arith
    length_within (x ∷ xs) zero = omega arith
    length_within (x ∷ xs) (suc k) = let below = length_within xs k in omega arith
popped_none row rest (Some c) e cells is some = absurd (cc)
