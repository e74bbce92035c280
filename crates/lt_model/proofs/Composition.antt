-- Marks laid on marks: laying a and then b is laying `a then b`.
use Rattle.std.proofs.Common.{◌≡◌, ℕ, zero, suc, ◌<◌, Bool, true, false, cond, ◌&&◌, ◌||◌, List, [], ◌∷◌, length, map, Option, Some, None, refl, sym, ap, subst, ◌∙◌, arith, inl, inr, ◌⊎◌}
use mathlib.Core.Bool.{true≢false}
use Rattle.std.specs.Prelude.{◌==◌, unwrap_or, if◌then◌else◌}
use Rattle.std.specs.List.{AllByRecursion}
use Rattle.std.specs.Ordering.{is_eq, nat_cmp, ordering_reverse}
use Rattle.std.specs.declared.cmp.Ordering.{Ordering}
use Rattle.std.specs.declared.cmp.Ordering.TheVariants.{Less, Equal, Greater}
use Rattle.std.specs.Cmp.{tied_itself}
use Rattle.std.proofs.lemmas.Cmp.{nat_cmp_total}
use Rattle.std.specs.FinMap.{nat_cmp-IsAntisymmetric}
use Rattle.std.proofs.lemmas.Bool.{eqb-true}
use Rattle.lt_face.specs.Rows.{row_cmp, by_order, IsAscending, has_row, with_row, without_row}
use Rattle.lt_face.proofs.RowLemmas.{rows_total, rows_exact, cmp_itself, greater_back, less_back, ascending-with_row, ascending-filter, below_all}
use Rattle.lt_model.specs.declared.mark.Mark.{Mark}
use Rattle.lt_face.specs.State.{Row, Relation, State, rows_in}
use Rattle.lt_model.specs.Marks.{Marks, AreMarks, mark_cmp, with_mark, and_then, change, write, lay, laid}
use Rattle.lt_model.specs.Laws.{later, mark_on, LaidTwice, Rises}
use Rattle.lt_model.proofs.Laws.{same_is, itself, laid_has, change_length}

-- ---- the order of marks

split_less : (o x : Ordering) → by_order o Less x Greater ≡ Less → (o ≡ Less) ⊎ ((o ≡ Equal) × (x ≡ Less))
split_less Less x h = inl refl
split_less Equal x h = inr (refl, h)
split_less Greater x h = absurd cc

split_equal : (o x : Ordering) → by_order o Less x Greater ≡ Equal → (o ≡ Equal) × (x ≡ Equal)
split_equal Less x h = absurd cc
split_equal Equal x h = (refl, h)
split_equal Greater x h = absurd cc

split_greater : (o x : Ordering) → by_order o Less x Greater ≡ Greater → (o ≡ Greater) ⊎ ((o ≡ Equal) × (x ≡ Greater))
split_greater Less x h = absurd cc
split_greater Equal x h = inr (refl, h)
split_greater Greater x h = inl refl

first_less : (o x : Ordering) → o ≡ Less → by_order o Less x Greater ≡ Less
first_less o x h = ap (λ z. by_order z Less x Greater) h

then_less : (o x : Ordering) → o ≡ Equal → x ≡ Less → by_order o Less x Greater ≡ Less
then_less o x h k = ap (λ z. by_order z Less x Greater) h ∙ k

mark_less : (a b : Mark) → (nat_cmp a.relation b.relation ≡ Less) ⊎ ((nat_cmp a.relation b.relation ≡ Equal) × (row_cmp a.row b.row ≡ Less)) → mark_cmp a b ≡ Less
mark_less a b (inl h) = first_less (nat_cmp a.relation b.relation) (row_cmp a.row b.row) h
mark_less a b (inr h) = then_less (nat_cmp a.relation b.relation) (row_cmp a.row b.row) h.0 h.1

-- the same, of parts
pair_trans : (a b c : ℕ) (x y z : Row) → (nat_cmp a b ≡ Less) ⊎ ((nat_cmp a b ≡ Equal) × (row_cmp x y ≡ Less)) → (nat_cmp b c ≡ Less) ⊎ ((nat_cmp b c ≡ Equal) × (row_cmp y z ≡ Less)) → (nat_cmp a c ≡ Less) ⊎ ((nat_cmp a c ≡ Equal) × (row_cmp x z ≡ Less))
pair_trans a b c x y z (inl h) (inl k) = inl (nat_cmp_total.trans a b c h k)
pair_trans a b c x y z (inl h) (inr k) = inl (subst (λ n. nat_cmp a n ≡ Less) (nat_cmp-IsAntisymmetric b c k.0) h)
pair_trans a b c x y z (inr h) (inl k) = inl (nat_cmp_total.congr a b c h.0 ∙ k)
pair_trans a b c x y z (inr h) (inr k) = inr (nat_cmp_total.congr a b c h.0 ∙ k.0, rows_total.trans x y z h.1 k.1)

mark_trans : (a b c : Mark) → mark_cmp a b ≡ Less → mark_cmp b c ≡ Less → mark_cmp a c ≡ Less
mark_trans a b c h k =
    mark_less a c (pair_trans a.relation b.relation c.relation a.row b.row c.row (split_less (nat_cmp a.relation b.relation) (row_cmp a.row b.row) h) (split_less (nat_cmp b.relation c.relation) (row_cmp b.row c.row) k))

mark_back : (a b : Mark) → mark_cmp a b ≡ Greater → mark_cmp b a ≡ Less
mark_back a b h = turned (split_greater (nat_cmp a.relation b.relation) (row_cmp a.row b.row) h)
  where
    turned : (nat_cmp a.relation b.relation ≡ Greater) ⊎ ((nat_cmp a.relation b.relation ≡ Equal) × (row_cmp a.row b.row ≡ Greater)) → mark_cmp b a ≡ Less
    turned (inl h) = mark_less b a (inl (nat_cmp_total.antisymm b.relation a.relation ∙ ap ordering_reverse h))
    turned (inr h) = mark_less b a (inr (nat_cmp_total.antisymm b.relation a.relation ∙ ap ordering_reverse h.0, greater_back a.row b.row h.1))

-- marks that tie are on one row
mark_key : (a b : Mark) → mark_cmp a b ≡ Equal → (a.relation ≡ b.relation) × (a.row ≡ b.row)
mark_key a b h = let k = split_equal (nat_cmp a.relation b.relation) (row_cmp a.row b.row) h in (nat_cmp-IsAntisymmetric a.relation b.relation k.0, rows_exact a.row b.row k.1)

-- ---- marks stay ascending

each_mark : (P Q : Mark → Type 0) → ((m : Mark) → P m → Q m) → (marks : Marks) → AllByRecursion P marks → AllByRecursion Q marks
each_mark P Q f [] h = tt
each_mark P Q f (m ∷ marks) h = (f m h.0, each_mark P Q f marks h.1)

each_with_mark : (P : Mark → Type 0) (marks : Marks) (m : Mark) → AllByRecursion P marks → P m → AllByRecursion P (with_mark marks m)
each_with_mark P [] m h k = (k, tt)
each_with_mark P (n ∷ marks) m h k =
    elim (mark_cmp n m) as (λ o. AllByRecursion P (by_order o (n ∷ with_mark marks m) (m ∷ marks) (m ∷ (n ∷ marks)))) [
      | Less ↦ (h.0, each_with_mark P marks m h.1 k)
      | Equal ↦ (k, h.1)
      | Greater ↦ (k, h)
    ]

-- a mark in the place of one that ties with it
same_place : (n m : Mark) (marks : Marks) → mark_cmp n m ≡ Equal → AllByRecursion (λ x. mark_cmp n x ≡ Less) marks → AllByRecursion (λ x. mark_cmp m x ≡ Less) marks
same_place n m marks h all =
    let k = mark_key n m h in
    each_mark (λ x. mark_cmp n x ≡ Less) (λ x. mark_cmp m x ≡ Less) (λ x e. ap (λ (r : ℕ). by_order (nat_cmp r x.relation) Less (row_cmp m.row x.row) Greater) (sym k.0) ∙ ap (λ (r : Row). by_order (nat_cmp n.relation x.relation) Less (row_cmp r x.row) Greater) (sym k.1) ∙ e) marks all

pub AreMarks-with_mark : (marks : Marks) (m : Mark) → AreMarks marks → AreMarks (with_mark marks m)
AreMarks-with_mark [] m h = (tt, tt)
AreMarks-with_mark (n ∷ marks) m h =
    elim (mark_cmp n m) as (λ o. mark_cmp n m ≡ o → AreMarks (by_order o (n ∷ with_mark marks m) (m ∷ marks) (m ∷ (n ∷ marks)))) [
      | Less ↦ λ e. (each_with_mark (λ x. mark_cmp n x ≡ Less) marks m h.0 e, AreMarks-with_mark marks m h.1)
      | Equal ↦ λ e. (same_place n m marks e h.0, h.1)
      | Greater ↦ λ e. ((mark_back n m e, each_mark (λ x. mark_cmp n x ≡ Less) (λ x. mark_cmp m x ≡ Less) (λ x k. mark_trans m n x (mark_back n m e) k) marks h.0), h)
    ] refl

-- ---- the mark on a row

abbrev is_on : Mark → ℕ → Row → Bool
is_on m relation row = m.relation == relation && is_eq (row_cmp m.row row)

abbrev sign_if : Bool → Bool → Option Bool
sign_if b plus = if b then Some plus else None

both : (a b : Bool) → (a && b) ≡ true → (a ≡ true) × (b ≡ true)
both true b h = (refl, h)
both false b h = absurd cc

on_is : (m : Mark) (relation : ℕ) (row : Row) → is_on m relation row ≡ true → (m.relation ≡ relation) × (m.row ≡ row)
on_is m relation row h =
    let k = both (m.relation == relation) (is_eq (row_cmp m.row row)) h in
    (eqb-true m.relation relation k.0, same_is m.row row k.1)

less_not_equal : (o : Ordering) → o ≡ Less → o ≡ Equal → ⊥
less_not_equal o h k = cc

-- a mark that is above another isn't on its row
above_off : (m n : Mark) (relation : ℕ) (row : Row) → mark_cmp m n ≡ Less → is_on m relation row ≡ true → is_on n relation row ≡ false
above_off m n relation row less here = go (is_on n relation row) refl
  where
    go : (b : Bool) → is_on n relation row ≡ b → b ≡ false
    go false e = refl
    go true e =
        let a = on_is m relation row here in
        let b = on_is n relation row e in
        let same_relation : nat_cmp m.relation n.relation ≡ Equal = ap (nat_cmp m.relation) (b.0 ∙ sym a.0) ∙ tied_itself nat_cmp_total m.relation in
        let same_row : row_cmp m.row n.row ≡ Equal = ap (row_cmp m.row) (b.1 ∙ sym a.1) ∙ cmp_itself m.row in
        let tie : mark_cmp m n ≡ Equal = ap (λ z. by_order z Less (row_cmp m.row n.row) Greater) same_relation ∙ same_row in
        absurd (less_not_equal (mark_cmp m n) less tie)

above_none : (m : Mark) (marks : Marks) (relation : ℕ) (row : Row) → AllByRecursion (λ n. mark_cmp m n ≡ Less) marks → is_on m relation row ≡ true → mark_on marks relation row ≡ None
above_none m [] relation row all here = refl
above_none m (n ∷ marks) relation row all here =
    ap (λ o. later o (sign_if (is_on n relation row) n.plus)) (above_none m marks relation row all.1 here)
    ∙ ap (λ b. sign_if b n.plus) (above_off m n relation row all.0 here)

later_none : (o : Option Bool) → o ≡ later o None
later_none None = refl
later_none (Some p) = refl

later_assoc : (x y z : Option Bool) → later (later x y) z ≡ later x (later y z)
later_assoc None y z = refl
later_assoc (Some p) y z = refl

-- where the mark is on the row no other is; else it says nothing
place_front : (b plus : Bool) (o : Option Bool) → (b ≡ true → o ≡ None) → later o (sign_if b plus) ≡ later (sign_if b plus) o
place_front true plus o none = ap (λ z. later z (Some plus)) (none refl)
place_front false plus o none = sym (later_none o)

pub mark_on-with_mark : (marks : Marks) (m : Mark) (relation : ℕ) (row : Row) → AreMarks marks → mark_on (with_mark marks m) relation row ≡ later (sign_if (is_on m relation row) m.plus) (mark_on marks relation row)
mark_on-with_mark [] m relation row h = later_none (sign_if (is_on m relation row) m.plus)
mark_on-with_mark (n ∷ marks) m relation row h =
    let on_m : Option Bool = sign_if (is_on m relation row) m.plus in
    let on_n : Option Bool = sign_if (is_on n relation row) n.plus in
    elim (mark_cmp n m) as (λ o. mark_cmp n m ≡ o → mark_on (by_order o (n ∷ with_mark marks m) (m ∷ marks) (m ∷ (n ∷ marks))) relation row ≡ later on_m (later (mark_on marks relation row) on_n)) [
      | Less ↦ λ e. ap (λ o. later o on_n) (mark_on-with_mark marks m relation row h.1) ∙ later_assoc on_m (mark_on marks relation row) on_n
      | Equal ↦ λ e. tied (is_on m relation row) refl (is_on n relation row) (is_on_same e)
      | Greater ↦ λ e. place_front (is_on m relation row) m.plus (later (mark_on marks relation row) on_n) (λ here. above_none m (n ∷ marks) relation row (mark_back n m e, each_mark (λ x. mark_cmp n x ≡ Less) (λ x. mark_cmp m x ≡ Less) (λ x k. mark_trans m n x (mark_back n m e) k) marks h.0) here)
    ] refl
  where
    is_on_same : mark_cmp n m ≡ Equal → is_on n relation row ≡ is_on m relation row
    is_on_same e = let k = mark_key n m e in ap (λ (r : ℕ). (r == relation) && is_eq (row_cmp n.row row)) k.0 ∙ ap (λ (r : Row). (m.relation == relation) && is_eq (row_cmp r row)) k.1

    tied : (b : Bool) → is_on m relation row ≡ b → (c : Bool) → is_on n relation row ≡ is_on m relation row → later (mark_on marks relation row) (sign_if (is_on m relation row) m.plus) ≡ later (sign_if (is_on m relation row) m.plus) (later (mark_on marks relation row) (sign_if (is_on n relation row) n.plus))
    tied true e c same =
        let none : mark_on marks relation row ≡ None = above_none n marks relation row h.0 (same ∙ e) in
        ap (λ o. later o (sign_if (is_on m relation row) m.plus)) none
        ∙ ap (λ b. sign_if b m.plus) e
        ∙ ap (λ b. later (sign_if b m.plus) (later (mark_on marks relation row) (sign_if (is_on n relation row) n.plus))) (sym e)
    tied false e c same =
        ap (λ b. later (mark_on marks relation row) (sign_if b m.plus)) e
        ∙ ap (λ b. later (mark_on marks relation row) (sign_if b n.plus)) (sym (same ∙ e))
        ∙ ap (λ b. later (sign_if b m.plus) (later (mark_on marks relation row) (sign_if (is_on n relation row) n.plus))) (sym e)

pub AreMarks-and_then : (a b : Marks) → AreMarks a → AreMarks (and_then a b)
AreMarks-and_then a [] h = h
AreMarks-and_then a (m ∷ b) h = AreMarks-and_then (with_mark a m) b (AreMarks-with_mark a m h)

pub mark_on-and_then : (a b : Marks) (relation : ℕ) (row : Row) → AreMarks a → mark_on (and_then a b) relation row ≡ later (mark_on b relation row) (mark_on a relation row)
mark_on-and_then a [] relation row h = refl
mark_on-and_then a (m ∷ b) relation row h =
    mark_on-and_then (with_mark a m) b relation row (AreMarks-with_mark a m h)
    ∙ ap (later (mark_on b relation row)) (mark_on-with_mark a m relation row h)
    ∙ sym (later_assoc (mark_on b relation row) (sign_if (is_on m relation row) m.plus) (mark_on a relation row))

-- ---- states with the same rows

above_has : (x y : Row) (rows : List Row) → row_cmp x y ≡ Less → AllByRecursion (λ s. row_cmp y s ≡ Less) rows → has_row (y ∷ rows) x ≡ false
above_has x y rows less all = ap (λ o. is_eq o || has_row rows x) (less_back x y less) ∙ none rows (below_all x y rows less all)
  where
    none : (rows : List Row) → AllByRecursion (λ s. row_cmp x s ≡ Less) rows → has_row rows x ≡ false
    none [] all = refl
    none (z ∷ rows) all = ap (λ o. is_eq o || has_row rows x) (less_back x z all.0) ∙ none rows all.1

not_there : (x : Row) (rows : List Row) → AllByRecursion (λ s. row_cmp x s ≡ Less) rows → has_row rows x ≡ false
not_there x [] all = refl
not_there x (z ∷ rows) all = ap (λ o. is_eq o || has_row rows x) (less_back x z all.0) ∙ not_there x rows all.1

there_first : (x : Row) (rows : List Row) → has_row (x ∷ rows) x ≡ true
there_first x rows = ap (λ b. b || has_row rows x) (itself x)

pub rows_same : (a b : List Row) → IsAscending a → IsAscending b → ((row : Row) → has_row a row ≡ has_row b row) → a ≡ b
rows_same [] [] up down same = refl
rows_same [] (y ∷ b) up down same = absurd (true≢false (sym (there_first y b) ∙ sym (same y)))
rows_same (x ∷ a) [] up down same = absurd (true≢false (sym (there_first x a) ∙ same x))
rows_same (x ∷ a) (y ∷ b) up down same =
    elim (row_cmp x y) as (λ o. row_cmp x y ≡ o → x ∷ a ≡ y ∷ b) [
      | Less ↦ λ e. absurd (true≢false (sym (there_first x a) ∙ same x ∙ above_has x y b e down.0))
      | Greater ↦ λ e. absurd (true≢false (sym (there_first y b) ∙ sym (same y) ∙ above_has y x a (greater_back x y e) up.0))
      | Equal ↦ λ e.
          let one : x ≡ y = rows_exact x y e in
          ap (λ (z : Row). z ∷ a) one ∙ ap (λ (zs : List Row). y ∷ zs) (rows_same a b up.1 down.1 (λ row. tails one row (is_eq (row_cmp x row)) refl))
    ] refl
  where
    tails : x ≡ y → (row : Row) (c : Bool) → is_eq (row_cmp x row) ≡ c → has_row a row ≡ has_row b row
    tails one row true e =
        let here : x ≡ row = same_is x row e in
        ap (has_row a) (sym here) ∙ not_there x a up.0 ∙ sym (not_there y b down.0) ∙ ap (has_row b) (sym one ∙ here)
    tails one row false e =
        ap (λ c. c || has_row a row) (sym e) ∙ same row ∙ ap (λ c. c || has_row b row) (ap (λ (z : Row). is_eq (row_cmp z row)) (sym one) ∙ e)

pub states_same : (s t : State) → map (λ (r : Relation). r.width) s ≡ map (λ (r : Relation). r.width) t → Rises s → Rises t → ((relation : ℕ) (row : Row) → relation < length s → has_row (rows_in s relation) row ≡ has_row (rows_in t relation) row) → s ≡ t
states_same [] [] wide up down same = refl
states_same [] (y ∷ t) wide up down same = absurd cc
states_same (x ∷ s) [] wide up down same = absurd cc
states_same (x ∷ s) (y ∷ t) wide up down same =
    let width : x.width ≡ y.width = cc in
    let rest : map (λ (r : Relation). r.width) s ≡ map (λ (r : Relation). r.width) t = cc in
    let rows : x.rows ≡ y.rows = rows_same x.rows y.rows up.0 down.0 (λ row. same 0 row (omega arith)) in
    ap (λ (w : ℕ). record { width = w; rows = x.rows } ∷ s) width
    ∙ ap (λ (r : List Row). record { width = y.width; rows = r } ∷ s) rows
    ∙ ap (λ (z : State). y ∷ z) (states_same s t rest up.1 down.1 (λ relation row h. same (suc relation) row (omega (arith, h))))

Rises-change : (n : ℕ) (m : Mark) (s : State) → Rises s → Rises (change n (write m) s)
Rises-change n m [] h = h
Rises-change zero m (x ∷ s) h = (risen m.plus, h.1)
  where
    risen : (b : Bool) → IsAscending (cond b (with_row x.rows m.row) (without_row x.rows m.row))
    risen true = ascending-with_row x.rows m.row h.0
    risen false = ascending-filter _ x.rows h.0
Rises-change (suc n) m (x ∷ s) h = (h.0, Rises-change n m s h.1)

Rises-laid : (s : State) (marks : Marks) → Rises s → Rises (laid s marks)
Rises-laid s [] h = h
Rises-laid s (m ∷ marks) h = Rises-laid (lay s m) marks (Rises-change m.relation m s h)

widths-change : (n : ℕ) (f : List Row → List Row) (s : State) → map (λ (r : Relation). r.width) (change n f s) ≡ map (λ (r : Relation). r.width) s
widths-change n f [] = refl
widths-change zero f (x ∷ s) = refl
widths-change (suc n) f (x ∷ s) = ap (λ (ws : List ℕ). x.width ∷ ws) (widths-change n f s)

pub same_widths : (s : State) (marks : Marks) → map (λ (r : Relation). r.width) (laid s marks) ≡ map (λ (r : Relation). r.width) s
same_widths s [] = refl
same_widths s (m ∷ marks) = same_widths (lay s m) marks ∙ widths-change m.relation (write m) s

length-laid : (s : State) (marks : Marks) → length (laid s marks) ≡ length s
length-laid s [] = refl
length-laid s (m ∷ marks) = length-laid (lay s m) marks ∙ change_length m.relation (write m) s

both_laid : (x y : Option Bool) (b : Bool) → unwrap_or x (unwrap_or y b) ≡ unwrap_or (later x y) b
both_laid None y b = refl
both_laid (Some p) y b = refl

pub laid_twice : LaidTwice
laid_twice s a b up ascending =
    states_same (laid (laid s a) b) (laid s (and_then a b))
    (same_widths (laid s a) b ∙ same_widths s a ∙ sym (same_widths s (and_then a b)))
    (Rises-laid (laid s a) b (Rises-laid s a up))
    (Rises-laid s (and_then a b) up)
    (λ relation row h.
    let in_a : relation < length (laid s a) = omega (arith, h, length-laid (laid s a) b) in
    let in_s : relation < length s = omega (arith, in_a, length-laid s a) in
    laid_has (laid s a) b relation row in_a
    ∙ ap (unwrap_or (mark_on b relation row)) (laid_has s a relation row in_s)
    ∙ both_laid (mark_on b relation row) (mark_on a relation row) (has_row (rows_in s relation) row)
    ∙ ap (λ o. unwrap_or o (has_row (rows_in s relation) row)) (sym (mark_on-and_then a b relation row ascending))
    ∙ sym (laid_has s (and_then a b) relation row in_s))
