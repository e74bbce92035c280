-- The look-ups of the keys of rows, one after another.
use Rattle.std.proofs.Common.{◌≡◌, ℕ, zero, suc, ◌+◌, ◌≤◌, ◌<◌, List, [], ◌∷◌, ◌++◌, length, get_or, slice_get, Option, Some, refl, sym, ap, subst, ◌∙◌, arith}
use Rattle.std.specs.Prelude.{take, filter, flat_map, not}
use Rattle.std.specs.List.{AllByRecursion, sum_by}
use Rattle.std.proofs.lemmas.List.{take_more, take_all, append-nil, append_assoc}
use Rattle.std.proofs.lemmas.List.Sums.{sum_by_push, sum_by-take-le}
use Rattle.lt_face.specs.Rows.{IsRow}
use Rattle.lt_face.specs.State.{Row, Relation, State, rows_of, rows_in}
use Rattle.lt_face.proofs.RowLemmas.{each_weaker}
use Rattle.lt_model.specs.Answers.{answers, ascending}
use Rattle.lt_model.specs.Effect.{same_row, key_terms, key_body, displaced_by, displaced}
use Rattle.lt_model.specs.Fits.{IsWide}
use Rattle.lt_model.specs.State.{IsState}
use Rattle.lt_query.proofs.Displaced.{key_rows}
use Rattle.lt_sense.specs.Kept.{Sense}
use Rattle.lt_sense.specs.Sense.{IsTight}
use Rattle.lt_join.specs.Certify.{Certifies}
use Rattle.lt_join.specs.Walked.{Grows}
use Rattle.lt_query.specs.Lists.{below}
use Rattle.lt_query.specs.Runnable.{AreWide}
use Rattle.lt_join.proofs.Repair.{All_at}
use Rattle.lt_join.proofs.LookingUp.{length_below, Grows-none, Grows-both}
use Rattle.lt_program.specs.Displacing.{AreOwn, with_key}
use Rattle.lt_program.proofs.IndexesMade.{in_place}
use Rattle.lt_program.proofs.Widths.{width_at}
use Rattle.lt_program.proofs.SenseGrows.{certified_grows}

-- ---- one look-up

pub relation_wide : (state : State) (relation width : ℕ) (r : Relation) → slice_get state relation ≡ Some r → IsWide state relation width → r.width ≡ width
relation_wide [] zero width r is wide = absurd (cc)
relation_wide [] (suc relation) width r is wide = absurd (cc)
relation_wide (x ∷ state) zero width r is wide = let same : x ≡ r = cc in ap (λ (y : Relation). y.width) (sym same) ∙ some_is x.width width wide
  where
    some_is : (a b : ℕ) → Some a ≡ Some b → a ≡ b
    some_is a b e = cc
relation_wide (x ∷ state) (suc relation) width r is wide = relation_wide state relation width r is wide

module _ (state : State) (is : IsState state) (relation keys width : ℕ) (wide : IsWide state relation width) (row : Row) (r : Relation) (there : slice_get state relation ≡ Some r) (fits : IsRow width row) (le : keys ≤ width) (alike : List Row) (found : alike ≡ with_key keys row r.rows) where
  pub found_in : alike ≡ with_key keys row (rows_in state relation)
  found_in = found ∙ sym (ap (λ (o : Option Relation). with_key keys row (rows_of o)) there)

  answered_key : answers (key_terms keys row) (key_body relation keys row) state ≡ with_key keys row (rows_in state relation)
  answered_key = key_rows relation keys state row is (subst (IsWide state relation) (sym fits.is_wide) wide) (omega (arith, le, fits.is_wide))

  pub others_displaced : (old new : List Row) → new ≡ old ++ filter (λ other. not (same_row other row)) alike → new ≡ old ++ displaced_by relation keys state row
  others_displaced old new so = so ∙ ap (λ (rs : List Row). old ++ filter (λ other. not (same_row other row)) rs) (found_in ∙ sym answered_key)

pub key_cost : (state : State) (relation keys width old new : ℕ) (row : Row) (r : Relation) → IsState state → IsWide state relation width → slice_get state relation ≡ Some r → IsRow width row → keys ≤ width
    → new ≤ old + (1 + length (with_key keys row r.rows)) → new ≤ old + (1 + length (answers (key_terms keys row) (key_body relation keys row) state))
key_cost state relation keys width old new row r is wide there fits le h =
    let same : with_key keys row r.rows ≡ answers (key_terms keys row) (key_body relation keys row) state =
    found_in state is relation keys width wide row r there fits le (with_key keys row r.rows) refl ∙ sym (answered_key state is relation keys width wide row r there fits le (with_key keys row r.rows) refl) in
    subst (λ (rs : List Row). new ≤ old + (1 + length rs)) same h

-- the columns in their own order
pub own_all : (state : State) (relation width : ℕ) (columns : List ℕ) → AreWide state → IsWide state relation width → columns ≡ below width → AreOwn columns × (length columns ≡ width)
own_all state relation width columns all wide is =
    let long : length columns ≡ width = ap length is ∙ length_below width in
    let few : width ≤ 8 = width_at state relation width all wide in
    (record { order = is ∙ ap below (sym long); few = omega (arith, long, few) }, long)

-- ---- one after another

abbrev pub cost_of : State → ℕ → ℕ → Row → ℕ
cost_of state relation keys row = 1 + length (answers (key_terms keys row) (key_body relation keys row) state)

-- those of the first of the rows are made
pub record AreLookedTo (state : State) (relation keys : ℕ) (come : List Row) (i : ℕ) (old new : Sense) (items : List Row) (begun now : ℕ) : Type 0 where
  pub rows : items ≡ flat_map (displaced_by relation keys state) (take i come)
  pub grows : Grows old new
  pub certified : AllByRecursion (λ row. Certifies new (key_body relation keys row) state) (take i come)
  pub tight : IsTight old state → IsTight new state
  pub cost : now ≤ begun + sum_by (cost_of state relation keys) (take i come)
  pub moves : begun ≤ now

pub looked_begin : (state : State) (relation keys : ℕ) (come : List Row) (sense : Sense) (items : List Row) (begun : ℕ) → items ≡ [] → AreLookedTo state relation keys come 0 sense sense items begun begun
looked_begin state relation keys come sense items begun none = record { rows = none; grows = Grows-none sense; certified = tt; tight = λ h. h; cost = omega arith; moves = omega arith }

flat_push : (f : Row → List Row) (xs : List Row) (x : Row) → flat_map f (xs ++ x ∷ []) ≡ flat_map f xs ++ f x
flat_push f [] x = append-nil (f x)
flat_push f (y ∷ xs) x = ap (λ (rs : List Row). f y ++ rs) (flat_push f xs x) ∙ sym (append_assoc (f y) (flat_map f xs) (f x))

all_push : {X : Type 0} (P : X → Type 0) (xs : List X) (x : X) → AllByRecursion P xs → P x → AllByRecursion P (xs ++ x ∷ [])
all_push P [] x h k = (k, tt)
all_push P (y ∷ xs) x h k = (h.0, all_push P xs x h.1 k)

module _ (state : State) (relation keys : ℕ) (come : List Row) (i : ℕ) (row : Row) (lt : i < length come) (is : row ≡ get_or come i row) (old mid new : Sense) (items : List Row) (begun at : ℕ) (far : AreLookedTo state relation keys come i old mid items begun at) where
  one : take (i + 1) come ≡ take i come ++ row ∷ []
  one = take_more come i row lt ∙ ap (λ (r : Row). take i come ++ r ∷ []) (sym is)

  pub looked_next : (more : List Row) (now : ℕ) → more ≡ items ++ displaced_by relation keys state row → Grows mid new → Certifies new (key_body relation keys row) state → (IsTight mid state → IsTight new state) → now ≤ at + cost_of state relation keys row → at ≤ now
      → AreLookedTo state relation keys come (i + 1) old new more begun now
  looked_next more now so grows certified tight cost moves =
      let n = ap (sum_by (cost_of state relation keys)) one ∙ sum_by_push (cost_of state relation keys) (take i come) row in
      record {
        rows = so ∙ (ap (λ (rs : List Row). rs ++ displaced_by relation keys state row) far.rows ∙ sym (ap (flat_map (displaced_by relation keys state)) one ∙ flat_push (displaced_by relation keys state) (take i come) row));
        grows = Grows-both old mid new far.grows grows;
        certified = subst (AllByRecursion (λ (r : Row). Certifies new (key_body relation keys r) state)) (sym one)
            (all_push (λ (r : Row). Certifies new (key_body relation keys r) state) (take i come) row
            (each_weaker (λ (r : Row). Certifies mid (key_body relation keys r) state) (λ (r : Row). Certifies new (key_body relation keys r) state) (λ r h. certified_grows mid new grows (key_body relation keys r) state h) (take i come) far.certified) certified);
        tight = λ h. tight (far.tight h);
        cost = omega (arith, far.cost, cost, n);
        moves = omega (arith, far.moves, moves);
      }

pub looked_within : (state : State) (relation keys : ℕ) (come : List Row) (i : ℕ) (old new : Sense) (items : List Row) (begun now : ℕ) → AreLookedTo state relation keys come i old new items begun now → now ≤ begun + sum_by (cost_of state relation keys) come
looked_within state relation keys come i old new items begun now far = let e = sum_by-take-le (cost_of state relation keys) come i in omega (arith, far.cost, e)

-- a look-up that was refused
pub looked_err : (state : State) (relation keys : ℕ) (come : List Row) (i : ℕ) (row : Row) (old mid : Sense) (items : List Row) (begun at now : ℕ) → i < length come → row ≡ get_or come i row → AreLookedTo state relation keys come i old mid items begun at → now ≤ at + cost_of state relation keys row
    → now ≤ begun + sum_by (cost_of state relation keys) come
looked_err state relation keys come i row old mid items begun at now lt is far cost =
    let n = ap (sum_by (cost_of state relation keys)) (one state relation keys come i row lt is old mid mid items begun at far) ∙ sum_by_push (cost_of state relation keys) (take i come) row in
    let e = sum_by-take-le (cost_of state relation keys) come (i + 1) in omega (arith, far.cost, cost, n, e)

pub looked_whole : (state : State) (relation keys : ℕ) (come : List Row) (i : ℕ) (old new : Sense) (items : List Row) (begun now : ℕ) → length come ≤ i → AreLookedTo state relation keys come i old new items begun now
    → (ascending items ≡ displaced relation keys state come) × AllByRecursion (λ row. Certifies new (key_body relation keys row) state) come
looked_whole state relation keys come i old new items begun now le far =
    let all : take i come ≡ come = take_all i come le in (
      ap ascending (far.rows ∙ ap (flat_map (displaced_by relation keys state)) all),
      subst (AllByRecursion (λ (row : Row). Certifies new (key_body relation keys row) state)) all far.certified,
    )

-- the row at a place of a slice
pub row_there : (P : Row → Type 0) (come all : List Row) (i : ℕ) (row : Row) → all ≡ come → i < length all → row ≡ get_or all i row → AllByRecursion P come → P row × (i < length come) × (row ≡ get_or come i row)
row_there P come all i row same lt is each =
    let there : i < length come = subst (λ (rs : List Row). i < length rs) same lt in
    let at : row ≡ get_or come i row = subst (λ (rs : List Row). row ≡ get_or rs i row) same is in
    (All_at P come row each (in_place come i row there at), there, at)
