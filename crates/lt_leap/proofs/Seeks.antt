-- One seek of a join that goes round the places of a list.
use Rattle.std.proofs.Common.{◌≡◌, ◌≢◌, ℕ, ◌+◌, ◌<◌, ◌≤◌, ◌^◌, List, ◌++◌, length, get_or, set, take, drop, refl, sym, ap, subst, ◌∙◌, inl, inr, arith}
use Rattle.std.proofs.lemmas.Bool.{cases_lt}
use Rattle.std.proofs.lemmas.List.{length-map}
use Rattle.lt_face.specs.declared.key.Gap.{Gap}
use Rattle.lt_face.specs.Keys.{end_key, least_from, IsKeyList}
use Rattle.lt_face.specs.Lists.{IsIn}
use Rattle.lt_leap.specs.Moves.{IsMove}
use Rattle.lt_leap.specs.Places.{ArePlaces, lists_at, heres_at, turned}
use Rattle.lt_leap.specs.Potential.{moves_left}
use Rattle.lt_leap.specs.Ring.{keys_at, IsRing}
use Rattle.lt_leap.specs.Search.{IsGapOf}
use Rattle.lt_leap.proofs.Advanced.{Advanced, advanced}
use Rattle.lt_leap.proofs.AtPlaces.{here_in, keys_in, is_in, each_within, heres-set}
use Rattle.lt_leap.proofs.Exact.{none_between}
use Rattle.lt_leap.proofs.Rounds.{turned-next, turned-round}

-- where the iterator whose turn it is sought the bound
pub record Seeks (lists : List (List ℕ)) (places heres : List ℕ) (turn to : ℕ) (gap : Gap) (heres' : List ℕ) (turn' : ℕ) : Type 0 where
  pub turn_in : turn < length places
  pub next_in : turn' < length places
  pub lo : gap.lo ≡ to
  pub hi : gap.hi ≡ least_from (keys_at (lists_at lists places) turn) to
  pub landed : heres' ≡ set heres (get_or places turn 0) gap.hi
  pub moved : heres_at heres' places ≡ set (heres_at heres places) turn (least_from (keys_at (lists_at lists places) turn) to)
  pub went : turned (length places) turn' ≡ drop 1 (turned (length places) turn) ++ take 1 (turned (length places) turn)
  pub is_move : IsMove lists heres (get_or places turn 0, gap)
  pub is_move_at : IsMove (lists_at lists places) (heres_at heres places) (turn, gap)
  pub at_place : IsIn (get_or places turn 0) places
  pub none : IsGapOf lists (get_or places turn 0, gap)
  pub after : Advanced (lists_at lists places) (heres_at heres places) (turned (length places) turn) to (heres_at heres' places) (turned (length places) turn')

pub turn_within : (lists : List (List ℕ)) (places heres : List ℕ) (turn : ℕ) → IsRing (lists_at lists places) (heres_at heres places) (turned (length places) turn) → turn < length places
turn_within lists places heres turn is = (let within = is.in_range 0 is.some in let long = length-map places (λ place. get_or heres place 0) in omega arith)

pub place_within : (places : List ℕ) (count turn : ℕ) → ArePlaces places count → turn < length places → get_or places turn 0 < count
place_within places count turn are lt = each_within (λ place. place < count) places turn are.within lt

pub seeks : (lists : List (List ℕ)) (places heres : List ℕ) (turn to : ℕ) (gap : Gap) (heres' : List ℕ) (turn' : ℕ)
    → ArePlaces places (length heres) → length lists ≡ length heres → IsRing (lists_at lists places) (heres_at heres places) (turned (length places) turn)
    → ((i : ℕ) → i < length places → get_or (heres_at heres places) i 0 ≤ to) → to ≤ 2 ^ 120 → get_or heres (get_or places turn 0) 0 ≢ end_key
    → heres' ≡ set heres (get_or places turn 0) (least_from (keys_at lists (get_or places turn 0)) to) → gap.lo ≡ to → gap.hi ≡ least_from (keys_at lists (get_or places turn 0)) to
    → (turn + 1 < length places → turn' ≡ turn + 1) → (turn + 1 ≡ length places → turn' ≡ 0) → Seeks lists places heres turn to gap heres' turn'
seeks lists places heres turn to gap heres' turn' are listed is ahead low goes landed lo hi next round =
    let place = get_or places turn 0 in
    let y = least_from (keys_at lists place) to in
    let long : length (heres_at heres places) ≡ length places = length-map places (λ place. get_or heres place 0) in
    let turn_in : turn < length places = turn_within lists places heres turn is in
    let place_in : place < length heres = place_within places (length heres) turn are turn_in in
    let keys : keys_at (lists_at lists places) turn ≡ keys_at lists place = keys_in lists places turn turn_in in
    let same : y ≡ least_from (keys_at (lists_at lists places) turn) to = ap (λ ks. least_from ks to) (sym keys) in
    let keyed : IsKeyList (keys_at lists place) = subst IsKeyList keys (is.keyed turn (omega arith)) in
    let here : get_or (heres_at heres places) turn 0 ≡ get_or heres place 0 = here_in heres places turn turn_in in
    let under : get_or (heres_at heres places) turn 0 ≤ to = ahead turn turn_in in
    let moved : heres_at heres' places ≡ set (heres_at heres places) turn (least_from (keys_at (lists_at lists places) turn) to) =
    ap (λ hs. heres_at hs places) landed ∙ heres-set heres places turn y are.distinct turn_in place_in ∙ ap (set (heres_at heres places) turn) same in
    let went : turned (length places) turn' ≡ drop 1 (turned (length places) turn) ++ take 1 (turned (length places) turn) = elim (cases_lt (turn + 1) (length places)) [
      | inl less ↦ ap (turned (length places)) (next less) ∙ sym (turned-next (length places) turn less)
      | inr more ↦ (let last : turn + 1 ≡ length places = omega arith in ap (turned (length places)) (round last) ∙ sym (turned-round (length places) turn last))
    ] in
    let lands : gap.hi ≡ least_from (keys_at (lists_at lists places) turn) to = hi ∙ same in
    record {
      turn_in = turn_in;
      next_in = elim (cases_lt (turn + 1) (length places)) [ inl less ↦ (let e = next less in omega arith) | inr more ↦ (let e = round (omega arith) in omega arith) ];
      lo = lo;
      hi = lands;
      landed = landed ∙ ap (set heres place) (sym hi);
      moved = moved;
      went = went;
      is_move = record { within = place_in; goes_on = goes; ahead = omega arith; lands = hi ∙ ap (least_from (keys_at lists place)) (sym lo) };
      is_move_at = record { within = omega arith; goes_on = (λ h. goes (sym here ∙ h)); ahead = omega arith; lands = lands ∙ ap (least_from (keys_at (lists_at lists places) turn)) (sym lo) };
      at_place = is_in places turn turn_in;
      none = (omega arith, λ k le lt. none_between (keys_at lists place) to k keyed (omega arith) (omega arith));
      after = advanced (lists_at lists places) (heres_at heres places) (turned (length places) turn) to (heres_at heres' places) (turned (length places) turn') is (λ i lt. ahead i (omega arith)) low moved went;
    }

-- some turn is behind
pub a_next : (count turn : ℕ) → (next : ℕ) × (turn + 1 < count → next ≡ turn + 1) × (turn + 1 ≡ count → next ≡ 0)
a_next count turn = elim (cases_lt (turn + 1) count) [
  | inl less ↦ (turn + 1, (λ h. refl), (λ h. absurd (omega arith)))
  | inr more ↦ (0, (λ h. absurd (omega arith)), (λ h. refl))
]

-- where the bound was above the one whose turn it is, fewer moves can come
pub fewer : (lists : List (List ℕ)) (places heres : List ℕ) (turn to : ℕ) (gap : Gap) (heres' : List ℕ) (turn' : ℕ) → Seeks lists places heres turn to gap heres' turn'
    → get_or (heres_at heres places) turn 0 < to → (i : ℕ) → i < length places
    → moves_left (lists_at lists places) (heres_at heres' places) (turned (length places) turn') i < moves_left (lists_at lists places) (heres_at heres places) (turned (length places) turn) i
fewer lists places heres turn to gap heres' turn' k rose i lt =
    let long = length-map places (λ place. get_or heres place 0) in
    k.after.left k.is_move_at.goes_on rose i (omega arith)
