-- What a join round the places of a list keeps from turn to turn, and what it gives in the end.
use Rattle.std.proofs.Common.{◌≡◌, ◌≢◌, ℕ, ◌+◌, ◌-◌, ◌<◌, ◌≤◌, ◌^◌, List, length, get_or, map, Some, None, Result, Ok, Err, IfOk, refl, sym, ap, subst, ◌∙◌, inl, arith, slice_get, length-set}
use Rattle.std.specs.List.{AllByRecursion}
use Rattle.std.proofs.lemmas.List.{length-map}
use Rattle.lt_face.specs.declared.key.Gap.{Gap}
use Rattle.lt_face.specs.Keys.{end_key, least_from}
use Rattle.lt_leap.specs.Common.{common_keys}
use Rattle.lt_leap.specs.Moves.{Leads}
use Rattle.lt_leap.specs.Places.{ArePlaces, lists_at, heres_at, turned, last_of, AreToldMoves}
use Rattle.lt_leap.specs.Potential.{moves_left}
use Rattle.lt_leap.specs.Ring.{IsRing}
use Rattle.lt_leap.specs.Search.{NonePassed}
use Rattle.lt_leap.proofs.AtPlaces.{here_in, each_within, all_each}
use Rattle.lt_leap.proofs.EachMoved.{each-moved}
use Rattle.lt_leap.proofs.Rounds.{turned-long, turned-last}
use Rattle.lt_leap.proofs.Searched.{Searching, searching-none, searching-turned, left_turned, low_greatest, to_last, searched, none_below, all_at, key_in}
use Rattle.lt_leap.proofs.Seeks.{Seeks, turn_within}
use Rattle.lt_leap.proofs.Sought.{Went, went}
use Rattle.lt_leap.proofs.Telling.{moves-none, moves-more, moves-first}

module _ {P I : Type 0} (takes : P → ℕ → I → Gap → P → Type 0) (iters : List I) (lists : List (List ℕ)) (places heres₀ : List ℕ) (turn₀ : ℕ) (p₀ : P) (moves₀ : ℕ) where
  pub record Meets (heres : List ℕ) (turn : ℕ) (p : P) (moves least greatest : ℕ) : Type 0 where
    pub long : length heres ≡ length heres₀
    pub state : Searching (lists_at lists places) (heres_at heres₀ places) (turned (length places) turn₀) moves₀ None (length (turned (length places) turn₀) - 1)
        (heres_at heres places) (turned (length places) turn) moves None least greatest
    pub made : AreToldMoves takes iters lists places heres₀ heres p₀ p (last_of (heres_at heres₀ places) (turned (length places) turn₀)) greatest moves₀ moves

  pub meets-none : (before least greatest : ℕ) → IsRing (lists_at lists places) (heres_at heres₀ places) (turned (length places) turn₀)
      → (turn₀ ≡ 0 → before + 1 ≡ length places) → (0 < turn₀ → before + 1 ≡ turn₀)
      → least ≡ get_or heres₀ (get_or places turn₀ 0) 0 → greatest ≡ get_or heres₀ (get_or places before 0) 0 → greatest ≤ end_key → Meets heres₀ turn₀ p₀ moves₀ least greatest
  meets-none before least greatest is start more l g within =
      let ring = turned (length places) turn₀ in
      let turn_in : turn₀ < length places = turn_within lists places heres₀ turn₀ is in
      let long = turned-long (length places) turn₀ turn_in in
      let last : get_or ring (length ring - 1) 0 ≡ before = turned-last (length places) turn₀ before turn_in start more in
      let before_in : before < length places = (let w = is.in_range (length ring - 1) (omega arith) in let n = length-map places (λ place. get_or heres₀ place 0) in omega arith) in
      let g' : greatest ≡ key_in (heres_at heres₀ places) ring (length ring - 1) = g ∙ sym (here_in heres₀ places before before_in) ∙ ap (λ t. get_or (heres_at heres₀ places) t 0) (sym last) in
      record {
        long = refl;
        state = searching-none (lists_at lists places) (heres_at heres₀ places) ring moves₀ None (length ring - 1) least greatest is (omega arith) (l ∙ sym (here_in heres₀ places turn₀ turn_in)) g' within;
        made = subst (λ stop. AreToldMoves takes iters lists places heres₀ heres₀ p₀ p₀ (last_of (heres_at heres₀ places) ring) stop moves₀ moves₀) (sym g')
            (moves-none takes iters lists places heres₀ p₀ (last_of (heres_at heres₀ places) ring) moves₀);
      }

  module _ (heres : List ℕ) (turn : ℕ) (p : P) (moves least greatest : ℕ) (m : Meets heres turn p moves least greatest) where
    pub turn_in : turn < length places
    turn_in = turn_within lists places heres turn m.state.is_ring

    pub under_greatest : (i : ℕ) → i < length places → get_or (heres_at heres places) i 0 ≤ greatest
    under_greatest i lt =
        let n = length-map places (λ place. get_or heres place 0) in
        let le = to_last (lists_at lists places) (heres_at heres places) (turned (length places) turn) _ m.state.is_ring m.state.last_is i (omega arith) in
        let g = m.state.greatest_is in
        omega arith

    pub at_turn : get_or heres (get_or places turn 0) 0 ≤ greatest
    at_turn = (let e = here_in heres places turn turn_in in let u = under_greatest turn turn_in in omega arith)

    pub low : greatest ≢ end_key → greatest ≤ 2 ^ 120
    low goes = low_greatest (lists_at lists places) (heres_at heres places) (turned (length places) turn) _ greatest m.state.is_ring m.state.last_is m.state.greatest_is goes

    pub goes_on : least ≢ greatest → get_or heres (get_or places turn 0) 0 ≢ end_key
    goes_on differ at_end =
        let e = here_in heres places turn turn_in in
        let l = m.state.least_is in
        let u = at_turn in
        let w = m.state.within in
        differ (omega arith)

    pub meets-more : (gap : Gap) (heres' : List ℕ) (turn' : ℕ) (p' : P) (moves' least' : ℕ) (iter : I) → Seeks lists places heres turn greatest gap heres' turn' → least ≢ greatest → greatest ≢ end_key
        → slice_get iters (get_or places turn 0) ≡ Some iter → takes p (get_or places turn 0) iter gap p' → moves' ≡ moves + 1 → least' ≡ get_or heres' (get_or places turn' 0) 0 → gap.hi ≤ end_key
        → Meets heres' turn' p' moves' least' gap.hi
    meets-more gap heres' turn' p' moves' least' iter k differ goes at one counted l within =
        let ring = turned (length places) turn in
        let ring' = turned (length places) turn' in
        let last = length (turned (length places) turn₀) - 1 in
        let last_at : length ring' - 1 ≡ last =
        (let a = turned-long (length places) turn k.turn_in in let b = turned-long (length places) turn' k.next_in in let c = m.state.last_is in omega arith) in
        let g : gap.hi ≡ key_in (heres_at heres' places) ring' last = k.hi ∙ sym k.after.last_is ∙ ap (key_in (heres_at heres' places) ring') last_at in
        record {
          long = ap length k.landed ∙ length-set heres (get_or places turn 0) gap.hi ∙ m.long;
          state = rw counted
              (searching-turned (lists_at lists places) (heres_at heres₀ places) (turned (length places) turn₀) moves₀ None last (heres_at heres places) ring moves None None least greatest least' gap.hi gap
              (heres_at heres' places) ring' m.state differ goes k.moved k.went k.lo k.hi k.is_move_at (inl refl) (l ∙ sym (here_in heres' places turn' k.next_in)) g within);
          made = rw (counted, k.landed) (moves-more takes iters lists places (get_or places turn 0) iter gap at k.at_place k.none heres₀ heres p₀ p p' _ greatest moves₀ moves m.made k.is_move k.lo one);
        }

    pub smaller : (gap : Gap) (heres' : List ℕ) (turn' : ℕ) (now before : List (List ℕ)) → now ≡ lists → before ≡ lists → Seeks lists places heres turn greatest gap heres' turn' → least ≢ greatest → greatest ≢ end_key
        → moves_left (lists_at now places) (heres_at heres' places) (turned (length places) turn') 0 < moves_left (lists_at before places) (heres_at heres places) (turned (length places) turn) 0
    smaller gap heres' turn' now before same was k differ goes =
        let n = length-map places (λ place. get_or heres place 0) in
        let t = turn_in in
        let s = m.state in
        rw (same, was)
        (left_turned (lists_at lists places) (heres_at heres places) (turned (length places) turn) (heres_at heres' places) (turned (length places) turn') _ least greatest
        s.is_ring s.last_is s.least_is s.greatest_is s.within differ goes k.moved k.went 0 (omega arith))

    -- also where a gap could not be told
    pub within_at_failure : (gap : Gap) (heres' : List ℕ) (turn' moves' : ℕ) → Seeks lists places heres turn greatest gap heres' turn' → least ≢ greatest → greatest ≢ end_key → moves' ≡ moves + 1
        → (i : ℕ) → i < length places → moves' ≤ moves₀ + moves_left (lists_at lists places) (heres_at heres₀ places) (turned (length places) turn₀) i
    within_at_failure gap heres' turn' moves' k differ goes counted i lt =
        let n = length-map places (λ place. get_or heres place 0) in
        let s = m.state in
        let was = s.left i (omega arith) in
        let less = left_turned (lists_at lists places) (heres_at heres places) (turned (length places) turn) (heres_at heres' places) (turned (length places) turn') _ least greatest
        s.is_ring s.last_is s.least_is s.greatest_is s.within differ goes k.moved k.went i (omega arith) in
        omega arith

    -- ---- where it ends

    pub left_at_end : (i : ℕ) → i < length places → moves + moves_left (lists_at lists places) (heres_at heres places) (turned (length places) turn) i
        ≤ moves₀ + moves_left (lists_at lists places) (heres_at heres₀ places) (turned (length places) turn₀) i
    left_at_end i lt = (let n = length-map places (λ place. get_or heres place 0) in m.state.left i (omega arith))

    pub found_at_end : least ≡ greatest → AllByRecursion (λ here. here ≡ greatest) (heres_at heres places)
    found_at_end same = all_each (λ here. here ≡ greatest) (heres_at heres places)
        (all_at (lists_at lists places) (heres_at heres places) (turned (length places) turn) _ least greatest m.state.is_ring m.state.last_is m.state.least_is m.state.greatest_is same)

    pub exact_at_end : least ≡ greatest → (b : ℕ) → NonePassed (lists_at lists places) (heres_at heres₀ places) b
        → b ≤ last_of (heres_at heres₀ places) (turned (length places) turn₀) → greatest ≡ least_from (common_keys (lists_at lists places)) b
    exact_at_end same b none le = searched _ _ _ _ _ _ _ _ _ _ _ _ m.state (inl same) b none le

    pub none_at_end : (b : ℕ) → NonePassed (lists_at lists places) (heres_at heres₀ places) b
        → b ≤ last_of (heres_at heres₀ places) (turned (length places) turn₀) → greatest ≤ least_from (common_keys (lists_at lists places)) b
    none_at_end b none le = none_below _ _ _ _ _ _ _ _ _ _ _ _ m.state b none le

-- the one whose turn it is seeks the greatest key
pub going : {P I : Type 0} (takes : P → ℕ → I → Gap → P → Type 0) (iters : List I) (places heres₀ : List ℕ) (turn₀ : ℕ) (p₀ : P) (moves₀ : ℕ) (K : I → List ℕ) (H : I → ℕ) (S : I → I) (items old : List I) (turn : ℕ) (p : P) (moves least greatest : ℕ)
    → Meets takes iters (map K old) places heres₀ turn₀ p₀ moves₀ (map H items) turn p moves least greatest → (x d : I) (gap : Gap) (next : ℕ)
    → ArePlaces places (length old) → map K items ≡ map K old → map S items ≡ map S old → least ≢ greatest → greatest ≢ end_key
    → K x ≡ K (get_or items (get_or places turn 0) d) → S x ≡ S (get_or items (get_or places turn 0) d) → H x ≡ least_from (K (get_or items (get_or places turn 0) d)) greatest → gap.lo ≡ greatest → gap.hi ≡ H x
    → (turn + 1 < length places → next ≡ turn + 1) → (turn + 1 ≡ length places → next ≡ 0) → Went K H S items old places turn greatest x gap next
going takes iters places heres₀ turn₀ p₀ moves₀ K H S items old turn p moves least greatest m x d gap next are same still differ goes k s here lo hi later round =
    went K H S items old places turn greatest x d gap next same still are m.state.is_ring (under_greatest takes iters (map K old) places heres₀ turn₀ p₀ moves₀ (map H items) turn p moves least greatest m)
    (low takes iters (map K old) places heres₀ turn₀ p₀ moves₀ (map H items) turn p moves least greatest m goes) (goes_on takes iters (map K old) places heres₀ turn₀ p₀ moves₀ (map H items) turn p moves least greatest m differ)
    k s here lo hi later round

-- a first seek to the bound, and then the others
pub meets-first : {P I : Type 0} (takes : P → ℕ → I → Gap → P → Type 0) (iters still : List I) (lists keys : List (List ℕ)) (places heres : List ℕ) (turn to : ℕ) (gap : Gap) (heres' : List ℕ) (turn' : ℕ) (old mid new : P) (iter : I) (to_heres : List ℕ) (stop begun one now : ℕ)
    → Seeks lists places heres turn to gap heres' turn' → still ≡ iters → keys ≡ lists → slice_get iters (get_or places turn 0) ≡ Some iter → takes old (get_or places turn 0) iter gap mid → one ≡ begun + 1
    → AreToldMoves takes still keys places heres' to_heres mid new (last_of (heres_at heres' places) (turned (length places) turn')) stop one now
    → AreToldMoves takes iters lists places heres to_heres old new to stop begun now
meets-first takes iters still lists keys places heres turn to gap heres' turn' old mid new iter to_heres stop begun one now k s l at told counted made =
    let start : last_of (heres_at heres' places) (turned (length places) turn') ≡ gap.hi = k.after.last_is ∙ sym k.hi in
    moves-first takes iters lists places (get_or places turn 0) iter gap at k.at_place k.none heres to_heres old mid new to stop begun now k.is_move k.lo told
    (subst (λ ends. AreToldMoves takes iters lists places ends to_heres mid new gap.hi stop (begun + 1) now) k.landed
    (subst (λ begins. AreToldMoves takes iters lists places heres' to_heres mid new begins stop (begun + 1) now) start
    (subst (λ count. AreToldMoves takes iters lists places heres' to_heres mid new (last_of (heres_at heres' places) (turned (length places) turn')) stop count now) counted (rw (s, l) at made))))

-- where all stood below the bound, and stand now at one key from it on
pub meets-each : (places heres to_heres : List ℕ) (lists : List (List ℕ)) (moves : List (ℕ × Gap)) (to key : ℕ)
    → ((a b : ℕ) → a < b → b < length places → get_or places a 0 ≢ get_or places b 0) → Leads lists heres moves to_heres → to ≤ key
    → AllByRecursion (λ here. here ≡ key) (heres_at to_heres places) → AllByRecursion (λ here. here < to) (heres_at heres places) → length places ≤ length moves
meets-each places heres to_heres lists moves to key distinct leads up found below =
    each-moved places distinct lists heres to_heres moves leads (λ i lt same.
    let n = length-map places (λ place. get_or heres place 0) in
    let m = length-map places (λ place. get_or to_heres place 0) in
    let a = each_within (λ here. here < to) (heres_at heres places) i below (omega arith) in
    let b = each_within (λ here. here ≡ key) (heres_at to_heres places) i found (omega arith) in
    omega arith)

-- ---- what a call answers

pub on_ok : {T E : Type 0} {A B : T → Type 0} (result : Result T E) → IfOk result A → ((value : T) → result ≡ Ok value → A value → B value) → IfOk result B
on_ok (Ok value) holds more = more value refl holds
on_ok (Err error) holds more = tt

pub of_ok : {T E : Type 0} (A : T → Type 0) (result : Result T E) (value : T) → result ≡ Ok value → IfOk result A → A value
of_ok A result value is holds = subst (λ r. IfOk r A) is holds
