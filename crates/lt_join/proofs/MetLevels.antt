-- A level that was opened, or went on: where its iterators stand now, and what the moves may have cost.
use Rattle.std.specs.Prelude.{◌≡◌, ◌≢◌, ℕ, zero, suc, ◌+◌, ◌-◌, ◌^◌, ◌<◌, ◌≤◌, true, false, nat_le, ◌||◌, List, [], ◌∷◌, map, length, slice_get, Some}
use Rattle.std.specs.List.{AllByRecursion}
use Rattle.std.proofs.Common.{refl, sym, ap, ◌∙◌, subst, inl, inr, cond, arith, get_or}
use Rattle.std.proofs.lemmas.Bool.{ltb-true, ltb-false, cases_lt}
use Rattle.lt_face.specs.Keys.{end_key, least_from, IsPlace}
use Rattle.lt_face.specs.Lists.{IsIn}
use Rattle.lt_face.specs.State.{State}
use Rattle.lt_face.proofs.KeyLemmas.{le_yes, le_no, least_above}
use Rattle.lt_model.specs.declared.normal.Body.{Body}
use Rattle.lt_model.specs.Cells.{is_cell}
use Rattle.lt_query.specs.declared.plans.Level.{Level}
use Rattle.lt_query.specs.declared.plans.Plan.{Plan}
use Rattle.lt_query.specs.Holding.{atoms_at_level}
use Rattle.lt_query.specs.Plan.{Keys}
use Rattle.lt_sense.specs.Kept.{Sense}
use Rattle.lt_sense.specs.Sense.{IsTight}
use Rattle.lt_leap.specs.Common.{common_keys}
use Rattle.lt_leap.specs.Places.{ArePlaces, AreToldMoves, lists_at, turned, last_of, first_of}
use Rattle.lt_leap.specs.Potential.{join_cost, moves_left, shortest}
use Rattle.lt_leap.specs.Ring.{IsRing, keys_at}
use Rattle.lt_leap.specs.Search.{NonePassed}
use Rattle.lt_leap.proofs.Exact.{place_has}
use Rattle.lt_leap.proofs.Searched.{place_low}
use Rattle.lt_leap.proofs.Shortest.{shortest_within}
use Rattle.lt_join.specs.AtomIter.{AtomView, atom_keys, atom_here, atom_still}
use Rattle.lt_join.specs.Cost.{iterators_at}
use Rattle.lt_join.specs.Explored.{Fits, IsHopeless, with_key}
use Rattle.lt_join.specs.Holders.{IsWalkable, atoms_at}
use Rattle.lt_join.specs.Level.{AreAtomsAt, AreOpened, IsOpenedFrom, AreSensed, RiseFrom, IsLevelAt, HasGone, is_lone, left_at, heres_of, lists_of}
use Rattle.lt_join.specs.Told.{TakesGap}
use Rattle.lt_join.specs.Walked.{at, IsSkipped}
use Rattle.lt_join.proofs.Gaps.{has_key-true}
use Rattle.lt_join.proofs.LevelLists.{length_map}
use Rattle.lt_join.proofs.MetAtoms.{some_is, map_there, as_many, keyed, cell_there, common_there, cost_there, cost_twice}
use Rattle.lt_join.proofs.MetLists.{each_is, rise_passes_none, last_rising, last_within, moves_begun}
use Rattle.lt_join.proofs.MetSensed.{sensed_met}
use Rattle.lt_join.proofs.Sensed.{grows_then, AreSensed-none, AreSensed-chain}

-- ---- iterators that moved at a level stay opened there

map_back : {X Y : Type 0} (f : X → Y) (xs : List X) (i : ℕ) (y : Y) → slice_get (map f xs) i ≡ Some y → (x : X) × (slice_get xs i ≡ Some x) × (f x ≡ y)
map_back f [] i y e = cc
map_back f (x ∷ xs) zero y e = (x, refl, some_is (f x) y e)
map_back f (x ∷ xs) (suc i) y e = map_back f xs i y e

opened_as : (one was is : AtomView) → atom_still is ≡ atom_still was → IsOpenedFrom one was → IsOpenedFrom one is
opened_as one was is same h = record {
  could = h.could;
  guide = ap (λ (w : AtomView). w.guide) same ∙ h.guide;
  rows = ap (λ (w : AtomView). w.trie.rows) same ∙ h.rows;
  width = ap (λ (w : AtomView). w.trie.width) same ∙ h.width;
  level = ap (λ (w : AtomView). w.trie.level) same ∙ h.level;
  prefix = ap (λ (w : AtomView). w.trie.prefix) same ∙ h.prefix;
}

pub opened_still : (places : List ℕ) (above atoms moved : List AtomView) → AreOpened places above atoms → map atom_still moved ≡ map atom_still atoms → ((i : ℕ) → (IsIn i places → ⊥) → slice_get moved i ≡ slice_get atoms i) → AreOpened places above moved
opened_still places above atoms moved h still others = record {
  as_long = (let a = ap length still in let b = length_map atom_still moved in let c = length_map atom_still atoms in let d = h.as_long in omega arith);
  opened = λ i one other there up down.
      let was = map_back atom_still atoms i (atom_still other) (sym (ap (λ (ws : List AtomView). slice_get ws i) still) ∙ map_there atom_still moved i other down) in
      opened_as one was.0 other (sym was.2) (h.opened i one was.0 there up was.1);
  others = λ i out. others i out ∙ h.others i out;
}

pub places_still : (places : List ℕ) (atoms moved : List AtomView) → map atom_still moved ≡ map atom_still atoms → ArePlaces places (length atoms) → ArePlaces places (length moved)
places_still places atoms moved still are =
    let same : length atoms ≡ length moved = (let a = ap length still in let b = length_map atom_still moved in let c = length_map atom_still atoms in omega arith) in
    subst (ArePlaces places) same are

-- ---- what may come

left_most : (level : Level) (places : List ℕ) (atoms : List AtomView) (key turn : ℕ) → left_at level places atoms key turn ≤ moves_left (lists_of atoms places) (heres_of atoms places) (turned (length places) turn) (shortest (lists_of atoms places))
left_most level places atoms key turn =
    let most = moves_left (lists_of atoms places) (heres_of atoms places) (turned (length places) turn) (shortest (lists_of atoms places)) in
    elim (is_lone level || nat_le end_key key) as (λ b. cond b 0 most ≤ most) [ true ↦ omega arith | false ↦ omega arith ]

pub left_free : (level : Level) (places : List ℕ) (atoms : List AtomView) (key turn : ℕ) → is_lone level ≡ false → key < 2 ^ 128 - 1
    → left_at level places atoms key turn ≡ moves_left (lists_of atoms places) (heres_of atoms places) (turned (length places) turn) (shortest (lists_of atoms places))
left_free level places atoms key turn free goes = rw (free, le_no end_key key goes) refl

pub left_lone : (level : Level) (places : List ℕ) (atoms : List AtomView) (key turn : ℕ) → is_lone level ≡ true → left_at level places atoms key turn ≡ 0
left_lone level places atoms key turn lone = rw lone refl

left_end : (level : Level) (places : List ℕ) (atoms : List AtomView) (key turn : ℕ) → key ≡ end_key → left_at level places atoms key turn ≡ 0
left_end level places atoms key turn ended =
    let over : nat_le end_key key ≡ true = le_yes end_key key (omega arith) in
    let most = moves_left (lists_of atoms places) (heres_of atoms places) (turned (length places) turn) (shortest (lists_of atoms places)) in
    rw over (elim (is_lone level) as (λ b. cond (b || true) 0 most ≡ 0) [ true ↦ refl | false ↦ refl ])

fits_free : (level : Level) (keys : Keys) (key : ℕ) → is_lone level ≡ false → Fits level keys key
fits_free level keys key free = let none = ltb-false 0 (length level.pins + length level.ties) free in (empty level.pins (λ pin. pin) (omega arith), empty level.ties keys (omega arith))
  where
    empty : (ms : List ℕ) (h : ℕ → ℕ) → length ms ≡ 0 → AllByRecursion (λ m. h m ≡ key) ms
    empty [] h e = tt
    empty (m ∷ ms) h e = absurd (omega arith)

pub lone_one : (level : Level) (keys : Keys) (a b : ℕ) → is_lone level ≡ true → Fits level keys a → Fits level keys b → a ≡ b
lone_one level keys a b lone f g =
    let some = ltb-true 0 (length level.pins + length level.ties) lone in
    elim (cases_lt 0 (length level.pins)) [
      | inl pin ↦ first level.pins (λ p. p) pin f.0 g.0
      | inr none ↦ first level.ties keys (omega arith) f.1 g.1
    ]
  where
    first : (ms : List ℕ) (h : ℕ → ℕ) → 0 < length ms → AllByRecursion (λ m. h m ≡ a) ms → AllByRecursion (λ m. h m ≡ b) ms → a ≡ b
    first [] h lt p q = absurd (omega arith)
    first (m ∷ ms) h lt p q = sym p.0 ∙ q.0

-- ---- what is paid

-- each was opened, and they go on from there
pub begun_cost : (plan : Plan) (state : State) (keys : List ℕ) (walkable : AllByRecursion IsWalkable plan.guides) (level : Level) → is_lone level ≡ false → (above atoms : List AtomView) → AreAtomsAt plan state keys above
    → AreOpened (atoms_at_level plan.guides (length keys)) above atoms → 0 < length (atoms_at_level plan.guides (length keys))
    → length (atoms_at_level plan.guides (length keys)) + moves_left (lists_of atoms (atoms_at_level plan.guides (length keys))) (heres_of atoms (atoms_at_level plan.guides (length keys))) (turned (length (atoms_at_level plan.guides (length keys))) 0) (shortest (lists_of atoms (atoms_at_level plan.guides (length keys))))
    ≤ join_cost (iterators_at state plan.guides level (length keys) (at keys))
begun_cost plan state keys walkable level free above atoms is_above are_opened some =
    let places = atoms_at_level plan.guides (length keys) in
    let paid = moves_begun (lists_of atoms places) (heres_of atoms places) (length places) 0 (length_map (keys_at (map atom_keys atoms)) places) some in
    let fewer = cost_there plan state keys walkable above atoms is_above are_opened level free in
    omega arith

all_below : (key to : ℕ) → key < to → (heres : List ℕ) → AllByRecursion (λ here. here ≡ key) heres → AllByRecursion (λ here. here < to) heres
all_below key to lt [] h = tt
all_below key to lt (here ∷ heres) h = ((let e = h.0 in omega arith), all_below key to lt heres h.1)

-- the one whose turn it is stands at the key
pub first_at : (plan : Plan) (state : State) (keys : List ℕ) (above atoms : List AtomView) (key turn : ℕ) → IsLevelAt plan state keys (atoms_at_level plan.guides (length keys)) above atoms key turn
    → first_of (heres_of atoms (atoms_at_level plan.guides (length keys))) (turned (length (atoms_at_level plan.guides (length keys))) turn) ≡ key
first_at plan state keys above atoms key turn is =
    let places = atoms_at_level plan.guides (length keys) in
    let long = length_map (λ place. get_or (map atom_here atoms) place 0) places in
    let t = is.has_turn in
    each_is (heres_of atoms places) key turn is.at_key (omega arith)

-- ---- keys that are out

-- nothing holds that has the key below these
abbrev pub IsOut : Body → Plan → List ℕ → ℕ → Type 0
IsOut body plan keys k = IsHopeless body plan.levels (length keys + 1) (with_key (at keys) (length keys) k)

-- a key that doesn't fit the level's pins and ties is out
abbrev pub AreUnfitOut : Body → Plan → List ℕ → Level → Type 0
AreUnfitOut body plan keys level = (k : ℕ) → (Fits level (at keys) k → ⊥) → IsOut body plan keys k

-- ---- a level that went on

module _ (body : Body) (plan : Plan) (state : State) (keys : List ℕ) (walkable : AllByRecursion IsWalkable plan.guides) where
  abbrev places : List ℕ
  places = atoms_at_level plan.guides (length keys)

  pub count_held : length places ≡ length (atoms_at plan.guides (length keys))
  count_held = as_many plan.guides (length keys) walkable

  -- to a key that fits
  pub gone_at : (level : Level) (old new : Sense) (above atoms : List AtomView) (from given begun now start stop key turn : ℕ) → AreSensed plan state keys old new start stop begun now
      → ((k : ℕ) → from ≤ k → k < key → IsSkipped body plan new keys k) → IsLevelAt plan state keys places above atoms key turn → Fits level (at keys) key → from ≤ key
      → now + left_at level places atoms key turn ≤ given → begun + length places ≤ now → HasGone body plan state old new keys level places above atoms from given begun now key turn
  gone_at level old new above atoms from given begun now start stop key turn sensed skipped is fits reaches kept paid =
      let some : 0 < length places = let t = is.has_turn in omega arith in
      let goes = is.not_ended in
      record {
        stands = record {
          grows = sensed.grows;
          tight = sensed.tight;
          skipped = λ k cell. skipped k;
          found = λ lt. (cell_there plan state keys walkable above atoms is.is_above is.opened key some is.there, fits);
        };
        cost = record { kept = kept; is_common = λ lt. common_there plan state keys walkable above atoms is.is_above is.opened level key some is.there fits };
        gains = record { gaps = sensed.few; hits = sensed.hits; rises = sensed.rises; paid = λ lt. (let n = count_held in omega arith) };
        under = sensed.under;
        reaches = reaches;
        at_key = λ lt. is;
        ended = λ le. absurd (omega arith);
      }

  -- to its end
  pub gone_end : (level : Level) (old new : Sense) (above atoms : List AtomView) (from given begun now start stop key turn : ℕ) → AreSensed plan state keys old new start stop begun now
      → ((k : ℕ) → is_cell k ≡ true → from ≤ k → k < key → IsSkipped body plan new keys k) → key ≡ end_key → atoms ≡ above → from ≤ end_key → now ≤ given
      → HasGone body plan state old new keys level places above atoms from given begun now key turn
  gone_end level old new above atoms from given begun now start stop key turn sensed skipped ended back reaches kept =
      record {
        stands = record { grows = sensed.grows; tight = sensed.tight; skipped = skipped; found = λ lt. absurd (omega arith) };
        cost = record { kept = (let none = left_end level places atoms key turn ended in omega arith); is_common = λ lt. absurd (omega arith) };
        gains = record { gaps = sensed.few; hits = sensed.hits; rises = sensed.rises; paid = λ lt. absurd (omega arith) };
        under = sensed.under;
        reaches = (omega arith);
        at_key = λ lt. absurd (omega arith);
        ended = λ le. back;
      }

  -- what was passed is skipped
  pub passed_skipped : (old new : Sense) (from stop begun now key : ℕ) → AreSensed plan state keys old new from stop begun now → key ≤ stop → (k : ℕ) → from ≤ k → k < key → IsSkipped body plan new keys k
  passed_skipped old new from stop begun now key sensed most k le lt = inl (sensed.passed k le (omega arith))

  -- or is out, from where they stopped on
  pub passed_or_out : (old new : Sense) (from stop begun now : ℕ) → AreSensed plan state keys old new from stop begun now → ((k : ℕ) → stop ≤ k → IsOut body plan keys k) → (k : ℕ) → from ≤ k → IsSkipped body plan new keys k
  passed_or_out old new from stop begun now sensed out k le = elim (cases_lt k stop) [ inl before ↦ inl (sensed.passed k le before) | inr behind ↦ inr (out k behind) ]

  -- ---- from below, and one after another

  -- from a lower bound, where what lies between is out
  pub gone_from : (level : Level) (old new : Sense) (above atoms : List AtomView) (from begin given begun now key turn : ℕ) → from ≤ begin → ((k : ℕ) → from ≤ k → k < begin → IsOut body plan keys k)
      → HasGone body plan state old new keys level places above atoms begin given begun now key turn → HasGone body plan state old new keys level places above atoms from given begun now key turn
  gone_from level old new above atoms from begin given begun now key turn le out h = record {
    stands = record {
      grows = h.stands.grows;
      tight = h.stands.tight;
      skipped = λ k cell up less. elim (cases_lt k begin) [ inl before ↦ inr (out k up before) | inr behind ↦ h.stands.skipped k cell behind less ];
      found = h.stands.found;
    };
    cost = h.cost;
    gains = h.gains;
    under = h.under;
    reaches = (let r = h.reaches in omega arith);
    at_key = h.at_key;
    ended = h.ended;
  }

  -- to a key, and on from there to one from a bound on, before which all are out
  pub gone_twice : (level : Level) (old mid new : Sense) (above one two : List AtomView) (from to given begun between now key turn key' turn' : ℕ) → key < to → ((k : ℕ) → k < to → IsOut body plan keys k)
      → HasGone body plan state old mid keys level places above one from given begun between key turn
      → HasGone body plan state mid new keys level places above two to (between + left_at level places one key turn) between now key' turn'
      → HasGone body plan state old new keys level places above two from given begun now key' turn'
  gone_twice level old mid new above one two from to given begun between now key turn key' turn' ahead out g h = record {
    stands = record {
      grows = grows_then old mid new g.stands.grows h.stands.grows;
      tight = h.stands.tight;
      skipped = λ k cell up less. elim (cases_lt k to) [ inl before ↦ inr (out k before) | inr behind ↦ h.stands.skipped k cell behind less ];
      found = h.stands.found;
    };
    cost = record { kept = (let a = g.cost.kept in let b = h.cost.kept in omega arith); is_common = h.cost.is_common };
    gains = record {
      gaps = (let a = g.gains.gaps in let b = h.gains.gaps in omega arith);
      hits = h.gains.hits ∙ g.gains.hits;
      rises = (let a = g.gains.rises in let b = h.gains.rises in omega arith);
      paid = λ lt. (let a = g.gains.rises in let b = h.gains.paid lt in omega arith);
    };
    under = λ gap there. elim (h.under gap there) [ inl before ↦ g.under gap before | inr more ↦ inr more ];
    reaches = (let a = g.reaches in let b = h.reaches in omega arith);
    at_key = h.at_key;
    ended = h.ended;
  }

  -- ---- where there is neither pin nor tie

  module _ (level : Level) (free : is_lone level ≡ false) (above atoms moved : List AtomView) (is_above : AreAtomsAt plan state keys above) (are_opened : AreOpened places above atoms)
      (same : map atom_keys moved ≡ map atom_keys atoms) (still : map atom_still moved ≡ map atom_still atoms) (others : (i : ℕ) → (IsIn i places → ⊥) → slice_get moved i ≡ slice_get atoms i) where
    pub still_open : AreOpened places above moved
    still_open = opened_still places above atoms moved are_opened still others

    pub lists_stay : lists_of moved places ≡ lists_of atoms places
    lists_stay = ap (λ (lists : List (List ℕ)). lists_at lists places) same

    at_place : (lists : List (List ℕ)) (heres ring : List ℕ) (key : ℕ) → IsRing lists heres ring → AllByRecursion (λ here. here ≡ key) heres → key ≢ end_key → AllByRecursion (λ keys. IsIn key keys) lists
    at_place lists heres ring key is all goes = from_places lists (λ i lt.
        let inside : i < length heres = let e = is.listed in omega arith in
        has_key-true (keys_at lists i) key (place_has (keys_at lists i) key (subst (λ h. IsPlace (keys_at lists i) h) (each_is heres key i all inside) (is.placed i inside)) goes))
      where
        from_places : (lists : List (List ℕ)) → ((i : ℕ) → i < length lists → IsIn key (keys_at lists i)) → AllByRecursion (λ keys. IsIn key keys) lists
        from_places [] f = tt
        from_places (ks ∷ lists) f = (f 0 (omega arith), from_places lists (λ i lt. f (suc i) (omega arith)))

    turn_there : (count turn : ℕ) (lists : List (List ℕ)) (heres : List ℕ) → length heres ≡ count → IsRing lists heres (turned count turn) → turn < count
    turn_there count turn lists heres long is = let w = is.in_range 0 is.some in omega arith

    met_low : (lists : List (List ℕ)) (heres ring : List ℕ) (key : ℕ) → IsRing lists heres ring → AllByRecursion (λ here. here ≡ key) heres → key ≢ end_key → key < 2 ^ 120
    met_low lists heres ring key is all goes =
        let inside : 0 < length heres = (let a = is.some in let b = is.as_long in omega arith) in
        place_low (keys_at lists 0) key (is.keyed 0 inside) (subst (λ h. IsPlace (keys_at lists 0) h) (each_is heres key 0 all inside) (is.placed 0 inside)) goes

    -- they met at a key
    pub met_at : (key turn : ℕ) → key ≢ end_key → IsRing (lists_of atoms places) (heres_of moved places) (turned (length places) turn) → AllByRecursion (λ here. here ≡ key) (heres_of moved places) → IsLevelAt plan state keys places above moved key turn
    met_at key turn goes ring all = record {
      is_above = is_above;
      opened = still_open;
      at_key = all;
      there = rw lists_stay (at_place (lists_of atoms places) (heres_of moved places) (turned (length places) turn) key ring all goes);
      not_ended = (let low = met_low (lists_of atoms places) (heres_of moved places) (turned (length places) turn) key ring all goes in omega arith);
      has_turn = turn_there (length places) turn (lists_of atoms places) (heres_of moved places) (length_map _ places) ring;
    }

    abbrev most : List AtomView → ℕ → ℕ → ℕ
    most atoms turn i = moves_left (lists_of atoms places) (heres_of atoms places) (turned (length places) turn) i

    -- what is left of what was left before
    left_then : (given before now key turn turn0 : ℕ) → 0 < length places → ((i : ℕ) → i < length places → now + moves_left (lists_of atoms places) (heres_of moved places) (turned (length places) turn) i ≤ before + most atoms turn0 i)
        → before + most atoms turn0 (shortest (lists_of atoms places)) ≤ given → now + left_at level places moved key turn ≤ given
    left_then given before now key turn turn0 some left paid =
        let long = length_map (keys_at (map atom_keys atoms)) places in
        let one = left (shortest (lists_of atoms places)) (let w = shortest_within (lists_of atoms places) (omega arith) in omega arith) in
        let fewer = left_most level places moved key turn in
        let is : most moved turn (shortest (lists_of moved places)) ≡ moves_left (lists_of atoms places) (heres_of moved places) (turned (length places) turn) (shortest (lists_of atoms places)) =
        ap (λ (lists : List (List ℕ)). moves_left lists (heres_of moved places) (turned (length places) turn) (shortest lists)) lists_stay in
        omega arith

    -- ---- where it was opened rising

    module _ (from greatest key turn : ℕ) (old mid new : Sense) (begun between now : ℕ) (some : 0 < length places) (low : from ≤ 2 ^ 120) (first : AreSensed plan state keys old mid from greatest begun between)
        (rising : RiseFrom from (lists_of atoms places) (heres_of atoms places)) (within : AllByRecursion (λ here. here ≤ greatest) (heres_of atoms places)) (each : between ≡ begun + length places)
        (made : AreToldMoves TakesGap (map atom_still atoms) (map atom_keys atoms) places (map atom_here atoms) (map atom_here moved) mid new (last_of (heres_of atoms places) (turned (length places) 0)) key between now)
        (left : (i : ℕ) → i < length places → now + moves_left (lists_of atoms places) (heres_of moved places) (turned (length places) turn) i ≤ between + moves_left (lists_of atoms places) (heres_of atoms places) (turned (length places) 0) i) where
      joined_sensed : AreSensed plan state keys old new from key begun now
      joined_sensed =
          let next = sensed_met plan state keys walkable above atoms is_above are_opened (map atom_here atoms) (map atom_here moved) mid new (last_of (heres_of atoms places) (turned (length places) 0)) key between now made first.tight in
          AreSensed-chain plan state keys old mid new from greatest (last_of (heres_of atoms places) (turned (length places) 0)) key begun between now first next
          (last_within (heres_of atoms places) (length places) greatest (length_map _ places) some within)

      joined_paid : now + left_at level places moved key turn ≤ begun + join_cost (iterators_at state plan.guides level (length keys) (at keys))
      joined_paid =
          left_then (begun + join_cost (iterators_at state plan.guides level (length keys) (at keys))) between now key turn 0 some left
          (let cost = begun_cost plan state keys walkable level free above atoms is_above are_opened some in omega arith)

      pub gone_joined : key ≢ end_key
          → ((b : ℕ) → NonePassed (lists_of atoms places) (heres_of atoms places) b → b ≤ last_of (heres_of atoms places) (turned (length places) 0) → key ≡ least_from (common_keys (lists_of atoms places)) b)
          → IsRing (lists_of atoms places) (heres_of moved places) (turned (length places) turn) → AllByRecursion (λ here. here ≡ key) (heres_of moved places)
          → HasGone body plan state old new keys level places above moved from (begun + join_cost (iterators_at state plan.guides level (length keys) (at keys))) begun now key turn
      gone_joined goes exact ring all =
          let lists_keyed = keyed plan state keys walkable above atoms is_above are_opened in
          let long = length_map (keys_at (map atom_keys atoms)) places in
          let is = exact from (rise_passes_none from (lists_of atoms places) (heres_of atoms places) lists_keyed rising) (last_rising from (lists_of atoms places) (heres_of atoms places) (length places) long some lists_keyed (omega arith) rising) in
          let up = least_above (common_keys (lists_of atoms places)) from (omega arith) in
          gone_at level old new above moved from (begun + join_cost (iterators_at state plan.guides level (length keys) (at keys))) begun now from key key turn joined_sensed
          (passed_skipped old new from key begun now key joined_sensed (omega arith)) (met_at key turn goes ring all) (fits_free level (at keys) key free) (omega arith) joined_paid
          (let s = made.counted in omega arith)

      pub gone_joined_end : (back : List AtomView) (ended turn' : ℕ) → ((k : ℕ) → key ≤ k → IsOut body plan keys k) → ended ≡ end_key → back ≡ above
          → HasGone body plan state old new keys level places above back from (begun + join_cost (iterators_at state plan.guides level (length keys) (at keys))) begun now ended turn'
      gone_joined_end back ended turn' out is_ended same_back =
          gone_end level old new above back from (begun + join_cost (iterators_at state plan.guides level (length keys) (at keys))) begun now from key ended turn' joined_sensed
          (λ k cell le lt. passed_or_out old new from key begun now joined_sensed out k le) is_ended same_back (omega arith) (let paid = joined_paid in omega arith)

    -- ---- where it stood at a key

    module _ (key0 turn0 to key turn : ℕ) (old new : Sense) (begun now : ℕ) (is : IsLevelAt plan state keys places above atoms key0 turn0) (ahead : key0 < to) (low : to ≤ 2 ^ 120) (tight : IsTight old state)
        (made : AreToldMoves TakesGap (map atom_still atoms) (map atom_keys atoms) places (map atom_here atoms) (map atom_here moved) old new to key begun now)
        (left : first_of (heres_of atoms places) (turned (length places) turn0) < to → (i : ℕ) → i < length places
        → now + moves_left (lists_of atoms places) (heres_of moved places) (turned (length places) turn) i ≤ begun + moves_left (lists_of atoms places) (heres_of atoms places) (turned (length places) turn0) i) where
      next_sensed : AreSensed plan state keys old new to key begun now
      next_sensed = sensed_met plan state keys walkable above atoms is_above are_opened (map atom_here atoms) (map atom_here moved) old new to key begun now made tight

      next_paid : now + left_at level places moved key turn ≤ begun + left_at level places atoms key0 turn0
      next_paid =
          let some : 0 < length places = (let t = is.has_turn in omega arith) in
          let first = first_at plan state keys above atoms key0 turn0 is in
          left_then (begun + left_at level places atoms key0 turn0) begun now key turn turn0 some (left (omega arith)) (let e = left_free level places atoms key0 turn0 free is.not_ended in omega arith)

      pub gone_next : key ≢ end_key → key ≡ least_from (common_keys (lists_of atoms places)) to → IsRing (lists_of atoms places) (heres_of moved places) (turned (length places) turn) → AllByRecursion (λ here. here ≡ key) (heres_of moved places)
          → (AllByRecursion (λ here. here < to) (heres_of atoms places) → begun + length places ≤ now)
          → HasGone body plan state old new keys level places above moved to (begun + left_at level places atoms key0 turn0) begun now key turn
      gone_next goes exact ring all each =
          let up = least_above (common_keys (lists_of atoms places)) to (omega arith) in
          gone_at level old new above moved to (begun + left_at level places atoms key0 turn0) begun now to key key turn next_sensed
          (passed_skipped old new to key begun now key next_sensed (omega arith)) (met_at key turn goes ring all) (fits_free level (at keys) key free) (omega arith) next_paid
          (each (all_below key0 to ahead (heres_of atoms places) is.at_key))

      pub gone_next_end : (back : List AtomView) (ended turn' : ℕ) → ((k : ℕ) → key ≤ k → IsOut body plan keys k) → ended ≡ end_key → back ≡ above
          → HasGone body plan state old new keys level places above back to (begun + left_at level places atoms key0 turn0) begun now ended turn'
      gone_next_end back ended turn' out is_ended same_back =
          gone_end level old new above back to (begun + left_at level places atoms key0 turn0) begun now to key ended turn' next_sensed
          (λ k cell le lt. passed_or_out old new to key begun now next_sensed out k le) is_ended same_back (omega arith) (let paid = next_paid in omega arith)

  -- ---- where there is a pin or a tie

  module _ (level : Level) (lone : is_lone level ≡ true) (unfit : AreUnfitOut body plan keys level) where
    -- all have the one key
    pub gone_lone : (old new : Sense) (above atoms : List AtomView) (from key turn begun now : ℕ) → AreAtomsAt plan state keys above → 0 < length places → Fits level (at keys) key → ((k : ℕ) → Fits level (at keys) k → k ≡ key) → from ≤ key → key < 2 ^ 120
        → AreSensed plan state keys old new key key begun now → AreOpened places above atoms → AllByRecursion (λ here. here ≡ key) (heres_of atoms places) → AllByRecursion (λ keys. IsIn key keys) (lists_of atoms places)
        → turn ≡ 0 → begun + length places ≤ now → now ≤ begun + length places + length places
        → HasGone body plan state old new keys level places above atoms from (begun + join_cost (iterators_at state plan.guides level (length keys) (at keys))) begun now key turn
    gone_lone old new above atoms from key turn begun now is_above some fits only le low sensed opened all there first paid within =
        gone_at level old new above atoms from (begun + join_cost (iterators_at state plan.guides level (length keys) (at keys))) begun now key key key turn sensed
        (λ k up less. inr (unfit k (λ f. let e = only k f in omega arith)))
        (record { is_above = is_above; opened = opened; at_key = all; there = there; not_ended = omega arith; has_turn = omega arith }) fits le
        (let none = left_lone level places atoms key turn lone in let twice = cost_twice plan state keys level in let n = count_held in omega arith) paid

    -- one lacks it
    pub gone_lone_lacks : (old new : Sense) (above atoms : List AtomView) (from key ended turn begun now : ℕ) → ((k : ℕ) → Fits level (at keys) k → k ≡ key) → from ≤ 2 ^ 120 → AreSensed plan state keys old new key (key + 1) begun now
        → ended ≡ end_key → atoms ≡ above → now ≤ begun + length places + length places
        → HasGone body plan state old new keys level places above atoms from (begun + join_cost (iterators_at state plan.guides level (length keys) (at keys))) begun now ended turn
    gone_lone_lacks old new above atoms from key ended turn begun now only low sensed is_ended back within =
        gone_end level old new above atoms from (begun + join_cost (iterators_at state plan.guides level (length keys) (at keys))) begun now key (key + 1) ended turn sensed
        (λ k cell up less. elim (cases_lt k key) [
          | inl below ↦ inr (unfit k (λ f. let e = only k f in omega arith))
          | inr not_below ↦ elim (cases_lt key k) [ inl over ↦ inr (unfit k (λ f. let e = only k f in omega arith)) | inr not_over ↦ inl (sensed.passed k (omega arith) (omega arith)) ]
        ]) is_ended back (omega arith) (let twice = cost_twice plan state keys level in let n = count_held in omega arith)

  -- all keys from the bound on are out
  pub gone_none : (level : Level) (sense : Sense) (above : List AtomView) (from given now ended turn : ℕ) → ((k : ℕ) → from ≤ k → IsOut body plan keys k) → IsTight sense state → from ≤ end_key → ended ≡ end_key → (atoms : List AtomView) → atoms ≡ above → now ≤ given
      → HasGone body plan state sense sense keys level places above atoms from given now now ended turn
  gone_none level sense above from given now ended turn out tight low is_ended atoms back kept =
      gone_end level sense sense above atoms from given now now 0 0 ended turn (AreSensed-none plan state keys sense 0 0 now (omega arith) tight) (λ k cell le lt. inr (out k le)) is_ended back low kept

  -- a level with one key ends with it
  pub gone_over : (level : Level) (sense : Sense) (above atoms : List AtomView) (key now ended turn left : ℕ) → is_lone level ≡ true → AreUnfitOut body plan keys level → Fits level (at keys) key → key < 2 ^ 120 → IsTight sense state → ended ≡ end_key → atoms ≡ above
      → HasGone body plan state sense sense keys level places above atoms (key + 1) (now + left) now now ended turn
  gone_over level sense above atoms key now ended turn left lone unfit fits low tight is_ended back =
      gone_none level sense above (key + 1) (now + left) now ended turn (λ k le. unfit k (λ f. let e = lone_one level (at keys) k key lone f fits in omega arith)) tight (omega arith) is_ended atoms back (omega arith)
