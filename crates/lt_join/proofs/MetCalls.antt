-- A level that was opened, or went on, from what the calls there ensure.
use Rattle.std.specs.Prelude.{◌≡◌, ◌⊎◌, ℕ, zero, suc, ◌+◌, ◌^◌, ◌<◌, ◌≤◌, true, false, List, [], ◌∷◌, map, length, slice_get, slice_index_or, Some}
use Rattle.std.specs.List.{AllByRecursion}
use Rattle.std.proofs.Common.{sym, ap, ◌∙◌, subst, inl, inr, arith, get_or}
use Rattle.std.proofs.lemmas.Bool.{lt-ltb, le-ltb, cases_lt}
use Rattle.lt_face.specs.Keys.{end_key, least_from}
use Rattle.lt_face.specs.Lists.{IsIn}
use Rattle.lt_face.specs.State.{State}
use Rattle.lt_model.specs.declared.normal.Body.{Body}
use Rattle.lt_query.specs.declared.plans.Guide.{Guide}
use Rattle.lt_query.specs.declared.plans.Level.{Level}
use Rattle.lt_query.specs.declared.plans.Plan.{Plan}
use Rattle.lt_query.specs.Holding.{atoms_at_level}
use Rattle.lt_query.specs.Plan.{IsLevelOf, AreLevelsFrom}
use Rattle.lt_sense.specs.Kept.{Sense}
use Rattle.lt_sense.specs.Sense.{IsTight}
use Rattle.lt_leap.specs.Common.{common_keys}
use Rattle.lt_leap.specs.Places.{ArePlaces, AreToldMoves, turned, last_of, first_of}
use Rattle.lt_leap.specs.Potential.{join_cost, moves_left, shortest}
use Rattle.lt_leap.specs.Ring.{IsRing, keys_at}
use Rattle.lt_leap.specs.Search.{NonePassed}
use Rattle.lt_leap.proofs.Shortest.{shortest_within}
use Rattle.lt_join.specs.AtomIter.{AtomView, atom_keys, atom_here, atom_still}
use Rattle.lt_join.specs.Cost.{iterators_at}
use Rattle.lt_join.specs.Explored.{Fits}
use Rattle.lt_join.specs.Holders.{IsWalkable, IsUsable, atoms_at}
use Rattle.lt_join.specs.Level.{AreAtomsAt, AreOpened, AreSensed, RiseFrom, IsLevelAt, HasGone, is_lone, left_at, heres_of, lists_of}
use Rattle.lt_join.specs.Told.{TakesGap}
use Rattle.lt_join.specs.Walked.{at}
use Rattle.lt_join.specs.Way.{WayView, IsWay}
use Rattle.lt_join.proofs.Hopeless.{unfit_hopeless}
use Rattle.lt_join.proofs.KnownLists.{walkable_all}
use Rattle.lt_join.proofs.LevelLists.{length_map}
use Rattle.lt_join.proofs.MetAtoms.{some_is, places_are, count_is, keyed, cost_twice}
use Rattle.lt_join.proofs.MetLists.{ring_at_key, ring_rising}
use Rattle.lt_join.proofs.MetLevels.{IsOut, AreUnfitOut, left_free, begun_cost, first_at, count_held, gone_end, passed_skipped, gone_joined, gone_joined_end, gone_next, gone_next_end}

-- by a walk's plan
pub way_walkable : (inside way : WayView) → inside ≡ way → IsWay inside → AllByRecursion IsWalkable way.plan.guides
way_walkable inside way same is = subst (λ (w : WayView). AllByRecursion IsWalkable w.plan.guides) same (walkable_all inside.body inside.plan is.of_body)

pub way_places : (inside way : WayView) (keys places : List ℕ) (n : ℕ) → inside ≡ way → places ≡ atoms_at_level inside.plan.guides n → n ≡ length keys → places ≡ atoms_at_level way.plan.guides (length keys)
way_places inside way keys places n same is depth = is ∙ ap (atoms_at_level inside.plan.guides) depth ∙ ap (λ (w : WayView). atoms_at_level w.plan.guides (length keys)) same

got_is : {X : Type 0} (xs : List X) (i : ℕ) (x y : X) → y ≡ slice_index_or xs i y → slice_get xs i ≡ Some x → y ≡ x
got_is [] i x y is e = cc
got_is (z ∷ xs) zero x y is e = is ∙ some_is z x e
got_is (z ∷ xs) (suc i) x y is e = got_is xs i x y is e

pub way_level : (inside way : WayView) (keys : List ℕ) (levels : List Level) (n : ℕ) (level here : Level) → inside ≡ way → levels ≡ inside.plan.levels → n ≡ length keys → here ≡ slice_index_or levels n here → slice_get way.plan.levels (length keys) ≡ Some level → here ≡ level
way_level inside way keys levels n level here same are depth is e =
    let all : levels ≡ way.plan.levels = are ∙ ap (λ (w : WayView). w.plan.levels) same in
    got_is way.plan.levels (length keys) level here (is ∙ ap (λ (ls : List Level). slice_index_or ls n here) all ∙ ap (λ m. slice_index_or way.plan.levels m here) depth) e

-- what a level of the plan is to the body
level_is : (body : Body) (all rest : List Level) (l i : ℕ) (level : Level) → AreLevelsFrom body all l rest → slice_get rest i ≡ Some level → IsLevelOf body all (l + i) level
level_is body all [] l i level are e = cc
level_is body all (x ∷ rest) l zero level are e = subst (λ n. IsLevelOf body all n level) (let n : l ≡ l + 0 = omega arith in n) (subst (IsLevelOf body all l) (some_is x level e) are.0)
level_is body all (x ∷ rest) l (suc i) level are e = subst (λ n. IsLevelOf body all n level) (let n : l + 1 + i ≡ l + suc i = omega arith in n) (level_is body all rest (l + 1) i level are.1 e)

-- so what doesn't fit it is out
pub way_unfit : (inside way : WayView) (keys : List ℕ) (level : Level) → inside ≡ way → IsWay inside → slice_get way.plan.levels (length keys) ≡ Some level → AreUnfitOut way.body way.plan keys level
way_unfit inside way keys level same is there k unfit =
    let of_way : AreLevelsFrom way.body way.plan.levels 0 way.plan.levels = subst (λ (w : WayView). AreLevelsFrom w.body w.plan.levels 0 w.plan.levels) same is.of_body.levels in
    unfit_hopeless way.body way.plan.levels (length keys) level (at keys) k (subst (λ n. IsLevelOf way.body way.plan.levels n level) (let n : 0 + length keys ≡ length keys = omega arith in n) (level_is way.body way.plan.levels way.plan.levels 0 (length keys) level of_way there)) unfit

-- whether a pin or a tie is there
pub lone_yes : (here level : Level) → here ≡ level → 0 < length here.pins + length here.ties → is_lone level ≡ true
lone_yes here level same some = subst (λ (l : Level). is_lone l ≡ true) same (lt-ltb 0 (length here.pins + length here.ties) some)

pub lone_no : (here level : Level) → here ≡ level → length here.pins ≡ 0 → length here.ties ≡ 0 → is_lone level ≡ false
lone_no here level same no_pins no_ties = subst (λ (l : Level). is_lone l ≡ false) same (le-ltb 0 (length here.pins + length here.ties) (omega arith))

pub lone_none : (here level : Level) → here ≡ level → length here.pins + length here.ties ≡ 0 → is_lone level ≡ false
lone_none here level same none = subst (λ (l : Level). is_lone l ≡ false) same (le-ltb 0 (length here.pins + length here.ties) (omega arith))

-- the one key that may be there is a cell
pub asked_low : (guides : List Guide) (here level : Level) (keys : List ℕ) (key : ℕ) → here ≡ level → IsUsable guides level keys → 0 < length here.pins + length here.ties → Fits here (at keys) key → key < 2 ^ 120
asked_low guides here level keys key same usable some fits =
    elim (cases_lt 0 (length here.pins)) [
      | inl pin ↦ of_pins here.pins pin (subst (λ (l : Level). AllByRecursion (λ pin. pin < 2 ^ 120) l.pins) (sym same) usable.pins) fits.0
      | inr none ↦ of_ties here.ties (omega arith) (subst (λ (l : Level). AllByRecursion (λ m. m < length keys) l.ties) (sym same) usable.ties) fits.1
    ]
  where
    each_low : (ks : List ℕ) (i : ℕ) → AllByRecursion (λ k. k < 2 ^ 120) ks → i < length ks → get_or ks i 0 < 2 ^ 120
    each_low [] i all lt = absurd (omega arith)
    each_low (k ∷ ks) zero all lt = all.0
    each_low (k ∷ ks) (suc i) all lt = each_low ks i all.1 (omega arith)

    of_pins : (pins : List ℕ) → 0 < length pins → AllByRecursion (λ pin. pin < 2 ^ 120) pins → AllByRecursion (λ pin. pin ≡ key) pins → key < 2 ^ 120
    of_pins [] lt low all = absurd (omega arith)
    of_pins (pin ∷ pins) lt low all = (let a = low.0 in let b = all.0 in omega arith)

    of_ties : (ties : List ℕ) → 0 < length ties → AllByRecursion (λ m. m < length keys) ties → AllByRecursion (λ m. at keys m ≡ key) ties → key < 2 ^ 120
    of_ties [] lt low all = absurd (omega arith)
    of_ties (m ∷ ties) lt low all = (let a = each_low keys m usable.keys low.0 in let b = all.0 in omega arith)

-- a join of iterators that were opened rising, below this end
pub record Joins (places : List ℕ) (atoms moved : List AtomView) (hi : ℕ) (old new : Sense) (key turn begun now : ℕ) : Type 0 where
  pub keys : map atom_keys moved ≡ map atom_keys atoms
  pub still : map atom_still moved ≡ map atom_still atoms
  pub others : (i : ℕ) → (IsIn i places → ⊥) → slice_get moved i ≡ slice_get atoms i
  pub exact : (b : ℕ) → NonePassed (lists_of atoms places) (heres_of atoms places) b → b ≤ last_of (heres_of atoms places) (turned (length places) 0) → key < hi → key ≡ least_from (common_keys (lists_of atoms places)) b
  pub found : key < hi → AllByRecursion (λ here. here ≡ key) (heres_of moved places)
  pub ring : IsRing (lists_of atoms places) (heres_of moved places) (turned (length places) turn)
  pub made : AreToldMoves TakesGap (map atom_still atoms) (map atom_keys atoms) places (map atom_here atoms) (map atom_here moved) old new (last_of (heres_of atoms places) (turned (length places) 0)) key begun now
  pub left : (i : ℕ) → i < length places → now + moves_left (lists_of atoms places) (heres_of moved places) (turned (length places) turn) i ≤ begun + moves_left (lists_of atoms places) (heres_of atoms places) (turned (length places) 0) i

-- a join that goes on from a key to a bound, below this end
pub record GoesOn (places : List ℕ) (atoms moved : List AtomView) (to hi : ℕ) (old new : Sense) (turn0 key turn begun now : ℕ) : Type 0 where
  pub keys : map atom_keys moved ≡ map atom_keys atoms
  pub still : map atom_still moved ≡ map atom_still atoms
  pub others : (i : ℕ) → (IsIn i places → ⊥) → slice_get moved i ≡ slice_get atoms i
  pub exact : key < hi → key ≡ least_from (common_keys (lists_of atoms places)) to
  pub found : key < hi → AllByRecursion (λ here. here ≡ key) (heres_of moved places)
  pub ring : IsRing (lists_of atoms places) (heres_of moved places) (turned (length places) turn)
  pub made : AreToldMoves TakesGap (map atom_still atoms) (map atom_keys atoms) places (map atom_here atoms) (map atom_here moved) old new to key begun now
  pub left : first_of (heres_of atoms places) (turned (length places) turn0) < to → (i : ℕ) → i < length places
      → now + moves_left (lists_of atoms places) (heres_of moved places) (turned (length places) turn) i ≤ begun + moves_left (lists_of atoms places) (heres_of atoms places) (turned (length places) turn0) i
  pub each : key < hi → AllByRecursion (λ here. here < to) (heres_of atoms places) → begun + length places ≤ now

-- where a level begins: at its bound, or at a key before the range
pub begin_low : (from lo opens begin : ℕ) → from ≤ 2 ^ 120 → lo ≤ 2 ^ 120 → opens ≤ lo → (begin ≡ from) ⊎ (begin ≡ opens) → begin ≤ 2 ^ 120
begin_low from lo opens begin low first before one = elim one [ inl e ↦ omega arith | inr e ↦ omega arith ]

pub begin_before : (from lo opens begin k : ℕ) → opens ≤ lo → (begin ≡ from) ⊎ (begin ≡ opens) → from ≤ k → k < begin → k < lo
begin_before from lo opens begin k before one le lt = elim one [ inl e ↦ absurd (omega arith) | inr e ↦ omega arith ]

module _ (body : Body) (plan : Plan) (state : State) (keys : List ℕ) (walkable : AllByRecursion IsWalkable plan.guides) (ps : List ℕ) (same : ps ≡ atoms_at_level plan.guides (length keys)) where
  abbrev held : List ℕ
  held = atoms_at_level plan.guides (length keys)

  pub some_held : 0 < length (atoms_at plan.guides (length keys)) → 0 < length held
  some_held some = (let n = count_held body plan state keys walkable in omega arith)

  -- ---- opened rising

  module _ (above atoms : List AtomView) (from : ℕ) (is_above : AreAtomsAt plan state keys above) (opened : AreOpened held above atoms) where
    pub are_places : ArePlaces ps (length atoms)
    are_places = subst (λ (p : List ℕ). ArePlaces p (length atoms)) (sym same) (places_are plan.guides (length keys) (length atoms) (count_is plan state keys walkable above atoms is_above opened))

    pub joined_ring : RiseFrom from (lists_of atoms held) (heres_of atoms held) → 0 < length (atoms_at plan.guides (length keys)) → IsRing (lists_of atoms ps) (heres_of atoms ps) (turned (length ps) 0)
    joined_ring rising some =
        subst (λ (p : List ℕ). IsRing (lists_of atoms p) (heres_of atoms p) (turned (length p) 0)) (sym same)
        (ring_rising from (lists_of atoms held) (heres_of atoms held) (length held) (length_map (keys_at (map atom_keys atoms)) held) (some_held some) (keyed plan state keys walkable above atoms is_above opened) rising)

    -- they move no more than the count says
    pub joined_within : (level : Level) (begun between now : ℕ) → is_lone level ≡ false → 0 < length (atoms_at plan.guides (length keys)) → between ≡ begun + length held
        → ((i : ℕ) → i < length ps → now ≤ between + moves_left (lists_of atoms ps) (heres_of atoms ps) (turned (length ps) 0) i) → now ≤ begun + join_cost (iterators_at state plan.guides level (length keys) (at keys))
    joined_within level begun between now free some each left =
        let within : (i : ℕ) → i < length held → now ≤ between + moves_left (lists_of atoms held) (heres_of atoms held) (turned (length held) 0) i =
        subst (λ (p : List ℕ). (i : ℕ) → i < length p → now ≤ between + moves_left (lists_of atoms p) (heres_of atoms p) (turned (length p) 0) i) same left in
        let n = some_held some in
        let long = length_map (keys_at (map atom_keys atoms)) held in
        let one = within (shortest (lists_of atoms held)) (let w = shortest_within (lists_of atoms held) (omega arith) in omega arith) in
        let cost = begun_cost plan state keys walkable level free above atoms is_above opened n in
        omega arith

    module _ (moved : List AtomView) (level : Level) (free : is_lone level ≡ false) (greatest hi key turn : ℕ) (old mid new : Sense) (begun between now : ℕ) (some : 0 < length (atoms_at plan.guides (length keys))) (low : from ≤ 2 ^ 120)
        (first : AreSensed plan state keys old mid from greatest begun between) (rising : RiseFrom from (lists_of atoms held) (heres_of atoms held)) (within : AllByRecursion (λ here. here ≤ greatest) (heres_of atoms held))
        (each : between ≡ begun + length held) (joins : Joins ps atoms moved hi mid new key turn between now) where
      by_held : Joins held atoms moved hi mid new key turn between now
      by_held = subst (λ (p : List ℕ). Joins p atoms moved hi mid new key turn between now) same joins

      pub joined_gone : hi ≤ end_key → key < hi → HasGone body plan state old new keys level held above moved from (begun + join_cost (iterators_at state plan.guides level (length keys) (at keys))) begun now key turn
      joined_gone high goes =
          gone_joined body plan state keys walkable level free above atoms moved is_above opened by_held.keys by_held.still by_held.others from greatest key turn old mid new begun between now (some_held some) low first rising within each by_held.made by_held.left
          (λ ended. omega arith) (λ b passed before. by_held.exact b passed before goes) by_held.ring (by_held.found goes)

      pub joined_ended : (back : List AtomView) (ended turn' : ℕ) → ((k : ℕ) → key ≤ k → IsOut body plan keys k) → ended ≡ end_key → back ≡ above
          → HasGone body plan state old new keys level held above back from (begun + join_cost (iterators_at state plan.guides level (length keys) (at keys))) begun now ended turn'
      joined_ended back ended turn' out is_ended same_back =
          gone_joined_end body plan state keys walkable level free above atoms moved is_above opened by_held.keys by_held.still by_held.others from greatest key turn old mid new begun between now (some_held some) low first rising within each by_held.made by_held.left
          back ended turn' out is_ended same_back

  -- opening them led to the end
  pub rising_ended : (level : Level) (old new : Sense) (above back : List AtomView) (from greatest begun now ended turn : ℕ) → AreSensed plan state keys old new from greatest begun now → greatest ≡ end_key → ended ≡ end_key → back ≡ above → from ≤ 2 ^ 120 → now ≤ begun + length held
      → HasGone body plan state old new keys level held above back from (begun + join_cost (iterators_at state plan.guides level (length keys) (at keys))) begun now ended turn
  rising_ended level old new above back from greatest begun now ended turn sensed is_end is_ended same_back low within =
      gone_end body plan state keys walkable level old new above back from (begun + join_cost (iterators_at state plan.guides level (length keys) (at keys))) begun now from greatest ended turn sensed
      (λ k cell le lt. passed_skipped body plan state keys walkable old new from greatest begun now ended sensed (omega arith) k le lt) is_ended same_back (omega arith)
      (let twice = cost_twice plan state keys level in let n = count_held body plan state keys walkable in omega arith)

  -- no more moves than opens
  pub opens_within : (level : Level) (begun now : ℕ) → now ≤ begun + length held → now ≤ begun + join_cost (iterators_at state plan.guides level (length keys) (at keys))
  opens_within level begun now le = (let twice = cost_twice plan state keys level in let n = count_held body plan state keys walkable in omega arith)

  pub opens_twice : (level : Level) (begun now : ℕ) → now ≤ begun + length held + length held → now ≤ begun + join_cost (iterators_at state plan.guides level (length keys) (at keys))
  opens_twice level begun now le = (let twice = cost_twice plan state keys level in let n = count_held body plan state keys walkable in omega arith)

  -- ---- at a key

  module _ (above atoms : List AtomView) (key0 turn0 : ℕ) (is : IsLevelAt plan state keys held above atoms key0 turn0) where
    pub next_places : ArePlaces ps (length atoms)
    next_places = are_places above atoms 0 is.is_above is.opened

    pub next_ring : IsRing (lists_of atoms ps) (heres_of atoms ps) (turned (length ps) turn0)
    next_ring =
        subst (λ (p : List ℕ). IsRing (lists_of atoms p) (heres_of atoms p) (turned (length p) turn0)) (sym same)
        (ring_at_key (lists_of atoms held) (heres_of atoms held) (length held) turn0 key0 (length_map (keys_at (map atom_keys atoms)) held) (length_map _ held) is.has_turn (keyed plan state keys walkable above atoms is.is_above is.opened) is.there is.at_key)

    pub next_first : first_of (heres_of atoms ps) (turned (length ps) turn0) ≡ key0
    next_first = subst (λ (p : List ℕ). first_of (heres_of atoms p) (turned (length p) turn0) ≡ key0) (sym same) (first_at plan state keys above atoms key0 turn0 is)

    pub next_ahead : (to : ℕ) → key0 < to → AllByRecursion (λ here. here ≤ to) (heres_of atoms ps)
    next_ahead to ahead = subst (λ (p : List ℕ). AllByRecursion (λ here. here ≤ to) (heres_of atoms p)) (sym same) (all_up (heres_of atoms held) is.at_key)
      where
        all_up : (heres : List ℕ) → AllByRecursion (λ here. here ≡ key0) heres → AllByRecursion (λ here. here ≤ to) heres
        all_up [] h = tt
        all_up (here ∷ heres) h = ((let e = h.0 in omega arith), all_up heres h.1)

    pub next_opened : AreOpened ps above atoms
    next_opened = subst (λ (p : List ℕ). AreOpened p above atoms) (sym same) is.opened

    pub next_within : (level : Level) (to begun now : ℕ) → key0 < to → is_lone level ≡ false
        → (first_of (heres_of atoms ps) (turned (length ps) turn0) < to → (i : ℕ) → i < length ps → now ≤ begun + moves_left (lists_of atoms ps) (heres_of atoms ps) (turned (length ps) turn0) i)
        → now ≤ begun + left_at level held atoms key0 turn0
    next_within level to begun now ahead free left =
        let first = next_first in
        let all : (i : ℕ) → i < length held → now ≤ begun + moves_left (lists_of atoms held) (heres_of atoms held) (turned (length held) turn0) i =
        subst (λ (p : List ℕ). (i : ℕ) → i < length p → now ≤ begun + moves_left (lists_of atoms p) (heres_of atoms p) (turned (length p) turn0) i) same (left (omega arith)) in
        let long = length_map (keys_at (map atom_keys atoms)) held in
        let t = is.has_turn in
        let one = all (shortest (lists_of atoms held)) (let w = shortest_within (lists_of atoms held) (omega arith) in omega arith) in
        let e = left_free level held atoms key0 turn0 free is.not_ended in
        omega arith

    module _ (moved : List AtomView) (level : Level) (free : is_lone level ≡ false) (to hi key turn : ℕ) (old new : Sense) (begun now : ℕ) (ahead : key0 < to) (low : to ≤ 2 ^ 120) (tight : IsTight old state) (on : GoesOn ps atoms moved to hi old new turn0 key turn begun now) where
      on_held : GoesOn held atoms moved to hi old new turn0 key turn begun now
      on_held = subst (λ (p : List ℕ). GoesOn p atoms moved to hi old new turn0 key turn begun now) same on

      pub next_gone : hi ≤ end_key → key < hi → HasGone body plan state old new keys level held above moved to (begun + left_at level held atoms key0 turn0) begun now key turn
      next_gone high goes =
          gone_next body plan state keys walkable level free above atoms moved is.is_above is.opened on_held.keys on_held.still on_held.others key0 turn0 to key turn old new begun now is ahead low tight on_held.made on_held.left
          (λ ended. omega arith) (on_held.exact goes) on_held.ring (on_held.found goes) (on_held.each goes)

      pub next_ended : (back : List AtomView) (ended turn' : ℕ) → ((k : ℕ) → key ≤ k → IsOut body plan keys k) → ended ≡ end_key → back ≡ above
          → HasGone body plan state old new keys level held above back to (begun + left_at level held atoms key0 turn0) begun now ended turn'
      next_ended back ended turn' out is_ended same_back =
          gone_next_end body plan state keys walkable level free above atoms moved is.is_above is.opened on_held.keys on_held.still on_held.others key0 turn0 to key turn old new begun now is ahead low tight on_held.made on_held.left
          back ended turn' out is_ended same_back

-- ---- a level that goes on to its next key, by a walk's plan

module _ (inside way : WayView) (same_way : inside ≡ way) (ok : IsWay inside) (keys places : List ℕ) (n : ℕ) (are : places ≡ atoms_at_level inside.plan.guides n) (depth : n ≡ length keys)
    (above atoms : List AtomView) (key0 turn0 : ℕ) (is : IsLevelAt way.plan way.state keys (atoms_at_level way.plan.guides (length keys)) above atoms key0 turn0) where
  walks : AllByRecursion IsWalkable way.plan.guides
  walks = way_walkable inside way same_way ok

  theirs : places ≡ atoms_at_level way.plan.guides (length keys)
  theirs = way_places inside way keys places n same_way are depth

  pub met_places : ArePlaces places (length atoms)
  met_places = next_places way.body way.plan way.state keys walks places theirs above atoms key0 turn0 is

  pub met_ring : IsRing (lists_of atoms places) (heres_of atoms places) (turned (length places) turn0)
  met_ring = next_ring way.body way.plan way.state keys walks places theirs above atoms key0 turn0 is

  pub met_first : first_of (heres_of atoms places) (turned (length places) turn0) ≡ key0
  met_first = next_first way.body way.plan way.state keys walks places theirs above atoms key0 turn0 is

  pub met_ahead : AllByRecursion (λ here. here ≤ key0 + 1) (heres_of atoms places)
  met_ahead = next_ahead way.body way.plan way.state keys walks places theirs above atoms key0 turn0 is (key0 + 1) (omega arith)

  pub met_opened : AreOpened places above atoms
  met_opened = next_opened way.body way.plan way.state keys walks places theirs above atoms key0 turn0 is

  pub met_within : (level : Level) (begun now : ℕ) → is_lone level ≡ false
      → (first_of (heres_of atoms places) (turned (length places) turn0) < key0 + 1 → (i : ℕ) → i < length places → now ≤ begun + moves_left (lists_of atoms places) (heres_of atoms places) (turned (length places) turn0) i)
      → now ≤ begun + left_at level (atoms_at_level way.plan.guides (length keys)) atoms key0 turn0
  met_within level begun now free left = next_within way.body way.plan way.state keys walks places theirs above atoms key0 turn0 is level (key0 + 1) begun now (omega arith) free left

  module _ (moved : List AtomView) (hi key turn : ℕ) (old new : Sense) (begun now : ℕ) (low : key0 < 2 ^ 120) (tight : IsTight old way.state) (on : GoesOn places atoms moved (key0 + 1) hi old new turn0 key turn begun now) (level : Level) (free : is_lone level ≡ false) where
    pub met_gone : hi ≤ end_key → key < hi
        → HasGone way.body way.plan way.state old new keys level (atoms_at_level way.plan.guides (length keys)) above moved (key0 + 1) (begun + left_at level (atoms_at_level way.plan.guides (length keys)) atoms key0 turn0) begun now key turn
    met_gone high goes =
        next_gone way.body way.plan way.state keys walks places theirs above atoms key0 turn0 is moved level free (key0 + 1) hi key turn old new begun now (omega arith) (omega arith) tight on high goes

    pub met_ended : (back : List AtomView) (ended turn' : ℕ) → ((k : ℕ) → key ≤ k → IsOut way.body way.plan keys k) → ended ≡ end_key → back ≡ above
        → HasGone way.body way.plan way.state old new keys level (atoms_at_level way.plan.guides (length keys)) above back (key0 + 1) (begun + left_at level (atoms_at_level way.plan.guides (length keys)) atoms key0 turn0) begun now ended turn'
    met_ended back ended turn' out is_ended same_back =
        next_ended way.body way.plan way.state keys walks places theirs above atoms key0 turn0 is moved level free (key0 + 1) hi key turn old new begun now (omega arith) (omega arith) tight on back ended turn' out is_ended same_back
