-- What one of several iterators did when it sought a bound.
use Rattle.std.proofs.Common.{◌≡◌, ◌≢◌, ℕ, zero, suc, ◌+◌, ◌<◌, ◌≤◌, ◌^◌, List, [], ◌∷◌, length, get_or, set, map, Some, refl, sym, ap, subst, ◌∙◌, arith, slice_get}
use Rattle.std.specs.List.{AllByRecursion}
use Rattle.std.proofs.lemmas.List.{map-set, get_or-map, length-map}
use Rattle.std.proofs.Math.Seq.{map-set_same}
use Rattle.lt_face.specs.declared.key.Gap.{Gap}
use Rattle.lt_face.specs.Keys.{end_key, least_from}
use Rattle.lt_leap.specs.Places.{ArePlaces, first_of, lists_at, heres_at, turned}
use Rattle.lt_leap.specs.Ring.{keys_at, IsRing}
use Rattle.lt_leap.proofs.AtPlaces.{here_in, each_within}
use Rattle.lt_leap.proofs.Seeks.{Seeks, seeks, turn_within, place_within}

pub record Sought {I : Type 0} (K : I → List ℕ) (H : I → ℕ) (S : I → I) (items old : List I) (place to : ℕ) (x : I) (gap : Gap) : Type 0 where
  pub keys : map K (set items place x) ≡ map K old
  pub still : map S (set items place x) ≡ map S old
  pub heres : map H (set items place x) ≡ set (map H items) place (least_from (keys_at (map K old) place) to)
  pub hi : gap.hi ≡ least_from (keys_at (map K old) place) to
  pub at : slice_get (map S old) place ≡ Some (S x)

get_at : {I : Type 0} (xs : List I) (i : ℕ) (d : I) → i < length xs → slice_get xs i ≡ Some (get_or xs i d)
get_at [] i d lt = absurd (omega arith)
get_at (x ∷ xs) zero d lt = refl
get_at (x ∷ xs) (suc i) d lt = get_at xs i d (omega arith)

-- where the iterator at a turn stands
pub stands : {I : Type 0} (K : I → List ℕ) (H : I → ℕ) (items old : List I) → map K items ≡ map K old → (places : List ℕ) (turn : ℕ) (d : I) → ArePlaces places (length old) → turn < length places
    → get_or (map H items) (get_or places turn 0) 0 ≡ H (get_or items (get_or places turn 0) d)
stands K H items old same places turn d are lt =
    let within = place_within places (length old) turn are lt in
    let long : length items ≡ length old = sym (length-map items K) ∙ ap length same ∙ length-map old K in
    get_or-map H items (get_or places turn 0) d 0 (omega arith)

module _ {I : Type 0} (K : I → List ℕ) (H : I → ℕ) (S : I → I) (items old : List I) (same : map K items ≡ map K old) where
  pub as_many : length items ≡ length old
  as_many = sym (length-map items K) ∙ ap length same ∙ length-map old K

  pub listed : length (map K old) ≡ length (map H items)
  listed = length-map old K ∙ sym as_many ∙ sym (length-map items H)

  pub places_on : (places : List ℕ) → ArePlaces places (length old) → ArePlaces places (length (map H items))
  places_on places are = subst (ArePlaces places) (sym as_many ∙ sym (length-map items H)) are

  pub sought : (place to : ℕ) (x d : I) (gap : Gap) → place < length items → map S items ≡ map S old → K x ≡ K (get_or items place d) → S x ≡ S (get_or items place d)
      → H x ≡ least_from (K (get_or items place d)) to → gap.hi ≡ H x → Sought K H S items old place to x gap
  sought place to x d gap within still k s here hi =
      let seen : K (get_or items place d) ≡ keys_at (map K old) place = sym (get_or-map K items place d [] within) ∙ ap (λ ls. keys_at ls place) same in
      let landed : H x ≡ least_from (keys_at (map K old) place) to = here ∙ ap (λ ks. least_from ks to) seen in
      let place_in : place < length (map S items) = (let n = length-map items S in omega arith) in
      let at : slice_get (map S items) place ≡ Some (S x) =
      get_at (map S items) place x place_in ∙ ap Some (get_or-map S items place d x within ∙ sym s) in
      record {
        keys = map-set_same K items place x d k ∙ same;
        still = map-set_same S items place x d s ∙ still;
        heres = map-set H items place x ∙ ap (set (map H items) place) landed;
        hi = hi ∙ landed;
        at = subst (λ xs. slice_get xs place ≡ Some (S x)) still at;
      }

-- and what that keeps of the ring
pub record Went {I : Type 0} (K : I → List ℕ) (H : I → ℕ) (S : I → I) (items old : List I) (places : List ℕ) (turn to : ℕ) (x : I) (gap : Gap) (next : ℕ) : Type 0 where
  pub sought : Sought K H S items old (get_or places turn 0) to x gap
  pub seeks : Seeks (map K old) places (map H items) turn to gap (map H (set items (get_or places turn 0) x)) next

pub went : {I : Type 0} (K : I → List ℕ) (H : I → ℕ) (S : I → I) (items old : List I) (places : List ℕ) (turn to : ℕ) (x d : I) (gap : Gap) (next : ℕ)
    → map K items ≡ map K old → map S items ≡ map S old → ArePlaces places (length old) → IsRing (lists_at (map K old) places) (heres_at (map H items) places) (turned (length places) turn)
    → ((i : ℕ) → i < length places → get_or (heres_at (map H items) places) i 0 ≤ to) → to ≤ 2 ^ 120 → get_or (map H items) (get_or places turn 0) 0 ≢ end_key
    → K x ≡ K (get_or items (get_or places turn 0) d) → S x ≡ S (get_or items (get_or places turn 0) d) → H x ≡ least_from (K (get_or items (get_or places turn 0) d)) to → gap.lo ≡ to → gap.hi ≡ H x
    → (turn + 1 < length places → next ≡ turn + 1) → (turn + 1 ≡ length places → next ≡ 0) → Went K H S items old places turn to x gap next
went K H S items old places turn to x d gap next same still are ring ahead low goes k s here lo hi later round =
    let long = as_many K H S items old same in
    let place_at = place_within places (length old) turn are (turn_within (map K old) places (map H items) turn ring) in
    let one = sought K H S items old same (get_or places turn 0) to x d gap (omega arith) still k s here hi in
    record {
      sought = one;
      seeks = seeks (map K old) places (map H items) turn to gap (map H (set items (get_or places turn 0) x)) next (places_on K H S items old same places are) (listed K H S items old same) ring ahead low goes one.heres lo one.hi later round;
    }

-- the first of all
pub begun : {I : Type 0} (K : I → List ℕ) (H : I → ℕ) (S : I → I) (items : List I) (places : List ℕ) (turn to : ℕ) (x d : I) (gap : Gap) (next : ℕ)
    → ArePlaces places (length items) → IsRing (lists_at (map K items) places) (heres_at (map H items) places) (turned (length places) turn)
    → first_of (heres_at (map H items) places) (turned (length places) turn) ≢ end_key → AllByRecursion (λ here. here ≤ to) (heres_at (map H items) places) → to ≤ 2 ^ 120
    → K x ≡ K (get_or items (get_or places turn 0) d) → S x ≡ S (get_or items (get_or places turn 0) d) → H x ≡ least_from (K (get_or items (get_or places turn 0) d)) to → gap.lo ≡ to → gap.hi ≡ H x
    → (turn + 1 < length places → next ≡ turn + 1) → (turn + 1 ≡ length places → next ≡ 0) → Went K H S items items places turn to x gap next
begun K H S items places turn to x d gap next are ring goes ahead low k s here lo hi later round =
    let turn_at = turn_within (map K items) places (map H items) turn ring in
    let n = length-map places (λ place. get_or (map H items) place 0) in
    went K H S items items places turn to x d gap next refl refl are ring (λ i lt. each_within (λ here. here ≤ to) (heres_at (map H items) places) i ahead (omega arith)) low
    (λ h. goes (here_in (map H items) places turn turn_at ∙ h)) k s here lo hi later round
