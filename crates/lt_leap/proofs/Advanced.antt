-- A first turn, and then a search.
use Rattle.std.proofs.Common.{◌≡◌, ◌≢◌, ℕ, ◌+◌, ◌-◌, ◌<◌, ◌≤◌, ◌^◌, List, [], ◌∷◌, ◌++◌, length, get_or, set, take, drop, ap, ◌∙◌, subst, arith}
use Rattle.std.proofs.lemmas.Grind.{common_steps}
use Rattle.lt_face.specs.Keys.{end_key, least_from, IsPlace}
use Rattle.lt_leap.specs.Ring.{keys_at, IsRing, IsFound}
use Rattle.lt_leap.specs.Potential.{moves_left}
use Rattle.lt_leap.specs.Search.{NonePassed}
use Rattle.lt_leap.proofs.Turned.{IsRing-turned, left_less, y_up, at_j, back}
use Rattle.lt_leap.proofs.Searched.{key_in, passed-turned, place_low}

-- what holds after the first of the ring sought the bound
pub record Advanced (lists : List (List ℕ)) (heres ring : List ℕ) (to : ℕ) (heres' ring' : List ℕ) : Type 0 where
  pub is_ring : IsRing lists heres' ring'
  pub none : NonePassed lists heres' to
  pub up : to ≤ key_in heres' ring' (length ring' - 1)
  pub last_is : key_in heres' ring' (length ring' - 1) ≡ least_from (keys_at lists (get_or ring 0 0)) to
  pub left : get_or heres (get_or ring 0 0) 0 ≢ end_key → get_or heres (get_or ring 0 0) 0 < to → (i : ℕ) → i < length heres → moves_left lists heres' ring' i < moves_left lists heres ring i

pub advanced : (lists : List (List ℕ)) (heres ring : List ℕ) (to : ℕ) (heres' ring' : List ℕ) → IsRing lists heres ring → ((i : ℕ) → i < length heres → get_or heres i 0 ≤ to) → to ≤ 2 ^ 120
    → heres' ≡ set heres (get_or ring 0 0) (least_from (keys_at lists (get_or ring 0 0)) to) → ring' ≡ drop 1 ring ++ take 1 ring → Advanced lists heres ring to heres' ring'
advanced lists heres [] to heres' ring' is ahead low moved turned = absurd (let e = is.some in omega arith)
advanced lists heres (j ∷ ks) to heres' ring' is ahead low moved turned =
    let y = least_from (keys_at lists j) to in
    let j_in : j < length heres = is.in_range 0 is.some in
    let up : to ≤ y = y_up lists heres j ks to is ahead low in
    let last_at : length (ks ++ j ∷ []) - 1 ≡ length ks = (let e : length (ks ++ j ∷ []) ≡ length ks + 1 = grind (arith, common_steps) in omega arith) in
    let last_is : key_in (set heres j y) (ks ++ j ∷ []) (length (ks ++ j ∷ []) - 1) ≡ y = ap (λ k. get_or (set heres j y) k 0) (back j ks (length (ks ++ j ∷ []) - 1) last_at) ∙ at_j lists heres j ks to is ahead low in
    rw (moved, turned) (record {
      is_ring = IsRing-turned lists heres j ks to is ahead low;
      none = passed-turned lists heres j to to is.listed j_in (is.keyed j j_in) (λ c common le. le) (λ c common le i lt. let a = ahead i lt in omega arith);
      up = (let l = last_is in omega arith);
      last_is = last_is;
      left = λ key rose i lt. left_less lists heres j ks to is ahead low i lt key (omega arith);
    })

-- iterators in a ring that stand together at no end have found a key
pub found : (lists : List (List ℕ)) (heres ring : List ℕ) (key : ℕ) → IsRing lists heres ring → ((i : ℕ) → i < length heres → get_or heres i 0 ≡ key) → key ≢ end_key → IsFound lists heres ring key
found lists heres ring key is together goes =
    let some : 0 < length heres = (let e = is.as_long in let f = is.some in omega arith) in
    record {
      is_ring = is;
      together = together;
      low = place_low (keys_at lists 0) key (is.keyed 0 some) (subst (λ h. IsPlace (keys_at lists 0) h) (together 0 some) (is.placed 0 some)) goes;
    }
