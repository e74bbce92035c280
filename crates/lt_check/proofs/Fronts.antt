-- A name's place among the first names is its place among all.
use Rattle.std.proofs.Common.{◌≡◌, ℕ, suc, ◌+◌, ◌<◌, ◌≤◌, Bool, true, false, ◌||◌, List, [], ◌∷◌, ◌++◌, length, Some, None, cond, refl, sym, ap, subst, ◌∙◌, arith}
use Rattle.std.specs.Prelude.{position, nat_lt, if◌then◌else◌}
use Rattle.std.specs.List.{list_any, position_or_len}
use Rattle.std.specs.Str.{bytes_eq}
use Rattle.std.proofs.lemmas.Bool.{lt-ltb, ltb-true, ltb-false}
use Rattle.std.proofs.lemmas.List.{length-append}
use Rattle.std.proofs.lemmas.Slice.Eq.{bytes_eq-Decides}
use Rattle.lt_face.specs.Limits.{most_variables}
use Rattle.lt_model.specs.declared.syntax.Term.{Term}
use Rattle.lt_model.specs.declared.syntax.Term.TheVariants.{Name, Cell}
use Rattle.lt_model.specs.Variables.{with_name, place_of}
use Rattle.lt_check.specs.Seen.{with_variables}
use Rattle.lt_check.specs.Taking.{IsFront, IsWhole}

pub front_itself : (names : List (List ℕ)) → IsFront names names
front_itself [] = tt
front_itself (name ∷ names) = (refl, front_itself names)

pub front_through : (a b c : List (List ℕ)) → IsFront a b → IsFront b c → IsFront a c
front_through [] b c h g = tt
front_through (x ∷ a) [] c h g = absurd h
front_through (x ∷ a) (y ∷ b) [] h g = absurd g
front_through (x ∷ a) (y ∷ b) (z ∷ c) h g = (h.0 ∙ g.0, front_through a b c h.1 g.1)

front_more : (names more : List (List ℕ)) → IsFront names (names ++ more)
front_more [] more = tt
front_more (name ∷ names) more = (refl, front_more names more)

front_name : (names : List (List ℕ)) (name : List ℕ) → IsFront names (with_name names name)
front_name names name = by_case (list_any (bytes_eq name) names)
  where
    by_case : (b : Bool) → IsFront names (if b then names else names ++ name ∷ [])
    by_case true = front_itself names
    by_case false = front_more names (name ∷ [])

-- names are added behind those that are there
pub front_with : (names : List (List ℕ)) (terms : List Term) → IsFront names (with_variables names terms)
front_with names [] = front_itself names
front_with names (Name name ∷ terms) = front_through names (with_name names name) (with_variables (with_name names name) terms) (front_name names name) (front_with (with_name names name) terms)
front_with names (Cell kind cell ∷ terms) = front_with names terms

-- the whole of more names is the whole of fewer
pub IsWhole_before : (names is whole : List (List ℕ)) (terms : List Term) → is ≡ with_variables names terms → IsWhole is whole → IsWhole names whole
IsWhole_before names is whole terms e h = record {
  front = front_through names is whole (subst (λ ns. IsFront names ns) (sym e) (front_with names terms)) h.front;
  few = h.few;
}

-- ---- places

length_front : (names whole : List (List ℕ)) → IsFront names whole → length names ≤ length whole
length_front [] whole h = omega arith
length_front (x ∷ names) [] h = absurd h
length_front (x ∷ names) (y ∷ whole) h = let below = length_front names whole h.1 in omega (arith, below)

abbrev pub place : List ℕ → List (List ℕ) → ℕ
place name names = position_or_len (bytes_eq name) names

-- a name that is among the first stands at one place in both
place_in_front : (name : List ℕ) (names whole : List (List ℕ)) → IsFront names whole → place name names < length names → place name whole ≡ place name names
place_in_front name [] whole h less = absurd (omega (arith, less))
place_in_front name (x ∷ names) [] h less = absurd h
place_in_front name (x ∷ names) (y ∷ whole) h less = by_first (bytes_eq name x) refl (ap (bytes_eq name) (sym h.0)) less (place_in_front name names whole h.1)
  where
    by_first : (b : Bool) → bytes_eq name x ≡ b → bytes_eq name y ≡ bytes_eq name x → place name (x ∷ names) < suc (length names) → (place name names < length names → place name whole ≡ place name names) → place name (y ∷ whole) ≡ place name (x ∷ names)
    by_first true e f l more = let g : bytes_eq name y ≡ true = f ∙ e in rw (e, g) refl
    by_first false e f l more =
        let g : bytes_eq name y ≡ false = f ∙ e in
        let here : place name (x ∷ names) ≡ 1 + place name names = rw e refl in
        let below : place name names < length names = omega (arith, here, l) in
        rw (e, g) (ap (λ n. 1 + n) (more below))

there : (p : List ℕ → Bool) (names : List (List ℕ)) → position_or_len p names < length names → list_any p names ≡ true
there p [] less = absurd (omega (arith, less))
there p (x ∷ names) less = by_first (p x) refl less (there p names)
  where
    by_first : (b : Bool) → p x ≡ b → position_or_len p (x ∷ names) < suc (length names) → (position_or_len p names < length names → list_any p names ≡ true) → (p x || list_any p names) ≡ true
    by_first true e l more = ap (λ c. c || list_any p names) e
    by_first false e l more =
        let here : position_or_len p (x ∷ names) ≡ 1 + position_or_len p names = rw e refl in
        let below : position_or_len p names < length names = omega (arith, here, l) in
        ap (λ c. c || list_any p names) e ∙ more below

not_there : (p : List ℕ → Bool) (names : List (List ℕ)) → length names ≤ position_or_len p names → list_any p names ≡ false
not_there p [] h = refl
not_there p (x ∷ names) h = by_first (p x) refl h (not_there p names)
  where
    by_first : (b : Bool) → p x ≡ b → suc (length names) ≤ position_or_len p (x ∷ names) → (length names ≤ position_or_len p names → list_any p names ≡ false) → (p x || list_any p names) ≡ false
    by_first true e l rest =
        let here : position_or_len p (x ∷ names) ≡ 0 = rw e refl in
        absurd (omega (arith, here, l))
    by_first false e l rest =
        let here : position_or_len p (x ∷ names) ≡ 1 + position_or_len p names = rw e refl in
        let more : length names ≤ position_or_len p names = omega (arith, here, l) in
        ap (λ c. c || list_any p names) e ∙ rest more

at_end : (p : List ℕ → Bool) (names : List (List ℕ)) (name : List ℕ) → length names ≤ position_or_len p names → p name ≡ true → position_or_len p (names ++ name ∷ []) ≡ length names
at_end p [] name h e = rw e refl
at_end p (x ∷ names) name h e = by_first (p x) refl h (λ l. at_end p names name l e)
  where
    by_first : (b : Bool) → p x ≡ b → suc (length names) ≤ position_or_len p (x ∷ names) → (length names ≤ position_or_len p names → position_or_len p (names ++ name ∷ []) ≡ length names) → position_or_len p (x ∷ names ++ name ∷ []) ≡ suc (length names)
    by_first true f l further =
        let here : position_or_len p (x ∷ names) ≡ 0 = rw f refl in
        absurd (omega (arith, here, l))
    by_first false f l further =
        let here : position_or_len p (x ∷ names) ≡ 1 + position_or_len p names = rw f refl in
        let more : length names ≤ position_or_len p names = omega (arith, here, l) in
        let rest = further more in
        let step : position_or_len p (x ∷ names ++ name ∷ []) ≡ 1 + position_or_len p (names ++ name ∷ []) = rw f refl in
        omega (arith, step, rest)

-- what a search found
some_is : (n m k : ℕ) → Some k ≡ cond (nat_lt n m) (Some n) None → (k ≡ n) × (n < m)
some_is n m k h = by_case (nat_lt n m) refl h
  where
    by_case : (b : Bool) → nat_lt n m ≡ b → Some k ≡ cond b (Some n) None → (k ≡ n) × (n < m)
    by_case true e f = (cc, ltb-true n m e)
    by_case false e f = absurd cc

none_is : (n m : ℕ) → None ≡ cond (nat_lt n m) (Some n) None → m ≤ n
none_is n m h = by_case (nat_lt n m) refl h
  where
    by_case : (b : Bool) → nat_lt n m ≡ b → None ≡ cond b (Some n) None → m ≤ n
    by_case true e f = absurd cc
    by_case false e f = ltb-false n m e

place_is : (names : List (List ℕ)) (name : List ℕ) → place name names < length names → place_of names name ≡ place name names
place_is names name less = let e : nat_lt (place name names) (length names) ≡ true = lt-ltb (place name names) (length names) less in rw e refl

-- the place that was found is the name's number
pub number_found : (names whole : List (List ℕ)) (name : List ℕ) (at number : ℕ) → Some at ≡ position (bytes_eq name) names → (at < most_variables → number ≡ at) → IsWhole names whole → number ≡ place_of whole name
number_found names whole name at number found is h =
    let p = some_is (place name names) (length names) at found in
    let same = place_in_front name names whole h.front p.1 in
    let long = length_front names whole h.front in
    let few = h.few in
    let first = p.0 in
    let second = p.1 in
    let below : place name whole < length whole = omega (arith, same, long, second) in
    let low : at < most_variables = omega (arith, first, second, long, few) in
    is low ∙ p.0 ∙ sym same ∙ sym (place_is whole name below)

-- a name that was found is there
pub names_found : (names : List (List ℕ)) (name : List ℕ) (at : ℕ) → Some at ≡ position (bytes_eq name) names → names ≡ with_name names name
names_found names name at found =
    let p = some_is (place name names) (length names) at found in
    let any : list_any (bytes_eq name) names ≡ true = there (bytes_eq name) names p.1 in
    rw any refl

-- one that was not found is added
pub names_added : (names : List (List ℕ)) (name : List ℕ) → None ≡ position (bytes_eq name) names → names ++ name ∷ [] ≡ with_name names name
names_added names name none =
    let any : list_any (bytes_eq name) names ≡ false = not_there (bytes_eq name) names (none_is (place name names) (length names) none) in
    rw any refl

-- the place at the end is the number of a name that is new
pub number_added : (names is whole : List (List ℕ)) (name : List ℕ) (at number : ℕ) → None ≡ position (bytes_eq name) names → at ≡ length names → is ≡ names ++ name ∷ [] → (at < most_variables → number ≡ at) → IsWhole is whole → number ≡ place_of whole name
number_added names is whole name at number none e f is_at h =
    let ends = names ++ name ∷ [] in
    let itself : bytes_eq name name ≡ true = (bytes_eq-Decides name name).1 refl in
    let last : place name ends ≡ length names = at_end (bytes_eq name) names name (none_is (place name names) (length names) none) itself in
    let front : IsFront ends whole = subst (λ ns. IsFront ns whole) f h.front in
    let one : length ends ≡ length names + 1 = length-append names (name ∷ []) in
    let long = length_front ends whole front in
    let few = h.few in
    let within : place name ends < length ends = omega (arith, last, one) in
    let same = place_in_front name ends whole front within in
    let below : place name whole < length whole = omega (arith, same, within, long) in
    let low : at < most_variables = omega (arith, e, one, long, few) in
    is_at low ∙ e ∙ sym last ∙ sym same ∙ sym (place_is whole name below)
