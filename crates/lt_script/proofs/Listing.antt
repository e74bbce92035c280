-- Loops that push one thing after the other: a list with its first apart, or one that may be empty.
use Rattle.std.proofs.Common.{◌≡◌, ℕ, suc, ◌-◌, ◌<◌, ◌≤◌, Bool, true, false, List, [], ◌∷◌, ◌++◌, length, map, drop, subst, Ok, Err, refl, sym, ap, ◌∙◌, arith}
use Rattle.std.proofs.lemmas.List.{length-append, map_push}
use Rattle.lt_reading.specs.Reading.{next_is, many, led, past_comma}
use Rattle.lt_reading.proofs.Loops.{Shrinks, SoFar, begun, goes_on, ends, fails, exceeds}
use Rattle.lt_model.specs.Tokens.{Shape}
use Rattle.lt_model.specs.Grammar.{comma}
use Rattle.lt_grammar.specs.Tokens.{same_shape}
use Rattle.lt_grammar.specs.Productions.{stands}
use Rattle.lt_script.specs.declared.refusal.Refusal.{Refusal}
use Rattle.lt_script.specs.declared.refusal.Refusal.TheVariants.{NoMemory, Fault}
use Rattle.lt_script.specs.Ahead.{Place, shapes}
use Rattle.lt_script.specs.Parsed.{Fails, StopsAt, Stop, Outcome, Reader, Refuses, further}

-- ---- why a loop stops

module _ {A : Type 0} (p : Shape → Bool) (e : Reader A) (over : List Shape → Stop) where
  fails_with : (refusal : Refusal) (front : List A) (room : ℕ) (ts left : List Shape) (all : Outcome (List A)) → next_is p ts ≡ true → Fails refusal left (e ts) → SoFar p e over front (suc room) ts all → Fails refusal left all
  fails_with NoMemory front room ts left all h k s = tt
  fails_with (Fault c) front room ts left all h k s = fails p e over front room ts all _ h k s

  exceeds_with : (refusal : Refusal) (front : List A) (ts left : List Shape) (all : Outcome (List A)) → next_is p ts ≡ true → StopsAt refusal left (over ts) → SoFar p e over front 0 ts all → Fails refusal left all
  exceeds_with NoMemory front ts left all h k s = tt
  exceeds_with (Fault c) front ts left all h k s = exceeds p e over front ts all h s ∙ ap (λ (q : Stop). Err q) k

-- ---- with commas, and the first apart

module _ {X A : Type 0} (view : X → A) (starts : Shape → Bool) (r : Reader A) (room : ℕ) (start : Place) where
  abbrev at_comma : Shape → Bool
  at_comma t = same_shape t comma

  abbrev next : Reader A
  next = led same_shape comma r

  abbrev over : List Shape → Stop
  over = past_comma starts

  abbrev listing : Outcome (List A)
  listing = further starts r room (shapes start)

  -- the things so far, and the place behind them
  pub record Listing (first : X) (items : List X) (here : Place) : Type 0 where
    pub so_far : SoFar at_comma next over (map view (drop 1 items)) (suc room - length items) (shapes here) listing
    pub first_is : items ≡ first ∷ drop 1 items
    pub within : length items ≤ suc room
    pub source : here.source ≡ start.source

  pub listing_begins : (first : X) (items : List X) → items ≡ first ∷ [] → Listing first items start
  listing_begins first items is =
      let P : List X → Type 0 = λ v. Listing first v start in
      let Q : ℕ → Type 0 = λ n. SoFar at_comma next over [] n (shapes start) listing in
      let left : room ≡ suc room - 1 = omega arith in
      subst P (sym is) (record { so_far = subst Q left (begun at_comma next over (shapes start) room); first_is = refl; within = omega arith; source = refl })

  pub listing_next : Shrinks next → (first : X) (items new : List X) (here there : Place) (x : X) → stands comma (shapes here) ≡ true → (next (shapes here) ≡ Ok (view x, shapes there)) × (there.source ≡ here.source) → new ≡ items ++ x ∷ []
      → length items < suc room → Listing first items here → Listing first new there
  listing_next less first items new here there x h k is lt l =
      let left : suc room - length items ≡ suc (suc room - length new) = omega (arith, ap (λ (v : List X). length v) is, length-append items (x ∷ [])) in
      let all : new ≡ first ∷ (drop 1 items ++ x ∷ []) = is ∙ ap (λ (v : List X). v ++ x ∷ []) l.first_is in
      let others : map view (drop 1 new) ≡ map view (drop 1 items) ++ view x ∷ [] = ap (λ (v : List X). map view (drop 1 v)) all ∙ map_push view (drop 1 items) x in
      let P : ℕ → Type 0 = λ n. SoFar at_comma next over (map view (drop 1 items)) n (shapes here) listing in
      let Q : List A → Type 0 = λ v. SoFar at_comma next over v (suc room - length new) (shapes there) listing in
      let R : List X → Type 0 = λ v. v ≡ first ∷ drop 1 v in
      record {
        so_far = subst Q (sym others) (goes_on at_comma next over less (map view (drop 1 items)) (suc room - length new) (shapes here) listing (view x) (shapes there) h k.0 (subst P left l.so_far));
        first_is = subst R (sym all) refl;
        within = omega (arith, ap (λ (v : List X). length v) is, length-append items (x ∷ []));
        source = k.1 ∙ l.source;
      }

  pub listing_ends : (first : X) (items : List X) (here : Place) → stands comma (shapes here) ≡ false → Listing first items here → (listing ≡ Ok (map view (drop 1 items), shapes here)) × (here.source ≡ start.source)
  listing_ends first items here h l = (ends at_comma next over (map view (drop 1 items)) (suc room - length items) (shapes here) listing h l.so_far, l.source)

  pub listing_fails : (refusal : Refusal) (first : X) (items : List X) (here there : Place) → stands comma (shapes here) ≡ true → Fails refusal (shapes there) (next (shapes here)) × (there.source ≡ here.source)
      → length items < suc room → Listing first items here → Fails refusal (shapes there) listing × (there.source ≡ start.source)
  listing_fails refusal first items here there h k lt l =
      let left : suc room - length items ≡ suc (room - length items) = omega arith in
      let P : ℕ → Type 0 = λ n. SoFar at_comma next over (map view (drop 1 items)) n (shapes here) listing in
      (fails_with at_comma next over refusal (map view (drop 1 items)) (room - length items) (shapes here) (shapes there) listing h k.0 (subst P left l.so_far), k.1 ∙ l.source)

  pub listing_exceeds : (refusal : Refusal) (first : X) (items : List X) (here there : Place) → stands comma (shapes here) ≡ true → Refuses refusal here there over
      → length items ≡ suc room → Listing first items here → Fails refusal (shapes there) listing × (there.source ≡ start.source)
  listing_exceeds refusal first items here there h k full l =
      let left : suc room - length items ≡ 0 = omega arith in
      let P : ℕ → Type 0 = λ n. SoFar at_comma next over (map view (drop 1 items)) n (shapes here) listing in
      (exceeds_with at_comma next over refusal (map view (drop 1 items)) (shapes here) (shapes there) listing h k.0 (subst P left l.so_far), k.1 ∙ l.source)

-- ---- from the empty list

module _ {X A : Type 0} (view : X → A) (p : Shape → Bool) (e : Reader A) (over : List Shape → Stop) (room : ℕ) (start : Place) where
  abbrev pushing : Outcome (List A)
  pushing = many p e over room (shapes start)

  -- the things so far, and the place behind them
  pub record Pushing (items : List X) (here : Place) : Type 0 where
    pub so_far : SoFar p e over (map view items) (room - length items) (shapes here) pushing
    pub within : length items ≤ room
    pub source : here.source ≡ start.source

  pub pushing_begins : (items : List X) → items ≡ [] → Pushing items start
  pushing_begins items is =
      let P : List X → Type 0 = λ v. Pushing v start in
      let Q : ℕ → Type 0 = λ n. SoFar p e over [] n (shapes start) pushing in
      let left : room ≡ room - 0 = omega arith in
      subst P (sym is) (record { so_far = subst Q left (begun p e over (shapes start) room); within = omega arith; source = refl })

  pub pushing_next : Shrinks e → (items new : List X) (here there : Place) (x : X) → next_is p (shapes here) ≡ true → (e (shapes here) ≡ Ok (view x, shapes there)) × (there.source ≡ here.source) → new ≡ items ++ x ∷ []
      → length items < room → Pushing items here → Pushing new there
  pushing_next less items new here there x h k is lt l =
      let left : room - length items ≡ suc (room - length new) = omega (arith, ap (λ (v : List X). length v) is, length-append items (x ∷ [])) in
      let others : map view new ≡ map view items ++ view x ∷ [] = ap (λ (v : List X). map view v) is ∙ map_push view items x in
      let P : ℕ → Type 0 = λ n. SoFar p e over (map view items) n (shapes here) pushing in
      let Q : List A → Type 0 = λ v. SoFar p e over v (room - length new) (shapes there) pushing in
      record {
        so_far = subst Q (sym others) (goes_on p e over less (map view items) (room - length new) (shapes here) pushing (view x) (shapes there) h k.0 (subst P left l.so_far));
        within = omega (arith, ap (λ (v : List X). length v) is, length-append items (x ∷ []));
        source = k.1 ∙ l.source;
      }

  pub pushing_ends : (items : List X) (here : Place) → next_is p (shapes here) ≡ false → Pushing items here → (pushing ≡ Ok (map view items, shapes here)) × (here.source ≡ start.source)
  pushing_ends items here h l = (ends p e over (map view items) (room - length items) (shapes here) pushing h l.so_far, l.source)

  pub pushing_fails : (refusal : Refusal) (items : List X) (here there : Place) → next_is p (shapes here) ≡ true → Fails refusal (shapes there) (e (shapes here)) × (there.source ≡ here.source)
      → length items < room → Pushing items here → Fails refusal (shapes there) pushing × (there.source ≡ start.source)
  pushing_fails refusal items here there h k lt l =
      let left : room - length items ≡ suc (room - length items - 1) = omega arith in
      let P : ℕ → Type 0 = λ n. SoFar p e over (map view items) n (shapes here) pushing in
      (fails_with p e over refusal (map view items) (room - length items - 1) (shapes here) (shapes there) pushing h k.0 (subst P left l.so_far), k.1 ∙ l.source)

  pub pushing_exceeds : (refusal : Refusal) (items : List X) (here : Place) → next_is p (shapes here) ≡ true → StopsAt refusal (shapes here) (over (shapes here))
      → length items ≡ room → Pushing items here → Fails refusal (shapes here) pushing × (here.source ≡ start.source)
  pushing_exceeds refusal items here h k full l =
      let left : room - length items ≡ 0 = omega arith in
      let P : ℕ → Type 0 = λ n. SoFar p e over (map view items) n (shapes here) pushing in
      (exceeds_with p e over refusal (map view items) (shapes here) (shapes here) pushing h k (subst P left l.so_far), l.source)
