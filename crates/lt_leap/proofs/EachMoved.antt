-- Where all stand elsewhere than before, each has moved.
use Rattle.std.proofs.Common.{◌≡◌, ◌≢◌, ℕ, zero, suc, ◌<◌, ◌≤◌, List, [], ◌∷◌, length, get_or, set, sym, subst, ◌∙◌, inl, inr, arith, ◌⊎◌}
use Rattle.std.proofs.lemmas.List.{length-map}
use Rattle.lt_face.specs.declared.key.Gap.{Gap}
use Rattle.lt_leap.specs.Moves.{Leads}
use Rattle.lt_leap.specs.Places.{heres_at}
use Rattle.lt_leap.specs.Search.{changed}
use Rattle.lt_leap.proofs.AtPlaces.{heres-set, heres-other}
use Rattle.lt_leap.proofs.Changed.{changed-same, changed-set, changed-chain, changed-all}
use Rattle.lt_leap.proofs.Turned.{cases_eq}

module _ (places : List ℕ) (distinct : (a b : ℕ) → a < b → b < length places → get_or places a 0 ≢ get_or places b 0) where
  -- where an iterator at one of the places, or at none, moves
  place_of : (ps : List ℕ) (p : ℕ) → ((t : ℕ) × (t < length ps) × (get_or ps t 0 ≡ p)) ⊎ ((a : ℕ) → a < length ps → get_or ps a 0 ≢ p)
  place_of [] p = inr (λ a lt. absurd (omega arith))
  place_of (q ∷ ps) p = elim (cases_eq q p) [
    | inl same ↦ inl (0, omega arith, same)
    | inr other ↦ elim (place_of ps p) [
      | inl there ↦ inl (suc there.0, (let lt = there.1 in omega arith), there.2)
      | inr none ↦ inr (outside ps q p other none)
    ]
  ]
    where
      outside : (ps : List ℕ) (q p : ℕ) → q ≢ p → ((a : ℕ) → a < length ps → get_or ps a 0 ≢ p) → (a : ℕ) → a < suc (length ps) → get_or (q ∷ ps) a 0 ≢ p
      outside ps q p other none zero lt = other
      outside ps q p other none (suc a) lt = none a (omega arith)

  one_changed : (heres : List ℕ) (p y : ℕ) → p < length heres → changed (heres_at heres places) (heres_at (set heres p y) places) ≤ 1
  one_changed heres p y within = elim (place_of places p) [
    | inl there ↦
        let at : heres_at (set heres p y) places ≡ set (heres_at heres places) there.0 y =
        subst (λ q. heres_at (set heres q y) places ≡ set (heres_at heres places) there.0 y) there.2 (heres-set heres places there.0 y distinct there.1 (let e = there.2 in omega arith)) in
        let one = changed-set (heres_at heres places) (heres_at heres places) there.0 y in
        let none = changed-same (heres_at heres places) in
        rw at (omega arith)
    | inr none ↦ rw (heres-other heres places p y none, changed-same (heres_at heres places)) (omega arith)
  ]

  pub changed-leads : (lists : List (List ℕ)) (from to : List ℕ) (moves : List (ℕ × Gap)) → Leads lists from moves to → changed (heres_at from places) (heres_at to places) ≤ length moves
  changed-leads lists from to [] leads = rw (leads, changed-same (heres_at from places)) (omega arith)
  changed-leads lists from to (move ∷ moves) leads =
      let mid = set from move.0 move.1.hi in
      let long = λ (heres : List ℕ). length-map places (λ place. get_or heres place 0) in
      let chain = changed-chain (heres_at from places) (heres_at mid places) 0 0 (heres_at to places) (long mid ∙ sym (long from)) (long to ∙ sym (long from)) in
      let first = one_changed from move.0 move.1.hi leads.0.within in
      let rest = changed-leads lists mid to moves leads.1 in
      omega arith

  pub each-moved : (lists : List (List ℕ)) (from to : List ℕ) (moves : List (ℕ × Gap)) → Leads lists from moves to → ((i : ℕ) → i < length places → get_or (heres_at from places) i 0 ≢ get_or (heres_at to places) i 0) → length places ≤ length moves
  each-moved lists from to moves leads elsewhere =
      let long = λ (heres : List ℕ). length-map places (λ place. get_or heres place 0) in
      let n = long from in
      let all = changed-all (heres_at from places) (heres_at to places) (long to ∙ sym (long from)) (λ i lt. elsewhere i (omega arith)) in
      let few = changed-leads lists from to moves leads in
      omega arith
