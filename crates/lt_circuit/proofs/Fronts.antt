-- Where the tables of a row are still, no job of its trees is to be done or held: the front of a line.
use Rattle.std.proofs.Common.{◌≡◌, ◌≢◌, ℕ, zero, suc, ◌+◌, ◌*◌, ◌/◌, ◌%◌, ◌<◌, ◌≤◌, inl, inr, true, false, List, Option, Some, None, length, get_or, refl, sym, ap, ◌∙◌, arith}
use Rattle.std.specs.Option.{option_map}
use Rattle.std.proofs.lemmas.List.{length-map}
use Rattle.lt_net.specs.declared.job.JobState.{JobState}
use Rattle.lt_net.specs.declared.job.JobState.TheVariants.{Clean, Pending, Running, Dirty}
use Rattle.lt_net.specs.Kept.{IsKept}
use Rattle.lt_net.specs.Line.{IsFront, IsPast}
use Rattle.lt_net.specs.Net.{Claim, Net, State, is_held}
use Rattle.lt_net.specs.Row.{claim_or, lifted, row_claim, HasNoOther}
use Rattle.lt_net.proofs.RowClaims.{row_claim_one}
use Rattle.lt_net.proofs.Shape.{lt_tells}
use Rattle.lt_circuit.specs.declared.cells.Held.{Held}
use Rattle.lt_circuit.specs.Board.{claim_from, standing, state_of}
use Rattle.lt_circuit.specs.Segment.{SegmentView, pass_claims, IsStill}
use Rattle.lt_circuit.specs.Row.{parts, row_of, segment_at, sizes, IsPassable}
use Rattle.lt_circuit.proofs.RowReads.{status_at, tree_status_at}
use Rattle.lt_circuit.proofs.Standing.{one_at_most, one_stands, some_at, two_stand}

-- a row's claim is one of its segments'
pub of_segment : (count : ℕ) (of : ℕ → State) (w : ℕ) (c : Claim) → row_claim count of w ≡ Some c → (s : ℕ) × (d : Claim) × (s < count) × ((of s).claim w ≡ Some d) × (lifted s d ≡ c)
of_segment zero of w c e = cc
of_segment (suc s) of w c e =
    by_claim ((of s).claim w) refl (λ g. let h = of_segment s of w c g in (h.0, h.1, omega (arith, h.2), h.3, h.4)) e
  where
    by_claim : (o : Option Claim) → (of s).claim w ≡ o → (row_claim s of w ≡ Some c → (r : ℕ) × (d : Claim) × (r < suc s) × ((of r).claim w ≡ Some d) × (lifted r d ≡ c))
        → claim_or s o (row_claim s of w) ≡ Some c → (r : ℕ) × (d : Claim) × (r < suc s) × ((of r).claim w ≡ Some d) × (lifted r d ≡ c)
    by_claim None f later g = later g
    by_claim (Some d) f later g = let same : lifted s d ≡ c = cc in (s, d, omega arith, f, same)

pub held_some : (claims : List (Option Held)) (w : ℕ) (c : Claim) → option_map claim_from (get_or claims w None) ≡ Some c → (x : Held) × (get_or claims w None ≡ Some x) × (claim_from x ≡ c)
held_some claims w c e = by_place (get_or claims w None) refl e
  where
    by_place : (o : Option Held) → get_or claims w None ≡ o → option_map claim_from o ≡ Some c → (x : Held) × (get_or claims w None ≡ Some x) × (claim_from x ≡ c)
    by_place None f g = cc
    by_place (Some x) f g = let same : claim_from x ≡ c = cc in (x, f, same)

module _ (net : Net) (vs : List SegmentView) (k : IsKept net (row_of vs))
    (single : (w s : ℕ) (c : Claim) → s < length vs → (parts vs s).claim w ≡ Some c → HasNoOther (length vs) (parts vs) s w)
    (low : (w s : ℕ) (c : Claim) → s < length vs → (parts vs s).claim w ≡ Some c → c.job < 2048) where
  -- who holds a job of segment s holds it there
  holder_at : (s place : ℕ) → place < 2048 → is_held ((row_of vs).status (2048 * s + place)) ≡ true
      → (w : ℕ) × (d : Claim) × (s < length vs) × ((parts vs s).claim w ≡ Some d) × (d.job ≡ place)
  holder_at s place below e =
      let h = k.holder (2048 * s + place) e in
      let p = of_segment (length vs) (parts vs) h.0 h.1 h.2 in
      let job : 2048 * p.0 + p.1.job ≡ 2048 * s + place = ap (λ (c : Claim). c.job) p.4 ∙ h.3 in
      let few = low h.0 p.0 p.1 p.2 p.3 in
      let same : p.0 ≡ s = omega (arith, job, few, below) in
      (h.0, p.1, omega (arith, p.2, same), ap (λ r. (parts vs r).claim h.0) (sym same) ∙ p.3, omega (arith, job, few, below))

  -- what a segment's claims hold is held
  held_at : (s w : ℕ) (d : Claim) → s < length vs → (parts vs s).claim w ≡ Some d → is_held ((row_of vs).status (2048 * s + d.job)) ≡ true
  held_at s w d inside e = k.held w (lifted s d) (row_claim_one (parts vs) w (length vs) s d inside e (single w s d inside e))

  single_at : (s v w : ℕ) (b d : Claim) → s < length vs → (parts vs s).claim v ≡ Some b → (parts vs s).claim w ≡ Some d → b.job ≡ d.job → v ≡ w
  single_at s v w b d inside e f same =
      k.single v w (lifted s b) (lifted s d) (row_claim_one (parts vs) v (length vs) s b inside e (single v s b inside e))
      (row_claim_one (parts vs) w (length vs) s d inside f (single w s d inside f)) (ap (λ j. 2048 * s + j) same)

  module _ (s : ℕ) (inside : s < length vs) where
    abbrev claims : List (Option Held)
    claims = (segment_at vs s).board.claims

    pass_status : (row_of vs).status (2048 * s + 2047) ≡ (segment_at vs s).pass
    pass_status = status_at vs s 2047 (omega arith)

    tree_status : (place : ℕ) → place < 2047 → (row_of vs).status (2048 * s + place) ≡ (state_of (segment_at vs s).board).status place
    tree_status = tree_status_at vs s

    -- the tree of a still segment is done
    module _ (still : IsStill (segment_at vs s)) (place : ℕ) (below : place < 2047) where
      unheld : is_held ((row_of vs).status (2048 * s + place)) ≡ true → ⊥
      unheld e = by_pass (segment_at vs s).pass refl
        where
          h : (w : ℕ) × (d : Claim) × (s < length vs) × ((parts vs s).claim w ≡ Some d) × (d.job ≡ place)
          h = holder_at s place (omega (arith, below)) e

          x : (x : Held) × (get_or claims h.0 None ≡ Some x) × (claim_from x ≡ h.1)
          x = held_some claims h.0 h.1 h.3

          alone : standing claims ≤ pass_claims (segment_at vs s).pass
          alone = still.alone

          none_of : (p : JobState) → (segment_at vs s).pass ≡ p → pass_claims p ≡ 0 → ⊥
          none_of p f zero_claims = let one = one_stands claims h.0 x.0 x.1 in let a = ap pass_claims f in omega (arith, one, alone, a, zero_claims)

          two_of : (p : JobState) → (segment_at vs s).pass ≡ p → is_held p ≡ true → pass_claims p ≡ 1 → ⊥
          two_of p f held one_claim =
              let g = holder_at s 2047 (omega arith) (ap is_held (pass_status ∙ f) ∙ held) in
              let y = held_some claims g.0 g.1 g.3 in
              let ne : g.0 ≢ h.0 = λ same. (
              let both : Some g.1 ≡ Some h.1 = sym g.3 ∙ ap (parts vs s).claim same ∙ h.3 in
              let one : g.1 ≡ h.1 = cc in
              let job = sym g.4 ∙ ap (λ (c : Claim). c.job) one ∙ h.4 in
              omega (arith, job, below)) in
              let two = two_stand claims h.0 g.0 x.0 y.0 ne x.1 y.1 in
              let a = ap pass_claims f in
              omega (arith, two, alone, a, one_claim)

          by_pass : (p : JobState) → (segment_at vs s).pass ≡ p → ⊥
          by_pass Clean f = none_of Clean f refl
          by_pass Pending f = none_of Pending f refl
          by_pass Running f = two_of Running f refl refl
          by_pass Dirty f = two_of Dirty f refl refl

      still_clean : (row_of vs).status (2048 * s + place) ≡ Clean
      still_clean = by_state ((row_of vs).status (2048 * s + place)) refl
        where
          by_state : (st : JobState) → (row_of vs).status (2048 * s + place) ≡ st → (row_of vs).status (2048 * s + place) ≡ Clean
          by_state Clean e = e
          by_state Pending e = absurd (still.none place below (sym (tree_status place below) ∙ e))
          by_state Running e = absurd (unheld (ap is_held e))
          by_state Dirty e = absurd (unheld (ap is_held e))

    -- and one whose tree is done is still
    module _ (clean : (place : ℕ) → place < 2047 → (row_of vs).status (2048 * s + place) ≡ Clean) where
      of_pass : (w : ℕ) (x : Held) → get_or claims w None ≡ Some x → (claim_from x).job ≡ 2047
      of_pass w x e =
          let here : (parts vs s).claim w ≡ Some (claim_from x) = ap (option_map claim_from) e in
          let few = low w s (claim_from x) inside here in
          elim (lt_tells (claim_from x).job 2047) [
            | inl g ↦ absurd (let f : false ≡ true = sym (ap is_held (clean (claim_from x).job g.1)) ∙ held_at s w (claim_from x) inside here in cc)
            | inr g ↦ omega (arith, g.1, few)
          ]

      most_one : standing claims ≤ 1
      most_one = one_at_most claims (λ v w x y e f. single_at s v w (claim_from x) (claim_from y) inside (ap (option_map claim_from) e) (ap (option_map claim_from) f) (of_pass v x e ∙ sym (of_pass w y f)))

      no_more : (p : JobState) → (segment_at vs s).pass ≡ p → is_held p ≡ false → standing claims ≤ 0
      no_more p f free = elim (lt_tells 0 (standing claims)) [
        | inl g ↦
            let r = some_at claims g.1 in
            let here : (parts vs s).claim r.0 ≡ Some (claim_from r.1) = ap (option_map claim_from) r.2 in
            let at : (row_of vs).status (2048 * s + (claim_from r.1).job) ≡ p = ap (λ j. (row_of vs).status (2048 * s + j)) (of_pass r.0 r.1 r.2) ∙ pass_status ∙ f in
            absurd (let b : false ≡ true = sym free ∙ sym (ap is_held at) ∙ held_at s r.0 (claim_from r.1) inside here in cc)
        | inr g ↦ g.1
      ]

      clean_still : IsStill (segment_at vs s)
      clean_still = record {
        none = λ place below e. let f : Clean ≡ Pending = sym (clean place below) ∙ tree_status place below ∙ e in cc;
        alone = by_pass (segment_at vs s).pass refl;
      }
        where
          by_pass : (p : JobState) → (segment_at vs s).pass ≡ p → standing claims ≤ pass_claims (segment_at vs s).pass
          by_pass Clean f = let a = ap pass_claims f in let n = no_more Clean f refl in omega (arith, a, n)
          by_pass Pending f = let a = ap pass_claims f in let n = no_more Pending f refl in omega (arith, a, n)
          by_pass Running f = let a = ap pass_claims f in let n = most_one in omega (arith, a, n)
          by_pass Dirty f = let a = ap pass_claims f in let n = most_one in omega (arith, a, n)

  pub front_is : (f : ℕ) → f ≤ length vs → ((s : ℕ) → s < f → IsPassable vs s) → (f < length vs → IsPassable vs f → ⊥) → IsFront (sizes vs) f (row_of vs)
  front_is f inside before here = record {
    within = omega (arith, inside, length-map vs (λ (v : SegmentView). v.board.leaves));
    past = past;
    greatest = λ g most past_g. elim (lt_tells f g) [
      | inl h ↦
          let there : f < length vs = omega (arith, h.1, most, length-map vs (λ (v : SegmentView). v.board.leaves)) in
          absurd (here there (record {
            still = clean_still f there (λ place below. past_g (2048 * f + place) (omega (arith, h.1, below)));
            passed = λ r e. sym (pass_status r (omega (arith, e, there))) ∙ past_g (2048 * r + 2047) (omega (arith, h.1, e));
          }))
      | inr h ↦ h.1
    ];
  }
    where
      past : IsPast f (row_of vs)
      past code lt = elim (lt_tells (code % 2048) 2047) [
        | inl h ↦
            let s : code / 2048 < f = omega (arith, lt) in
            ap (row_of vs).status (sym whole) ∙ still_clean (code / 2048) (omega (arith, s, inside)) (before (code / 2048) s).still (code % 2048) h.1
        | inr h ↦
            let s : code / 2048 + 1 < f = omega (arith, lt, h.1) in
            let place : code % 2048 ≡ 2047 = omega (arith, h.1) in
            ap (row_of vs).status (sym whole ∙ ap (λ p. 2048 * (code / 2048) + p) place)
            ∙ pass_status (code / 2048) (omega (arith, s, inside)) ∙ (before (code / 2048 + 1) s).passed (code / 2048) refl
      ]
        where
          whole : 2048 * (code / 2048) + code % 2048 ≡ code
          whole = omega arith
