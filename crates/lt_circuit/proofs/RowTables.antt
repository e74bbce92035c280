-- One segment of a row in another state.
use Rattle.std.proofs.Common.{◌≡◌, ◌≢◌, ℕ, zero, suc, ◌+◌, ◌<◌, ◌≤◌, inl, inr, true, List, [], ◌∷◌, length, length-set, set, None, ◌*◌, ◌⊎◌, refl, sym, ap, ◌∙◌, subst, arith}
use Rattle.lt_model.specs.declared.mark.Mark.{Mark}
use Rattle.lt_model.specs.Marks.{and_then}
use Rattle.lt_net.specs.Net.{Claim, abandoned, claimed, finished, first_of, second_of, update}
use Rattle.lt_net.specs.Line.{AreSizes, effect_in, hands_on, line_net, size_in}
use Rattle.lt_net.specs.Row.{passing_net, segment_net, row_claim, row_state, lifted, given_root, pass_closed, HasNoOther}
use Rattle.lt_net.proofs.Kept.{at_update}
use Rattle.lt_net.proofs.Rows.{row_claimed, row_abandoned, row_finished, row_passed}
use Rattle.lt_circuit.specs.Segment.{SegmentView, segment_state}
use Rattle.lt_circuit.specs.Row.{IsRow, most_segments, no_segment, segment_at, parts, sizes, row_of}
use Rattle.lt_circuit.proofs.Tables.{set_table}

pub size_at : (vs : List SegmentView) (s : ℕ) → size_in (sizes vs) s ≡ (segment_at vs s).board.leaves
size_at [] s = refl
size_at (v ∷ vs) zero = refl
size_at (v ∷ vs) (suc s) = size_at vs s

pub sizes_same : (vs : List SegmentView) (s : ℕ) (v : SegmentView) → v.board.leaves ≡ (segment_at vs s).board.leaves → sizes (set vs s v) ≡ sizes vs
sizes_same [] s v e = refl
sizes_same (u ∷ vs) zero v e = ap (λ n. n ∷ sizes vs) e
sizes_same (u ∷ vs) (suc s) v e = ap (λ ns. u.board.leaves ∷ ns) (sizes_same vs s v e)

pub row_set : (vs : List SegmentView) (s : ℕ) (v : SegmentView) → s < length vs → row_of (set vs s v) ≡ row_state (length vs) (update (parts vs) s (segment_state v))
row_set vs s v h = λ i. row_state (length-set vs s v i) (λ r. set_table segment_state vs s v no_segment h r i)

module _ (vs : List SegmentView) (row : IsRow vs) where
  pub small : AreSizes (sizes vs)
  small = record { few = λ s. let e = size_at vs s in omega (arith, e, row.few s) }

  -- the net of a segment by its own tables
  net_at : (does : ℕ → List Mark → List Mark) (s : ℕ) → passing_net (effect_in does s) (segment_at vs s).board.leaves (segment_at vs s).on ≡ segment_net does (sizes vs) s
  net_at does s = λ i. passing_net (effect_in does s) (sym (size_at vs s) i) (row.on s i)

  module _ (does : ℕ → List Mark → List Mark) (s w : ℕ) (inside : s < length vs) (v : SegmentView) where
    pub claimed_row : (place : ℕ) → place < 2048 → row_claim (length vs) (parts vs) w ≡ None
        → segment_state v ≡ claimed (passing_net (effect_in does s) (segment_at vs s).board.leaves (segment_at vs s).on) (parts vs s) w place
        → row_of (set vs s v) ≡ claimed (line_net does (sizes vs)) (row_of vs) w (2048 * s + place)
    claimed_row place low free e =
        row_set vs s v inside
        ∙ ap (λ t. row_state (length vs) (update (parts vs) s t)) (e ∙ ap (λ net. claimed net (parts vs s) w place) (net_at does s))
        ∙ row_claimed does (sizes vs) small (length vs) (parts vs) s inside w place low free

    pub finished_row : (c : Claim) → c.job < 2047 → HasNoOther (length vs) (parts vs) s w
        → segment_state v ≡ finished (passing_net (effect_in does s) (segment_at vs s).board.leaves (segment_at vs s).on) (parts vs s) w c
        → row_of (set vs s v) ≡ finished (line_net does (sizes vs)) (row_of vs) w (lifted s c)
    finished_row c low alone e =
        row_set vs s v inside
        ∙ ap (λ t. row_state (length vs) (update (parts vs) s t)) (e ∙ ap (λ net. finished net (parts vs s) w c) (net_at does s))
        ∙ row_finished does (sizes vs) small (length vs) (parts vs) s inside w c low alone

  pub abandoned_row : (s w : ℕ) → s < length vs → (v : SegmentView) (c : Claim) → c.job < 2048 → HasNoOther (length vs) (parts vs) s w
      → segment_state v ≡ abandoned (parts vs s) w c → row_of (set vs s v) ≡ abandoned (row_of vs) w (lifted s c)
  abandoned_row s w inside v c low alone e =
      row_set vs s v inside
      ∙ ap (λ t. row_state (length vs) (update (parts vs) s t)) e
      ∙ row_abandoned (λ i m. m) (sizes vs) small (length vs) (parts vs) s inside w c low alone

  -- the Pass of a segment is finished: v stands for it then, and u for the next one
  pub passed_row : (does : ℕ → List Mark → List Mark) (s w : ℕ) → s + 1 < length vs → (v u : SegmentView) (c : Claim) (m : List Mark) → c.job ≡ 2047 → hands_on (sizes vs) s ≡ true
      → HasNoOther (length vs) (parts vs) s w → m ≡ and_then (first_of c.inputs) (second_of c.inputs)
      → segment_state v ≡ pass_closed (parts vs s) w c
      → segment_state u ≡ given_root (passing_net (effect_in does (s + 1)) (segment_at vs (s + 1)).board.leaves (segment_at vs (s + 1)).on) (parts vs (s + 1)) m
      → row_of (set (set vs s v) (s + 1) u) ≡ finished (line_net does (sizes vs)) (row_of vs) w (lifted s c)
  passed_row does s w inside v u c m passing on alone gave closed given =
      let first : s < length vs = omega (arith, inside) in
      let long : length (set vs s v) ≡ length vs = length-set vs s v in
      row_set (set vs s v) (s + 1) u (omega (arith, inside, long))
      ∙ (λ i. row_state (long i) (update (λ r. set_table segment_state vs s v no_segment first r i) (s + 1) (segment_state u)))
      ∙ (λ i. row_state (length vs) (update (update (parts vs) s (closed i)) (s + 1) (given i)))
      ∙ (λ i. row_state (length vs) (update (update (parts vs) s (pass_closed (parts vs s) w c)) (s + 1) (given_root (net_at does (s + 1) i) (parts vs (s + 1)) (gave i))))
      ∙ row_passed does (sizes vs) small (length vs) (parts vs) s first w inside on c passing alone

  -- the next segment isn't the one that was changed
  pub next_stays : (s : ℕ) (v : SegmentView) → s < length vs → segment_at (set vs s v) (s + 1) ≡ segment_at vs (s + 1)
  next_stays s v inside =
      set_table (λ (u : SegmentView). u) vs s v no_segment inside (s + 1)
      ∙ elim (at_update (segment_at vs) s v (s + 1)) [ inl h ↦ absurd (let e = h.0 in omega (arith, e)) | inr h ↦ h.1 ]

  -- what stays of a row
  pub row_kept : (s : ℕ) (v : SegmentView) → s < length vs → v.board.leaves ≡ (segment_at vs s).board.leaves → v.on ≡ (segment_at vs s).on → IsRow (set vs s v)
  row_kept s v inside leaves on = record {
    short = subst (λ n. n ≤ most_segments) (sym (length-set vs s v)) row.short;
    few = λ r. by_place_few r (at_update (λ k. (segment_at vs k).board.leaves) s v.board.leaves r);
    on = λ r.
        set_table (λ (u : SegmentView). u.on) vs s v no_segment inside r
        ∙ kept_on r (at_update (λ k. (segment_at vs k).on) s v.on r)
        ∙ row.on r ∙ ap (λ ns. hands_on ns r) (sym (sizes_same vs s v leaves));
  }
    where
      kept_on : (r : ℕ) → ((r ≡ s) × (update (λ k. (segment_at vs k).on) s v.on r ≡ v.on)) ⊎ ((r ≢ s) × (update (λ k. (segment_at vs k).on) s v.on r ≡ (segment_at vs r).on))
          → update (λ k. (segment_at vs k).on) s v.on r ≡ (segment_at vs r).on
      kept_on r (inl h) = h.1 ∙ on ∙ ap (λ k. (segment_at vs k).on) (sym h.0)
      kept_on r (inr h) = h.1

      by_place_few : (r : ℕ) → ((r ≡ s) × (update (λ k. (segment_at vs k).board.leaves) s v.board.leaves r ≡ v.board.leaves)) ⊎ ((r ≢ s) × (update (λ k. (segment_at vs k).board.leaves) s v.board.leaves r ≡ (segment_at vs r).board.leaves))
          → (segment_at (set vs s v) r).board.leaves ≤ 256
      by_place_few r (inl h) =
          let e = set_table (λ (u : SegmentView). u.board.leaves) vs s v no_segment inside r in
          let f = row.few s in
          omega (arith, e, h.1, leaves, f)
      by_place_few r (inr h) =
          let e = set_table (λ (u : SegmentView). u.board.leaves) vs s v no_segment inside r in
          let f = row.few r in
          omega (arith, e, h.1, f)
