-- What an event does to one segment's state it does to the line's.
use Rattle.std.proofs.Common.{◌≡◌, ℕ, ◌+◌, ◌*◌, ◌<◌, ◌≢◌, ◌||◌, inl, inr, Bool, true, false, List, [], ◌∷◌, map, Option, Some, None, refl, sym, ap, ◌∙◌, arith}
use Rattle.std.specs.Prelude.{if◌then◌else◌, ◌==◌}
use Rattle.std.proofs.lemmas.Bool.Decides.{eqb_tells}
use Rattle.lt_model.specs.declared.mark.Mark.{Mark}
use Rattle.lt_model.specs.Marks.{and_then}
use Rattle.lt_net.specs.declared.job.JobState.{JobState}
use Rattle.lt_net.specs.declared.job.JobState.TheVariants.{Clean, Pending, Running}
use Rattle.lt_net.specs.Net.{Cell, Correction, State, Claim, same_cell, has_cell, update, read, first_of, second_of, same_at, woken, ended, value_after, status_ended, claimed, finished, abandoned, opening}
use Rattle.lt_net.specs.Line.{AreSizes, hands_on, line_gives, line_job, line_leaf, line_net, line_outputs, placed}
use Rattle.lt_net.specs.Row.{segment_net, lifted, claim_or, row_claim, row_state, given_root, pass_closed, with_pass, with_part, HasNoOther}
use Rattle.lt_net.proofs.Kept.{at_update, update_same}
use Rattle.lt_net.proofs.Shape.{eq_false}
use Rattle.lt_net.proofs.Cells.{same_each}
use Rattle.lt_net.proofs.Jobs.{has_one}
use Rattle.lt_net.proofs.Placed.{node_at, pass_at, read_placed}
use Rattle.lt_net.proofs.RowPlaces.{segment_back, cell_back, code_segment, code_place, by_cells, by_codes, has_same, AreLow, has_other, same_at_placed, same_at_alike, read_alike}
use Rattle.lt_net.proofs.SegmentNets.{inputs_at, outputs_at, gives_at, leaf_at, starts_at, low_inputs, low_outputs}
use Rattle.lt_net.proofs.RowClaims.{row_claim_same, row_claim_none, row_claim_free, row_claim_one}

module _ (effect : ℕ → List Mark → List Mark) (sizes : List ℕ) (small : AreSizes sizes) where
  -- ---- the opening

  module _ (count : ℕ) where
    opening_claim : (n w : ℕ) → row_claim n (λ s. opening (segment_net effect sizes s)) w ≡ None
    opening_claim n w = row_claim_none (λ s. opening (segment_net effect sizes s)) w n (λ r lt. refl)

    pub row_opening : row_state count (λ s. opening (segment_net effect sizes s)) ≡ opening (line_net effect sizes)
    row_opening =
        let status : (row_state count (λ s. opening (segment_net effect sizes s))).status ≡ (opening (line_net effect sizes)).status =
        by_codes (row_state count (λ s. opening (segment_net effect sizes s))).status (opening (line_net effect sizes)).status (λ s c h.
        (λ i. if (segment_net effect sizes (code_segment s c h i)).starts (code_place s c h i) then Pending else Clean)
        ∙ ap (λ b. if b then Pending else Clean) (sym (starts_at effect sizes small s c h))) in
        λ i. record { value = λ x. []; status = status i; done = λ j. None; claim = λ w. opening_claim count w i }

    -- ---- one segment's state is another

    module _ (parts : ℕ → State) where
      pub row_value : (s : ℕ) (y : Cell) → node_at y < 512 → (row_state count parts).value (placed s y) ≡ (parts s).value y
      row_value s y h = λ i. (parts (segment_back s y h i)).value (cell_back s y h i)

      pub row_status : (s c : ℕ) → c < 2048 → (row_state count parts).status (2048 * s + c) ≡ (parts s).status c
      row_status s c h = λ i. (parts (code_segment s c h i)).status (code_place s c h i)

      pub row_done : (s c : ℕ) → c < 2048 → (row_state count parts).done (2048 * s + c) ≡ (parts s).done c
      row_done s c h = λ i. (parts (code_segment s c h i)).done (code_place s c h i)

      pub row_read : (s c : ℕ) → c < 2048 → read (row_state count parts).value ((line_net effect sizes).inputs (2048 * s + c)) ≡ read (parts s).value ((segment_net effect sizes s).inputs c)
      row_read s c h =
          ap (read (row_state count parts).value) (inputs_at effect sizes small s c h)
          ∙ read_placed (row_state count parts).value s ((segment_net effect sizes s).inputs c)
          ∙ read_alike (λ y. (row_state count parts).value (placed s y)) (parts s).value ((segment_net effect sizes s).inputs c) (λ y e. row_value s y (low_inputs effect sizes small s c y e))

    module _ (parts : ℕ → State) (s : ℕ) (lt : s < count) (t : State) where
      here : with_part parts s t s ≡ t
      here = update_same parts s t

      there : (r : ℕ) → r ≢ s → with_part parts s t r ≡ parts r
      there r ne = elim (at_update parts s t r) [ inl h ↦ absurd (ne h.0) | inr h ↦ h.1 ]

      -- codes: of the segment, and of others
      same_code : (r c d : ℕ) → c < 2048 → d < 2048 → 2048 * r + c ≡ 2048 * s + d → (r ≡ s) × (c ≡ d)
      same_code r c d h k e = (omega (arith, h, k, e), omega (arith, h, k, e))

      -- a table of codes in which one of the segment's is changed
      update_code : {X : Type 0} (f : ℕ → X) (g : ℕ → ℕ → X) (d : ℕ) (v : X) → d < 2048 → ((r c : ℕ) → c < 2048 → f (2048 * r + c) ≡ g r c)
          → (r c : ℕ) → c < 2048 → update f (2048 * s + d) v (2048 * r + c) ≡ update g s (update (g s) d v) r c
      update_code f g d v k same r c h = elim (eqb_tells r s) [
        | inl e ↦ elim (eqb_tells c d) [
          | inl q ↦
              let at : 2048 * r + c ≡ 2048 * s + d = (λ i. 2048 * e.1 i + q.1 i) in
              ap (update f (2048 * s + d) v) at ∙ update_same f (2048 * s + d) v
              ∙ sym (ap (λ b. (if b then update (g s) d v else g r) c) e.0 ∙ ap (λ b. if b then v else g s c) q.0)
          | inr q ↦
              away r c h (λ a. q.1 (same_code r c d h k a).1)
              ∙ ap (λ n. g n c) e.1
              ∙ sym (ap (λ b. (if b then update (g s) d v else g r) c) e.0 ∙ ap (λ b. if b then v else g s c) q.0)
        ]
        | inr e ↦
            away r c h (λ a. e.1 (same_code r c d h k a).0)
            ∙ sym (ap (λ b. (if b then update (g s) d v else g r) c) e.0)
      ]
        where
          away : (r c : ℕ) → c < 2048 → 2048 * r + c ≢ 2048 * s + d → update f (2048 * s + d) v (2048 * r + c) ≡ g r c
          away r c h ne = elim (at_update f (2048 * s + d) v (2048 * r + c)) [ inl a ↦ absurd (ne a.0) | inr a ↦ a.1 ∙ same r c h ]

      -- the claims, where a worker's in the segment is another
      claims_with : (w : ℕ) (o : Option Claim) → t.claim ≡ update (parts s).claim w o → HasNoOther count parts s w → (v : ℕ)
          → row_claim count (with_part parts s t) v ≡ update (row_claim count parts) w (claim_or s o None) v
      claims_with w o e free v = elim (eqb_tells v w) [
        | inl q ↦
            ap (row_claim count (with_part parts s t)) q.1 ∙ own o e
            ∙ sym (ap (λ b. if b then claim_or s o None else row_claim count parts v) q.0)
        | inr q ↦
            row_claim_same (with_part parts s t) parts v count (λ r below. elim (eqb_tells r s) [
              | inl g ↦
                  ap (λ (u : State). u.claim v) (ap (with_part parts s t) g.1 ∙ here) ∙ ap (λ f. f v) e
                  ∙ ap (λ b. if b then o else (parts s).claim v) q.0 ∙ ap (λ n. (parts n).claim v) (sym g.1)
              | inr g ↦ ap (λ (u : State). u.claim v) (there r g.1)
            ])
            ∙ sym (ap (λ b. if b then claim_or s o None else row_claim count parts v) q.0)
      ]
        where
          others : (r : ℕ) → r < count → r ≢ s → (with_part parts s t r).claim w ≡ None
          others r below ne = ap (λ (u : State). u.claim w) (there r ne) ∙ free r below ne

          mine : (o : Option Claim) → t.claim ≡ update (parts s).claim w o → (with_part parts s t s).claim w ≡ o
          mine o e = ap (λ (u : State). u.claim w) here ∙ ap (λ f. f w) e ∙ update_same (parts s).claim w o

          own : (o : Option Claim) → t.claim ≡ update (parts s).claim w o → row_claim count (with_part parts s t) w ≡ claim_or s o None
          own None e = row_claim_none (with_part parts s t) w count (λ r below. elim (eqb_tells r s) [
            | inl g ↦ ap (λ n. (with_part parts s t n).claim w) g.1 ∙ mine None e
            | inr g ↦ others r below g.1
          ])
          own (Some c) e = row_claim_one (with_part parts s t) w count s c lt (mine (Some c) e) others

      -- a fact of a segment's state is one of the state put there, or of the one that stood
      by_part : {X : Type 0} (get : State → X) (goal : ℕ → X) (r : ℕ) → get t ≡ goal s → ((n : ℕ) → n ≢ s → get (parts n) ≡ goal n) → get (with_part parts s t r) ≡ goal r
      by_part get goal r own other = elim (eqb_tells r s) [
        | inl h ↦ ap (λ n. get (with_part parts s t n)) h.1 ∙ ap get here ∙ own ∙ ap goal (sym h.1)
        | inr h ↦ ap get (there r h.1) ∙ other r h.1
      ]

      at_here : {X : Type 0} (g : ℕ → X) (v : X) → v ≡ update g s v s
      at_here g v = sym (update_same g s v)

      at_other : {X : Type 0} (g : ℕ → X) (v : X) (n : ℕ) → n ≢ s → g n ≡ update g s v n
      at_other g v n ne = elim (at_update g s v n) [ inl a ↦ absurd (ne a.0) | inr a ↦ sym a.1 ]

      -- where the cells stay
      same_value : t.value ≡ (parts s).value → (row_state count (with_part parts s t)).value ≡ (row_state count parts).value
      same_value e = by_cells (row_state count (with_part parts s t)).value (row_state count parts).value (λ r y h.
          row_value (with_part parts s t) r y h
          ∙ by_part (λ (u : State). u.value y) (λ n. (parts n).value y) r (ap (λ f. f y) e) (λ n ne. refl)
          ∙ sym (row_value parts r y h))

      same_done : t.done ≡ (parts s).done → (row_state count (with_part parts s t)).done ≡ (row_state count parts).done
      same_done e = by_codes (row_state count (with_part parts s t)).done (row_state count parts).done (λ r c h.
          row_done (with_part parts s t) r c h
          ∙ by_part (λ (u : State). u.done c) (λ n. (parts n).done c) r (ap (λ f. f c) e) (λ n ne. refl)
          ∙ sym (row_done parts r c h))

      -- where one job's state is another
      one_status : (d : ℕ) (v : JobState) → d < 2048 → t.status ≡ update (parts s).status d v
          → (row_state count (with_part parts s t)).status ≡ update (row_state count parts).status (2048 * s + d) v
      one_status d v k e = by_codes (row_state count (with_part parts s t)).status (update (row_state count parts).status (2048 * s + d) v) (λ r c h.
          let g : ℕ → ℕ → JobState = λ n. (parts n).status in
          row_status (with_part parts s t) r c h
          ∙ by_part (λ (u : State). u.status c) (λ n. update g s (update (g s) d v) n c) r
          (ap (λ f. f c) e ∙ ap (λ f. f c) (at_here g (update (g s) d v)))
          (λ n ne. ap (λ f. f c) (at_other g (update (g s) d v) n ne))
          ∙ sym (update_code (row_state count parts).status g d v k (row_status parts) r c h))

      one_done : (d : ℕ) (v : Option (List Mark)) → d < 2048 → t.done ≡ update (parts s).done d v
          → (row_state count (with_part parts s t)).done ≡ update (row_state count parts).done (2048 * s + d) v
      one_done d v k e = by_codes (row_state count (with_part parts s t)).done (update (row_state count parts).done (2048 * s + d) v) (λ r c h.
          let g : ℕ → ℕ → Option (List Mark) = λ n. (parts n).done in
          row_done (with_part parts s t) r c h
          ∙ by_part (λ (u : State). u.done c) (λ n. update g s (update (g s) d v) n c) r
          (ap (λ f. f c) e ∙ ap (λ f. f c) (at_here g (update (g s) d v)))
          (λ n ne. ap (λ f. f c) (at_other g (update (g s) d v) n ne))
          ∙ sym (update_code (row_state count parts).done g d v k (row_done parts) r c h))

    -- ---- the three events

    module _ (parts : ℕ → State) (s : ℕ) (lt : s < count) (w : ℕ) where
      pub row_claimed : (c : ℕ) → c < 2048 → row_claim count parts w ≡ None
          → row_state count (with_part parts s (claimed (segment_net effect sizes s) (parts s) w c)) ≡ claimed (line_net effect sizes) (row_state count parts) w (2048 * s + c)
      row_claimed c h free =
          let t : State = claimed (segment_net effect sizes s) (parts s) w c in
          let held : Claim = record { job = c; inputs = read (parts s).value ((segment_net effect sizes s).inputs c); prior = (parts s).done c } in
          let reads : read (parts s).value ((segment_net effect sizes s).inputs c) ≡ read (row_state count parts).value ((line_net effect sizes).inputs (2048 * s + c)) = sym (row_read parts s c h) in
          let did : (parts s).done c ≡ (row_state count parts).done (2048 * s + c) = sym (row_done parts s c h) in
          let values = same_value parts s lt t refl in
          let states = one_status parts s lt t c Running h refl in
          let dones = same_done parts s lt t refl in
          let claims = claims_with parts s lt t w (Some held) refl (λ r below ne. row_claim_free parts w count free r below) in
          (λ i. record { value = values i; status = states i; done = dones i; claim = λ v. claims v i })
          ∙ (λ i. record {
            value = (row_state count parts).value;
            status = update (row_state count parts).status (2048 * s + c) Running;
            done = (row_state count parts).done;
            claim = update (row_claim count parts) w (Some (record { job = 2048 * s + c; inputs = reads i; prior = did i }));
          })

      pub row_abandoned : (c : Claim) → c.job < 2048 → HasNoOther count parts s w
          → row_state count (with_part parts s (abandoned (parts s) w c)) ≡ abandoned (row_state count parts) w (lifted s c)
      row_abandoned c h alone =
          let t : State = abandoned (parts s) w c in
          let values = same_value parts s lt t refl in
          let states = one_status parts s lt t c.job Pending h refl in
          let dones = same_done parts s lt t refl in
          let claims = claims_with parts s lt t w None refl alone in
          λ i. record { value = values i; status = states i; done = dones i; claim = λ v. claims v i }

      module _ (c : Claim) (own : c.job < 2047) where
        abbrev after : State
        after = finished (segment_net effect sizes s) (parts s) w c

        after_value : (r : ℕ) (y : Cell) → node_at y < 512
            → value_after (line_net effect sizes) (row_state count parts) (lifted s c) (placed r y) ≡ update (λ n. (parts n).value y) s (value_after (segment_net effect sizes s) (parts s) c y) r
        after_value r y h = elim (eqb_tells r s) [
          | inl e ↦
              let writes : has_cell (placed s y) ((line_net effect sizes).outputs (2048 * s + c.job)) ≡ has_cell y ((segment_net effect sizes s).outputs c.job) =
              ap (has_cell (placed s y)) (outputs_at effect sizes small s c.job own) ∙ has_same s y ((segment_net effect sizes s).outputs c.job) in
              let given : (line_net effect sizes).gives (2048 * s + c.job) c.inputs (placed s y) ≡ (segment_net effect sizes s).gives c.job c.inputs y = gives_at effect sizes small s c.job c.inputs y own in
              let stood : (row_state count parts).value (placed s y) ≡ (parts s).value y = row_value parts s y h in
              ap (λ n. value_after (line_net effect sizes) (row_state count parts) (lifted s c) (placed n y)) e.1
              ∙ (λ i. if writes i then given i else stood i)
              ∙ ap (λ b. if b then value_after (segment_net effect sizes s) (parts s) c y else (parts r).value y) (sym e.0)
          | inr e ↦
              let writes : has_cell (placed r y) ((line_net effect sizes).outputs (2048 * s + c.job)) ≡ false =
              ap (has_cell (placed r y)) (outputs_at effect sizes small s c.job own) ∙ has_other s r e.1 y h ((segment_net effect sizes s).outputs c.job) (low_outputs effect sizes small s c.job) in
              ap (λ b. if b then (line_net effect sizes).gives (2048 * s + c.job) c.inputs (placed r y) else (row_state count parts).value (placed r y)) writes
              ∙ row_value parts r y h
              ∙ ap (λ b. if b then value_after (segment_net effect sizes s) (parts s) c y else (parts r).value y) (sym e.0)
        ]

        -- whether a job is woken: one of the segment's as there, no other
        after_same : (r d : ℕ) → d < 2048
            → same_at (row_state count parts).value (value_after (line_net effect sizes) (row_state count parts) (lifted s c)) ((line_net effect sizes).inputs (2048 * r + d))
            ≡ update (λ n. true) s (same_at (parts s).value (value_after (segment_net effect sizes s) (parts s) c) ((segment_net effect sizes s).inputs d)) r
        after_same r d h =
            ap (same_at (row_state count parts).value (value_after (line_net effect sizes) (row_state count parts) (lifted s c))) (inputs_at effect sizes small r d h)
            ∙ same_at_placed (row_state count parts).value (value_after (line_net effect sizes) (row_state count parts) (lifted s c)) r ((segment_net effect sizes r).inputs d)
            ∙ elim (eqb_tells r s) [
              | inl e ↦
                  ap (λ n. same_at (λ y. (row_state count parts).value (placed n y)) (λ y. value_after (line_net effect sizes) (row_state count parts) (lifted s c) (placed n y)) ((segment_net effect sizes n).inputs d)) e.1
                  ∙ same_at_alike (λ y. (row_state count parts).value (placed s y)) (λ y. value_after (line_net effect sizes) (row_state count parts) (lifted s c) (placed s y))
                  (parts s).value (value_after (segment_net effect sizes s) (parts s) c) ((segment_net effect sizes s).inputs d)
                  (λ y g. row_value parts s y (low_inputs effect sizes small s d y g))
                  (λ y g. after_value s y (low_inputs effect sizes small s d y g) ∙ update_same (λ n. (parts n).value y) s (value_after (segment_net effect sizes s) (parts s) c y))
                  ∙ ap (λ b. if b then same_at (parts s).value (value_after (segment_net effect sizes s) (parts s) c) ((segment_net effect sizes s).inputs d) else true) (sym e.0)
              | inr e ↦
                  same_each (λ y. (row_state count parts).value (placed r y)) (λ y. value_after (line_net effect sizes) (row_state count parts) (lifted s c) (placed r y)) ((segment_net effect sizes r).inputs d)
                  (λ y g. row_value parts r y (low_inputs effect sizes small r d y g) ∙ stays y r e.0 ∙ sym (after_value r y (low_inputs effect sizes small r d y g)))
                  ∙ ap (λ b. if b then same_at (parts s).value (value_after (segment_net effect sizes s) (parts s) c) ((segment_net effect sizes s).inputs d) else true) (sym e.0)
            ]
          where
            stays : (y : Cell) (r : ℕ) → (r == s) ≡ false → (parts r).value y ≡ update (λ n. (parts n).value y) s (value_after (segment_net effect sizes s) (parts s) c y) r
            stays y r e = ap (λ b. if b then value_after (segment_net effect sizes s) (parts s) c y else (parts r).value y) (sym e)

        ended_same : (r d : ℕ) → d < 2048
            → status_ended (row_state count parts) (lifted s c) (2048 * r + d) ≡ update (λ n. (parts n).status) s (status_ended (parts s) c) r d
        ended_same r d h =
            let stood : (row_state count parts).status (2048 * s + c.job) ≡ (parts s).status c.job = row_status parts s c.job (omega (arith, own)) in
            ap (λ v. update (row_state count parts).status (2048 * s + c.job) (ended v) (2048 * r + d)) stood
            ∙ update_code parts s lt after (row_state count parts).status (λ n. (parts n).status) c.job (ended ((parts s).status c.job)) (omega (arith, own)) (row_status parts) r d h

        after_status : (row_state count (with_part parts s after)).status ≡ (finished (line_net effect sizes) (row_state count parts) w (lifted s c)).status
        after_status = by_codes (row_state count (with_part parts s after)).status (finished (line_net effect sizes) (row_state count parts) w (lifted s c)).status (λ r d h.
            row_status (with_part parts s after) r d h
            ∙ by_part parts s lt after (λ (u : State). u.status d)
            (λ n. if update (λ m. true) s (same_at (parts s).value (value_after (segment_net effect sizes s) (parts s) c) ((segment_net effect sizes s).inputs d)) n
            then update (λ m. (parts m).status) s (status_ended (parts s) c) n d
            else woken (update (λ m. (parts m).status) s (status_ended (parts s) c) n d)) r
            (own_status d) (other_status d)
            ∙ sym (λ i. if after_same r d h i then ended_same r d h i else woken (ended_same r d h i)))
          where
            own_status : (d : ℕ) → after.status d ≡ (if update (λ m. true) s (same_at (parts s).value (value_after (segment_net effect sizes s) (parts s) c) ((segment_net effect sizes s).inputs d)) s
                then update (λ m. (parts m).status) s (status_ended (parts s) c) s d
                else woken (update (λ m. (parts m).status) s (status_ended (parts s) c) s d))
            own_status d =
                let a : same_at (parts s).value (value_after (segment_net effect sizes s) (parts s) c) ((segment_net effect sizes s).inputs d) ≡ update (λ m. true) s (same_at (parts s).value (value_after (segment_net effect sizes s) (parts s) c) ((segment_net effect sizes s).inputs d)) s =
                at_here parts s lt after (λ m. true) (same_at (parts s).value (value_after (segment_net effect sizes s) (parts s) c) ((segment_net effect sizes s).inputs d)) in
                let b : status_ended (parts s) c d ≡ update (λ m. (parts m).status) s (status_ended (parts s) c) s d = ap (λ f. f d) (at_here parts s lt after (λ m. (parts m).status) (status_ended (parts s) c)) in
                λ i. if a i then b i else woken (b i)

            other_status : (d n : ℕ) → n ≢ s → (parts n).status d ≡ (if update (λ m. true) s (same_at (parts s).value (value_after (segment_net effect sizes s) (parts s) c) ((segment_net effect sizes s).inputs d)) n
                then update (λ m. (parts m).status) s (status_ended (parts s) c) n d
                else woken (update (λ m. (parts m).status) s (status_ended (parts s) c) n d))
            other_status d n ne =
                let a : true ≡ update (λ m. true) s (same_at (parts s).value (value_after (segment_net effect sizes s) (parts s) c) ((segment_net effect sizes s).inputs d)) n =
                at_other parts s lt after (λ m. true) (same_at (parts s).value (value_after (segment_net effect sizes s) (parts s) c) ((segment_net effect sizes s).inputs d)) n ne in
                let b : (parts n).status d ≡ update (λ m. (parts m).status) s (status_ended (parts s) c) n d = ap (λ f. f d) (at_other parts s lt after (λ m. (parts m).status) (status_ended (parts s) c) n ne) in
                λ i. if a i then b i else woken (b i)

        after_cells : (row_state count (with_part parts s after)).value ≡ value_after (line_net effect sizes) (row_state count parts) (lifted s c)
        after_cells = by_cells (row_state count (with_part parts s after)).value (value_after (line_net effect sizes) (row_state count parts) (lifted s c)) (λ r y h.
            row_value (with_part parts s after) r y h
            ∙ by_part parts s lt after (λ (u : State). u.value y) (update (λ n. (parts n).value y) s (value_after (segment_net effect sizes s) (parts s) c y)) r
            (at_here parts s lt after (λ n. (parts n).value y) (value_after (segment_net effect sizes s) (parts s) c y))
            (λ n ne. at_other parts s lt after (λ n. (parts n).value y) (value_after (segment_net effect sizes s) (parts s) c y) n ne)
            ∙ sym (after_value r y h))

        after_done : (row_state count (with_part parts s after)).done ≡ (finished (line_net effect sizes) (row_state count parts) w (lifted s c)).done
        after_done =
            by_case ((segment_net effect sizes s).is_leaf c.job) refl
            ∙ ap (λ b. if b then update (row_state count parts).done (2048 * s + c.job) (Some (first_of c.inputs)) else (row_state count parts).done) (sym (leaf_at effect sizes small s c.job (omega (arith, own))))
          where
            by_case : (b : Bool) → (segment_net effect sizes s).is_leaf c.job ≡ b
                → (row_state count (with_part parts s after)).done ≡ (if (segment_net effect sizes s).is_leaf c.job then update (row_state count parts).done (2048 * s + c.job) (Some (first_of c.inputs)) else (row_state count parts).done)
            by_case true e =
                one_done parts s lt after c.job (Some (first_of c.inputs)) (omega (arith, own)) (ap (λ b. if b then update (parts s).done c.job (Some (first_of c.inputs)) else (parts s).done) e)
                ∙ ap (λ b. if b then update (row_state count parts).done (2048 * s + c.job) (Some (first_of c.inputs)) else (row_state count parts).done) (sym e)
            by_case false e =
                same_done parts s lt after (ap (λ b. if b then update (parts s).done c.job (Some (first_of c.inputs)) else (parts s).done) e)
                ∙ ap (λ b. if b then update (row_state count parts).done (2048 * s + c.job) (Some (first_of c.inputs)) else (row_state count parts).done) (sym e)

        pub row_finished : HasNoOther count parts s w
            → row_state count (with_part parts s (finished (segment_net effect sizes s) (parts s) w c)) ≡ finished (line_net effect sizes) (row_state count parts) w (lifted s c)
        row_finished alone =
            let claims = claims_with parts s lt after w None refl alone in
            λ i. record { value = after_cells i; status = after_status i; done = after_done i; claim = λ v. claims v i }

      -- ---- the Pass to the next segment

      module _ (next : s + 1 < count) (on : hands_on sizes s ≡ true) (c : Claim) (passing : c.job ≡ 2047) where
        abbrev passed_on : List Mark
        passed_on = and_then (first_of c.inputs) (second_of c.inputs)

        abbrev closed : State
        closed = pass_closed (parts s) w c

        abbrev given : State
        given = given_root (segment_net effect sizes (s + 1)) (parts (s + 1)) passed_on

        abbrev new_value : Cell → List Mark
        new_value y = if same_cell y (Correction 0) then passed_on else (parts (s + 1)).value y

        abbrev line_after : Cell → List Mark
        line_after = value_after (line_net effect sizes) (row_state count parts) (lifted s c)

        apart : s + 1 ≢ s
        apart e = omega (arith, e)

        job_is : 2048 * s + c.job ≡ 2048 * s + 2047
        job_is = ap (λ n. 2048 * s + n) passing

        pass_writes : (line_net effect sizes).outputs (2048 * s + c.job) ≡ map (placed (s + 1)) (Correction 0 ∷ [])
        pass_writes =
            ap (λ j. line_outputs sizes (line_job j)) job_is ∙ ap (line_outputs sizes) (pass_at s)
            ∙ ap (λ b. if b then placed (s + 1) (Correction 0) ∷ [] else []) on

        pass_gives : (x : Cell) → (line_net effect sizes).gives (2048 * s + c.job) c.inputs x ≡ passed_on
        pass_gives x = ap (λ j. line_gives effect (line_job j) c.inputs x) job_is ∙ ap (λ a. line_gives effect a c.inputs x) (pass_at s)

        pass_no_leaf : (line_net effect sizes).is_leaf (2048 * s + c.job) ≡ false
        pass_no_leaf = ap (λ j. line_leaf sizes (line_job j)) job_is ∙ ap (line_leaf sizes) (pass_at s)

        one_cell : (y : Cell) → has_cell y (Correction 0 ∷ []) ≡ same_cell y (Correction 0)
        one_cell y = or_none (same_cell y (Correction 0))
          where
            or_none : (b : Bool) → (b || false) ≡ b
            or_none true = refl
            or_none false = refl

        low_root : AreLow (Correction 0 ∷ [])
        low_root y e = let z : node_at y ≡ 0 = ap node_at (has_one y (Correction 0) e) in omega (arith, z)

        pass_value : (r : ℕ) (y : Cell) → node_at y < 512 → line_after (placed r y) ≡ update (λ n. (parts n).value y) (s + 1) (new_value y) r
        pass_value r y h = elim (eqb_tells r (s + 1)) [
          | inl e ↦
              let writes : has_cell (placed (s + 1) y) ((line_net effect sizes).outputs (2048 * s + c.job)) ≡ same_cell y (Correction 0) =
              ap (has_cell (placed (s + 1) y)) pass_writes ∙ has_same (s + 1) y (Correction 0 ∷ []) ∙ one_cell y in
              let gave = pass_gives (placed (s + 1) y) in
              let stood : (row_state count parts).value (placed (s + 1) y) ≡ (parts (s + 1)).value y = row_value parts (s + 1) y h in
              ap (λ n. line_after (placed n y)) e.1
              ∙ (λ i. if writes i then gave i else stood i)
              ∙ ap (λ b. if b then new_value y else (parts r).value y) (sym e.0)
          | inr e ↦
              let writes : has_cell (placed r y) ((line_net effect sizes).outputs (2048 * s + c.job)) ≡ false =
              ap (has_cell (placed r y)) pass_writes ∙ has_other (s + 1) r e.1 y h (Correction 0 ∷ []) low_root in
              ap (λ b. if b then (line_net effect sizes).gives (2048 * s + c.job) c.inputs (placed r y) else (row_state count parts).value (placed r y)) writes
              ∙ row_value parts r y h
              ∙ ap (λ b. if b then new_value y else (parts r).value y) (sym e.0)
        ]

        -- a segment's state afterwards, by one of its fields
        pass_part : {X : Type 0} (get : State → X) (goal : ℕ → X) (r : ℕ) → get given ≡ goal (s + 1) → get closed ≡ goal s
            → ((n : ℕ) → n ≢ s → n ≢ s + 1 → get (parts n) ≡ goal n) → get (with_pass effect sizes parts s w c r) ≡ goal r
        pass_part get goal r p q other = elim (eqb_tells r (s + 1)) [
          | inl h ↦ ap (λ n. get (with_pass effect sizes parts s w c n)) h.1 ∙ ap get (update_same (update parts s closed) (s + 1) given) ∙ p ∙ ap goal (sym h.1)
          | inr h ↦
              ap get (elsewhere r h.1)
              ∙ elim (eqb_tells r s) [
                | inl g ↦ ap (λ n. get (update parts s closed n)) g.1 ∙ ap get (update_same parts s closed) ∙ q ∙ ap goal (sym g.1)
                | inr g ↦ ap get (ap (λ b. if b then closed else parts r) g.0) ∙ other r g.1 h.1
              ]
        ]
          where
            elsewhere : (r : ℕ) → r ≢ s + 1 → with_pass effect sizes parts s w c r ≡ update parts s closed r
            elsewhere r ne = ap (λ b. if b then given else update parts s closed r) (eq_false r (s + 1) ne)

        pass_cells : (row_state count (with_pass effect sizes parts s w c)).value ≡ line_after
        pass_cells = by_cells (row_state count (with_pass effect sizes parts s w c)).value line_after (λ r y h.
            row_value (with_pass effect sizes parts s w c) r y h
            ∙ pass_part (λ (u : State). u.value y) (update (λ n. (parts n).value y) (s + 1) (new_value y)) r
            (at_here parts (s + 1) next given (λ n. (parts n).value y) (new_value y))
            (at_other parts (s + 1) next given (λ n. (parts n).value y) (new_value y) s (λ e. apart (sym e)))
            (λ n ne far. at_other parts (s + 1) next given (λ m. (parts m).value y) (new_value y) n far)
            ∙ sym (pass_value r y h))

        abbrev next_same : ℕ → Bool
        next_same d = same_at (parts (s + 1)).value new_value ((segment_net effect sizes (s + 1)).inputs d)

        pass_same : (r d : ℕ) → d < 2048
            → same_at (row_state count parts).value line_after ((line_net effect sizes).inputs (2048 * r + d)) ≡ update (λ n. true) (s + 1) (next_same d) r
        pass_same r d h =
            ap (same_at (row_state count parts).value line_after) (inputs_at effect sizes small r d h)
            ∙ same_at_placed (row_state count parts).value line_after r ((segment_net effect sizes r).inputs d)
            ∙ elim (eqb_tells r (s + 1)) [
              | inl e ↦
                  ap (λ n. same_at (λ y. (row_state count parts).value (placed n y)) (λ y. line_after (placed n y)) ((segment_net effect sizes n).inputs d)) e.1
                  ∙ same_at_alike (λ y. (row_state count parts).value (placed (s + 1) y)) (λ y. line_after (placed (s + 1) y))
                  (parts (s + 1)).value new_value ((segment_net effect sizes (s + 1)).inputs d)
                  (λ y g. row_value parts (s + 1) y (low_inputs effect sizes small (s + 1) d y g))
                  (λ y g. pass_value (s + 1) y (low_inputs effect sizes small (s + 1) d y g) ∙ update_same (λ n. (parts n).value y) (s + 1) (new_value y))
                  ∙ ap (λ b. if b then next_same d else true) (sym e.0)
              | inr e ↦
                  same_each (λ y. (row_state count parts).value (placed r y)) (λ y. line_after (placed r y)) ((segment_net effect sizes r).inputs d)
                  (λ y g. row_value parts r y (low_inputs effect sizes small r d y g) ∙ stays y r e.0 ∙ sym (pass_value r y (low_inputs effect sizes small r d y g)))
                  ∙ ap (λ b. if b then next_same d else true) (sym e.0)
            ]
          where
            stays : (y : Cell) (r : ℕ) → (r == s + 1) ≡ false → (parts r).value y ≡ update (λ n. (parts n).value y) (s + 1) (new_value y) r
            stays y r e = ap (λ b. if b then new_value y else (parts r).value y) (sym e)

        is_low : c.job < 2048
        is_low = omega (arith, passing)

        pass_ended : (r d : ℕ) → d < 2048 → status_ended (row_state count parts) (lifted s c) (2048 * r + d) ≡ update (λ n. (parts n).status) s (status_ended (parts s) c) r d
        pass_ended r d h =
            let stood : (row_state count parts).status (2048 * s + c.job) ≡ (parts s).status c.job = row_status parts s c.job is_low in
            ap (λ v. update (row_state count parts).status (2048 * s + c.job) (ended v) (2048 * r + d)) stood
            ∙ update_code parts s lt closed (row_state count parts).status (λ n. (parts n).status) c.job (ended ((parts s).status c.job)) is_low (row_status parts) r d h

        -- what each job's state is, by its segment
        abbrev goal_at : ℕ → ℕ → JobState
        goal_at d n =
            if update (λ m. true) (s + 1) (next_same d) n
            then update (λ m. (parts m).status) s (status_ended (parts s) c) n d
            else woken (update (λ m. (parts m).status) s (status_ended (parts s) c) n d)

        next_status : (d : ℕ) → given.status d ≡ goal_at d (s + 1)
        next_status d =
            let a : next_same d ≡ update (λ m. true) (s + 1) (next_same d) (s + 1) = at_here parts (s + 1) next given (λ m. true) (next_same d) in
            let b : (parts (s + 1)).status d ≡ update (λ m. (parts m).status) s (status_ended (parts s) c) (s + 1) d = ap (λ f. f d) (at_other parts s lt closed (λ m. (parts m).status) (status_ended (parts s) c) (s + 1) apart) in
            λ i. if a i then b i else woken (b i)

        own_status : (d : ℕ) → closed.status d ≡ goal_at d s
        own_status d =
            let a : true ≡ update (λ m. true) (s + 1) (next_same d) s = at_other parts (s + 1) next given (λ m. true) (next_same d) s (λ e. apart (sym e)) in
            let b : status_ended (parts s) c d ≡ update (λ m. (parts m).status) s (status_ended (parts s) c) s d = ap (λ f. f d) (at_here parts s lt closed (λ m. (parts m).status) (status_ended (parts s) c)) in
            λ i. if a i then b i else woken (b i)

        far_status : (d n : ℕ) → n ≢ s → n ≢ s + 1 → (parts n).status d ≡ goal_at d n
        far_status d n ne far =
            let a : true ≡ update (λ m. true) (s + 1) (next_same d) n = at_other parts (s + 1) next given (λ m. true) (next_same d) n far in
            let b : (parts n).status d ≡ update (λ m. (parts m).status) s (status_ended (parts s) c) n d = ap (λ f. f d) (at_other parts s lt closed (λ m. (parts m).status) (status_ended (parts s) c) n ne) in
            λ i. if a i then b i else woken (b i)

        pass_status : (row_state count (with_pass effect sizes parts s w c)).status ≡ (finished (line_net effect sizes) (row_state count parts) w (lifted s c)).status
        pass_status = by_codes (row_state count (with_pass effect sizes parts s w c)).status (finished (line_net effect sizes) (row_state count parts) w (lifted s c)).status (λ r d h.
            row_status (with_pass effect sizes parts s w c) r d h
            ∙ pass_part (λ (u : State). u.status d) (goal_at d) r (next_status d) (own_status d) (far_status d)
            ∙ sym (λ i. if pass_same r d h i then pass_ended r d h i else woken (pass_ended r d h i)))

        pass_done : (row_state count (with_pass effect sizes parts s w c)).done ≡ (finished (line_net effect sizes) (row_state count parts) w (lifted s c)).done
        pass_done =
            by_codes (row_state count (with_pass effect sizes parts s w c)).done (row_state count parts).done (λ r d h.
            row_done (with_pass effect sizes parts s w c) r d h
            ∙ pass_part (λ (u : State). u.done d) (λ n. (parts n).done d) r refl refl (λ n ne far. refl)
            ∙ sym (row_done parts r d h))
            ∙ ap (λ b. if b then update (row_state count parts).done (2048 * s + c.job) (Some (first_of c.inputs)) else (row_state count parts).done) (sym pass_no_leaf)

        pass_claims : HasNoOther count parts s w → (v : ℕ) → row_claim count (with_pass effect sizes parts s w c) v ≡ update (row_claim count parts) w None v
        pass_claims alone v =
            row_claim_same (with_pass effect sizes parts s w c) (with_part parts s closed) v count (λ r below.
            pass_part (λ (u : State). u.claim v) (λ n. (with_part parts s closed n).claim v) r
            (ap (λ (u : State). u.claim v) (sym (there parts s lt closed (s + 1) apart)))
            (ap (λ (u : State). u.claim v) (sym (here parts s lt closed)))
            (λ n ne far. ap (λ (u : State). u.claim v) (sym (there parts s lt closed n ne))))
            ∙ claims_with parts s lt closed w None refl alone v

        pub row_passed : HasNoOther count parts s w
            → row_state count (with_pass effect sizes parts s w c) ≡ finished (line_net effect sizes) (row_state count parts) w (lifted s c)
        row_passed alone =
            let claims = pass_claims alone in
            λ i. record { value = pass_cells i; status = pass_status i; done = pass_done i; claim = λ v. claims v i }
