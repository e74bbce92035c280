-- What the jobs of a row read, by its segments' tables.
use Rattle.std.proofs.Common.{◌≡◌, ◌≢◌, ℕ, ◌+◌, ◌*◌, ◌/◌, ◌%◌, ◌<◌, ◌≤◌, inl, inr, Bool, true, false, List, [], ◌∷◌, map, length, sym, ap, ◌∙◌, arith}
use Rattle.std.specs.Prelude.{if◌then◌else◌, ◌==◌, nat_lt}
use Rattle.std.proofs.Math.ListN.{get_or-eq_default}
use Rattle.std.proofs.lemmas.List.{length-map}
use Rattle.lt_net.specs.Codes.{job_of}
use Rattle.lt_net.specs.Net.{Correction, Effect, read}
use Rattle.lt_net.specs.Tree.{inputs_of, tree_of}
use Rattle.lt_net.specs.Line.{Own, Pass, hands_on, line_inputs, line_job, placed, size_in}
use Rattle.lt_net.specs.Row.{pass_inputs, segment_net}
use Rattle.lt_net.proofs.Inside.{none_reads}
use Rattle.lt_net.proofs.Rows.{row_read}
use Rattle.lt_net.proofs.Shape.{eq_false, lt_tells, lt_false}
use Rattle.lt_circuit.specs.Board.{state_of}
use Rattle.lt_circuit.specs.Segment.{SegmentView}
use Rattle.lt_circuit.specs.Row.{IsRow, parts, row_of, segment_at, sizes}
use Rattle.lt_circuit.proofs.RowTables.{size_at, small}

pub below_when : (a b : ℕ) → nat_lt a b ≡ true → a < b
below_when a b e = elim (lt_tells a b) [ inl h ↦ h.1 | inr h ↦ absurd (let f : true ≡ false = sym e ∙ h.0 in cc) ]

module _ (vs : List SegmentView) where
  -- behind the last segment nothing is read
  beyond : (s place : ℕ) → length vs ≤ s → line_inputs (sizes vs) (line_job (2048 * s + place)) ≢ [] → place < 2048 → s < length vs
  beyond s place out some low = absurd (some none)
    where
      size : size_in (sizes vs) s ≡ 0
      size = get_or-eq_default (sizes vs) 0 (omega (arith, out, length-map vs (λ (v : SegmentView). v.board.leaves)))

      last : hands_on (sizes vs) s ≡ false
      last = lt_false (s + 1) (length (sizes vs)) (omega (arith, out, length-map vs (λ (v : SegmentView). v.board.leaves)))

      no_pass : hands_on (sizes vs) s ≡ false → line_inputs (sizes vs) (Pass s) ≡ []
      no_pass e = ap (λ b. if b then placed s (Correction 0) ∷ placed s (Effect 0) ∷ [] else []) e

      by_place : (b : Bool) → line_inputs (sizes vs) (if b then Pass s else Own s (job_of place)) ≡ []
      by_place true = no_pass last
      by_place false = ap (λ n. map (placed s) (inputs_of (tree_of n) (job_of place))) size ∙ ap (map (placed s)) (none_reads (job_of place))

      at : line_job (2048 * s + place) ≡ (if place == 2047 then Pass s else Own s (job_of place))
      at =
          let a : (2048 * s + place) / 2048 ≡ s = omega (arith, low) in
          let b : (2048 * s + place) % 2048 ≡ place = omega (arith, low) in
          λ i. if b i == 2047 then Pass (a i) else Own (a i) (job_of (b i))

      none : line_inputs (sizes vs) (line_job (2048 * s + place)) ≡ []
      none = ap (line_inputs (sizes vs)) at ∙ by_place (place == 2047)

  pub read_inside : (code : ℕ) → line_inputs (sizes vs) (line_job code) ≢ [] → code / 2048 < length vs
  read_inside code some = elim (lt_tells (code / 2048) (length vs)) [
    | inl h ↦ h.1
    | inr h ↦
        let whole : 2048 * (code / 2048) + code % 2048 ≡ code = omega arith in
        beyond (code / 2048) (code % 2048) h.1 (λ e. some (ap (λ c. line_inputs (sizes vs) (line_job c)) (sym whole) ∙ e)) (omega arith)
  ]

  module _ (row : IsRow vs) (code : ℕ) where
    -- the job's inputs are those of its segment's job
    by_segment : read (row_of vs).value (line_inputs (sizes vs) (line_job code)) ≡ read (parts vs (code / 2048)).value ((segment_net (λ i m. m) (sizes vs) (code / 2048)).inputs (code % 2048))
    by_segment =
        let whole : 2048 * (code / 2048) + code % 2048 ≡ code = omega arith in
        ap (λ c. read (row_of vs).value (line_inputs (sizes vs) (line_job c))) (sym whole)
        ∙ row_read (λ i m. m) (sizes vs) (small vs row) (length vs) (parts vs) (code / 2048) (code % 2048) (omega arith)

    pub tree_read : (code % 2048 == 2047) ≡ false
        → read (row_of vs).value (line_inputs (sizes vs) (line_job code)) ≡ read (state_of (segment_at vs (code / 2048)).board).value (inputs_of (tree_of (segment_at vs (code / 2048)).board.leaves) (job_of (code % 2048)))
    tree_read other =
        by_segment
        ∙ ap (λ b. read (parts vs (code / 2048)).value (if b then pass_inputs (hands_on (sizes vs) (code / 2048)) else inputs_of (tree_of (size_in (sizes vs) (code / 2048))) (job_of (code % 2048)))) other
        ∙ ap (λ n. read (parts vs (code / 2048)).value (inputs_of (tree_of n) (job_of (code % 2048)))) (size_at vs (code / 2048))

    pub pass_read : (code % 2048 == 2047) ≡ true
        → read (row_of vs).value (line_inputs (sizes vs) (line_job code)) ≡ read (state_of (segment_at vs (code / 2048)).board).value (pass_inputs (segment_at vs (code / 2048)).on)
    pass_read here =
        by_segment
        ∙ ap (λ b. read (parts vs (code / 2048)).value (if b then pass_inputs (hands_on (sizes vs) (code / 2048)) else inputs_of (tree_of (size_in (sizes vs) (code / 2048))) (job_of (code % 2048)))) here
        ∙ ap (λ on. read (parts vs (code / 2048)).value (pass_inputs on)) (sym (row.on (code / 2048)))

  pub status_at : (s place : ℕ) → place < 2048 → (row_of vs).status (2048 * s + place) ≡ (parts vs s).status place
  status_at s place low =
      let a : (2048 * s + place) / 2048 ≡ s = omega (arith, low) in
      let b : (2048 * s + place) % 2048 ≡ place = omega (arith, low) in
      λ i. (parts vs (a i)).status (b i)

  pub tree_status_at : (s place : ℕ) → place < 2047 → (row_of vs).status (2048 * s + place) ≡ (state_of (segment_at vs s).board).status place
  tree_status_at s place low =
      status_at s place (omega (arith, low))
      ∙ ap (λ b. if b then (segment_at vs s).pass else (state_of (segment_at vs s).board).status place) (eq_false place 2047 (λ e. omega (arith, e, low)))

  -- a job of the row that isn't a Pass is one of its segment's tree
  pub tree_some : (code : ℕ) → (code % 2048 == 2047) ≡ false → line_inputs (sizes vs) (line_job code) ≢ [] → inputs_of (tree_of (segment_at vs (code / 2048)).board.leaves) (job_of (code % 2048)) ≢ []
  tree_some code other some e =
      some (ap (λ b. line_inputs (sizes vs) (if b then Pass (code / 2048) else Own (code / 2048) (job_of (code % 2048)))) other
      ∙ ap (λ n. map (placed (code / 2048)) (inputs_of (tree_of n) (job_of (code % 2048)))) (size_at vs (code / 2048)) ∙ ap (map (placed (code / 2048))) e)
