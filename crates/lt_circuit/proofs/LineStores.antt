-- A finish of a job by its number, in its segment.
use Rattle.std.proofs.Common.{◌≡◌, ◌≢◌, ℕ, ◌+◌, ◌*◌, ◌/◌, ◌%◌, ◌<◌, Bool, true, false, List, [], ◌∷◌, map, length, refl, ap, ◌∙◌, arith}
use Rattle.std.specs.Prelude.{if◌then◌else◌}
use Rattle.std.proofs.lemmas.List.{length-map}
use Rattle.lt_net.specs.declared.job.JobName.{JobName}
use Rattle.lt_net.specs.declared.job.JobName.TheVariants.{Correct}
use Rattle.lt_net.specs.Line.{hands_on, line_inputs, line_job, placed}
use Rattle.lt_net.specs.Net.{Cell, Correction, Effect, first_of, read}
use Rattle.lt_net.specs.Tree.{inputs_of, tree_of}
use Rattle.lt_net.specs.Codes.{IsOfTree}
use Rattle.lt_net.proofs.Inside.{correct_inner, correct_reads}
use Rattle.lt_net.proofs.Placed.{pass_at}
use Rattle.lt_circuit.specs.Board.{state_of}
use Rattle.lt_circuit.specs.Line.{number_code, number_segment, number_within}
use Rattle.lt_circuit.specs.Row.{parts, row_of, segment_at, sizes}
use Rattle.lt_circuit.specs.Segment.{SegmentView}
use Rattle.lt_circuit.proofs.Numbers.{own_of, segment_is}
use Rattle.lt_circuit.proofs.RowReads.{below_when, read_inside}
use Rattle.lt_circuit.proofs.RowTables.{size_at}

module _ (row : List SegmentView) (name : JobName) (some : line_inputs (sizes row) (line_job (number_code name)) ≢ []) where
  pub within_row : number_segment name < length row
  within_row = let inside = read_inside row (number_code name) some in let e = segment_is name in omega (arith, inside, e)

  pub within_some : IsOfTree name → inputs_of (tree_of (segment_at row (number_segment name)).board.leaves) (number_within name) ≢ []
  within_some own none =
      some (ap (line_inputs (sizes row)) (own_of name own)
      ∙ ap (λ n. map (placed (number_segment name)) (inputs_of (tree_of n) (number_within name))) (size_at row (number_segment name)) ∙ ap (map (placed (number_segment name))) none)

correction_at : (row : List SegmentView) (s v : ℕ) → v < 512 → (row_of row).value (placed s (Correction v)) ≡ (state_of (segment_at row s).board).value (Correction v)
correction_at row s v low =
    let a : (512 * s + v) / 512 ≡ s = omega (arith, low) in
    let b : (512 * s + v) % 512 ≡ v = omega (arith, low) in
    λ i. (parts row (a i)).value (Correction (b i))

-- the first input of a Correct is its node's correction
pub first_input : (row : List SegmentView) (node : ℕ) → line_inputs (sizes row) (line_job (number_code (Correct node))) ≢ []
    → first_of (read (row_of row).value (line_inputs (sizes row) (line_job (number_code (Correct node))))) ≡ (state_of (segment_at row (node / 512)).board).value (Correction (node % 512))
first_input row node some =
    let s = node / 512 in
    let v = node % 512 in
    let n = (segment_at row s).board.leaves in
    let there = within_some row (Correct node) some tt in
    ap (λ a. first_of (read (row_of row).value (line_inputs (sizes row) a))) (own_of (Correct node) tt)
    ∙ ap (λ k. first_of (read (row_of row).value (map (placed s) (inputs_of (tree_of k) (Correct v))))) (size_at row s)
    ∙ ap (λ (cs : List Cell). first_of (read (row_of row).value (map (placed s) cs))) (correct_reads n v (correct_inner n v there))
    ∙ correction_at row s v (omega arith)

-- ---- a Pass that reads something is one between two segments

module _ (row : List SegmentView) (s : ℕ) (some : line_inputs (sizes row) (line_job (2048 * s + 2047)) ≢ []) where
  pub pass_hands_on : hands_on (sizes row) s ≡ true
  pass_hands_on = by_on (hands_on (sizes row) s) refl
    where
      by_on : (on : Bool) → hands_on (sizes row) s ≡ on → hands_on (sizes row) s ≡ true
      by_on true e = e
      by_on false e = absurd (some (ap (line_inputs (sizes row)) (pass_at s) ∙ ap (λ b. if b then placed s (Correction 0) ∷ placed s (Effect 0) ∷ [] else []) e))

  pub pass_next : s + 1 < length row
  pass_next = let all = length-map row (λ (v : SegmentView). v.board.leaves) in let next = below_when (s + 1) (length (sizes row)) pass_hands_on in omega (arith, all, next)
