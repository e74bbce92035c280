-- Segments at their openings are a line at its opening.
use Rattle.std.proofs.Common.{◌≡◌, ℕ, zero, suc, ◌+◌, ◌<◌, inl, inr, false, List, [], ◌∷◌, ◌++◌, length, None, refl, sym, ap, ◌∙◌, subst, arith}
use Rattle.std.specs.Prelude.{if◌then◌else◌}
use Rattle.std.proofs.Math.ListN.{get_or-eq_default, get_or-append}
use Rattle.std.proofs.Math.Seq.{get_or-append_seam}
use Rattle.std.proofs.lemmas.List.{length-append}
use Rattle.lt_model.specs.declared.mark.Mark.{Mark}
use Rattle.lt_net.specs.declared.job.JobName.{JobName}
use Rattle.lt_net.specs.declared.job.JobName.TheVariants.{Leaf, Merge, Correct, Pass}
use Rattle.lt_net.specs.declared.job.JobState.TheVariants.{Clean, Pending}
use Rattle.lt_net.specs.Codes.{job_of}
use Rattle.lt_net.specs.Net.{Cell, Correction, Effect, opening}
use Rattle.lt_net.specs.Tree.{circuit_net, is_leaf_job, tree_of}
use Rattle.lt_net.specs.Line.{AreSizes, effect_in, hands_on, line_net, size_in}
use Rattle.lt_net.specs.Row.{passing_net, row_state, segment_net}
use Rattle.lt_net.proofs.Rows.{row_opening}
use Rattle.lt_net.proofs.Shape.{lt_tells, lt_false}
use Rattle.lt_circuit.specs.Board.{board_state, done_of, standing, value_in}
use Rattle.lt_circuit.specs.Segment.{SegmentView, segment_state, passing}
use Rattle.lt_circuit.specs.Row.{AreOpening, IsOpening, no_segment, parts, row_of, segment_at, sizes, standing_below, standing_in}
use Rattle.lt_circuit.proofs.Segments.{passing_opening}

-- one segment more
pub opening_next : (vs new : List SegmentView) (v : SegmentView) (leaves : List ℕ) (s : ℕ) → AreOpening vs leaves s → new ≡ vs ++ v ∷ [] → IsOpening v (size_in leaves s) (hands_on leaves s)
    → AreOpening new leaves (s + 1)
opening_next vs new v leaves s are is one = record {
  long = ap length is ∙ length-append vs (v ∷ []) ∙ ap (λ n. n + 1) are.long;
  each = λ r below. elim (lt_tells r s) [
    | inl h ↦
        let at : segment_at new r ≡ segment_at vs r = ap (λ us. segment_at us r) is ∙ get_or-append vs (v ∷ []) no_segment r (omega (arith, h.1, are.long)) in
        by_same r at (are.each r h.1)
    | inr h ↦
        let here : length vs ≡ r = omega (arith, h.1, are.long, below) in
        let at : segment_at new r ≡ v = ap (λ us. segment_at us r) is ∙ ap (λ n. segment_at (vs ++ v ∷ []) n) (sym here) ∙ get_or-append_seam vs v [] no_segment in
        let same : s ≡ r = omega (arith, here, are.long) in
        by_same r at (by_place r same one)
  ];
}
  where
    by_same : (r : ℕ) {u w : SegmentView} → u ≡ w → IsOpening w (size_in leaves r) (hands_on leaves r) → IsOpening u (size_in leaves r) (hands_on leaves r)
    by_same r e h = subst (λ u. IsOpening u (size_in leaves r) (hands_on leaves r)) (sym e) h

    by_place : (r : ℕ) → s ≡ r → IsOpening v (size_in leaves s) (hands_on leaves s) → IsOpening v (size_in leaves r) (hands_on leaves r)
    by_place r e h = subst (λ n. IsOpening v (size_in leaves n) (hands_on leaves n)) e h

pub opening_none : (leaves : List ℕ) → AreOpening [] leaves 0
opening_none leaves = record { long = refl; each = λ s below. absurd (omega (arith, below)) }

sizes_from : (vs : List SegmentView) (ns : List ℕ) → length vs ≡ length ns → ((s : ℕ) → s < length ns → (segment_at vs s).board.leaves ≡ size_in ns s) → sizes vs ≡ ns
sizes_from [] [] e h = refl
sizes_from [] (n ∷ ns) e h = absurd (omega (arith, e))
sizes_from (v ∷ vs) [] e h = absurd (omega (arith, e))
sizes_from (v ∷ vs) (n ∷ ns) e h =
    let first : v.board.leaves ≡ n = h 0 (omega arith) in
    let rest : sizes vs ≡ ns = sizes_from vs ns (omega (arith, e)) (λ s below. h (suc s) (omega (arith, below))) in
    λ i. first i ∷ rest i

none_standing : (vs : List SegmentView) (n : ℕ) → ((s : ℕ) → s < n → standing (segment_at vs s).board.claims ≡ 0) → standing_below vs n ≡ 0
none_standing vs zero h = refl
none_standing vs (suc s) h =
    let rest : standing_below vs s ≡ 0 = none_standing vs s (λ r below. h r (omega (arith, below))) in
    let last : standing (segment_at vs s).board.claims ≡ 0 = h s (omega arith) in
    λ i. rest i + last i

-- what stands for a segment behind the last is one without leaves
bare : (does : ℕ → List Mark → List Mark) → segment_state no_segment ≡ opening (passing_net does 0 false)
bare does = ap (λ s. passing s Clean) board ∙ passing_opening does 0 false
  where
    value : (x : Cell) → value_in [] x ≡ []
    value (Correction v) = refl
    value (Effect v) = refl

    status : (name : JobName) → Clean ≡ (if is_leaf_job (tree_of 0) name then Pending else Clean)
    status (Leaf i) = ap (λ b. if b then Pending else Clean) (sym (lt_false i 0 (omega arith)))
    status (Merge v) = refl
    status (Correct v) = refl
    status (Pass s) = refl

    last : (name : JobName) → done_of [] name ≡ None
    last (Leaf i) = refl
    last (Merge v) = refl
    last (Correct v) = refl
    last (Pass s) = refl

    board : board_state [] [] [] [] ≡ opening (circuit_net does (tree_of 0))
    board = λ i. record { value = λ x. value x i; status = λ j. status (job_of j) i; done = λ j. last (job_of j) i; claim = λ w. None }

module _ (vs : List SegmentView) (ns : List ℕ) (are : AreOpening vs ns (length ns)) where
  pub opening_sizes : sizes vs ≡ ns
  opening_sizes = sizes_from vs ns are.long (λ s below. (are.each s below).size)

  pub opening_free : standing_in vs ≡ 0
  opening_free = none_standing vs (length vs) (λ s below. (are.each s (omega (arith, below, are.long))).free)

  pub opening_row : AreSizes ns → (does : ℕ → List Mark → List Mark) → row_of vs ≡ opening (line_net does ns)
  opening_row small does =
      ap (row_state (length vs)) (λ i s. part s i) ∙ row_opening does ns small (length vs)
    where
      part : (s : ℕ) → parts vs s ≡ opening (segment_net does ns s)
      part s = elim (lt_tells s (length ns)) [
        | inl h ↦ (are.each s h.1).state (effect_in does s)
        | inr h ↦
            let none : segment_at vs s ≡ no_segment = get_or-eq_default vs no_segment (omega (arith, h.1, are.long)) in
            let size : size_in ns s ≡ 0 = get_or-eq_default ns 0 (omega (arith, h.1)) in
            let last : hands_on ns s ≡ false = lt_false (s + 1) (length ns) (omega (arith, h.1)) in
            ap segment_state none ∙ bare (effect_in does s) ∙ (λ i. opening (passing_net (effect_in does s) (sym size i) (sym last i)))
      ]
