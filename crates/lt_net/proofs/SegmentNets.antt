-- The net of a line, by those of its segments.
use Rattle.std.proofs.Common.{◌≡◌, ℕ, ◌+◌, ◌*◌, ◌<◌, inl, inr, Bool, true, false, List, [], ◌∷◌, map, refl, sym, ap, ◌∙◌, arith}
use Rattle.std.specs.Prelude.{if◌then◌else◌, ◌==◌}
use Rattle.lt_model.specs.declared.mark.Mark.{Mark}
use Rattle.lt_net.specs.Net.{Cell, Correction, Effect, has_cell}
use Rattle.lt_net.specs.Tree.{tree_of, inputs_of, outputs_of, gives_of, is_leaf_job}
use Rattle.lt_net.specs.Codes.{job_of}
use Rattle.lt_net.specs.Line.{Own, Pass, AreSizes, effect_in, hands_on, line_gives, line_inputs, line_leaf, line_net, line_outputs, line_starts, placed, size_in}
use Rattle.lt_net.specs.Row.{segment_net}
use Rattle.lt_net.proofs.Shape.{eq_false}
use Rattle.lt_net.proofs.Jobs.{has_two}
use Rattle.lt_net.proofs.Placed.{node_at, at_code, own_at, unplaced_placed, written, read_within}
use Rattle.lt_net.proofs.RowPlaces.{AreLow}

module _ (effect : ℕ → List Mark → List Mark) (sizes : List ℕ) (small : AreSizes sizes) where
  pub not_pass : (c : ℕ) → c < 2047 → (c == 2047) ≡ false
  not_pass c h = eq_false c 2047 (λ e. omega (arith, e, h))

  pub inputs_at : (s c : ℕ) → c < 2048 → (line_net effect sizes).inputs (2048 * s + c) ≡ map (placed s) ((segment_net effect sizes s).inputs c)
  inputs_at s c h =
      ap (line_inputs sizes) (at_code s c h) ∙ by_case (c == 2047)
    where
      pass_reads : (b : Bool) → (if b then placed s (Correction 0) ∷ placed s (Effect 0) ∷ [] else []) ≡ map (placed s) (if b then Correction 0 ∷ Effect 0 ∷ [] else [])
      pass_reads true = refl
      pass_reads false = refl

      by_case : (b : Bool) → line_inputs sizes (if b then Pass s else Own s (job_of c))
          ≡ map (placed s) (if b then (if hands_on sizes s then Correction 0 ∷ Effect 0 ∷ [] else []) else inputs_of (tree_of (size_in sizes s)) (job_of c))
      by_case true = pass_reads (hands_on sizes s)
      by_case false = refl

  pub outputs_at : (s c : ℕ) → c < 2047 → (line_net effect sizes).outputs (2048 * s + c) ≡ map (placed s) ((segment_net effect sizes s).outputs c)
  outputs_at s c h =
      ap (line_outputs sizes) (own_at s c h)
      ∙ ap (λ b. map (placed s) (if b then [] else outputs_of (tree_of (size_in sizes s)) (job_of c))) (sym (not_pass c h))

  pub gives_at : (s c : ℕ) (ins : List (List Mark)) (y : Cell) → c < 2047 → (line_net effect sizes).gives (2048 * s + c) ins (placed s y) ≡ (segment_net effect sizes s).gives c ins y
  gives_at s c ins y h =
      ap (λ a. line_gives effect a ins (placed s y)) (own_at s c h) ∙ ap (gives_of (effect_in effect s) (job_of c) ins) (unplaced_placed s y)

  pub leaf_at : (s c : ℕ) → c < 2048 → (line_net effect sizes).is_leaf (2048 * s + c) ≡ (segment_net effect sizes s).is_leaf c
  leaf_at s c h = ap (line_leaf sizes) (at_code s c h) ∙ by_case (c == 2047)
    where
      by_case : (b : Bool) → line_leaf sizes (if b then Pass s else Own s (job_of c)) ≡ (if b then false else is_leaf_job (tree_of (size_in sizes s)) (job_of c))
      by_case true = refl
      by_case false = refl

  pub starts_at : (s c : ℕ) → c < 2048 → (line_net effect sizes).starts (2048 * s + c) ≡ (segment_net effect sizes s).starts c
  starts_at s c h = ap (line_starts sizes) (at_code s c h) ∙ by_case (c == 2047)
    where
      by_case : (b : Bool) → line_starts sizes (if b then Pass s else Own s (job_of c)) ≡ (if b then hands_on sizes s else is_leaf_job (tree_of (size_in sizes s)) (job_of c))
      by_case true = refl
      by_case false = refl

  pub low_inputs : (s c : ℕ) → AreLow ((segment_net effect sizes s).inputs c)
  low_inputs s c y e = by_case (c == 2047) e
    where
      of_pass : (b : Bool) → has_cell y (if b then Correction 0 ∷ Effect 0 ∷ [] else []) ≡ true → node_at y < 512
      of_pass true f = elim (has_two y (Correction 0) (Effect 0) f) [
        | inl h ↦ let z : node_at y ≡ 0 = ap node_at h in omega (arith, z)
        | inr h ↦ let z : node_at y ≡ 0 = ap node_at h in omega (arith, z)
      ]
      of_pass false f = cc

      by_case : (b : Bool) → has_cell y (if b then (if hands_on sizes s then Correction 0 ∷ Effect 0 ∷ [] else []) else inputs_of (tree_of (size_in sizes s)) (job_of c)) ≡ true → node_at y < 512
      by_case true f = of_pass (hands_on sizes s) f
      by_case false f = let b = small.few s in let r = read_within (size_in sizes s) (job_of c) y f in omega (arith, r, b)

  pub low_outputs : (s c : ℕ) → AreLow ((segment_net effect sizes s).outputs c)
  low_outputs s c y e = by_case (c == 2047) e
    where
      by_case : (b : Bool) → has_cell y (if b then [] else outputs_of (tree_of (size_in sizes s)) (job_of c)) ≡ true → node_at y < 512
      by_case true f = cc
      by_case false f = let b = small.few s in let r = (written (size_in sizes s) (job_of c) y f).node in omega (arith, r, b)
