-- The places of a row of segments: its cells and codes, and those of one segment.
use Rattle.std.proofs.Common.{◌≡◌, ℕ, ◌+◌, ◌*◌, ◌/◌, ◌%◌, ◌<◌, ◌≢◌, ◌||◌, ◌&&◌, inl, inr, Bool, true, false, List, [], ◌∷◌, map, refl, sym, ap, ◌∙◌, arith}
use Rattle.std.specs.Prelude.{◌==◌}
use Rattle.std.proofs.lemmas.Bool.Decides.{eqb_tells}
use Rattle.lt_model.specs.declared.mark.Mark.{Mark}
use Rattle.lt_net.specs.Same.{same_marks}
use Rattle.lt_net.specs.Net.{Cell, Correction, Effect, same_cell, has_cell, read, same_at}
use Rattle.lt_net.specs.Line.{placed}
use Rattle.lt_net.specs.Row.{segment_in, cell_in}
use Rattle.lt_net.proofs.Shape.{eq_false, eq_true}
use Rattle.lt_net.proofs.Cells.{first_has, later_has}
use Rattle.lt_net.proofs.Placed.{node_at, placed_same, placed_in}

-- ---- places

pub segment_back : (s : ℕ) (y : Cell) → node_at y < 512 → segment_in (placed s y) ≡ s
segment_back s (Correction v) h = omega (arith, h)
segment_back s (Effect v) h = omega (arith, h)

pub cell_back : (s : ℕ) (y : Cell) → node_at y < 512 → cell_in (placed s y) ≡ y
cell_back s (Correction v) h = let e : (512 * s + v) % 512 ≡ v = omega (arith, h) in ap Correction e
cell_back s (Effect v) h = let e : (512 * s + v) % 512 ≡ v = omega (arith, h) in ap Effect e

place_of : (x : Cell) → placed (segment_in x) (cell_in x) ≡ x
place_of (Correction u) = let e : 512 * (u / 512) + u % 512 ≡ u = omega arith in ap Correction e
place_of (Effect u) = let e : 512 * (u / 512) + u % 512 ≡ u = omega arith in ap Effect e

inside_cell : (x : Cell) → node_at (cell_in x) < 512
inside_cell (Correction u) = omega arith
inside_cell (Effect u) = omega arith

code_back : (code : ℕ) → 2048 * (code / 2048) + code % 2048 ≡ code
code_back code = omega arith

pub code_segment : (s c : ℕ) → c < 2048 → (2048 * s + c) / 2048 ≡ s
code_segment s c h = omega (arith, h)

pub code_place : (s c : ℕ) → c < 2048 → (2048 * s + c) % 2048 ≡ c
code_place s c h = omega (arith, h)

-- ---- a fact of all cells and codes of a line is one of those of each segment

pub by_cells : (f g : Cell → List Mark) → ((s : ℕ) (y : Cell) → node_at y < 512 → f (placed s y) ≡ g (placed s y)) → f ≡ g
by_cells f g h = λ i x. (ap f (sym (place_of x)) ∙ h (segment_in x) (cell_in x) (inside_cell x) ∙ ap g (place_of x)) i

pub by_codes : {X : Type 0} (f g : ℕ → X) → ((s c : ℕ) → c < 2048 → f (2048 * s + c) ≡ g (2048 * s + c)) → f ≡ g
by_codes f g h = λ i code. (ap f (sym (code_back code)) ∙ h (code / 2048) (code % 2048) (omega arith) ∙ ap g (code_back code)) i

-- ---- cells of one segment

same_placed_cell : (s : ℕ) (y z : Cell) → same_cell (placed s y) (placed s z) ≡ same_cell y z
same_placed_cell s (Correction v) (Correction w) = shifted v w
  where
    shifted : (v w : ℕ) → (512 * s + v == 512 * s + w) ≡ (v == w)
    shifted v w = elim (eqb_tells v w) [
      | inl h ↦ ap (λ n. 512 * s + v == 512 * s + n) (sym h.1) ∙ eq_true (512 * s + v) ∙ sym h.0
      | inr h ↦ eq_false (512 * s + v) (512 * s + w) (λ e. h.1 (omega (arith, e))) ∙ sym h.0
    ]
same_placed_cell s (Effect v) (Effect w) = shifted v w
  where
    shifted : (v w : ℕ) → (512 * s + v == 512 * s + w) ≡ (v == w)
    shifted v w = elim (eqb_tells v w) [
      | inl h ↦ ap (λ n. 512 * s + v == 512 * s + n) (sym h.1) ∙ eq_true (512 * s + v) ∙ sym h.0
      | inr h ↦ eq_false (512 * s + v) (512 * s + w) (λ e. h.1 (omega (arith, e))) ∙ sym h.0
    ]
same_placed_cell s (Correction v) (Effect w) = refl
same_placed_cell s (Effect v) (Correction w) = refl

pub has_same : (s : ℕ) (y : Cell) (cs : List Cell) → has_cell (placed s y) (map (placed s) cs) ≡ has_cell y cs
has_same s y [] = refl
has_same s y (c ∷ cs) = λ i. same_placed_cell s y c i || has_same s y cs i

-- cells below 512
abbrev pub AreLow : List Cell → Type 0
AreLow cs = (y : Cell) → has_cell y cs ≡ true → node_at y < 512

pub has_other : (s r : ℕ) → r ≢ s → (y : Cell) → node_at y < 512 → (cs : List Cell) → AreLow cs → has_cell (placed r y) (map (placed s) cs) ≡ false
has_other s r ne y low cs h = by_case (has_cell (placed r y) (map (placed s) cs)) refl
  where
    by_case : (b : Bool) → has_cell (placed r y) (map (placed s) cs) ≡ b → b ≡ false
    by_case true e =
        let z = placed_in s (placed r y) cs e in
        absurd (ne (placed_same r s y z.0 low (h z.0 z.2) z.1).0)
    by_case false e = refl

pub same_at_placed : (f g : Cell → List Mark) (s : ℕ) (cs : List Cell) → same_at f g (map (placed s) cs) ≡ same_at (λ y. f (placed s y)) (λ y. g (placed s y)) cs
same_at_placed f g s [] = refl
same_at_placed f g s (c ∷ cs) = ap (λ b. same_marks (f (placed s c)) (g (placed s c)) && b) (same_at_placed f g s cs)

pub same_at_alike : (f g h k : Cell → List Mark) (cs : List Cell) → ((y : Cell) → has_cell y cs ≡ true → f y ≡ h y) → ((y : Cell) → has_cell y cs ≡ true → g y ≡ k y) → same_at f g cs ≡ same_at h k cs
same_at_alike f g h k [] p q = refl
same_at_alike f g h k (c ∷ cs) p q =
    let a : f c ≡ h c = p c (first_has c cs) in
    let b : g c ≡ k c = q c (first_has c cs) in
    let rest : same_at f g cs ≡ same_at h k cs = same_at_alike f g h k cs (λ y e. p y (later_has y c cs e)) (λ y e. q y (later_has y c cs e)) in
    λ i. same_marks (a i) (b i) && rest i

pub read_alike : (f g : Cell → List Mark) (cs : List Cell) → ((y : Cell) → has_cell y cs ≡ true → f y ≡ g y) → read f cs ≡ read g cs
read_alike f g [] p = refl
read_alike f g (c ∷ cs) p =
    let a : f c ≡ g c = p c (first_has c cs) in
    let rest : read f cs ≡ read g cs = read_alike f g cs (λ y e. p y (later_has y c cs e)) in
    λ i. a i ∷ rest i
