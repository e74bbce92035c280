-- Batches one after another, by their numbers.
use Rattle.std.proofs.Common.{◌≡◌, ℕ, zero, suc, ◌+◌, ◌*◌, ◌<◌, ◌≤◌, List, [], ◌∷◌, ◌++◌, length, map, take, get_or, refl, sym, ap, subst, ◌∙◌, inl, inr, arith}
use Rattle.std.specs.Prelude.{◌/◌, ◌%◌, ◌-◌}
use Rattle.std.proofs.lemmas.Bool.{cases_lt}
use Rattle.std.proofs.Math.ListN.{get_or-eq_default}
use Rattle.std.specs.List.{AllByRecursion}
use Rattle.lt_face.specs.State.{State}
use Rattle.lt_model.specs.declared.normal.Stmt.{Stmt}
use Rattle.lt_model.specs.Marks.{Marks, and_then, laid}
use Rattle.lt_model.specs.Run.{run}
use Rattle.lt_net.specs.Line.{size_in, AreSizes}
use Rattle.lt_net.specs.Tree.{then_all}
use Rattle.lt_batch.specs.Batch.{serial_replies, serial_effects, serial_state, does_at, program_at}
use Rattle.lt_batch.specs.Line.{batch_at, line_does, line_effects, line_marks, line_replies, state_before, whole_effect}

-- ---- one batch more

pub replies_more : (batches : List (List (List Stmt))) (s : State) (k : ℕ) → k < length batches
    → line_replies (take (suc k) batches) s ≡ line_replies (take k batches) s ++ serial_replies (batch_at batches k) (state_before batches s k) ∷ []
replies_more [] s k below = absurd (omega arith)
replies_more (batch ∷ batches) s zero below = refl
replies_more (batch ∷ batches) s (suc k) below = ap (λ rs. serial_replies batch s ∷ rs) (replies_more batches (serial_state batch s) k (omega arith))

pub effects_more : (batches : List (List (List Stmt))) (s : State) (k : ℕ) → k < length batches
    → line_effects (take (suc k) batches) s ≡ line_effects (take k batches) s ++ serial_effects (batch_at batches k) (state_before batches s k) ∷ []
effects_more [] s k below = absurd (omega arith)
effects_more (batch ∷ batches) s zero below = refl
effects_more (batch ∷ batches) s (suc k) below = ap (λ es. serial_effects batch s ∷ es) (effects_more batches (serial_state batch s) k (omega arith))

pub state_more : (batches : List (List (List Stmt))) (s : State) (k : ℕ) → k < length batches
    → state_before batches s (suc k) ≡ serial_state (batch_at batches k) (state_before batches s k)
state_more [] s k below = absurd (omega arith)
state_more (batch ∷ batches) s zero below = refl
state_more (batch ∷ batches) s (suc k) below = state_more batches (serial_state batch s) k (omega arith)

-- ---- what stands at a number

pub effects_at : (batches : List (List (List Stmt))) (s : State) (k : ℕ) → k < length batches
    → get_or (line_effects batches s) k [] ≡ serial_effects (batch_at batches k) (state_before batches s k)
effects_at [] s k below = absurd (omega arith)
effects_at (batch ∷ batches) s zero below = refl
effects_at (batch ∷ batches) s (suc k) below = effects_at batches (serial_state batch s) k (omega arith)

pub marks_at : (batches : List (List (List Stmt))) (s : State) (k : ℕ) → k < length batches
    → get_or (line_marks batches s) k [] ≡ whole_effect (serial_effects (batch_at batches k) (state_before batches s k))
marks_at [] s k below = absurd (omega arith)
marks_at (batch ∷ batches) s zero below = refl
marks_at (batch ∷ batches) s (suc k) below = marks_at batches (serial_state batch s) k (omega arith)

pub marks_long : (batches : List (List (List Stmt))) (s : State) → length (line_marks batches s) ≡ length batches
marks_long [] s = refl
marks_long (batch ∷ batches) s = ap suc (marks_long batches (serial_state batch s))

pub size_at : (batches : List (List (List Stmt))) (s : ℕ) → size_in (map length batches) s ≡ length (batch_at batches s)
size_at [] s = refl
size_at (batch ∷ batches) zero = refl
size_at (batch ∷ batches) (suc s) = size_at batches s

-- what holds of each batch, and of none, holds of batch s
pub each_batch : (P : List (List Stmt) → Type 0) (batches : List (List (List Stmt))) (s : ℕ) → AllByRecursion P batches → P [] → P (batch_at batches s)
each_batch P [] s all none = none
each_batch P (batch ∷ batches) zero all none = all.0
each_batch P (batch ∷ batches) (suc s) all none = each_batch P batches s all.1 none

-- no batch has more programs than a segment's tree has leaves
pub sizes_few : (batches : List (List (List Stmt))) (leaves : List ℕ) → leaves ≡ map length batches → AllByRecursion (λ (programs : List (List Stmt)). length programs ≤ 256) batches → AreSizes leaves
sizes_few batches leaves are few = record {
  few = λ s.
      let most : length (batch_at batches s) ≤ 256 = each_batch (λ programs. length programs ≤ 256) batches s few (omega arith) in
      let is = ap (λ zs. size_in zs s) are ∙ size_at batches s in
      omega (arith, most, is);
}

-- a program's number in its batch
pub batch_small : (batches : List (List (List Stmt))) (s i : ℕ) → AllByRecursion (λ (programs : List (List Stmt)). length programs ≤ 256) batches → i < length (batch_at batches s) → i < 256
batch_small batches s i few below =
    let most : length (batch_at batches s) ≤ 256 = each_batch (λ programs. length programs ≤ 256) batches s few (omega arith) in
    omega (arith, most, below)

pub taken_batches : (batches : List (List (List Stmt))) → take (length batches) batches ≡ batches
taken_batches [] = refl
taken_batches (batch ∷ batches) = ap (λ bs. batch ∷ bs) (taken_batches batches)

-- ---- leaf 256 * s + i is program i of batch s

pub segment_of : (s i : ℕ) → i < 256 → (256 * s + i) / 256 ≡ s
segment_of s i small = omega (arith, small)

pub within_of : (s i : ℕ) → i < 256 → (256 * s + i) % 256 ≡ i
within_of s i small = omega (arith, small)

pub program_in : (batches : List (List (List Stmt))) (s i : ℕ) → i < 256 → program_at (batch_at batches ((256 * s + i) / 256)) ((256 * s + i) % 256) ≡ program_at (batch_at batches s) i
program_in batches s i small =
    ap (λ k. program_at (batch_at batches k) ((256 * s + i) % 256)) (segment_of s i small)
    ∙ ap (program_at (batch_at batches s)) (within_of s i small)

pub does_in : (batches : List (List (List Stmt))) (snapshot : State) (s i : ℕ) (c : Marks) → i < 256
    → line_does batches snapshot (256 * s + i) c ≡ does_at (batch_at batches s) snapshot i c
does_in batches snapshot s i c small = ap (λ p. (run p (laid snapshot c)).1) (program_in batches s i small)

-- of a batch alone, leaf i is its program i
pub program_alone : (programs : List (List Stmt)) (i : ℕ) → length programs ≤ 256 → program_at (batch_at (programs ∷ []) (i / 256)) (i % 256) ≡ program_at programs i
program_alone programs i few = elim (cases_lt i 256) [
  | inl small ↦
      let first : 256 * 0 + i ≡ i = omega arith in
      subst (λ k. program_at (batch_at (programs ∷ []) (k / 256)) (k % 256) ≡ program_at programs i) first (program_in (programs ∷ []) 0 i small)
  | inr great ↦
      let behind : i / 256 ≡ suc (i / 256 - 1) = omega (arith, great) in
      ap (λ k. program_at (batch_at (programs ∷ []) k) (i % 256)) behind ∙ sym (get_or-eq_default programs [] (omega (arith, great, few)))
]

-- ---- marks one after another

pub then_all_same : (f g : ℕ → Marks) (start : Marks) (n : ℕ) → ((i : ℕ) → i < n → f i ≡ g i) → then_all f start n ≡ then_all g start n
then_all_same f g start zero same = refl
then_all_same f g start (suc n) same =
    ap (λ m. and_then m (f n)) (then_all_same f g start n (λ i below. same i (omega arith)))
    ∙ ap (and_then (then_all g start n)) (same n (omega arith))
