-- Batches whose programs each ran on the effects of all programs before it, in all batches, ran one after another.
use Rattle.std.proofs.Common.{◌≡◌, ℕ, zero, suc, ◌<◌, ◌≤◌, List, [], ◌∷◌, ◌++◌, length, take, get_or, refl, sym, ap, subst, ◌∙◌, arith}
use Rattle.std.proofs.Math.Seq.{take-suc}
use Rattle.std.specs.List.{AllByRecursion}
use Rattle.lt_face.specs.State.{State}
use Rattle.lt_face.proofs.RowLemmas.{each_at, each_weaker}
use Rattle.lt_model.specs.declared.normal.Stmt.{Stmt}
use Rattle.lt_model.specs.declared.reply.Reply.{Reply}
use Rattle.lt_model.specs.Fits.{Fits, IsMarkOf, FitMarks}
use Rattle.lt_model.specs.Marks.{Marks, AreMarks, laid}
use Rattle.lt_model.specs.Run.{run}
use Rattle.lt_model.specs.State.{IsState}
use Rattle.lt_model.proofs.Composition.{laid_twice}
use Rattle.lt_delta.proofs.Composes.{each_after}
use Rattle.lt_delta.proofs.Kept.{IsState-laid}
use Rattle.lt_net.specs.Net.{State as NetState, Effect}
use Rattle.lt_net.specs.Line.{before_segment, part, placed, size_in, IsSerialBelow}
use Rattle.lt_net.specs.Tree.{leaf_value, then_all}
use Rattle.lt_workers.specs.Given.{roots}
use Rattle.lt_batch.specs.Batch.{serial_effects, serial_state, program_at, run_at, does_at, first_of}
use Rattle.lt_batch.specs.Line.{batch_at, line_does, line_effects, line_marks, line_states, state_before, states_by, whole_effect}
use Rattle.lt_batch.specs.Work.{AreLineRunnable, AreRunnable, IsSnapshot}
use Rattle.lt_batch.proofs.FittingRuns.{rises, run_fits_snapshot}
use Rattle.lt_batch.proofs.Gone.{effects_long}
use Rattle.lt_batch.proofs.InOrder.{each_leaf, leaves_from, ran_all, ran_leaves, then_all_ascends, RanFirst}
use Rattle.lt_batch.proofs.Leaves.{fits_laid}
use Rattle.lt_batch.proofs.LineLists.{batch_small, does_in, each_batch, effects_at, marks_at, marks_long, state_more, then_all_same}
use Rattle.lt_batch.proofs.Widths.{widths-laid}

-- ---- states with marks laid on them

-- what effects do on top of a start, they do to the state with the start laid on it
pub laid_from : (s : State) (start : Marks) (effects : ℕ → Marks) (i : ℕ) → IsState s → FitMarks s start → AreMarks start
    → laid s (then_all effects start i) ≡ laid (laid s start) (then_all effects [] i)
laid_from s start effects zero is fit are = refl
laid_from s start effects (suc i) is fit are =
    sym (laid_twice s (then_all effects start i) (effects i) (rises s is) (then_all_ascends effects start i are))
    ∙ ap (λ t. laid t (effects i)) (laid_from s start effects i is fit are)
    ∙ laid_twice (laid s start) (then_all effects [] i) (effects i) (rises (laid s start) (IsState-laid s start is fit)) (then_all_ascends effects [] i tt)

snapshot_laid : (s : State) (marks : Marks) → IsSnapshot s → FitMarks s marks → IsSnapshot (laid s marks)
snapshot_laid s marks is fit = record {
  is_state = IsState-laid s marks is.is_state fit;
  narrow = widths-laid (λ w. w ≤ 8) s marks is.narrow;
}

pub runnable_laid : (s : State) (marks : Marks) (programs : List (List Stmt)) → IsSnapshot s → FitMarks s marks → AllByRecursion (Fits s) programs → AreRunnable (laid s marks) programs
runnable_laid s marks programs is fit fits = record {
  snapshot = snapshot_laid s marks is fit;
  fit = each_weaker (Fits s) (Fits (laid s marks)) (λ program. fits_laid s program marks) programs fits;
}

-- ---- what a batch wrote in all leads to the state that it left

effect_at : (programs : List (List Stmt)) (s : State) (i : ℕ) → i < length programs → get_or (serial_effects programs s) i [] ≡ (run (program_at programs i) (first_of programs i s).1).1
effect_at [] s i below = absurd (omega arith)
effect_at (program ∷ programs) s zero below = refl
effect_at (program ∷ programs) s (suc i) below = effect_at programs (laid s (run program s).1) i (omega arith)

pub whole_leads : (programs : List (List Stmt)) (s : State) → AreRunnable s programs
    → (serial_state programs s ≡ laid s (whole_effect (serial_effects programs s))) × FitMarks s (whole_effect (serial_effects programs s))
whole_leads programs s can =
    let leaves : ℕ → Marks = λ i. get_or (serial_effects programs s) i [] in
    let n = length (serial_effects programs s) in
    let long = effects_long programs s in
    let few : n ≤ length programs = omega (arith, long) in
    let ran = ran_leaves programs s can leaves n few (λ i below state. effect_at programs s i (omega (arith, below, few)) ∙ ap (λ t. (run (program_at programs i) t).1) state) in
    ((ran_all programs s leaves n ran.0 ran.1 long ran.2).state, ran.2.whole_fits)

pub marks_lead : (batches : List (List (List Stmt))) (s : State) → IsSnapshot s → AllByRecursion (AllByRecursion (Fits s)) batches → states_by s (line_marks batches s) ≡ line_states batches s
marks_lead [] s is fits = refl
marks_lead (batch ∷ batches) s is fits =
    let lead = whole_leads batch s (record { snapshot = is; fit = fits.0 }) in
    let whole = whole_effect (serial_effects batch s) in
    let later : states_by (laid s whole) (line_marks batches (laid s whole)) ≡ line_states batches (laid s whole) =
    marks_lead batches (laid s whole) (snapshot_laid s whole is lead.1)
    (each_weaker (AllByRecursion (Fits s)) (AllByRecursion (Fits (laid s whole))) (λ programs. each_weaker (Fits s) (Fits (laid s whole)) (λ program. fits_laid s program whole) programs) batches fits.1) in
    ap (λ t. laid s whole ∷ states_by (laid s whole) (line_marks batches t)) lead.0
    ∙ ap (λ states. laid s whole ∷ states) later
    ∙ ap (λ t. t ∷ line_states batches t) (sym lead.0)

-- these effects lead to the state before batch s
pub record IsBefore (batches : List (List (List Stmt))) (snapshot : State) (s : ℕ) (effects : Marks) : Type 0 where
  pub fits : FitMarks snapshot effects
  pub ascend : AreMarks effects
  pub state : state_before batches snapshot s ≡ laid snapshot effects

-- ---- the segments of a line below f, each of whose leaves did what it does on the effects of all before it

module _ (batches : List (List (List Stmt))) (snapshot : State) (can : AreLineRunnable snapshot batches) (few : AllByRecursion (λ (programs : List (List Stmt)). length programs ≤ 256) batches)
    (sizes : List ℕ) (same : (s : ℕ) → size_in sizes s ≡ length (batch_at batches s)) (st : NetState) (f : ℕ) (short : f ≤ length batches)
    (serial : IsSerialBelow (line_does batches snapshot) sizes f st) where
  -- the effects of all leaves before segment s, and those of its own leaves
  abbrev pub before : ℕ → Marks
  before s = before_segment sizes st s

  abbrev pub leaves : ℕ → ℕ → Marks
  leaves s i = leaf_value (size_in sizes s) (part s st) i

  fit_at : (s : ℕ) → AllByRecursion (Fits snapshot) (batch_at batches s)
  fit_at s = each_batch (AllByRecursion (Fits snapshot)) batches s can.fit tt

  small : (s i : ℕ) → i < size_in sizes s → i < 256
  small s i below = batch_small batches s i few (subst (λ n. i < n) (same s) below)

  pub can_before : (s : ℕ) → IsBefore batches snapshot s (before s) → AreRunnable (laid snapshot (before s)) (batch_at batches s)
  can_before s h = runnable_laid snapshot (before s) (batch_at batches s) can.snapshot h.fits (fit_at s)

  -- each leaf did what its program does on the snapshot with all effects before laid on it
  did : (s i : ℕ) → s < f → i < size_in sizes s → leaves s i ≡ does_at (batch_at batches s) snapshot i (then_all (leaves s) (before s) i)
  did s i below inside = (serial s below).did i inside ∙ does_in batches snapshot s i (then_all (leaves s) (before s) i) (small s i inside)

  -- what the program does there, it does on the state before its batch with the effects of its own batch laid on it
  pub run_in : (s i : ℕ) → IsBefore batches snapshot s (before s) → run_at (batch_at batches s) snapshot i (then_all (leaves s) (before s) i) ≡ run_at (batch_at batches s) (laid snapshot (before s)) i (then_all (leaves s) [] i)
  run_in s i h = ap (run (program_at (batch_at batches s) i)) (laid_from snapshot (before s) (leaves s) i can.snapshot.is_state h.fits h.ascend)

  pub did_in : (s i : ℕ) → s < f → i < size_in sizes s → IsBefore batches snapshot s (before s) → leaves s i ≡ does_at (batch_at batches s) (laid snapshot (before s)) i (then_all (leaves s) [] i)
  did_in s i below inside h = did s i below inside ∙ ap (λ (out : Reply × Marks). out.1) (run_in s i h)

  ran_in : (s : ℕ) → s < f → IsBefore batches snapshot s (before s) → (replies : List Reply) × (effects : List Marks) × RanFirst (batch_at batches s) (laid snapshot (before s)) (leaves s) (size_in sizes s) replies effects
  ran_in s below h =
      let is = same s in
      ran_leaves (batch_at batches s) (laid snapshot (before s)) (can_before s h) (leaves s) (size_in sizes s) (omega (arith, is)) (λ i inside state. did_in s i below inside h)

  fits_in : (s : ℕ) → s < f → IsBefore batches snapshot s (before s) → (i : ℕ) → i ≤ size_in sizes s → FitMarks snapshot (then_all (leaves s) (before s) i)
  fits_in s below h zero inside = h.fits
  fits_in s below h (suc i) inside =
      let here = fits_in s below h i (omega arith) in
      let is = same s in
      let there : i < length (batch_at batches s) = omega (arith, is, inside) in
      let on_snapshot : AreRunnable snapshot (batch_at batches s) = record { snapshot = can.snapshot; fit = fit_at s } in
      let good = run_fits_snapshot snapshot (program_at (batch_at batches s) i) (then_all (leaves s) (before s) i) on_snapshot (each_at (Fits snapshot) (batch_at batches s) i [] (fit_at s) there) here in
      each_after (IsMarkOf snapshot) (then_all (leaves s) (before s) i) (leaves s i) here (subst (FitMarks snapshot) (sym (did s i below (omega arith))) good.0)

  -- what segment s did leads on from the state before batch s to that before the next
  pub leads : (s : ℕ) → s < f → IsBefore batches snapshot s (before s) → serial_state (batch_at batches s) (state_before batches snapshot s) ≡ laid (state_before batches snapshot s) (then_all (leaves s) [] (size_in sizes s))
  leads s below h =
      let ran = ran_in s below h in
      let all = ran_all (batch_at batches s) (laid snapshot (before s)) (leaves s) (size_in sizes s) ran.0 ran.1 (same s) ran.2 in
      ap (serial_state (batch_at batches s)) h.state ∙ all.state ∙ ap (λ t. laid t (then_all (leaves s) [] (size_in sizes s))) (sym h.state)

  pub is_before : (s : ℕ) → s ≤ f → IsBefore batches snapshot s (before s)
  is_before zero below = record { fits = tt; ascend = tt; state = refl }
  is_before (suc s) below =
      let h = is_before s (omega arith) in
      record {
        fits = fits_in s (omega arith) h (size_in sizes s) (omega arith);
        ascend = then_all_ascends (leaves s) (before s) (size_in sizes s) h.ascend;
        state =
            state_more batches snapshot s (omega (arith, short))
            ∙ leads s (omega arith) h
            ∙ ap (λ t. laid t (then_all (leaves s) [] (size_in sizes s))) h.state
            ∙ sym (laid_from snapshot (before s) (leaves s) (size_in sizes s) can.snapshot.is_state h.fits h.ascend);
      }

  -- ---- what the leaves of a segment wrote

  effects_are : (s : ℕ) → s < f → serial_effects (batch_at batches s) (state_before batches snapshot s) ≡ leaves_from (leaves s) 0 (size_in sizes s)
  effects_are s below =
      let h = is_before s (omega arith) in
      let ran = ran_in s below h in
      let all = ran_all (batch_at batches s) (laid snapshot (before s)) (leaves s) (size_in sizes s) ran.0 ran.1 (same s) ran.2 in
      ap (serial_effects (batch_at batches s)) h.state ∙ sym all.are_effects ∙ ran.2.are_leaves

  -- is what its program wrote
  pub leaf_is : (s i : ℕ) → s < f → i < size_in sizes s → leaves s i ≡ get_or (get_or (line_effects batches snapshot) s []) i []
  leaf_is s i below inside =
      each_leaf (leaves s) (size_in sizes s) (serial_effects (batch_at batches s) (state_before batches snapshot s)) (effects_are s below) i inside
      ∙ ap (λ es. get_or es i []) (sym (effects_at batches snapshot s (omega (arith, below, short))))

  -- and all of it what the batch wrote
  root_is : (s : ℕ) → s < f → then_all (leaves s) [] (size_in sizes s) ≡ get_or (line_marks batches snapshot) s []
  root_is s below =
      let effects = serial_effects (batch_at batches s) (state_before batches snapshot s) in
      let long : length effects ≡ size_in sizes s = effects_long (batch_at batches s) (state_before batches snapshot s) ∙ sym (same s) in
      then_all_same (leaves s) (λ i. get_or effects i []) [] (size_in sizes s) (each_leaf (leaves s) (size_in sizes s) effects (effects_are s below))
      ∙ ap (then_all (λ i. get_or effects i []) []) (sym long)
      ∙ sym (marks_at batches snapshot s (omega (arith, below, short)))

  -- so the roots' effects are what the batches wrote
  pub roots_are : (k : ℕ) → k ≤ f → roots st k ≡ take k (line_marks batches snapshot)
  roots_are zero below = refl
  roots_are (suc k) below =
      let long = marks_long batches snapshot in
      ap (λ ms. ms ++ st.value (placed k (Effect 0)) ∷ []) (roots_are k (omega arith))
      ∙ ap (λ m. take k (line_marks batches snapshot) ++ m ∷ []) ((serial k (omega arith)).whole ∙ root_is k (omega arith))
      ∙ sym (take-suc (line_marks batches snapshot) k [] (omega (arith, below, short, long)))
