-- The programs of batches are leaves of their work.
use Rattle.std.proofs.Common.{◌≡◌, ℕ, ◌+◌, ◌*◌, ◌<◌, ◌≤◌, List, [], ◌∷◌, length, sym, ap, subst, ◌∙◌}
use mathlib.Core.Path.{fun_ext}
use Rattle.std.specs.Prelude.{◌/◌, ◌%◌}
use Rattle.std.specs.List.{AllByRecursion}
use Rattle.lt_face.specs.State.{State}
use Rattle.lt_face.proofs.RowLemmas.{each_at}
use Rattle.lt_model.specs.declared.normal.Stmt.{Stmt}
use Rattle.lt_model.specs.declared.reply.Reply.{Reply}
use Rattle.lt_model.specs.Fits.{Fits}
use Rattle.lt_model.specs.Marks.{Marks, laid}
use Rattle.lt_model.specs.Run.{run}
use Rattle.lt_base.specs.Tables.{Table, state_of}
use Rattle.lt_batch.specs.Batch.{program_at, does_at, run_at}
use Rattle.lt_batch.specs.Line.{batch_at}
use Rattle.lt_batch.specs.Work.{AreRunnable, BatchView, IsLeaf, IsSnapshot, batch_does, leaf_program, leaf_run}
use Rattle.lt_program.proofs.FittingRuns.{run_ascends}
use Rattle.lt_batch.proofs.FittingRuns.{run_fits_snapshot}
use Rattle.lt_batch.proofs.LineLists.{each_batch, program_alone, program_in, segment_of, within_of}
use Rattle.lt_batch.proofs.Widths.{as_wide-laid, program_fits}

-- a program that fits a state fits it with marks laid on it
pub fits_laid : (s : State) (program : List Stmt) (marks : Marks) → Fits s program → Fits (laid s marks) program
fits_laid s program marks fits = program_fits s (laid s marks) (λ r. sym (as_wide-laid s marks r)) program fits

-- leaf 256 * s + i of a work of these batches on this state
pub is_leaf : (work : BatchView) (state : State) (batches : List (List (List Stmt))) (s i : ℕ) → state_of work.snapshot ≡ state → work.batches ≡ batches → IsSnapshot state
    → AllByRecursion (AllByRecursion (Fits state)) batches → i < 256 → i < length (batch_at batches s) → IsLeaf work (256 * s + i)
is_leaf work state batches s i on are is fits small below =
    let fit : Fits state (program_at (batch_at batches s) i) = each_at (Fits state) (batch_at batches s) i [] (each_batch (AllByRecursion (Fits state)) batches s fits tt) below in
    let own : leaf_program work (256 * s + i) ≡ program_at (batch_at batches s) i =
    ap (λ (bs : List (List (List Stmt))). program_at (batch_at bs ((256 * s + i) / 256)) ((256 * s + i) % 256)) are ∙ program_in batches s i small in
    let fits_here : Fits (state_of work.snapshot) (leaf_program work (256 * s + i)) = subst (λ t. Fits t (leaf_program work (256 * s + i))) (sym on) (subst (Fits state) (sym own) fit) in
    let none : AreRunnable (state_of work.snapshot) [] = record { snapshot = subst IsSnapshot (sym on) is; fit = tt } in
    record {
      below =
          subst (λ (bs : List (List (List Stmt))). (256 * s + i) % 256 < length (batch_at bs ((256 * s + i) / 256))) (sym are)
          (subst (λ k. (256 * s + i) % 256 < length (batch_at batches k)) (sym (segment_of s i small))
          (subst (λ k. k < length (batch_at batches s)) (sym (within_of s i small)) below));
      fit = λ c fitting. (
        (run_fits_snapshot (state_of work.snapshot) (leaf_program work (256 * s + i)) c none fits_here fitting.0).0,
        run_ascends (leaf_program work (256 * s + i)) (laid (state_of work.snapshot) c),
      );
    }

-- a leaf doesn't hang on what was run before
pub same_leaf : (v w : BatchView) (leaf : ℕ) → v.batches ≡ w.batches → v.snapshot ≡ w.snapshot → IsLeaf w leaf → IsLeaf v leaf
same_leaf v w leaf batches snapshot h =
    subst (λ (s : List Table). IsLeaf (record { snapshot = s; programs = v.programs; batches = v.batches; early = v.early }) leaf) (sym snapshot)
    (subst (λ (bs : List (List (List Stmt))). IsLeaf (record { snapshot = w.snapshot; programs = v.programs; batches = bs; early = v.early }) leaf) (sym batches)
    (record { below = h.below; fit = h.fit }))

-- ---- the work of a batch alone

-- each leaf runs the program of its number
pub runs_alone : (work : BatchView) (s : State) (programs : List (List Stmt)) → state_of work.snapshot ≡ s → work.batches ≡ programs ∷ [] → length programs ≤ 256
    → (i : ℕ) (c : Marks) → leaf_run work i c ≡ run_at programs s i c
runs_alone work s programs on are few i c =
    ap (λ (bs : List (List (List Stmt))). run (program_at (batch_at bs (i / 256)) (i % 256)) (laid (state_of work.snapshot) c)) are
    ∙ ap (λ t. run (program_at (batch_at (programs ∷ []) (i / 256)) (i % 256)) (laid t c)) on
    ∙ ap (λ p. run p (laid s c)) (program_alone programs i few)

pub does_alone : (work : BatchView) (s : State) (programs : List (List Stmt)) → state_of work.snapshot ≡ s → work.batches ≡ programs ∷ [] → length programs ≤ 256 → batch_does work ≡ does_at programs s
does_alone work s programs on are few = fun_ext (λ i. fun_ext (λ c. ap (λ (out : Reply × Marks). out.1) (runs_alone work s programs on are few i c)))
