-- Programs that each ran on the effects of those before it ran one after another.
use Rattle.std.proofs.Common.{◌≡◌, ℕ, zero, suc, ◌+◌, ◌<◌, ◌≤◌, List, [], ◌∷◌, ◌++◌, length, map, take, get_or, refl, sym, ap, subst, ◌∙◌, arith}
use Rattle.std.proofs.Math.Seq.{take-suc}
use Rattle.std.specs.List.{AllByRecursion}
use Rattle.lt_face.specs.State.{State}
use Rattle.lt_face.proofs.RowLemmas.{each_at}
use Rattle.lt_model.specs.declared.normal.Stmt.{Stmt}
use Rattle.lt_model.specs.declared.reply.Reply.{Reply}
use Rattle.lt_model.specs.Fits.{Fits, IsMarkOf, FitMarks}
use Rattle.lt_model.specs.Marks.{Marks, AreMarks, laid}
use Rattle.lt_model.specs.Run.{run}
use Rattle.lt_model.specs.Serial.{serial}
use Rattle.lt_model.proofs.Laws.{serial_joins}
use Rattle.lt_model.proofs.Composition.{AreMarks-and_then, laid_twice}
use Rattle.lt_delta.proofs.Composes.{each_after}
use Rattle.lt_net.specs.Tree.{then_all}
use Rattle.lt_program.specs.Run.{AreReplied}
use Rattle.lt_program.proofs.FittingRuns.{IsGoodEnd}
use Rattle.lt_batch.specs.Batch.{serial_replies, serial_effects, serial_state, program_at, run_at, does_at, first_of}
use Rattle.lt_batch.specs.Work.{AreRunnable}
use Rattle.lt_batch.proofs.FittingRuns.{rises, run_fits_snapshot}

-- one program more
one_more : (programs : List (List Stmt)) (i : ℕ) (s : State) → i < length programs → first_of programs (suc i) s ≡ ((first_of programs i s).0 ++ run (program_at programs i) (first_of programs i s).1 ∷ [], laid (first_of programs i s).1 (run (program_at programs i) (first_of programs i s).1).1)
one_more programs i s h =
    ap (λ ps. serial ps s) (take-suc programs i [] h) ∙ serial_joins (take i programs) (program_at programs i ∷ []) s

-- effects one after another ascend, where those at the start do
pub then_all_ascends : (effects : ℕ → Marks) (start : Marks) (i : ℕ) → AreMarks start → AreMarks (then_all effects start i)
then_all_ascends effects start zero h = h
then_all_ascends effects start (suc i) h = AreMarks-and_then (then_all effects start i) (effects i) (then_all_ascends effects start i h)

-- the effects of so many leaves from number k on
abbrev pub leaves_from : (ℕ → Marks) → (k count : ℕ) → List Marks
leaves_from leaves k zero = []
leaves_from leaves k (suc count) = leaves k ∷ leaves_from leaves (suc k) count

-- one leaf more
leaves_more : (leaves : ℕ → Marks) (k count next : ℕ) → next ≡ k + count → leaves_from leaves k count ++ leaves next ∷ [] ≡ leaves_from leaves k (suc count)
leaves_more leaves k zero next is =
    let here : next ≡ k = omega (arith, is) in
    ap (λ i. leaves i ∷ []) here
leaves_more leaves k (suc count) next is =
    let later : next ≡ suc k + count = omega (arith, is) in
    ap (λ effects. leaves k ∷ effects) (leaves_more leaves (suc k) count next later)

leaf_at : (leaves : ℕ → Marks) (k count j : ℕ) → j < count → get_or (leaves_from leaves k count) j [] ≡ leaves (k + j)
leaf_at leaves k zero j below = absurd (omega arith)
leaf_at leaves k (suc count) zero below =
    let here : k ≡ k + 0 = omega arith in
    ap leaves here
leaf_at leaves k (suc count) (suc j) below =
    let here : suc k + j ≡ k + suc j = omega arith in
    leaf_at leaves (suc k) count j (omega arith) ∙ ap leaves here

-- each of the first leaves has the effect with its number
pub each_leaf : (leaves : ℕ → Marks) (count : ℕ) (effects : List Marks) → effects ≡ leaves_from leaves 0 count → (j : ℕ) → j < count → leaves j ≡ get_or effects j []
each_leaf leaves count effects are j below =
    let here : 0 + j ≡ j = omega arith in
    sym (ap (λ es. get_or es j []) are ∙ leaf_at leaves 0 count j below ∙ ap leaves here)

-- These are the replies and effects of the first i programs one after another. They left the snapshot with the effects of the first i leaves laid on it.
pub record RanFirst (programs : List (List Stmt)) (s : State) (leaves : ℕ → Marks) (i : ℕ) (replies : List Reply) (effects : List Marks) : Type 0 where
  pub state : (first_of programs i s).1 ≡ laid s (then_all leaves [] i)
  pub are_replies : replies ≡ map (λ done. done.0) (first_of programs i s).0
  pub are_effects : effects ≡ map (λ done. done.1) (first_of programs i s).0
  pub are_leaves : effects ≡ leaves_from leaves 0 i
  pub whole_fits : FitMarks s (then_all leaves [] i)
  pub fit : AllByRecursion (FitMarks s) effects
  pub printed : AllByRecursion AreReplied replies

pub ran_none : (programs : List (List Stmt)) (s : State) (leaves : ℕ → Marks) → RanFirst programs s leaves 0 [] []
ran_none programs s leaves = record { state = refl; are_replies = refl; are_effects = refl; are_leaves = refl; whole_fits = tt; fit = tt; printed = tt }

end_of : {X Y : Type 0} (f : X → Y) (xs : List X) (x : X) → map f (xs ++ x ∷ []) ≡ map f xs ++ f x ∷ []
end_of f [] x = refl
end_of f (y ∷ xs) x = ap (λ ys. f y ∷ ys) (end_of f xs x)

-- one more at the end
pub each_end : {X : Type 0} (P : X → Type 0) (xs : List X) (x : X) → AllByRecursion P xs → P x → AllByRecursion P (xs ++ x ∷ [])
each_end P [] x all h = (h, tt)
each_end P (y ∷ xs) x all h = (all.0, each_end P xs x all.1 h)

module _ (programs : List (List Stmt)) (s : State) (can : AreRunnable s programs) (leaves : ℕ → Marks) where
  -- one leaf more, which did what its program does on the snapshot with the effects before it laid on it
  pub ran_more : (i : ℕ) (replies : List Reply) (effects : List Marks) (reply : Reply) (effect : Marks) → i < length programs → RanFirst programs s leaves i replies effects
      → leaves i ≡ does_at programs s i (then_all leaves [] i) → reply ≡ (run_at programs s i (then_all leaves [] i)).0 → effect ≡ leaves i
      → RanFirst programs s leaves (suc i) (replies ++ reply ∷ []) (effects ++ effect ∷ [])
  ran_more i replies effects reply effect below ran did replied same =
      let before = then_all leaves [] i in
      let done = run_at programs s i before in
      let good : IsGoodEnd s done = run_fits_snapshot s (program_at programs i) before can (each_at (Fits s) programs i [] can.fit below) ran.whole_fits in
      let here : run (program_at programs i) (first_of programs i s).1 ≡ done = ap (run (program_at programs i)) ran.state in
      let more = one_more programs i s below in
      let fits : FitMarks s (leaves i) = subst (FitMarks s) (sym did) good.0 in
      let list : (first_of programs (suc i) s).0 ≡ (first_of programs i s).0 ++ done ∷ [] = ap (λ out. out.0) more ∙ ap (λ d. (first_of programs i s).0 ++ d ∷ []) here in
      record {
        state =
            ap (λ out. out.1) more
            ∙ ap (λ now. laid now (run (program_at programs i) now).1) ran.state
            ∙ ap (laid (laid s before)) (sym did)
            ∙ laid_twice s before (leaves i) (rises s can.snapshot.is_state) (then_all_ascends leaves [] i tt);
        are_replies =
            ap (λ r. replies ++ r ∷ []) replied
            ∙ ap (λ rs. rs ++ done.0 ∷ []) ran.are_replies
            ∙ sym (end_of (λ d. d.0) (first_of programs i s).0 done)
            ∙ ap (map (λ d. d.0)) (sym list);
        are_effects =
            ap (λ m. effects ++ m ∷ []) (same ∙ did)
            ∙ ap (λ ms. ms ++ done.1 ∷ []) ran.are_effects
            ∙ sym (end_of (λ d. d.1) (first_of programs i s).0 done)
            ∙ ap (map (λ d. d.1)) (sym list);
        are_leaves =
            ap (λ m. effects ++ m ∷ []) same
            ∙ ap (λ ms. ms ++ leaves i ∷ []) ran.are_leaves
            ∙ leaves_more leaves 0 i i (omega arith);
        whole_fits = each_after (IsMarkOf s) before (leaves i) ran.whole_fits fits;
        fit = each_end (FitMarks s) effects effect ran.fit (subst (FitMarks s) (sym same) fits);
        printed = each_end AreReplied replies reply ran.printed (subst AreReplied (sym replied) good.1);
      }

  -- All of the first leaves, where each did what its program does on the snapshot with the effects before it laid on it. What is known
  -- of the programs before it helps.
  pub ran_leaves : (n : ℕ) → n ≤ length programs
      → ((i : ℕ) → i < n → (first_of programs i s).1 ≡ laid s (then_all leaves [] i) → leaves i ≡ does_at programs s i (then_all leaves [] i))
      → (replies : List Reply) × (effects : List Marks) × RanFirst programs s leaves n replies effects
  ran_leaves zero few did = ([], [], ran_none programs s leaves)
  ran_leaves (suc i) few did =
      let ran = ran_leaves i (omega arith) (λ j below. did j (omega arith)) in (
        ran.0 ++ (run_at programs s i (then_all leaves [] i)).0 ∷ [],
        ran.1 ++ leaves i ∷ [],
        ran_more i ran.0 ran.1 (run_at programs s i (then_all leaves [] i)).0 (leaves i) (omega arith) ran.2 (did i (omega arith) ran.2.state) refl refl,
      )

-- all of them
taken_all : {X : Type 0} (xs : List X) → take (length xs) xs ≡ xs
taken_all [] = refl
taken_all (x ∷ xs) = ap (λ ys. x ∷ ys) (taken_all xs)

pub record RanAll (programs : List (List Stmt)) (s : State) (whole : Marks) (replies : List Reply) (effects : List Marks) : Type 0 where
  pub state : serial_state programs s ≡ laid s whole
  pub are_replies : replies ≡ serial_replies programs s
  pub are_effects : effects ≡ serial_effects programs s

pub ran_all : (programs : List (List Stmt)) (s : State) (leaves : ℕ → Marks) (n : ℕ) (replies : List Reply) (effects : List Marks) → n ≡ length programs → RanFirst programs s leaves n replies effects → RanAll programs s (then_all leaves [] n) replies effects
ran_all programs s leaves n replies effects e ran =
    let all : take n programs ≡ programs = ap (λ k. take k programs) e ∙ taken_all programs in
    record {
      state = ap (λ ps. (serial ps s).1) (sym all) ∙ ran.state;
      are_replies = ran.are_replies ∙ ap (λ ps. serial_replies ps s) all;
      are_effects = ran.are_effects ∙ ap (λ ps. serial_effects ps s) all;
    }
