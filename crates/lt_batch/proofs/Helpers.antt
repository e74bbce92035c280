-- What the tally is for that a leaf restates: its prior, or its early run.
use Rattle.std.proofs.Common.{◌≡◌, ℕ, ◌+◌, ◌≤◌, ◌&&◌, Bor, Bool, true, false, List, [], Option, Some, None, sym, ap, ◌∙◌, subst}
use Rattle.std.specs.Prelude.{if◌then◌else◌, IfSome}
use Rattle.std.specs.Option.{option_map}
use Rattle.lt_face.specs.State.{State}
use Rattle.lt_model.specs.declared.normal.Stmt.{Stmt}
use Rattle.lt_model.specs.declared.reply.Reply.{Reply}
use Rattle.lt_model.specs.Marks.{Marks, laid}
use Rattle.lt_model.specs.Run.{run}
use Rattle.lt_base.specs.Tables.{state_of}
use Rattle.lt_program.specs.Tally.{ends_at}
use Rattle.lt_restate.specs.Touches.{cost_again}
use Rattle.lt_batch.specs.declared.leaf.LeafTally.{LeafTally}
use Rattle.lt_batch.specs.Early.{early_at}
use Rattle.lt_batch.specs.LeafRun.{IsRunOn, StandsFor}
use Rattle.lt_batch.specs.Priors.{IsPriorOf, helper, is_unlaid, run_bound, leaf_bound}
use Rattle.lt_batch.specs.Work.{BatchView, FitsBatch, leaf_program, marks_for}
use Rattle.lt_batch.proofs.Runs.{fits_for}

-- ---- what is read of tallies

abbrev pub seen : Option (Bor LeafTally) → Option LeafTally
seen o = option_map (λ (old : Bor LeafTally). old.now) o

told : (P : LeafTally → Type 0) (o : Option (Bor LeafTally)) → IfSome o (λ (old : Bor LeafTally). P old.now) → IfSome (seen o) P
told P None h = tt
told P (Some old) h = h

read : (P : LeafTally → Type 0) (o : Option (Bor LeafTally)) → IfSome (seen o) P → IfSome o (λ (old : Bor LeafTally). P old.now)
read P None h = tt
read P (Some old) h = h

weaker : (P Q : LeafTally → Type 0) (o : Option LeafTally) → ((tally : LeafTally) → P tally → Q tally) → IfSome o P → IfSome o Q
weaker P Q None f h = tt
weaker P Q (Some tally) f h = f tally h

-- ---- no marks

pub no_moves : (old : LeafTally) (program : List Stmt) (snapshot : State) (on : Marks) (b : Bool) → b ≡ (is_unlaid old.on && is_unlaid on) → b ≡ true → run_bound (Some old) program snapshot on ≡ 0
no_moves old program snapshot on b is so = ap (λ (x : Bool). if x then 0 else cost_again old.run (laid snapshot on) (ends_at program (laid snapshot on))) (sym is ∙ so)

pub moves_again : (old : LeafTally) (program : List Stmt) (snapshot : State) (on : Marks) (b : Bool) → b ≡ (is_unlaid old.on && is_unlaid on) → b ≡ false
    → run_bound (Some old) program snapshot on ≡ cost_again old.run (laid snapshot on) (ends_at program (laid snapshot on))
moves_again old program snapshot on b is so = ap (λ (x : Bool). if x then 0 else cost_again old.run (laid snapshot on) (ends_at program (laid snapshot on))) (sym is ∙ so)

-- ---- the helper of a leaf

module _ (early : Option LeafTally) (prior help : Option (Bor LeafTally)) (is : seen help ≡ helper early (seen prior)) where
  -- what is so of a prior and of an early run is so of the helper
  helped : (P : LeafTally → Type 0) → IfSome early P → IfSome prior (λ (old : Bor LeafTally). P old.now) → IfSome help (λ (old : Bor LeafTally). P old.now)
  helped P own old = read P help (subst (λ (o : Option LeafTally). IfSome o P) (sym is) (of prior old))
    where
      of : (p : Option (Bor LeafTally)) → IfSome p (λ (old : Bor LeafTally). P old.now) → IfSome (helper early (seen p)) P
      of None h = own
      of (Some old) h = h

  -- what is so of the helper is so of the prior, and without one of the early run
  pub of_prior : (P : LeafTally → Type 0) → IfSome help (λ (old : Bor LeafTally). P old.now) → IfSome prior (λ (old : Bor LeafTally). P old.now)
  of_prior P h = of prior (subst (λ (o : Option LeafTally). IfSome o P) is (told P help h))
    where
      of : (p : Option (Bor LeafTally)) → IfSome (helper early (seen p)) P → IfSome p (λ (old : Bor LeafTally). P old.now)
      of None g = tt
      of (Some old) g = g

  pub of_early : (P : LeafTally → Type 0) → IfSome help (λ (old : Bor LeafTally). P old.now) → seen prior ≡ None → IfSome early P
  of_early P h none = subst (λ (p : Option LeafTally). IfSome (helper early p) P) none (subst (λ (o : Option LeafTally). IfSome o P) is (told P help h))

  -- the helper is a run of the leaf's program
  pub helper_is : (work : BatchView) (leaf : ℕ) (program : List Stmt) → leaf_program work leaf ≡ program → IfSome early (IsRunOn program (state_of work.snapshot) [])
      → IfSome prior (λ (old : Bor LeafTally). (c : Marks) × FitsBatch work c × StandsFor work old.now leaf c) → IfSome help (λ (old : Bor LeafTally). IsPriorOf program (state_of work.snapshot) old.now)
  helper_is work leaf program program_is own old =
      helped (IsPriorOf program (state_of work.snapshot))
      (weaker (IsRunOn program (state_of work.snapshot) []) (IsPriorOf program (state_of work.snapshot)) early (λ tally run. ([], tt, run)) own)
      (each prior old)
    where
      each : (p : Option (Bor LeafTally)) → IfSome p (λ (old : Bor LeafTally). (c : Marks) × FitsBatch work c × StandsFor work old.now leaf c) → IfSome p (λ (old : Bor LeafTally). IsPriorOf program (state_of work.snapshot) old.now)
      each None h = tt
      each (Some old) h =
          subst (λ (p : List Stmt). IsPriorOf p (state_of work.snapshot) old.now) program_is
          (marks_for (leaf_program work leaf) h.0, fits_for (leaf_program work leaf) (state_of work.snapshot) h.0 h.1.0, h.2.ran)

-- ---- what a leaf tells of its run

module _ (work : BatchView) (leaf : ℕ) (program : List Stmt) (is : leaf_program work leaf ≡ program) (laid_on on : Marks) (on_is : laid_on ≡ marks_for program on) where
  pub bound_is : (prior help : Option LeafTally) (m n : ℕ) → help ≡ helper (early_at work.early leaf) prior → n ≤ m + run_bound help program (state_of work.snapshot) laid_on → IfSome (leaf_bound work prior leaf on) (λ most. n ≤ m + most)
  bound_is prior help m n help_is h =
      subst (λ (p : List Stmt). n ≤ m + run_bound (helper (early_at work.early leaf) prior) p (state_of work.snapshot) (marks_for p on)) (sym is)
      (subst (λ (c : Marks). n ≤ m + run_bound (helper (early_at work.early leaf) prior) program (state_of work.snapshot) c) on_is
      (subst (λ (o : Option LeafTally). n ≤ m + run_bound o program (state_of work.snapshot) laid_on) help_is h))

  pub stands_is : (tally : LeafTally) → run program (laid (state_of work.snapshot) laid_on) ≡ run program (laid (state_of work.snapshot) on) → IsRunOn program (state_of work.snapshot) laid_on tally → StandsFor work tally leaf on
  stands_is tally runs h = (let all = subst Stands (sym is) here in record { ran = all.0; reply = all.1; marks = all.2 })
    where
      Stands : List Stmt → Type 0
      Stands p =
          IsRunOn p (state_of work.snapshot) (marks_for p on) tally
          × (tally.run.reply ≡ (run p (laid (state_of work.snapshot) on)).0)
          × (tally.run.marks ≡ (run p (laid (state_of work.snapshot) on)).1)

      here : Stands program
      here = (
        subst (λ (c : Marks). IsRunOn program (state_of work.snapshot) c tally) on_is h,
        h.run.reply ∙ ap (λ (out : Reply × Marks). out.0) runs,
        h.run.marks ∙ ap (λ (out : Reply × Marks). out.1) runs,
      )
