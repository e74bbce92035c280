-- A leaf's run, and what its prior says of it.
use Rattle.std.proofs.Common.{◌≡◌, ℕ, zero, suc, ◌+◌, ◌<◌, ◌≤◌, get_or, Bor, Bool, true, false, not, List, [], ◌∷◌, length, map, Option, Some, None, refl, sym, ap, ◌∙◌, inl, inr, subst, arith}
use Rattle.std.specs.Prelude.{if◌then◌else◌, slice_index_or, unwrap_or, is_some, ◌⊎◌, IfSome}
use Rattle.std.specs.List.{list_any}
use Rattle.std.specs.Option.{option_map}
use Rattle.lt_face.specs.Rows.{has_row}
use Rattle.lt_face.specs.State.{Row, State, AgreeOn, rows_in}
use Rattle.lt_model.specs.declared.normal.Stmt.{Stmt}
use Rattle.lt_model.specs.Fits.{FitMarks}
use Rattle.lt_model.specs.Laws.{mark_on}
use Rattle.lt_model.specs.Marks.{Marks, laid}
use Rattle.lt_model.specs.Run.{run}
use Rattle.lt_model.specs.declared.reply.Reply.{Reply}
use Rattle.lt_base.specs.Changed.{differ_on}
use Rattle.lt_base.specs.Tables.{Table, state_of}
use Rattle.lt_base.proofs.Apart.{alike, with_marks}
use Rattle.lt_program.specs.Run.{reads_marked_in}
use Rattle.lt_program.specs.Tally.{TallyView, IsRun, has_ended}
use Rattle.lt_restate.specs.Walked.{is_named}
use Rattle.lt_batch.specs.declared.leaf.LeafTally.{LeafTally}
use Rattle.lt_batch.specs.LeafRun.{IsTallyOn}
use Rattle.lt_batch.specs.Priors.{IsRestated, IsRestatedFrom}
use Rattle.lt_batch.specs.Work.{marks_for}

-- a row that neither list marks is said the same of by both, and so the states agree on it
pub marked_or_agree : (a b : Marks) (s t : State) → ((relation : ℕ) (row : Row) → mark_on a relation row ≡ mark_on b relation row → AgreeOn s t relation row) → (relation : ℕ) (row : Row) → AgreeOn s t relation row ⊎ ((is_named a relation row ≡ true) ⊎ (is_named b relation row ≡ true))
marked_or_agree a b s t agree relation row = go (mark_on a relation row) (mark_on b relation row) refl refl
  where
    go : (x y : Option Bool) → mark_on a relation row ≡ x → mark_on b relation row ≡ y → AgreeOn s t relation row ⊎ ((is_named a relation row ≡ true) ⊎ (is_named b relation row ≡ true))
    go (Some p) y e f = inr (inl (ap is_some e))
    go None (Some q) e f = inr (inr (ap is_some f))
    go None None e f = inl (agree relation row (e ∙ sym f))

-- ---- states with corrections laid on them

same_not_apart : (s t : State) (relation : ℕ) (row : Row) (b : Bool) → has_row (rows_in s relation) row ≡ b → has_row (rows_in t relation) row ≡ b → differ_on s t relation row ≡ false
same_not_apart s t relation row true e f = ap (λ x. if x then not (has_row (rows_in t relation) row) else has_row (rows_in t relation) row) e ∙ ap not f
same_not_apart s t relation row false e f = ap (λ x. if x then not (has_row (rows_in t relation) row) else has_row (rows_in t relation) row) e ∙ f

pub agree_laid : (snapshot : State) (c d : Marks) → FitMarks snapshot c → FitMarks snapshot d → (relation : ℕ) (row : Row) → mark_on c relation row ≡ mark_on d relation row → AgreeOn (laid snapshot c) (laid snapshot d) relation row
agree_laid snapshot c d fit fits relation row same =
    alike (laid snapshot c) (laid snapshot d) relation row (same_not_apart (laid snapshot c) (laid snapshot d) relation row (unwrap_or (mark_on d relation row) (has_row (rows_in snapshot relation) row))
    (with_marks snapshot c relation row fit ∙ ap (λ (o : Option Bool). unwrap_or o (has_row (rows_in snapshot relation) row)) same) (with_marks snapshot d relation row fits))

-- ---- a restatement

-- what a restatement asks of the bases, of two lists of marks laid on the snapshot
pub bases_marked : (snapshot s t : State) (c d old_on : Marks) → s ≡ laid snapshot c → t ≡ laid snapshot d → old_on ≡ c → FitMarks snapshot c → FitMarks snapshot d
    → (relation : ℕ) (row : Row) → AgreeOn s t relation row ⊎ ((is_named old_on relation row ≡ true) ⊎ (is_named d relation row ≡ true))
bases_marked snapshot s t c d old_on s_is t_is on_is fit fits =
    subst (λ (x : State). (relation : ℕ) (row : Row) → AgreeOn x t relation row ⊎ ((is_named old_on relation row ≡ true) ⊎ (is_named d relation row ≡ true))) (sym s_is)
    (subst (λ (y : State). (relation : ℕ) (row : Row) → AgreeOn (laid snapshot c) y relation row ⊎ ((is_named old_on relation row ≡ true) ⊎ (is_named d relation row ≡ true))) (sym t_is)
    (subst (λ (m : Marks). (relation : ℕ) (row : Row) → AgreeOn (laid snapshot c) (laid snapshot d) relation row ⊎ ((is_named m relation row ≡ true) ⊎ (is_named d relation row ≡ true))) (sym on_is)
    (marked_or_agree c d (laid snapshot c) (laid snapshot d) (agree_laid snapshot c d fit fits))))

-- a tally is its own restatement, without a touch
pub itself_restated : (t : TallyView) → IsRestated t t
itself_restated t = (
  [],
  record {
    each = tt;
    in_order = tt;
    mended = λ j h. absurd h.1;
    others = λ j part there below. inr (record { agree = λ relation row covered. (λ k. k, λ k. k); same = there });
  },
)

-- so is an equal one of whatever tally it is equal to
pub same_restated : (prior : Option (Bor LeafTally)) (old : Bor LeafTally) (tally : LeafTally) → prior ≡ Some old → tally ≡ old.now → IfSome prior (λ (before : Bor LeafTally). IsRestatedFrom before.now tally)
same_restated prior old tally is same =
    subst (λ (o : Option (Bor LeafTally)). IfSome o (λ (before : Bor LeafTally). IsRestatedFrom before.now tally)) (sym is)
    (subst (λ (t : LeafTally). IsRestatedFrom old.now t) (sym same) (itself_restated old.now.run))

-- ---- a leaf's run

-- marks that fit a state fit it also where a program's run needs none of them laid
pub fits_for : (program : List Stmt) (s : State) (c : Marks) → FitMarks s c → FitMarks s (marks_for program c)
fits_for program s c fit = go (list_any (reads_marked_in c) program)
  where
    go : (b : Bool) → FitMarks s (if b then c else [])
    go true = fit
    go false = tt

pub item_at : {X : Type 0} (f : X → List Stmt) (xs : List X) (i : ℕ) (x : X) → i < length xs → x ≡ get_or xs i x → slice_index_or (map f xs) i [] ≡ f x
item_at f [] i x lt is = absurd (omega arith)
item_at f (y ∷ xs) zero x lt is = ap f (sym is)
item_at f (y ∷ xs) (suc i) x lt is = item_at f xs i x (omega arith) is

-- ---- what of a correction is laid

pub lays_all : (program xs : List Stmt) (c on : Marks) (b : Bool) → xs ≡ program → b ≡ list_any (reads_marked_in c) xs → b ≡ true → on ≡ c → on ≡ marks_for program c
lays_all program xs c on b is value reads same =
    same ∙ sym (ap (λ (x : Bool). if x then c else []) (ap (list_any (reads_marked_in c)) (sym is) ∙ sym value ∙ reads))

pub lays_none : (program xs : List Stmt) (c on : Marks) (b : Bool) → xs ≡ program → b ≡ list_any (reads_marked_in c) xs → b ≡ false → on ≡ [] → on ≡ marks_for program c
lays_none program xs c on b is value reads same =
    same ∙ sym (ap (λ (x : Bool). if x then c else []) (ap (list_any (reads_marked_in c)) (sym is) ∙ sym value ∙ reads))

pub runs_none : (program xs : List Stmt) (c on : Marks) → xs ≡ program → ((s : State) → run xs s ≡ run xs (laid s c)) → on ≡ [] → (s : State) → run program (laid s on) ≡ run program (laid s c)
runs_none program xs c on is same none s =
    ap (λ (m : Marks). run program (laid s m)) none ∙ subst (λ (p : List Stmt). run p s ≡ run p (laid s c)) is (same s)

-- ---- tallies on the snapshot with marks laid on it

pub tally_is : (program : List Stmt) (snapshot : State) (on : Marks) (base : List Table) (t : TallyView) → state_of base ≡ laid snapshot on → t.program ≡ program → t.base ≡ base → has_ended t ≡ true → IsRun t
    → t.reply ≡ (run program (state_of base)).0 → t.marks ≡ (run program (state_of base)).1 → IsTallyOn program snapshot on t
tally_is program snapshot on base t state_is p b ended ran reply marks = record {
  program = p;
  base = ap state_of b ∙ state_is;
  is_run = ran;
  ended = ended;
  reply = reply ∙ ap (λ (s : State). (run program s).0) state_is;
  marks = marks ∙ ap (λ (s : State). (run program s).1) state_is;
}
