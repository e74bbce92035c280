-- A program that reads no relation with a mark does the same with the marks laid.
use Rattle.std.proofs.Common.{◌≡◌, ◌≢◌, ℕ, zero, suc, Bool, false, true, inl, inr, List, [], ◌∷◌, length, refl, sym, ap, ◌∙◌, arith}
use mathlib.Core.Bool.{true≢false}
use Rattle.std.specs.Prelude.{◌==◌, ◌||◌, IsTrue}
use Rattle.std.specs.List.{AllByRecursion, list_any}
use Rattle.std.proofs.lemmas.Bool.{eq-eqb, ne_eqb, or_left, or_right}
use Rattle.lt_face.specs.Lists.{AnyByRecursion}
use Rattle.lt_face.specs.State.{Row, State, rows_in}
use Rattle.lt_model.specs.declared.mark.Mark.{Mark}
use Rattle.lt_model.specs.declared.normal.Atom.{Atom}
use Rattle.lt_model.specs.declared.normal.Stmt.{Stmt}
use Rattle.lt_model.specs.Marks.{Marks, write, change, lay, laid}
use Rattle.lt_model.specs.Run.{run}
use Rattle.lt_model.proofs.Laws.{change_length}
use Rattle.lt_query.specs.Needs.{body_of}
use Rattle.lt_program.specs.Run.{displacing_heads, is_marked, are_marked, reads_marked_in}
use Rattle.lt_program.proofs.Bare.{neither}
use Rattle.lt_program.proofs.Alike.{HaveSame, StayAlikeFor, run_alike}

-- ---- whether a relation has a mark

any_marked : (marks : Marks) (k : ℕ) → AnyByRecursion (λ (m : Mark). m.relation ≡ k) marks → is_marked marks k ≡ true
any_marked [] k h = absurd h
any_marked (m ∷ marks) k (inl e) = or_left (m.relation == k) (is_marked marks k) (eq-eqb m.relation k e)
any_marked (m ∷ marks) k (inr h) = or_right (m.relation == k) (is_marked marks k) (any_marked marks k h)

none_marked : (marks : Marks) (k : ℕ) → AllByRecursion (λ (m : Mark). m.relation ≢ k) marks → is_marked marks k ≡ false
none_marked [] k h = refl
none_marked (m ∷ marks) k h = rw (ne_eqb m.relation k h.0) (none_marked marks k h.1)

pub tells_marked : (b : Bool) (marks : Marks) (k : ℕ) → (IsTrue b → AnyByRecursion (λ (m : Mark). m.relation ≡ k) marks) → (b ≡ false → AllByRecursion (λ (m : Mark). m.relation ≢ k) marks) → b ≡ is_marked marks k
tells_marked true marks k on off = sym (any_marked marks k (on refl))
tells_marked false marks k on off = sym (none_marked marks k (off refl))

-- ---- rows of one relation in two states

changed_alike : (n k : ℕ) (f : List Row → List Row) (s t : State) → length s ≡ length t → rows_in s k ≡ rows_in t k → rows_in (change n f s) k ≡ rows_in (change n f t) k
changed_alike n k f [] [] long h = refl
changed_alike n k f [] (q ∷ t) long h = absurd (omega (arith, long))
changed_alike n k f (r ∷ s) [] long h = absurd (omega (arith, long))
changed_alike zero zero f (r ∷ s) (q ∷ t) long h = ap f h
changed_alike zero (suc k) f (r ∷ s) (q ∷ t) long h = h
changed_alike (suc n) zero f (r ∷ s) (q ∷ t) long h = h
changed_alike (suc n) (suc k) f (r ∷ s) (q ∷ t) long h = changed_alike n k f s t (omega (arith, long)) h

laid_alike : (s t : State) (marks : Marks) (k : ℕ) → length s ≡ length t → rows_in s k ≡ rows_in t k → rows_in (laid s marks) k ≡ rows_in (laid t marks) k
laid_alike s t [] k long h = h
laid_alike s t (m ∷ marks) k long h =
    laid_alike (lay s m) (lay t m) marks k (change_length m.relation (write m) s ∙ long ∙ sym (change_length m.relation (write m) t)) (changed_alike m.relation k (write m) s t long h)

changed_off : (n k : ℕ) (f : List Row → List Row) (s : State) → n ≢ k → rows_in s k ≡ rows_in (change n f s) k
changed_off n k f [] h = refl
changed_off zero zero f (r ∷ s) h = absurd (h refl)
changed_off zero (suc k) f (r ∷ s) h = refl
changed_off (suc n) zero f (r ∷ s) h = refl
changed_off (suc n) (suc k) f (r ∷ s) h = changed_off n k f s (λ e. h (ap suc e))

unmarked : (s : State) (marks : Marks) (k : ℕ) → is_marked marks k ≡ false → rows_in s k ≡ rows_in (laid s marks) k
unmarked s [] k h = refl
unmarked s (m ∷ marks) k h =
    let both = neither (m.relation == k) (is_marked marks k) h in
    changed_off m.relation k (write m) s (λ e. true≢false (sym (eq-eqb m.relation k e) ∙ both.0)) ∙ unmarked (lay s m) marks k both.1

pub long_laid : (s : State) (marks : Marks) → length s ≡ length (laid s marks)
long_laid s [] = refl
long_laid s (m ∷ marks) = sym (change_length m.relation (write m) s) ∙ long_laid (lay s m) marks

-- ---- programs

module _ (s : State) (marks : Marks) where
  all_same : (more : Marks) (atoms : List Atom) → are_marked marks atoms ≡ false → HaveSame (laid s more) (laid (laid s marks) more) atoms
  all_same more [] h = tt
  all_same more (atom ∷ atoms) h =
      let both = neither (is_marked marks atom.relation) (are_marked marks atoms) h in
      (laid_alike s (laid s marks) more atom.relation (long_laid s marks) (unmarked s marks atom.relation both.0), all_same more atoms both.1)

  all_alike : (program : List Stmt) → list_any (reads_marked_in marks) program ≡ false → StayAlikeFor s (laid s marks) program
  all_alike [] h = tt
  all_alike (stmt ∷ program) h =
      let both = neither (reads_marked_in marks stmt) (list_any (reads_marked_in marks) program) h in
      let atoms = neither (are_marked marks (body_of stmt).atoms) (are_marked marks (body_of stmt).absents || are_marked marks (displacing_heads stmt)) both.0 in
      let others = neither (are_marked marks (body_of stmt).absents) (are_marked marks (displacing_heads stmt)) atoms.1 in
      (λ more. ((all_same more (body_of stmt).atoms atoms.0, all_same more (body_of stmt).absents others.0), all_same more (displacing_heads stmt) others.1), all_alike program both.1)

  pub run-unmarked : (program : List Stmt) → list_any (reads_marked_in marks) program ≡ false → run program s ≡ run program (laid s marks)
  run-unmarked program h = run_alike program s (laid s marks) (all_alike program h)
