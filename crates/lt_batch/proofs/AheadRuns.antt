-- Runs of programs that were made before their turn.
use Rattle.std.proofs.Common.{◌≡◌, ℕ, zero, suc, ◌+◌, ◌<◌, ◌≤◌, Bool, true, false, not, List, [], ◌∷◌, ◌++◌, length, take, get_or, Option, Some, None, refl, sym, ap, subst, ◌∙◌, inl, inr, add-one, arith}
use Rattle.std.specs.Prelude.{IfSome, Result, Ok, is_some, slice_set}
use Rattle.std.specs.Global.{Vec}
use Rattle.std.proofs.Math.ListN.{length-set, get_or-eq_default}
use Rattle.std.proofs.Math.Seq.{take-suc}
use Rattle.std.proofs.lemmas.Bool.{cases_eq, cases_lt}
use Rattle.std.proofs.lemmas.List.{get_or-set_same, get_or-set_other, take_all}
use Rattle.std.specs.List.{AllByRecursion}
use Rattle.lt_face.specs.State.{State}
use Rattle.lt_face.proofs.RowLemmas.{each_at}
use Rattle.lt_model.specs.declared.normal.Stmt.{Stmt}
use Rattle.lt_model.specs.declared.reply.Reply.{Reply}
use Rattle.lt_model.specs.Fits.{Fits, FitMarks}
use Rattle.lt_model.specs.Marks.{Marks, and_then, laid}
use Rattle.lt_model.specs.Run.{run}
use Rattle.lt_base.specs.Tables.{Table, state_of}
use Rattle.lt_program.specs.declared.going.Ran.{Ran}
use Rattle.lt_program.specs.Alone.{kept_if}
use Rattle.lt_program.specs.Tally.{HasIndexes}
use Rattle.lt_batch.specs.declared.ahead.Ahead.{Ahead}
use Rattle.lt_batch.specs.declared.ahead.Early.{Early}
use Rattle.lt_batch.specs.declared.ahead.Early.TheVariants.{Ran as RanEarly, Kept}
use Rattle.lt_batch.specs.declared.fold.Fold.{Fold}
use Rattle.lt_batch.specs.Batch.{program_at}
use Rattle.lt_batch.specs.Folding.{AreAhead, AreAllInPlace, AreInPlace, HasGone, HasRun, IsEarly, IsInPlace, IsRanOn, IsWhole}
use Rattle.lt_batch.proofs.KeptRuns.{kept_later}
use Rattle.lt_batch.proofs.Gone.{fit_later, gone_more, gone_none, gone_one}
use Rattle.lt_batch.proofs.Indexed.{all_stay}
use Rattle.lt_batch.proofs.Widths.{as_wide-laid, marks_fit}

-- what was run of the program at this place, if it was
abbrev pub IsRunAt : List (List Stmt) → State → Marks → ℕ → Option Ahead → Type 0
IsRunAt programs s since p x = IfSome x (λ (one : Ahead). IsEarly (program_at programs p) s since one.early)

pub none_ahead : (programs : List (List Stmt)) (s : State) (all : List (Option Ahead)) → ((p : ℕ) → get_or all p None ≡ None) → AreAhead programs s [] 0 all
none_ahead programs s all none = λ p below. subst (IsRunAt programs s [] p) (sym (none p)) tt

-- one more is put at its place
pub put_ahead : (programs : List (List Stmt)) (s : State) (all : List (Option Ahead)) (one : Ahead) → one.place < length all → IsInPlace programs s one → AreAhead programs s [] 0 all → AreAhead programs s [] 0 (slice_set all one.place (Some one))
put_ahead programs s all one below is are = λ p le. elim (cases_eq p one.place) [
  | inl same ↦ subst (λ (k : ℕ). IsRunAt programs s [] k (get_or (slice_set all one.place (Some one)) k None)) (sym same)
      (subst (IsRunAt programs s [] one.place) (sym (get_or-set_same all one.place (Some one) None below)) is)
  | inr other ↦ subst (IsRunAt programs s [] p) (sym (get_or-set_other all one.place p (Some one) None other)) (are p le)
]

-- one of the lists, where it was made
pub in_place_of : {E : Type 0} (programs : List (List Stmt)) (s : State) (lists : List (Result (Vec Ahead) E)) (i : ℕ) (list : Result (Vec Ahead) E) (runs : Vec Ahead) → i < length lists → list ≡ get_or lists i list → list ≡ Ok runs → AreAllInPlace programs s lists
    → AllByRecursion (IsInPlace programs s) runs.items
in_place_of {E} programs s lists i list runs below is was are =
    subst (λ (r : Result (Vec Ahead) E). AreInPlace programs s r) was (subst (λ (r : Result (Vec Ahead) E). AreInPlace programs s r) (sym is) (are i list below))

-- one was taken out at its turn
pub taken_ahead : (programs : List (List Stmt)) (s : State) (since : Marks) (i : ℕ) (all : List (Option Ahead)) → AreAhead programs s since i all → AreAhead programs s since (i + 1) (slice_set all i None)
taken_ahead programs s since i all are = λ p le. subst (IsRunAt programs s since p) (sym (get_or-set_other all i p None None (omega (arith, le)))) (are p (omega (arith, le)))

-- ---- what marks have no bearing on stays

pub ran_laid : (program : List Stmt) (s : State) (marks : Marks) (ran : Ran) → run program s ≡ run program (laid s marks) → IsRanOn program s ran → IsRanOn program (laid s marks) ran
ran_laid program s marks ran same h = record {
  reply = h.reply ∙ ap (λ (out : Reply × Marks). out.0) same;
  marks = h.marks ∙ ap (λ (out : Reply × Marks). out.1) same;
  fits = marks_fit s (laid s marks) (λ r. sym (as_wide-laid s marks r)) ran.marks h.fits;
  printed = h.printed;
}

-- a run that is kept stays whatever is written
pub kept_stays : (program : List Stmt) (s : State) (since marks : Marks) (x : Option Ahead) → FitMarks s marks → IfSome x (λ (one : Ahead). IsWhole one.early)
    → IfSome x (λ (one : Ahead). IsEarly program s since one.early) → IfSome x (λ (one : Ahead). IsEarly program (laid s marks) (and_then since marks) one.early)
kept_stays program s since marks None fit whole h = tt
kept_stays program s since marks (Some one) fit whole h = go one.early whole h
  where
    go : (early : Early) → IsWhole early → IsEarly program s since early → IsEarly program (laid s marks) (and_then since marks) early
    go (RanEarly ran) whole h = absurd whole
    go (Kept tally) whole h = kept_later program s since marks tally fit h

-- where what was written has no bearing on the program, any does
pub early_stays : (program : List Stmt) (s : State) (since marks : Marks) (x : Option Ahead) → FitMarks s marks → run program s ≡ run program (laid s marks)
    → IfSome x (λ (one : Ahead). IsEarly program s since one.early) → IfSome x (λ (one : Ahead). IsEarly program (laid s marks) (and_then since marks) one.early)
early_stays program s since marks None fit same h = tt
early_stays program s since marks (Some one) fit same h = go one.early h
  where
    go : (early : Early) → IsEarly program s since early → IsEarly program (laid s marks) (and_then since marks) early
    go (RanEarly ran) h = ran_laid program s marks ran same h
    go (Kept tally) h = kept_later program s since marks tally fit h

-- those up to a place were looked at
pub record IsLookedAt (programs : List (List Stmt)) (marks : Marks) (from place : ℕ) (old now : List (Option Ahead)) : Type 0 where
  pub long : length now ≡ length old
  pub done : (s : State) (since : Marks) (p : ℕ) → FitMarks s marks → from ≤ p → p < place → IsRunAt programs s since p (get_or old p None) → IsRunAt programs (laid s marks) (and_then since marks) p (get_or now p None)
  pub rest : (p : ℕ) → place ≤ p → get_or now p None ≡ get_or old p None

pub looked_none : (programs : List (List Stmt)) (marks : Marks) (from : ℕ) (all : List (Option Ahead)) → IsLookedAt programs marks from from all all
looked_none programs marks from all = record { long = refl; done = λ s since p fit le lt. absurd (omega (arith, le, lt)); rest = λ p le. refl }

pub looked_more : (programs : List (List Stmt)) (marks : Marks) (from place : ℕ) (old now : List (Option Ahead)) (x : Option Ahead) → place < length now
    → ((s : State) (since : Marks) → FitMarks s marks → IsRunAt programs s since place (get_or now place None) → IsRunAt programs (laid s marks) (and_then since marks) place x)
    → IsLookedAt programs marks from place old now → IsLookedAt programs marks from (place + 1) old (slice_set now place x)
looked_more programs marks from place old now x below here h = record {
  long = length-set now place x ∙ h.long;
  done = λ s since p fit le lt was. elim (cases_eq p place) [
    | inl same ↦
        let before : IsRunAt programs s since place (get_or now place None) = subst (λ (k : ℕ). IsRunAt programs s since k (get_or now k None)) same (subst (IsRunAt programs s since p) (sym (h.rest p (omega (arith, same)))) was) in
        subst (λ (k : ℕ). IsRunAt programs (laid s marks) (and_then since marks) k (get_or (slice_set now place x) k None)) (sym same)
        (subst (IsRunAt programs (laid s marks) (and_then since marks) place) (sym (get_or-set_same now place x None below)) (here s since fit before))
    | inr other ↦ subst (IsRunAt programs (laid s marks) (and_then since marks) p) (sym (get_or-set_other now place p x None other)) (h.done s since p fit le (omega (arith, lt, other)) was)
  ];
  rest = λ p le. get_or-set_other now place p x None (omega (arith, le)) ∙ h.rest p (omega (arith, le));
}

pub looked_all : (programs : List (List Stmt)) (marks : Marks) (from place : ℕ) (old now : List (Option Ahead)) → length old ≤ place → IsLookedAt programs marks from place old now
    → (s : State) (since : Marks) → FitMarks s marks → AreAhead programs s since from old → AreAhead programs (laid s marks) (and_then since marks) from now
looked_all programs marks from place old now whole h s since fit are = λ p le. elim (cases_lt p place) [
  | inl lt ↦ h.done s since p fit le lt (are p le)
  | inr ge ↦
      let long = h.long in
      subst (IsRunAt programs (laid s marks) (and_then since marks) p) (sym (get_or-eq_default now None (omega (arith, long, whole, ge)))) tt
]

-- ---- the next program of a round

-- what was read at a place
pub found : {X : Type 0} (xs : List X) (i : ℕ) (x d : X) → i < length xs → x ≡ get_or xs i x → get_or xs i d ≡ x
found [] i x d below is = absurd (omega arith)
found (y ∷ xs) zero x d below is = sym is
found (y ∷ xs) (suc i) x d below is = found xs i x d (omega arith) is

pub next_run : (programs : List (List Stmt)) (program : List Stmt) (s : State) (since : Marks) (i : ℕ) (all : List (Option Ahead)) (x y : Option Ahead) → program_at programs i ≡ program → get_or all i None ≡ x → y ≡ x → IsRunAt programs s since i (get_or all i None)
    → IfSome y (λ (one : Ahead). IsEarly program s since one.early)
next_run programs program s since i all x y is there same h =
    subst (λ (o : Option Ahead). IfSome o (λ (one : Ahead). IsEarly program s since one.early)) (there ∙ sym same)
    (subst (λ (p : List Stmt). IfSome (get_or all i None) (λ (one : Ahead). IsEarly p s since one.early)) is h)

pub step_of : (programs : List (List Stmt)) (program : List Stmt) (marks : Marks) (i : ℕ) (all : List (Option Ahead)) (x y : Option Ahead) → program_at programs i ≡ program → get_or all i None ≡ x
    → ((s : State) (since : Marks) → FitMarks s marks → IfSome x (λ (one : Ahead). IsEarly program s since one.early) → IfSome y (λ (one : Ahead). IsEarly program (laid s marks) (and_then since marks) one.early))
    → (s : State) (since : Marks) → FitMarks s marks → IsRunAt programs s since i (get_or all i None) → IsRunAt programs (laid s marks) (and_then since marks) i y
step_of programs program marks i all x y is there step s since fit h =
    subst (λ (p : List Stmt). IfSome y (λ (one : Ahead). IsEarly p (laid s marks) (and_then since marks) one.early)) (sym is) (step s since fit (next_run programs program s since i all x x is there refl h))

-- the first i programs of a round are done, and wrote these marks; what was run from there on is as it was or kept
pub record IsGoing (programs : List (List Stmt)) (old : Fold) (i : ℕ) (fold : Fold) (since : Marks) (ahead : List (Option Ahead)) : Type 0 where
  pub gone : HasGone (take i programs) old fold
  pub indexes : AllByRecursion (HasIndexes fold.db) programs
  pub long : length ahead ≡ length programs
  pub are : AreAhead programs (state_of fold.db) since i ahead

pub going_more : (programs : List (List Stmt)) (old : Fold) (i : ℕ) (fold mid new : Fold) (since more : Marks) (ahead left : List (Option Ahead)) (ran : Ran) → i < length programs → IsGoing programs old i fold since ahead
    → HasRun (program_at programs i) true fold mid ran → new.replies ≡ mid.replies ++ ran.reply ∷ [] → new.effects ≡ mid.effects ++ kept_if mid.keeps ran.marks ∷ [] → new.db ≡ mid.db → new.keeps ≡ mid.keeps
    → length left ≡ length ahead → more ≡ and_then since ran.marks → AreAhead programs (laid (state_of fold.db) ran.marks) (and_then since ran.marks) (i + 1) left → IsGoing programs old (i + 1) new more left
going_more programs old i fold mid new since more ahead left ran below h did replies effects db keeps long wrote are = record {
  gone = rw add-one (subst (λ (ps : List (List Stmt)). HasGone ps old new) (sym (take-suc programs i [] below))
      (gone_more (take i programs) (program_at programs i ∷ []) old fold new h.gone (gone_one (program_at programs i) true fold mid new ran (λ k. refl) did replies effects db keeps)));
  indexes = subst (λ (tables : List Table). AllByRecursion (HasIndexes tables) programs) (sym db) (all_stay fold.db mid.db programs did.indexes h.indexes);
  long = long ∙ h.long;
  are =
      let state : laid (state_of fold.db) ran.marks ≡ state_of new.db = ap (laid (state_of fold.db)) did.marks ∙ sym did.state ∙ ap state_of (sym db) in
      subst (λ (m : Marks). AreAhead programs (state_of new.db) m (i + 1) left) (sym wrote)
      (subst (λ (s : State). AreAhead programs s (and_then since ran.marks) (i + 1) left) state are);
}

-- what the next program asks for
pub going_fits : (programs : List (List Stmt)) (old : Fold) (i : ℕ) (fold : Fold) (since : Marks) (ahead : List (Option Ahead)) → i < length programs → IsGoing programs old i fold since ahead → AllByRecursion (Fits (state_of old.db)) programs
    → Fits (state_of fold.db) (program_at programs i)
going_fits programs old i fold since ahead below h fits =
    each_at (Fits (state_of fold.db)) programs i [] (fit_later (take i programs) programs (state_of old.db) (state_of fold.db) h.gone.state fits) below

pub going_indexes : (programs : List (List Stmt)) (old : Fold) (i : ℕ) (fold : Fold) (since : Marks) (ahead : List (Option Ahead)) → i < length programs → IsGoing programs old i fold since ahead → HasIndexes fold.db (program_at programs i)
going_indexes programs old i fold since ahead below h = each_at (HasIndexes fold.db) programs i [] h.indexes below

pub going_ahead : (programs : List (List Stmt)) (old : Fold) (i : ℕ) (fold : Fold) (since : Marks) (ahead : List (Option Ahead)) → IsGoing programs old i fold since ahead → IsRunAt programs (state_of fold.db) since i (get_or ahead i None)
going_ahead programs old i fold since ahead h = h.are i (omega arith)

pub going_none : (programs : List (List Stmt)) (old : Fold) (ahead : List (Option Ahead)) → AllByRecursion (HasIndexes old.db) programs → length ahead ≡ length programs → AreAhead programs (state_of old.db) [] 0 ahead → IsGoing programs old 0 old [] ahead
going_none programs old ahead indexes long are = record { gone = gone_none old; indexes = indexes; long = long; are = are }

pub going_all : (programs : List (List Stmt)) (old : Fold) (i : ℕ) (fold : Fold) (since : Marks) (ahead : List (Option Ahead)) → length programs ≤ i → IsGoing programs old i fold since ahead → HasGone programs old fold
going_all programs old i fold since ahead whole h = subst (λ (ps : List (List Stmt)). HasGone ps old fold) (take_all i programs whole) h.gone
