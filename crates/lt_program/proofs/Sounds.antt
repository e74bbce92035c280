-- What is always so of a tally stays so.
use Rattle.std.proofs.Common.{◌≡◌, ℕ, zero, suc, ◌+◌, ◌≤◌, false, List, [], ◌∷◌, ◌++◌, length, Some, None, get_or, refl, sym, ap, ◌∙◌, subst, arith}
use Rattle.std.specs.Prelude.{slice_get}
use Rattle.std.specs.List.{AllByRecursion}
use Rattle.std.proofs.lemmas.Option.{slice_get-get_or}
use Rattle.lt_face.specs.State.{State}
use Rattle.lt_model.specs.declared.normal.Body.{Body}
use Rattle.lt_model.specs.declared.normal.Stmt.{Stmt}
use Rattle.lt_model.specs.declared.reply.Reply.TheVariants.{Done}
use Rattle.lt_model.specs.Fits.{Fits, FitsStatement, FitMarks}
use Rattle.lt_model.specs.Marks.{laid}
use Rattle.lt_model.specs.State.{IsState}
use Rattle.lt_base.specs.Tables.{Table, state_of}
use Rattle.lt_query.specs.Needs.{body_of}
use Rattle.lt_query.specs.Runnable.{AreWide}
use Rattle.lt_program.specs.declared.course.Course.{Course}
use Rattle.lt_program.specs.Asked.{CanEvaluate}
use Rattle.lt_program.specs.Run.{AreReplied}
use Rattle.lt_program.specs.Split.{statement_cost_by, cost_on_by}
use Rattle.lt_program.specs.Tally.{TallyView, HasIndexes, HasIndexesOf, IsLaid, IsRun, Grows, has_ended, state_before, IsOneMore}
use Rattle.lt_program.specs.Sound.{tally_of, IsSound}
use Rattle.lt_program.proofs.TallyGrows.{IsRun-one_more, going_on, first_fits}

module _ (program : List Stmt) (base : List Table) (course : Course) (sound : IsSound program base course) where
  pub sound_fits : FitMarks (state_of base) course.marks
  sound_fits = subst (FitMarks (state_of base)) (sym sound.run.marks) (first_fits (length course.parts) program (state_of base) sound.run.evaluated sound.is_state sound.fits).0

  pub sound_replied : AreReplied course.reply
  sound_replied = subst AreReplied (sym sound.run.reply) (first_fits (length course.parts) program (state_of base) sound.run.evaluated sound.is_state sound.fits).1

  pub sound_grown : (stmt : Stmt) (new : Course) → has_ended (tally_of program base course) ≡ false → slice_get program (length course.parts) ≡ Some stmt → Grows (length course.parts + 1) stmt (state_of base) course new → IsLaid base new.marks new.laid → IsSound program base new
  sound_grown stmt new going is grows laid_is = record {
    fits = sound.fits;
    indexes = sound.indexes;
    is_state = sound.is_state;
    wide = sound.wide;
    laid = laid_is;
    run = IsRun-one_more (tally_of program base course) stmt grows.part sound.run (going_on (tally_of program base course) going sound.run).0 is grows.is_part new.parts new.reply new.marks grows.parts grows.reply grows.marks;
  }

pub sound_begun : (program : List Stmt) (base : List Table) (course : Course) → Fits (state_of base) program → HasIndexes base program → IsState (state_of base) → AreWide (state_of base) → IsLaid base course.marks course.laid → course.parts ≡ [] → course.reply ≡ Done [] → course.marks ≡ [] → IsSound program base course
sound_begun program base course fits indexes is_state wide laid_is parts reply marks = record {
  fits = fits;
  indexes = indexes;
  is_state = is_state;
  wide = wide;
  laid = laid_is;
  run = subst (λ xs. IsRun (record { program = program; base = base; parts = xs; reply = course.reply; marks = course.marks })) (sym parts)
      (subst (λ r. IsRun (record { program = program; base = base; parts = []; reply = r; marks = course.marks })) (sym reply)
      (subst (λ m. IsRun (record { program = program; base = base; parts = []; reply = Done []; marks = m })) (sym marks) (record { evaluated = omega arith; reply = refl; marks = refl; parts = λ j stmt part there at. cc; went_on = λ j lt. absurd (omega arith) })));
}

each_get : {X : Type 0} (P : X → Type 0) (xs : List X) (i : ℕ) (x : X) → slice_get xs i ≡ Some x → AllByRecursion P xs → P x
each_get P [] i x h all = cc
each_get P (y ∷ xs) i x h all = elim i as (λ k. slice_get (y ∷ xs) k ≡ Some x → P x) [ zero ↦ λ e. (let same : y ≡ x = cc in subst P same all.0) | suc k ↦ λ e. each_get P xs k x e all.1 ] h

pub statement_fits : (state : State) (program : List Stmt) (i : ℕ) (stmt : Stmt) → slice_get program i ≡ Some stmt → Fits state program → FitsStatement state stmt
statement_fits state program i stmt is fits = each_get (FitsStatement state) program i stmt is fits.each

pub statement_indexes : (base : List Table) (program : List Stmt) (i : ℕ) (stmt : Stmt) → slice_get program i ≡ Some stmt → HasIndexes base program → HasIndexesOf base (body_of stmt)
statement_indexes base program i stmt is has = each_get (λ s. HasIndexesOf base (body_of s)) program i stmt is has

pub statement_evaluates : (base : List Table) (program : List Stmt) (i : ℕ) (stmt : Stmt) → slice_get program i ≡ Some stmt → AreWide (state_of base) → Fits (state_of base) program → HasIndexes base program → CanEvaluate base stmt
statement_evaluates base program i stmt is wide fits has = record { wide = wide; indexes = statement_indexes base program i stmt is has; fits = statement_fits (state_of base) program i stmt is fits }

-- the next statement
pub next_is : (program xs : List Stmt) (base : List Table) (course : Course) (t : TallyView) (n : ℕ) (stmt : Stmt) → tally_of program base course ≡ t → IsSound program base course → has_ended t ≡ false → xs ≡ program → n ≡ length course.parts → stmt ≡ get_or xs n stmt → slice_get program (length course.parts) ≡ Some stmt
next_is program xs base course t n stmt is sound going same number there =
    let open_still : has_ended (tally_of program base course) ≡ false = ap has_ended is ∙ going in
    let lt = (going_on (tally_of program base course) open_still sound.run).1 in
    let found : get_or program (length course.parts) stmt ≡ stmt = sym (there ∙ (ap (λ (l : List Stmt). get_or l n stmt) same ∙ ap (λ k. get_or program k stmt) number)) in
    slice_get-get_or program (length course.parts) stmt lt ∙ ap Some found

-- what the evaluation of the next statement leaves
pub sound_next : (program : List Stmt) (base : List Table) (course new : Course) (t : TallyView) (n : ℕ) (stmt : Stmt) → tally_of program base course ≡ t → IsSound program base course → has_ended t ≡ false → n ≡ length course.parts → slice_get program (length course.parts) ≡ Some stmt
    → Grows (n + 1) stmt (state_of base) course new → IsLaid base new.marks new.laid → IsSound program base new
sound_next program base course new t n stmt is sound going number there grows laid_is =
    sound_grown program base course sound stmt new (ap has_ended is ∙ going) there (subst (λ k. Grows (k + 1) stmt (state_of base) course new) number grows) laid_is

pub one_more : (program : List Stmt) (base : List Table) (course new : Course) (t : TallyView) (number : ℕ) (stmt : Stmt) → tally_of program base course ≡ t → Grows number stmt (state_of base) course new → IsSound program base new → IsOneMore t (tally_of program base new)
one_more program base course new t number stmt is grows sound = record {
  program = ap (λ (v : TallyView). v.program) is;
  base = ap (λ (v : TallyView). v.base) is;
  part = grows.part;
  parts = grows.parts ∙ ap (λ (v : TallyView). v.parts ++ grows.part ∷ []) is;
  run = sound.run;
}

pub cost_told : (most : Body → State → ℕ) (program : List Stmt) (base : List Table) (course : Course) (t : TallyView) (stmt : Stmt) (old new : ℕ) → tally_of program base course ≡ t → IsSound program base course → slice_get program (length course.parts) ≡ Some stmt → new ≤ old + statement_cost_by most stmt (laid (state_of base) course.marks)
    → new ≤ old + cost_on_by most (slice_get t.program (length t.parts)) (state_before (length t.parts) t.program (state_of t.base))
cost_told most program base course t stmt old new is sound there cost =
    let before : new ≤ old + statement_cost_by most stmt (state_before (length course.parts) program (state_of base)) = subst (λ m. new ≤ old + statement_cost_by most stmt (laid (state_of base) m)) sound.run.marks cost in
    let found : new ≤ old + cost_on_by most (slice_get program (length course.parts)) (state_before (length course.parts) program (state_of base)) = subst (λ o. new ≤ old + cost_on_by most o (state_before (length course.parts) program (state_of base))) (sym there) before in
    subst (λ (v : TallyView). new ≤ old + cost_on_by most (slice_get v.program (length v.parts)) (state_before (length v.parts) v.program (state_of v.base))) is found

-- the same course, without what is laid
pub sound_again : (program : List Stmt) (base : List Table) (course : Course) → IsSound program base course → IsSound program base (record course { laid = None })
sound_again program base course sound = record {
  fits = sound.fits;
  indexes = sound.indexes;
  is_state = sound.is_state;
  wide = sound.wide;
  laid = tt;
  run = sound.run;
}
