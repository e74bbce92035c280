-- What a tally keeps of another, and what it tells of its statements.
use Rattle.std.proofs.Common.{◌≡◌, ℕ, suc, ◌+◌, ◌<◌, ◌≤◌, true, List, [], ◌∷◌, ◌++◌, length, Option, Some, get_or, sym, ap, ◌∙◌, subst, arith}
use Rattle.std.specs.Prelude.{slice_get}
use Rattle.std.proofs.lemmas.Option.{slice_get-get_or}
use Rattle.lt_face.specs.Rows.{has_row}
use Rattle.lt_face.specs.State.{Row, State, rows_in}
use Rattle.lt_model.specs.declared.normal.Stmt.{Stmt}
use Rattle.lt_model.specs.Fits.{FitMarks}
use Rattle.lt_model.specs.Marks.{Marks, laid}
use Rattle.lt_base.specs.Tables.{Table, state_of}
use Rattle.lt_query.specs.Needs.{body_of}
use Rattle.lt_query.specs.Stated.{stated_plan}
use Rattle.lt_sense.specs.Sense.{AgreeWhereCovered}
use Rattle.lt_join.specs.Mended.{HaveTouched}
use Rattle.lt_join.specs.MendedPlan.{mending_cost}
use Rattle.lt_program.specs.declared.course.Course.{Course}
use Rattle.lt_program.specs.Part.{Part}
use Rattle.lt_program.specs.Kept.{IsOrdered, marks_past}
use Rattle.lt_program.specs.Sound.{tally_of, IsSound}
use Rattle.lt_program.specs.Tally.{TallyView, IsPartOn, IsMendedPart, IsRun, is_next_sliced, is_sliced, is_sliced_at, mending_on, run_of_first, sense_of, state_before}
use Rattle.lt_program.proofs.Recalls.{part_ordered, marks_recalled}
use Rattle.lt_program.proofs.Sounds.{statement_fits}
use Rattle.lt_program.proofs.Stays.{part_stays}
use Rattle.lt_program.proofs.TallyGrows.{first_fits}

-- the element at a place of a list that is written twice
pub got : {X : Type 0} (xs ys : List X) (n : ℕ) (x : X) → ys ≡ xs → n < length xs → x ≡ get_or ys n x → slice_get xs n ≡ Some x
got xs ys n x same lt is = slice_get-get_or xs n x lt ∙ ap Some (sym (is ∙ ap (λ l. get_or l n x) same))

some_is : {X : Type 0} (x y : X) → Some x ≡ Some y → x ≡ y
some_is x y e = cc

-- the states before statement n agree wherever its old sense covers a row
abbrev pub Agree : TallyView → TallyView → Type 0
Agree old t = (part : Part) → slice_get old.parts (length t.parts) ≡ Some part → AgreeWhereCovered (sense_of part) (state_before (length t.parts) old.program (state_of old.base)) (state_before (length t.parts) t.program (state_of t.base))

-- the keys are all that are touched between the states before statement n, of what was kept of it
abbrev pub Touched : List ℕ → TallyView → TallyView → Type 0
Touched keys old t = (part : Part) → slice_get old.parts (length t.parts) ≡ Some part → HaveTouched keys part.sense part.slices (state_before (length t.parts) old.program (state_of old.base)) (state_before (length t.parts) t.program (state_of t.base))

module _ (program : List Stmt) (base : List Table) (course : Course) (t : TallyView) (is : tally_of program base course ≡ t) (sound : IsSound program base course) where
  -- the next statement is kept by slices
  pub sliced_here : (stmt : Stmt) → is_next_sliced t ≡ true → slice_get program (length course.parts) ≡ Some stmt → is_sliced stmt ≡ true
  sliced_here stmt sliced there = ap is_sliced_at (sym there) ∙ (ap is_next_sliced is ∙ sliced)

  -- the old part of the next statement, and what is touched on the way to the state here
  pub old_here : (keys : List ℕ) (old : TallyView) (n : ℕ) (stmt : Stmt) (part q : Part) (xs : List Part) → IsRun old → old.program ≡ t.program → length t.parts < length old.parts → Touched keys old t → xs ≡ old.parts → n ≡ length course.parts → part ≡ get_or xs n part → q ≡ part
      → slice_get program (length course.parts) ≡ Some stmt → (s : State) × IsPartOn stmt s q × HaveTouched keys q.sense q.slices s (laid (state_of base) course.marks)
  old_here keys old n stmt part q xs run same lt touched list number there e at =
      let here : Touched keys old (tally_of program base course) = subst (Touched keys old) (sym is) touched in
      let below : length course.parts < length old.parts = subst (λ (v : TallyView). length v.parts < length old.parts) (sym is) lt in
      let found : slice_get old.parts (length course.parts) ≡ Some part = got old.parts xs (length course.parts) part list below (there ∙ ap (λ k. get_or xs k part) number) in
      let program_is : old.program ≡ program = same ∙ sym (ap (λ (v : TallyView). v.program) is) in
      let stmt_at : slice_get old.program (length course.parts) ≡ Some stmt = ap (λ (p : List Stmt). slice_get p (length course.parts)) program_is ∙ at in
      let before : State = state_before (length course.parts) old.program (state_of old.base) in
      let is_part : IsPartOn stmt before q = subst (IsPartOn stmt before) (sym e) (run.parts (length course.parts) stmt part stmt_at found) in
      let have : HaveTouched keys q.sense q.slices before (state_before (length course.parts) program (state_of base)) =
      subst (λ (p : Part). HaveTouched keys p.sense p.slices before (state_before (length course.parts) program (state_of base))) (sym e) (here part found) in
      (before, is_part, subst (λ (m : Marks). HaveTouched keys q.sense q.slices before (laid (state_of base) m)) (sym sound.run.marks) have)

  pub mended_same : (keys : List ℕ) (old : TallyView) (n : ℕ) (part q : Part) (xs grown : List Part) → length t.parts < length old.parts → xs ≡ old.parts → n ≡ length course.parts → part ≡ get_or xs n part → q ≡ part → (new : Part) × (grown ≡ course.parts ++ new ∷ []) × IsMendedPart keys q new
      → (p : Part) → slice_get old.parts (length t.parts) ≡ Some p → (new : Part) × (grown ≡ t.parts ++ new ∷ []) × IsMendedPart keys p new
  mended_same keys old n part q xs grown lt list number there e made p at =
      let long : length course.parts ≡ length t.parts = ap (λ (v : TallyView). length v.parts) is in
      let found : slice_get old.parts (length t.parts) ≡ Some part = got old.parts xs (length t.parts) part list lt (there ∙ ap (λ k. get_or xs k part) (number ∙ long)) in
      let one : q ≡ p = e ∙ some_is part p (sym found ∙ at) in
      (made.0, made.1 ∙ ap (λ (v : TallyView). v.parts ++ made.0 ∷ []) is, subst (λ (o : Part). IsMendedPart keys o made.0) one made.2)

  -- what the joins of the keys' slices may take
  pub mending_moves : (keys : List ℕ) (stmt : Stmt) (old new : ℕ) → slice_get program (length course.parts) ≡ Some stmt → new ≤ old + mending_cost keys (body_of stmt) (stated_plan (body_of stmt)) (laid (state_of base) course.marks)
      → new ≤ old + mending_on keys (slice_get t.program (length t.parts)) (state_before (length t.parts) t.program (state_of t.base))
  mending_moves keys stmt old new there cost =
      let before : new ≤ old + mending_cost keys (body_of stmt) (stated_plan (body_of stmt)) (state_before (length course.parts) program (state_of base)) = subst (λ (m : Marks). new ≤ old + mending_cost keys (body_of stmt) (stated_plan (body_of stmt)) (laid (state_of base) m)) sound.run.marks cost in
      let found : new ≤ old + mending_on keys (slice_get program (length course.parts)) (state_before (length course.parts) program (state_of base)) = subst (λ (o : Option Stmt). new ≤ old + mending_on keys o (state_before (length course.parts) program (state_of base))) (sym there) before in
      subst (λ (v : TallyView). new ≤ old + mending_on keys (slice_get v.program (length v.parts)) (state_before (length v.parts) v.program (state_of v.base))) is found

  -- the old part of the next statement is its part here
  pub kept_part : (old : TallyView) (n : ℕ) (stmt : Stmt) (part : Part) (xs : List Part) → IsRun old → old.program ≡ t.program → length t.parts < length old.parts → Agree old t → xs ≡ old.parts → n ≡ length course.parts → part ≡ get_or xs n part
      → slice_get program (length course.parts) ≡ Some stmt → IsPartOn stmt (laid (state_of base) course.marks) part
  kept_part old n stmt part xs run same lt agree list number there at =
      let m = length course.parts in
      let agreed : Agree old (tally_of program base course) = subst (Agree old) (sym is) agree in
      let below : length course.parts < length old.parts = subst (λ (v : TallyView). length v.parts < length old.parts) (sym is) lt in
      let found : slice_get old.parts (length course.parts) ≡ Some part = got old.parts xs (length course.parts) part list below (there ∙ ap (λ k. get_or xs k part) number) in
      let program_is : old.program ≡ program = same ∙ sym (ap (λ (v : TallyView). v.program) is) in
      let stmt_at : slice_get old.program (length course.parts) ≡ Some stmt = ap (λ (p : List Stmt). slice_get p (length course.parts)) program_is ∙ at in
      let moved = part_stays (state_of base) (state_before (length course.parts) old.program (state_of old.base)) (state_before (length course.parts) program (state_of base)) stmt part
      (statement_fits (state_of base) program (length course.parts) stmt at sound.fits) (agreed part found) (run.parts (length course.parts) stmt part stmt_at found) in
      subst (λ (m : Marks). IsPartOn stmt (laid (state_of base) m) part) (sym sound.run.marks) moved

  pub kept_same : (old : TallyView) (n : ℕ) (part : Part) (xs new : List Part) → length t.parts < length old.parts → xs ≡ old.parts → n ≡ length course.parts → part ≡ get_or xs n part → new ≡ course.parts ++ part ∷ []
      → (p : Part) → slice_get old.parts (length t.parts) ≡ Some p → new ≡ t.parts ++ p ∷ []
  kept_same old n part xs new lt list number there grown p at =
      let long : length course.parts ≡ length t.parts = ap (λ (v : TallyView). length v.parts) is in
      let found : slice_get old.parts (length t.parts) ≡ Some part = got old.parts xs (length t.parts) part list lt (there ∙ ap (λ k. get_or xs k part) (number ∙ long)) in
      let one : part ≡ p = some_is part p (sym found ∙ at) in
      grown ∙ ap (λ (l : List Part). l ++ part ∷ []) (ap (λ (v : TallyView). v.parts) is) ∙ ap (λ (q : Part). t.parts ++ q ∷ []) one

  pub has_here : (relation : ℕ) (row : Row) → has_row (rows_in (laid (state_of base) course.marks) relation) row ≡ has_row (rows_in (state_before (length t.parts) t.program (state_of t.base)) relation) row
  has_here relation row =
      ap (λ (m : Marks). has_row (rows_in (laid (state_of base) m) relation) row) sound.run.marks
      ∙ ap (λ (v : TallyView). has_row (rows_in (state_before (length v.parts) v.program (state_of v.base)) relation) row) is

  module _ (n : ℕ) (stmts : List Stmt) (stmt : Stmt) (parts : List Part) (part : Part) (below : n < length t.parts) (stmts_are : stmts ≡ program) (stmt_is : stmt ≡ get_or stmts n stmt) (parts_are : parts ≡ course.parts) (part_is : part ≡ get_or parts n part) where
    short : n < length course.parts
    short = subst (λ (v : TallyView). n < length v.parts) (sym is) below

    stmt_at : slice_get program n ≡ Some stmt
    stmt_at = got program stmts n stmt stmts_are (omega (arith, short, sound.run.evaluated)) stmt_is

    part_at : slice_get course.parts n ≡ Some part
    part_at = got course.parts parts n part parts_are short part_is

    is_part : IsPartOn stmt (state_before n program (state_of base)) part
    is_part = sound.run.parts n stmt part stmt_at part_at

    pub ordered_at : (q : Part) → q ≡ part → IsOrdered q.outcome
    ordered_at q e = subst (λ (p : Part). IsOrdered p.outcome) (sym e) (part_ordered stmt (state_before n program (state_of base)) part is_part)

    after : (q : Part) (before marks : Marks) → q ≡ part → before ≡ (run_of_first n t.program (state_of t.base)).1 → marks ≡ marks_past stmt q.outcome before → marks ≡ (run_of_first (n + 1) program (state_of base)).1
    after q before marks e is_before made =
        let here : before ≡ (run_of_first n program (state_of base)).1 = is_before ∙ ap (λ (v : TallyView). (run_of_first n v.program (state_of v.base)).1) (sym is) in
        let next_is : suc n ≡ n + 1 = omega arith in
        made ∙ ap (λ (p : Part). marks_past stmt p.outcome before) e ∙ ap (marks_past stmt part.outcome) here
        ∙ sym (marks_recalled (tally_of program base course) sound.run n stmt part stmt_at part_at short)
        ∙ ap (λ k. (run_of_first k program (state_of base)).1) next_is

    pub after_is : (q : Part) (before marks : Marks) → q ≡ part → before ≡ (run_of_first n t.program (state_of t.base)).1 → marks ≡ marks_past stmt q.outcome before → marks ≡ (run_of_first (n + 1) t.program (state_of t.base)).1
    after_is q before marks e is_before made = after q before marks e is_before made ∙ ap (λ (v : TallyView). (run_of_first (n + 1) v.program (state_of v.base)).1) is

    pub after_fits : (q : Part) (before marks : Marks) → q ≡ part → before ≡ (run_of_first n t.program (state_of t.base)).1 → marks ≡ marks_past stmt q.outcome before → FitMarks (state_of t.base) marks
    after_fits q before marks e is_before made =
        let within : n + 1 ≤ length program = omega (arith, short, sound.run.evaluated) in
        let fit : FitMarks (state_of base) marks = subst (FitMarks (state_of base)) (sym (after q before marks e is_before made)) (first_fits (n + 1) program (state_of base) within sound.is_state sound.fits).0 in
        subst (λ (v : TallyView). FitMarks (state_of v.base) marks) is fit
