-- A tally with one more statement evaluated, and one that has ended.
use Rattle.std.proofs.Common.{◌≡◌, ℕ, zero, suc, ◌+◌, ◌<◌, ◌≤◌, ◌==◌, Bool, true, false, List, [], ◌∷◌, ◌++◌, length, take, Some, refl, sym, ap, ◌∙◌, subst, inl, inr, arith}
use Rattle.std.specs.Prelude.{slice_get, ◌||◌}
use Rattle.std.specs.List.{AllByRecursion}
use Rattle.std.proofs.lemmas.Bool.{or_parts, or_cases, eqb-true, eq-eqb, true≢false, cases_lt}
use Rattle.std.proofs.lemmas.List.{length-append, take_all, length-take-le}
use Rattle.std.proofs.lemmas.Option.{slice_get_within}
use Rattle.lt_face.specs.State.{State}
use Rattle.lt_model.specs.declared.normal.Stmt.{Stmt}
use Rattle.lt_model.specs.declared.reply.Reply.{Reply}
use Rattle.lt_model.specs.Effect.{effect}
use Rattle.lt_model.specs.Fits.{Fits, FitsStatement, FitMarks}
use Rattle.lt_model.specs.Marks.{Marks, laid}
use Rattle.lt_model.specs.Run.{run}
use Rattle.lt_model.specs.State.{IsState}
use Rattle.lt_base.specs.Tables.{state_of}
use Rattle.lt_program.specs.Part.{Part}
use Rattle.lt_program.specs.Run.{AreReplied}
use Rattle.lt_program.specs.Tally.{TallyView, IsRun, ArePartsOf, IsPartOn, has_ended, is_refused, next, run_of_first, state_before}
use Rattle.lt_program.proofs.FittingRuns.{run_fits}
use Rattle.lt_program.proofs.RunGrows.{first_more, refused_whole}

-- ---- lists

some_is : {X : Type 0} (x y : X) → Some x ≡ Some y → x ≡ y
some_is x y e = cc

-- an element of the list with one more
pushed_at : {X : Type 0} (xs : List X) (x y : X) (j : ℕ) → slice_get (xs ++ x ∷ []) j ≡ Some y → (j < length xs → slice_get xs j ≡ Some y) × (length xs ≤ j → (j ≡ length xs) × (x ≡ y))
pushed_at [] x y zero h = (λ lt. absurd (omega arith), λ le. (refl, some_is x y h))
pushed_at [] x y (suc j) h = (λ lt. absurd (omega arith), λ le. cc)
pushed_at (z ∷ xs) x y zero h = (λ lt. h, λ le. absurd (omega arith))
pushed_at (z ∷ xs) x y (suc j) h =
    let r = pushed_at xs x y j h in
    (λ lt. r.0 (omega arith), λ le. let q = r.1 (omega arith) in (ap suc q.0, q.1))

-- ---- one more

abbrev pub grown : TallyView → Part → Reply → Marks → TallyView
grown t part reply marks = record { program = t.program; base = t.base; parts = t.parts ++ part ∷ []; reply = reply; marks = marks }

module _ (t : TallyView) (s : Stmt) (part : Part) (run : IsRun t) (going : is_refused t.reply ≡ false) (is : slice_get t.program (length t.parts) ≡ Some s) (is_part : IsPartOn s (laid (state_of t.base) t.marks) part) where
  abbrev n : ℕ
  n = length t.parts

  -- the reply and the marks with the statement's
  abbrev more : Reply × Marks
  more = next (n + 1) (effect s (laid (state_of t.base) t.marks)) (t.reply, t.marks)

  long : length (t.parts ++ part ∷ []) ≡ suc n
  long = length-append t.parts (part ∷ []) ∙ (omega arith)

  whole : run_of_first (suc n) t.program (state_of t.base) ≡ more
  whole = first_more n t.program s (state_of t.base) is ∙ same (run_of_first n t.program (state_of t.base)) run.reply run.marks
    where
      same : (out : Reply × Marks) → t.reply ≡ out.0 → t.marks ≡ out.1 → next (n + 1) (effect s (laid (state_of t.base) out.1)) out ≡ more
      same (reply, marks) a b = cc

  told : run_of_first (length (t.parts ++ part ∷ [])) t.program (state_of t.base) ≡ more
  told = ap (λ k. run_of_first k t.program (state_of t.base)) long ∙ whole

  parts : ArePartsOf (grown t part more.0 more.1)
  parts j stmt p there at =
      let split = pushed_at t.parts part p j at in
      elim (cases_lt j n) [
        | inl lt ↦ run.parts j stmt p there (split.0 lt)
        | inr le ↦
            let last = split.1 le in
            let stmt_is : s ≡ stmt = some_is s stmt (sym is ∙ (ap (slice_get t.program) (sym last.0) ∙ there)) in
            let state_is : laid (state_of t.base) t.marks ≡ state_before j t.program (state_of t.base) = ap (laid (state_of t.base)) run.marks ∙ ap (λ k. state_before k t.program (state_of t.base)) (sym last.0) in
            subst (λ (st : State). IsPartOn stmt st p) state_is (subst (λ (q : Part). IsPartOn stmt (laid (state_of t.base) t.marks) q) last.1 (subst (λ (x : Stmt). IsPartOn x (laid (state_of t.base) t.marks) part) stmt_is is_part))
      ]

  went_on : (j : ℕ) → j < length (t.parts ++ part ∷ []) → is_refused (run_of_first j t.program (state_of t.base)).0 ≡ false
  went_on j lt =
      elim (cases_lt j n) [
        | inl below ↦ run.went_on j below
        | inr le ↦
            let last : j ≡ n = omega (arith, long) in
            subst (λ k. is_refused (run_of_first k t.program (state_of t.base)).0 ≡ false) (sym last) (ap is_refused (sym run.reply) ∙ going)
      ]

  pub IsRun-grown : IsRun (grown t part more.0 more.1)
  IsRun-grown = record {
    evaluated = omega (arith, long, slice_get_within t.program n s is);
    reply = sym (ap (λ (out : Reply × Marks). out.0) told);
    marks = sym (ap (λ (out : Reply × Marks). out.1) told);
    parts = parts;
    went_on = went_on;
  }

  -- with the parts, the reply and the marks that they are
  pub IsRun-one_more : (all : List Part) (reply : Reply) (marks : Marks) → all ≡ t.parts ++ part ∷ [] → reply ≡ more.0 → marks ≡ more.1 → IsRun (record { program = t.program; base = t.base; parts = all; reply = reply; marks = marks })
  IsRun-one_more all reply marks a b c =
      subst (λ (xs : List Part). IsRun (record { program = t.program; base = t.base; parts = xs; reply = reply; marks = marks })) (sym a)
      (subst (λ (r : Reply). IsRun (record { program = t.program; base = t.base; parts = t.parts ++ part ∷ []; reply = r; marks = marks })) (sym b)
      (subst (λ (m : Marks). IsRun (record { program = t.program; base = t.base; parts = t.parts ++ part ∷ []; reply = more.0; marks = m })) (sym c) IsRun-grown))

-- ---- the end

pub going_on : (t : TallyView) → has_ended t ≡ false → IsRun t → (is_refused t.reply ≡ false) × (length t.parts < length t.program)
going_on t h run =
    let parts = or_parts (is_refused t.reply) (length t.parts == length t.program) h in (
      parts.0,
      elim (cases_lt (length t.parts) (length t.program)) [
        | inl lt ↦ lt
        | inr le ↦ let e : length t.parts ≡ length t.program = omega (arith, run.evaluated) in absurd (true≢false (sym (eq-eqb (length t.parts) (length t.program) e) ∙ parts.1))
      ],
    )

pub ended_run : (t : TallyView) → IsRun t → has_ended t ≡ true → run_of_first (length t.parts) t.program (state_of t.base) ≡ run t.program (state_of t.base)
ended_run t runs h =
    elim (or_cases (is_refused t.reply) (length t.parts == length t.program) h) [
      | inl refused ↦ refused_whole (length t.parts) t.program (state_of t.base) (ap is_refused (sym runs.reply) ∙ refused)
      | inr all ↦ let e = eqb-true (length t.parts) (length t.program) all in ap (λ stmts. run stmts (state_of t.base)) (take_all (length t.parts) t.program (omega arith))
    ]

-- ---- what fits

each_take : (P : Stmt → Type 0) (n : ℕ) (xs : List Stmt) → AllByRecursion P xs → AllByRecursion P (take n xs)
each_take P zero xs all = tt
each_take P (suc n) [] all = tt
each_take P (suc n) (x ∷ xs) all = (all.0, each_take P n xs all.1)

pub first_fits : (n : ℕ) (program : List Stmt) (state : State) → n ≤ length program → IsState state → Fits state program → FitMarks state (run_of_first n program state).1 × AreReplied (run_of_first n program state).0
first_fits n program state le is fits =
    run_fits state (take n program) is (record { each = each_take (FitsStatement state) n program fits.each; has_few = omega (arith, fits.has_few, length-take-le n program le) })

-- ---- what is told at the end

pub over_is : (t : TallyView) (count : ℕ) (over : Bool) → count ≡ length t.program → over ≡ (is_refused t.reply || length t.parts == count) → over ≡ has_ended t
over_is t count over e h = h ∙ ap (λ n. is_refused t.reply || length t.parts == n) e

pub ended_reply : (t : TallyView) → IsRun t → has_ended t ≡ true → t.reply ≡ (run t.program (state_of t.base)).0
ended_reply t runs h = runs.reply ∙ ap (λ (out : Reply × Marks). out.0) (ended_run t runs h)

pub ended_marks : (t : TallyView) → IsRun t → has_ended t ≡ true → t.marks ≡ (run t.program (state_of t.base)).1
ended_marks t runs h = runs.marks ∙ ap (λ (out : Reply × Marks). out.1) (ended_run t runs h)
