-- Where nothing touches a program, it ends where it did.
use Rattle.std.proofs.Common.{◌≡◌, ℕ, zero, suc, ◌<◌, true, List, [], ◌∷◌, length, Some, refl, sym, ap, ◌∙◌, inl, inr, subst, arith}
use mathlib.Core.Bool.{true≢false}
use Rattle.std.specs.Prelude.{slice_get, ◌==◌}
use Rattle.std.proofs.lemmas.Bool.{or_cases, eqb-true, cases_lt}
use Rattle.std.proofs.lemmas.Option.{slice_get_within}
use Rattle.lt_base.specs.Tables.{Table, state_of}
use Rattle.lt_model.specs.Fits.{FitMarks}
use Rattle.lt_model.specs.Run.{run as run_of}
use Rattle.lt_program.specs.Run.{AreReplied}
use Rattle.lt_program.proofs.TallyCosts.{ends_here}
use Rattle.lt_restate.specs.declared.touch.Touch.{Touch}
use Rattle.lt_restate.proofs.Costing.{has_touch}
use Rattle.lt_model.specs.declared.normal.Stmt.{Stmt}
use Rattle.lt_program.specs.Part.{Part}
use Rattle.lt_program.specs.Tally.{TallyView, IsRun, has_ended, is_refused, run_of_first}
use Rattle.lt_program.proofs.Recalls.{refusal_recalled}
use Rattle.lt_restate.specs.Touches.{AreTouches, IsRestatement}
use Rattle.lt_restate.proofs.Ways.{there_is}

-- a tally that ended goes no further where its parts are another's
goes_no_further : (a b : TallyView) → IsRun a → IsRun b → b.program ≡ a.program → has_ended a ≡ true → ((j : ℕ) (part : Part) → slice_get a.parts j ≡ Some part → slice_get b.parts j ≡ Some part) → length a.parts < length b.parts → ⊥
goes_no_further a b run_a run_b same ended parts lt =
    elim (or_cases (is_refused a.reply) (length a.parts == length a.program) ended) [
      | inl refused ↦ at (length a.parts) refl refused
      | inr all ↦ (let e = eqb-true (length a.parts) (length a.program) all in let long : length b.program ≡ length a.program = ap length same in omega (arith, run_b.evaluated, lt))
    ]
  where
    at : (n : ℕ) → length a.parts ≡ n → is_refused a.reply ≡ true → ⊥
    at zero e refused = true≢false (sym refused ∙ ap is_refused run_a.reply ∙ ap (λ k. is_refused (run_of_first k a.program (state_of a.base)).0) e)
    at (suc m) e refused =
        let part = there_is a.parts m (omega arith) in
        let stmt = there_is a.program m (omega (arith, run_a.evaluated)) in
        let in_b = parts m part.0 part.1 in
        let stmt_b : slice_get b.program m ≡ Some stmt.0 = ap (λ (p : List Stmt). slice_get p m) same ∙ stmt.1 in
        let of_a = refusal_recalled a run_a m stmt.0 part.0 stmt.1 part.1 (omega arith) in
        let of_b = refusal_recalled b run_b m stmt.0 part.0 stmt_b in_b (omega arith) in
        let yes : is_refused (run_of_first (suc m) a.program (state_of a.base)).0 ≡ true = ap (λ k. is_refused (run_of_first k a.program (state_of a.base)).0) (sym e) ∙ ap is_refused (sym run_a.reply) ∙ refused in
        true≢false (sym yes ∙ of_a ∙ sym of_b ∙ run_b.went_on (suc m) (omega arith))

lists_same : (xs ys : List Part) → length xs ≡ length ys → ((j : ℕ) (part : Part) → slice_get ys j ≡ Some part → slice_get xs j ≡ Some part) → xs ≡ ys
lists_same [] [] long same = refl
lists_same [] (y ∷ ys) long same = absurd (omega arith)
lists_same (x ∷ xs) [] long same = absurd (omega arith)
lists_same (x ∷ xs) (y ∷ ys) long same =
    let first : Some x ≡ Some y = same 0 y refl in
    let one : x ≡ y = cc in
    let rest : length xs ≡ length ys = omega arith in
    ap (λ (z : Part). z ∷ xs) one ∙ ap (λ (zs : List Part). y ∷ zs) (lists_same xs ys rest (λ j part h. same (suc j) part h))

pub ends_alike : (old new : TallyView) → IsRun old → IsRun new → new.program ≡ old.program → has_ended old ≡ true → has_ended new ≡ true → AreTouches old new [] → new.parts ≡ old.parts
ends_alike old new run_old run_new same ended_old ended_new touches = lists_same new.parts old.parts long all
  where
    kept : (j : ℕ) (part : Part) → slice_get old.parts j ≡ Some part → j < length new.parts → slice_get new.parts j ≡ Some part
    kept j part at lt = elim (touches.others j part at lt) [ inl has ↦ absurd has.1 | inr k ↦ k.same ]

    longer : length old.parts < length new.parts → ⊥
    longer lt = goes_no_further old new run_old run_new same ended_old (λ j part at. kept j part at (omega (arith, lt, slice_get_within old.parts j part at))) lt

    back : (j : ℕ) (part : Part) → length new.parts < length old.parts → slice_get new.parts j ≡ Some part → slice_get old.parts j ≡ Some part
    back j part lt at =
        let there = there_is old.parts j (omega (arith, lt, slice_get_within new.parts j part at)) in
        let here = kept j there.0 there.1 (slice_get_within new.parts j part at) in
        let e : Some there.0 ≡ Some part = sym here ∙ at in
        there.1 ∙ e

    shorter : length new.parts < length old.parts → ⊥
    shorter lt = goes_no_further new old run_new run_old (sym same) ended_new (λ j part at. back j part lt at) lt

    long : length new.parts ≡ length old.parts
    long = elim (cases_lt (length new.parts) (length old.parts)) [
      | inl lt ↦ absurd (shorter lt)
      | inr le ↦ elim (cases_lt (length old.parts) (length new.parts)) [ inl lt ↦ absurd (longer lt) | inr ge ↦ omega arith ]
    ]

    all : (j : ℕ) (part : Part) → slice_get old.parts j ≡ Some part → slice_get new.parts j ≡ Some part
    all j part at = kept j part at (omega (arith, long, slice_get_within old.parts j part at))

-- the whole restatement
pub restated : (old new : TallyView) (next : List Table) (touches : List Touch) → new.program ≡ old.program → new.base ≡ next → IsRun old → IsRun new → has_ended old ≡ true → has_ended new ≡ true
    → new.reply ≡ (run_of new.program (state_of new.base)).0 → new.marks ≡ (run_of new.program (state_of new.base)).1 → FitMarks (state_of new.base) new.marks → AreReplied new.reply → AreTouches old new touches → IsRestatement old next new touches
restated old new next touches program base run_old run_new ended_old ended_new reply marks fits printed are = record {
  program = program;
  base = base;
  ended = ended_new;
  run = run_new;
  evaluated = ends_here new run_new ended_new old.program next program base;
  reply = reply ∙ ap (λ (p : List Stmt). (run_of p (state_of new.base)).0) program ∙ ap (λ (b : List Table). (run_of old.program (state_of b)).0) base;
  marks = marks ∙ ap (λ (p : List Stmt). (run_of p (state_of new.base)).1) program ∙ ap (λ (b : List Table). (run_of old.program (state_of b)).1) base;
  fits = subst (λ (b : List Table). FitMarks (state_of b) new.marks) base fits;
  printed = printed;
  touches = are;
  again = has_touch old new next touches touches program base refl are;
  same_end = λ none. ends_alike old new run_old run_new program ended_old ended_new (subst (AreTouches old new) none are);
}
