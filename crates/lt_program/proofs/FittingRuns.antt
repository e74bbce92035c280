-- What a program that fits a state writes and prints fits too.
use Rattle.std.proofs.Common.{◌≡◌, ℕ, ◌+◌, ◌≤◌, Bool, true, false, cond, List, [], ◌∷◌, ◌++◌, length, refl, sym, subst, inl, inr}
use Rattle.std.specs.List.{AllByRecursion}
use Rattle.std.specs.Prelude.{flat_map, IsTrue}
use Rattle.lt_face.specs.Lists.{IsIn}
use Rattle.lt_face.specs.Rows.{IsCell, IsRow}
use Rattle.lt_face.specs.State.{Row, State}
use Rattle.lt_face.proofs.RowLemmas.{each_weaker}
use Rattle.lt_delta.proofs.Composes.{each_after}
use Rattle.lt_delta.proofs.Kept.{IsState-laid}
use Rattle.lt_model.specs.declared.reply.Reply.{Reply}
use Rattle.lt_model.specs.declared.normal.Term.{Term}
use Rattle.lt_model.specs.declared.normal.Atom.{Atom}
use Rattle.lt_model.specs.declared.normal.Body.{Body}
use Rattle.lt_model.specs.declared.normal.Stmt.{Stmt}
use Rattle.lt_model.specs.declared.normal.Stmt.TheVariants.{Insert, Delete, Replace, Require, Print}
use Rattle.lt_model.specs.Answers.{answers}
use Rattle.lt_model.specs.Bound.{are_bound}
use Rattle.lt_model.specs.Effect.{Effect, Writes, Requires, Prints, Clashes, has_clash, displaced, marks_on, marks_of, is_plain, displacing, coming, behind, effect}
use Rattle.lt_model.specs.Fits.{IsWide, IsTermOf, IsBodyOf, IsHeadOf, AreKeysOf, FitsStatement, Fits, IsMarkOf, FitMarks}
use Rattle.lt_model.specs.Marks.{Marks, AreMarks, and_then, laid}
use Rattle.lt_model.proofs.Composition.{AreMarks-and_then}
use Rattle.lt_model.specs.Run.{Progress, run_on, run_from, run}
use Rattle.lt_model.specs.State.{IsState}
use Rattle.lt_query.proofs.Displaced.{displaced_has}
use Rattle.lt_query.proofs.Wide.{answers_wide, each_in, state_row}
use Rattle.lt_program.specs.Run.{ArePrinted, AreReplied}
use Rattle.lt_program.proofs.BoundCells.{AreRows, answers_cells}
use Rattle.lt_program.proofs.LaidRows.{HasCells}
use Rattle.lt_program.proofs.Widths.{IsWide-laid}

pushed : {X : Type 0} (P : X → Type 0) (xs : List X) (x : X) → AllByRecursion P xs → P x → AllByRecursion P (xs ++ x ∷ [])
pushed P [] x all h = (h, tt)
pushed P (y ∷ xs) x all h = (all.0, pushed P xs x all.1 h)

-- ---- marks of a head

pub IsState-cells : (state : State) → IsState state → HasCells state
IsState-cells [] all = tt
IsState-cells (relation ∷ state) all = (each_weaker (IsRow relation.width) (AllByRecursion IsCell) (λ row h. h.has_cells) relation.rows all.0.each, IsState-cells state all.1)

marked : (state : State) (relation n : ℕ) (plus : Bool) (rows : List Row) → IsWide state relation n → AllByRecursion (IsRow n) rows → FitMarks state (marks_on relation plus rows)
marked state relation n plus [] wide each = tt
marked state relation n plus (row ∷ rows) wide each =
    (record { is_wide = subst (λ k. IsWide state relation k) (sym each.0.is_wide) wide; has_cells = each.0.has_cells }, marked state relation n plus rows wide each.1)

-- ---- displaced rows

each_append : {X : Type 0} (P : X → Type 0) (xs ys : List X) → AllByRecursion P xs → AllByRecursion P ys → AllByRecursion P (xs ++ ys)
each_append P [] ys h k = k
each_append P (x ∷ xs) ys h k = (h.0, each_append P xs ys h.1 k)

each_of : {X : Type 0} (P : X → Type 0) (f : Row → List X) (rows : List Row) → ((row : Row) → IsIn row rows → AllByRecursion P (f row)) → AllByRecursion P (flat_map f rows)
each_of P f [] h = tt
each_of P f (row ∷ rows) h = each_append P (f row) (flat_map f rows) (h row (inl refl)) (each_of P f rows (λ r k. h r (inr k)))

each_there : {X : Type 0} (P : X → Type 0) (xs : List X) → ((x : X) → IsIn x xs → P x) → AllByRecursion P xs
each_there P [] h = tt
each_there P (x ∷ xs) h = (h x (inl refl), each_there P xs (λ y k. h y (inr k)))

-- they are rows of their relation
displaced_fit : (now : State) (relation keys n : ℕ) (rows : List Row) → IsState now → IsWide now relation n → keys ≤ n → AllByRecursion (λ row. length row ≡ n) rows → AllByRecursion (IsRow n) (displaced relation keys now rows)
displaced_fit now relation keys n rows is wide less widths =
    each_there (IsRow n) (displaced relation keys now rows)
    (λ other h. state_row now relation n other is wide (displaced_has relation keys now rows other (λ row k. subst (λ m. keys ≤ m) (sym (each_in (λ r. length r ≡ n) row rows widths k)) less) h).2)

-- ---- what a statement does fits

abbrev pub FitsEffect : State → Effect → Type 0
FitsEffect state (Writes marks) = FitMarks state marks
FitsEffect state (Requires truth) = Unit {0}
FitsEffect state (Prints kinds rows) = AllByRecursion (IsRow (length kinds)) rows
FitsEffect state Clashes = Unit {0}

behind_fits : (state : State) (marks : Marks) (e : Effect) → FitMarks state marks → FitsEffect state e → FitsEffect state (behind marks e)
behind_fits state marks (Writes more) h k = each_after (IsMarkOf state) marks more h k
behind_fits state marks (Requires truth) h k = tt
behind_fits state marks (Prints kinds rows) h k = k
behind_fits state marks Clashes h k = tt

-- a statement is seen on a state on which its program's earlier marks are laid
module _ (state now : State) (is : IsState now) (same : (relation n : ℕ) → IsWide state relation n → IsWide now relation n) where
  rows_fit : (terms : List Term) (body : Body) → IsBodyOf state body → AllByRecursion (IsTermOf body.vars) terms → IsTrue (are_bound body terms) → AllByRecursion (IsRow (length terms)) (answers terms body now)
  rows_fit terms body b h bound = both_each (answers terms body now) (answers_wide terms body now) (answers_cells body.vars terms body now b.tests h bound (IsState-cells now is))
    where
      both_each : (rows : List Row) → AllByRecursion (λ row. length row ≡ length terms) rows → AreRows rows → AllByRecursion (IsRow (length terms)) rows
      both_each [] wide cells = tt
      both_each (row ∷ rows) wide cells = (record { is_wide = wide.0; has_cells = cells.0 }, both_each rows wide.1 cells.1)

  pub head_rows : (head : Atom) (body : Body) → IsBodyOf state body → IsHeadOf state body head → AllByRecursion (IsRow (length head.terms)) (answers head.terms body now)
  head_rows head body b h = rows_fit head.terms body b h.fits.has_terms h.is_bound

  head_fits : (plus : Bool) (head : Atom) (body : Body) → IsBodyOf state body → IsHeadOf state body head → FitMarks state (marks_of plus head body now)
  head_fits plus head body b h = marked state head.relation (length head.terms) plus (answers head.terms body now) h.fits.is_wide (head_rows head body b h)

  coming_fits : (head : Atom) (keys : ℕ) (body : Body) → IsBodyOf state body → IsHeadOf state body head → AreKeysOf head keys → FitsEffect state (coming head keys (answers head.terms body now) now)
  coming_fits head keys body b h few =
      elim (is_plain head keys) as (λ t. FitsEffect state (cond t (Writes (marks_on head.relation true rows)) (cond (has_clash keys rows) Clashes (Writes (displacing head.relation gone rows))))) [
        | true ↦ head_fits true head body b h
        | false ↦ elim (has_clash keys rows) as (λ t. FitsEffect state (cond t Clashes (Writes (displacing head.relation gone rows)))) [
          | true ↦ tt
          | false ↦
              each_after (IsMarkOf state) (marks_on head.relation false gone) (marks_on head.relation true rows)
              (marked state head.relation (length head.terms) false gone h.fits.is_wide (displaced_fit now head.relation keys (length head.terms) rows is (same head.relation (length head.terms) h.fits.is_wide) few.1 (answers_wide head.terms body now)))
              (head_fits true head body b h)
        ]
      ]
    where
      rows : List Row
      rows = answers head.terms body now

      gone : List Row
      gone = displaced head.relation keys now rows

  pub fits_effect : (s : Stmt) → FitsStatement state s → FitsEffect state (effect s now)
  fits_effect (Insert head keys body) k = coming_fits head keys body k.0 k.1 k.2
  fits_effect (Delete head body) k = head_fits false head body k.0 k.1
  fits_effect (Replace gone come keys body) k =
      behind_fits state (marks_of false gone body now) (coming come keys (answers come.terms body now) now) (head_fits false gone body k.0 k.1) (coming_fits come keys body k.0 k.2 k.3)
  fits_effect (Require true body) k = tt
  fits_effect (Require false body) k = tt
  fits_effect (Print terms kinds body) k = subst (λ n. AllByRecursion (IsRow n) (answers terms body now)) k.1.is_wide (rows_fit terms body k.0 k.1.has_terms k.1.is_bound)

-- ---- how far a run has come

pub record IsGood (state : State) (p : Progress) : Type 0 where
  pub marks : FitMarks state p.marks
  pub prints : AllByRecursion ArePrinted p.prints

abbrev pub IsGoodEnd : State → Reply × Marks → Type 0
IsGoodEnd state out = FitMarks state out.1 × AreReplied out.0

-- an effect that fits is taken in, where the run goes on well with whatever is good
effect_fits : (state : State) (j : ℕ) (p : Progress) (e : Effect) → FitsEffect state e → IsGood state p → (rest : Progress → Reply × Marks) → ((q : Progress) → IsGood state q → IsGoodEnd state (rest q)) → IsGoodEnd state (run_on j p e rest)
effect_fits state j p (Writes marks) h fits rest good = good (record p { marks = and_then p.marks marks }) (record { marks = each_after (IsMarkOf state) p.marks marks fits.marks h; prints = fits.prints })
effect_fits state j p (Requires true) h fits rest good = good p fits
effect_fits state j p (Requires false) h fits rest good = (tt, tt)
effect_fits state j p (Prints kinds rows) h fits rest good =
    good (record p { prints = p.prints ++ record { statement = j; kinds = kinds; rows = rows } ∷ [] })
    (record { marks = fits.marks; prints = pushed ArePrinted p.prints (record { statement = j; kinds = kinds; rows = rows }) fits.prints h })
effect_fits state j p Clashes h fits rest good = (tt, tt)

-- a statement's effect on a state with marks laid on it fits
pub fits_on : (state : State) (marks : Marks) (s : Stmt) → IsState state → FitMarks state marks → FitsStatement state s → FitsEffect state (effect s (laid state marks))
fits_on state marks s is fits h = fits_effect state (laid state marks) (IsState-laid state marks is fits) (IsWide-laid state marks) s h

run_from_fits : (state : State) → IsState state → (j : ℕ) (program : List Stmt) (p : Progress) → AllByRecursion (FitsStatement state) program → IsGood state p → IsGoodEnd state (run_from j program state p)
run_from_fits state is j [] p each fits = (fits.marks, fits.prints)
run_from_fits state is j (s ∷ program) p each fits =
    effect_fits state j p (effect s (laid state p.marks)) (fits_on state p.marks s is fits.marks each.0) fits (run_from (j + 1) program state) (λ q k. run_from_fits state is (j + 1) program q each.1 k)

pub run_fits : (state : State) (program : List Stmt) → IsState state → Fits state program → IsGoodEnd state (run program state)
run_fits state program is fits = run_from_fits state is 1 program (record { marks = []; prints = [] }) fits.each (record { marks = tt; prints = tt })

-- ---- the marks of a run ascend

taken_ascends : (j : ℕ) (p : Progress) (e : Effect) (rest : Progress → Reply × Marks) → AreMarks p.marks → ((q : Progress) → AreMarks q.marks → AreMarks (rest q).1) → AreMarks (run_on j p e rest).1
taken_ascends j p (Writes marks) rest up on = on (record p { marks = and_then p.marks marks }) (AreMarks-and_then p.marks marks up)
taken_ascends j p (Requires true) rest up on = on p up
taken_ascends j p (Requires false) rest up on = tt
taken_ascends j p Clashes rest up on = tt
taken_ascends j p (Prints kinds rows) rest up on = on (record p { prints = p.prints ++ record { statement = j; kinds = kinds; rows = rows } ∷ [] }) up

from_ascends : (j : ℕ) (program : List Stmt) (state : State) (p : Progress) → AreMarks p.marks → AreMarks (run_from j program state p).1
from_ascends j [] state p up = up
from_ascends j (s ∷ program) state p up =
    taken_ascends j p (effect s (laid state p.marks)) (run_from (j + 1) program state) up (λ q. from_ascends (j + 1) program state q)

pub run_ascends : (program : List Stmt) (state : State) → AreMarks (run program state).1
run_ascends program state = from_ascends 1 program state (record { marks = []; prints = [] }) tt
