-- Marks laid on lists of rows.
use Rattle.std.proofs.Common.{◌≡◌, ℕ, zero, suc, ◌+◌, ◌<◌, ◌≤◌, true, false, cond, List, [], ◌∷◌, length, drop, add-one, drop-cons, get_or, refl, sym, ap, ◌∙◌, arith}
use Rattle.std.specs.Prelude.{slice_set, slice_get, Some}
use Rattle.std.proofs.lemmas.Option.{slice_get_within, get_or_from_slice_get}
use Rattle.std.specs.List.{AllByRecursion}
use Rattle.lt_face.specs.Rows.{IsAscending, with_row, without_row}
use Rattle.lt_face.specs.State.{Row, Relation, State}
use Rattle.lt_face.proofs.RowLemmas.{ascending-with_row, ascending-filter, each_at}
use Rattle.lt_model.specs.declared.mark.Mark.{Mark}
use Rattle.lt_model.specs.Laws.{Rises}
use Rattle.lt_model.specs.Marks.{Marks, write, change, lay, laid}
use Rattle.lt_program.proofs.LaidRows.{each_change}
use Rattle.lt_reference.specs.Walk.{bare}

-- ---- what a write keeps

pub IsAscending-write : (m : Mark) (rows : List Row) → IsAscending rows → IsAscending (write m rows)
IsAscending-write m rows up = elim m.plus as (λ b. IsAscending (cond b (with_row rows m.row) (without_row rows m.row))) [ true ↦ ascending-with_row rows m.row up | false ↦ ascending-filter _ rows up ]

pub Rises-lay : (s : State) (m : Mark) → Rises s → Rises (lay s m)
Rises-lay s m up = each_change IsAscending m.relation (write m) s (λ rows h. IsAscending-write m rows h) up

pub Rises-laid : (s : State) (marks : Marks) → Rises s → Rises (laid s marks)
Rises-laid s [] up = up
Rises-laid s (m ∷ marks) up = Rises-laid (lay s m) marks (Rises-lay s m up)

-- ---- lists of rows as a state

pub bare_each : (P : List Row → Type 0) (relations : List (List Row)) → AllByRecursion P relations → AllByRecursion (λ (r : Relation). P r.rows) (bare relations)
bare_each P [] all = tt
bare_each P (rows ∷ relations) all = (all.0, bare_each P relations all.1)

pub each_bare : (P : List Row → Type 0) (relations : List (List Row)) → AllByRecursion (λ (r : Relation). P r.rows) (bare relations) → AllByRecursion P relations
each_bare P [] all = tt
each_bare P (rows ∷ relations) all = (all.0, each_bare P relations all.1)

-- the rows in place n taken out, and others put there
pub bare_set : (relations : List (List Row)) (n : ℕ) (d : List Row) (f : List Row → List Row) (none rows : List Row) → n < length relations → rows ≡ f (get_or relations n d) → bare (slice_set (slice_set relations n none) n rows) ≡ change n f (bare relations)
bare_set [] n d f none rows lt is = absurd (omega arith)
bare_set (r ∷ relations) zero d f none rows lt is = ap (λ (z : List Row). record { width = 0; rows = z } ∷ bare relations) is
bare_set (r ∷ relations) (suc n) d f none rows lt is = ap (λ (z : State). record { width = 0; rows = r } ∷ z) (bare_set relations n d f none rows (omega arith) is)

pub bare_past : (relations : List (List Row)) (n : ℕ) (f : List Row → List Row) → length relations ≤ n → change n f (bare relations) ≡ bare relations
bare_past [] n f le = refl
bare_past (r ∷ relations) zero f le = absurd (omega arith)
bare_past (r ∷ relations) (suc n) f le = ap (λ (z : State). record { width = 0; rows = r } ∷ z) (bare_past relations n f (omega arith))

pub ascending_in : (relations : List (List Row)) (n : ℕ) (d : List Row) → Rises (bare relations) → n < length relations → IsAscending (get_or relations n d)
ascending_in relations n d up lt = each_at IsAscending relations n d (each_bare IsAscending relations up) lt

pub laid_step : (state : State) (marks : Marks) (i : ℕ) (m : Mark) (next : State) → slice_get marks i ≡ Some m → next ≡ lay state m → laid next (drop (i + 1) marks) ≡ laid state (drop i marks)
laid_step state marks i m next at step =
    rw add-one (ap (λ s. laid s (drop (suc i) marks)) step ∙ sym (ap (laid state) (drop-cons marks i m (slice_get_within marks i m at) ∙ ap (λ k. k ∷ drop (suc i) marks) (get_or_from_slice_get marks i m m at))))
