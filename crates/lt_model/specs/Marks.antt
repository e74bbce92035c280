-- Marks: what programs write, and states with marks laid on them.
use Rattle.std.specs.Prelude.{◌≡◌, ℕ, zero, suc, List, [], ◌∷◌, fold, if◌then◌else◌, ⊤}
use Rattle.std.specs.List.{AllByRecursion}
use Rattle.std.specs.Ordering.{nat_cmp}
use Rattle.std.specs.declared.cmp.Ordering.{Ordering}
use Rattle.std.specs.declared.cmp.Ordering.TheVariants.{Less, Greater}
use Rattle.lt_face.specs.Rows.{row_cmp, by_order, with_row, without_row}
use Rattle.lt_model.specs.declared.mark.Mark.{Mark}
use Rattle.lt_face.specs.State.{Row, State}

-- by relation, then by row
abbrev pub mark_cmp : Mark → Mark → Ordering
mark_cmp a b = by_order (nat_cmp a.relation b.relation) Less (row_cmp a.row b.row) Greater

abbrev pub Marks : Type 0
Marks = List Mark

-- strictly ascending
abbrev pub AreMarks : Marks → Type 0
AreMarks [] = ⊤
AreMarks (m ∷ marks) = AllByRecursion (λ n. mark_cmp m n ≡ Less) marks × AreMarks marks

-- the marks with one more at its place; of two on one row the later stays
abbrev pub with_mark : Marks → Mark → Marks
with_mark [] m = m ∷ []
with_mark (n ∷ marks) m = by_order (mark_cmp n m) (n ∷ with_mark marks m) (m ∷ marks) (m ∷ (n ∷ marks))

-- both, b's mark where both have one
abbrev pub and_then : Marks → Marks → Marks
and_then a b = fold with_mark a b

-- the rows with the mark's row in, or without it
abbrev pub write : Mark → List Row → List Row
write m rows = if m.plus then with_row rows m.row else without_row rows m.row

-- the relation of this number changed
abbrev pub change : ℕ → (List Row → List Row) → State → State
change n f [] = []
change zero f (relation ∷ state) = record relation { rows = f relation.rows } ∷ state
change (suc n) f (relation ∷ state) = relation ∷ change n f state

abbrev pub lay : State → Mark → State
lay state m = change m.relation (write m) state

-- a state with marks laid on it
abbrev pub laid : State → Marks → State
laid state marks = fold lay state marks
