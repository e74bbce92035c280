-- What marks keep of the rows that they are laid on.
use Rattle.std.proofs.Common.{ℕ, zero, suc, true, false, cond, List, [], ◌∷◌}
use Rattle.std.specs.List.{AllByRecursion}
use Rattle.lt_face.specs.Rows.{IsCell, with_row, without_row}
use Rattle.lt_face.specs.State.{Row, Relation, State}
use Rattle.lt_face.proofs.RowLemmas.{each_with_row, each_filter}
use Rattle.lt_model.specs.declared.mark.Mark.{Mark}
use Rattle.lt_model.specs.Marks.{Marks, write, change, lay, laid}
use Rattle.lt_program.specs.Effect.{HaveCells}

each_write : (P : Row → Type 0) (m : Mark) (rows : List Row) → P m.row → AllByRecursion P rows → AllByRecursion P (write m rows)
each_write P m rows one all = elim m.plus as (λ b. AllByRecursion P (cond b (with_row rows m.row) (without_row rows m.row))) [ true ↦ each_with_row P rows m.row all one | false ↦ each_filter P _ rows all ]

pub each_change : (P : List Row → Type 0) (n : ℕ) (f : List Row → List Row) (s : State) → ((rows : List Row) → P rows → P (f rows)) → AllByRecursion (λ (r : Relation). P r.rows) s → AllByRecursion (λ (r : Relation). P r.rows) (change n f s)
each_change P n f [] keep all = tt
each_change P zero f (r ∷ s) keep all = (keep r.rows all.0, all.1)
each_change P (suc n) f (r ∷ s) keep all = (all.0, each_change P n f s keep all.1)

-- the rows of a state are of cells
abbrev pub HasCells : State → Type 0
HasCells s = AllByRecursion (λ (r : Relation). AllByRecursion (AllByRecursion IsCell) r.rows) s

pub HasCells-laid : (s : State) (marks : Marks) → HaveCells marks → HasCells s → HasCells (laid s marks)
HasCells-laid s [] cells all = all
HasCells-laid s (m ∷ marks) cells all =
    HasCells-laid (lay s m) marks cells.1 (each_change (AllByRecursion (AllByRecursion IsCell)) m.relation (write m) s (λ rows h. each_write (AllByRecursion IsCell) m rows cells.0 h) all)
