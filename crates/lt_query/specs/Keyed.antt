-- Statements leave one row for a key.
use Rattle.std.specs.Prelude.{◌≡◌, ℕ, suc, ◌≤◌, ◌<◌, false, List, [], take, filter, length, slice_index_or}
use Rattle.std.specs.List.{AllByRecursion}
use Rattle.lt_face.specs.State.{Row, State, rows_in}
use Rattle.lt_model.specs.declared.normal.Stmt.{Stmt}
use Rattle.lt_face.specs.Rows.{IsAscending}
use Rattle.lt_model.specs.Answers.{answers}
use Rattle.lt_model.specs.Effect.{Writes, effect, same_row, key_terms, key_body, has_clash}
use Rattle.lt_model.specs.Fits.{IsWide, FitsStatement}
use Rattle.lt_model.specs.Keyed.{Keys, IsKeyed, InsertsBy}
use Rattle.lt_model.specs.Marks.{Marks, laid}
use Rattle.lt_model.specs.State.{IsState}

-- what a statement writes leaves one row for a key
abbrev pub WritesStayKeyed : Type 0
WritesStayKeyed =
    (keys : Keys) (state : State) (stmt : Stmt) (marks : Marks) → IsState state → FitsStatement state stmt → InsertsBy keys stmt → IsKeyed keys state → effect stmt state ≡ Writes marks → IsKeyed keys (laid state marks)

-- the answers of a key's body are the relation's rows with that key
abbrev pub KeyAnswers : Type 0
KeyAnswers =
    (relation keys : ℕ) (state : State) (row : Row) → IsState state → IsWide state relation (length row) → keys ≤ length row →
    answers (key_terms keys row) (key_body relation keys row) state ≡ filter (λ other. same_row (take keys other) (take keys row)) (rows_in state relation)

-- rows that ascend clash only where two that stand side by side have one key
abbrev pub NeighboursClash : Type 0
NeighboursClash =
    (keys : ℕ) (rows : List Row) → AllByRecursion (λ row. keys ≤ length row) rows → IsAscending rows →
    ((j : ℕ) → suc j < length rows → same_row (take keys (slice_index_or rows j [])) (take keys (slice_index_or rows (suc j) [])) ≡ false) → has_clash keys rows ≡ false
