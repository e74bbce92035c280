use Rattle.std.proofs.Common.{◌≡◌, ◌∙◌, List, length, sym, ap, subst}
use Rattle.std.specs.Prelude.{filter_map}
use Rattle.std.specs.List.{AllByRecursion}
use Rattle.lt_face.specs.Rows.{IsCell, IsAscending}
use Rattle.lt_face.specs.State.{Row}
use Rattle.lt_model.specs.declared.normal.Term.{Term}
use Rattle.lt_model.specs.Answers.{answers, answer_of, picks}
use Rattle.lt_program.proofs.BoundCells.{answers_cells}
use Rattle.lt_query.proofs.Ascending.{IsAscending-ascending}
use Rattle.lt_query.proofs.Wide.{answers_wide}
use Rattle.lt_reference.specs.Ready.{AreRows}
use Rattle.lt_reference.specs.Walk.{bare}
use Rattle.lt_reference.proofs.LaidRows.{bare_each}
use Rattle.lt_reference.proofs.effects.head_rows.Goals as goal
use Rattle.lt_reference.proofs.effects.head_rows.Goals.{In_ok-rows}

found : (c : In_ok-rows) → c.in_ok-rows.rows ≡ answers c.args.head.now.terms c.args.body.now (bare c.args.relations.now)
found c = c.in_ok-rows.ensures ∙ ap (λ (terms : List Term). answers terms c.args.body.now (bare c.args.relations.now)) c.as_slice.ensures

pub returns-clause-ascend : goal.returns-clause-ascend
returns-clause-ascend c =
    subst IsAscending (sym (found (goal.at.returns-clause-ascend c).In_ok-rows))
    (IsAscending-ascending (filter_map (answer_of c.args.head.now.terms c.args.body.now (bare c.args.relations.now)) (picks c.args.body.now.atoms (bare c.args.relations.now))))

pub returns-clause-cells : goal.returns-clause-cells
returns-clause-cells c =
    subst AreRows (sym (found (goal.at.returns-clause-cells c).In_ok-rows))
    (answers_cells 16 c.args.head.now.terms c.args.body.now (bare c.args.relations.now) c.requires.body.tests c.requires.head.cells c.requires.head.bound (bare_each (AllByRecursion (AllByRecursion IsCell)) c.args.relations.now c.requires.cells))

pub returns-clause-wide : goal.returns-clause-wide
returns-clause-wide c =
    subst (λ (rows : List Row). AllByRecursion (λ row. length row ≡ length c.args.head.now.terms) rows) (sym (found (goal.at.returns-clause-wide c).In_ok-rows))
    (answers_wide c.args.head.now.terms c.args.body.now (bare c.args.relations.now))
