use Rattle.std.proofs.Common.{◌≡◌, ◌∙◌, List, sym, ap, subst}
use Rattle.std.specs.Prelude.{flat_map, filter}
use Rattle.lt_face.specs.Rows.{IsAscending}
use Rattle.lt_face.specs.State.{Row, rows_in}
use Rattle.lt_query.proofs.Ascending.{IsAscending-ascending}
use Rattle.lt_reference.specs.Ready.{AreRows}
use Rattle.lt_reference.specs.Rivals.{is_rival, rivals_of}
use Rattle.lt_reference.specs.Walk.{bare}
use Rattle.lt_reference.proofs.Displaced.{rivals_are, rivals_cells}
use Rattle.lt_reference.proofs.WholePicks.{has_cells}
use Rattle.lt_reference.proofs.effects.displaced_rows.Goals as goal
use Rattle.lt_reference.proofs.effects.displaced_rows.Goals.{In_ok-gone}

found : (c : In_ok-gone) → c.in_ok-gone.gone ≡ rivals_of c.args.keys c.args.rows.now (rows_in (bare c.args.relations.now) c.args.head.now.relation)
found c =
    c.in_ok-gone.ensures
    ∙ (ap (λ (rows : List Row). rivals_of c.args.keys rows c.rows_of-there.result.now) c.as_slice.ensures
    ∙ ap (λ (there : List Row). rivals_of c.args.keys c.args.rows.now there) c.rows_of-there.ensures)

pub returns-clause-rows : goal.returns-clause-rows
returns-clause-rows c =
    found (goal.at.returns-clause-rows c).In_ok-gone
    ∙ rivals_are c.args.head.now.relation c.args.keys _ (bare c.args.relations.now) c.args.rows.now (has_cells c.args.relations.now c.requires.relations) c.requires.keys c.requires.wide

pub returns-clause-ascend : goal.returns-clause-ascend
returns-clause-ascend c =
    subst IsAscending (sym (found (goal.at.returns-clause-ascend c).In_ok-gone))
    (IsAscending-ascending (flat_map (λ row. filter (is_rival c.args.keys row) (rows_in (bare c.args.relations.now) c.args.head.now.relation)) c.args.rows.now))

pub returns-clause-cells : goal.returns-clause-cells
returns-clause-cells c =
    subst AreRows (sym (found (goal.at.returns-clause-cells c).In_ok-gone))
    (rivals_cells c.args.head.now.relation c.args.keys (bare c.args.relations.now) c.args.rows.now (has_cells c.args.relations.now c.requires.relations))
