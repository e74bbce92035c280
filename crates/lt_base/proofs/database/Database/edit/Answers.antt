use Rattle.std.proofs.Common.{◌∙◌, sym, ap, length, List}
use Rattle.std.specs.Arc.{arc_value}
use Rattle.lt_face.specs.State.{Row}
use Rattle.lt_model.specs.declared.mark.Mark.{Mark}
use Rattle.lt_model.specs.Marks.{write, change}
use Rattle.lt_over.specs.Edits.{is_change}
use Rattle.lt_base.specs.Tables.{Table, state_of, has_index}
use Rattle.lt_base.proofs.OneRow.{state_edited, indexes_stay, fits_one, rows_there, is_there}
use Rattle.lt_base.proofs.database.Database.edit.Goals as goal

pub edit_relation-requires : goal.edit_relation-requires
edit_relation-requires c =
    fits_one arc_value c.self.inside.relations.items c.args.self.now c.index_mut.result.now (record { relation = c.args.relation; row = c.args.row.now; plus = c.args.plus }) c.self.view_is c.index_mut.ensures.value c.requires

pub returns-clause-state : goal.returns-clause-state
returns-clause-state c =
    let m : Mark = record { relation = c.args.relation; row = c.args.row.now; plus = c.args.plus } in
    state_edited arc_value c.self.inside.relations.items c.args.relation c.index_mut.result.now c.edit_relation.new.relation m c.index_mut.ensures.value c.in_ok-changed.ensures.table
    ∙ ap (λ (tables : List Table). change c.args.relation (write m) (state_of tables)) c.self.view_is

pub returns-clause-changed : goal.returns-clause-changed
returns-clause-changed c =
    c.in_ok-changed.ensures.changed
    ∙ ap (λ (rows : List Row). is_change rows c.args.row.now c.args.plus)
    (sym (rows_there arc_value c.self.inside.relations.items c.args.self.now c.args.relation c.index_mut.result.now c.self.view_is (is_there (state_of c.args.self.now) c.args.relation (length c.args.row.now) c.requires.0.is_wide) c.index_mut.ensures.value))

pub returns-clause-indexes : goal.returns-clause-indexes
returns-clause-indexes c = λ r columns.
    indexes_stay arc_value c.self.inside.relations.items c.args.relation c.index_mut.result.now c.edit_relation.new.relation c.args.row.now c.args.plus c.index_mut.ensures.value c.in_ok-changed.ensures.table r columns
    ∙ ap (λ (tables : List Table). has_index tables r columns) c.self.view_is
