use Rattle.std.proofs.Common.{◌∙◌, Bool, Option, sym, ap}
use Rattle.std.specs.Prelude.{unwrap_or}
use Rattle.lt_face.specs.Rows.{has_row}
use Rattle.lt_face.specs.State.{rows_in}
use Rattle.lt_base.specs.Tables.{state_of}
use Rattle.lt_base.proofs.Apart.{with_marks}
use Rattle.lt_base.proofs.database.Database.has_with.Goals as goal

pub returns-in-Some : goal.returns-in-Some
returns-in-Some c =
    ap (λ (o : Option Bool). unwrap_or o (has_row (rows_in (state_of c.args.self.now) c.args.relation) c.args.row.now)) c.in-Some.ensures
    ∙ sym (with_marks (state_of c.args.self.now) c.args.marks.now c.args.relation c.args.row.now c.requires)

pub returns-in-None : goal.returns-in-None
returns-in-None c =
    c.has.ensures
    ∙ ap (λ (o : Option Bool). unwrap_or o (has_row (rows_in (state_of c.args.self.now) c.args.relation) c.args.row.now)) c.in-None.ensures
    ∙ sym (with_marks (state_of c.args.self.now) c.args.marks.now c.args.relation c.args.row.now c.requires)
