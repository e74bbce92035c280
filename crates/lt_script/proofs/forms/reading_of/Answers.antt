use Rattle.std.specs.Arc.{arc_value}
use Rattle.lt_script.proofs.FormTexts.{divided_by, fills_again, form_of_read, known_as}
use Rattle.lt_script.proofs.forms.reading_of.Goals as goal

pub form_of-requires : goal.form_of-requires
form_of-requires c = form_of_read c.args.text.now c.args.lines c.args.statement c.requires

pub slots_of-requires : goal.slots_of-requires
slots_of-requires c = divided_by c.args.text.now c.args.lines c.args.statement c.requires

pub invariant_of-reading : goal.invariant_of-reading
invariant_of-reading c =
    known_as (arc_value c.in_ok-form.form) c.args.text.now c.in_ok-slots.slots.items c.args.lines c.args.statement c.requires c.in_ok-slots.ensures c.in_ok-form.ensures.text c.in_ok-form.ensures.statement

pub returns : goal.returns
returns c = fills_again c.args.statement (arc_value c.in_ok-form.form).1 c.in_ok-form.cells.items c.in_ok-form.ensures.statement c.in_ok-form.ensures.cells
