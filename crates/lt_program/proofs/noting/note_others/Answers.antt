use Rattle.std.proofs.Common.{◌∙◌, length, sym, ap}
use Rattle.lt_program.proofs.Noted.{around_none}
use Rattle.lt_program.proofs.noting.note_others.Goals as goal

pub returns-then-alike-eq0 : goal.returns-then-alike-eq0
returns-then-alike-eq0 c = around_none c.args.keys c.args.place.now.relation (length c.args.place.now.columns) c.args.row.now c.args.alike.now c.args.sense.now c.note_none.new.sense (sym (ap length c.as_slice-alike.ensures) ∙ c.if-alike-eq0.true) c.in_ok-note_none.ensures
