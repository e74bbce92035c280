use Rattle.std.proofs.Common.{ap, length, ◌∙◌}
use Rattle.lt_over.specs.Layers.{Edits}
use Rattle.lt_over.proofs.Overlays.{fits_one}
use Rattle.lt_over.proofs.edits.put_row.Goals as goal

pub returns-clause-room : goal.returns-clause-room
returns-clause-room c =
    fits_one c.args.layer.now.come c.put.new.self.come c.args.row c.args.rows c.len.result (c.has_room.ensures c.if-not-has_room.false) (c.len.ensures ∙ ap length c.come.ensures.rows)
    (ap (λ (l : Edits). l.come) c.in_ok-put.ensures.ok)
