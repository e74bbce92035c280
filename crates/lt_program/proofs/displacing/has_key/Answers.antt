use Rattle.std.proofs.Common.{◌∙◌, take, ap, sym}
use lib.Pointwise.{bytes_decides}
use Rattle.lt_program.proofs.Clashes.{key_told, key_short}
use Rattle.lt_program.proofs.displacing.has_key.Goals as goal

pub returns-then-keys-other : goal.returns-then-keys-other
returns-then-keys-other c = key_short c.args.keys c.args.row.now c.args.other.now c.cells-other.result.now c.cells-other.ensures.cells c.requires c.if-keys-other.true

pub returns : goal.returns
returns c =
    key_told c.args.keys c.args.row.now c.args.other.now c.eq.result (c.split_at.ensures.front ∙ ap (take c.args.keys) c.cells-other.ensures.cells) (c.split_at-2.ensures.front ∙ ap (take c.args.keys) c.cells-row.ensures.cells)
    (λ h. (bytes_decides _ _).0 (sym c.eq.ensures ∙ h)) (λ h. c.eq.ensures ∙ (bytes_decides _ _).1 h)
