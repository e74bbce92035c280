use Rattle.std.proofs.Common.{◌≡◌, ◌+◌, suc, set, ap, ◌∙◌, arith}
use Rattle.std.specs.List.{insert}
use Rattle.lt_shared.proofs.Edits.{set-insert}
use Rattle.lt_shared.proofs.edit.set_two.Goals as goal

pub returns-clause-ok : goal.returns-clause-ok
returns-clause-ok g c =
    let e : c.args.at + 1 ≡ suc c.args.at = omega arith in
    ap (λ t. set t c.args.at c.args.a) (c.in_ok-insert.ensures.items ∙ ap (λ n. insert c.args.entries.now.items n c.args.b) e)
    ∙ set-insert c.args.entries.now.items c.args.at c.args.a c.args.b c.requires
