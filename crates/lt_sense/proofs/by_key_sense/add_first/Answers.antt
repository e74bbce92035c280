use Rattle.std.proofs.Common.{sym, ◌∙◌, ap, arith}
use Rattle.std.proofs.Common.{get_or}
use Rattle.lt_sense.proofs.ByKeyGains.{first_narrow, first_none, first_one}
use Rattle.lt_sense.proofs.by_key_sense.add_first.Goals as goal

pub returns-then-len-eq0 : goal.returns-then-len-eq0
returns-then-len-eq0 c = first_narrow c.args.list.now c.args.relation c.args.row.now c.args.keys.now.items (omega (arith, c.if-len-eq0.true, c.len.ensures))

pub returns-then-not-has_done : goal.returns-then-not-has_done
returns-then-not-has_done c = first_none c.args.list.now c.args.relation c.args.row.now c.args.keys.now.items (sym c.has_done.ensures ∙ c.if-not-has_done.true)

pub returns : goal.returns
returns c =
    first_one c.args.list.now c.args.relation c.args.row.now c.args.keys.now.items c.push.new.self.items (get_or c.as_slice.result.now 0 0) c.cell_at.result
    (omega (arith, c.if-len-eq0.false, c.len.ensures)) (ap (λ cs. get_or cs 0 0) c.as_slice.ensures) c.cell_at.ensures (sym c.has_done.ensures ∙ c.if-not-has_done.false) c.in_ok-push.ensures.items
