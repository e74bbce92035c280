use Rattle.std.proofs.Common.{◌≡◌, ◌+◌, ◌∙◌, ◌∷◌, [], arith, length, ap, length-append}
use Rattle.lt_shared.proofs.Gathered.{level_rows-next, level_rows-behind}
use Rattle.lt_shared.proofs.building.add_entry.Goals as goal

pub returns-then-len-share-clause-rows : goal.returns-then-len-share-clause-rows
returns-then-len-share-clause-rows g c =
    level_rows-next g.T.Entry.rows c.args.levels.now.items _ c.args.group.items _ c.args.entry
    (rw c.in_ok-level.ensures at c.in_ok-push.ensures.items) (rw c.in_ok-next.ensures.items at c.in_ok-push-2.ensures.items)

pub returns-then-len-share-clause-count : goal.returns-then-len-share-clause-count
returns-then-len-share-clause-count g c = λ full.
    let all : length c.push.new.self.items ≡ length c.args.levels.now.items + 1 =
    ap length c.in_ok-push.ensures.items ∙ length-append c.args.levels.now.items (c.in_ok-level.level ∷ []) in
    let one : length c.push-then-len-share.new.self.items ≡ 1 = ap length (rw c.in_ok-next.ensures.items at c.in_ok-push-2.ensures.items) in
    omega (arith, all, one, full, c.if-len-share.true, c.len.ensures)

pub returns-clause-rows : goal.returns-clause-rows
returns-clause-rows g c = level_rows-behind g.T.Entry.rows c.args.levels.now.items c.args.group.items _ c.args.entry c.in_ok-push-3.ensures.items
