use Rattle.std.proofs.lemmas.Grind.{common_steps}
use Rattle.std.proofs.Common.{◌≡◌, length, arith}
use Rattle.lt_shared.proofs.Gathered.{level_rows-close, level_rows-empty}
use Rattle.lt_shared.proofs.building.finished.Goals as goal

pub returns-then-is_empty-clause-rows : goal.returns-then-is_empty-clause-rows
returns-then-is_empty-clause-rows g c =
    let none : length c.args.group.items ≡ 0 = grind (arith, common_steps) in
    level_rows-empty g.T.Entry.rows c.args.levels.items c.args.group.items none

pub returns-clause-rows : goal.returns-clause-rows
returns-clause-rows g c =
    rw (rw c.in_ok-level.ensures at c.in_ok-push.ensures.items) (level_rows-close g.T.Entry.rows c.args.levels.items c.args.group.items)
