use Rattle.lt_sense.specs.Gathered.{ranges_in}
use Rattle.lt_sense.proofs.ByKeyTaken.{divide_under, divide_other}
use Rattle.lt_sense.proofs.Stepped.{ok_map}
use Rattle.lt_sense.proofs.by_key_taking.take_list.Goals as goal

pub returns-then-is_list_under-clause-taken : goal.returns-then-is_list_under-clause-taken
returns-then-is_list_under-clause-taken c =
    ok_map c.add_list.result (divide_under (ranges_in c.args.lists.now.items) (ranges_in c.add_list.new.lists.items) (ranges_in c.args.others.now.items) c.args.key c.args.list (c.is_list_under.ensures c.if-is_list_under.true)) c.add_list.ensures.told

pub returns-clause-taken : goal.returns-clause-taken
returns-clause-taken c = divide_other c.args.lists.now.items c.args.others.now.items c.push.new.self.items c.args.key c.args.list c.in_ok-push.ensures.items
