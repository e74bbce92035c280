use Rattle.std.proofs.Common.{[]}
use Rattle.lt_sense.proofs.ByKeyAdded.{placed_also, placed_same}
use Rattle.lt_sense.proofs.Stepped.{ok_map, err_map}
use Rattle.lt_sense.proofs.by_key_lists.add_root_at.Goals as goal

pub returns-clause-added : goal.returns-clause-added
returns-clause-added c =
    ok_map c.add.result (placed_also c.args.lists.now.items c.args.at c.args.relation c.args.perm.now c.index_mut.result.now c.add.new.self [] c.args.lo c.args.hi c.index_mut.ensures.value c.requires.place c.add.ensures.same) c.add.ensures.added

pub returns-clause-err : goal.returns-clause-err
returns-clause-err c =
    err_map c.add.result (placed_same c.args.lists.now.items c.args.at c.args.relation c.args.perm.now c.index_mut.result.now c.add.new.self c.index_mut.ensures.value c.requires.place c.add.ensures.same) c.add.ensures.err
