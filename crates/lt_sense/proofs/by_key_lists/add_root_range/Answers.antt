use Rattle.std.proofs.Common.{[]}
use Rattle.lt_sense.specs.Gathered.{ranges_in}
use Rattle.lt_sense.proofs.ByKeyAdded.{also_after, tell_chain}
use Rattle.lt_sense.proofs.Spanned.{range_in}
use Rattle.lt_sense.proofs.Stepped.{ok_map, err_map}
use Rattle.lt_sense.proofs.by_key_lists.add_root_range.Goals as goal

pub returns-clause-added : goal.returns-clause-added
returns-clause-added c =
    ok_map c.add_root_at.result (also_after (ranges_in c.args.lists.now.items) (ranges_in c.place_for.new.lists.items) (ranges_in c.add_root_at.new.lists.items) (range_in c.args.relation c.args.perm.now [] c.args.lo c.args.hi) c.in_ok-at.ensures.told) c.add_root_at.ensures.added

pub returns-clause-err : goal.returns-clause-err
returns-clause-err c =
    err_map c.add_root_at.result (tell_chain (ranges_in c.args.lists.now.items) (ranges_in c.place_for.new.lists.items) (ranges_in c.add_root_at.new.lists.items) c.in_ok-at.ensures.told) c.add_root_at.ensures.err
