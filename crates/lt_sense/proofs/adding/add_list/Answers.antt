use Rattle.std.proofs.Common.{sym, ◌∙◌, ap, subst, arith}
use Rattle.std.specs.Prelude.{◌||◌}
use Rattle.lt_sense.specs.Gathered.{ranges_in}
use Rattle.lt_sense.specs.Held.{index_of, indexes, MoreIndexes}
use Rattle.lt_sense.specs.Spans.{have, ranges_of}
use Rattle.lt_sense.proofs.ByKeyAdded.{all_after}
use Rattle.lt_sense.proofs.Stepped.{ok_map}
use Rattle.lt_sense.proofs.Tallied.{on_ok}
use Rattle.lt_sense.proofs.adding.add_list.Goals as goal

pub returns-clause-added : goal.returns-clause-added
returns-clause-added c =
    ok_map c.add_list_at.result (λ all relation row below. all relation row below ∙ ap (λ b. b || have (ranges_of c.args.other.now) relation row) (c.in_ok-at.ensures.rows relation row below)) c.add_list_at.ensures.added

pub returns-clause-told : goal.returns-clause-told
returns-clause-told c =
    ok_map c.add_list_at.result (all_after (ranges_in c.args.lists.now.items) (ranges_in c.place_for.new.lists.items) (ranges_in c.add_list_at.new.lists.items) (ranges_of c.args.other.now) c.in_ok-at.ensures.told) c.add_list_at.ensures.told

pub returns-clause-indexes : goal.returns-clause-indexes
returns-clause-indexes c =
    on_ok c.add_list_at.result (subst (λ is. MoreIndexes (indexes c.args.lists.now.items) is (index_of c.args.other.now)) (sym c.add_list_at.ensures.indexes) c.in_ok-at.ensures.indexes)

pub returns-clause-few : goal.returns-clause-few
returns-clause-few c =
    let a = c.in_ok-at.ensures.few in
    ok_map c.add_list_at.result (λ e. omega (arith, a, e)) c.add_list_at.ensures.few
