use Rattle.std.proofs.Common.{sym, ap, ◌∙◌, subst}
use Rattle.lt_face.proofs.RowLemmas.{each_at}
use Rattle.lt_sense.specs.Held.{held}
use Rattle.lt_sense.specs.Spans.{have, ranges_of, IsSpans}
use Rattle.lt_sense.proofs.ByKeyAdded.{placed_all, placed_list}
use Rattle.lt_sense.proofs.Costs.{held_set, indexes_set}
use Rattle.lt_sense.proofs.Said.{have_set}
use Rattle.lt_sense.proofs.Stepped.{ok_map}
use Rattle.lt_sense.proofs.adding.add_list_at.Goals as goal

pub take_all-requires : goal.take_all-requires
take_all-requires c =
    let got = placed_list c.args.lists.now.items c.args.at c.args.other.now.relation c.args.other.now.columns c.index_mut.result.now c.index_mut.ensures.value c.requires.place in
    record {
      sound = subst IsSpans (sym c.index_mut.ensures.value) (each_at IsSpans c.args.lists.now.items c.args.at c.index_mut.result.now c.requires.sound got.0);
      other = c.requires.other;
      index = record { relation = sym got.1; columns = sym got.2 };
    }

pub returns-clause-added : goal.returns-clause-added
returns-clause-added c =
    let lists = c.args.lists.now.items in
    let s = c.index_mut.result.now in
    let got = placed_list lists c.args.at c.args.other.now.relation c.args.other.now.columns s c.index_mut.ensures.value c.requires.place in
    ok_map c.take_all.result (λ all relation row below.
    have_set lists c.args.at s c.take_all.new.list (have (ranges_of c.args.other.now) relation row) relation row got.0 c.index_mut.ensures.value (all relation row below)) c.take_all.ensures.added

pub returns-clause-told : goal.returns-clause-told
returns-clause-told c =
    ok_map c.take_all.result (placed_all c.args.lists.now.items c.args.at c.index_mut.result.now c.take_all.new.list c.args.other.now c.index_mut.ensures.value c.requires.place c.take_all.ensures.same) c.take_all.ensures.added

pub returns-clause-indexes : goal.returns-clause-indexes
returns-clause-indexes c =
    let lists = c.args.lists.now.items in
    let s = c.index_mut.result.now in
    let t = c.take_all.new.list in
    let got = placed_list lists c.args.at c.args.other.now.relation c.args.other.now.columns s c.index_mut.ensures.value c.requires.place in
    indexes_set lists c.args.at s t got.0 c.index_mut.ensures.value (ap (λ n. (n, t.columns)) c.take_all.ensures.same.relation ∙ ap (λ cs. (s.relation, cs)) c.take_all.ensures.same.columns)

pub returns-clause-few : goal.returns-clause-few
returns-clause-few c =
    let lists = c.args.lists.now.items in
    let s = c.index_mut.result.now in
    let got = placed_list lists c.args.at c.args.other.now.relation c.args.other.now.columns s c.index_mut.ensures.value c.requires.place in
    ok_map c.take_all.result (λ e. held_set lists c.args.at s c.take_all.new.list (held c.args.other.now) got.0 c.index_mut.ensures.value e) c.take_all.ensures.few
