use Rattle.std.proofs.Common.{◌≡◌, ◌<◌, ◌≤◌, ◌∙◌, length, map, sym, arith}
use Rattle.std.specs.Arc.{arc_value}
use Rattle.lt_batch.specs.Batch.{program_at}
use Rattle.lt_batch.proofs.AheadRuns.{found, looked_all, looked_more, looked_none, step_of}
use Rattle.lt_batch.proofs.Runs.{item_at}
use Rattle.lt_batch.proofs.ahead.let_go.Goals as goal

pub loop-place-init : goal.loop-place-init
loop-place-init c = looked_none (map arc_value c.args.progs.now) c.args.marks.now c.args.from c.args.ahead.now.items

pub loop-place-preserved : goal.loop-place-preserved
loop-place-preserved c =
    let long = c.loop-place.invariant.long in
    let end = c.len-place-end.ensures in
    let same = c.requires in
    let below : c.loop-place.place < length c.loop-place.ahead.items = omega (arith, long, end) in
    let inside : c.loop-place.place < length c.args.progs.now = omega (arith, end, same) in
    let is : program_at (map arc_value c.args.progs.now) c.loop-place.place ≡ c.deref.result.now = item_at arc_value c.args.progs.now c.loop-place.place c.index-progs-place.result inside c.index-progs-place.is ∙ sym c.deref.ensures in
    looked_more (map arc_value c.args.progs.now) c.args.marks.now c.args.from c.loop-place.place c.args.ahead.now.items c.loop-place.ahead.items c.let_one_go.new.one below
    (step_of (map arc_value c.args.progs.now) c.deref.result.now c.args.marks.now c.loop-place.place c.loop-place.ahead.items c.index_mut.result.now c.let_one_go.new.one is
    (found c.loop-place.ahead.items c.loop-place.place c.index_mut.result.now _ below c.index_mut.ensures.value) c.let_one_go.ensures)
    c.loop-place.invariant

pub returns-clause-left : goal.returns-clause-left
returns-clause-left c =
    let end = c.len-place-end.ensures in
    let whole : length c.args.ahead.now.items ≤ c.loop-place.place = omega (arith, end) in
    looked_all (map arc_value c.args.progs.now) c.args.marks.now c.args.from c.loop-place.place c.args.ahead.now.items c.loop-place.ahead.items whole c.loop-place.invariant
