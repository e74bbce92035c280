use Rattle.std.proofs.Common.{◌≤◌, ◌⊎◌, length, inl, inr, arith}
use Rattle.std.specs.Arc.{arc_value}
use Rattle.lt_delta.proofs.Merges.{owner_less, owner_equal, owner_greater, owners_finished}
use Rattle.lt_delta.proofs.merging.merged.Goals as goal
use Rattle.lt_delta.proofs.merging.merged.Goals.{then-both-test+else-j-second, else-both-test}

pub both-preserved-in-Less : goal.both-preserved-in-Less
both-preserved-in-Less c = record {
  done =
      owner_less arc_value c.args.first.now c.args.second.now c.both.marks.items c.both.i c.both.j c.requires.second c.both.invariant.done
      c.index-first-i.result c.index-second-j.result c.in_ok-mark-in-Less.mark c.deref.result.now c.deref-in-both.result.now c.push.new.self.items
      c.both-test.true c.if-j-second.true c.index-first-i.is c.index-second-j.is c.deref.ensures c.deref-in-both.ensures
      c.in_ok-push-in-Less.ensures.items c.in_ok-mark-in-Less.ensures.cases c.in-Less.ensures;
  in_first = omega arith;
  in_second = c.both.invariant.in_second;
}

pub both-preserved-in-Equal : goal.both-preserved-in-Equal
both-preserved-in-Equal c = record {
  done =
      owner_equal arc_value c.args.first.now c.args.second.now c.both.marks.items c.both.i c.both.j c.requires.second c.both.invariant.done
      c.index-first-i.result c.index-second-j.result c.in_ok-mark-in-Equal.mark c.deref.result.now c.deref-in-both.result.now c.push-in-Equal.new.self.items
      c.both-test.true c.if-j-second.true c.index-first-i.is c.index-second-j.is c.deref.ensures c.deref-in-both.ensures
      c.in_ok-push-in-Equal.ensures.items c.in_ok-mark-in-Equal.ensures.cases c.in-Equal.ensures;
  in_first = omega arith;
  in_second = omega arith;
}

pub both-preserved : goal.both-preserved
both-preserved c = record {
  done =
      owner_greater arc_value c.args.first.now c.args.second.now c.both.marks.items c.both.i c.both.j c.requires.second c.both.invariant.done
      c.index-first-i.result c.index-second-j.result c.in_ok-mark-in-Greater.mark c.deref.result.now c.deref-in-both.result.now c.push-in-Greater.new.self.items
      c.both-test.true c.if-j-second.true c.index-first-i.is c.index-second-j.is c.deref.ensures c.deref-in-both.ensures
      c.in_ok-push-in-Greater.ensures.items c.in_ok-mark-in-Greater.ensures.cases c.in-Greater.ensures;
  in_first = c.both.invariant.in_first;
  in_second = omega arith;
}

pub returns : goal.returns
returns c =
    let over : (length c.args.first.now ≤ c.both.i) ⊎ (length c.args.second.now ≤ c.both.j) =
    elim c.both-test.branch [ then-both-test+else-j-second w ↦ inr (omega arith) | else-both-test w ↦ inl (omega arith) ] in
    owners_finished arc_value c.args.first.now c.args.second.now c.both.marks.items c.both.i c.both.j c.requires.second c.both.invariant.done
    c.append.new.list.items c.append-2.new.list.items over c.in_ok-append.ensures c.in_ok-append-2.ensures
