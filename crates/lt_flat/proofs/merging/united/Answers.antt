use Rattle.std.proofs.Common.{◌≤◌, ◌++◌, ◌∷◌, [], ◌∙◌, ap, ◌⊎◌, length, inl, inr, arith}
use Rattle.lt_face.specs.State.{Row}
use Rattle.lt_flat.proofs.Merges.{united_less, united_equal, united_greater, united_all}
use Rattle.lt_flat.proofs.merging.united.Goals as goal
use Rattle.lt_flat.proofs.merging.united.Goals.{then-both-test+else-j-more, else-both-test}

pub both-preserved-in-Less : goal.both-preserved-in-Less
both-preserved-in-Less c = record {
  done =
      united_less c.args.rows.now c.args.more.now c.both.all.items c.both.i c.both.j c.index-rows-i.result c.index-more-j.result c.cmp.result c.requires.rows c.requires.more
      c.both-test.true c.if-j-more.true c.index-rows-i.is c.index-more-j.is c.cmp.ensures c.push.new.self.items c.both.invariant.done c.in-Less.is (c.in_ok-push-in-Less.ensures.items ∙ ap (λ (r : Row). c.both.all.items ++ r ∷ []) c.copy_row.ensures);
  in_rows = omega arith;
  in_more = c.both.invariant.in_more;
}

pub both-preserved-in-Equal : goal.both-preserved-in-Equal
both-preserved-in-Equal c = record {
  done =
      united_equal c.args.rows.now c.args.more.now c.both.all.items c.both.i c.both.j c.index-rows-i.result c.index-more-j.result c.cmp.result c.requires.rows c.requires.more
      c.both-test.true c.if-j-more.true c.index-rows-i.is c.index-more-j.is c.cmp.ensures c.push-in-Equal.new.self.items c.both.invariant.done c.in-Equal.is (c.in_ok-push-in-Equal.ensures.items ∙ ap (λ (r : Row). c.both.all.items ++ r ∷ []) c.copy_row-in-Equal.ensures);
  in_rows = omega arith;
  in_more = omega arith;
}

pub both-preserved : goal.both-preserved
both-preserved c = record {
  done =
      united_greater c.args.rows.now c.args.more.now c.both.all.items c.both.i c.both.j c.index-rows-i.result c.index-more-j.result c.cmp.result c.requires.rows c.requires.more
      c.both-test.true c.if-j-more.true c.index-rows-i.is c.index-more-j.is c.cmp.ensures c.push-in-Greater.new.self.items c.both.invariant.done c.in-Greater.is (c.in_ok-push-in-Greater.ensures.items ∙ ap (λ (r : Row). c.both.all.items ++ r ∷ []) c.copy_row-in-Greater.ensures);
  in_rows = c.both.invariant.in_rows;
  in_more = omega arith;
}

pub returns : goal.returns
returns c =
    let over : (length c.args.rows.now ≤ c.both.i) ⊎ (length c.args.more.now ≤ c.both.j) =
    elim c.both-test.branch [ then-both-test+else-j-more w ↦ inr (omega arith) | else-both-test w ↦ inl (omega arith) ] in
    united_all c.both.all.items c.append.new.rows.items c.append-2.new.rows.items c.args.rows.now c.args.more.now c.both.i c.both.j c.requires.more over c.both.invariant.done
    c.in_ok-append.ensures c.in_ok-append-2.ensures
