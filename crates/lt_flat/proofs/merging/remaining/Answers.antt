use Rattle.std.proofs.Common.{◌≤◌, ◌++◌, ◌∷◌, [], ◌∙◌, refl, ap, ◌⊎◌, length, inl, inr, arith}
use Rattle.lt_face.specs.State.{Row}
use Rattle.lt_flat.proofs.Merges.{left_by_less, left_by_equal, left_by_greater, left_all}
use Rattle.lt_flat.proofs.merging.remaining.Goals as goal
use Rattle.lt_flat.proofs.merging.remaining.Goals.{then-both-test+else-j-less, else-both-test}

pub both-preserved-in-Less : goal.both-preserved-in-Less
both-preserved-in-Less c = record {
  done =
      left_by_less c.args.rows.now c.args.less.now c.both.left.items c.both.i c.both.j c.index-rows-i.result c.index-less-j.result c.cmp.result c.requires.rows c.requires.less
      c.both-test.true c.if-j-less.true c.index-rows-i.is c.index-less-j.is c.cmp.ensures c.push.new.self.items c.both.invariant.done c.in-Less.is (c.in_ok-push-in-Less.ensures.items ∙ ap (λ (r : Row). c.both.left.items ++ r ∷ []) c.copy_row.ensures);
  in_rows = omega arith;
  in_less = c.both.invariant.in_less;
}

pub both-preserved-in-Equal : goal.both-preserved-in-Equal
both-preserved-in-Equal c = record {
  done =
      left_by_equal c.args.rows.now c.args.less.now c.both.left.items c.both.i c.both.j c.index-rows-i.result c.index-less-j.result c.cmp.result c.requires.rows c.requires.less
      c.both-test.true c.if-j-less.true c.index-rows-i.is c.index-less-j.is c.cmp.ensures c.both.left.items c.both.invariant.done c.in-Equal.is (refl);
  in_rows = omega arith;
  in_less = omega arith;
}

pub both-preserved : goal.both-preserved
both-preserved c = record {
  done =
      left_by_greater c.args.rows.now c.args.less.now c.both.left.items c.both.i c.both.j c.index-rows-i.result c.index-less-j.result c.cmp.result c.requires.rows c.requires.less
      c.both-test.true c.if-j-less.true c.index-rows-i.is c.index-less-j.is c.cmp.ensures c.both.left.items c.both.invariant.done c.in-Greater.is (refl);
  in_rows = c.both.invariant.in_rows;
  in_less = omega arith;
}

pub returns : goal.returns
returns c =
    let over : (length c.args.rows.now ≤ c.both.i) ⊎ (length c.args.less.now ≤ c.both.j) =
    elim c.both-test.branch [ then-both-test+else-j-less w ↦ inr (omega arith) | else-both-test w ↦ inl (omega arith) ] in
    left_all c.both.left.items c.append.new.rows.items c.args.rows.now c.args.less.now c.both.i c.both.j over c.both.invariant.done c.in_ok-append.ensures
