use Rattle.std.proofs.Common.{◌≤◌, true, false, map, ap, ◌∙◌, arith}
use Rattle.std.proofs.lemmas.List.{take_all}
use Rattle.lt_face.specs.State.{permuted}
use Rattle.lt_delta.specs.Laying.{marked}
use Rattle.lt_delta.proofs.Edited.{is_marked_by, not_signed_by, begins, ends}
use Rattle.lt_delta.proofs.marks.Marks.edits_by.Goals as goal
use Rattle.lt_delta.proofs.marks.Marks.edits_by.Goals.{then-mark+in_ok-push, else-mark+in_ok-push-2}

pub loop-i-init : goal.loop-i-init
loop-i-init c =
    let f = permuted c.args.columns.now in
    record {
      gone = c.new-gone.ensures ∙ ap (map f) (begins c.args.relation false c.args.self.now _ c.start_of-i.ensures.before);
      come = c.new-come.ensures ∙ ap (map f) (begins c.args.relation true c.args.self.now _ c.start_of-i.ensures.before);
    }

pub loop-i-preserved : goal.loop-i-preserved
loop-i-preserved c =
    let m = c.mark-mark.result.now in
    let marks = c.args.self.now in
    let relation = c.args.relation in
    let f = permuted c.args.columns.now in
    elim c.if-mark.branch [
      | then-mark+in_ok-push w ↦ record {
        gone = rw w.gone-is (not_signed_by f relation false marks c.loop-i.i m c.loop-i.gone c.mark-mark.ensures c.loop-i.invariant.gone w.if-mark.true);
        come = rw w.come-is (is_marked_by f relation true marks c.loop-i.i m c.loop-i.come w.push.new.self c.permuted_row-row.result c.mark-mark.ensures c.loop-i.invariant.come c.if-mark-relation.false w.if-mark.true c.permuted_row-row.ensures w.in_ok-push.ensures.ok);
      }
      | else-mark+in_ok-push-2 w ↦ record {
        gone = rw w.gone-is (is_marked_by f relation false marks c.loop-i.i m c.loop-i.gone w.push-else-mark.new.self c.permuted_row-row.result c.mark-mark.ensures c.loop-i.invariant.gone c.if-mark-relation.false w.if-mark.false c.permuted_row-row.ensures w.in_ok-push-2.ensures.ok);
        come = rw w.come-is (not_signed_by f relation true marks c.loop-i.i m c.loop-i.come c.mark-mark.ensures c.loop-i.invariant.come w.if-mark.false);
      }
    ]

pub returns-clause-gone : goal.returns-clause-gone
returns-clause-gone c = c.loop-i.invariant.gone ∙ ap (λ ms. map (permuted c.args.columns.now) (marked c.args.relation false ms)) (take_all c.loop-i.i c.args.self.now (omega (arith, c.len-i-end.ensures.count, c.loop-i-test.false)))

pub returns-clause-come : goal.returns-clause-come
returns-clause-come c = c.loop-i.invariant.come ∙ ap (λ ms. map (permuted c.args.columns.now) (marked c.args.relation true ms)) (take_all c.loop-i.i c.args.self.now (omega (arith, c.len-i-end.ensures.count, c.loop-i-test.false)))

pub returns-then-mark-relation-clause-gone : goal.returns-then-mark-relation-clause-gone
returns-then-mark-relation-clause-gone c =
    let le : c.args.relation ≤ c.mark-mark.result.now.relation = c.start_of-i.ensures.after c.loop-i.i c.mark-mark.result.now c.mark-mark.ensures c.loop-i.auto.i in
    c.loop-i.invariant.gone ∙ ap (map (permuted c.args.columns.now)) (ends c.args.relation false c.args.self.now c.loop-i.i c.mark-mark.result.now c.len-i-end.ensures.ascending c.mark-mark.ensures (omega (arith, le, c.if-mark-relation.true)))

pub returns-then-mark-relation-clause-come : goal.returns-then-mark-relation-clause-come
returns-then-mark-relation-clause-come c =
    let le : c.args.relation ≤ c.mark-mark.result.now.relation = c.start_of-i.ensures.after c.loop-i.i c.mark-mark.result.now c.mark-mark.ensures c.loop-i.auto.i in
    c.loop-i.invariant.come ∙ ap (map (permuted c.args.columns.now)) (ends c.args.relation true c.args.self.now c.loop-i.i c.mark-mark.result.now c.len-i-end.ensures.ascending c.mark-mark.ensures (omega (arith, le, c.if-mark-relation.true)))
