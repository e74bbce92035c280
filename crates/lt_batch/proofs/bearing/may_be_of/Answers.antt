use Rattle.std.proofs.Common.{◌≡◌, ◌∙◌, ◌≤◌, ◌<◌, ◌+◌, ◌&&◌, Bool, List, sym, ap, drop, length, arith}
use Rattle.std.proofs.Math.ListN.{drop_of_length-le}
use Rattle.lt_model.specs.declared.normal.Term.{Term}
use Rattle.lt_batch.specs.Bearing.{may_be_of}
use Rattle.lt_batch.proofs.Unborne.{next_of, of_none}
use Rattle.lt_batch.proofs.bearing.may_be_of.Goals as goal

pub returns-then-i-width : goal.returns-then-i-width
returns-then-i-width c =
    let width = c.width.ensures.value in
    let there = c.if-i-width.true in
    let past : length c.args.row.now ≤ c.loop-i.i = omega (arith, width, there) in
    sym (c.loop-i.invariant ∙ ap (may_be_of (drop c.loop-i.i c.args.terms.now)) (drop_of_length-le c.args.row.now past) ∙ of_none (drop c.loop-i.i c.args.terms.now))

pub returns-then-not-may_be : goal.returns-then-not-may_be
returns-then-not-may_be c =
    let width = c.width.ensures.value in
    let there = c.if-i-width.false in
    let inside : c.loop-i.i < length c.args.row.now = omega (arith, width, there) in
    sym (c.loop-i.invariant ∙ next_of c.args.terms.now c.args.row.now c.loop-i.i c.cell.result _ c.may_be.result c.loop-i-test.true inside c.cell.ensures c.may_be.ensures
    ∙ ap (λ (b : Bool). b && may_be_of (drop (c.loop-i.i + 1) c.args.terms.now) (drop (c.loop-i.i + 1) c.args.row.now)) c.if-not-may_be.true)

pub loop-i-preserved : goal.loop-i-preserved
loop-i-preserved c =
    let width = c.width.ensures.value in
    let there = c.if-i-width.false in
    let inside : c.loop-i.i < length c.args.row.now = omega (arith, width, there) in
    c.loop-i.invariant ∙ next_of c.args.terms.now c.args.row.now c.loop-i.i c.cell.result _ c.may_be.result c.loop-i-test.true inside c.cell.ensures c.may_be.ensures
    ∙ ap (λ (b : Bool). b && may_be_of (drop (c.loop-i.i + 1) c.args.terms.now) (drop (c.loop-i.i + 1) c.args.row.now)) c.if-not-may_be.false

pub returns : goal.returns
returns c =
    let end = c.loop-i-test.false in
    sym (c.loop-i.invariant ∙ ap (λ (ts : List Term). may_be_of ts (drop c.loop-i.i c.args.row.now)) (drop_of_length-le c.args.terms.now end))
