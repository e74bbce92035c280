use Rattle.std.proofs.Common.{◌≡◌, ◌<◌, ◌∙◌, [], take, length, ap, subst}
use Rattle.lt_join.specs.Level.{IsAtomAt}
use Rattle.lt_join.specs.Walked.{at}
use Rattle.lt_join.specs.Way.{WayView}
use Rattle.lt_join.proofs.KnownLists.{take_more, AllZip-more, get_in}
use Rattle.lt_join.proofs.way.Way.iters.Goals as goal

pub iter-requires : goal.iter-requires
iter-requires g c =
    let guides = c.args.self.now.plan.guides in
    let items : c.as_slice-guides.result.now ≡ guides = c.as_slice-guides.ensures ∙ ap (λ (w : WayView). w.plan.guides) c.self.view_is in
    let lt : c.loop-guide.guide-index < length guides = subst (λ xs. c.loop-guide.guide-index < length xs) items c.loop-guide-test.true in
    get_in guides c.loop-guide.guide-index c.guide-item.result lt (rw items at c.guide-item.is)

pub loop-guide-preserved : goal.loop-guide-preserved
loop-guide-preserved g c =
    let guides = c.args.self.now.plan.guides in
    let items : c.as_slice-guides.result.now ≡ guides = c.as_slice-guides.ensures ∙ ap (λ (w : WayView). w.plan.guides) c.self.view_is in
    let lt : c.loop-guide.guide-index < length guides = subst (λ xs. c.loop-guide.guide-index < length xs) items c.loop-guide-test.true in
    rw (take_more guides c.loop-guide.guide-index c.guide-item.result lt (rw items at c.guide-item.is), c.in_ok-push.ensures.items)
    (AllZip-more (IsAtomAt c.args.self.now.state 0 (at [])) (take c.loop-guide.guide-index guides) c.loop-guide.iters.items c.guide-item.result c.iter.result c.loop-guide.invariant c.iter.ensures)
