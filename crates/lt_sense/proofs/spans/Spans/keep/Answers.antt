use Rattle.std.proofs.Common.{refl, take, length, ◌∷◌, [], ap, ◌∙◌, arith, length-append}
use Rattle.lt_sense.specs.Spans.{stills}
use Rattle.lt_sense.proofs.Costs.{count_some}
use Rattle.lt_sense.proofs.Spanned.{none_kept}
use Rattle.lt_sense.proofs.spans.Spans.keep.Goals as goal

pub returns-then-hi-lo-clause-kept : goal.returns-then-hi-lo-clause-kept
returns-then-hi-lo-clause-kept c =
    let s = c.args.self.now in
    none_kept (stills s) (stills s) s.relation s.columns (take c.args.depth s.at) c.args.lo c.args.hi refl c.if-hi-lo.true

pub returns-clause-few : goal.returns-clause-few
returns-clause-few c =
    let mid = c.run_for.new.self in
    let e = ap length c.in_ok-push.ensures.items ∙ length-append mid.ranges.items (_ ∷ []) in
    let f = ap length c.in_ok-run.ensures.ranges in
    let g = count_some c.args.lo c.args.hi (omega (arith, c.if-hi-lo.false)) in
    omega (arith, e, f, g)
