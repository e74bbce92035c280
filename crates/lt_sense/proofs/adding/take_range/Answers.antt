use Rattle.std.proofs.Common.{refl, arith}
use Rattle.lt_sense.specs.Spans.{ranges_of}
use Rattle.lt_sense.proofs.ByKeyAdded.{also_of}
use Rattle.lt_sense.proofs.Costs.{count_some}
use Rattle.lt_sense.proofs.Spanned.{none_kept}
use Rattle.lt_sense.proofs.Stepped.{ok_map}
use Rattle.lt_sense.proofs.adding.take_range.Goals as goal

pub returns-then-hi-lo-clause-added : goal.returns-then-hi-lo-clause-added
returns-then-hi-lo-clause-added c =
    let all = ranges_of c.args.list.now in
    none_kept all all c.args.other.now.relation c.args.other.now.columns c.args.prefix.now c.args.lo c.args.hi refl c.if-hi-lo.true

pub returns-clause-added : goal.returns-clause-added
returns-clause-added c = ok_map c.add.result (also_of c.args.list.now c.args.other.now (ranges_of c.args.list.now) (ranges_of c.add.new.self) c.args.prefix.now c.args.lo c.args.hi c.requires.index) c.add.ensures.added

pub returns-clause-few : goal.returns-clause-few
returns-clause-few c = (let e = count_some c.args.lo c.args.hi (omega (arith, c.if-hi-lo.false)) in ok_map c.add.result (λ f. omega (arith, e, f)) c.add.ensures.few)
