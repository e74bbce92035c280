use Rattle.std.proofs.Common.{◌++◌, map, subst}
use Rattle.lt_join.specs.Lone.{IsLeftBy}
use Rattle.lt_join.specs.Walked.{at}
use Rattle.lt_join.proofs.Asking.{asked_is}
use Rattle.lt_join.proofs.level.asked_of.Goals as goal

pub returns : goal.returns
returns c =
    let pins = subst (λ keys. IsLeftBy keys c.asked_by-asked.result) c.as_slice.ensures c.asked_by-asked.ensures in
    let left = c.and_ties.ensures c.args.level.now.pins pins in
    asked_is c.args.level.now (at c.args.keys.now) c.and_ties.result (subst (λ ties. IsLeftBy (c.args.level.now.pins ++ map (at c.args.keys.now) ties) c.and_ties.result) c.as_slice-2.ensures left)
