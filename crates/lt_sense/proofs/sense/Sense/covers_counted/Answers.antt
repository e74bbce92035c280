use Rattle.std.proofs.Common.{◌^◌, subst, ◌∙◌, arith}
use Rattle.lt_sense.specs.Gathered.{ranges_in}
use Rattle.lt_sense.specs.Held.{indexes, indexes_of, IsCounted}
use Rattle.lt_sense.specs.Ordered.{orders_of}
use Rattle.lt_sense.proofs.Asked.{few_asked}
use Rattle.lt_sense.proofs.Done.{each_short, cost_orders, said_now}
use Rattle.lt_sense.proofs.sense.Sense.covers_counted.Goals as goal

pub returns-clause-value : goal.returns-clause-value
returns-clause-value n c ask =
    let s = c.self.inside in
    c.have_counted.ensures.value ∙ said_now s.seen.seen c.args.self.now (ranges_in s.lists.items) c.args.relation c.args.row.now c.self.view_is c.self.invariant.1 ask

pub returns-clause-steps : goal.returns-clause-steps
returns-clause-steps n c d ask fits =
    let s = c.self.inside in
    let now = c.args.self.now in
    let counted = subst (λ x. IsCounted x s.lists.items) c.self.view_is c.self.invariant.2 in
    cost_orders (indexes_of c.args.relation (indexes s.lists.items)) (orders_of c.args.relation now.gaps) d c.args.steps.now c.have_counted.new.steps
    (few_asked now c.args.relation c.args.row.now (indexes s.lists.items) ask counted.distinct counted.from)
    (c.have_counted.ensures.steps d (each_short s.lists.items (2 ^ d) (let f = counted.few in omega (arith, f, fits))))
