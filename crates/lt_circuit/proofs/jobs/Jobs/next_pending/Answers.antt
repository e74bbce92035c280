use Rattle.lt_circuit.proofs.Placing.{low_raised}
use Rattle.lt_circuit.proofs.jobs.Jobs.next_pending.Goals as goal

pub invariant_of-self : goal.invariant_of-self
invariant_of-self c =
    let b = c.self.inside in
    low_raised b.states.items b.order.items b.places.items b.low c.self.invariant c.next_place-place.result c.next_place-place.ensures.from
    (rw (c.deref.ensures.value, c.deref-2.ensures.value) at c.next_place-place.ensures.before) (rw c.deref-2.ensures.value at c.next_place-place.ensures.within)
