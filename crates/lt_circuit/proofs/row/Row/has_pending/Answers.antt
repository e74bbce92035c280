use Rattle.std.proofs.Common.{◌*◌, ◌+◌, ◌<◌, ◌∙◌, ap, length, sym, arith}
use Rattle.lt_circuit.specs.Row.{parts}
use Rattle.lt_circuit.proofs.RowReads.{below_when, status_at}
use Rattle.lt_circuit.proofs.row.Row.has_pending.Goals as goal

pub returns-clause-some : goal.returns-clause-some
returns-clause-some c = rw (← c.self.view_is) (λ t.
    let s = c.first_busy.result in
    let lt = below_when s c.len.result t in
    let below : s < length c.deref.result.now = omega (arith, lt, c.len.ensures, c.deref.ensures.len) in
    let here = c.first_busy.ensures.here below in
    (2048 * s + here.0, status_at c.self.inside.segments.items s here.0 here.1 ∙ ap (λ us. (parts us s).status here.0) (sym c.deref.ensures.value) ∙ here.2))
