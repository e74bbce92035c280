use Rattle.std.proofs.Common.{sym, ap, arith}
use Rattle.std.proofs.lemmas.Option.{slice_get_past}
use Rattle.lt_sense.specs.Spans.{prefix_in}
use Rattle.lt_sense.proofs.spans.Spans.prefix_of.Goals as goal

pub returns-then-span-len : goal.returns-then-span-len
returns-then-span-len c =
    let s = c.args.self.now in
    sym (ap (prefix_in s.cells.items) (slice_get_past s.runs.items c.args.span.run (omega (arith, c.if-span-len.true, c.len.ensures))))
