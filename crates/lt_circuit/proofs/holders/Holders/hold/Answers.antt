use Rattle.std.proofs.Common.{◌≡◌, ◌<◌, ◌∙◌, length, get_or, ap, None, Some, arith, length-set}
use Rattle.std.proofs.lemmas.List.{get_or_default}
use Rattle.lt_circuit.specs.Board.{one_if}
use Rattle.lt_circuit.proofs.Standing.{put_there, at_most_all}
use Rattle.lt_circuit.proofs.holders.Holders.hold.Goals as goal

pub overflow_add-self : goal.overflow_add-self
overflow_add-self c = omega (arith, at_most_all c.self.inside.claims.items, c.self.invariant.counted, c.self.invariant.workers)

pub invariant_of-self : goal.invariant_of-self
invariant_of-self c =
    let xs = c.self.inside.claims.items in
    let w = c.args.worker in
    let there : w < length xs = omega (arith, c.requires, c.self.invariant.workers) in
    let before : c.one_if-before.result ≡ one_if (get_or xs w None) = c.one_if-before.ensures.one ∙ ap one_if (c.index.ensures ∙ get_or_default xs w c.index.result.now None there) in
    let more = put_there xs w c.args.held there in
    record {
      workers = length-set xs w (Some c.args.held) ∙ c.self.invariant.workers;
      counted = omega (arith, before, more, c.self.invariant.counted);
    }
