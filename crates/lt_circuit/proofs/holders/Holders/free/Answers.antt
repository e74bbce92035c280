use Rattle.std.proofs.Common.{◌≡◌, ◌<◌, ◌∙◌, length, get_or, ap, None, arith, length-set}
use Rattle.std.proofs.lemmas.List.{get_or_default}
use Rattle.lt_circuit.specs.Board.{one_if}
use Rattle.lt_circuit.proofs.Standing.{gone_there}
use Rattle.lt_circuit.proofs.holders.Holders.free.Goals as goal

pub overflow_sub-self : goal.overflow_sub-self
overflow_sub-self c =
    let xs = c.self.inside.claims.items in
    let w = c.args.worker in
    let there : w < length xs = omega (arith, c.requires, c.self.invariant.workers) in
    let before : c.one_if-before.result ≡ one_if (get_or xs w None) = c.one_if-before.ensures.one ∙ ap one_if (c.index.ensures ∙ get_or_default xs w c.index.result.now None there) in
    omega (arith, before, gone_there xs w, c.self.invariant.counted)

pub invariant_of-self : goal.invariant_of-self
invariant_of-self c =
    let xs = c.self.inside.claims.items in
    let w = c.args.worker in
    let there : w < length xs = omega (arith, c.requires, c.self.invariant.workers) in
    let before : c.one_if-before.result ≡ one_if (get_or xs w None) = c.one_if-before.ensures.one ∙ ap one_if (c.index.ensures ∙ get_or_default xs w c.index.result.now None there) in
    let less = gone_there xs w in
    rw c.replace.ensures.after (record {
      workers = length-set xs w None ∙ c.self.invariant.workers;
      counted = omega (arith, before, less, c.self.invariant.counted);
    })
