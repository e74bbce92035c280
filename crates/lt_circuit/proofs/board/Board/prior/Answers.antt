use Rattle.std.proofs.Common.{◌<◌, ◌∙◌, ap, sym, length, None, arith}
use Rattle.std.proofs.lemmas.List.{get_or_default}
use Rattle.lt_net.specs.declared.job.JobName.TheVariants.{Leaf}
use Rattle.lt_net.specs.Tree.{inputs_of, tree_of}
use Rattle.lt_net.specs.Codes.{code_of, job_of}
use Rattle.lt_net.proofs.Inside.{leaf_inside}
use Rattle.lt_net.proofs.Codes.{job_of-code}
use Rattle.lt_circuit.specs.Board.{done_of}
use Rattle.lt_circuit.proofs.board.Board.prior.Goals as goal

pub index-requires : goal.index-requires
index-requires c =
    let there = leaf_inside c.self.inside.leaves c.in-Leaf.leaf (λ e. (rw (← c.self.view_is) at c.requires) (ap (inputs_of (tree_of c.self.inside.leaves)) c.in-Leaf.is ∙ e)) in
    omega (arith, there, c.self.invariant.done_there)

pub returns-in_ok-prior-in-Leaf : goal.returns-in_ok-prior-in-Leaf
returns-in_ok-prior-in-Leaf c =
    let b = c.self.inside in
    let there = leaf_inside b.leaves c.in-Leaf.leaf (λ e. (rw (← c.self.view_is) at c.requires) (ap (inputs_of (tree_of b.leaves)) c.in-Leaf.is ∙ e)) in
    let here : c.in-Leaf.leaf < length b.done.items = omega (arith, there, c.self.invariant.done_there) in
    rw (← c.self.view_is)
    (c.in_ok-prior-in-Leaf.ensures ∙ c.index.ensures ∙ get_or_default b.done.items c.in-Leaf.leaf c.index.result.now None here
    ∙ ap (done_of b.done.items) (sym (job_of-code (Leaf c.in-Leaf.leaf) tt) ∙ ap (λ n. job_of (code_of n)) (sym c.in-Leaf.is)))
