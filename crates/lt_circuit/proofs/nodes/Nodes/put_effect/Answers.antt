use Rattle.std.proofs.Common.{◌≡◌, ◌∙◌, get_or}
use Rattle.std.proofs.lemmas.List.{get_or_default}
use Rattle.lt_circuit.specs.Board.{bare_node}
use Rattle.lt_circuit.proofs.Handed.{effect_put}
use Rattle.lt_circuit.proofs.nodes.Nodes.put_effect.Goals as goal

pub invariant_of-self : goal.invariant_of-self
invariant_of-self c =
    let nodes = c.self.inside.nodes.items in
    let there = rw (← c.self.view_is) at c.requires in
    let at : c.index_mut.result.now ≡ get_or c.self.inside.nodes.items c.args.node bare_node = c.index_mut.ensures.value ∙ get_or_default nodes c.args.node c.index_mut.result.now bare_node there in
    rw (c.replace.ensures.after, at) (effect_put nodes c.self.inside.handed.items c.self.invariant c.args.node there c.args.marks)
