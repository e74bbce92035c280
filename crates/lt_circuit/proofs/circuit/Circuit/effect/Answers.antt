use Rattle.std.proofs.Common.{◌≡◌, ◌∙◌, ap, sym, subst}
use Rattle.std.specs.Arc.{arc_value}
use Rattle.lt_net.specs.Net.{Effect}
use Rattle.lt_net.specs.Tree.{node_of, halved_tree, node_in, tree_of}
use Rattle.lt_circuit.specs.Board.{state_of}
use Rattle.lt_net.proofs.Inside.{node_in_is}
use Rattle.lt_circuit.proofs.Steps.{all_fit}
use Rattle.lt_circuit.proofs.Settling.{circuit_serial}
use Rattle.lt_circuit.proofs.circuit.Circuit.effect.Goals as goal

pub returns-clause-serial : goal.returns-clause-serial
returns-clause-serial g c =
    let w = arc_value c.self.inside.work in
    let laws = g.met.W.LeafWork in
    let b = c.self.inside.board in
    let lt = rw (← c.self.view_is) at c.requires in
    let node : c.node_of.result ≡ node_in (tree_of b.leaves) c.args.leaf =
    c.node_of.ensures.node ∙ ap (λ n. node_of (halved_tree n) c.args.leaf) c.leaves-leaves.ensures ∙ sym (node_in_is b.leaves c.args.leaf lt) in
    rw (← c.self.view_is) (λ settled. c.effect.ensures ∙ ap (λ n. (state_of b).value (Effect n)) node
    ∙ (circuit_serial _ _ _ _ _ _ _ _ _ c.self.invariant (laws.empty_fits w) (laws.then_fits w) (laws.does_fits w) (laws.fits_marks w) settled).did c.args.leaf lt)

pub returns-clause-fits : goal.returns-clause-fits
returns-clause-fits g c =
    let w = arc_value c.self.inside.work in
    let laws = g.met.W.LeafWork in
    rw (← c.self.view_is) (subst (g.W.LeafWork.fits w) (sym c.effect.ensures)
    ((all_fit _ _ _ _ _ _ _ _ _ c.self.invariant (laws.empty_fits w) (laws.then_fits w) (laws.does_fits w)).cells (Effect c.node_of.result)))
