use Rattle.std.proofs.Common.{◌≡◌, ◌∙◌, ap, sym, subst}
use Rattle.std.specs.Arc.{arc_value}
use Rattle.lt_net.specs.Line.{placed, size_in}
use Rattle.lt_net.specs.Net.{Effect}
use Rattle.lt_net.specs.Tree.{node_of, halved_tree, node_in, tree_of}
use Rattle.lt_net.proofs.Inside.{node_in_is}
use Rattle.lt_circuit.specs.Row.{row_of, sizes}
use Rattle.lt_circuit.proofs.RowTables.{size_at}
use Rattle.lt_circuit.proofs.LineTables.{line_all_fit, line_serial}
use Rattle.lt_circuit.proofs.line.Line.effect.Goals as goal

pub returns-clause-value : goal.returns-clause-value
returns-clause-value g c =
    let row = c.self.inside.row in
    let n = size_in (sizes row) c.args.s in
    let lt = rw (← c.self.view_is) at c.requires.leaf in
    let same : c.leaves-leaves.result ≡ n = c.leaves-leaves.ensures.leaves ∙ sym (size_at row c.args.s) in
    let node : c.node_of.result ≡ node_in (tree_of n) c.args.leaf =
    c.node_of.ensures.node ∙ ap (λ m. node_of (halved_tree m) c.args.leaf) same ∙ sym (node_in_is n c.args.leaf lt) in
    rw (← c.self.view_is) (c.effect.ensures ∙ ap (λ m. (row_of row).value (placed c.args.s (Effect m))) node)

pub returns-clause-serial : goal.returns-clause-serial
returns-clause-serial g c =
    let w = arc_value c.self.inside.work in
    let laws = g.met.W.LeafWork in
    let row = c.self.inside.row in
    let n = size_in (sizes row) c.args.s in
    let inside = rw (← c.self.view_is) at c.requires.segment in
    let lt = rw (← c.self.view_is) at c.requires.leaf in
    let same : c.leaves-leaves.result ≡ n = c.leaves-leaves.ensures.leaves ∙ sym (size_at row c.args.s) in
    let node : c.node_of.result ≡ node_in (tree_of n) c.args.leaf =
    c.node_of.ensures.node ∙ ap (λ m. node_of (halved_tree m) c.args.leaf) same ∙ sym (node_in_is n c.args.leaf lt) in
    rw (← c.self.view_is) (λ past. c.effect.ensures ∙ ap (λ m. (row_of row).value (placed c.args.s (Effect m))) node
    ∙ (line_serial _ _ _ _ _ _ _ _ _ c.self.invariant (laws.empty_fits w) (laws.then_fits w) (laws.does_fits w) (laws.fits_marks w) c.args.s inside past).did c.args.leaf lt)

pub returns-clause-fits : goal.returns-clause-fits
returns-clause-fits g c =
    let w = arc_value c.self.inside.work in
    let laws = g.met.W.LeafWork in
    rw (← c.self.view_is) (subst (g.W.LeafWork.fits w) (sym c.effect.ensures)
    ((line_all_fit _ _ _ _ _ _ _ _ _ c.self.invariant (laws.empty_fits w) (laws.then_fits w) (laws.does_fits w)).cells (placed c.args.s (Effect c.node_of.result))))
