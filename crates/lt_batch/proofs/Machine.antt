-- The machine of a batch's circuit.
use Rattle.std.proofs.Common.{◌≡◌, ◌≤◌, List, [], ◌∷◌, length, ap, ◌∙◌}
use Rattle.lt_face.specs.State.{State}
use Rattle.lt_model.specs.declared.normal.Stmt.{Stmt}
use Rattle.lt_base.specs.Tables.{state_of}
use Rattle.lt_net.specs.Tree.{circuit_net, tree_of}
use Rattle.lt_circuit.specs.Circuit.{CircuitView}
use Rattle.lt_circuit.specs.Shape.{shape, shape_net}
use Rattle.lt_batch.specs.Replaying.{batch_net}
use Rattle.lt_batch.specs.Work.{BatchView, batch_does}
use Rattle.lt_batch.proofs.Leaves.{does_alone}

-- it is that of its programs on the snapshot
pub machine : {T : Type 0} (c : CircuitView BatchView T) (s : State) (programs : List (List Stmt)) → state_of c.work.snapshot ≡ s → c.work.batches ≡ programs ∷ [] → length programs ≤ 256 → c.board.leaves ≡ length programs
    → shape_net (shape batch_does c) ≡ batch_net programs s
machine c s programs on are few leaves =
    ap (λ n. circuit_net (batch_does c.work) (tree_of n)) leaves
    ∙ ap (λ does. circuit_net does (tree_of (length programs))) (does_alone c.work s programs on are few)
