use Rattle.std.proofs.Common.{◌≡◌, false, true, ◌+◌, ◌<◌, length, get_or, rules, subst, arith}
use Rattle.lt_circuit.specs.Shape.{shape, shape_net}
use Rattle.lt_batch.specs.Held.{IsGone}
use Rattle.lt_batch.proofs.Following.{no_written, this_entry, way_begins, way_ends, way_goes_on}
use Rattle.lt_batch.proofs.entries.go_through.Goals as goal

pub loop-i-init : goal.loop-i-init
loop-i-init g c = way_begins g.W.LeafWork.does c.args.circuit.now c.in_ok-hands.hands.items c.requires.opening c.requires.empty c.in_ok-hands.ensures

pub returns-then-not-is_legal-clause-fault : goal.returns-then-not-is_legal-clause-fault
returns-then-not-is_legal-clause-fault g c =
    let refused : c.in_ok-is_legal.is_legal ≡ false = search rules in
    let below : c.loop-i.i < length c.args.entries.now = omega arith in
    this_entry (shape_net (shape g.W.LeafWork.does c.args.circuit.now)) c.args.entries.now (c.loop-i.i + 1)
    (way_ends g.W.LeafWork.does c.args.circuit.now c.loop-i.circuit c.go.new.circuit c.loop-i.hands.items c.go.new.hands.items c.args.entries.now c.loop-i.i no_written below c.loop-i.invariant
    (subst (IsGone g.W.LeafWork.does c.loop-i.circuit c.go.new.circuit c.go.new.hands.items (get_or c.args.entries.now c.loop-i.i no_written)) refused c.in_ok-is_legal.ensures))

pub loop-i-preserved : goal.loop-i-preserved
loop-i-preserved g c =
    let legal : c.in_ok-is_legal.is_legal ≡ true = search rules in
    let below : c.loop-i.i < length c.args.entries.now = omega arith in
    way_goes_on g.W.LeafWork.does c.args.circuit.now c.loop-i.circuit c.go.new.circuit c.loop-i.hands.items c.go.new.hands.items c.args.entries.now c.loop-i.i no_written below c.loop-i.invariant
    (subst (IsGone g.W.LeafWork.does c.loop-i.circuit c.go.new.circuit c.go.new.hands.items (get_or c.args.entries.now c.loop-i.i no_written)) legal c.in_ok-is_legal.ensures)
