use Rattle.std.proofs.lemmas.List.{length-map}
use Rattle.lt_circuit.proofs.OnWay.{later_then}
use Rattle.std.proofs.Common.{◌≡◌, suc, ◌+◌, ◌-◌, length, arith}
use Rattle.lt_circuit.proofs.OnRounds.{rounds_start, rounds_next, round_within, settled_from, sweep_within, settled_is, alone_from}
use Rattle.lt_circuit.specs.Circuit.{state}
use Rattle.lt_circuit.specs.Entry.{event_of}
use Rattle.lt_circuit.specs.Shape.{shape}
use Rattle.std.specs.Prelude.{map}
use Rattle.lt_circuit.proofs.circuit.Circuit.settle_alone.Goals as goal

pub returns-in_err-run_round-clause-few : goal.returns-in_err-run_round-clause-few
returns-in_err-run_round-clause-few g c =
    let left : c.leaf_count-leaves.result - c.loop-round.round ≡ suc (c.leaf_count-leaves.result - (c.loop-round.round + 1)) = omega (arith, c.loop-round-test.true) in
    let alone = alone_from (shape g.W.LeafWork.does c.args.self.now) (map event_of c.args.self.now.journal) (state c.args.self.now) c.leaf_count-leaves.ensures.known c.requires.free in
    let here = length-map c.run_round.new.self.journal event_of in
    let there = length-map c.args.self.now.journal event_of in
    let few = round_within (c.leaf_count-leaves.result - (c.loop-round.round + 1)) c.loop-round.invariant left c.leaf_count-leaves.ensures.value alone
    (length (map event_of c.run_round.new.self.journal)) c.run_round.ensures.few in
    omega (arith, here, there, few)

pub loop-round-preserved : goal.loop-round-preserved
loop-round-preserved g c =
    let left : c.leaf_count-leaves.result - c.loop-round.round ≡ suc (c.leaf_count-leaves.result - (c.loop-round.round + 1)) = omega (arith, c.loop-round-test.true) in
    let ok = c.in_ok-run_round.ensures in
    rounds_next (c.leaf_count-leaves.result - (c.loop-round.round + 1)) c.loop-round.invariant left
    (shape g.W.LeafWork.does c.run_round.new.self) (state c.run_round.new.self) (map event_of c.run_round.new.self.journal) ok.ran ok.free ok.shape ok.later ok.few

pub returns-in_err-sweep-clause-few : goal.returns-in_err-sweep-clause-few
returns-in_err-sweep-clause-few g c =
    let none : c.leaf_count-leaves.result - c.loop-round.round ≡ 0 = omega (arith, c.loop-round-test.false) in
    let alone = alone_from (shape g.W.LeafWork.does c.args.self.now) (map event_of c.args.self.now.journal) (state c.args.self.now) c.leaf_count-leaves.ensures.known c.requires.free in
    let here = length-map c.sweep.new.self.journal event_of in
    let there = length-map c.args.self.now.journal event_of in
    let few = sweep_within c.loop-round.invariant none c.leaf_count-leaves.ensures.value alone (length (map event_of c.sweep.new.self.journal)) c.sweep.ensures.few in
    omega (arith, here, there, few)

pub returns-clause-ran : goal.returns-clause-ran
returns-clause-ran g c =
    let none : c.leaf_count-leaves.result - c.loop-round.round ≡ 0 = omega (arith, c.loop-round-test.false) in
    settled_from c.loop-round.invariant none c.leaf_count-leaves.ensures.value (state c.sweep.new.self) c.in_ok-sweep.ensures.ran

pub returns-clause-settled : goal.returns-clause-settled
returns-clause-settled g c =
    let none : c.leaf_count-leaves.result - c.loop-round.round ≡ 0 = omega (arith, c.loop-round-test.false) in
    let alone = alone_from (shape g.W.LeafWork.does c.args.self.now) (map event_of c.args.self.now.journal) (state c.args.self.now) c.leaf_count-leaves.ensures.known c.requires.free in
    settled_is (shape g.W.LeafWork.does c.args.self.now) (state c.args.self.now) (state c.sweep.new.self) alone
    (settled_from c.loop-round.invariant none c.leaf_count-leaves.ensures.value (state c.sweep.new.self) c.in_ok-sweep.ensures.ran)

pub returns-clause-few : goal.returns-clause-few
returns-clause-few g c =
    let none : c.leaf_count-leaves.result - c.loop-round.round ≡ 0 = omega (arith, c.loop-round-test.false) in
    let alone = alone_from (shape g.W.LeafWork.does c.args.self.now) (map event_of c.args.self.now.journal) (state c.args.self.now) c.leaf_count-leaves.ensures.known c.requires.free in
    let here = length-map c.sweep.new.self.journal event_of in
    let there = length-map c.args.self.now.journal event_of in
    let few = sweep_within c.loop-round.invariant none c.leaf_count-leaves.ensures.value alone (length (map event_of c.sweep.new.self.journal)) c.sweep.ensures.few in
    omega (arith, here, there, few)

pub loop-round-init : goal.loop-round-init
loop-round-init g c =
    let all : c.leaf_count-leaves.result - 0 ≡ c.leaf_count-leaves.result = omega arith in
    rounds_start (shape g.W.LeafWork.does c.args.self.now) (state c.args.self.now) (map event_of c.args.self.now.journal) c.leaf_count-leaves.result (c.leaf_count-leaves.result - 0) all c.requires.free

pub returns-in_err-run_round-clause-later : goal.returns-in_err-run_round-clause-later
returns-in_err-run_round-clause-later g c = later_then (map event_of c.args.self.now.journal) (map event_of c.loop-round.self.journal) (map event_of c.run_round.new.self.journal) c.loop-round.invariant.later c.run_round.ensures.later

pub returns-in_err-sweep-clause-later : goal.returns-in_err-sweep-clause-later
returns-in_err-sweep-clause-later g c = later_then (map event_of c.args.self.now.journal) (map event_of c.loop-round.self.journal) (map event_of c.sweep.new.self.journal) c.loop-round.invariant.later c.sweep.ensures.later

pub returns-clause-later : goal.returns-clause-later
returns-clause-later g c = later_then (map event_of c.args.self.now.journal) (map event_of c.loop-round.self.journal) (map event_of c.sweep.new.self.journal) c.loop-round.invariant.later c.sweep.ensures.later
