use Rattle.std.proofs.Common.{◌≡◌, suc, ◌+◌, ◌*◌, ◌-◌, [], ◌∷◌, refl, subst, length, arith}
use Rattle.lt_net.specs.Alone.{sweep_jobs}
use Rattle.lt_net.specs.LineAlone.{in_segment, segment_jobs}
use Rattle.lt_circuit.proofs.LineWay.{round_few, round_next, rounds_over, still_to_do}
use Rattle.lt_circuit.proofs.OnWay.{IsOnWay, later_then, way_more, way_start, way_within}
use Rattle.std.specs.Prelude.{map}
use Rattle.lt_circuit.specs.Line.{line_event, line_state}
use Rattle.lt_circuit.specs.LineShape.{line_shape, line_shape_net}
use Rattle.lt_circuit.proofs.line.Line.run_segment.Goals as goal

pub loop-round-init : goal.loop-round-init
loop-round-init g c =
    let all : c.args.leaves ≡ c.args.leaves - 0 = omega arith in
    let sh = line_shape g.W.LeafWork.does c.args.self.now in
    let st = line_state c.args.self.now in
    let es = map line_event c.args.self.now.journal in
    let jobs = segment_jobs (line_shape_net sh) c.args.leaves c.args.s st in
    subst (λ k. IsOnWay line_shape_net sh st es jobs sh st es (still_to_do (line_shape_net sh) c.args.leaves c.args.s k st)) all (way_start line_shape_net sh st es jobs c.requires.free)

pub loop-round-preserved : goal.loop-round-preserved
loop-round-preserved g c =
    let left : c.args.leaves - c.loop-round.round ≡ suc (c.args.leaves - (c.loop-round.round + 1)) = omega (arith, c.loop-round-test.true) in
    let ok = c.in_ok-run_round.ensures in
    round_next c.args.leaves c.args.s (c.args.leaves - c.loop-round.round) (c.args.leaves - (c.loop-round.round + 1)) left c.loop-round.invariant ok.ran ok.free ok.shape ok.later ok.few

pub returns-in_err-run_round-clause-few : goal.returns-in_err-run_round-clause-few
returns-in_err-run_round-clause-few g c =
    let left : c.args.leaves - c.loop-round.round ≡ suc (c.args.leaves - (c.loop-round.round + 1)) = omega (arith, c.loop-round-test.true) in
    round_few c.args.leaves c.args.s (c.args.leaves - c.loop-round.round) (c.args.leaves - (c.loop-round.round + 1)) left c.loop-round.invariant
    (length (map line_event c.run_round.new.self.journal)) c.run_round.ensures.few

pub returns-in_err-run_round-clause-later : goal.returns-in_err-run_round-clause-later
returns-in_err-run_round-clause-later g c = later_then (map line_event c.args.self.now.journal) (map line_event c.loop-round.self.journal) (map line_event c.run_round.new.self.journal) c.loop-round.invariant.later c.run_round.ensures.later

pub returns-in_err-sweep-clause-few : goal.returns-in_err-sweep-clause-few
returns-in_err-sweep-clause-few g c =
    let none : c.args.leaves - c.loop-round.round ≡ 0 = omega (arith, c.loop-round-test.false) in
    let swept = in_segment c.args.s (sweep_jobs c.args.leaves) in
    let pass = 2048 * c.args.s + 2047 in
    let over = rounds_over c.args.leaves c.args.s (c.args.leaves - c.loop-round.round) none c.loop-round.invariant in
    way_within swept (pass ∷ []) over refl (length (map line_event c.sweep.new.self.journal)) c.sweep.ensures.few

pub returns-in_err-sweep-clause-later : goal.returns-in_err-sweep-clause-later
returns-in_err-sweep-clause-later g c = later_then (map line_event c.args.self.now.journal) (map line_event c.loop-round.self.journal) (map line_event c.sweep.new.self.journal) c.loop-round.invariant.later c.sweep.ensures.later

pub returns-in_err-run_if_pending-clause-few : goal.returns-in_err-run_if_pending-clause-few
returns-in_err-run_if_pending-clause-few g c =
    let none : c.args.leaves - c.loop-round.round ≡ 0 = omega (arith, c.loop-round-test.false) in
    let swept = in_segment c.args.s (sweep_jobs c.args.leaves) in
    let pass = 2048 * c.args.s + 2047 in
    let over = rounds_over c.args.leaves c.args.s (c.args.leaves - c.loop-round.round) none c.loop-round.invariant in
    let ok = c.in_ok-sweep.ensures in
    let half = way_more swept (pass ∷ []) over refl ok.ran ok.free ok.shape ok.later ok.few in
    way_within (pass ∷ []) [] half refl (length (map line_event c.run_if_pending.new.self.journal)) c.run_if_pending.ensures.few

pub returns-in_err-run_if_pending-clause-later : goal.returns-in_err-run_if_pending-clause-later
returns-in_err-run_if_pending-clause-later g c =
    later_then (map line_event c.args.self.now.journal) (map line_event c.sweep.new.self.journal) (map line_event c.run_if_pending.new.self.journal)
    (later_then (map line_event c.args.self.now.journal) (map line_event c.loop-round.self.journal) (map line_event c.sweep.new.self.journal) c.loop-round.invariant.later c.sweep.ensures.later) c.run_if_pending.ensures.later

pub returns-clause-ran : goal.returns-clause-ran
returns-clause-ran g c =
    let none : c.args.leaves - c.loop-round.round ≡ 0 = omega (arith, c.loop-round-test.false) in
    let swept = in_segment c.args.s (sweep_jobs c.args.leaves) in
    let pass = 2048 * c.args.s + 2047 in
    let over = rounds_over c.args.leaves c.args.s (c.args.leaves - c.loop-round.round) none c.loop-round.invariant in
    let ok = c.in_ok-sweep.ensures in
    let half = way_more swept (pass ∷ []) over refl ok.ran ok.free ok.shape ok.later ok.few in
    let done = c.in_ok-run_if_pending.ensures in
    let way = way_more (pass ∷ []) [] half refl done.ran done.free done.shape done.later done.few in
    way.ran

pub returns-clause-later : goal.returns-clause-later
returns-clause-later g c =
    let none : c.args.leaves - c.loop-round.round ≡ 0 = omega (arith, c.loop-round-test.false) in
    let swept = in_segment c.args.s (sweep_jobs c.args.leaves) in
    let pass = 2048 * c.args.s + 2047 in
    let over = rounds_over c.args.leaves c.args.s (c.args.leaves - c.loop-round.round) none c.loop-round.invariant in
    let ok = c.in_ok-sweep.ensures in
    let half = way_more swept (pass ∷ []) over refl ok.ran ok.free ok.shape ok.later ok.few in
    let done = c.in_ok-run_if_pending.ensures in
    let way = way_more (pass ∷ []) [] half refl done.ran done.free done.shape done.later done.few in
    way.later

pub returns-clause-few : goal.returns-clause-few
returns-clause-few g c =
    let none : c.args.leaves - c.loop-round.round ≡ 0 = omega (arith, c.loop-round-test.false) in
    let swept = in_segment c.args.s (sweep_jobs c.args.leaves) in
    let pass = 2048 * c.args.s + 2047 in
    let over = rounds_over c.args.leaves c.args.s (c.args.leaves - c.loop-round.round) none c.loop-round.invariant in
    let ok = c.in_ok-sweep.ensures in
    let half = way_more swept (pass ∷ []) over refl ok.ran ok.free ok.shape ok.later ok.few in
    let done = c.in_ok-run_if_pending.ensures in
    let way = way_more (pass ∷ []) [] half refl done.ran done.free done.shape done.later done.few in
    omega (arith, way.few)

pub returns-clause-shape : goal.returns-clause-shape
returns-clause-shape g c =
    let none : c.args.leaves - c.loop-round.round ≡ 0 = omega (arith, c.loop-round-test.false) in
    let swept = in_segment c.args.s (sweep_jobs c.args.leaves) in
    let pass = 2048 * c.args.s + 2047 in
    let over = rounds_over c.args.leaves c.args.s (c.args.leaves - c.loop-round.round) none c.loop-round.invariant in
    let ok = c.in_ok-sweep.ensures in
    let half = way_more swept (pass ∷ []) over refl ok.ran ok.free ok.shape ok.later ok.few in
    let done = c.in_ok-run_if_pending.ensures in
    let way = way_more (pass ∷ []) [] half refl done.ran done.free done.shape done.later done.few in
    way.shape
