use Rattle.std.proofs.Common.{◌∙◌, ◌+◌, ◌*◌, [], ◌∷◌, refl, ap, sym, subst, length, arith}
use Rattle.lt_net.specs.Alone.{chosen, leaf_jobs, lowest_pending, run_all, sweep_jobs}
use Rattle.lt_net.specs.LineAlone.{in_segment, round_jobs, tree_in}
use Rattle.lt_circuit.proofs.OnWay.{IsOnWay, later_then, way_more, way_start, way_within}
use Rattle.std.specs.Prelude.{map}
use Rattle.lt_circuit.specs.Line.{line_event, line_state}
use Rattle.lt_circuit.specs.LineShape.{line_shape, line_shape_net}
use Rattle.lt_circuit.proofs.line.Line.run_round.Goals as goal

pub returns-in_err-sweep-clause-few : goal.returns-in_err-sweep-clause-few
returns-in_err-sweep-clause-few g c =
    let sh = line_shape g.W.LeafWork.does c.args.self.now in
    let st = line_state c.args.self.now in
    let es = map line_event c.args.self.now.journal in
    let net = line_shape_net sh in
    let swept = in_segment c.args.s (sweep_jobs c.args.leaves) in
    let after = in_segment c.args.s (chosen c.args.leaves (tree_in c.args.s (run_all net st swept))) in
    let start = way_start line_shape_net sh st es (round_jobs net c.args.leaves c.args.s st) c.requires.free in
    way_within swept after start refl (length (map line_event c.sweep.new.self.journal)) c.sweep.ensures.few

pub returns-in_err-run_if_pending-in-Some-clause-later : goal.returns-in_err-run_if_pending-in-Some-clause-later
returns-in_err-run_if_pending-in-Some-clause-later g c = later_then (map line_event c.args.self.now.journal) (map line_event c.sweep.new.self.journal) (map line_event c.run_if_pending.new.self.journal) c.sweep.ensures.later c.run_if_pending.ensures.later

pub returns-in_ok-run_if_pending-in-Some-clause-later : goal.returns-in_ok-run_if_pending-in-Some-clause-later
returns-in_ok-run_if_pending-in-Some-clause-later g c = later_then (map line_event c.args.self.now.journal) (map line_event c.sweep.new.self.journal) (map line_event c.run_if_pending.new.self.journal) c.sweep.ensures.later c.run_if_pending.ensures.later

pub returns-in_err-run_if_pending-in-Some-clause-few : goal.returns-in_err-run_if_pending-in-Some-clause-few
returns-in_err-run_if_pending-in-Some-clause-few g c =
    let sh = line_shape g.W.LeafWork.does c.args.self.now in
    let st = line_state c.args.self.now in
    let es = map line_event c.args.self.now.journal in
    let net = line_shape_net sh in
    let swept = in_segment c.args.s (sweep_jobs c.args.leaves) in
    let after = in_segment c.args.s (chosen c.args.leaves (tree_in c.args.s (run_all net st swept))) in
    let start = way_start line_shape_net sh st es (round_jobs net c.args.leaves c.args.s st) c.requires.free in
    let ok = c.in_ok-sweep.ensures in
    let half = way_more swept after start refl ok.ran ok.free ok.shape ok.later ok.few in
    let code = 2048 * c.args.s + c.code.result in
    let low = sym c.in-Some.is ∙ c.lowest_pending_leaf.ensures.lowest in
    let split = ap (λ t. in_segment c.args.s (leaf_jobs (lowest_pending (tree_in c.args.s t) 0 c.args.leaves))) (sym ok.ran) ∙ ap (λ o. in_segment c.args.s (leaf_jobs o)) (sym low)
    ∙ ap (λ k. (2048 * c.args.s + k) ∷ []) (sym c.code.ensures) in
    way_within (code ∷ []) [] half split (length (map line_event c.run_if_pending.new.self.journal)) c.run_if_pending.ensures.few

pub returns-in_ok-run_if_pending-in-Some-clause-few : goal.returns-in_ok-run_if_pending-in-Some-clause-few
returns-in_ok-run_if_pending-in-Some-clause-few g c =
    let sh = line_shape g.W.LeafWork.does c.args.self.now in
    let st = line_state c.args.self.now in
    let es = map line_event c.args.self.now.journal in
    let net = line_shape_net sh in
    let swept = in_segment c.args.s (sweep_jobs c.args.leaves) in
    let after = in_segment c.args.s (chosen c.args.leaves (tree_in c.args.s (run_all net st swept))) in
    let start = way_start line_shape_net sh st es (round_jobs net c.args.leaves c.args.s st) c.requires.free in
    let ok = c.in_ok-sweep.ensures in
    let half = way_more swept after start refl ok.ran ok.free ok.shape ok.later ok.few in
    let code = 2048 * c.args.s + c.code.result in
    let low = sym c.in-Some.is ∙ c.lowest_pending_leaf.ensures.lowest in
    let split = ap (λ t. in_segment c.args.s (leaf_jobs (lowest_pending (tree_in c.args.s t) 0 c.args.leaves))) (sym ok.ran) ∙ ap (λ o. in_segment c.args.s (leaf_jobs o)) (sym low)
    ∙ ap (λ k. (2048 * c.args.s + k) ∷ []) (sym c.code.ensures) in
    way_within (code ∷ []) [] half split (length (map line_event c.run_if_pending.new.self.journal)) c.run_if_pending.ensures.few

pub returns-in_ok-run_if_pending-in-Some-clause-ran : goal.returns-in_ok-run_if_pending-in-Some-clause-ran
returns-in_ok-run_if_pending-in-Some-clause-ran g c =
    let sh = line_shape g.W.LeafWork.does c.args.self.now in
    let st = line_state c.args.self.now in
    let es = map line_event c.args.self.now.journal in
    let net = line_shape_net sh in
    let swept = in_segment c.args.s (sweep_jobs c.args.leaves) in
    let after = in_segment c.args.s (chosen c.args.leaves (tree_in c.args.s (run_all net st swept))) in
    let start = way_start line_shape_net sh st es (round_jobs net c.args.leaves c.args.s st) c.requires.free in
    let ok = c.in_ok-sweep.ensures in
    let half = way_more swept after start refl ok.ran ok.free ok.shape ok.later ok.few in
    let code = 2048 * c.args.s + c.code.result in
    let low = sym c.in-Some.is ∙ c.lowest_pending_leaf.ensures.lowest in
    let split = ap (λ t. in_segment c.args.s (leaf_jobs (lowest_pending (tree_in c.args.s t) 0 c.args.leaves))) (sym ok.ran) ∙ ap (λ o. in_segment c.args.s (leaf_jobs o)) (sym low)
    ∙ ap (λ k. (2048 * c.args.s + k) ∷ []) (sym c.code.ensures) in
    let done = c.in_ok-run_if_pending-in-Some.ensures in
    let way = way_more (code ∷ []) [] half split done.ran done.free done.shape done.later done.few in
    way.ran

pub returns-in-None-clause-ran : goal.returns-in-None-clause-ran
returns-in-None-clause-ran g c =
    let sh = line_shape g.W.LeafWork.does c.args.self.now in
    let st = line_state c.args.self.now in
    let es = map line_event c.args.self.now.journal in
    let net = line_shape_net sh in
    let swept = in_segment c.args.s (sweep_jobs c.args.leaves) in
    let after = in_segment c.args.s (chosen c.args.leaves (tree_in c.args.s (run_all net st swept))) in
    let start = way_start line_shape_net sh st es (round_jobs net c.args.leaves c.args.s st) c.requires.free in
    let ok = c.in_ok-sweep.ensures in
    let half = way_more swept after start refl ok.ran ok.free ok.shape ok.later ok.few in
    let low = sym c.in-None.is ∙ c.lowest_pending_leaf.ensures.lowest in
    let none = ap (λ t. in_segment c.args.s (leaf_jobs (lowest_pending (tree_in c.args.s t) 0 c.args.leaves))) (sym ok.ran) ∙ ap (λ o. in_segment c.args.s (leaf_jobs o)) (sym low) in
    let way = subst (IsOnWay line_shape_net sh st es (round_jobs net c.args.leaves c.args.s st) (line_shape g.W.LeafWork.does c.sweep.new.self) (line_state c.sweep.new.self) (map line_event c.sweep.new.self.journal)) none half in
    way.ran

pub returns-in-None-clause-few : goal.returns-in-None-clause-few
returns-in-None-clause-few g c =
    let sh = line_shape g.W.LeafWork.does c.args.self.now in
    let st = line_state c.args.self.now in
    let es = map line_event c.args.self.now.journal in
    let net = line_shape_net sh in
    let swept = in_segment c.args.s (sweep_jobs c.args.leaves) in
    let after = in_segment c.args.s (chosen c.args.leaves (tree_in c.args.s (run_all net st swept))) in
    let start = way_start line_shape_net sh st es (round_jobs net c.args.leaves c.args.s st) c.requires.free in
    let ok = c.in_ok-sweep.ensures in
    let half = way_more swept after start refl ok.ran ok.free ok.shape ok.later ok.few in
    let low = sym c.in-None.is ∙ c.lowest_pending_leaf.ensures.lowest in
    let none = ap (λ t. in_segment c.args.s (leaf_jobs (lowest_pending (tree_in c.args.s t) 0 c.args.leaves))) (sym ok.ran) ∙ ap (λ o. in_segment c.args.s (leaf_jobs o)) (sym low) in
    let way = subst (IsOnWay line_shape_net sh st es (round_jobs net c.args.leaves c.args.s st) (line_shape g.W.LeafWork.does c.sweep.new.self) (line_state c.sweep.new.self) (map line_event c.sweep.new.self.journal)) none half in
    omega (arith, way.few)
