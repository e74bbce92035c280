use Rattle.std.proofs.Common.{◌∙◌, ◌+◌, ◌*◌, [], ◌++◌, ap, sym, length, arith}
use Rattle.std.proofs.lemmas.List.{append-nil, map-append}
use Rattle.lt_net.specs.Alone.{corrects_up, merges_down, sweep_jobs}
use Rattle.lt_net.specs.LineAlone.{in_segment}
use Rattle.lt_circuit.proofs.OnWay.{later_then, way_more, way_start, way_within}
use Rattle.std.specs.Prelude.{map}
use Rattle.lt_circuit.specs.Line.{line_event, line_state}
use Rattle.lt_circuit.specs.LineShape.{line_shape, line_shape_net}
use Rattle.lt_circuit.proofs.line.Line.sweep.Goals as goal

pub returns-in_err-run_merges-clause-few : goal.returns-in_err-run_merges-clause-few
returns-in_err-run_merges-clause-few g c =
    let sh = line_shape g.W.LeafWork.does c.args.self.now in
    let st = line_state c.args.self.now in
    let es = map line_event c.args.self.now.journal in
    let merges = in_segment c.args.s (merges_down c.nodes_over-count.result) in
    let corrects = in_segment c.args.s (corrects_up 0 c.nodes_over-count.result) in
    let split = ap (λ k. in_segment c.args.s (merges_down k ++ corrects_up 0 k)) (sym c.nodes_over-count.ensures)
    ∙ map-append (λ place. 2048 * c.args.s + place) (merges_down c.nodes_over-count.result) (corrects_up 0 c.nodes_over-count.result) in
    let start = way_start line_shape_net sh st es (in_segment c.args.s (sweep_jobs c.args.leaves)) c.requires.free in
    way_within merges corrects start split (length (map line_event c.run_merges.new.self.journal)) c.run_merges.ensures.few

pub returns-in_err-run_corrects-clause-few : goal.returns-in_err-run_corrects-clause-few
returns-in_err-run_corrects-clause-few g c =
    let sh = line_shape g.W.LeafWork.does c.args.self.now in
    let st = line_state c.args.self.now in
    let es = map line_event c.args.self.now.journal in
    let merges = in_segment c.args.s (merges_down c.nodes_over-count.result) in
    let corrects = in_segment c.args.s (corrects_up 0 c.nodes_over-count.result) in
    let split = ap (λ k. in_segment c.args.s (merges_down k ++ corrects_up 0 k)) (sym c.nodes_over-count.ensures)
    ∙ map-append (λ place. 2048 * c.args.s + place) (merges_down c.nodes_over-count.result) (corrects_up 0 c.nodes_over-count.result) in
    let start = way_start line_shape_net sh st es (in_segment c.args.s (sweep_jobs c.args.leaves)) c.requires.free in
    let ok = c.in_ok-run_merges.ensures in
    let half = way_more merges corrects start split ok.ran ok.free ok.shape ok.later ok.few in
    way_within corrects [] half (sym (append-nil corrects)) (length (map line_event c.run_corrects.new.self.journal)) c.run_corrects.ensures.few

pub returns-in_err-run_corrects-clause-later : goal.returns-in_err-run_corrects-clause-later
returns-in_err-run_corrects-clause-later g c = later_then (map line_event c.args.self.now.journal) (map line_event c.run_merges.new.self.journal) (map line_event c.run_corrects.new.self.journal) c.run_merges.ensures.later c.run_corrects.ensures.later

pub returns-clause-ran : goal.returns-clause-ran
returns-clause-ran g c =
    let sh = line_shape g.W.LeafWork.does c.args.self.now in
    let st = line_state c.args.self.now in
    let es = map line_event c.args.self.now.journal in
    let merges = in_segment c.args.s (merges_down c.nodes_over-count.result) in
    let corrects = in_segment c.args.s (corrects_up 0 c.nodes_over-count.result) in
    let split = ap (λ k. in_segment c.args.s (merges_down k ++ corrects_up 0 k)) (sym c.nodes_over-count.ensures)
    ∙ map-append (λ place. 2048 * c.args.s + place) (merges_down c.nodes_over-count.result) (corrects_up 0 c.nodes_over-count.result) in
    let start = way_start line_shape_net sh st es (in_segment c.args.s (sweep_jobs c.args.leaves)) c.requires.free in
    let ok = c.in_ok-run_merges.ensures in
    let half = way_more merges corrects start split ok.ran ok.free ok.shape ok.later ok.few in
    let done = c.in_ok-run_corrects.ensures in
    let way = way_more corrects [] half (sym (append-nil corrects)) done.ran done.free done.shape done.later done.few in
    way.ran

pub returns-clause-later : goal.returns-clause-later
returns-clause-later g c = later_then (map line_event c.args.self.now.journal) (map line_event c.run_merges.new.self.journal) (map line_event c.run_corrects.new.self.journal) c.run_merges.ensures.later c.run_corrects.ensures.later

pub returns-clause-few : goal.returns-clause-few
returns-clause-few g c =
    let sh = line_shape g.W.LeafWork.does c.args.self.now in
    let st = line_state c.args.self.now in
    let es = map line_event c.args.self.now.journal in
    let merges = in_segment c.args.s (merges_down c.nodes_over-count.result) in
    let corrects = in_segment c.args.s (corrects_up 0 c.nodes_over-count.result) in
    let split = ap (λ k. in_segment c.args.s (merges_down k ++ corrects_up 0 k)) (sym c.nodes_over-count.ensures)
    ∙ map-append (λ place. 2048 * c.args.s + place) (merges_down c.nodes_over-count.result) (corrects_up 0 c.nodes_over-count.result) in
    let start = way_start line_shape_net sh st es (in_segment c.args.s (sweep_jobs c.args.leaves)) c.requires.free in
    let ok = c.in_ok-run_merges.ensures in
    let half = way_more merges corrects start split ok.ran ok.free ok.shape ok.later ok.few in
    let done = c.in_ok-run_corrects.ensures in
    let way = way_more corrects [] half (sym (append-nil corrects)) done.ran done.free done.shape done.later done.few in
    omega (arith, way.few)
