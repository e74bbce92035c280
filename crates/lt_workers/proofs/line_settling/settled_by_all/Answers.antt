use Rattle.std.proofs.Common.{◌≡◌, ◌++◌, IfOk, length, ap, sym, subst}
use Rattle.lt_circuit.specs.Line.{line_state}
use Rattle.lt_circuit.specs.Row.{sizes}
use Rattle.lt_net.specs.Line.{AreSizes}
use Rattle.lt_turn.specs.declared.view.View.{View}
use Rattle.lt_workers.specs.declared.basis.LineBasis.{LineBasis}
use Rattle.lt_workers.specs.Given.{roots, GaveSome}
use Rattle.lt_workers.specs.Machines.{line_basis_of, line_net_of}
use Rattle.lt_workers.proofs.Continuing.{begins_then}
use Rattle.lt_workers.proofs.Finals.{gave_some, closed_basis, closed_work, closed_sizes}
use Rattle.lt_workers.proofs.SeenFinals.{basis_is, given_there, seen_now}
use Rattle.lt_workers.proofs.line_settling.settled_by_all.Goals as goal

pub fan_line_from-requires-clause-base : goal.fan_line_from-requires-clause-base
fan_line_from-requires-clause-base g c = λ lifetimes outlive. basis_is c.in_ok-shared.seat.token.me.0 (line_basis_of c.args.line) _ (ap (λ (x : View (LineBasis _)). x.opening) c.in_ok-shared.ensures.view) c.requires.base

pub finished-requires-clause-free : goal.finished-requires-clause-free
finished-requires-clause-free g c = λ lifetimes outlive. c.close-line.ensures.free (begins_then (line_net_of g.W.LeafWork.does) c.in_ok-shared.seat.token.me.0 c.fan_line_from.new.seat.token.me.0 c.fan_line_from.ensures.drives.0.same c.in_ok-shared.ensures.begun) c.fan_line_from.ensures.drives.0.free

pub finished-requires-clause-base : goal.finished-requires-clause-base
finished-requires-clause-base g c = λ lifetimes outlive. λ m fits. c.fan_line_from.ensures.base m (c.requires.base m (subst (λ w. g.W.LeafWork.fits w m) (closed_work g.W.LeafWork.does c.args.line c.close-line.result c.in_ok-shared.seat.token.me.0 c.fan_line_from.new.seat.token.me.0 c.args.workers c.in_ok-shared.ensures.view c.fan_line_from.ensures.drives.0.same c.fan_line_from.ensures.drives.0.later c.close-line.ensures.opening c.close-line.ensures.journal) fits))

pub returns-in_err-shared-clause-some : goal.returns-in_err-shared-clause-some
returns-in_err-shared-clause-some g c = λ before h. gave_some g.W.LeafWork.does c.args.line before _ _ c.journal-before.ensures.replay h

pub returns-clause-work : goal.returns-clause-work
returns-clause-work g c = subst (λ w. IfOk c.finished.result (λ done. done.work ≡ w)) (closed_work g.W.LeafWork.does c.args.line c.close-line.result c.in_ok-shared.seat.token.me.0 c.fan_line_from.new.seat.token.me.0 c.args.workers c.in_ok-shared.ensures.view c.fan_line_from.ensures.drives.0.same c.fan_line_from.ensures.drives.0.later c.close-line.ensures.opening c.close-line.ensures.journal) c.finished.ensures.work

pub returns-clause-sizes : goal.returns-clause-sizes
returns-clause-sizes g c = subst (λ n. IfOk c.finished.result (λ done. sizes done.row ≡ n)) (closed_sizes g.W.LeafWork.does c.args.line c.close-line.result c.in_ok-shared.seat.token.me.0 c.fan_line_from.new.seat.token.me.0 c.args.workers c.in_ok-shared.ensures.view c.fan_line_from.ensures.drives.0.same c.fan_line_from.ensures.drives.0.later c.close-line.ensures.opening c.close-line.ensures.journal) c.finished.ensures.sizes

pub returns-clause-given : goal.returns-clause-given
returns-clause-given g c = λ before h.
    let same = closed_sizes g.W.LeafWork.does c.args.line c.close-line.result c.in_ok-shared.seat.token.me.0 c.fan_line_from.new.seat.token.me.0 c.args.workers c.in_ok-shared.ensures.view c.fan_line_from.ensures.drives.0.same c.fan_line_from.ensures.drives.0.later c.close-line.ensures.opening c.close-line.ensures.journal in
    let opened = ap (λ (x : View (LineBasis _)). x.opening) c.in_ok-shared.ensures.view in
    let there = c.fan_line_from.ensures.given before (seen_now g.W.LeafWork.does c.in_ok-shared.seat.token.me.0 (line_basis_of c.args.line) (line_state c.args.line) before (g.O.OnFinal.given c.args.on.now) c.args.count opened c.in_ok-shared.ensures.known h) in
    let given = given_there g.W.LeafWork.does c.fan_line_from.new.seat.token.me.0 (line_basis_of c.close-line.result) _ (line_state c.close-line.result) before (g.O.OnFinal.given c.fan_line_from.new.on) c.fan_line_from.new.count c.close-line.ensures.opening c.close-line.ensures.journal
    (subst (λ n. AreSizes n) (sym same) c.segment_count-segments.ensures.sizes) c.close-line.ensures.replayed there in
    subst (λ n. IfOk c.finished.result (λ done. (g.O.OnFinal.given c.finished.new.on) ≡ before ++ roots (line_state done) (length n))) same (c.finished.ensures.given before given)

pub returns-clause-some : goal.returns-clause-some
returns-clause-some g c = λ before h.
    let same = closed_sizes g.W.LeafWork.does c.args.line c.close-line.result c.in_ok-shared.seat.token.me.0 c.fan_line_from.new.seat.token.me.0 c.args.workers c.in_ok-shared.ensures.view c.fan_line_from.ensures.drives.0.same c.fan_line_from.ensures.drives.0.later c.close-line.ensures.opening c.close-line.ensures.journal in
    let opened = ap (λ (x : View (LineBasis _)). x.opening) c.in_ok-shared.ensures.view in
    let there = c.fan_line_from.ensures.given before (seen_now g.W.LeafWork.does c.in_ok-shared.seat.token.me.0 (line_basis_of c.args.line) (line_state c.args.line) before (g.O.OnFinal.given c.args.on.now) c.args.count opened c.in_ok-shared.ensures.known h) in
    let given = given_there g.W.LeafWork.does c.fan_line_from.new.seat.token.me.0 (line_basis_of c.close-line.result) _ (line_state c.close-line.result) before (g.O.OnFinal.given c.fan_line_from.new.on) c.fan_line_from.new.count c.close-line.ensures.opening c.close-line.ensures.journal
    (subst (λ n. AreSizes n) (sym same) c.segment_count-segments.ensures.sizes) c.close-line.ensures.replayed there in
    subst (λ (b : LineBasis _). GaveSome (g.W.LeafWork.does b.work) b.sizes before (g.O.OnFinal.given c.finished.new.on)) (closed_basis g.W.LeafWork.does c.args.line c.close-line.result c.in_ok-shared.seat.token.me.0 c.fan_line_from.new.seat.token.me.0 c.args.workers c.in_ok-shared.ensures.view c.fan_line_from.ensures.drives.0.same c.fan_line_from.ensures.drives.0.later c.close-line.ensures.opening c.close-line.ensures.journal) (c.finished.ensures.some before given)

pub returns-clause-base : goal.returns-clause-base
returns-clause-base g c = λ m fits. c.finished.ensures.base m (c.fan_line_from.ensures.base m fits)
