use Rattle.std.proofs.Common.{◌≡◌, ◌++◌, IfOk, length, sym, subst}
use Rattle.lt_circuit.specs.Line.{line_state}
use Rattle.lt_circuit.specs.Row.{sizes}
use Rattle.lt_workers.specs.declared.basis.LineBasis.{LineBasis}
use Rattle.lt_workers.specs.Given.{roots, HasGiven, GaveSome}
use Rattle.lt_workers.proofs.Finals.{given_none, went_work, went_sizes}
use Rattle.lt_workers.proofs.line_settling.settle_line.Goals as goal

pub settled_after-requires-clause-base : goal.settled_after-requires-clause-base
settled_after-requires-clause-base g c = λ lifetimes outlive. λ m fits. c.begin_line-begun.ensures.base m (c.requires.base m (subst (λ w. g.W.LeafWork.fits w m) (went_work g.W.LeafWork.does c.args.line c.begin_line-begun.new.line c.begin_line-begun.ensures.went) fits))

pub returns-clause-work : goal.returns-clause-work
returns-clause-work g c = subst (λ w. IfOk c.settled_after.result (λ done. done.work ≡ w)) (went_work g.W.LeafWork.does c.args.line c.begin_line-begun.new.line c.begin_line-begun.ensures.went) c.settled_after.ensures.work

pub returns-clause-sizes : goal.returns-clause-sizes
returns-clause-sizes g c = subst (λ n. IfOk c.settled_after.result (λ done. sizes done.row ≡ n)) (went_sizes g.W.LeafWork.does c.args.line c.begin_line-begun.new.line c.begin_line-begun.ensures.went) c.settled_after.ensures.sizes

pub returns-clause-given : goal.returns-clause-given
returns-clause-given g c =
    let same = went_sizes g.W.LeafWork.does c.args.line c.begin_line-begun.new.line c.begin_line-begun.ensures.went in
    let there = c.begin_line-begun.ensures.given (g.O.OnFinal.given c.args.on.now) (given_none (sizes c.args.line.row) (g.O.OnFinal.given c.args.on.now) (line_state c.args.line)) in
    let given = subst (λ n. HasGiven n (g.O.OnFinal.given c.args.on.now) (g.O.OnFinal.given c.begin_line-begun.new.on) c.begin_line-begun.new.count (line_state c.begin_line-begun.new.line)) (sym same) there in
    subst (λ n. IfOk c.settled_after.result (λ done. (g.O.OnFinal.given c.settled_after.new.on) ≡ (g.O.OnFinal.given c.args.on.now) ++ roots (line_state done) (length n))) same (c.settled_after.ensures.given (g.O.OnFinal.given c.args.on.now) given)

pub returns-clause-some : goal.returns-clause-some
returns-clause-some g c =
    let same = went_sizes g.W.LeafWork.does c.args.line c.begin_line-begun.new.line c.begin_line-begun.ensures.went in
    let there = c.begin_line-begun.ensures.given (g.O.OnFinal.given c.args.on.now) (given_none (sizes c.args.line.row) (g.O.OnFinal.given c.args.on.now) (line_state c.args.line)) in
    let given = subst (λ n. HasGiven n (g.O.OnFinal.given c.args.on.now) (g.O.OnFinal.given c.begin_line-begun.new.on) c.begin_line-begun.new.count (line_state c.begin_line-begun.new.line)) (sym same) there in
    subst (λ (b : LineBasis _). GaveSome (g.W.LeafWork.does b.work) b.sizes (g.O.OnFinal.given c.args.on.now) (g.O.OnFinal.given c.settled_after.new.on)) c.begin_line-begun.ensures.went.basis (c.settled_after.ensures.some (g.O.OnFinal.given c.args.on.now) given)
