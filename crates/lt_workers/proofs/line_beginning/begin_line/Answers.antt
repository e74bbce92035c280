use Rattle.std.proofs.Common.{subst}
use Rattle.lt_circuit.specs.Line.{line_state}
use Rattle.lt_circuit.specs.Row.{sizes}
use Rattle.lt_workers.specs.Machines.{line_net_of, line_stand}
use Rattle.lt_workers.proofs.Finals.{went_work, went_sizes, gives_then}
use Rattle.lt_workers.proofs.WentAlone.{went_still, went_then}
use Rattle.lt_workers.proofs.line_beginning.begin_line.Goals as goal

pub returns-then-waits-clause-went : goal.returns-then-waits-clause-went
returns-then-waits-clause-went g c = went_still (line_net_of g.W.LeafWork.does) (line_stand c.args.line.now) c.requires.free

pub returns-then-waits-clause-given : goal.returns-then-waits-clause-given
returns-then-waits-clause-given g c = λ before h. h

pub loop-init : goal.loop-init
loop-init g c = (went_still (line_net_of g.W.LeafWork.does) (line_stand c.args.line.now) c.requires.free, (λ before h. h), (λ m fits. fits))

pub go_on_line-begun-requires-clause-base : goal.go_on_line-begun-requires-clause-base
go_on_line-begun-requires-clause-base g c = λ lifetimes outlive. λ m fits. c.loop.invariant.2 m (c.requires.base m (subst (λ w. g.W.LeafWork.fits w m) (went_work g.W.LeafWork.does c.args.line.now c.loop.line c.loop.invariant.0) fits))

pub loop-preserved : goal.loop-preserved
loop-preserved g c = (
  went_then (line_net_of g.W.LeafWork.does) (line_stand c.args.line.now) (line_stand c.loop.line) (line_stand c.go_on_line-begun.new.line) c.loop.invariant.0 c.go_on_line-begun.ensures.went,
  gives_then (sizes c.args.line.now.row) (sizes c.loop.line.row) (line_state c.args.line.now) (line_state c.loop.line) (line_state c.go_on_line-begun.new.line) (g.O.OnFinal.given c.args.on.now) (g.O.OnFinal.given c.loop.on) (g.O.OnFinal.given c.go_on_line-begun.new.on) c.args.count.now c.loop.count c.go_on_line-begun.new.count
      (went_sizes g.W.LeafWork.does c.args.line.now c.loop.line c.loop.invariant.0) c.loop.invariant.1 c.go_on_line-begun.ensures.given,
  (λ m fits. c.go_on_line-begun.ensures.base m (c.loop.invariant.2 m fits)),
)

pub returns-then-ne-clause-went : goal.returns-then-ne-clause-went
returns-then-ne-clause-went g c = went_then (line_net_of g.W.LeafWork.does) (line_stand c.args.line.now) (line_stand c.loop.line) (line_stand c.go_on_line-begun.new.line) c.loop.invariant.0 c.go_on_line-begun.ensures.went

pub returns-then-ne-clause-given : goal.returns-then-ne-clause-given
returns-then-ne-clause-given g c =
    gives_then (sizes c.args.line.now.row) (sizes c.loop.line.row) (line_state c.args.line.now) (line_state c.loop.line) (line_state c.go_on_line-begun.new.line) (g.O.OnFinal.given c.args.on.now) (g.O.OnFinal.given c.loop.on) (g.O.OnFinal.given c.go_on_line-begun.new.on) c.args.count.now c.loop.count c.go_on_line-begun.new.count
    (went_sizes g.W.LeafWork.does c.args.line.now c.loop.line c.loop.invariant.0) c.loop.invariant.1 c.go_on_line-begun.ensures.given
