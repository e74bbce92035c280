use Rattle.lt_workers.proofs.WentAlone.{went_still, went_then}
use Rattle.lt_workers.proofs.beginning.begin.Goals as goal

pub loop-init : goal.loop-init
loop-init g c = went_still g.M.Machine.net (g.M.Machine.stand c.args.machine.now) c.requires.free

pub loop-preserved : goal.loop-preserved
loop-preserved g c = went_then g.M.Machine.net (g.M.Machine.stand c.args.machine.now) (g.M.Machine.stand c.loop.machine) (g.M.Machine.stand c.go_on_alone-begun.new.machine) c.loop.invariant c.go_on_alone-begun.ensures.went

pub returns-then-ne : goal.returns-then-ne
returns-then-ne g c = record { went = went_then g.M.Machine.net (g.M.Machine.stand c.args.machine.now) (g.M.Machine.stand c.loop.machine) (g.M.Machine.stand c.go_on_alone-begun.new.machine) c.loop.invariant c.go_on_alone-begun.ensures.went }
