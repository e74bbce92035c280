use Rattle.lt_workers.proofs.WentAlone.{went_to_end}
use Rattle.lt_workers.proofs.beginning.work_alone.Goals as goal

pub returns-in-Ok : goal.returns-in-Ok
returns-in-Ok g c = record { went = went_to_end g.M.Machine.net (g.M.Machine.stand c.args.machine.now) (g.M.Machine.stand c.end.new.self) c.end.ensures.moved c.end.ensures.free c.requires.others }

pub returns-in-Err : goal.returns-in-Err
returns-in-Err g c = record { went = went_to_end g.M.Machine.net (g.M.Machine.stand c.args.machine.now) (g.M.Machine.stand c.give_up.new.self) c.give_up.ensures.moved c.give_up.ensures.free c.requires.others }
