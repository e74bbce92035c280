use Rattle.lt_workers.proofs.Finals.{gives_later}
use Rattle.lt_workers.proofs.line_settling.settled_alone.Goals as goal

pub returns-then-settled-clause-given : goal.returns-then-settled-clause-given
returns-then-settled-clause-given g c = λ given k before h. h

pub returns-clause-given : goal.returns-clause-given
returns-clause-given g c = λ given k.
    gives_later g.W.LeafWork.does c.args.line c.settle_alone.new.self c.journal-before.ensures.replay c.journal-after.ensures.replay c.settle_alone.ensures.work c.settle_alone.ensures.sizes c.settle_alone.ensures.later c.segment_count-segments.ensures.sizes given k
