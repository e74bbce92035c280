use Rattle.std.specs.Arc.{arc_value}
use Rattle.lt_query.specs.Planned.{HaveWidths}
use Rattle.lt_query.proofs.ByShape.{each_item}
use Rattle.lt_query.proofs.planned.plan_all.Goals as goal

pub plan-requires : goal.plan-requires
plan-requires c = record { widths = each_item HaveWidths arc_value c.args.progs.now c.loop-prog.prog-index c.prog-item.result c.loop-prog-test.true c.prog-item.is c.requires.widths }
