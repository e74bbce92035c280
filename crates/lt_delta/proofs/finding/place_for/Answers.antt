use Rattle.std.proofs.Common.{rules, of_calls}
use Rattle.std.specs.Arc.{arc_value}
use Rattle.std.proofs.lemmas.Fn.{always_returns_same}
use Rattle.lt_delta.specs.Finding.{is_before}
use Rattle.lt_delta.proofs.Finds.{place_found}
use Rattle.lt_delta.proofs.finding.place_for.Goals as goal

pub returns : goal.returns
returns c =
    place_found arc_value c.args.marks.now c.args.relation c.args.row.now c.partition_point.result c.requires c.partition_point.ensures.bound
    (c.partition_point.ensures.partitioned (λ m. is_before c.args.relation c.args.row.now (arc_value m)) (always_returns_same _ _ _ (λ a r g called. search (rules, of_calls))))
