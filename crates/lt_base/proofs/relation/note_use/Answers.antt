use Rattle.std.proofs.Common.{◌≡◌, map, get_or, set, sym, ap, ◌∙◌, subst}
use Rattle.std.specs.List.{AllByRecursion}
use Rattle.lt_base.specs.declared.index.Index.{Index}
use Rattle.lt_base.specs.Indexed.{IsIndexed}
use Rattle.lt_base.proofs.Used.{noted_all, noted_columns}
use Rattle.lt_base.proofs.relation.note_use.Goals as goal
use Rattle.lt_base.proofs.relation.note_use.Goals.{then-is_same_order, else-is_same_order}

pub loop-at-preserved : goal.loop-at-preserved
loop-at-preserved c =
    let others = c.loop-at.others in
    elim c.if-is_same_order.branch [
      | then-is_same_order w ↦
          let index = w.index-others-at-then-is_same_order.result in
          let at = w.index-others-at-then-is_same_order.is in
          let there = get_or others c.loop-at.at index in
          let is : c.if-is_same_order.others ≡ set others c.loop-at.at (record { columns = there.columns; rows = there.rows; idle = 0 }) = w.others-is in
          record {
            same = λ width rows all. subst (AllByRecursion (IsIndexed width rows)) (sym is) (noted_all others c.loop-at.at index 0 at width rows (c.loop-at.invariant.same width rows all));
            columns = ap (map (λ (o : Index). o.columns)) is ∙ noted_columns others c.loop-at.at index 0 at ∙ c.loop-at.invariant.columns;
          }
      | else-is_same_order w ↦
          let is : c.if-is_same_order.others ≡ others = w.others-is in
          record {
            same = λ width rows all. subst (AllByRecursion (IsIndexed width rows)) (sym is) (c.loop-at.invariant.same width rows all);
            columns = ap (map (λ (o : Index). o.columns)) is ∙ c.loop-at.invariant.columns;
          }
    ]
