use Rattle.std.proofs.Common.{◌≡◌, List, map, arith, sym, ap, subst, ◌∙◌}
use Rattle.std.specs.List.{AllByRecursion}
use Rattle.std.proofs.lemmas.List.{take_all}
use Rattle.lt_face.specs.Rows.{IsRow, IsRowSet}
use Rattle.lt_face.specs.State.{Row}
use Rattle.lt_face.proofs.RowLemmas.{each_at}
use Rattle.lt_model.specs.declared.mark.Mark.{Mark}
use Rattle.lt_base.specs.declared.index.Index.{Index}
use Rattle.lt_delta.specs.Columns.{IsPermuted}
use Rattle.lt_base.specs.Indexed.{index_laid}
use Rattle.lt_base.proofs.Grown.{grown}
use Rattle.lt_base.proofs.relation.all_laid.Goals as goal

pub laid-requires-clause-indexed : goal.laid-requires-clause-indexed
laid-requires-clause-indexed c =
    subst (λ (i : Index). (table : List Row) × IsRowSet i.rows.width table × IsPermuted i.rows.width i.columns table i.rows.rows) (sym c.index-item.is)
    (each_at (λ (i : Index). (table : List Row) × IsRowSet i.rows.width table × IsPermuted i.rows.width i.columns table i.rows.rows) c.deref-index-items.result.now c.loop-index.index-index c.index-item.result (rw c.deref-index-items.ensures.value c.requires.indexed) c.loop-index-test.true)

pub laid-requires-clause-fit : goal.laid-requires-clause-fit
laid-requires-clause-fit c =
    subst (λ (i : Index). AllByRecursion (λ (m : Mark). m.relation ≡ c.args.relation → IsRow i.rows.width m.row) c.args.marks.now) (sym c.index-item.is)
    (each_at (λ (i : Index). AllByRecursion (λ (m : Mark). m.relation ≡ c.args.relation → IsRow i.rows.width m.row) c.args.marks.now) c.deref-index-items.result.now c.loop-index.index-index c.index-item.result (rw c.deref-index-items.ensures.value c.requires.fit) c.loop-index-test.true)

pub loop-index-preserved : goal.loop-index-preserved
loop-index-preserved c =
    rw c.in_ok-push.ensures.items
    (grown (index_laid c.args.relation c.args.marks.now) c.loop-index.laid.items c.args.others.now.items c.loop-index.index-index c.in_ok-index.index c.index-item.result
    (rw c.deref-index-items.ensures.value at c.loop-index-test.true) (rw c.deref-index-items.ensures.value at c.index-item.is) c.in_ok-index.ensures c.loop-index.invariant)

pub returns : goal.returns
returns c =
    c.loop-index.invariant
    ∙ ap (map (index_laid c.args.relation c.args.marks.now)) (take_all c.loop-index.index-index c.args.others.now.items (omega (arith, rw c.deref-index-items.ensures.value at c.loop-index-test.false)))
