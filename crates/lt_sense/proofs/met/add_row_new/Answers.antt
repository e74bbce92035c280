use Rattle.std.proofs.Common.{◌≡◌, ◌-◌, ◌+◌, length, take, slice_index, refl, sym, ap, ◌∙◌, subst, arith}
use Rattle.std.proofs.lemmas.List.{length-take-le}
use Rattle.lt_face.specs.State.{permuted}
use Rattle.lt_sense.specs.Gathered.{ranges_in, IsOrder}
use Rattle.lt_sense.specs.Held.{indexes, MoreIndexes}
use Rattle.lt_sense.specs.Spans.{HaveAlso}
use Rattle.lt_sense.proofs.Lies.{length_map}
use Rattle.lt_sense.proofs.MetRows.{row_past, row_added}
use Rattle.lt_sense.proofs.Spanned.{range_in}
use Rattle.lt_sense.proofs.Stepped.{ok_map}
use Rattle.lt_sense.proofs.Tallied.{length_first, order_first}
use Rattle.lt_sense.proofs.met.add_row_new.Goals as goal

pub returns-then-cell-clause-added : goal.returns-then-cell-clause-added
returns-then-cell-clause-added c =
    let all = ranges_in c.args.lists.now.items in
    let h = c.args.row.now in
    let columns = c.as_slice.result.now in
    row_past all all c.args.relation columns h
    (ap (λ n. slice_index (permuted columns h) (n - 1)) (sym c.width-last.ensures.value) ∙ ap (λ xs. slice_index xs (c.width-last.result - 1)) (sym c.cells_in-cells.ensures) ∙ sym c.cell-cell.ensures ∙ c.if-cell.true)
    (λ relation row below. refl)

pub slice_bounds-add_new-end : goal.slice_bounds-add_new-end
slice_bounds-add_new-end c =
    let h = c.args.row.now in
    let long : length c.cells.result.now ≡ length h =
    ap length (c.cells.ensures.cells ∙ c.cells_in-cells.ensures) ∙ length_map (λ k. slice_index h k) c.as_slice.result.now ∙ ap length (c.as_slice.ensures ∙ c.requires.columns) ∙ length_first (length h) in
    sym (length-take-le (c.width-last.result - 1) c.cells.result.now (let w = c.width-last.ensures.value in omega (arith, long, w)))

pub returns-clause-added : goal.returns-clause-added
returns-clause-added c =
    let h = c.args.row.now in
    let old = ranges_in c.args.lists.now.items in
    let new = ranges_in c.add_new.new.lists.items in
    let columns = c.args.columns.now in
    let cells : c.cells.result.now ≡ permuted columns h = c.cells.ensures.cells ∙ c.cells_in-cells.ensures ∙ ap (λ cs. permuted cs h) c.as_slice.ensures in
    let cell : c.cell-cell.result ≡ slice_index (permuted columns h) (length h - 1) =
    c.cell-cell.ensures ∙ ap (λ n. slice_index c.cells_in-cells.result (n - 1)) c.width-last.ensures.value ∙ ap (λ xs. slice_index xs (length h - 1)) (sym c.cells.ensures.cells ∙ cells) in
    let range : range_in c.args.relation columns (take (c.width-last.result - 1) c.cells.result.now) c.cell-cell.result (c.cell-cell.result + 1) ≡ range_in c.args.relation columns (take (length h - 1) (permuted columns h)) c.cell-cell.result (c.cell-cell.result + 1) =
    ap (λ n. range_in c.args.relation columns (take (n - 1) c.cells.result.now) c.cell-cell.result (c.cell-cell.result + 1)) c.width-last.ensures.value ∙ ap (λ xs. range_in c.args.relation columns (take (length h - 1) xs) c.cell-cell.result (c.cell-cell.result + 1)) cells in
    ok_map c.add_new.result (λ also. row_added old new c.args.relation columns h c.cell-cell.result (subst IsOrder (sym c.requires.columns) (order_first (length h))) (ap length c.requires.columns ∙ length_first (length h)) c.requires.some cell
    (subst (HaveAlso old new) range also)) c.add_new.ensures.added

pub returns-clause-indexes : goal.returns-clause-indexes
returns-clause-indexes c =
    ok_map c.add_new.result (subst (λ cs. MoreIndexes (indexes c.args.lists.now.items) (indexes c.add_new.new.lists.items) (c.args.relation, cs)) c.requires.columns) c.add_new.ensures.indexes
