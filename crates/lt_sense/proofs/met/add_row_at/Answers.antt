use Rattle.std.proofs.Common.{◌≡◌, ◌-◌, false, length, slice_index, refl, sym, ap, ◌∙◌, subst, arith}
use Rattle.std.proofs.lemmas.List.{length-take-le}
use Rattle.std.proofs.lemmas.Option.{slice_get_within}
use Rattle.lt_face.proofs.RowLemmas.{each_at}
use Rattle.lt_face.specs.State.{permuted}
use Rattle.lt_sense.specs.Spans.{have, ranges_of, IsSpans}
use Rattle.lt_sense.specs.Gathered.{ranges_in}
use Rattle.lt_sense.proofs.Costs.{held_set, indexes_set}
use Rattle.lt_sense.proofs.MetRows.{row_past, row_added_at, cells_long}
use Rattle.lt_sense.proofs.Said.{have_set}
use Rattle.lt_sense.proofs.Spanned.{or_none}
use Rattle.lt_sense.proofs.Stepped.{ok_map, err_map}
use Rattle.lt_sense.proofs.met.add_row_at.Goals as goal

pub returns-then-cell-clause-added : goal.returns-then-cell-clause-added
returns-then-cell-clause-added c =
    let all = ranges_in c.args.lists.now.items in
    let h = c.args.row.now in
    let columns = c.as_slice.result.now in
    row_past all all c.args.relation columns h
    (ap (λ n. slice_index (permuted columns h) (n - 1)) (sym c.width-last.ensures.value) ∙ ap (λ xs. slice_index xs (c.width-last.result - 1)) (sym c.cells_in-cells.ensures) ∙ sym c.cell-cell.ensures ∙ c.if-cell.true)
    (λ relation row below. refl)

pub index_mut-requires : goal.index_mut-requires
index_mut-requires c = let lt = slice_get_within c.args.lists.now.items c.args.at c.requires.place.0 c.requires.place.1 in omega (arith, lt)

pub slice_bounds-add-end : goal.slice_bounds-add-end
slice_bounds-add-end c =
    let h = c.args.row.now in
    let long : length c.cells.result.now ≡ length h = cells_long c.args.lists.now.items c.args.at c.args.relation c.index.result.now h c.cells.result.now c.requires.place c.index.ensures
    (c.cells.ensures.cells ∙ c.cells_in-cells.ensures ∙ ap (λ cs. permuted cs h) c.as_slice.ensures) in
    sym (length-take-le (c.width-last.result - 1) c.cells.result.now (let w = c.width-last.ensures.value in omega (arith, long, w)))

pub add-requires-clause-sound : goal.add-requires-clause-sound
add-requires-clause-sound c =
    subst IsSpans (sym c.index_mut.ensures.value)
    (each_at IsSpans c.args.lists.now.items c.args.at c.index_mut.result.now c.requires.sound (slice_get_within c.args.lists.now.items c.args.at c.requires.place.0 c.requires.place.1))

pub returns-clause-added : goal.returns-clause-added
returns-clause-added c =
    let h = c.args.row.now in
    ok_map c.add.result (row_added_at c.args.lists.now.items c.args.at c.args.relation c.index.result.now c.index_mut.result.now c.add.new.self h c.cells.result.now (c.width-last.result - 1) c.cell-cell.result c.requires.place c.index.ensures c.index_mut.ensures.value c.requires.some
    (ap (λ n. n - 1) c.width-last.ensures.value)
    (c.cells.ensures.cells ∙ c.cells_in-cells.ensures ∙ ap (λ cs. permuted cs h) c.as_slice.ensures)
    (c.cell-cell.ensures ∙ ap (λ xs. slice_index xs (c.width-last.result - 1)) (sym c.cells.ensures.cells))) c.add.ensures.added

pub returns-clause-err : goal.returns-clause-err
returns-clause-err c =
    let lists = c.args.lists.now.items in
    let s = c.index_mut.result.now in
    let place = c.requires.place in
    let lt = slice_get_within lists c.args.at place.0 place.1 in
    err_map c.add.result (λ rows relation row below.
    have_set lists c.args.at s c.add.new.self false relation row lt c.index_mut.ensures.value (rows relation row below ∙ sym (or_none (have (ranges_of s) relation row)))
    ∙ or_none (have (ranges_in lists) relation row)) c.add.ensures.err

pub returns-clause-indexes : goal.returns-clause-indexes
returns-clause-indexes c =
    let lists = c.args.lists.now.items in
    let s = c.index_mut.result.now in
    let t = c.add.new.self in
    let lt = slice_get_within lists c.args.at c.requires.place.0 c.requires.place.1 in
    indexes_set lists c.args.at s t lt c.index_mut.ensures.value (ap (λ n. (n, t.columns)) c.add.ensures.same.relation ∙ ap (λ cs. (s.relation, cs)) c.add.ensures.same.columns)

pub returns-clause-few : goal.returns-clause-few
returns-clause-few c =
    let lists = c.args.lists.now.items in
    let lt = slice_get_within lists c.args.at c.requires.place.0 c.requires.place.1 in
    ok_map c.add.result (λ e. held_set lists c.args.at c.index_mut.result.now c.add.new.self 1 lt c.index_mut.ensures.value e) c.add.ensures.few

pub returns-clause-left : goal.returns-clause-left
returns-clause-left c =
    let lists = c.args.lists.now.items in
    let lt = slice_get_within lists c.args.at c.requires.place.0 c.requires.place.1 in
    err_map c.add.result (λ e. let f = held_set lists c.args.at c.index_mut.result.now c.add.new.self 0 lt c.index_mut.ensures.value (omega (arith, e)) in omega (arith, f)) c.add.ensures.left
