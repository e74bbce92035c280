use Rattle.std.proofs.Common.{◌≡◌, ◌<◌, ◌+◌, ◌++◌, ◌∷◌, [], ℕ, List, ◌^◌, zero, suc, true, false, length, refl, sym, ap, ◌∙◌, subst, arith, length-append}
use Rattle.std.specs.List.{AllByRecursion}
use Rattle.lt_face.specs.Rows.{IsRow, IsCell}
use mathlib.Core.Bool.{true≢false}
use Rattle.lt_face.proofs.Walked.{each_has}
use Rattle.lt_face.proofs.Above.{from_above, last_cell, none_above}
use Rattle.lt_face.proofs.walk.row_above.Goals as goal

pub overflow_add-last : goal.overflow_add-last
overflow_add-last g c =
    let w = g.R.RowReads.width_of c.args.rows.now in
    let rows = g.R.RowReads.rows c.args.rows.now in
    let set = c.width-width.ensures.is_set in
    let one = each_has (IsRow w) rows c.args.row.now set.each c.requires in
    let is : c.args.row.now ≡ c.in-Some.prefix.now ++ c.in-Some.last.now ∷ [] = sym c.cells-cells.ensures.cells ∙ c.in-Some.ensures.cases.0 in
    let cell : c.in-Some.last.now < 2 ^ 120 = last_cell c.in-Some.prefix.now c.in-Some.last.now (subst (λ (r : List ℕ). AllByRecursion IsCell r) is one.has_cells) in
    omega (arith, cell)

pub row_near-requires : goal.row_near-requires
row_near-requires g c =
    let w = g.R.RowReads.width_of c.args.rows.now in
    let rows = g.R.RowReads.rows c.args.rows.now in
    let set = c.width-width.ensures.is_set in
    let one = each_has (IsRow w) rows c.args.row.now set.each c.requires in
    let is : c.args.row.now ≡ c.in-Some.prefix.now ++ c.in-Some.last.now ∷ [] = sym c.cells-cells.ensures.cells ∙ c.in-Some.ensures.cases.0 in
    let long : length c.args.row.now ≡ length c.in-Some.prefix.now + 1 = ap length is ∙ length-append c.in-Some.prefix.now (c.in-Some.last.now ∷ []) in
    let wide : length c.args.row.now ≡ w = one.is_wide in
    omega (arith, long, wide)

pub returns-in-Some : goal.returns-in-Some
returns-in-Some g c =
    let w = g.R.RowReads.width_of c.args.rows.now in
    let rows = g.R.RowReads.rows c.args.rows.now in
    let set = c.width-width.ensures.is_set in
    let one = each_has (IsRow w) rows c.args.row.now set.each c.requires in
    let is : c.args.row.now ≡ c.in-Some.prefix.now ++ c.in-Some.last.now ∷ [] = sym c.cells-cells.ensures.cells ∙ c.in-Some.ensures.cases.0 in
    c.row_near.ensures ∙ from_above w rows c.args.row.now c.in-Some.prefix.now c.in-Some.last.now set one is

pub returns-in-None : goal.returns-in-None
returns-in-None g c =
    let w = g.R.RowReads.width_of c.args.rows.now in
    let rows = g.R.RowReads.rows c.args.rows.now in
    let set = c.width-width.ensures.is_set in
    let one = each_has (IsRow w) rows c.args.row.now set.each c.requires in
    none_above w rows c.args.row.now set.each one (ap length (sym c.cells-cells.ensures.cells) ∙ c.in-None.ensures.cases)
