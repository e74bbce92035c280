use Rattle.std.proofs.Common.{◌≡◌, ℕ, List, ap, sym, ◌∙◌, subst, refl}
use Rattle.std.specs.List.{AllByRecursion}
use Rattle.lt_face.specs.Rows.{IsRow, IsRowSet}
use Rattle.lt_face.specs.State.{Row}
use Rattle.lt_face.proofs.RowLemmas.{each_weaker}
use Rattle.lt_model.specs.declared.mark.Mark.{Mark}
use Rattle.lt_delta.specs.Laying.{rows_laid}
use Rattle.lt_base.specs.declared.index.Index.{Index}
use Rattle.lt_delta.specs.Columns.{IsPermuted, numbers}
use Rattle.lt_base.specs.Indexed.{IsIndexed}
use Rattle.lt_base.specs.Tables.{Table}
use Rattle.lt_base.proofs.OwnOrder.{own_order, own_permuted}
use Rattle.lt_base.proofs.SameIndex.{own_exact}
use Rattle.lt_base.proofs.Kept.{indexes_laid, same_columns}
use Rattle.lt_base.proofs.relation.Relation.laid.Goals as goal

pub rows_with-requires-clause-perm : goal.rows_with-requires-clause-perm
rows_with-requires-clause-perm c = own_order c.self.inside.first.width c.own_columns-own.result (c.own_columns-own.ensures ∙ ap (numbers 0) c.width.ensures.value)

pub rows_with-requires-clause-fit : goal.rows_with-requires-clause-fit
rows_with-requires-clause-fit c = subst (λ (t : Table). AllByRecursion (λ (m : Mark). m.relation ≡ c.args.number → IsRow t.width m.row) c.args.marks.now) (sym c.self.view_is) c.requires

pub all_laid-requires-clause-indexed : goal.all_laid-requires-clause-indexed
all_laid-requires-clause-indexed c =
    each_weaker (IsIndexed c.self.inside.first.width c.self.inside.first.rows) (λ (i : Index). (table : List Row) × IsRowSet i.rows.width table × IsPermuted i.rows.width i.columns table i.rows.rows)
    (λ i is. (c.self.inside.first.rows, subst (λ (n : ℕ). IsRowSet n c.self.inside.first.rows) (sym is.wide) c.width.ensures.is_set, subst (λ (n : ℕ). IsPermuted n i.columns c.self.inside.first.rows i.rows.rows) (sym is.wide) is.same))
    c.self.inside.others.items c.self.invariant.1

pub all_laid-requires-clause-fit : goal.all_laid-requires-clause-fit
all_laid-requires-clause-fit c =
    let fits = subst (λ (t : Table). AllByRecursion (λ (m : Mark). m.relation ≡ c.args.number → IsRow t.width m.row) c.args.marks.now) (sym c.self.view_is) c.requires in
    each_weaker (IsIndexed c.self.inside.first.width c.self.inside.first.rows) (λ (i : Index). AllByRecursion (λ (m : Mark). m.relation ≡ c.args.number → IsRow i.rows.width m.row) c.args.marks.now)
    (λ i is. subst (λ (n : ℕ). AllByRecursion (λ (m : Mark). m.relation ≡ c.args.number → IsRow n m.row) c.args.marks.now) (sym is.wide) fits) c.self.inside.others.items c.self.invariant.1

pub invariant_of-result : goal.invariant_of-result
invariant_of-result c =
    let width = c.self.inside.first.width in
    let fits = subst (λ (t : Table). AllByRecursion (λ (m : Mark). m.relation ≡ c.args.number → IsRow t.width m.row) c.args.marks.now) (sym c.self.view_is) c.requires in
    let kept = indexes_laid width c.args.number c.self.inside.first.rows c.args.marks.now c.self.inside.others.items c.self.invariant.1 c.width.ensures.is_set.each fits in
    let own : c.own_columns-own.result ≡ numbers 0 width = c.own_columns-own.ensures ∙ ap (numbers 0) c.width.ensures.value in
    let rows : c.in_ok-first.first.rows ≡ rows_laid c.args.number c.self.inside.first.rows c.args.marks.now =
    own_exact width c.args.number c.own_columns-own.result c.args.marks.now c.self.inside.first.rows c.in_ok-first.first.rows own c.width.ensures.is_set fits c.width-width.ensures.is_set.rises
    (c.in_ok-first.ensures.rows c.self.inside.first.rows c.width.ensures.is_set (own_permuted width c.own_columns-own.result c.self.inside.first.rows own c.width.ensures.is_set.each)) in
    rw (c.in_ok-first.ensures.width, rows, c.in_ok-others.ensures) (c.self.invariant.0, kept)

pub returns : goal.returns
returns c =
    let width = c.self.inside.first.width in
    let fits = subst (λ (t : Table). AllByRecursion (λ (m : Mark). m.relation ≡ c.args.number → IsRow t.width m.row) c.args.marks.now) (sym c.self.view_is) c.requires in
    let own : c.own_columns-own.result ≡ numbers 0 width = c.own_columns-own.ensures ∙ ap (numbers 0) c.width.ensures.value in
    let rows : c.in_ok-first.first.rows ≡ rows_laid c.args.number c.self.inside.first.rows c.args.marks.now =
    own_exact width c.args.number c.own_columns-own.result c.args.marks.now c.self.inside.first.rows c.in_ok-first.first.rows own c.width.ensures.is_set fits c.width-width.ensures.is_set.rises
    (c.in_ok-first.ensures.rows c.self.inside.first.rows c.width.ensures.is_set (own_permuted width c.own_columns-own.result c.self.inside.first.rows own c.width.ensures.is_set.each)) in
    rw (← c.self.view_is, c.in_ok-first.ensures.width, rows, c.in_ok-others.ensures, same_columns c.args.number c.args.marks.now c.self.inside.others.items) refl
