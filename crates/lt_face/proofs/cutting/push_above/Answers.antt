use Rattle.std.proofs.Common.{rules, ◌≡◌, ◌∷◌, [], ◌++◌, List, ℕ, sym, ap, ◌∙◌, subst}
use Rattle.std.specs.List.{AllByRecursion}
use Rattle.std.specs.declared.cmp.Ordering.TheVariants.{Less}
use Rattle.lt_face.specs.Rows.{IsAscending, row_cmp}
use Rattle.lt_face.proofs.AboveLast.{ascending-append}
use Rattle.lt_face.proofs.cutting.push_above.Goals as goal

pub returns-clause-rises : goal.returns-clause-rises
returns-clause-rises c =
    let rows = c.args.rows.now in
    let row = c.in-Some.row.now in
    let now : c.push.new.self ≡ rows ++ row ∷ [] = c.in_ok-push.ensures.ok ∙ ap (λ r. rows ++ r ∷ []) c.copy_row.ensures in
    let below : AllByRecursion (λ other. row_cmp other row ≡ Less) rows = subst (λ (l : List (List ℕ)). AllByRecursion (λ other. row_cmp other row ≡ Less) l) c.as_slice.ensures (c.is_above.ensures (search rules)) in
    subst IsAscending (sym now) (ascending-append rows row c.requires below)
