use Rattle.std.proofs.Common.{◌≡◌, ◌<◌, ◌≤◌, ◌-◌, suc, false, length, sym, subst, ap, ◌∙◌, arith}
use Rattle.std.specs.List.{AllByRecursion}
use Rattle.std.specs.Ordering.{is_gt}
use Rattle.std.specs.declared.cmp.Ordering.TheVariants.{Greater}
use Rattle.lt_face.specs.Rows.{row_cmp}
use Rattle.lt_shared.specs.Entries.{joined}
use Rattle.lt_shared.proofs.Joins.{place-low, drop_past}
use Rattle.lt_shared.proofs.search.place_behind.Goals as goal

pub returns : goal.returns
returns g c =
    let xs = c.args.entries.now in
    let last = length xs - 1 in
    let within : last < length xs = omega (arith, c.requires.some) in
    let all : length xs ≤ suc last = omega (arith, c.requires.some) in
    let not_greater : is_gt (row_cmp c.first.result.now c.args.row.now) ≡ false = ap is_gt (sym c.cmp.ensures) ∙ sym c.is_gt.ensures ∙ c.if-is_gt.false in
    record {
      within = within;
      before = place-low g.T.Entry.rows xs last c.index-entries-last.result c.first.result.now c.args.row.now c.requires.rises within c.index-entries-last.is c.first.ensures not_greater;
      after = subst (λ t. AllByRecursion (λ r. row_cmp r c.args.row.now ≡ Greater) (joined g.T.Entry.rows t)) (sym (drop_past xs (suc last) all)) tt;
    }
