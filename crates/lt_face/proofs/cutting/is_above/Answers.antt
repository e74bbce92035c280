use Rattle.std.proofs.Common.{◌≡◌, true, refl, sym, ◌∙◌}
use Rattle.std.specs.declared.cmp.Ordering.{Ordering}
use Rattle.std.specs.declared.cmp.Ordering.TheVariants.{Less, Equal, Greater}
use Rattle.std.specs.Ordering.{is_lt}
use Rattle.lt_face.specs.Rows.{row_cmp}
use Rattle.lt_face.proofs.AboveLast.{above_last}
use Rattle.lt_face.proofs.cutting.is_above.Goals as goal

is_less : (o : Ordering) → is_lt o ≡ true → o ≡ Less
is_less Less h = refl
is_less Equal h = absurd cc
is_less Greater h = absurd cc

pub returns-in-Some : goal.returns-in-Some
returns-in-Some c = λ above.
    let less : row_cmp c.in-Some.last.now c.args.row.now ≡ Less = sym c.cmp.ensures ∙ is_less c.cmp.result (sym c.is_lt.ensures ∙ above) in
    above_last c.args.rows.now c.in-Some.last.now c.args.row.now c.requires (sym c.in-Some.ensures.value) less
