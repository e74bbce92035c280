use Rattle.std.proofs.Common.{◌≡◌, ◌∙◌, length, sym, subst, drop, ◌++◌, ◌∷◌, [], arith}
use Rattle.std.specs.Ordering.{is_lt}
use Rattle.lt_face.specs.Rows.{row_cmp}
use Rattle.lt_flat.proofs.Near.{step_last}
use Rattle.lt_flat.proofs.list.is_below.Goals as goal

pub returns : goal.returns
returns c =
    let n = length c.args.prefix.now in
    let at : c.loop-i.i ≡ n = omega (arith, c.loop-i-test.false, c.loop-i.auto.i-end) in
    let last = step_last c.args.row.now c.args.prefix.now c.args.bound c.requires in
    let all : is_lt (row_cmp c.args.row.now (c.args.prefix.now ++ c.args.bound ∷ [])) ≡ is_lt (row_cmp (drop n c.args.row.now) (drop n c.args.prefix.now ++ c.args.bound ∷ [])) =
    subst (λ i. is_lt (row_cmp c.args.row.now (c.args.prefix.now ++ c.args.bound ∷ [])) ≡ is_lt (row_cmp (drop i c.args.row.now) (drop i c.args.prefix.now ++ c.args.bound ∷ []))) at c.loop-i.invariant in
    rw c.cells-cells.ensures.cells (sym (all ∙ last))
