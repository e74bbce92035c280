use Rattle.std.proofs.Common.{◌≡◌, suc, ◌+◌, [], ◌∷◌, ◌++◌, length, sym, ap, ◌∙◌, subst, arith, inl, inr}
use Rattle.std.proofs.lemmas.Bool.{cases_lt}
use Rattle.std.proofs.lemmas.List.{length-append}
use Rattle.lt_face.specs.Lists.{IsIn}
use Rattle.lt_face.proofs.Membership.{IsIn-append_left, IsIn-append_right}
use Rattle.lt_sense.specs.Held.{first_columns}
use Rattle.lt_sense.proofs.met.columns_of.Goals as goal

pub loop-column-preserved : goal.loop-column-preserved
loop-column-preserved c =
    let old = c.loop-column.columns in
    let here = c.loop-column.column in
    let is : c.push.new.self ≡ old ++ here ∷ [] = c.in_ok-push.ensures.ok in (
      ap length is ∙ length-append old (here ∷ []) ∙ ap (λ n. n + 1) c.loop-column.invariant.0,
      λ d lt. elim (cases_lt d here) [
        | inl before ↦ subst (IsIn d) (sym is) (IsIn-append_left d old (here ∷ []) (c.loop-column.invariant.1 d before))
        | inr from ↦ subst (IsIn d) (sym is) (IsIn-append_right d old (here ∷ []) (inl (let e : here ≡ d = omega (arith, from, lt) in e)))
      ],
      is ∙ ap (λ xs. xs ++ here ∷ []) c.loop-column.invariant.2 ∙ (let e : suc here ≡ here + 1 = omega arith in ap first_columns e),
    )
