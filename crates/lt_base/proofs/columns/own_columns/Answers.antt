use Rattle.std.proofs.Common.{◌≡◌, ◌+◌, ◌++◌, ◌∷◌, [], ℕ, List, length, sym, ap, ◌∙◌, arith, length-append}
use Rattle.lt_base.proofs.OwnOrder.{numbers_end}
use Rattle.lt_base.proofs.columns.own_columns.Goals as goal

pub loop-i-preserved : goal.loop-i-preserved
loop-i-preserved c =
    let more : length c.push.new.self ≡ length c.loop-i.columns + 1 = ap length c.push.ensures ∙ length-append c.loop-i.columns (c.loop-i.i ∷ []) in
    record {
      long = omega (arith, more, c.loop-i.invariant.long);
      is = c.push.ensures ∙ ap (λ (ns : List ℕ). ns ++ c.loop-i.i ∷ []) c.loop-i.invariant.is ∙ sym (numbers_end c.loop-i.i);
    }
