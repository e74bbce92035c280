use Rattle.std.proofs.Common.{◌≡◌, ◌<◌, ◌+◌, ◌-◌, ◌++◌, ◌∷◌, [], sym, ◌∙◌, subst, arith}
use Rattle.lt_flat.specs.Flat.{AreBelow}
use Rattle.lt_flat.proofs.Near.{below_to, none_before, found_between}
use Rattle.lt_flat.proofs.list.place_before.Goals as goal

pub returns-then-high-eq0-clause-found : goal.returns-then-high-eq0-clause-found
returns-then-high-eq0-clause-found c =
    let q = c.args.prefix.now ++ c.args.bound ∷ [] in
    let at : 0 ≡ c.args.high = omega (arith, c.if-high-eq0.true) in
    found_between c.args.rows.now q c.args.high c.requires.within (subst (λ i. AreBelow c.args.rows.now q i) at (none_before c.args.rows.now q)) c.requires.above

pub returns-then-is_below-clause-found : goal.returns-then-is_below-clause-found
returns-then-is_below-clause-found c =
    let q = c.args.prefix.now ++ c.args.bound ∷ [] in
    let some : 0 < c.args.high = omega (arith, c.if-high-eq0.false) in
    let at : c.args.high - 1 + 1 ≡ c.args.high = omega (arith, some) in
    found_between c.args.rows.now q c.args.high c.requires.within
    (subst (λ i. AreBelow c.args.rows.now q i) at
    (below_to c.args.rows.now q (c.args.high - 1) c.index-rows-last.result c.requires.rises (omega (arith, some, c.requires.within)) c.index-rows-last.is (sym c.is_below.ensures ∙ c.if-is_below.true)))
    c.requires.above
