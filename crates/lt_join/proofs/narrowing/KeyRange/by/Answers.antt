use Rattle.std.specs.Prelude.{◌≡◌, ◌<◌, true}
use Rattle.std.proofs.Common.{arith, subst}
use Rattle.std.proofs.lemmas.Bool.{eqb-true, leb-true, ltb-true}
use Rattle.lt_model.specs.Answers.{compare_by}
use Rattle.lt_join.proofs.narrowing.KeyRange.by.Goals as goal

pub returns-in-Eq : goal.returns-in-Eq
returns-in-Eq c = λ k here holds.
    let same : k ≡ c.args.key = eqb-true k c.args.key (subst (λ op. compare_by op k c.args.key ≡ true) c.in-Eq.is holds) in
    (c.up_to.ensures k).1 ((c.from.ensures k).1 (here, omega (arith, same)), omega (arith, same))

pub returns-in-Lt : goal.returns-in-Lt
returns-in-Lt c = λ k here holds. (c.below.ensures k).1 (here, ltb-true k c.args.key (subst (λ op. compare_by op k c.args.key ≡ true) c.in-Lt.is holds))

pub returns-in-Le : goal.returns-in-Le
returns-in-Le c = λ k here holds. (c.up_to-in-Le.ensures k).1 (here, leb-true k c.args.key (subst (λ op. compare_by op k c.args.key ≡ true) c.in-Le.is holds))

pub returns-in-Gt : goal.returns-in-Gt
returns-in-Gt c = λ k here holds.
    let more : c.args.key < k = ltb-true c.args.key k (subst (λ op. compare_by op k c.args.key ≡ true) c.in-Gt.is holds) in
    (c.from-in-Gt.ensures k).1 (here, omega (arith, more, c.saturating_add.ensures))

pub returns-in-Ge : goal.returns-in-Ge
returns-in-Ge c = λ k here holds. (c.from-in-Ge.ensures k).1 (here, leb-true c.args.key k (subst (λ op. compare_by op k c.args.key ≡ true) c.in-Ge.is holds))
