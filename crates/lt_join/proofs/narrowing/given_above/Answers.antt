use Rattle.std.proofs.Common.{sym, subst}
use Rattle.lt_join.specs.Values.{values_in}
use Rattle.lt_join.specs.Narrowed.{Agrees}
use Rattle.lt_join.proofs.Bounding.{given_agrees}
use Rattle.lt_join.proofs.narrowing.given_above.Goals as goal

pub returns : goal.returns
returns c = λ a agree hold. subst (λ values. Agrees values a) (sym c.give_each.ensures) (given_agrees (values_in c.values_above-all.result.cells) a c.args.tests.now (c.values_above-all.ensures a agree) hold)
