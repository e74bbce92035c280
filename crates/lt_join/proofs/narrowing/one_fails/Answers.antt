use Rattle.std.proofs.Common.{sym, ◌∙◌}
use Rattle.std.proofs.lemmas.Bool.{true≢false}
use Rattle.lt_join.proofs.narrowing.one_fails.Goals as goal

pub returns-then-gives : goal.returns-then-gives
returns-then-gives c = λ fails a agree hold. true≢false (sym hold ∙ c.is_hopeless.ensures fails a (c.by_values.ensures a (c.given_above-all.ensures a agree hold)))

pub returns : goal.returns
returns c = λ fails a agree hold. true≢false (sym hold ∙ c.is_hopeless-2.ensures fails a (c.by_keys.ensures a agree))
