-- Values after one more is given.
use Rattle.std.proofs.Common.{◌≡◌, ℕ, true, false, cond, Option, Some, None, refl, sym, ap, ◌∙◌}
use Rattle.std.specs.Prelude.{◌==◌, is_some}
use Rattle.std.proofs.lemmas.Bool.{eqb-true}
use Rattle.lt_model.specs.Answers.{Values, or_else, give_value}
use Rattle.lt_join.specs.Values.{with_value}

-- a variable without a value takes the one that it is given
pub given_first : (values : Values) (v x : ℕ) → values v ≡ None → with_value values v x ≡ give_value values v (Some x)
given_first values v x none = λ i. λ u. each u i
  where
    each : (u : ℕ) → with_value values v x u ≡ give_value values v (Some x) u
    each u =
        elim (u == v) as (λ b. (u == v) ≡ b → cond b (Some x) (values u) ≡ cond b (or_else (values u) (Some x)) (values u)) [
          | true ↦ λ same. sym (ap (λ o. or_else o (Some x)) (ap values (eqb-true u v same) ∙ none))
          | false ↦ λ other. refl
        ] refl

pub nothing_there : (o : Option ℕ) → is_some o ≡ false → o ≡ None
nothing_there None h = refl
nothing_there (Some x) h = cc
