-- A plan of e(x, x), x = 3.
use Rattle.std.specs.Prelude.{◌≡◌, ℕ, zero, suc, ◌+◌, ◌*◌, ◌<◌, [], ◌∷◌}
use Rattle.std.proofs.Common.{refl, inl, inr, arith}
use Rattle.lt_model.specs.declared.normal.Term.TheVariants.{Var, Cell}
use Rattle.lt_model.specs.declared.syntax.Op.TheVariants.{Eq}
use Rattle.lt_model.specs.declared.normal.Test.TheVariants.{Cmp}
use Rattle.lt_model.specs.declared.normal.Body.{Body}
use Rattle.lt_query.specs.declared.plans.Plan.{Plan}
use Rattle.lt_face.specs.Lists.{IsIn}
use Rattle.lt_query.specs.Plan.{IsPlanOf}
use Rattle.lt_join.specs.Cost.{bound}

abbrev sample_body : Body
sample_body = record { atoms = record { relation = 0; terms = Var 0 ∷ Var 0 ∷ [] } ∷ []; absents = []; tests = Cmp (Var 0) Eq (Cell 3) ∷ []; vars = 1 }

abbrev sample_plan : Plan
sample_plan = record {
  levels = record { term = Var 0; pins = 3 ∷ []; ties = [] } ∷ record { term = Var 0; pins = []; ties = 0 ∷ [] } ∷ [];
  guides = record { relation = 0; places = 0 ∷ 1 ∷ []; columns = 0 ∷ 1 ∷ [] } ∷ [];
}

each_column : (c : ℕ) → c < 2 → IsIn c (0 ∷ 1 ∷ [])
each_column zero h = inl refl
each_column (suc zero) h = inr (inl refl)
each_column (suc (suc c)) h = absurd (omega arith)

only_zero : (m : ℕ) → m < 1 → IsIn m (0 ∷ [])
only_zero zero h = inl refl
only_zero (suc m) h = absurd (omega arith)

sample : IsPlanOf sample_body sample_plan
sample = record {
  guides = (record { relation = refl; terms = refl; places = (omega arith, (omega arith, tt)); columns = (omega arith, (omega arith, tt)); each = each_column; rising = ((omega arith, tt), (tt, tt)); as_long = refl }, tt);
  levels = (
    record { term = refl; pins = (inl refl, tt); ties = tt; determined = λ m lt first. absurd (omega arith) },
    (
      record { term = refl; pins = tt; ties = ((omega arith, refl), tt); determined = λ m lt first. only_zero m lt },
      tt,
    ),
  );
  held = λ l lt. (record { relation = 0; places = 0 ∷ 1 ∷ []; columns = 0 ∷ 1 ∷ [] }, inl refl, each_column l lt);
}

-- two iterators at each level, and one key
sample_bound : bound sample_body sample_plan (record { width = 2; rows = (3 ∷ 3 ∷ []) ∷ (3 ∷ 4 ∷ []) ∷ (5 ∷ 5 ∷ []) ∷ [] } ∷ []) ≡ 2 * (1 + 2) + 2 * (1 + 2)
sample_bound = refl
