-- Which variable a term is.
use Rattle.std.specs.Prelude.{◌≡◌, ℕ, true}
use Rattle.std.proofs.Common.{refl, ap}
use Rattle.std.proofs.lemmas.Bool.{eqb-true, eq-eqb}
use Rattle.lt_model.specs.declared.normal.Term.{Term}
use Rattle.lt_model.specs.declared.normal.Term.TheVariants.{Var, Cell}
use Rattle.lt_model.specs.Bound.{is_var}

pub is_var-true : (v : ℕ) (t : Term) → is_var v t ≡ true → t ≡ Var v
is_var-true v (Var u) h = ap Var (eqb-true u v h)
is_var-true v (Cell c) h = cc

pub is_var_itself : (v : ℕ) → is_var v (Var v) ≡ true
is_var_itself v = eq-eqb v v refl
