-- The terms of two heads, and the names of terms one after the other.
use Rattle.std.proofs.Common.{◌≡◌, ℕ, List, [], ◌∷◌, ◌++◌, refl, ap, ◌∙◌}
use Rattle.std.proofs.lemmas.List.{append-nil}
use Rattle.std.proofs.lemmas.List.Concat.{flat_map-cons}
use Rattle.lt_model.specs.declared.syntax.Head.{Head}
use Rattle.lt_model.specs.declared.syntax.Literal.{Literal}
use Rattle.lt_model.specs.declared.syntax.Statement.TheVariants.{Replace}
use Rattle.lt_model.specs.declared.syntax.Term.{Term}
use Rattle.lt_model.specs.declared.syntax.Term.TheVariants.{Name, Cell}
use Rattle.lt_model.specs.Variables.{with_name, front_terms}
use Rattle.lt_check.specs.Seen.{with_variables}

-- the terms before the body of a statement with two heads
pub terms_of_two : (gone come : Head) (body : List Literal) → front_terms (Replace gone come body) ≡ gone.terms ++ come.terms
terms_of_two gone come body =
    flat_map-cons (λ (h : Head). h.terms) gone (come ∷ []) ∙ ap (λ ts. gone.terms ++ ts) (flat_map-cons (λ (h : Head). h.terms) come [] ∙ append-nil come.terms)

-- the names of terms are added one after the other
pub with_variables_both : (names : List (List ℕ)) (xs ys : List Term) → with_variables names (xs ++ ys) ≡ with_variables (with_variables names xs) ys
with_variables_both names [] ys = refl
with_variables_both names (Name name ∷ xs) ys = with_variables_both (with_name names name) xs ys
with_variables_both names (Cell kind cell ∷ xs) ys = with_variables_both names xs ys
