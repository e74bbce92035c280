-- A row against the terms of an atom, term by term.
use Rattle.std.proofs.Common.{◌≡◌, ◌≢◌, List, [], ◌∷◌, length, Option, Some, None, refl, arith}
use Rattle.std.specs.Prelude.{option_and_then}
use Rattle.lt_face.specs.State.{Row}
use Rattle.lt_model.specs.declared.normal.Term.{Term}
use Rattle.lt_model.specs.Answers.{Values}
use Rattle.lt_reference.specs.Values.{accept, matched}

none_after : (o : Option Values) (f : Values → Option Values) → ((v : Values) → f v ≡ None) → option_and_then f o ≡ None
none_after None f h = refl
none_after (Some v) f h = h v

-- a row that is longer or shorter than the terms is none of the atom's
pub matched_uneven : (values : Values) (ts : List Term) (xs : Row) → length xs ≢ length ts → matched values ts xs ≡ None
matched_uneven values [] [] h = absurd (h refl)
matched_uneven values [] (x ∷ xs) h = refl
matched_uneven values (t ∷ ts) [] h = refl
matched_uneven values (t ∷ ts) (x ∷ xs) h =
    none_after (accept values t x) (λ next. matched next ts xs) (λ next. matched_uneven next ts xs (λ e. h (omega arith)))
