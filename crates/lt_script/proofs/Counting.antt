-- How many names there are, at most.
use Rattle.std.proofs.Common.{◌≡◌, ℕ, ◌+◌, ◌≤◌, Bool, true, false, nat_le, List, [], ◌∷◌, ◌++◌, length, Option, Some, None, sym, length-append, arith}
use Rattle.std.specs.Prelude.{fold, IfSome, if◌then◌else◌}
use Rattle.std.specs.List.{list_any}
use Rattle.std.specs.Str.{bytes_eq}
use Rattle.std.proofs.lemmas.Bool.{le-leb}
use Rattle.lt_model.specs.Variables.{with_name}
use Rattle.lt_model.specs.declared.syntax.Term.{Term}
use Rattle.lt_model.specs.declared.syntax.Term.TheVariants.{Name, Cell}
use Rattle.lt_model.specs.declared.syntax.Literal.{Literal}
use Rattle.lt_script.specs.Names.{term_names, terms_names, body_names}

-- ---- names without repeats

with_few : (names : List (List ℕ)) (name : List ℕ) → length (with_name names name) ≤ length names + 1
with_few names name = by_case (list_any (bytes_eq name) names)
  where
    by_case : (b : Bool) → length (if b then names else names ++ name ∷ []) ≤ length names + 1
    by_case true = omega arith
    by_case false = let n = length-append names (name ∷ []) in omega arith

fold_few : (names more : List (List ℕ)) → length (fold with_name names more) ≤ length names + length more
fold_few names [] = omega arith
fold_few names (name ∷ more) =
    let first = with_few names name in
    let others = fold_few (with_name names name) more in
    omega arith

pub few_in_all : (names : List (List ℕ)) → length names ≤ 16 → true ≡ nat_le (length (fold with_name [] names)) 16
few_in_all names h = let n = fold_few [] names in sym (le-leb _ _ (omega arith))

-- ---- names of terms and of bodies

one_at_most : (t : Term) → length (term_names t) ≤ 1
one_at_most (Name text) = omega arith
one_at_most (Cell kind cell) = omega arith

pub few_arguments : (ts : List Term) → length (terms_names ts) ≤ length ts
few_arguments [] = omega arith
few_arguments (t ∷ ts) =
    let n = length-append (term_names t) (terms_names ts) in
    let first = one_at_most t in
    let others = few_arguments ts in
    omega arith

pub few_in_rule : (ts : List Term) (ls : List Literal) → length (terms_names ts ++ body_names ls) ≤ length ts + length (body_names ls)
few_in_rule ts ls =
    let n = length-append (terms_names ts) (body_names ls) in
    let first = few_arguments ts in
    omega arith

pub few_in_two : (gone come : List Term) (ls : List Literal) → length (terms_names gone ++ (terms_names come ++ body_names ls)) ≤ length gone + (length come + length (body_names ls))
few_in_two gone come ls =
    let n = length-append (terms_names gone) (terms_names come ++ body_names ls) in
    let first = few_arguments gone in
    let others = few_in_rule come ls in
    omega arith

-- ---- the room behind them

pub behind_fewer : (names most room : ℕ) (o : Option ℕ) → names ≤ most → IfSome o (λ left. most + left ≤ room) → IfSome o (λ left. names + left ≤ room)
behind_fewer names most room None few h = tt
behind_fewer names most room (Some left) few h = omega arith

pub behind_both : (names first others between room : ℕ) (o : Option ℕ) → names ≤ first + others → first + between ≤ room → IfSome o (λ left. others + left ≤ between) → IfSome o (λ left. names + left ≤ room)
behind_both names first others between room None few h more = tt
behind_both names first others between room (Some left) few h more = omega arith
