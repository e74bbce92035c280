-- The answers of two heads, out of those of the terms of both.
use Rattle.std.specs.Prelude.{filter_map}
use Rattle.std.specs.List.{AllByRecursion}
use Rattle.std.proofs.Common.{◌≡◌, ℕ, ◌+◌, ◌≤◌, List, [], ◌∷◌, ◌++◌, map, take, drop, length, refl, sym, ap, ◌∙◌, subst, arith, length-append}
use Rattle.std.proofs.lemmas.Bool.{and_from}
use Rattle.std.proofs.lemmas.List.Folds.{list_all-append}
use Rattle.lt_face.proofs.Membership.{IsIn-map, IsIn-map_from}
use Rattle.lt_face.specs.Lists.{IsIn}
use Rattle.lt_face.specs.State.{Row, State}
use Rattle.lt_model.specs.declared.normal.Term.{Term}
use Rattle.lt_model.specs.declared.normal.Body.{Body}
use Rattle.lt_model.specs.Answers.{Assignment, cell_of, cells_of, assignment_of, answer_of, picks, ascending, answers}
use Rattle.lt_model.specs.Bound.{is_known, is_bound}
use Rattle.lt_model.specs.Fits.{IsTermOf}
use Rattle.lt_query.proofs.Ascending.{IsIn-ascending, IsIn-ascending_from, IsAscending-ascending, ascending_same}
use Rattle.lt_query.proofs.Picks.{IsIn-answers, IsIn-answers_from}
use Rattle.lt_program.specs.Planned.{ArePicked}

each_of_both : {X : Type 0} (P : X → Type 0) (xs ys : List X) → AllByRecursion P xs → AllByRecursion P ys → AllByRecursion P (xs ++ ys)
each_of_both P [] ys h k = k
each_of_both P (x ∷ xs) ys h k = (h.0, each_of_both P xs ys h.1 k)

pub both_picked : (body : Body) (xs ys : List Term) → ArePicked body xs → ArePicked body ys → length xs + length ys ≤ 8 → ArePicked body (xs ++ ys)
both_picked body xs ys a b few =
    record {
      narrow = omega (arith, length-append xs ys, few);
      within = each_of_both (IsTermOf body.vars) xs ys a.within b.within;
      bound = list_all-append (is_known (is_bound body)) xs ys ∙ and_from _ _ a.bound b.bound;
    }

take_cells : (a : Assignment) (xs ys : List Term) → take (length xs) (cells_of a (xs ++ ys)) ≡ cells_of a xs
take_cells a [] ys = refl
take_cells a (x ∷ xs) ys = ap (λ w. cell_of a x ∷ w) (take_cells a xs ys)

drop_cells : (a : Assignment) (xs ys : List Term) → drop (length xs) (cells_of a (xs ++ ys)) ≡ cells_of a ys
drop_cells a [] ys = refl
drop_cells a (x ∷ xs) ys = drop_cells a xs ys

-- answers made of those of more terms, row by row
answers_cut : (f : Row → Row) (more terms : List Term) (body : Body) (state : State) → ((a : Assignment) → f (cells_of a more) ≡ cells_of a terms) → ascending (map f (answers more body state)) ≡ answers terms body state
answers_cut f more terms body state cut =
    ascending_same (ascending (map f (answers more body state))) (answers terms body state) (IsAscending-ascending (map f (answers more body state))) (IsAscending-ascending (filter_map (answer_of terms body state) (picks body.atoms state)))
    (λ q h.
    let whole = IsIn-map_from f q (answers more body state) (IsIn-ascending_from q (map f (answers more body state)) h) in
    let pick = IsIn-answers_from more body state whole.0 whole.1 in
    let same : cells_of (assignment_of body pick.0) terms ≡ q = sym (cut (assignment_of body pick.0)) ∙ (ap f pick.4 ∙ whole.2) in
    subst (λ r. IsIn r (answers terms body state)) same (IsIn-answers terms body state pick.0 pick.1 pick.2 pick.3 pick.5))
    (λ q h.
    let pick = IsIn-answers_from terms body state q h in
    let a : Assignment = assignment_of body pick.0 in
    let there = IsIn-map f (cells_of a more) (answers more body state) (IsIn-answers more body state pick.0 pick.1 pick.2 pick.3 pick.5) in
    IsIn-ascending q (map f (answers more body state)) (subst (λ r. IsIn r (map f (answers more body state))) (cut a ∙ pick.4) there))

-- the cells before the second head's are the first head's answers
pub first_answers : (xs ys both : List Term) (body : Body) (state : State) (rows before first : List Row) (at : ℕ) → both ≡ xs ++ ys → at ≡ length xs → rows ≡ answers both body state → before ≡ map (take at) rows → first ≡ ascending before → first ≡ answers xs body state
first_answers xs ys both body state rows before first at terms width found cut sorted =
    sorted ∙ (ap ascending (cut ∙ (ap (λ n. map (take n) rows) width ∙ ap (map (take (length xs))) (found ∙ ap (λ ts. answers ts body state) terms)))
    ∙ answers_cut (take (length xs)) (xs ++ ys) xs body state (λ a. take_cells a xs ys))

-- and those from it on are the second head's
pub second_answers : (xs ys both : List Term) (body : Body) (state : State) (rows from second : List Row) (at : ℕ) → both ≡ xs ++ ys → at ≡ length xs → rows ≡ answers both body state → from ≡ map (drop at) rows → second ≡ ascending from → second ≡ answers ys body state
second_answers xs ys both body state rows from second at terms width found cut sorted =
    sorted ∙ (ap ascending (cut ∙ (ap (λ n. map (drop n) rows) width ∙ ap (map (drop (length xs))) (found ∙ ap (λ ts. answers ts body state) terms)))
    ∙ answers_cut (drop (length xs)) (xs ++ ys) ys body state (λ a. drop_cells a xs ys))
