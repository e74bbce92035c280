-- The guides of the stated plan are right for the atoms.
use Rattle.std.specs.Prelude.{◌≡◌, ℕ, zero, suc, ◌+◌, ◌<◌, ◌≤◌, Bool, true, false, ◌==◌, List, [], ◌∷◌, ◌++◌, map, length, slice_index}
use Rattle.std.specs.List.{All, AllByRecursion, AllZip}
use Rattle.std.proofs.Common.{refl, sym, ap, ◌∙◌, subst, inl, inr, arith, get_or, take}
use Rattle.std.proofs.lemmas.Bool.{eqb-true, eqb-false, eq-eqb, true≢false, cases_order}
use Rattle.std.proofs.lemmas.List.{append-nil, take_more, take_all, get_or-map, get_or_append_left, get_or_push, length-map, map-append}
use Rattle.std.proofs.lemmas.List.Elements.{All-from_recursion}
use Rattle.std.proofs.lemmas.Simd.{map-map}
use Rattle.std.proofs.lemmas.List.Concat.{flat_map-append}
use Rattle.lt_model.specs.declared.normal.Term.{Term}
use Rattle.lt_model.specs.declared.normal.Term.TheVariants.{Var, Cell}
use Rattle.lt_model.specs.declared.normal.Test.{Test}
use Rattle.lt_model.specs.declared.normal.Atom.{Atom}
use Rattle.lt_model.specs.declared.normal.Body.{Body}
use Rattle.lt_query.specs.declared.plans.Level.{Level}
use Rattle.lt_query.specs.declared.plans.Guide.{Guide}
use Rattle.lt_query.specs.declared.plans.Plan.{Plan}
use Rattle.lt_query.specs.declared.places.Place.{Place}
use Rattle.lt_face.specs.Lists.{IsIn, AreInOrder}
use Rattle.lt_query.specs.Lists.{IsDistinct}
use Rattle.lt_face.specs.State.{permuted}
use Rattle.lt_query.specs.Plan.{term_at, IsGuideOf, IsPlanOf}
use Rattle.lt_query.specs.Lists.{IsRising}
use Rattle.lt_query.specs.LevelsOf.{levels_from}
use Rattle.lt_query.specs.Order.{place_at, places_of, stands_again, origin_of, origin, stated_order, terms_at, stated_terms}
use Rattle.lt_query.specs.Lists.{below}
use Rattle.lt_query.specs.Stated.{index_from, column_levels, columns_at, sorted_columns, guide_of, guides_from, stated_plan, IsStatedGuide, AreStatedGuides, IsStatedPlan}
use Rattle.lt_face.proofs.Membership.{IsIn-append_cases, IsIn-map, IsIn-map_from, IsIn-flat_map, IsIn-flat_map_from}
use Rattle.lt_query.proofs.Orders.{term_at-levels_from, AreLevels}
use Rattle.lt_query.proofs.Elements.{All_from, All_at}
use Rattle.lt_query.proofs.LevelSteps.{length-places_of, length-column_levels}
use Rattle.lt_query.proofs.Counting.{length_within}
use Rattle.lt_query.proofs.Distinct.{IsIn-filter, IsIn-filter_from, IsIn-below, IsIn-below_from, IsDistinct-filter, IsDistinct-below, IsDistinct-flat_map, get_or-index, index-get_or, IsIn-get_or, length-below}
use Rattle.lt_query.proofs.Precedence.{IsStatedOrder-stated, one_order, one_stated_order}
use Rattle.lt_query.proofs.Text.{StandsFrom, AreFrom, StandsFrom-first, AreFrom-rest, AreFrom-all, located_in, stands-take, told}
use Rattle.lt_query.proofs.Origins.{origin_in, order_within, order_itself, origin_term, origin_before, IsDistinct-order}

-- lists over the numbers below n

map_take : {X : Type 0} (g : ℕ → X) (xs : List X) (d : X) → ((c : ℕ) → c < length xs → g c ≡ get_or xs c d) → (n : ℕ) → n ≤ length xs → map g (below n) ≡ take n xs
map_take g xs d each zero h = refl
map_take g xs d each (suc n) h =
    let one : g n ≡ get_or xs n d = each n (omega arith) in
    map-append g (below n) (n ∷ []) ∙ (ap (λ w. w ++ g n ∷ []) (map_take g xs d each n (omega arith)) ∙ (ap (λ w. take n xs ++ w ∷ []) one ∙ (sym (take_more xs n d (omega arith)) ∙ ap (λ m. take m xs) (let s : n + 1 ≡ suc n = omega arith in s))))

map_below : {X : Type 0} (g : ℕ → X) (xs : List X) (d : X) → ((c : ℕ) → c < length xs → g c ≡ get_or xs c d) → map g (below (length xs)) ≡ xs
map_below g xs d each = map_take g xs d each (length xs) (omega arith) ∙ take_all (length xs) xs (omega arith)

get_or-below : (n c : ℕ) → c < n → get_or (below n) c 0 ≡ c
get_or-below zero c h = absurd (omega arith)
get_or-below (suc n) c h =
    elim (c == n) as (λ b. (c == n) ≡ b → get_or (below n ++ n ∷ []) c 0 ≡ c) [
      | true ↦ λ e. let same = eqb-true c n e in get_or_push (below n) n 0 c (length-below n ∙ sym same) ∙ sym same
      | false ↦ λ e. let apart = eqb-false c n e in let len = length-below n in get_or_append_left (below n) (n ∷ []) 0 c (omega arith) ∙ get_or-below n c (omega arith)
    ] refl

-- columns in the order of their levels

IsRising-append : (xs ys : List ℕ) → IsRising xs → IsRising ys → ((x y : ℕ) → IsIn x xs → IsIn y ys → x < y) → IsRising (xs ++ ys)
IsRising-append [] ys a b h = b
IsRising-append (x ∷ xs) ys a b h = (
  All_from (λ y. x < y) (xs ++ ys) (λ y k. elim (IsIn-append_cases y xs ys k) [ inl l ↦ All_at (λ z. x < z) y xs a.0 l | inr r ↦ h x y (inl refl) r ]),
  IsRising-append xs ys a.1 b (λ z y l r. h z y (inr l) r),
)

-- no two columns have one level
abbrev AreApart : List ℕ → Type 0
AreApart levels = (c d : ℕ) → c < d → d < length levels → slice_index levels c ≡ slice_index levels d → ⊥

same_column : (levels : List ℕ) → AreApart levels → (c d : ℕ) → c < length levels → d < length levels → slice_index levels c ≡ slice_index levels d → c ≡ d
same_column levels apart c d h k e =
    elim (cases_order c d) [
      | inl same ↦ same
      | inr rest ↦ elim rest [ inl lt ↦ absurd (apart c d lt k e) | inr gt ↦ absurd (apart d c gt h (sym e)) ]
    ]

in_columns_at : (levels : List ℕ) (l c : ℕ) → IsIn c (columns_at levels l) → (c < length levels) × (slice_index levels c ≡ l)
in_columns_at levels l c h =
    let k = IsIn-filter_from (λ x. slice_index levels x == l) c (below (length levels)) h in
    (IsIn-below_from (length levels) c k.0, eqb-true (slice_index levels c) l k.1)

one_rising : (levels : List ℕ) → (cs : List ℕ) → IsDistinct cs → ((c d : ℕ) → IsIn c cs → IsIn d cs → c ≡ d) → IsRising (permuted cs levels)
one_rising levels [] d same = tt
one_rising levels (c ∷ []) d same = (tt, tt)
one_rising levels (c ∷ x ∷ cs) d same = absurd (d.0 (inl (same x c (inr (inl refl)) (inl refl))))

level_rising : (levels : List ℕ) → AreApart levels → (l : ℕ) → IsRising (permuted (columns_at levels l) levels)
level_rising levels apart l =
    one_rising levels (columns_at levels l) (IsDistinct-filter (λ c. slice_index levels c == l) (below (length levels)) (IsDistinct-below (length levels)))
    (λ c d h k. let f = in_columns_at levels l c h in let g = in_columns_at levels l d k in same_column levels apart c d f.0 g.0 (f.1 ∙ sym g.1))

sorted_next : (levels : List ℕ) (n : ℕ) → sorted_columns levels (suc n) ≡ sorted_columns levels n ++ columns_at levels n
sorted_next levels n = flat_map-append (columns_at levels) (below n) (n ∷ []) ∙ ap (λ w. sorted_columns levels n ++ w) (append-nil (columns_at levels n))

in_permuted : (levels cs : List ℕ) (l : ℕ) → IsIn l (permuted cs levels) → (c : ℕ) × IsIn c cs × (slice_index levels c ≡ l)
in_permuted levels cs l h = IsIn-map_from (λ c. slice_index levels c) l cs h

in_sorted : (levels : List ℕ) (n c : ℕ) → IsIn c (sorted_columns levels n) → (c < length levels) × (slice_index levels c < n)
in_sorted levels n c h =
    let f = IsIn-flat_map_from (columns_at levels) c (below n) h in
    let k = in_columns_at levels f.0 c f.2 in
    let e : slice_index levels c ≡ f.0 = k.1 in
    let lt = IsIn-below_from n f.0 f.1 in
    (k.0, (omega arith))

columns_rising : (levels : List ℕ) → AreApart levels → (n : ℕ) → IsRising (permuted (sorted_columns levels n) levels)
columns_rising levels apart zero = tt
columns_rising levels apart (suc n) =
    subst IsRising (sym (ap (λ w. permuted w levels) (sorted_next levels n) ∙ map-append (λ c. slice_index levels c) (sorted_columns levels n) (columns_at levels n)))
    (IsRising-append (permuted (sorted_columns levels n) levels) (permuted (columns_at levels n) levels) (columns_rising levels apart n) (level_rising levels apart n) (λ x y h k.
    let f = in_permuted levels (sorted_columns levels n) x h in
    let g = in_permuted levels (columns_at levels n) y k in
    let lt : slice_index levels f.0 < n = (in_sorted levels n f.0 f.1).1 in
    let here : slice_index levels g.0 ≡ n = (in_columns_at levels n g.0 g.1).1 in
    let ex : slice_index levels f.0 ≡ x = f.2 in
    let ey : slice_index levels g.0 ≡ y = g.2 in
    omega arith))

-- each column once
IsDistinct-sorted : (levels : List ℕ) (n : ℕ) → IsDistinct (sorted_columns levels n)
IsDistinct-sorted levels n =
    IsDistinct-flat_map (columns_at levels) (λ c. slice_index levels c) (below n) (IsDistinct-below n)
    (λ l h. IsDistinct-filter (λ c. slice_index levels c == l) (below (length levels)) (IsDistinct-below (length levels)))
    (λ l c h k. (in_columns_at levels l c k).1)

each_sorted : (levels : List ℕ) (n c : ℕ) → c < length levels → slice_index levels c < n → IsIn c (sorted_columns levels n)
each_sorted levels n c h lt =
    IsIn-flat_map (columns_at levels) (slice_index levels c) c (below n) (IsIn-below n (slice_index levels c) lt)
    (IsIn-filter (λ x. slice_index levels x == slice_index levels c) c (below (length levels)) (IsIn-below (length levels) c h) (eq-eqb _ _ refl))

length-sorted : (levels : List ℕ) (n : ℕ) → ((c : ℕ) → c < length levels → slice_index levels c < n) → length (sorted_columns levels n) ≡ length levels
length-sorted levels n within =
    let at_most = length_within (sorted_columns levels n) (below (length levels)) (IsDistinct-sorted levels n) (λ c h. IsIn-below (length levels) c (in_sorted levels n c h).0) in
    let at_least = length_within (below (length levels)) (sorted_columns levels n) (IsDistinct-below (length levels)) (λ c h. let lt = IsIn-below_from (length levels) c h in each_sorted levels n c lt (within c lt)) in
    let len = length-below (length levels) in
    omega arith

length-levels_from : (tests : List Test) (seen ts : List Term) → length (levels_from tests seen ts) ≡ length ts
length-levels_from tests seen [] = refl
length-levels_from tests seen (t ∷ ts) = ap (λ n. suc n) (length-levels_from tests (seen ++ t ∷ []) ts)

module _ (tests : List Test) (places : List Place) where
  abbrev order : List ℕ
  order = stated_order tests places

  abbrev levels : List Level
  levels = levels_from tests [] (terms_at places order)

  abbrev level : ℕ → ℕ
  level p = index_from 0 order (origin places p)

  length-levels : length levels ≡ length order
  length-levels = length-levels_from tests [] (terms_at places order) ∙ length-map order (λ p. (place_at places p).term)

  level_within : (p : ℕ) → p < length places → level p < length order
  level_within p lt =
      let f = get_or-index 0 order (origin places p) (origin_in tests places p lt) in
      let e : level p ≡ 0 + f.0 = f.1 in
      let k : f.0 < length order = f.2 in
      omega arith

  order_at_level : (p : ℕ) → p < length places → get_or order (level p) 0 ≡ origin places p
  order_at_level p lt =
      let f = get_or-index 0 order (origin places p) (origin_in tests places p lt) in
      let e : level p ≡ f.0 = (let s : level p ≡ 0 + f.0 = f.1 in omega arith) in
      ap (λ n. get_or order n 0) e ∙ f.3

  -- the level of a place has the place's term
  term_at_level : (p : ℕ) → p < length places → term_at levels (level p) ≡ (place_at places p).term
  term_at_level p lt =
      term_at-levels_from tests [] (terms_at places order) (level p)
      ∙ (get_or-map (λ q. (place_at places q).term) order (level p) 0 (Cell 0) (level_within p lt)
      ∙ (ap (λ q. (place_at places q).term) (order_at_level p lt) ∙ origin_term places p lt))

  level_same : (p q : ℕ) → p < length places → q < length places → level p ≡ level q → origin places p ≡ origin places q
  level_same p q h k e = sym (order_at_level p h) ∙ (ap (λ n. get_or order n 0) e ∙ order_at_level q k)

  origins_apart_at : (from : ℕ) (ts : List Term) → StandsFrom places from ts → from + length ts ≤ length places → (c d : ℕ) → c < d → d < length ts
      → (t : Term) (again : Bool) → (place_at places (from + d)).term ≡ t → (place_at places (from + d)).again ≡ again → origin places (from + c) ≡ origin_of places (from + d) t again → ⊥
  origins_apart_at from ts at fits c d lt within (Cell x) again is told same = let le = origin_before places (from + c) (omega arith) in omega arith
  origins_apart_at from ts at fits c d lt within (Var v) true is told same = let le = origin_before places (from + c) (omega arith) in omega arith
  origins_apart_at from ts at fits c d lt within (Var v) false is told same =
      let there = at d within in
      let here = at c (omega arith) in
      let both : origin places (from + c) ≡ origin places (from + d) = same ∙ sym (origin_is is told) in
      let equal : (place_at places (from + c)).term ≡ Var v = sym (origin_term places (from + c) (omega arith)) ∙ (ap (λ n. (place_at places n).term) both ∙ (origin_term places (from + d) (omega arith) ∙ is)) in
      let column : get_or ts c (Var 0) ≡ Var v = sym (ap (λ (x : Place). x.term) here) ∙ equal in
      let late : get_or ts d (Var 0) ≡ Var v = sym (ap (λ (x : Place). x.term) there) ∙ is in
      let no : stands_again (take d ts) (get_or ts d (Var 0)) ≡ false = sym (ap (λ (x : Place). x.again) there) ∙ told in
      true≢false (sym (stands-take ts c d v lt (omega arith) column) ∙ (sym (ap (stands_again (take d ts)) late) ∙ no))
    where
      origin_is : (place_at places (from + d)).term ≡ Var v → (place_at places (from + d)).again ≡ false → origin places (from + d) ≡ origin_of places (from + d) (Var v) false
      origin_is e f = ap (λ t. origin_of places (from + d) t (place_at places (from + d)).again) e ∙ ap (origin_of places (from + d) (Var v)) f

  level_of_column : (from width c : ℕ) → c < width → slice_index (column_levels places order from width) c ≡ level (from + c)
  level_of_column from width c lt =
      let len = length-below width in
      get_or-map (λ x. level (from + x)) (below width) c 0 0 (omega arith) ∙ ap (λ x. level (from + x)) (get_or-below width c lt)

  columns_apart : (from : ℕ) (ts : List Term) → StandsFrom places from ts → from + length ts ≤ length places → AreApart (column_levels places order from (length ts))
  columns_apart from ts at fits = λ c d lt within same.
      let len = length-column_levels places order from (length ts) in
      let levels_same : level (from + c) ≡ level (from + d) = sym (level_of_column from (length ts) c (omega arith)) ∙ (same ∙ level_of_column from (length ts) d (omega arith)) in
      origins_apart_at from ts at fits c d lt (omega arith) (place_at places (from + d)).term (place_at places (from + d)).again refl refl (level_same (from + c) (from + d) (omega arith) (omega arith) levels_same)

  -- each column is at the level where its variable begins
  stated_guides_right : (from : ℕ) (atoms : List Atom) → from + length (places_of atoms) ≤ length places → AreStatedGuides places order from atoms (guides_from places order from atoms)
  stated_guides_right from [] fits = tt
  stated_guides_right from (atom ∷ atoms) fits =
      let all = length-places_of atom atoms in (
        λ c lt.
            let at = level_of_column from (length atom.terms) c lt in
            let within = level_within (from + c) (omega arith) in
            ((omega arith), ap (slice_index order) at ∙ order_at_level (from + c) (omega arith)),
        stated_guides_right (from + length atom.terms) atoms (omega arith),
      )

  guide_right : (from : ℕ) (atom : Atom) → StandsFrom places from atom.terms → from + length atom.terms ≤ length places → IsGuideOf levels atom (guide_of places order from atom)
  guide_right from atom at fits = record {
    relation = refl;
    terms = sym (map-map (term_at levels) (λ c. level (from + c)) (below (length atom.terms)) ∙ map_below (λ c. term_at levels (level (from + c))) atom.terms (Var 0) (λ c lt. term_at_level (from + c) (omega arith) ∙ ap (λ (x : Place). x.term) (at c lt)));
    places = All_from (λ l. l < length levels) lvls (λ l h.
        let f = IsIn-map_from (λ c. level (from + c)) l (below (length atom.terms)) h in
        let e : level (from + f.0) ≡ l = f.2 in
        let lt = IsIn-below_from (length atom.terms) f.0 f.1 in
        let w = level_within (from + f.0) (omega arith) in
        let len = length-levels in omega arith);
    columns = All_from (λ c. c < length lvls) (sorted_columns lvls (length order)) (λ c h. (in_sorted lvls (length order) c h).0);
    each = λ c lt. each_sorted lvls (length order) c lt (within c lt);
    as_long = length-sorted lvls (length order) within;
    rising = columns_rising lvls (columns_apart from atom.terms at fits) (length order);
  }
    where
      lvls : List ℕ
      lvls = column_levels places order from (length atom.terms)

      within : (c : ℕ) → c < length lvls → slice_index lvls c < length order
      within c lt =
          let len = length-column_levels places order from (length atom.terms) in
          let e = level_of_column from (length atom.terms) c (omega arith) in
          let w = level_within (from + c) (omega arith) in
          omega arith

  guides_right : (from : ℕ) (atoms : List Atom) → AreFrom places from atoms → from + length (places_of atoms) ≤ length places → AllZip (IsGuideOf levels) atoms (guides_from places order from atoms)
  guides_right from [] are fits = tt
  guides_right from (atom ∷ atoms) are fits =
      let all = length-places_of atom atoms in
      (guide_right from atom (StandsFrom-first places from atom atoms are) (omega arith), guides_right (from + length atom.terms) atoms (AreFrom-rest places from atom atoms are) (omega arith))

-- each level is of some atom
held : (tests : List Test) (atoms : List Atom) (l : ℕ) → l < length (levels tests (places_of atoms)) → (guide : Guide) × IsIn guide (guides_from (places_of atoms) (stated_order tests (places_of atoms)) 0 atoms) × IsIn l guide.places
held tests atoms l lt =
    let len = length-levels tests (places_of atoms) in
    let y = get_or (order tests (places_of atoms)) l 0 in
    let sits = IsIn-get_or (order tests (places_of atoms)) l (omega arith) in
    let w = located_in atoms (order tests (places_of atoms)) y (order_within tests (places_of atoms) y sits) in
    let here : level tests (places_of atoms) (w.first + w.column) ≡ l =
    ap (level tests (places_of atoms)) w.at ∙ (ap (index_from 0 (order tests (places_of atoms))) (order_itself tests (places_of atoms) y sits)
    ∙ (index-get_or 0 (order tests (places_of atoms)) l (IsDistinct-order tests (places_of atoms) (told atoms)) (omega arith) ∙ (let s : 0 + l ≡ l = omega arith in s))) in (
      guide_of (places_of atoms) (order tests (places_of atoms)) w.first w.atom,
      w.guide,
      subst (λ n. IsIn n (column_levels (places_of atoms) (order tests (places_of atoms)) w.first (length w.atom.terms))) here
          (IsIn-map (λ c. level tests (places_of atoms) (w.first + c)) w.column (below (length w.atom.terms)) (IsIn-below (length w.atom.terms) w.column w.within)),
    )

-- the stated plan is one of the body's
pub IsPlanOf-stated : (body : Body) → IsPlanOf body (stated_plan body)
IsPlanOf-stated body = record {
  guides = guides_right body.tests (places_of body.atoms) 0 body.atoms (AreFrom-all body.atoms) (omega arith);
  levels = AreLevels body (stated_terms body);
  held = held body.tests body.atoms;
}

-- each place of the order is one of the places
pub All-order : (tests : List Test) (places : List Place) → All (λ p. p < length places) (stated_order tests places)
All-order tests places = All-from_recursion (λ p. p < length places) (stated_order tests places) (All_from (λ p. p < length places) (stated_order tests places) (order_within tests places))

-- the stated plan is in the stated order
pub IsStatedPlan-stated : (body : Body) → IsStatedPlan body (stated_plan body)
IsStatedPlan-stated body = record {
  order = stated_order body.tests (places_of body.atoms);
  in_order = IsStatedOrder-stated body.tests (places_of body.atoms) (told body.atoms);
  levels = refl;
  guides = stated_guides_right body.tests (places_of body.atoms) 0 body.atoms (omega arith);
}

-- and there is no other plan of the body in it

abbrev AreApartIn : List ℕ → Type 0
AreApartIn order = (i j : ℕ) → i < length order → j < length order → slice_index order i ≡ slice_index order j → i ≡ j

apart_in : (order : List ℕ) → IsDistinct order → AreApartIn order
apart_in order distinct = λ i j h k e.
    let ei : index_from 0 order (get_or order i 0) ≡ 0 + i = index-get_or 0 order i distinct h in
    let ej : index_from 0 order (get_or order j 0) ≡ 0 + j = index-get_or 0 order j distinct k in
    let same : index_from 0 order (get_or order i 0) ≡ index_from 0 order (get_or order j 0) = ap (index_from 0 order) e in
    omega arith

same_list : (xs ys : List ℕ) → length xs ≡ length ys → ((c : ℕ) → c < length xs → slice_index xs c ≡ slice_index ys c) → xs ≡ ys
same_list [] [] e h = refl
same_list [] (y ∷ ys) e h = absurd (omega arith)
same_list (x ∷ xs) [] e h = absurd (omega arith)
same_list (x ∷ xs) (y ∷ ys) e h =
    let first : x ≡ y = h 0 (omega arith) in
    let rest : xs ≡ ys = same_list xs ys (omega arith) (λ c lt. h (suc c) (omega arith)) in
    cc

All_map_from : (P : ℕ → Type 0) (f : ℕ → ℕ) (xs : List ℕ) → AllByRecursion P (map f xs) → AllByRecursion (λ x. P (f x)) xs
All_map_from P f [] h = tt
All_map_from P f (x ∷ xs) h = (h.0, All_map_from P f xs h.1)

-- columns whose levels rise are ordered by their levels
ordered_by_level : (ls cs : List ℕ) → IsRising (permuted cs ls) → AreInOrder (λ c d. slice_index ls c < slice_index ls d) cs
ordered_by_level ls [] h = tt
ordered_by_level ls (c ∷ cs) h = (All_map_from (λ y. slice_index ls c < y) (λ d. slice_index ls d) cs h.0, ordered_by_level ls cs h.1)

one_guide : (ls : List Level) (places : List Place) (order : List ℕ) (from : ℕ) (atom : Atom) (g h : Guide) → AreApartIn order → IsGuideOf ls atom g → IsGuideOf ls atom h → IsStatedGuide places order from atom g → IsStatedGuide places order from atom h → g ≡ h
one_guide ls places order from atom g h apart ga ha gs hs =
    let relation : g.relation ≡ h.relation = ga.relation ∙ sym ha.relation in
    let glen : length atom.terms ≡ length g.places = ap length ga.terms ∙ length-map g.places (term_at ls) in
    let hlen : length atom.terms ≡ length h.places = ap length ha.terms ∙ length-map h.places (term_at ls) in
    let same : g.places ≡ h.places =
    same_list g.places h.places (sym glen ∙ hlen) (λ c lt.
    let a = gs c (omega arith) in
    let b = hs c (omega arith) in
    apart (slice_index g.places c) (slice_index h.places c) a.0 b.0 (a.1 ∙ sym b.1)) in
    let hrising : IsRising (permuted h.columns g.places) = subst (λ w. IsRising (permuted h.columns w)) (sym same) ha.rising in
    let columns : g.columns ≡ h.columns =
    one_order (λ c d. slice_index g.places c < slice_index g.places d) (λ c d lt gt. omega arith) g.columns h.columns (ordered_by_level g.places g.columns ga.rising) (ordered_by_level g.places h.columns hrising)
    (λ c k. let lt : c < length g.places = All_at (λ x. x < length g.places) c g.columns ga.columns k in ha.each c (omega arith))
    (λ c k. let lt : c < length h.places = All_at (λ x. x < length h.places) c h.columns ha.columns k in ga.each c (omega arith)) in
    ap (λ r. record { relation = r; places = g.places; columns = g.columns }) relation
    ∙ (ap (λ ps. record { relation = h.relation; places = ps; columns = g.columns }) same ∙ ap (λ cs. record { relation = h.relation; places = h.places; columns = cs }) columns)

one_guides : (ls : List Level) (places : List Place) (order : List ℕ) (from : ℕ) (atoms : List Atom) (gs hs : List Guide) → AreApartIn order → AllZip (IsGuideOf ls) atoms gs → AllZip (IsGuideOf ls) atoms hs → AreStatedGuides places order from atoms gs → AreStatedGuides places order from atoms hs → gs ≡ hs
one_guides ls places order from [] [] [] apart ga ha gs hs = refl
one_guides ls places order from [] [] (h ∷ more) apart ga ha gs hs = absurd hs
one_guides ls places order from [] (g ∷ more) others apart ga ha gs hs = absurd gs
one_guides ls places order from (atom ∷ atoms) [] others apart ga ha gs hs = absurd gs
one_guides ls places order from (atom ∷ atoms) (g ∷ more) [] apart ga ha gs hs = absurd hs
one_guides ls places order from (atom ∷ atoms) (g ∷ more) (h ∷ others) apart ga ha gs hs =
    let first : g ≡ h = one_guide ls places order from atom g h apart ga.0 ha.0 gs.0 hs.0 in
    let rest : more ≡ others = one_guides ls places order (from + length atom.terms) atoms more others apart ga.1 ha.1 gs.1 hs.1 in
    cc

pub one_stated_plan : (body : Body) (plan other : Plan) → IsPlanOf body plan → IsStatedPlan body plan → IsPlanOf body other → IsStatedPlan body other → plan ≡ other
one_stated_plan body plan other ip is jp js =
    let orders : is.order ≡ js.order = one_stated_order body.tests (places_of body.atoms) is.order js.order is.in_order js.in_order in
    let levels : plan.levels ≡ other.levels = is.levels ∙ (ap (λ o. levels_from body.tests [] (terms_at (places_of body.atoms) o)) orders ∙ sym js.levels) in
    let stated : is.order ≡ stated_order body.tests (places_of body.atoms) = one_stated_order body.tests (places_of body.atoms) is.order (stated_order body.tests (places_of body.atoms)) is.in_order (IsStatedOrder-stated body.tests (places_of body.atoms) (told body.atoms)) in
    let distinct : IsDistinct is.order = subst IsDistinct (sym stated) (IsDistinct-order body.tests (places_of body.atoms) (told body.atoms)) in
    let guides : plan.guides ≡ other.guides =
    one_guides plan.levels (places_of body.atoms) is.order 0 body.atoms plan.guides other.guides (apart_in is.order distinct) ip.guides
    (subst (λ ls. AllZip (IsGuideOf ls) body.atoms other.guides) (sym levels) jp.guides) is.guides
    (subst (λ o. AreStatedGuides (places_of body.atoms) o 0 body.atoms other.guides) (sym orders) js.guides) in
    ap (λ ls. record { levels = ls; guides = plan.guides }) levels ∙ ap (λ gs. record { levels = other.levels; guides = gs }) guides
