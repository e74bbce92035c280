-- What a join asks of a plan follows for each plan of a body that fits.
use Rattle.std.specs.Prelude.{◌≡◌, ℕ, suc, ◌+◌, ◌<◌, ◌≤◌, ◌^◌, ◌==◌, true, false, List, [], ◌∷◌, ◌++◌, map, length, Some, None, ◌⊎◌, slice_get, option_map}
use Rattle.std.specs.List.{AllByRecursion, AllZip}
use Rattle.std.proofs.Common.{refl, sym, ap, ◌∙◌, subst, inl, inr, cond, arith, get_or}
use Rattle.std.proofs.lemmas.Bool.{or_cases, or_left, or_right}
use Rattle.std.proofs.lemmas.List.{length-map}
use Rattle.std.proofs.lemmas.Option.{slice_get_within, get_or_from_slice_get}
use Rattle.std.proofs.lemmas.Slice.Zip.{AllZip-long}
use Rattle.lt_face.specs.Lists.{IsIn}
use Rattle.lt_face.specs.Rows.{IsCell}
use Rattle.lt_face.specs.State.{State, Relation}
use Rattle.lt_face.proofs.RowLemmas.{each_weaker, each_at}
use Rattle.lt_face.proofs.Membership.{IsIn-append_left, IsIn-append_right, IsIn-map, IsIn-flat_map_from}
use Rattle.lt_model.specs.declared.normal.Term.{Term}
use Rattle.lt_model.specs.declared.normal.Term.TheVariants.{Var, Cell}
use Rattle.lt_model.specs.declared.normal.Atom.{Atom}
use Rattle.lt_model.specs.declared.syntax.Op.TheVariants.{Eq}
use Rattle.lt_model.specs.declared.normal.Test.{Test}
use Rattle.lt_model.specs.declared.normal.Test.TheVariants.{Cmp}
use Rattle.lt_model.specs.declared.normal.Body.{Body}
use Rattle.lt_model.specs.Answers.{terms_of}
use Rattle.lt_model.specs.Bound.{is_var, stands}
use Rattle.lt_model.specs.Fits.{IsWide, IsTermOf, IsAtomOf, IsBodyOf, test_terms}
use Rattle.lt_query.specs.declared.plans.Level.{Level}
use Rattle.lt_query.specs.declared.plans.Guide.{Guide}
use Rattle.lt_query.specs.declared.plans.Plan.{Plan}
use Rattle.lt_query.specs.LevelsOf.{constants_of, first_place, pins_of, ties_of, levels_from}
use Rattle.lt_query.specs.Plan.{term_at, IsGuideOf, IsPinOf, IsLevelOf, AreLevelsFrom, IsPlanOf}
use Rattle.lt_query.specs.Runnable.{IsWidth, AreAtomsWide, HasWidths, AreWide, AreFew, IsRunnable}
use Rattle.lt_query.specs.Order.{stated_terms}
use Rattle.lt_query.specs.Stated.{stated_plan}
use Rattle.lt_query.proofs.Elements.{All_at}
use Rattle.lt_query.proofs.Standing.{is_var-true}
use Rattle.lt_query.proofs.StatedPlan.{IsPlanOf-stated}

-- ---- widths

width_of : (state : State) (relation width : ℕ) → AreWide state → IsWide state relation width → IsWidth width
width_of state relation width wide e =
    elim (slice_get state relation) as (λ o. slice_get state relation ≡ o → option_map (λ (r : Relation). r.width) o ≡ Some width → IsWidth width) [
      | None ↦ λ none h. cc
      | Some r ↦ λ some h.
          let same : r.width ≡ width = cc in
          let there : get_or state relation r ≡ r = get_or_from_slice_get state relation r r some in
          subst IsWidth same (subst (λ (x : Relation). IsWidth x.width) there (each_at (λ (x : Relation). IsWidth x.width) state relation r wide (slice_get_within state relation r some)))
    ] refl e

-- the atoms of a body that fits are as wide as the relations
pub widths_of : (state : State) (body : Body) → AreWide state → IsBodyOf state body → HasWidths body
widths_of state body wide fits = (each body.atoms fits.atoms, each body.absents fits.absents)
  where
    each : (atoms : List Atom) → AllByRecursion (IsAtomOf state body.vars) atoms → AreAtomsWide atoms
    each atoms h = each_weaker (IsAtomOf state body.vars) (λ (atom : Atom). IsWidth (length atom.terms)) (λ atom h. width_of state atom.relation (length atom.terms) wide h.is_wide) atoms h

guide_widths : (levels : List Level) (atoms : List Atom) (guides : List Guide) → AllZip (IsGuideOf levels) atoms guides → AllByRecursion (λ (atom : Atom). IsWidth (length atom.terms)) atoms → AllByRecursion (λ (guide : Guide). IsWidth (length guide.places)) guides
guide_widths levels [] [] z w = tt
guide_widths levels [] (guide ∷ guides) z w = absurd z
guide_widths levels (atom ∷ atoms) [] z w = absurd z
guide_widths levels (atom ∷ atoms) (guide ∷ guides) z w =
    let first : IsGuideOf levels atom guide = z.0 in
    (subst IsWidth (ap length first.terms ∙ length-map guide.places (term_at levels)) w.0, guide_widths levels atoms guides z.1 w.1)

-- ---- variables

-- the term of a place is one of the atoms'
term_of_place : (levels : List Level) (atoms : List Atom) (guides : List Guide) (guide : Guide) (l : ℕ) → AllZip (IsGuideOf levels) atoms guides → IsIn guide guides → IsIn l guide.places → IsIn (term_at levels l) (terms_of atoms)
term_of_place levels [] [] guide l z h k = absurd h
term_of_place levels [] (x ∷ guides) guide l z h k = absurd z
term_of_place levels (atom ∷ atoms) [] guide l z h k = absurd z
term_of_place levels (atom ∷ atoms) (x ∷ guides) guide l z h k =
    let first : IsGuideOf levels atom x = z.0 in
    elim h [
      | inl e ↦ IsIn-append_left (term_at levels l) atom.terms (terms_of atoms) (subst (λ ts. IsIn (term_at levels l) ts) (sym first.terms) (IsIn-map (term_at levels) l x.places (subst (λ (g : Guide). IsIn l g.places) (sym e) k)))
      | inr r ↦ IsIn-append_right (term_at levels l) atom.terms (terms_of atoms) (term_of_place levels atoms guides guide l z.1 r k)
    ]

term_fits : (state : State) (vars : ℕ) (atoms : List Atom) (t : Term) → AllByRecursion (IsAtomOf state vars) atoms → IsIn t (terms_of atoms) → IsTermOf vars t
term_fits state vars atoms t fits h =
    let f = IsIn-flat_map_from (λ (atom : Atom). atom.terms) t atoms h in
    let one : IsAtomOf state vars f.0 = All_at (IsAtomOf state vars) f.0 atoms fits f.1 in
    All_at (IsTermOf vars) t (f.0).terms one.has_terms f.2

place_of : (levels : List Level) (places : List ℕ) (v n : ℕ) → AllByRecursion (λ l. l < n) places → stands (map (term_at levels) places) v ≡ true → (l : ℕ) × (l < n) × (term_at levels l ≡ Var v)
place_of levels [] v n h s = cc
place_of levels (l ∷ places) v n h s =
    elim (or_cases (is_var v (term_at levels l)) (stands (map (term_at levels) places) v) s)
    [ inl e ↦ (l, h.0, is_var-true v (term_at levels l) e) | inr r ↦ place_of levels places v n h.1 r ]

stands_cases : (xs ys : List Term) (v : ℕ) → stands (xs ++ ys) v ≡ true → (stands xs v ≡ true) ⊎ (stands ys v ≡ true)
stands_cases [] ys v h = inr h
stands_cases (x ∷ xs) ys v h =
    elim (or_cases (is_var v x) (stands (xs ++ ys) v) h) [
      | inl e ↦ inl (or_left (is_var v x) (stands xs v) e)
      | inr r ↦ elim (stands_cases xs ys v r) [ inl k ↦ inl (or_right (is_var v x) (stands xs v) k) | inr k ↦ inr k ]
    ]

-- each variable of an atom has a level
level_of : (levels : List Level) (v : ℕ) (atoms : List Atom) (guides : List Guide) → AllZip (IsGuideOf levels) atoms guides → stands (terms_of atoms) v ≡ true → (l : ℕ) × (l < length levels) × (term_at levels l ≡ Var v)
level_of levels v [] [] z h = cc
level_of levels v [] (guide ∷ guides) z h = absurd z
level_of levels v (atom ∷ atoms) [] z h = absurd z
level_of levels v (atom ∷ atoms) (guide ∷ guides) z h =
    let first : IsGuideOf levels atom guide = z.0 in
    elim (stands_cases atom.terms (terms_of atoms) v h) [
      | inl k ↦ place_of levels guide.places v (length levels) first.places (subst (λ ts. stands ts v ≡ true) first.terms k)
      | inr k ↦ level_of levels v atoms guides z.1 k
    ]

-- ---- pins

pins_fit : (state : State) (body : Body) (t : Term) (pins : List ℕ) → IsBodyOf state body → IsTermOf body.vars t → AllByRecursion (IsPinOf body.tests t) pins → AllByRecursion IsCell pins
pins_fit state body (Cell c) pins fits h k = each_weaker (IsPinOf body.tests (Cell c)) IsCell (λ pin e. subst IsCell e h) pins k
pins_fit state body (Var v) pins fits h k =
    each_weaker (IsPinOf body.tests (Var v)) IsCell (λ pin i. (All_at (λ test. AllByRecursion (IsTermOf body.vars) (test_terms test)) (Cmp (Var v) Eq (Cell pin)) body.tests fits.tests i).1.0) pins k

-- the level's pins are cells, and its variable the body's
abbrev pub IsFitting : ℕ → Level → Type 0
IsFitting vars level = AllByRecursion IsCell level.pins × IsTermOf vars level.term

levels_fit : (state : State) (body : Body) (plan : Plan) → IsBodyOf state body → IsPlanOf body plan → (l : ℕ) (rest : List Level) → l + length rest ≤ length plan.levels → AreLevelsFrom body plan.levels l rest → AllByRecursion (IsFitting body.vars) rest
levels_fit state body plan fits is l [] within h = tt
levels_fit state body plan fits is l (level ∷ rest) within h =
    let one : IsLevelOf body plan.levels l level = h.0 in
    let holder = is.held l (omega arith) in
    let there = term_of_place plan.levels body.atoms plan.guides holder.0 l is.guides holder.1 holder.2 in
    let fit : IsTermOf body.vars level.term = subst (IsTermOf body.vars) one.term (term_fits state body.vars body.atoms (term_at plan.levels l) fits.atoms there) in
    ((pins_fit state body level.term level.pins fits fit one.pins, fit), levels_fit state body plan fits is (l + 1) rest (omega arith) h.1)

-- ---- plans

-- a join can follow each plan of a body that fits
pub IsRunnable-of : (state : State) (body : Body) (plan : Plan) → HasWidths body → IsBodyOf state body → IsPlanOf body plan → AreFew plan → IsRunnable body plan
IsRunnable-of state body plan widths fits is few =
    let each = levels_fit state body plan fits is 0 plan.levels (omega arith) is.levels in
    record {
      pins = each_weaker (IsFitting body.vars) (λ (level : Level). AllByRecursion IsCell level.pins) (λ level h. h.0) plan.levels each;
      variables = each_weaker (IsFitting body.vars) (λ (level : Level). IsTermOf body.vars level.term) (λ level h. h.1) plan.levels each;
      widths = guide_widths plan.levels body.atoms plan.guides is.guides widths.0;
      absents = widths.1;
      held = λ v h. level_of plan.levels v body.atoms plan.guides is.guides h;
      few = few;
    }

constants_few : (tests : List Test) (v : ℕ) → length (constants_of tests v) ≤ length tests
constants_few [] v = omega arith
constants_few (Cmp (Var u) Eq (Cell c) ∷ tests) v =
    let rest = constants_few tests v in
    elim (u == v) as (λ b. length (cond b (c ∷ constants_of tests v) (constants_of tests v)) ≤ suc (length tests)) [ true ↦ omega arith | false ↦ omega arith ]
constants_few (test ∷ tests) v = let rest = constants_few tests v in omega arith

first_place_few : (l : ℕ) (ts : List Term) (v : ℕ) → length (first_place l ts v) ≤ 1
first_place_few l [] v = omega arith
first_place_few l (t ∷ ts) v =
    let rest = first_place_few (l + 1) ts v in
    elim (is_var v t) as (λ b. length (cond b (l ∷ []) (first_place (l + 1) ts v)) ≤ 1) [ true ↦ omega arith | false ↦ rest ]

pins_few : (tests : List Test) (seen : List Term) (t : Term) → length (pins_of tests seen t) ≤ length tests + 1
pins_few tests seen (Cell c) = omega arith
pins_few tests seen (Var v) =
    let all = constants_few tests v in
    elim (stands seen v) as (λ b. length (cond b [] (constants_of tests v)) ≤ length tests + 1) [ true ↦ omega arith | false ↦ omega arith ]

ties_few : (seen : List Term) (t : Term) → length (ties_of seen t) ≤ 1
ties_few seen (Cell c) = omega arith
ties_few seen (Var v) = first_place_few 0 seen v

levels_few : (tests : List Test) (atoms : ℕ) → atoms + length tests ≤ 16 → (seen ts : List Term) → AllByRecursion (λ (level : Level). atoms + (length level.pins + length level.ties) < 2 ^ 32) (levels_from tests seen ts)
levels_few tests atoms few seen [] = tt
levels_few tests atoms few seen (t ∷ ts) =
    let pins = pins_few tests seen t in
    let ties = ties_few seen t in
    ((omega arith), levels_few tests atoms few (seen ++ t ∷ []) ts)

pub IsRunnable-stated : (state : State) (body : Body) → HasWidths body → IsBodyOf state body → IsRunnable body (stated_plan body)
IsRunnable-stated state body widths fits =
    let is = IsPlanOf-stated body in
    let long : length (stated_plan body).guides ≡ length body.atoms = AllZip-long (IsGuideOf (stated_plan body).levels) body.atoms (stated_plan body).guides is.guides in
    let levels = (stated_plan body).levels in
    let few : AreFew (stated_plan body) =
    subst (λ n. AllByRecursion (λ (level : Level). n + (length level.pins + length level.ties) < 2 ^ 32) levels) (sym long)
    (levels_few body.tests (length body.atoms) (omega (arith, fits.has_few_literals)) [] (stated_terms body)) in
    IsRunnable-of state body (stated_plan body) widths fits is few
