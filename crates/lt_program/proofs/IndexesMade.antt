-- The indexes that a program needs, made one after another.
use Rattle.std.proofs.Common.{◌≡◌, ℕ, zero, suc, ◌+◌, ◌<◌, ◌==◌, ◌||◌, ◌&&◌, Bool, true, List, [], ◌∷◌, ◌++◌, length, take, get_or, Some, refl, sym, ap, ◌∙◌, subst, inl, inr, arith}
use Rattle.std.specs.Prelude.{◌⊎◌}
use Rattle.std.specs.List.{AllByRecursion, AllZip, list_any}
use Rattle.std.proofs.Math.Bool.{or_assoc, or-false}
use Rattle.std.proofs.lemmas.Bool.{or_cases, or_left, or_right, and_parts, and_from, eqb-true, eq-eqb}
use Rattle.std.proofs.lemmas.List.{take_more, length-map}
use Rattle.std.proofs.lemmas.List.Folds.{list_any-append}
use Rattle.lt_face.specs.Lists.{IsIn}
use Rattle.lt_face.specs.State.{State, row_eq}
use Rattle.lt_model.specs.declared.normal.Atom.{Atom}
use Rattle.lt_model.specs.declared.normal.Stmt.{Stmt}
use Rattle.lt_model.specs.declared.normal.Stmt.TheVariants.{Insert, Delete, Replace, Require, Print}
use Rattle.lt_model.specs.Fits.{IsWide, IsAtomOf, IsBodyOf, FitsStatement, Fits}
use Rattle.lt_delta.specs.Columns.{IsPermOf}
use Rattle.lt_base.specs.Tables.{Table, has_index}
use Rattle.lt_base.proofs.OwnOrder.{row_eq-true, row_eq-itself}
use Rattle.lt_query.specs.declared.plans.Guide.{Guide}
use Rattle.lt_query.specs.declared.plans.Level.{Level}
use Rattle.lt_query.specs.declared.plans.IndexName.{IndexName}
use Rattle.lt_query.specs.Needs.{body_of, index_of, first_index, IsWalked, IsLookedUp, IsNeeded, AreNamed, HaveFirsts}
use Rattle.lt_query.specs.Lists.{below}
use Rattle.lt_query.specs.declared.plans.Plan.{Plan}
use Rattle.lt_query.specs.Plan.{IsGuideOf, IsPlanOf, term_at}
use Rattle.lt_query.proofs.Distinct.{IsIn-below, IsIn-below_from, length-below}
use Rattle.lt_query.proofs.Elements.{All_from}
use Rattle.lt_query.specs.Laws.{FittingHasWidths}
use Rattle.lt_query.specs.Runnable.{AreWide, HasWidths}
use Rattle.lt_query.specs.Stated.{stated_plan}
use Rattle.lt_face.proofs.RowLemmas.{each_weaker}
use Rattle.lt_program.specs.Tally.{HasIndexes}

-- whether the index is the relation's on these columns
abbrev pub is_named : ℕ → List ℕ → IndexName → Bool
is_named relation columns name = relation == name.relation && row_eq columns name.columns

-- the indexes of the base, and those named
abbrev pub AreMade : List Table → List IndexName → List Table → Type 0
AreMade base names tables = (relation : ℕ) (columns : List ℕ) → has_index tables relation columns ≡ (has_index base relation columns || list_any (is_named relation columns) names)

-- one more
pub made_more : (base tables more : List Table) (names : List IndexName) (i : ℕ) (name : IndexName) → i < length names → name ≡ get_or names i name → AreMade base (take i names) tables
    → ((r : ℕ) (columns : List ℕ) → has_index more r columns ≡ (has_index tables r columns || (r == name.relation && row_eq columns name.columns))) → AreMade base (take (i + 1) names) more
made_more base tables more names i name lt is made step relation columns =
    let one : take (i + 1) names ≡ take i names ++ name ∷ [] = take_more names i name lt ∙ ap (λ n. take i names ++ n ∷ []) (sym is) in
    let before = has_index base relation columns in
    let so_far = list_any (is_named relation columns) (take i names) in
    let here = is_named relation columns name in
    let all : list_any (is_named relation columns) (take (i + 1) names) ≡ (so_far || here) =
    ap (list_any (is_named relation columns)) one ∙ (list_any-append (is_named relation columns) (take i names) (name ∷ []) ∙ ap (λ b. so_far || b) (or-false here)) in
    step relation columns ∙ (ap (λ b. b || here) (made relation columns) ∙ (or_assoc before so_far here ∙ ap (λ b. before || b) (sym all)))

any_of : {X : Type 0} (p : X → Bool) (x : X) (xs : List X) → IsIn x xs → p x ≡ true → list_any p xs ≡ true
any_of p x [] h e = absurd h
any_of p x (y ∷ xs) h e = elim h [ inl q ↦ or_left (p y) (list_any p xs) (ap p q ∙ e) | inr k ↦ or_right (p y) (list_any p xs) (any_of p x xs k e) ]

any_from : {X : Type 0} (p : X → Bool) (xs : List X) → list_any p xs ≡ true → (x : X) × IsIn x xs × (p x ≡ true)
any_from p [] h = cc
any_from p (x ∷ xs) h = elim (or_cases (p x) (list_any p xs) h) [ inl e ↦ (x, inl refl, e) | inr k ↦ let q = any_from p xs k in (q.0, inr q.1, q.2) ]

same_name : (name : IndexName) (r : ℕ) (cs : List ℕ) → r ≡ name.relation → cs ≡ name.columns → name ≡ record { relation = r; columns = cs }
same_name name r cs a b =
    let first : name ≡ record { relation = r; columns = name.columns } = ap (λ (k : ℕ). record { relation = k; columns = name.columns }) (sym a) in
    first ∙ ap (λ (k : List ℕ). record { relation = r; columns = k }) (sym b)

module _ (base tables : List Table) (names : List IndexName) (made : AreMade base names tables) where
  pub made_kept : (relation : ℕ) (columns : List ℕ) → has_index base relation columns ≡ true → has_index tables relation columns ≡ true
  made_kept relation columns h = made relation columns ∙ or_left (has_index base relation columns) (list_any (is_named relation columns) names) h

  -- a name is made
  made_named : (name : IndexName) → IsIn name names → has_index tables name.relation name.columns ≡ true
  made_named name there =
      made name.relation name.columns
      ∙ or_right (has_index base name.relation name.columns) (list_any (is_named name.relation name.columns) names)
      (any_of (is_named name.relation name.columns) name names there (and_from _ _ (eq-eqb name.relation name.relation refl) (row_eq-itself name.columns)))

  made_guides : (guides : List Guide) → AllByRecursion (λ (guide : Guide). IsIn (index_of guide) names) guides → AllByRecursion (λ (guide : Guide). has_index tables guide.relation guide.columns ≡ true) guides
  made_guides [] all = tt
  made_guides (guide ∷ guides) all = (made_named (index_of guide) all.0, made_guides guides all.1)

  made_firsts : (atoms : List Atom) → AllByRecursion (λ (atom : Atom). IsIn (first_index atom) names) atoms → AllByRecursion (λ (atom : Atom). has_index tables atom.relation (below (length atom.terms)) ≡ true) atoms
  made_firsts [] all = tt
  made_firsts (atom ∷ atoms) all = (made_named (first_index atom) all.0, made_firsts atoms all.1)

  pub made_all : (program : List Stmt) → ((stmt : Stmt) → IsIn stmt program → AreNamed names (stated_plan (body_of stmt))) → AllByRecursion (λ (stmt : Stmt). HaveFirsts names (body_of stmt)) program → HasIndexes tables program
  made_all [] each firsts = tt
  made_all (stmt ∷ program) each firsts = ((made_guides (stated_plan (body_of stmt)).guides (each stmt (inl refl)), made_firsts (body_of stmt).absents firsts.0), made_all program (λ s there. each s (inr there)) firsts.1)

  pub made_only : (P : IndexName → Type 0) → ((name : IndexName) → IsIn name names → P name) → (relation : ℕ) (columns : List ℕ) → has_index tables relation columns ≡ true → (has_index base relation columns ≡ true) ⊎ P (record { relation = relation; columns = columns })
  made_only P each relation columns h =
      elim (or_cases (has_index base relation columns) (list_any (is_named relation columns) names) (sym (made relation columns) ∙ h)) [
        | inl old ↦ inl old
        | inr new ↦
            let found = any_from (is_named relation columns) names new in
            let parts = and_parts (relation == found.0.relation) (row_eq columns found.0.columns) found.2 in
            let a : relation ≡ found.0.relation = eqb-true relation found.0.relation parts.0 in
            let b : columns ≡ found.0.columns = row_eq-true columns found.0.columns parts.1 in
            inr (subst P (same_name found.0 relation columns a b) (each found.0 found.1))
      ]

-- ---- what is needed can be made

guide_atom : (levels : List Level) (atoms : List Atom) (guides : List Guide) (guide : Guide) → AllZip (IsGuideOf levels) atoms guides → IsIn guide guides → (atom : Atom) × IsIn atom atoms × IsGuideOf levels atom guide
guide_atom levels [] [] guide all there = absurd there
guide_atom levels [] (g ∷ guides) guide all there = absurd all
guide_atom levels (atom ∷ atoms) [] guide all there = absurd there
guide_atom levels (atom ∷ atoms) (g ∷ guides) guide all there =
    elim there [ inl e ↦ (atom, inl refl, subst (IsGuideOf levels atom) e all.0) | inr k ↦ let found = guide_atom levels atoms guides guide all.1 k in (found.0, inr found.1, found.2) ]

each_in : {X : Type 0} (P : X → Type 0) (xs : List X) (x : X) → IsIn x xs → AllByRecursion P xs → P x
each_in P [] x there all = absurd there
each_in P (y ∷ xs) x there all = elim there [ inl e ↦ subst P e all.0 | inr k ↦ each_in P xs x k all.1 ]

pub body_fits : (state : State) (stmt : Stmt) → FitsStatement state stmt → IsBodyOf state (body_of stmt)
body_fits state (Insert head keys body) h = h.0
body_fits state (Delete head body) h = h.0
body_fits state (Replace gone come keys body) h = h.0
body_fits state (Require some body) h = h
body_fits state (Print terms kinds body) h = h.0

wide_there : (state : State) (relation width : ℕ) → IsWide state relation width → relation < length state
wide_there [] zero width h = cc
wide_there [] (suc relation) width h = cc
wide_there (r ∷ state) zero width h = omega arith
wide_there (r ∷ state) (suc relation) width h = let lt = wide_there state relation width h in omega arith

some_is : (x y : ℕ) → Some x ≡ Some y → x ≡ y
some_is x y e = cc

module _ (state : State) (program : List Stmt) (fits : Fits state program) (name : IndexName) (stmt : Stmt) (there : IsIn stmt program) where
  the_body : IsBodyOf state (body_of stmt)
  the_body = body_fits state stmt (each_in (FitsStatement state) program stmt there fits.each)

  walked_there : (plan : Plan) → IsPlanOf (body_of stmt) plan → IsWalked plan name → name.relation < length state
  walked_there plan of_body walked =
      let found = guide_atom plan.levels (body_of stmt).atoms plan.guides walked.0 of_body.guides walked.1 in
      let is = each_in (IsAtomOf state (body_of stmt).vars) (body_of stmt).atoms found.0 found.1 the_body.atoms in
      let same : walked.0.relation ≡ name.relation = ap (λ (n : IndexName). n.relation) walked.2 in
      subst (λ r. r < length state) (sym found.2.relation ∙ same) (wide_there state found.0.relation (length found.0.terms) is.is_wide)

  walked_perm : (plan : Plan) → IsPlanOf (body_of stmt) plan → IsWalked plan name → (width : ℕ) → IsWide state name.relation width → IsPermOf width name.columns
  walked_perm plan of_body walked width wide =
      let found = guide_atom plan.levels (body_of stmt).atoms plan.guides walked.0 of_body.guides walked.1 in
      let is = each_in (IsAtomOf state (body_of stmt).vars) (body_of stmt).atoms found.0 found.1 the_body.atoms in
      let guide = walked.0 in
      let same : guide.relation ≡ name.relation = ap (λ (n : IndexName). n.relation) walked.2 in
      let columns : guide.columns ≡ name.columns = ap (λ (n : IndexName). n.columns) walked.2 in
      let here : IsWide state found.0.relation width = subst (λ r. IsWide state r width) (sym same ∙ found.2.relation) wide in
      let w : width ≡ length found.0.terms = some_is width (length found.0.terms) (sym here ∙ is.is_wide) in
      let long : width ≡ length guide.places = w ∙ (ap length found.2.terms ∙ length-map guide.places (term_at plan.levels)) in
      subst (IsPermOf width) columns (subst (λ n. IsPermOf n guide.columns) (sym long) (record { as_long = found.2.as_long; within = found.2.columns; each = found.2.each }))

  looked_there : IsLookedUp (body_of stmt) name → name.relation < length state
  looked_there looked =
      let is = each_in (IsAtomOf state (body_of stmt).vars) (body_of stmt).absents looked.0 looked.1 the_body.absents in
      subst (λ (n : IndexName). n.relation < length state) looked.2 (wide_there state looked.0.relation (length looked.0.terms) is.is_wide)

  looked_perm : IsLookedUp (body_of stmt) name → (width : ℕ) → IsWide state name.relation width → IsPermOf width name.columns
  looked_perm looked width wide =
      let atom = looked.0 in
      let is = each_in (IsAtomOf state (body_of stmt).vars) (body_of stmt).absents atom looked.1 the_body.absents in
      let same : atom.relation ≡ name.relation = ap (λ (n : IndexName). n.relation) looked.2 in
      let columns : below (length atom.terms) ≡ name.columns = ap (λ (n : IndexName). n.columns) looked.2 in
      let here : IsWide state atom.relation width = subst (λ r. IsWide state r width) (sym same) wide in
      let w : width ≡ length atom.terms = some_is width (length atom.terms) (sym here ∙ is.is_wide) in
      subst (IsPermOf width) columns (subst (λ n. IsPermOf width (below n)) w (own_perm width))
    where
      own_perm : (n : ℕ) → IsPermOf n (below n)
      own_perm n = record {
        as_long = length-below n;
        within = All_from (λ c. c < n) (below n) (λ c k. IsIn-below_from n c k);
        each = λ c lt. IsIn-below n c lt;
      }

pub needed_there : (state : State) (program : List Stmt) → Fits state program → (name : IndexName) → IsNeeded program name → name.relation < length state
needed_there state program fits name needed = elim needed.2 [
  | inl walked ↦ walked_there state program fits name needed.0 needed.1 walked.0 walked.1 walked.3
  | inr looked ↦ looked_there state program fits name needed.0 needed.1 looked
]

pub needed_perm : (state : State) (program : List Stmt) → Fits state program → (name : IndexName) → IsNeeded program name → (width : ℕ) → IsWide state name.relation width → IsPermOf width name.columns
needed_perm state program fits name needed width wide = elim needed.2 [
  | inl walked ↦ walked_perm state program fits name needed.0 needed.1 walked.0 walked.1 walked.3 width wide
  | inr looked ↦ looked_perm state program fits name needed.0 needed.1 looked width wide
]

pub in_place : {X : Type 0} (xs : List X) (i : ℕ) (x : X) → i < length xs → x ≡ get_or xs i x → IsIn x xs
in_place [] i x lt is = absurd (omega arith)
in_place (y ∷ xs) zero x lt is = inl (sym is)
in_place (y ∷ xs) (suc i) x lt is = inr (in_place xs i x (omega arith) is)

pub widths_all : (state : State) (program : List Stmt) → FittingHasWidths → AreWide state → AllByRecursion (FitsStatement state) program → AllByRecursion (λ (stmt : Stmt). HasWidths (body_of stmt)) program
widths_all state program law wide fits = each_weaker (FitsStatement state) (λ (stmt : Stmt). HasWidths (body_of stmt)) (λ stmt h. law state (body_of stmt) wide (body_fits state stmt h)) program fits
