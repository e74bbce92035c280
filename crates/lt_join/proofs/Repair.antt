-- Two states that agree where an evaluation was sensitive have the same answers.
use Rattle.std.specs.Prelude.{◌≡◌, Bool, true, false, List, [], ◌∷◌}
use Rattle.std.specs.List.{AllByRecursion, list_any, filter_map}
use Rattle.std.proofs.Common.{refl, sym, ap, ◌∙◌, subst, inl, inr}
use Rattle.std.proofs.lemmas.Bool.{and_from, eq-eqb, true≢false, cases_Bool, or_cases, or_left, or_right}
use Rattle.lt_model.specs.declared.normal.Term.{Term}
use Rattle.lt_model.specs.declared.normal.Atom.{Atom}
use Rattle.lt_model.specs.declared.normal.Body.{Body}
use Rattle.lt_face.specs.Lists.{IsIn}
use Rattle.lt_face.specs.State.{Row, State, row_eq}
use Rattle.lt_model.specs.Answers.{Assignment, cells_of, holds, picks, assignment_of, answer_of, answers, some_answer}
use Rattle.lt_sense.specs.Kept.{Sense}
use Rattle.lt_sense.specs.declared.covering.KeptGap.{KeptGap}
use Rattle.lt_sense.specs.declared.covering.Hit.{Hit}
use Rattle.lt_sense.specs.Sense.{covers, gap_covers, hit_covers, lies_in, AgreeWhereCovered, IsTight}
use Rattle.lt_face.specs.State.{permuted, Has}
use Rattle.lt_join.specs.Certify.{IsMet, IsMissed, Certifies, Witnesses}
use Rattle.lt_face.specs.Lists.{AnyByRecursion}
use Rattle.lt_query.specs.Answering.{Stands, Lacks}
use Rattle.lt_query.proofs.Ascending.{IsAscending-ascending, ascending_same}
use Rattle.lt_face.specs.Rows.{IsAscending}
use Rattle.lt_query.proofs.Picks.{IsIn-picks, Stands-from_picks, IsIn-answers, IsIn-answers_from, some_answer_is, some_answer-true}

-- the same, of the states the other way round
pub AgreeWhereCovered-sym : (sense : Sense) (s t : State) → AgreeWhereCovered sense s t → AgreeWhereCovered sense t s
AgreeWhereCovered-sym sense s t agree relation row h = ((agree relation row h).1, (agree relation row h).0)

module _ (sense : Sense) (s t : State) (agree : AgreeWhereCovered sense s t) where
  met_moved : (a : Assignment) (atoms : List Atom) → AllByRecursion (IsMet sense s a) atoms → AllByRecursion (IsMet sense t a) atoms
  met_moved a [] h = tt
  met_moved a (atom ∷ atoms) h = (((agree atom.relation (cells_of a atom.terms) h.0.1).0 h.0.0, h.0.1), met_moved a atoms h.1)

  missed_moved : (a : Assignment) (atoms : List Atom) → AnyByRecursion (IsMissed sense s a) atoms → AnyByRecursion (IsMissed sense t a) atoms
  missed_moved a [] h = h
  missed_moved a (atom ∷ atoms) h =
      elim h [ inl m ↦ inl (λ there. m.0 ((agree atom.relation (cells_of a atom.terms) m.1).1 there), m.1) | inr r ↦ inr (missed_moved a atoms r) ]

  all_missed_moved : (a : Assignment) (atoms : List Atom) → AllByRecursion (IsMissed sense s a) atoms → AllByRecursion (IsMissed sense t a) atoms
  all_missed_moved a [] h = tt
  all_missed_moved a (atom ∷ atoms) h = ((λ there. h.0.0 ((agree atom.relation (cells_of a atom.terms) h.0.1).1 there), h.0.1), all_missed_moved a atoms h.1)

  some_met_moved : (a : Assignment) (atoms : List Atom) → AnyByRecursion (IsMet sense s a) atoms → AnyByRecursion (IsMet sense t a) atoms
  some_met_moved a [] h = h
  some_met_moved a (atom ∷ atoms) h = elim h [ inl m ↦ inl ((agree atom.relation (cells_of a atom.terms) m.1).0 m.0, m.1) | inr r ↦ inr (some_met_moved a atoms r) ]

  pub Certifies-moved : (body : Body) → Certifies sense body s → Certifies sense body t
  Certifies-moved body certified a held =
      elim (certified a held) [
        | inl met ↦ inl (met_moved a body.atoms met.0, all_missed_moved a body.absents met.1)
        | inr other ↦ elim other [ inl missed ↦ inr (inl (missed_moved a body.atoms missed)) | inr met ↦ inr (inr (some_met_moved a body.absents met)) ]
      ]

  pub Witnesses-moved : (body : Body) → Witnesses sense body s → Witnesses sense body t
  Witnesses-moved body w = (w.0, w.1, met_moved w.0 body.atoms w.2, all_missed_moved w.0 body.absents w.3)

pub not_missed : (sense : Sense) (s : State) (a : Assignment) (atoms : List Atom) → Stands a atoms s → AnyByRecursion (IsMissed sense s a) atoms → ⊥
not_missed sense s a [] there missed = missed
not_missed sense s a (atom ∷ atoms) there missed = elim missed [ inl m ↦ m.0 there.0 | inr r ↦ not_missed sense s a atoms there.1 r ]

pub Stands-from_met : (sense : Sense) (s : State) (a : Assignment) (atoms : List Atom) → AllByRecursion (IsMet sense s a) atoms → Stands a atoms s
Stands-from_met sense s a [] met = tt
Stands-from_met sense s a (atom ∷ atoms) met = (met.0.0, Stands-from_met sense s a atoms met.1)

pub Lacks-from_missed : (sense : Sense) (s : State) (a : Assignment) (absents : List Atom) → AllByRecursion (IsMissed sense s a) absents → Lacks a absents s
Lacks-from_missed sense s a [] missed = tt
Lacks-from_missed sense s a (atom ∷ absents) missed = (missed.0.0, Lacks-from_missed sense s a absents missed.1)

pub not_met : (sense : Sense) (s : State) (a : Assignment) (absents : List Atom) → Lacks a absents s → AnyByRecursion (IsMet sense s a) absents → ⊥
not_met sense s a [] none met = met
not_met sense s a (atom ∷ absents) none met = elim met [ inl m ↦ none.0 m.0 | inr r ↦ not_met sense s a absents none.1 r ]

-- what stands in the one state stands in the other, and what is absent stays so
pub Stands-moved : (sense : Sense) (body : Body) (s t : State) → AgreeWhereCovered sense s t → Certifies sense body s → (a : Assignment) → holds a body ≡ true → Stands a body.atoms s → Lacks a body.absents s → Stands a body.atoms t × Lacks a body.absents t
Stands-moved sense body s t agree certified a held there none =
    elim (certified a held) [
      | inl met ↦ (Stands-from_met sense t a body.atoms (met_moved sense s t agree a body.atoms met.0), Lacks-from_missed sense t a body.absents (all_missed_moved sense s t agree a body.absents met.1))
      | inr other ↦ elim other [ inl missed ↦ absurd (not_missed sense s a body.atoms there missed) | inr met ↦ absurd (not_met sense s a body.absents none met) ]
    ]

kept : (sense : Sense) (terms : List Term) (body : Body) (s t : State) → AgreeWhereCovered sense s t → Certifies sense body s → (row : Row) → IsIn row (answers terms body s) → IsIn row (answers terms body t)
kept sense terms body s t agree certified row h =
    let found = IsIn-answers_from terms body s row h in
    let a : Assignment = assignment_of body found.0 in
    let there : Stands a body.atoms s = Stands-from_picks a body.atoms s (subst (λ p. IsIn p (picks body.atoms s)) (sym found.2) found.1) in
    let moved = Stands-moved sense body s t agree certified a found.3 there found.5 in
    let pick_in : IsIn found.0 (picks body.atoms t) = subst (λ p. IsIn p (picks body.atoms t)) found.2 (IsIn-picks a body.atoms t moved.0) in
    subst (λ r. IsIn r (answers terms body t)) found.4 (IsIn-answers terms body t found.0 pick_in found.2 found.3 moved.1)

pub IsAscending-answers : (terms : List Term) (body : Body) (s : State) → IsAscending (answers terms body s)
IsAscending-answers terms body s = IsAscending-ascending (filter_map (answer_of terms body s) (picks body.atoms s))

-- the answers over both states are the same
pub answers_same : (sense : Sense) (terms : List Term) (body : Body) (s t : State) → AgreeWhereCovered sense s t → Certifies sense body s → answers terms body s ≡ answers terms body t
answers_same sense terms body s t agree certified =
    ascending_same (answers terms body s) (answers terms body t) (IsAscending-answers terms body s) (IsAscending-answers terms body t)
    (kept sense terms body s t agree certified)
    (kept sense terms body t s (AgreeWhereCovered-sym sense s t agree) (Certifies-moved sense s t agree body certified))

pub list_any_from : {X : Type 0} (p : X → Bool) (xs : List X) → list_any p xs ≡ true → (x : X) × IsIn x xs × (p x ≡ true)
list_any_from p [] h = cc
list_any_from p (x ∷ xs) h =
    elim (or_cases (p x) (list_any p xs) h)
    [ inl e ↦ (x, inl refl, e) | inr k ↦ let q = list_any_from p xs k in (q.0, inr q.1, q.2) ]

pub list_any_of : {X : Type 0} (p : X → Bool) (x : X) (xs : List X) → IsIn x xs → p x ≡ true → list_any p xs ≡ true
list_any_of p x [] h e = absurd h
list_any_of p x (y ∷ xs) h e = elim h [ inl q ↦ or_left (p y) (list_any p xs) (ap p q ∙ e) | inr k ↦ or_right (p y) (list_any p xs) (list_any_of p x xs k e) ]

some_kept : (sense : Sense) (body : Body) (s t : State) → AgreeWhereCovered sense s t → Certifies sense body s → some_answer body s ≡ true → some_answer body t ≡ true
some_kept sense body s t agree certified h =
    let found = some_answer-true body s h in
    let a : Assignment = assignment_of body found.0 in
    let there : Stands a body.atoms s = Stands-from_picks a body.atoms s (subst (λ p. IsIn p (picks body.atoms s)) (sym found.2) found.1) in
    let moved = Stands-moved sense body s t agree certified a found.3 there found.4 in
    let pick_in : IsIn found.0 (picks body.atoms t) = subst (λ p. IsIn p (picks body.atoms t)) found.2 (IsIn-picks a body.atoms t moved.0) in
    some_answer_is body t found.0 pick_in found.2 found.3 moved.1

bool_same : (x y : Bool) → (x ≡ true → y ≡ true) → (y ≡ true → x ≡ true) → x ≡ y
bool_same true y f g = sym (f refl)
bool_same false true f g = g refl
bool_same false false f g = refl

-- whether there is an answer is the same over both
pub some_answer_same : (sense : Sense) (body : Body) (s t : State) → AgreeWhereCovered sense s t → Certifies sense body s → some_answer body s ≡ some_answer body t
some_answer_same sense body s t agree certified =
    bool_same (some_answer body s) (some_answer body t) (some_kept sense body s t agree certified)
    (some_kept sense body t s (AgreeWhereCovered-sym sense s t agree) (Certifies-moved sense s t agree body certified))

row_eq_itself : (row : Row) → row_eq row row ≡ true
row_eq_itself [] = refl
row_eq_itself (x ∷ row) = and_from _ _ (eq-eqb x x refl) (row_eq_itself row)

pub hit_row_covered : (sense : Sense) (hit : Hit) → IsIn hit sense.hits → covers sense hit.relation hit.row ≡ true
hit_row_covered sense hit h =
    or_right (list_any (λ gap. gap_covers gap hit.relation hit.row) sense.gaps) _
    (list_any_of (λ (other : Hit). hit_covers other hit.relation hit.row) hit sense.hits h (and_from _ _ (eq-eqb hit.relation hit.relation refl) (row_eq_itself hit.row)))

pub gap_row_covered : (sense : Sense) (gap : KeptGap) (row : Row) → IsIn gap sense.gaps → lies_in gap.prefix gap.lo gap.hi (permuted gap.columns row) ≡ true → covers sense gap.relation row ≡ true
gap_row_covered sense gap row h inside =
    or_left _ (list_any (λ hit. hit_covers hit gap.relation row) sense.hits)
    (list_any_of (λ (other : KeptGap). gap_covers other gap.relation row) gap sense.gaps h (and_from _ _ (eq-eqb gap.relation gap.relation refl) inside))

pub All_of : {X : Type 0} (P : X → Type 0) (xs : List X) → ((x : X) → IsIn x xs → P x) → AllByRecursion P xs
All_of P [] f = tt
All_of P (x ∷ xs) f = (f x (inl refl), All_of P xs (λ y h. f y (inr h)))

pub All_at : {X : Type 0} (P : X → Type 0) (xs : List X) (x : X) → AllByRecursion P xs → IsIn x xs → P x
All_at P [] x h k = absurd k
All_at P (y ∷ xs) x h k = elim k [ inl e ↦ subst P e h.0 | inr r ↦ All_at P xs x h.1 r ]

abbrev pub GapIsTight : State → KeptGap → Type 0
GapIsTight state gap = (row : Row) → Has state gap.relation row → lies_in gap.prefix gap.lo gap.hi (permuted gap.columns row) ≡ false

-- what is tight on the one state is tight on the other
pub IsTight-moved : (sense : Sense) (s t : State) → AgreeWhereCovered sense s t → IsTight sense s → IsTight sense t
IsTight-moved sense s t agree tight = record {
  gaps = All_of (GapIsTight t) sense.gaps (λ gap at row there.
      elim (cases_Bool (lies_in gap.prefix gap.lo gap.hi (permuted gap.columns row))) [
        | inl inside ↦ let no = All_at (GapIsTight s) sense.gaps gap tight.gaps at row ((agree gap.relation row (gap_row_covered sense gap row at inside)).1 there) in absurd (true≢false (sym inside ∙ no))
        | inr e ↦ e
      ]);
  hits = All_of (λ (hit : Hit). Has t hit.relation hit.row) sense.hits (λ hit at.
      (agree hit.relation hit.row (hit_row_covered sense hit at)).0 (All_at (λ (hit : Hit). Has s hit.relation hit.row) sense.hits hit tight.hits at));
}
