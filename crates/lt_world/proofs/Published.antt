-- Versions that are published while a line of batches runs: one more each time.
use Rattle.std.proofs.Common.{◌≡◌, ◌∙◌, List, [], ◌∷◌, ◌++◌, length, map, refl, sym, ap, subst, append-nil, append_assoc}
use Rattle.std.specs.Prelude.{fold}
use Rattle.std.proofs.lemmas.List.{map-append}
use Rattle.std.proofs.lemmas.List.Sums.{fold-append}
use Rattle.lt_face.specs.State.{State}
use Rattle.lt_face.proofs.RowLemmas.{each_weaker}
use Rattle.lt_model.specs.Fits.{FitMarks, IsMarkOf}
use Rattle.lt_model.specs.Marks.{Marks, laid}
use Rattle.lt_program.proofs.Widths.{IsWide-laid}
use Rattle.lt_base.specs.Tables.{Table, state_of}
use Rattle.lt_batch.specs.Line.{states_by}
use Rattle.lt_world.specs.Publishing.{IsPublished}

states_more : (start : State) (given : List Marks) (marks : Marks) → states_by start (given ++ marks ∷ []) ≡ states_by start given ++ laid (fold laid start given) marks ∷ []
states_more start [] marks = refl
states_more start (m ∷ given) marks = ap (λ (ss : List State). laid start m ∷ ss) (states_more (laid start m) given marks)

-- nothing was published yet
pub published_none : (start : State) (before : List State) (database : List Table) (versions : List (List Table)) (given : List Marks) → given ≡ [] → state_of database ≡ start → map state_of versions ≡ before
    → IsPublished start before database versions given
published_none start before database versions given none here there =
    subst (IsPublished start before database versions) (sym none) (record { now = here; versions_are = there ∙ sym (append-nil before) })

-- one more was
pub published_more : (start : State) (before : List State) (database : List Table) (versions : List (List Table)) (given : List Marks) → IsPublished start before database versions given
    → (marks : Marks) (next : List Table) (later : List (List Table)) (all : List Marks) → state_of next ≡ laid (state_of database) marks → later ≡ versions ++ next ∷ [] → all ≡ given ++ marks ∷ []
    → IsPublished start before next later all
published_more start before database versions given p marks next later all left made kept =
    let now : state_of next ≡ laid (fold laid start given) marks = left ∙ ap (λ (s : State). laid s marks) p.now in
    subst (IsPublished start before next later) (sym kept) (record {
      now = now ∙ sym (fold-append laid start given (marks ∷ []));
      versions_are =
          ap (λ (vs : List (List Table)). map state_of vs) made
          ∙ map-append state_of versions (next ∷ [])
          ∙ ap (λ (ss : List State). ss ++ state_of next ∷ []) p.versions_are
          ∙ append_assoc before (states_by start given) (state_of next ∷ [])
          ∙ ap (λ (s : State). before ++ (states_by start given ++ s ∷ [])) now
          ∙ ap (λ (ss : List State). before ++ ss) (sym (states_more start given marks));
    })

-- what fits the database fits it with marks laid on it
pub fit_behind : (database next : List Table) (marks : Marks) → state_of next ≡ laid (state_of database) marks → (more : Marks) → FitMarks (state_of database) more → FitMarks (state_of next) more
fit_behind database next marks left more fit =
    subst (λ (s : State). FitMarks s more) (sym left)
    (each_weaker (IsMarkOf (state_of database)) (IsMarkOf (laid (state_of database) marks)) (λ m h. record { is_wide = IsWide-laid (state_of database) marks m.relation (length m.row) h.is_wide; has_cells = h.has_cells }) more fit)
