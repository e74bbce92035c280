-- What of a line was handed on stays the root effects of its first segments.
use Rattle.std.proofs.Common.{◌≡◌, ℕ, zero, suc, ◌+◌, ◌<◌, ◌≤◌, List, [], ◌∷◌, ◌++◌, length, Some, refl, sym, ap, ◌∙◌, subst, arith, append_assoc, append-nil}
use Rattle.lt_model.specs.declared.mark.Mark.{Mark}
use Rattle.lt_net.specs.Line.{line_net, placed, AreSizes, IsPast}
use Rattle.lt_net.specs.Net.{Effect, Event, State, IsReached, IsSettled, opening, replay}
use Rattle.lt_net.proofs.Lines.{front_past, front_same}
use Rattle.std.proofs.Common.{map}
use Rattle.lt_circuit.specs.Line.{LineView, line_event, line_state, IsLineReplay}
use Rattle.lt_circuit.specs.Row.{sizes}
use Rattle.lt_workers.specs.declared.basis.LineBasis.{LineBasis}
use Rattle.lt_workers.specs.Alone.{WentAlone}
use Rattle.lt_workers.specs.Given.{roots, Gives, GaveSome, HasGiven}
use Rattle.lt_workers.specs.Machines.{line_basis_of, line_net_of, line_pair_of, line_stand}
use Rattle.lt_circuit.specs.Shape.{IsLaterBy}
use Rattle.lt_turn.specs.Rule.{opening_view}
use Rattle.lt_turn.specs.declared.view.View.{View}
use Rattle.lt_workers.specs.Seen.{event_for, reached, IsStanding}
use Rattle.lt_workers.specs.Visit.{IsSame}
use Rattle.lt_workers.proofs.Machines.{line_standing}
use Rattle.lt_workers.proofs.Replays.{replay_parts, events_append}

-- nothing is past at first
pub given_none : (sizes : List ℕ) (before : List (List Mark)) (s : State) → HasGiven sizes before before 0 s
given_none sizes before s = record { within = omega arith; past = λ code small. absurd (omega arith); given = sym (append-nil before) }

-- what is past of more segments is of fewer
pub past_below : (s : State) (k end : ℕ) → k ≤ end → IsPast end s → IsPast k s
past_below s k end le past code small = past code (omega arith)

-- one segment more
pub given_next : (sizes : List ℕ) (before g g' : List (List Mark)) (k : ℕ) (s : State) → HasGiven sizes before g k s → k < length sizes → IsPast (k + 1) s
    → g' ≡ g ++ s.value (placed k (Effect 0)) ∷ [] → HasGiven sizes before g' (k + 1) s
given_next sizes before g g' k s h more past is =
    let next : suc k ≡ k + 1 = omega arith in
    record {
      within = omega arith;
      past = past;
      given = is ∙ (ap (λ l. l ++ s.value (placed k (Effect 0)) ∷ []) h.given ∙ (append_assoc before (roots s k) (s.value (placed k (Effect 0)) ∷ []) ∙ ap (λ n. before ++ roots s n) next));
    }

-- nothing more was taken
pub given_same : (sizes : List ℕ) (before g g' : List (List Mark)) (k : ℕ) (s : State) → HasGiven sizes before g k s → g' ≡ g → HasGiven sizes before g' k s
given_same sizes before g g' k s h is = record { within = h.within; past = h.past; given = is ∙ h.given }

-- in a settled line all segments are past
pub settled_past : (s : State) (end : ℕ) → IsSettled s → IsPast end s
settled_past s end settled code small = settled code

roots_same : (s t : State) (k : ℕ) → ((j : ℕ) → j < k → t.value (placed j (Effect 0)) ≡ s.value (placed j (Effect 0))) → roots s k ≡ roots t k
roots_same s t zero same = refl
roots_same s t (suc k) same = λ i. roots_same s t k (λ j less. same j (omega arith)) i ++ sym (same k (omega arith)) i ∷ []

-- later events change nothing of it
pub given_later : (effect : ℕ → List Mark → List Mark) (sizes : List ℕ) → AreSizes sizes → (events : List Event) (s : State) → IsReached (line_net effect sizes) events s
    → (later : List Event) (t : State) → replay (line_net effect sizes) (Some s) later ≡ Some t → (before g : List (List Mark)) (k : ℕ) → HasGiven sizes before g k s → HasGiven sizes before g k t
given_later effect sizes small events s reached later t goes before g k h = record {
  within = h.within;
  past = front_past effect sizes small events s reached later k t h.past goes;
  given = h.given ∙ ap (λ l. before ++ l) (roots_same s t k (front_same effect sizes small events s reached later k t h.past goes).roots);
}

-- so it stays while the journal goes on
pub given_on : {W : Type 0} (does : W → ℕ → List Mark → List Mark) (b : LineBasis W) → AreSizes b.sizes → (log more : List (ℕ × ℕ)) (s t : State)
    → reached (line_net_of does) (Some b) log ≡ Some s → reached (line_net_of does) (Some b) (log ++ more) ≡ Some t → (before g : List (List Mark)) (k : ℕ) → HasGiven b.sizes before g k s → HasGiven b.sizes before g k t
given_on does b small log more s t is goes before g k h =
    let net = line_net_of does b in
    let p = replay_parts net (opening net) t (map event_for log) (map event_for more) (ap (replay net (Some (opening net))) (sym (events_append log more)) ∙ goes) in
    let same : p.0 ≡ s = let e : Some p.0 ≡ Some s = sym p.1 ∙ is in cc in
    given_later (does b.work) b.sizes small (map event_for log) s is (map event_for more) t (ap (λ (u : State). replay net (Some u) (map event_for more)) (sym same) ∙ p.2) before g k h

module _ {W T : Type 0} (does : W → ℕ → List Mark → List Mark) (old new : LineView W T) where
  -- the line is a later one
  pub gives_on : line_basis_of new ≡ line_basis_of old → (more : List (ℕ × ℕ)) → map line_pair_of new.journal ≡ map line_pair_of old.journal ++ more → IsStanding (line_net_of does) (line_stand old) → IsStanding (line_net_of does) (line_stand new)
      → AreSizes (sizes old.row) → (g : List (List Mark)) (k : ℕ) → Gives (sizes old.row) (line_state old) (line_state new) g g k k
  gives_on basis more later is ends small g k before h =
      let goes = subst (λ (x : LineBasis W × List (ℕ × ℕ)). reached (line_net_of does) (Some x.0) x.1 ≡ Some (line_state new)) (λ i. (basis i, later i)) ends in
      given_on does (line_basis_of old) small (map line_pair_of old.journal) more (line_state old) (line_state new) is goes before g k h

  -- by one worker alone
  pub gives_later : IsLineReplay (does old.work) old.row old.journal → IsLineReplay (does new.work) new.row new.journal → new.work ≡ old.work → sizes new.row ≡ sizes old.row
      → IsLaterBy 0 (map line_event old.journal) (map line_event new.journal) → AreSizes (sizes old.row) → (g : List (List Mark)) (k : ℕ) → Gives (sizes old.row) (line_state old) (line_state new) g g k k
  gives_later is ends work same later small g k before h =
      let net = line_net (does old.work) (sizes old.row) in
      let goes = subst (λ (x : W × List ℕ × List Event). replay (line_net (does x.0) x.1) (Some (opening (line_net (does x.0) x.1))) x.2 ≡ Some (line_state new)) (λ i. (work i, same i, later.is i)) ends in
      let p = replay_parts net (opening net) (line_state new) (map line_event old.journal) later.more goes in
      let here : p.0 ≡ line_state old = let e : Some p.0 ≡ Some (line_state old) = sym p.1 ∙ is in cc in
      given_later (does old.work) (sizes old.row) small (map line_event old.journal) (line_state old) is later.more (line_state new) (ap (λ (u : State). replay net (Some u) later.more) (sym here) ∙ p.2) before g k h

  module _ (went : WentAlone (line_net_of does) (line_stand old) (line_stand new)) where
    pub went_work : new.work ≡ old.work
    went_work = ap (λ (b : LineBasis W). b.work) went.basis

    pub went_sizes : sizes new.row ≡ sizes old.row
    went_sizes = ap (λ (b : LineBasis W). b.sizes) went.basis

    pub gives_went : IsLineReplay (does old.work) old.row old.journal → AreSizes (sizes old.row) → (g : List (List Mark)) (k : ℕ) → Gives (sizes old.row) (line_state old) (line_state new) g g k k
    gives_went replayed small = let is = line_standing does old replayed in gives_on went.basis went.later.0 went.later.1 is (went.standing is) small

pub gives_then : (sizes sizes' : List ℕ) (s t u : State) (f g h : List (List Mark)) (i j k : ℕ) → sizes' ≡ sizes → Gives sizes s t f g i j → Gives sizes' t u g h j k → Gives sizes s u f h i k
gives_then sizes sizes' s t u f g h i j k same first second before x =
    subst (λ n. HasGiven n before h k u) same (second before (subst (λ n. HasGiven n before g j t) (sym same) (first before x)))

-- some was handed on
pub gave_some : {W T : Type 0} (does : W → ℕ → List Mark → List Mark) (l : LineView W T) (before g : List (List Mark)) (k : ℕ) → IsLineReplay (does l.work) l.row l.journal → HasGiven (sizes l.row) before g k (line_state l)
    → GaveSome (does l.work) (sizes l.row) before g
gave_some does l before g k replayed h = record { count = k; events = map event_for (map line_pair_of l.journal); state = line_state l; reached = line_standing does l replayed; gave = h }

-- and so it is where all was handed on of a later line, or what was to be
module _ {W T : Type 0} (does : W → ℕ → List Mark → List Mark) (old new : LineView W T) (work : new.work ≡ old.work) (same : sizes new.row ≡ sizes old.row) where
  pub gave_some_later : (before g : List (List Mark)) (k : ℕ) → IsLineReplay (does new.work) new.row new.journal → HasGiven (sizes old.row) before g k (line_state new) → GaveSome (does old.work) (sizes old.row) before g
  gave_some_later before g k replayed h =
      subst (λ (x : W × List ℕ). GaveSome (does x.0) x.1 before g) (λ i. (work i, same i)) (gave_some does new before g k replayed (subst (λ n. HasGiven n before g k (line_state new)) (sym same) h))

-- where as many segments were handed on as there are, all were
pub gave_all : (sizes : List ℕ) (before g : List (List Mark)) (k : ℕ) (s : State) → k ≡ length sizes → HasGiven sizes before g k s → g ≡ before ++ roots s (length sizes)
gave_all sizes before g k s is h = h.given ∙ ap (λ n. before ++ roots s n) is

-- a line that workers handed on
module _ {W T : Type 0} (does : W → ℕ → List Mark → List Mark) (old new : LineView W T) (v w : View (LineBasis W)) (workers : ℕ) (opened : v ≡ opening_view (line_basis_of old) (map line_pair_of old.journal) workers)
    (same : IsSame v w) (later : (rest : List (ℕ × ℕ)) × (w.seen ≡ v.seen ++ rest)) (opening_is : w.opening ≡ Some (line_basis_of new)) (journal_is : map line_pair_of new.journal ≡ w.seen) where
  pub closed_basis : line_basis_of new ≡ line_basis_of old
  closed_basis = let e : Some (line_basis_of new) ≡ Some (line_basis_of old) = sym opening_is ∙ (same.0 ∙ ap (λ (x : View (LineBasis W)). x.opening) opened) in cc

  pub closed_work : new.work ≡ old.work
  closed_work = ap (λ (b : LineBasis W). b.work) closed_basis

  pub closed_sizes : sizes new.row ≡ sizes old.row
  closed_sizes = ap (λ (b : LineBasis W). b.sizes) closed_basis
