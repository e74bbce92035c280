-- What a seat has seen of what is final of a line.
use Rattle.std.proofs.Common.{◌≡◌, ℕ, ◌+◌, ◌<◌, List, [], ◌∷◌, ◌++◌, map, length, Option, Some, None, Result, Ok, Err, arith, refl, sym, ap, ◌∙◌, subst, append_assoc, append-nil}
use Rattle.std.specs.Prelude.{IfNone, IfOk, IfSome}
use mathlib.Core.Logic.{dite}
use native.Mathlib.Decide.{dec_le}
use Rattle.lt_model.specs.declared.mark.Mark.{Mark}
use Rattle.lt_net.specs.Line.{AreSizes, IsPast}
use Rattle.lt_net.specs.Net.{State, opening}
use Rattle.lt_circuit.specs.Line.{LineView, line_state}
use Rattle.lt_circuit.specs.Row.{sizes}
use Rattle.lt_turn.specs.Journal.{Extends}
use Rattle.lt_turn.specs.Rule.{below, joined}
use Rattle.lt_turn.specs.declared.view.View.{View}
use Rattle.lt_workers.specs.declared.basis.LineBasis.{LineBasis}
use Rattle.lt_workers.specs.declared.driving.Ended.TheVariants.{Settled}
use Rattle.lt_workers.specs.Driven.{Continues, EndsAt}
use Rattle.lt_workers.specs.Given.{GivesOn, HasGiven, HasSeenGiven, IsAhead, IsFinal, IsPassed}
use Rattle.lt_workers.specs.Machines.{line_basis_of, line_net_of, line_pair_of, line_stand}
use Rattle.lt_workers.specs.Seen.{reached, IsOfBasis, IsStanding, Knows}
use Rattle.lt_workers.proofs.Finals.{given_next, given_none, given_on, settled_past}

-- what is so of each thing that was found
on_some : {A : Type 0} (P Q R : A → Type 0) → ((x : A) → P x → Q x → R x) → (found : Option A) → IfSome found P → IfSome found Q → IfSome found R
on_some P Q R both (Some x) p q = both x p q
on_some P Q R both None p q = tt

pub on_found : {A E : Type 0} (P Q R : A → Type 0) → ((x : A) → P x → Q x → R x) → (found : Result (Option A) E) → IfOk found (λ o. IfSome o P) → IfOk found (λ o. IfSome o Q) → IfOk found (λ o. IfSome o R)
on_found P Q R both (Ok o) p q = on_some P Q R both o p q
on_found P Q R both (Err e) p q = tt

-- what is so where nothing was found
on_none : {A : Type 0} (P Q : Type 0) → (P → Q) → (found : Option A) → IfNone found P → IfNone found Q
on_none P Q so (Some x) p = tt
on_none P Q so None p = so p

pub on_missing : {A E : Type 0} (P Q : Type 0) → (P → Q) → (found : Result (Option A) E) → IfOk found (λ o. IfNone o P) → IfOk found (λ o. IfNone o Q)
on_missing P Q so (Ok o) p = on_none P Q so o p
on_missing P Q so (Err e) p = tt

-- all seats of a turn have the same in common
pub basis_on : {B : Type 0} (v w : View B) (is_of : B → Type 0) → w.opening ≡ v.opening → IsOfBasis v is_of → IsOfBasis w is_of
basis_on v w is_of same is b opened = is b (sym same ∙ opened)

pub basis_is : {B : Type 0} (v : View B) (c : B) (is_of : B → Type 0) → v.opening ≡ Some c → is_of c → IsOfBasis v is_of
basis_is {B} v c is_of opened is b known =
    let e : Some c ≡ Some b = sym opened ∙ known in
    let same : c ≡ b = cc in
    subst is_of same is

module _ {W : Type 0} (does : W → ℕ → List Mark → List Mark) where
  -- what was handed on when the seat had seen less
  pub seen_on : (v w : View (LineBasis W)) → w.opening ≡ v.opening → (rest : List (ℕ × ℕ)) × (w.seen ≡ v.seen ++ rest) → (before g : List (List Mark)) (k : ℕ) → HasSeenGiven does v before g k → HasSeenGiven does w before g k
  seen_on v w same later before g k h = record {
    basis = h.basis;
    log = h.log;
    rest = h.rest ++ later.0;
    state = h.state;
    opening = same ∙ h.opening;
    seen = later.1 ∙ (ap (λ (l : List (ℕ × ℕ)). l ++ later.0) h.seen ∙ append_assoc h.log h.rest later.0);
    reaches = h.reaches;
    gave = h.gave;
  }

  -- nothing more was handed on
  pub seen_same : (v : View (LineBasis W)) (before g g' : List (List Mark)) (k : ℕ) → g' ≡ g → HasSeenGiven does v before g k → HasSeenGiven does v before g' k
  seen_same v before g g' k is h = subst (λ x. HasSeenGiven does v before x k) (sym is) h

  -- nothing was handed on at first
  pub seen_none : (v : View (LineBasis W)) (b : LineBasis W) (before : List (List Mark)) → v.opening ≡ Some b → HasSeenGiven does v before before 0
  seen_none v b before opened = record {
    basis = b;
    log = [];
    rest = v.seen;
    state = opening (line_net_of does b);
    opening = opened;
    seen = refl;
    reaches = refl;
    gave = given_none b.sizes before (opening (line_net_of does b));
  }

  -- what was handed on in the state that the seat knows
  pub seen_now : (v : View (LineBasis W)) (b : LineBasis W) (s : State) (before g : List (List Mark)) (k : ℕ) → v.opening ≡ Some b → Knows (line_net_of does) v s → HasGiven b.sizes before g k s → HasSeenGiven does v before g k
  seen_now v b s before g k opened known gave = record {
    basis = b;
    log = v.seen;
    rest = [];
    state = s;
    opening = opened;
    seen = sym (append-nil v.seen);
    reaches = subst (λ (o : Option (LineBasis W)). reached (line_net_of does) o v.seen ≡ Some s) opened known;
    gave = gave;
  }

  -- so it was handed on in each state that the seat knows
  pub given_there : (v : View (LineBasis W)) (b : LineBasis W) (log : List (ℕ × ℕ)) (s : State) (before g : List (List Mark)) (k : ℕ) → v.opening ≡ Some b → log ≡ v.seen → AreSizes b.sizes → reached (line_net_of does) (Some b) log ≡ Some s
      → HasSeenGiven does v before g k → HasGiven b.sizes before g k s
  given_there v b log s before g k opened logged small known h =
      let e : Some h.basis ≡ Some b = sym h.opening ∙ opened in
      let same : h.basis ≡ b = cc in
      let reaches = subst (λ (x : LineBasis W). reached (line_net_of does) (Some x) h.log ≡ Some h.state) same h.reaches in
      let gave = subst (λ (x : LineBasis W). HasGiven x.sizes before g k h.state) same h.gave in
      let goes = subst (λ (l : List (ℕ × ℕ)). reached (line_net_of does) (Some b) l ≡ Some s) (logged ∙ h.seen) known in
      given_on does b small h.log h.rest h.state s reaches goes before g k gave

  -- one segment more, which the seat has seen to be past
  pub seen_next : (fits : W → List Mark → Type 0) (v : View (LineBasis W)) (before g g' : List (List Mark)) (m : List Mark) (k : ℕ) → IsFinal does fits v k m → g' ≡ g ++ m ∷ [] → HasSeenGiven does v before g k → HasSeenGiven does v before g' (k + 1)
  seen_next fits v before g g' m k f is h =
      let now = given_there v f.basis v.seen f.state before g k f.opening refl f.small f.known h in
      record {
        basis = f.basis;
        log = v.seen;
        rest = [];
        state = f.state;
        opening = f.opening;
        seen = sym (append-nil v.seen);
        reaches = f.known;
        gave = given_next f.basis.sizes before g g' k f.state now f.passed.within f.passed.past (is ∙ ap (λ x. g ++ x ∷ []) f.passed.value);
      }

  -- the effect of a segment that is past in the line that the seat gave back
  pub final_of : {T : Type 0} (fits : W → List Mark → Type 0) (v : View (LineBasis W)) (l : LineView W T) → v.opening ≡ Some (line_basis_of l) → v.seen ≡ map line_pair_of l.journal → IsStanding (line_net_of does) (line_stand l) → AreSizes (sizes l.row)
      → (segment : ℕ) (m : List Mark) → IsPassed (sizes l.row) (line_state l) segment m → fits l.work m → IsFinal does fits v segment m
  final_of fits v l opened seen stands small segment m passed fit = record {
    basis = line_basis_of l;
    state = line_state l;
    opening = opened;
    known = subst (λ (log : List (ℕ × ℕ)). reached (line_net_of does) (Some (line_basis_of l)) log ≡ Some (line_state l)) (sym seen) stands;
    small = small;
    passed = passed;
    fit = fit;
  }

  -- and a segment that isn't past in it
  pub ahead_of : {T : Type 0} (v : View (LineBasis W)) (l : LineView W T) → v.opening ≡ Some (line_basis_of l) → Knows (line_net_of does) v (line_state l)
      → (segment : ℕ) → (segment < length (sizes l.row) → IsPast (segment + 1) (line_state l) → ⊥) → IsAhead does v segment
  ahead_of v l opened stands segment not s known b also less past =
      let e : Some (line_basis_of l) ≡ Some b = sym opened ∙ also in
      let same : line_basis_of l ≡ b = cc in
      let f : Some (line_state l) ≡ Some s = sym stands ∙ known in
      let here : line_state l ≡ s = cc in
      not (subst (λ (x : LineBasis W). segment < length x.sizes) (sym same) less) (subst (λ (u : State). IsPast (segment + 1) u) (sym here) past)

  -- in a settled line none is ahead, so all were handed on
  pub all_on : (v : View (LineBasis W)) (before g : List (List Mark)) (k end : ℕ) → EndsAt (line_net_of does) v Settled → IsOfBasis v (λ (b : LineBasis W). end ≡ length b.sizes) → (k < end → IsAhead does v k) → HasSeenGiven does v before g k → k ≡ end
  all_on v before g k end ends long ahead h =
      let is : end ≡ length h.basis.sizes = long h.basis h.opening in
      let within = h.gave.within in
      dite (dec_le end k)
      (λ le. omega (arith, le, is, within))
      (λ not. let less : k < end = omega (arith, not) in let there : k < length h.basis.sizes = omega (arith, less, is) in absurd (ahead less ends.0 ends.1 h.basis h.opening there (settled_past ends.0 (k + 1) ends.2)))

  -- ---- while the seat goes on

  pub gives_same : (v : View (LineBasis W)) (g : List (List Mark)) (k : ℕ) → GivesOn does v v g g k k
  gives_same v g k before h = h

  pub gives_while : (u v w : View (LineBasis W)) (f g : List (List Mark)) (i k : ℕ) → Continues (line_net_of does) v w → GivesOn does u v f g i k → GivesOn does u w f g i k
  gives_while u v w f g i k x gives before h = seen_on v w x.same.0 x.later before g k (gives before h)

  pub gives_more : (u v w : View (LineBasis W)) (f g h : List (List Mark)) (i j k : ℕ) → GivesOn does u v f g i j → GivesOn does v w g h j k → GivesOn does u w f h i k
  gives_more u v w f g h i j k first second before x = second before (first before x)

  pub gives_next : (fits : W → List Mark → Type 0) (u v w : View (LineBasis W)) (f g g' : List (List Mark)) (m : List Mark) (i k n : ℕ) → k ≡ n → Continues (line_net_of does) v w → IsFinal does fits w n m → g' ≡ g ++ m ∷ [] → GivesOn does u v f g i k → GivesOn does u w f g' i (n + 1)
  gives_next fits u v w f g g' m i k n here x final is gives before h =
      seen_next fits w before g g' m n final is (subst (λ a. HasSeenGiven does w before g a) here (seen_on v w x.same.0 x.later before g k (gives before h)))

  pub gives_refused : (u v w : View (LineBasis W)) (f g g' : List (List Mark)) (i k : ℕ) → Continues (line_net_of does) v w → g' ≡ g → GivesOn does u v f g i k → GivesOn does u w f g' i k
  gives_refused u v w f g g' i k x is gives before h = seen_same w before g g' k is (seen_on v w x.same.0 x.later before g k (gives before h))

  -- two parts are one seat again, of which the first handed on
  pub gives_joined : (u v v' w' j : View (LineBasis W)) (at : ℕ) (f g : List (List Mark)) (i k : ℕ) → v ≡ below at u → j ≡ joined v' w' → Extends v'.first v'.end v'.seen j.seen → GivesOn does v v' f g i k → GivesOn does u j f g i k
  gives_joined u v v' w' j at f g i k low is extends gives before h =
      let parted = seen_on u v (ap (λ (x : View (LineBasis W)). x.opening) low) ([], ap (λ (x : View (LineBasis W)). x.seen) low ∙ sym (append-nil u.seen)) before f i h in
      seen_on v' j (ap (λ (x : View (LineBasis W)). x.opening) is) (extends.0, extends.1) before g k (gives before parted)
