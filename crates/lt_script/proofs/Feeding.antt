-- What a feed may answer, from where its parser stopped.
use Rattle.std.proofs.Common.{◌⊎◌, inl, inr, ◌≡◌, ℕ, Bool, true, false, List, [], ◌∷◌, ◌++◌, length, take, Some, refl, sym, ap, subst, ◌∙◌, append_assoc}
use Rattle.std.proofs.lemmas.List.{append-nil, append_cancel_left, map-append}
use Rattle.lt_model.specs.declared.syntax.Item.{Item}
use Rattle.lt_model.specs.Tokens as tokens
use Rattle.lt_model.specs.Tokens.{Shape, Token, Ending, Read, First, finished, broken, tokens_at}
use Rattle.lt_model.specs.Grammar.{formed, legal, semicolon, SpellsItem, Derives}
use Rattle.lt_model.specs.Faults.{Faulty}
use Rattle.lt_model.specs.Script as script
use Rattle.lt_script.specs.Pieces.{Leads, first_at}
use Rattle.lt_script.specs.Ahead.{Source, read_all, Place, ahead, shapes, passed_tokens, EndsSo, IsBehindSemicolon, IsUndecided, IsDecided, MayChange}
use Rattle.lt_script.specs.Taken.{Begins, HasFault, HaltsAt, at_token, cut, torn, Takes, Halts}
use Rattle.lt_script.specs.Feed as feed
use Rattle.lt_script.specs.Feed.{IsClosed, IsInside, IsFaultAt, inside, IsDecidedFault, WantsMore, Goes}
use Rattle.lt_script.proofs.Pieces.{leads_then, leads_token, torn_stays, tokens_first}
use Rattle.lt_script.proofs.Places.{parts, passed_more}
use Rattle.lt_script.proofs.Reading.{all_passed, EndsIn, reads_derived, ends, halted}
use Rattle.lt_script.proofs.Taking.{begins_none}
use Rattle.lt_script.proofs.Ends.{EndsWith, item_ends, LastToken, last_token}

abbrev read_of : List Token → Ending → Read
read_of ts ending = (ts, ending)

-- ---- one token less

-- tokens that lie inside an item do so without the last
begins_before : (us : List Shape) (t : Shape) → Begins (us ++ t ∷ []) → Begins us
begins_before us t h = λ done items d.
    let s = h done items d in
    let k = s.inside in
    record {
      done = done;
      parts = refl;
      derived = d;
      inside = (t, k.0 ∷ k.1, k.2, subst (SpellsItem formed k.2) (append_assoc us (t ∷ []) (k.0 ∷ k.1)) k.3);
      faultless = λ before u after code is. s.faultless before u (after ++ t ∷ []) code (sym (append_assoc done us (t ∷ [])) ∙ ap (λ (ws : List Shape). ws ++ t ∷ []) is ∙ append_assoc before (u ∷ after) (t ∷ []));
    }

-- ---- what stands next is decided

same_read : (x y : Read) → x.0 ≡ y.0 → x.1 ≡ y.1 → x ≡ y
same_read x y first second = ap (λ (ts : List Token). read_of ts x.1) first ∙ ap (λ (ending : Ending). read_of y.0 ending) second

decided_ahead : (q : Place) (k : IsDecided q) → ahead q ≡ tokens.more tokens_at k.line k.first
decided_ahead q k =
    let from : tokens_at k.line (k.tail ++ []) ≡ tokens_at k.line k.tail = ap (tokens_at k.line) (append-nil k.tail) in
    let all : tokens_at q.source.line (q.source.bytes ++ []) ≡ read_all q.source = ap (tokens_at q.source.line) (append-nil q.source.bytes) in
    let two : read_of (passed_tokens q ++ (ahead q).0) (ahead q).1 ≡ read_of (passed_tokens q ++ (tokens_at k.line (k.tail ++ [])).0) (tokens_at k.line (k.tail ++ [])).1 = sym (parts q) ∙ sym all ∙ k.leads [] in
    same_read (ahead q) (tokens_at k.line (k.tail ++ [])) (append_cancel_left (passed_tokens q) (ahead q).0 (tokens_at k.line (k.tail ++ [])).0 (ap (λ (r : Read). r.0) two)) (ap (λ (r : Read). r.1) two)
    ∙ from ∙ tokens_first k.line k.tail k.first k.is

-- a decided fault is the script's, whatever comes
fault_stays : (bytes : List ℕ) (items : List Item) (line code : ℕ) → IsFaultAt bytes items line code → (more : List ℕ) → script.Script (bytes ++ more) items (script.Fault line code)
fault_stays bytes items l n (feed.at_token before t after tail left code leads stops fault) more =
    script.faulty before t (tokens_at after (tail ++ more)).0 (tokens_at after (tail ++ more)).1 code items left
    (leads more ∙ ap (λ (us : List Token). read_of us (tokens_at after (tail ++ more)).1) (append_assoc before (t ∷ []) (tokens_at after (tail ++ more)).0)) stops fault
fault_stays bytes items l n (inside before line code tail left leads goes first stops) more =
    script.torn before line code items left
    (leads more ∙ ap (λ (r : Read). read_of (before ++ r.0) r.1) (torn_stays line code tail more first goes) ∙ ap (λ (us : List Token). read_of us (broken line code)) (append-nil before)) stops

-- ---- from the place before the first token of the bytes that are kept

module _ (bytes : List ℕ) (done : List Token) (items : List Item) (p : Place) (none : p.passed ≡ 0) (lead : Leads 1 bytes done p.source.line p.source.bytes) (d : Derives legal (script.shapes done) items) where
  -- the tokens of all bytes
  whole : EndsIn bytes done p.source
  whole = ap (tokens_at 1) (sym (append-nil bytes)) ∙ lead [] ∙ ap (λ (us : List ℕ). read_of (done ++ (tokens_at p.source.line us).0) (tokens_at p.source.line us).1) (append-nil p.source.bytes)

  derived : Derives legal (script.shapes (all_passed done p)) items
  derived =
      subst (λ (n : ℕ). Derives legal (script.shapes (done ++ take n (read_all p.source).0)) items) (sym none)
      (subst (λ (ts : List Token). Derives legal (script.shapes ts) items) (sym (append-nil done)) d)

  -- what was passed from there on
  passed_is : (q : Place) (us : List Shape) → q.source ≡ p.source → shapes p ≡ us ++ shapes q → script.shapes (passed_tokens q) ≡ us
  passed_is q us same h = passed_more p q us same h ∙ ap (λ (n : ℕ). script.shapes (take n (read_all p.source).0) ++ us) none

  leads_on : (ts : List Token) (q : Place) (after : ℕ) (left : List ℕ) → q.source ≡ p.source → Leads q.source.line q.source.bytes ts after left → Leads 1 bytes (done ++ ts) after left
  leads_on ts q after left same h =
      leads_then 1 p.source.line after bytes p.source.bytes left done ts lead (subst (λ (s : Source). Leads s.line s.bytes ts after left) same h)

  -- an item
  pub goes : (q : Place) (item : Item) (n after : ℕ) (left : List ℕ) → n ≡ length left → Takes p q item → IsBehindSemicolon q.source (passed_tokens q) after left → Goes done items p.source.line p.source.bytes item n after
  goes q item n after left long t ends_so =
      let passed : script.shapes (passed_tokens q) ≡ t.tokens = passed_is q t.tokens t.same t.parts in
      let e : EndsWith semicolon t.tokens = item_ends item t.tokens t.spelled in
      let k : LastToken semicolon (passed_tokens q) = last_token semicolon e.front (passed_tokens q) (passed ∙ e.is) in
      let b : EndsSo p.source (passed_tokens q) after left = subst (λ (s : Source). EndsSo s (passed_tokens q) after left) t.same (ends_so k.before k.last k.are k.is) in
      record {
        front = b.front;
        rest = left;
        long = long;
        parts = b.parts;
        tokens = passed_tokens q;
        leads = b.leads;
        spelled = subst (SpellsItem legal item) (sym passed) t.spelled;
        derived = reads_derived done p q items item derived t;
        within = t.within;
      }

  -- more is wanted
  undecided : (q : Place) (us : List Shape) → q.source ≡ p.source → script.shapes (passed_tokens q) ≡ us → Begins us → (u : IsUndecided q) → IsInside bytes items
  undecided q us same passed begins u = record {
    decided = done ++ u.before;
    line = u.line;
    tail = u.tail;
    leads = leads_on u.before q u.line u.tail same u.leads;
    goes = u.goes;
    left = script.shapes u.before;
    stops = subst (λ (vs : List Shape). script.Stops vs items (script.shapes u.before)) (sym (map-append (λ (t : Token). t.shape) done u.before)) (here u.before u.are (script.shapes done) items d);
  }
    where
      here : (before : List Token) → (passed_tokens q ≡ before) ⊎ ((last : Token) × (passed_tokens q ≡ before ++ last ∷ [])) → Begins (script.shapes before)
      here before (inl is) = subst Begins (sym passed ∙ ap (λ (ts : List Token). script.shapes ts) is) begins
      here before (inr (last, is)) =
          begins_before (script.shapes before) last.shape
          (subst Begins (sym passed ∙ ap (λ (ts : List Token). script.shapes ts) is ∙ map-append (λ (t : Token). t.shape) before (last ∷ [])) begins)

  pub more_behind : (q : Place) (line code : ℕ) → Halts p q line code → IsUndecided q → IsInside bytes items
  more_behind q line code h u = undecided q h.left h.same (passed_is q h.left h.same h.parts) h.begins u

  pub more_at_once : (q : Place) → q ≡ p → IsUndecided q → IsInside bytes items
  more_at_once q same u = undecided q [] (ap (λ (x : Place). x.source) same) (ap (λ (x : Place). script.shapes (passed_tokens x)) same ∙ ap (λ (n : ℕ). script.shapes (take n (read_all p.source).0)) none) begins_none u

  -- the end
  pub end_found : (q : Place) (ended : Bool) → WantsMore false ended q → (line : ℕ) × (ahead p ≡ ([], finished line)) × (q ≡ p) → (ended ≡ true) × script.Script bytes items script.End
  end_found q ended (inl is) h = (is, ends bytes done p items h.0 whole derived h.1)
  end_found q ended (inr k) h = absurd (go k.first (sym (subst (λ (x : Place). ahead x ≡ ([], finished h.0)) (sym h.2) h.1) ∙ decided_ahead q k))
    where
      go : (f : First) → read_of [] (finished h.0) ≡ tokens.more tokens_at k.line f → ⊥
      go (tokens.token s left) e = let none_first : [] ≡ (tokens.more tokens_at k.line (tokens.token s left)).0 = ap (λ (r : Read). r.0) e in absurd cc
      go (tokens.fault c) e = let other : finished h.0 ≡ broken k.line c = ap (λ (r : Read). r.1) e in absurd cc

  -- a fault that is decided
  fault_at : (q : Place) (line code : ℕ) (h : Halts p q line code) (k : IsDecided q) → IsFaultAt bytes items line code
  fault_at q line code h k = go k.first k.is (decided_ahead q k) line code h.at
    where
      passed : script.shapes (passed_tokens q) ≡ h.left
      passed = passed_is q h.left h.same h.parts

      all : script.shapes (all_passed done q) ≡ script.shapes done ++ h.left
      all = map-append (λ (t : Token). t.shape) done (passed_tokens q) ∙ ap (λ (us : List Shape). script.shapes done ++ us) passed

      stops : script.Stops (script.shapes (all_passed done q)) items h.left
      stops = subst (λ (us : List Shape). script.Stops us items h.left) (sym all) (h.begins (script.shapes done) items d)

      there : (t : Shape) (code : ℕ) → HasFault h.left t code → Faulty (script.shapes (all_passed done q)) t code
      there t code f = subst (λ (us : List Shape). Faulty us t code) (sym all) (f (script.shapes done) items d)

      go : (f : First) → first_at k.tail ≡ Some f → ahead q ≡ tokens.more tokens_at k.line f → (line code : ℕ) → HaltsAt h.left (ahead q) line code → IsFaultAt bytes items line code
      go (tokens.token s left) first a l n (at_token t others ending code is fault) =
          let same : t ∷ others ≡ record { shape = s; line = k.line } ∷ (tokens_at k.line left).0 = ap (λ (r : Read). r.0) (sym is ∙ a) in
          let token : record { shape = s; line = k.line } ≡ t = cc in
          feed.at_token (all_passed done q) t k.line left h.left code
          (subst (λ (u : Token). Leads 1 bytes (all_passed done q ++ u ∷ []) k.line left) token
          (leads_then 1 k.line k.line bytes k.tail left (all_passed done q) (record { shape = s; line = k.line } ∷ []) (leads_on (passed_tokens q) q k.line k.tail h.same k.leads) (leads_token k.line k.tail left s first k.stops)))
          stops (there t.shape code fault)
      go (tokens.fault c) first a l n (at_token t others ending code is fault) = let same : t ∷ others ≡ [] = ap (λ (r : Read). r.0) (sym is ∙ a) in absurd cc
      go (tokens.token s left) first a l n (cut line is some) = let same : [] ≡ record { shape = s; line = k.line } ∷ (tokens_at k.line left).0 = ap (λ (r : Read). r.0) (sym is ∙ a) in absurd cc
      go (tokens.fault c) first a l n (cut line is some) = let same : finished line ≡ broken k.line c = ap (λ (r : Read). r.1) (sym is ∙ a) in absurd cc
      go (tokens.token s left) first a l n (torn line code is) = let same : [] ≡ record { shape = s; line = k.line } ∷ (tokens_at k.line left).0 = ap (λ (r : Read). r.0) (sym is ∙ a) in absurd cc
      go (tokens.fault c) first a l n (torn line code is) =
          let same : broken line code ≡ broken k.line c = ap (λ (r : Read). r.1) (sym is ∙ a) in
          let on : k.line ≡ line = cc in
          let by : c ≡ code = cc in
          inside (all_passed done q) line code k.tail h.left (subst (λ (n : ℕ). Leads 1 bytes (all_passed done q) n k.tail) on (leads_on (passed_tokens q) q k.line k.tail h.same k.leads)) k.stops
          (subst (λ (n : ℕ). first_at k.tail ≡ Some (tokens.fault n)) by first) stops

  closed_now : (line code : ℕ) → script.Script bytes items (script.Fault line code) → IsClosed true bytes items (script.Fault line code)
  closed_now line code s = λ more is. subst (λ (us : List ℕ). script.Script us items (script.Fault line code)) (sym (append-nil bytes) ∙ ap (λ (us : List ℕ). bytes ++ us) (sym is)) s

  pub fault_found : (q : Place) (line code : ℕ) (ended : Bool) → WantsMore false ended q → Halts p q line code → IsClosed ended bytes items (script.Fault line code) × IsDecidedFault ended bytes items line code
  fault_found q line code true w h = (closed_now line code (halted bytes done p q items line code whole derived h), tt)
  fault_found q line code false (inl is) h = absurd cc
  fault_found q line code false (inr k) h = let f = fault_at q line code h k in ((λ more is. fault_stays bytes items line code f more), f)

-- whether more is wanted
pub wanted : (b ended : Bool) (p : Place) → ended ≡ false → MayChange b p → WantsMore b ended p
wanted true ended p is h = (is, h)
wanted false ended p is h = inr h
