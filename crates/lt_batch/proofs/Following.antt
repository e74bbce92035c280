-- Entries one after another.
use Rattle.std.proofs.Common.{◌≡◌, ℕ, ◌+◌, ◌<◌, inl, inr, List, [], ◌∷◌, ◌++◌, Option, Some, None, map, length, take, drop, get_or, refl, sym, ap, ◌∙◌, subst}
use Rattle.std.specs.Prelude.{Err, IfErr, Result, slice_get}
use Rattle.std.proofs.lemmas.List.{map-append, take_more, take-append-drop}
use Rattle.std.proofs.lemmas.Option.{get_or_from_slice_get, slice_get-get_or, slice_get_within}
use Rattle.std.proofs.Math.Seq.{take-length}
use Rattle.lt_face.specs.Limits.{most_workers}
use Rattle.lt_face.proofs.RowLemmas.{each_at}
use Rattle.lt_model.specs.declared.mark.Mark.{Mark}
use Rattle.lt_net.specs.Net.{Net, State, IsSettled, opening, replay, step}
use Rattle.lt_net.proofs.Inside.{replay_end, replay_more}
use Rattle.lt_net.proofs.Runs.{replay_append}
use Rattle.lt_circuit.specs.Board.{table}
use Rattle.lt_circuit.specs.Circuit.{CircuitView, state}
use Rattle.lt_circuit.specs.Hands.{IsInHand}
use Rattle.lt_circuit.specs.Job.{JobView}
use Rattle.lt_circuit.specs.Shape.{Shape, shape, shape_net}
use Rattle.lt_circuit.proofs.Opening.{get_same, length-table}
use Rattle.lt_batch.specs.Held.{AreHeld, IsDone}
use Rattle.lt_batch.specs.Replaying.{IsFault, IsIllegal, LeadTo, told, written_of}
use Rattle.lt_batch.specs.declared.replaying.ReplayFault.{ReplayFault}
use Rattle.lt_batch.specs.declared.replaying.ReplayFault.TheVariants.{Entry as EntryFault, NoMemory}
use Rattle.lt_batch.specs.declared.replaying.Written.{Written}
use Rattle.lt_batch.proofs.InOrder.{each_end}
use Rattle.lt_batch.proofs.JobsInside.{none_goes}

-- one more that is legal
pub lead_more : (net : Net) (entries : List Written) (s t : State) (entry : Written) → LeadTo net entries s → entry.worker < most_workers → step net s (told entry) ≡ Some t
    → LeadTo net (entries ++ entry ∷ []) t
lead_more net entries s t entry h worker legal = record {
  workers = each_end (λ (e : Written). e.worker < most_workers) entries entry h.workers worker;
  reached =
      ap (replay net (Some (opening net))) (map-append told entries (entry ∷ []))
      ∙ replay_more net (map told entries) (opening net) s (told entry) h.reached
      ∙ replay_end net (step net s (told entry)) t legal;
}

-- what stands for an entry behind the last
abbrev pub no_written : Written
no_written = record { worker = 0; code = 0 }

-- these entries were done on the circuit, and led it here
pub record IsOnWay {W T : Type 0} (does : W → ℕ → List Mark → List Mark) (old new : CircuitView W T) (hands : List (Option (JobView W T))) (entries : List Written) : Type 0 where
  pub reached : LeadTo (shape_net (shape does old)) entries (state new)
  pub same : shape does new ≡ shape does old
  pub journal : map written_of new.journal ≡ entries
  pub held : AreHeld new hands

module _ {W T : Type 0} (does : W → ℕ → List Mark → List Mark) where
  pub way_begins : (c : CircuitView W T) (hands : List (Option (JobView W T))) → state c ≡ opening (shape_net (shape does c)) → c.journal ≡ [] → hands ≡ table (λ _. None) most_workers
      → IsOnWay does c c hands []
  way_begins c hands opens empty none =
      let nothing : Option (JobView W T) = None in
      let places : ℕ → Option (JobView W T) = λ k. None in
      record {
        reached = record { workers = tt; reached = ap (λ (s : State). Some s) (sym opens) };
        same = refl;
        journal = ap (map written_of) empty;
        held = record {
          long = ap length none ∙ length-table places most_workers;
          each = λ w below.
              subst (IsInHand c w) (sym (ap (λ xs. get_or xs w None) none ∙ get_same nothing most_workers w)) (ap (λ (s : State). s.claim w) opens);
        };
      }

  module _ (old c new : CircuitView W T) (hands left : List (Option (JobView W T))) (entries : List Written) (i : ℕ) (d : Written) (below : i < length entries) (way : IsOnWay does old c hands (take i entries)) where
    pub way_goes_on : IsDone does c new left (get_or entries i d) → IsOnWay does old new left (take (i + 1) entries)
    way_goes_on done =
        let entry = get_or entries i d in
        let more : take (i + 1) entries ≡ take i entries ++ get_or entries i d ∷ [] = take_more entries i d below in
        let legal : step (shape_net (shape does old)) (state c) (told (get_or entries i d)) ≡ Some (state new) =
        subst (λ (k : Shape W). step (shape_net k) (state c) (told (get_or entries i d)) ≡ Some (state new)) way.same done.legal in
        record {
          reached = subst (λ es. LeadTo (shape_net (shape does old)) es (state new)) (sym more)
              (lead_more (shape_net (shape does old)) (take i entries) (state c) (state new) entry way.reached done.worker legal);
          same = done.same ∙ way.same;
          journal = done.journal ∙ ap (λ es. es ++ get_or entries i d ∷ []) way.journal ∙ sym more;
          held = done.held;
        }

    pub way_ends : IsIllegal (shape_net (shape does c)) (state c) (get_or entries i d) → IsFault (shape_net (shape does old)) entries (i + 1)
    way_ends illegal = (
      i,
      state c,
      refl,
      way.reached,
      inl (get_or entries i d, slice_get-get_or entries i d below, subst (λ (k : Shape W). IsIllegal (shape_net k) (state c) (get_or entries i d)) way.same illegal),
    )

-- all are legal, and the state isn't settled
pub not_all : (net : Net) (entries : List Written) (s : State) → LeadTo net entries s → (IsSettled s → ⊥) → IsFault net entries (length entries + 1)
not_all net entries s h unsettled = (length entries, s, refl, subst (λ es. LeadTo net es s) (sym (take-length entries)) h, inr (refl, unsettled))

-- the first entries of which one isn't legal lead nowhere
nowhere : (net : Net) (entries : List Written) (s : State) (n : ℕ) (entry : Written) → slice_get entries n ≡ Some entry → LeadTo net (take n entries) s → step net s (told entry) ≡ None
    → replay net (Some (opening net)) (map told entries) ≡ None
nowhere net entries s n entry at h illegal =
    let below : n < length entries = slice_get_within entries n entry at in
    let more : take (n + 1) entries ≡ take n entries ++ entry ∷ [] = take_more entries n entry below ∙ ap (λ e. take n entries ++ e ∷ []) (get_or_from_slice_get entries n entry entry at) in
    let first : replay net (Some (opening net)) (map told (take (n + 1) entries)) ≡ None =
    ap (λ es. replay net (Some (opening net)) (map told es)) more
    ∙ ap (replay net (Some (opening net))) (map-append told (take n entries) (entry ∷ []))
    ∙ replay_more net (map told (take n entries)) (opening net) s (told entry) h.reached
    ∙ ap (λ o. replay net o []) illegal ∙ none_goes net [] in
    ap (λ es. replay net (Some (opening net)) (map told es)) (sym (take-append-drop (n + 1) entries))
    ∙ ap (replay net (Some (opening net))) (map-append told (take (n + 1) entries) (drop (n + 1) entries))
    ∙ replay_append net (map told (take (n + 1) entries)) (map told (drop (n + 1) entries)) (Some (opening net))
    ∙ ap (λ o. replay net o (map told (drop (n + 1) entries))) first
    ∙ none_goes net (map told (drop (n + 1) entries))

-- entries that lead to a settled state have no fault
pub faultless : (net : Net) (entries : List Written) (s : State) → LeadTo net entries s → IsSettled s → (e : ℕ) → IsFault net entries e → ⊥
faultless net entries s h settled e fault = elim fault.4 [
  | inl f ↦
      let below : fault.0 < length entries = slice_get_within entries fault.0 f.0 f.1 in
      let small : f.0.worker < most_workers = subst (λ (w : Written). w.worker < most_workers) (get_or_from_slice_get entries fault.0 f.0 f.0 f.1)
      (each_at (λ (w : Written). w.worker < most_workers) entries fault.0 f.0 h.workers below) in
      let none : None ≡ Some s = sym (nowhere net entries fault.1 fault.0 f.0 f.1 fault.3 (f.2 small)) ∙ h.reached in
      cc
  | inr f ↦
      let whole : take fault.0 entries ≡ entries = ap (λ n. take n entries) f.0 ∙ take-length entries in
      let two : Some fault.1 ≡ Some s = sym fault.3.reached ∙ ap (λ es. replay net (Some (opening net)) (map told es)) whole ∙ h.reached in
      let same : fault.1 ≡ s = cc in
      f.1 (subst IsSettled (sym same) settled)
]

-- ---- what a fault says

pub no_entry : (net : Net) (entries : List Written) (fault : ReplayFault) → fault ≡ NoMemory → (e : ℕ) → fault ≡ EntryFault e → IsFault net entries e
no_entry net entries fault is e h = let f : NoMemory ≡ EntryFault e = sym is ∙ h in cc

pub this_entry : (net : Net) (entries : List Written) (n : ℕ) → IsFault net entries n → (e : ℕ) → EntryFault n ≡ EntryFault e → IsFault net entries e
this_entry net entries n is e h = let f : n ≡ e = cc in subst (IsFault net entries) f is

pub moved_fault : (net other : Net) (entries : List Written) (fault : ReplayFault) → net ≡ other → ((e : ℕ) → fault ≡ EntryFault e → IsFault net entries e) → (e : ℕ) → fault ≡ EntryFault e → IsFault other entries e
moved_fault net other entries fault same told e is = subst (λ (n : Net). IsFault n entries e) same (told e is)

pub fails : {T : Type 0} (net : Net) (entries : List Written) (r : Result T ReplayFault) (fault : ReplayFault) → r ≡ Err fault → ((e : ℕ) → fault ≡ EntryFault e → IsFault net entries e)
    → IfErr r (λ f. (e : ℕ) → f ≡ EntryFault e → IsFault net entries e)
fails {T} net entries r fault is told = subst (λ (x : Result T ReplayFault). IfErr x (λ f. (e : ℕ) → f ≡ EntryFault e → IsFault net entries e)) (sym is) told
