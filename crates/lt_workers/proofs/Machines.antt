-- A circuit and a line as machines that workers hand on.
use Rattle.std.proofs.Common.{◌≡◌, ◌≢◌, ℕ, List, [], ◌∷◌, ◌++◌, map, Option, Some, None, true, false, inl, inr, refl, sym, ap, ◌∙◌}
use Rattle.std.proofs.lemmas.List.{map-append}
use Rattle.lt_model.specs.declared.mark.Mark.{Mark}
use Rattle.lt_net.specs.declared.job.JobName.{JobName}
use Rattle.lt_net.specs.declared.job.JobState.TheVariants.{Clean}
use Rattle.lt_net.specs.Alone.{IsUnclaimed}
use Rattle.lt_net.specs.Codes.{code_of}
use Rattle.lt_net.specs.Kept.{IsKept}
use Rattle.lt_net.specs.Line.{line_net, AreSizes}
use Rattle.lt_net.specs.Net.{Net, State, Claim as NetClaim, is_held, replay, opening, IsSettled, abandoned, finished}
use Rattle.lt_net.proofs.Kept.{update_same}
use Rattle.lt_net.proofs.Lines.{line_kept}
use Rattle.lt_net.proofs.Serial.{reached_kept}
use Rattle.lt_circuit.specs.declared.claim.Claim.{Claim}
use Rattle.lt_circuit.specs.declared.claim.Claim.TheVariants.{Job, Busy, Settled, NoMemory}
use Rattle.lt_circuit.specs.declared.entry.Entry.{Entry}
use Rattle.lt_circuit.specs.declared.entry.Event.{Event as Kind}
use Rattle.lt_circuit.specs.declared.entry.Event.TheVariants.{Abandon}
use Rattle.lt_circuit.specs.declared.line.LineEntry.{LineEntry}
use Rattle.lt_circuit.specs.Entry.{entry_code, event_of}
use Rattle.lt_circuit.specs.Circuit.{CircuitView, state, IsReplay}
use Rattle.lt_circuit.specs.Claiming.{IsAnswer, IsCoded}
use Rattle.lt_circuit.specs.Job.{JobView, claim_of_job}
use Rattle.lt_circuit.specs.Line.{LineView, line_entry_code, line_event, line_state, IsLineReplay}
use Rattle.lt_circuit.specs.LineClaiming.{IsLineAnswer, IsLineCoded}
use Rattle.lt_circuit.specs.LineJob.{claim_of_line_job}
use Rattle.lt_circuit.specs.Row.{sizes}
use Rattle.lt_circuit.proofs.Entries.{event_told, line_event_told}
use Rattle.lt_workers.specs.Seen.{event_for, GaveUp, IsMove, IsStanding}
use Rattle.lt_workers.specs.Visit.{IsGiven}
use Rattle.lt_workers.specs.Machines.{pair_of, pairs_of, basis_of, circuit_stand, net_of, line_pair_of, line_basis_of, line_stand, line_net_of}

-- in a settled machine no claim stands
settled_unclaimed : (net : Net) (s : State) → IsKept net s → IsSettled s → IsUnclaimed s
settled_unclaimed net s kept settled w = by_claim (s.claim w) refl
  where
    by_claim : (o : Option NetClaim) → s.claim w ≡ o → s.claim w ≡ None
    by_claim None e = e
    by_claim (Some c) e = let h : is_held (s.status c.job) ≡ true = kept.held w c e in let clean : s.status c.job ≡ Clean = settled c.job in let f : false ≡ true = sym (ap is_held clean) ∙ h in absurd (cc)

pub finished_free : (net : Net) (s t : State) (w : ℕ) (c : NetClaim) → t ≡ finished net s w c → t.claim w ≡ None
finished_free net s t w c is = ap (λ (x : State). x.claim w) is ∙ update_same s.claim w None

pub abandoned_free : (s t : State) (w : ℕ) (c : NetClaim) → t ≡ abandoned s w c → t.claim w ≡ None
abandoned_free s t w c is = ap (λ (x : State). x.claim w) is ∙ update_same s.claim w None

-- ---- a circuit

-- the events of a journal's codes are those of its entries
events_are : (es : List Entry) → map event_for (map pair_of es) ≡ map event_of es
events_are [] = refl
events_are (e ∷ es) = λ i. event_told e i ∷ events_are es i

module _ {W T : Type 0} (does : W → ℕ → List Mark → List Mark) where
  pub circuit_standing : (c : CircuitView W T) → IsReplay (does c.work) c.board c.journal → IsStanding (net_of does) (circuit_stand c)
  circuit_standing c is = ap (replay (net_of does (basis_of c)) (Some (opening (net_of does (basis_of c))))) (events_are c.journal) ∙ is

  -- one entry more
  pub circuit_moved : (old new : CircuitView W T) (worker : ℕ) (job : JobName) (event : Kind) → IsReplay (does old.work) old.board old.journal → IsReplay (does new.work) new.board new.journal
      → new.work ≡ old.work → new.board.leaves ≡ old.board.leaves → new.journal ≡ old.journal ++ record { worker = worker; job = job; event = event } ∷ []
      → ((v : ℕ) → v ≢ worker → (state new).claim v ≡ (state old).claim v) → IsMove (net_of does) worker (circuit_stand old) (circuit_stand new)
  circuit_moved old new worker job event before after work leaves is others =
      let e : Entry = record { worker = worker; job = job; event = event } in
      record {
        before = circuit_standing old before;
        after = circuit_standing new after;
        basis = λ i. record { work = work i; leaves = leaves i };
        grew = inr (entry_code e, ap (map pair_of) is ∙ map-append pair_of old.journal (e ∷ []));
        others = others;
      }

  circuit_still : (old new : CircuitView W T) (worker : ℕ) → IsReplay (does old.work) old.board old.journal → IsReplay (does new.work) new.board new.journal → new ≡ old → IsMove (net_of does) worker (circuit_stand old) (circuit_stand new)
  circuit_still old new worker before after same = record {
    before = circuit_standing old before;
    after = circuit_standing new after;
    basis = ap (λ (c : CircuitView W T). basis_of c) same;
    grew = inl (ap (λ (c : CircuitView W T). pairs_of c) same);
    others = λ v other. ap (λ (c : CircuitView W T). (state c).claim v) same;
  }

  pub circuit_asked : (old new : CircuitView W T) (worker : ℕ) (answer : Claim (JobView W T)) → IsReplay (does old.work) old.board old.journal → IsReplay (does new.work) new.board new.journal
      → IsAnswer (does old.work) old new worker answer → IsMove (net_of does) worker (circuit_stand old) (circuit_stand new)
  circuit_asked old new worker (Job job) before after is = circuit_moved old new worker _ _ before after is.work is.leaves is.journal is.others
  circuit_asked old new worker (Busy n) before after is = circuit_still old new worker before after is.0
  circuit_asked old new worker Settled before after is = circuit_still old new worker before after is.0
  circuit_asked old new worker NoMemory before after is = circuit_still old new worker before after is

  pub circuit_given : (old new : CircuitView W T) (worker : ℕ) (answer : Claim (JobView W T)) → IsReplay (does old.work) old.board old.journal → (state old).claim worker ≡ None
      → IsAnswer (does old.work) old new worker answer → IsCoded answer → IsGiven claim_of_job (λ b (job : JobView W T). job.work ≡ b.work) (circuit_stand new) worker answer
  circuit_given old new worker (Job job) before free is coded = (is.held, is.of_work ∙ sym is.work, coded)
  circuit_given old new worker (Busy n) before free is coded = ap (λ (c : CircuitView W T). (state c).claim worker) is.0 ∙ free
  circuit_given old new worker Settled before free is coded =
      let kept = reached_kept (does old.work) old.board.leaves (map event_of old.journal) (state old) before in (
        (λ j. ap (λ (c : CircuitView W T). (state c).status j) is.0 ∙ is.1 j),
        (λ w. ap (λ (c : CircuitView W T). (state c).claim w) is.0 ∙ settled_unclaimed (net_of does (basis_of old)) (state old) kept is.1 w),
      )
  circuit_given old new worker NoMemory before free is coded = ap (λ (c : CircuitView W T). (state c).claim worker) is ∙ free

pub circuit_gave_up : {W T : Type 0} (old new : CircuitView W T) (worker : ℕ) (job : JobName) → new.journal ≡ old.journal ++ record { worker = worker; job = job; event = Abandon } ∷ [] → GaveUp worker (circuit_stand old) (circuit_stand new)
circuit_gave_up old new worker job is =
    let e : Entry = record { worker = worker; job = job; event = Abandon } in
    (entry_code e, code_of job, ap (map pair_of) is ∙ map-append pair_of old.journal (e ∷ []), event_told e)

-- ---- a line

line_events_are : (es : List LineEntry) → map event_for (map line_pair_of es) ≡ map line_event es
line_events_are [] = refl
line_events_are (e ∷ es) = λ i. line_event_told e i ∷ line_events_are es i

module _ {W T : Type 0} (does : W → ℕ → List Mark → List Mark) where
  pub line_standing : (l : LineView W T) → IsLineReplay (does l.work) l.row l.journal → IsStanding (line_net_of does) (line_stand l)
  line_standing l is = ap (replay (line_net_of does (line_basis_of l)) (Some (opening (line_net_of does (line_basis_of l))))) (line_events_are l.journal) ∙ is

  -- one entry more
  pub line_moved : (old new : LineView W T) (worker job : ℕ) (event : Kind) → IsLineReplay (does old.work) old.row old.journal → IsLineReplay (does new.work) new.row new.journal
      → new.work ≡ old.work → sizes new.row ≡ sizes old.row → new.journal ≡ old.journal ++ record { worker = worker; job = job; event = event } ∷ []
      → ((v : ℕ) → v ≢ worker → (line_state new).claim v ≡ (line_state old).claim v) → IsMove (line_net_of does) worker (line_stand old) (line_stand new)
  line_moved old new worker job event before after work leaves is others =
      let e : LineEntry = record { worker = worker; job = job; event = event } in
      record {
        before = line_standing old before;
        after = line_standing new after;
        basis = λ i. record { work = work i; sizes = leaves i };
        grew = inr (line_entry_code e, ap (map line_pair_of) is ∙ map-append line_pair_of old.journal (e ∷ []));
        others = others;
      }

  line_still : (old new : LineView W T) (worker : ℕ) → IsLineReplay (does old.work) old.row old.journal → IsLineReplay (does new.work) new.row new.journal → new ≡ old → IsMove (line_net_of does) worker (line_stand old) (line_stand new)
  line_still old new worker before after same = record {
    before = line_standing old before;
    after = line_standing new after;
    basis = ap (λ (l : LineView W T). line_basis_of l) same;
    grew = inl (ap (λ (l : LineView W T). map line_pair_of l.journal) same);
    others = λ v other. ap (λ (l : LineView W T). (line_state l).claim v) same;
  }

  pub line_asked : (old new : LineView W T) (worker : ℕ) (answer : Claim (JobView W T)) → IsLineReplay (does old.work) old.row old.journal → IsLineReplay (does new.work) new.row new.journal
      → IsLineAnswer (does old.work) old new worker answer → IsMove (line_net_of does) worker (line_stand old) (line_stand new)
  line_asked old new worker (Job job) before after is = line_moved old new worker _ _ before after is.work is.leaves is.journal is.others
  line_asked old new worker (Busy n) before after is = line_still old new worker before after is.0
  line_asked old new worker Settled before after is = line_still old new worker before after is.0
  line_asked old new worker NoMemory before after is = line_still old new worker before after is

  pub line_given : (old new : LineView W T) (worker : ℕ) (answer : Claim (JobView W T)) → AreSizes (sizes old.row) → IsLineReplay (does old.work) old.row old.journal → (line_state old).claim worker ≡ None
      → IsLineAnswer (does old.work) old new worker answer → IsLineCoded answer → IsGiven claim_of_line_job (λ b (job : JobView W T). job.work ≡ b.work) (line_stand new) worker answer
  line_given old new worker (Job job) small before free is coded = (is.held, is.of_work ∙ sym is.work, coded)
  line_given old new worker (Busy n) small before free is coded = ap (λ (l : LineView W T). (line_state l).claim worker) is.0 ∙ free
  line_given old new worker Settled small before free is coded =
      let kept = line_kept (sizes old.row) small (does old.work) (map line_event old.journal) (line_state old) before in (
        (λ j. ap (λ (l : LineView W T). (line_state l).status j) is.0 ∙ is.1 j),
        (λ w. ap (λ (l : LineView W T). (line_state l).claim w) is.0 ∙ settled_unclaimed (line_net (does old.work) (sizes old.row)) (line_state old) kept is.1 w),
      )
  line_given old new worker NoMemory small before free is coded = ap (λ (l : LineView W T). (line_state l).claim worker) is ∙ free

pub line_gave_up : {W T : Type 0} (old new : LineView W T) (worker job : ℕ) → new.journal ≡ old.journal ++ record { worker = worker; job = job; event = Abandon } ∷ [] → GaveUp worker (line_stand old) (line_stand new)
line_gave_up old new worker job is =
    let e : LineEntry = record { worker = worker; job = job; event = Abandon } in
    (line_entry_code e, job, ap (map line_pair_of) is ∙ map-append line_pair_of old.journal (e ∷ []), line_event_told e)
