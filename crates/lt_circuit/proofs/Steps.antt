-- What each event keeps of a circuit's fields.
use Rattle.std.proofs.Common.{◌≡◌, ◌≢◌, ℕ, ◌+◌, ◌<◌, ◌≤◌, inl, inr, true, false, List, [], ◌∷◌, ◌++◌, Option, Some, None, map, length, get_or, set, refl, sym, ap, ◌∙◌, subst, arith, length-set}
use Rattle.std.specs.Option.{option_map}
use Rattle.std.proofs.lemmas.List.{map-append}
use Rattle.std.specs.List.{AllByRecursion}
use Rattle.lt_face.specs.Limits.{most_workers}
use Rattle.lt_model.specs.declared.mark.Mark.{Mark}
use Rattle.lt_model.specs.Marks.{and_then}
use Rattle.lt_net.specs.declared.job.JobState.TheVariants.{Clean, Pending}
use Rattle.lt_net.specs.declared.job.JobName.{JobName}
use Rattle.lt_net.specs.declared.job.JobName.TheVariants.{Leaf, Merge, Correct, Pass}
use Rattle.lt_circuit.specs.declared.cells.Held.{Held}
use Rattle.lt_net.specs.Kept.{IsKept}
use Rattle.lt_net.specs.Net.{Net, State, Claim, is_held, update, claim_of, claimed, finished, abandoned, step, replay, opening}
use Rattle.lt_net.specs.Tree.{tree_of, leaves_in, inputs_of, circuit_net}
use Rattle.lt_net.specs.Codes.{code_of, codes_over, job_of, IsOfTree}
use Rattle.lt_circuit.specs.Board.{BoardView, state_of, claim_from, standing, table}
use Rattle.lt_net.proofs.Fitting.{AllFit, reached_fit}
use Rattle.lt_net.proofs.Inside.{replay_more, replay_end, job_inside, leaf_inside, leaves_are}
use Rattle.lt_net.proofs.Codes.{code_of-job, job_of-code}
use Rattle.lt_net.proofs.Kept.{at_update}
use Rattle.lt_circuit.proofs.Opening.{get_same, length-table}
use Rattle.lt_net.proofs.Serial.{reached_kept}
use Rattle.lt_net.proofs.Shape.{eq_true, lt_true}
use Rattle.lt_circuit.proofs.Standing.{one_less, at_most_one_more}
use Rattle.lt_circuit.specs.declared.entry.Entry.{Entry}
use Rattle.lt_circuit.specs.declared.task.Prior.{Prior}
use Rattle.lt_circuit.specs.declared.task.Task.{Task}
use Rattle.lt_circuit.specs.declared.task.Task.TheVariants.{Leaf as LeafTask, Merge as MergeTask, Correct as CorrectTask, Pass as PassTask}
use Rattle.lt_circuit.specs.declared.task.Done.{Done}
use Rattle.lt_circuit.specs.declared.task.Done.TheVariants.{Leaf as LeafDone, Merge as MergeDone, Correct as CorrectDone, Pass as PassDone}
use Rattle.lt_circuit.specs.declared.entry.Event.TheVariants.{Claim as ClaimEvent, Finish as FinishEvent, Abandon as AbandonEvent}
use Rattle.lt_circuit.specs.Entry.{event_of}
use Rattle.lt_circuit.specs.Circuit.{IsReplay, IsCircuit, AreOfWorkers, AreTallies, leaf_code}
use Rattle.lt_circuit.specs.Job.{task_name, task_inputs, task_prior, prior_correction, tallies_left, tallies_back, tallies_done, done_name, done_inputs, done_prior, IsTask, IsPrior, IsOutput}
use Rattle.lt_circuit.proofs.Tallies.{tree_codes, claim_tallies, abandon_tallies, finish_tallies}

abbrev pub claim_of_task : {T : Type 0} → Task T → Claim
claim_of_task task = record { job = code_of (task_name task); inputs = task_inputs task; prior = prior_correction (task_prior task) }

abbrev pub claim_of_done : {T : Type 0} → Done T → Claim
claim_of_done did = record { job = code_of (done_name did); inputs = done_inputs did; prior = done_prior did }

-- a claim of another worker
pub other_claim : {X : Type 0} (f : ℕ → X) (w : ℕ) (x : X) (v : ℕ) → v ≢ w → update f w x v ≡ f v
other_claim f w x v ne = elim (at_update f w x v) [ inl h ↦ absurd (ne h.0) | inr h ↦ h.1 ]

pub was_some : {X Y : Type 0} (f : X → Y) (o : Option X) (y : Y) → option_map f o ≡ Some y → (x : X) × (o ≡ Some x)
was_some f None y e = cc
was_some f (Some x) y e = (x, refl)

-- ---- a task's tally, and how many tallies there are

pub task_prior_fits : {T : Type 0} (stands_for : T → ℕ → List Mark → Type 0) (fits : List Mark → Type 0) (has : ℕ → Type 0) (task : Task T) → IsTask stands_for fits has task
    → (l : ℕ) → task_name task ≡ Leaf l → IsPrior stands_for fits l (task_prior task)
task_prior_fits stands_for fits has (LeafTask leaf correction prior) ok l e = let f : leaf ≡ l = cc in subst (λ n. IsPrior stands_for fits n prior) f ok.2
task_prior_fits stands_for fits has (MergeTask node left right) ok l e = cc
task_prior_fits stands_for fits has (CorrectTask node correction left) ok l e = cc
task_prior_fits stands_for fits has (PassTask segment correction effect) ok l e = cc

pub left_long : {T : Type 0} (tallies : List (Option (Prior T))) (name : JobName) → length (tallies_left name tallies) ≡ length tallies
left_long tallies (Leaf l) = length-set tallies l None
left_long tallies (Merge v) = refl
left_long tallies (Correct v) = refl
left_long tallies (Pass s) = refl

pub back_long : {T : Type 0} (tallies : List (Option (Prior T))) (task : Task T) → length (tallies_back task tallies) ≡ length tallies
back_long tallies (LeafTask leaf correction prior) = length-set tallies leaf prior
back_long tallies (MergeTask node left right) = refl
back_long tallies (CorrectTask node correction left) = refl
back_long tallies (PassTask segment correction effect) = refl

pub done_long : {T : Type 0} (tallies : List (Option (Prior T))) (did : Done T) → length (tallies_done did tallies) ≡ length tallies
done_long tallies (LeafDone leaf tally again prior effect) = length-set tallies leaf (Some tally)
done_long tallies (MergeDone node left right effect) = refl
done_long tallies (CorrectDone node correction left to_right) = refl
done_long tallies (PassDone segment correction effect next) = refl

all_and_one : (P : Entry → Type 0) (journal : List Entry) (e : Entry) → AllByRecursion P journal → P e → AllByRecursion P (journal ++ e ∷ [])
all_and_one P [] e all one = (one, tt)
all_and_one P (x ∷ journal) e all one = (all.0, all_and_one P journal e all.1 one)

module _ {T : Type 0} (does : ℕ → List Mark → List Mark) (stands_for : T → ℕ → List Mark → Type 0) (fits : List Mark → Type 0) (has : ℕ → Type 0)
    (board : BoardView) (journal : List Entry) (tallies : List (Option (Prior T))) (used capacity : ℕ)
    (h : IsCircuit does stands_for fits has board journal tallies used capacity) where
  abbrev net : Net
  net = circuit_net does (tree_of board.leaves)

  pub kept : IsKept (circuit_net does (tree_of board.leaves)) (state_of board)
  kept = reached_kept does board.leaves (map event_of journal) (state_of board) h.replayed

  pub all_fit : fits [] → ((a b : List Mark) → fits a → fits b → fits (and_then a b)) → ((i : ℕ) (c : List Mark) → has i → fits c → fits (does i c)) → AllFit fits (state_of board)
  all_fit none both gives = reached_fit fits does board.leaves none both (λ i c lt f. gives i c (h.leaves_there i lt) f) (map event_of journal) (state_of board) h.replayed

  pub roomier : (more : ℕ) → capacity ≤ more → IsCircuit does stands_for fits has board journal tallies used more
  roomier more le = record {
    replayed = h.replayed;
    workers = h.workers;
    few = h.few;
    leaves_there = h.leaves_there;
    tallies_long = h.tallies_long;
    are_tallies = h.are_tallies;
    room = omega (arith, h.room);
  }

  one_event : (board' : BoardView) (e : Entry) → board'.leaves ≡ board.leaves → step net (state_of board) (event_of e) ≡ Some (state_of board') → IsReplay does board' (journal ++ e ∷ [])
  one_event board' e same stepped =
      let es : map event_of (journal ++ e ∷ []) ≡ map event_of journal ++ event_of e ∷ [] = map-append event_of journal (e ∷ []) in
      let all : replay net (Some (opening net)) (map event_of (journal ++ e ∷ [])) ≡ Some (state_of board') =
      ap (replay net (Some (opening net))) es ∙ replay_more net (map event_of journal) (opening net) (state_of board) (event_of e) h.replayed ∙ replay_end net (step net (state_of board) (event_of e)) (state_of board') stepped in
      subst (λ n. replay (circuit_net does (tree_of n)) (Some (opening (circuit_net does (tree_of n)))) (map event_of (journal ++ e ∷ [])) ≡ Some (state_of board')) (sym same) all

  -- the journal with one event more, of a worker that there may be
  pub one_worker : (e : Entry) → e.worker < most_workers → AreOfWorkers (journal ++ e ∷ [])
  one_worker e there = all_and_one (λ (x : Entry). x.worker < most_workers) journal e h.workers there

  -- ---- jobs that aren't Clean are jobs of the tree

  module _ (name : JobName) (busy : (state_of board).status (code_of name) ≢ Clean) where
    -- the code has inputs, so it is that of a job of the tree, and no Pass's
    code_inside : code_of name < codes_over board.leaves
    code_inside =
        let e = code_of-job (code_of name) in
        let inside = job_inside board.leaves (job_of (code_of name)) (λ none. busy (kept.idle (code_of name) none)) in
        omega (arith, e, inside)

    pub is_own : IsOfTree name
    is_own = by_name name (omega (arith, code_inside, h.few))
      where
        by_name : (name : JobName) → code_of name < codes_over 256 → IsOfTree name
        by_name (Leaf i) low = tt
        by_name (Merge v) low = tt
        by_name (Correct v) low = tt
        by_name (Pass s) low = absurd (omega (arith, low))

    pub is_there : inputs_of (tree_of board.leaves) name ≢ []
    is_there e = busy (kept.idle (code_of name) (ap (inputs_of (tree_of board.leaves)) (job_of-code name is_own) ∙ e))

    pub is_inside : code_of name < codes_over board.leaves
    is_inside = job_inside board.leaves name is_there

    pub is_small : code_of name < codes_over 256
    is_small = omega (arith, is_inside, h.few)

    pub leaf_there : (leaf : ℕ) → name ≡ Leaf leaf → leaf < length tallies
    leaf_there leaf e = omega (arith, h.tallies_long, leaf_inside board.leaves leaf (λ f. is_there (ap (inputs_of (tree_of board.leaves)) e ∙ f)))

  held_busy : (w : ℕ) (c : Claim) → (state_of board).claim w ≡ Some c → (state_of board).status c.job ≢ Clean
  held_busy w c cl e = let a : false ≡ true = sym (ap is_held e) ∙ kept.held w c cl in cc

  -- ---- a claim

  module _ (w : ℕ) (name : JobName) (free : (state_of board).claim w ≡ None) (pending : (state_of board).status (code_of name) ≡ Pending) where
    pub pending_busy : (state_of board).status (code_of name) ≢ Clean
    pending_busy e = let a : Pending ≡ Clean = sym pending ∙ e in cc

    pub claim_circuit : (board' : BoardView) (held : Held) (more : ℕ) → board'.leaves ≡ board.leaves → state_of board' ≡ claimed (circuit_net does (tree_of board.leaves)) (state_of board) w (code_of name)
        → board'.claims ≡ set board.claims w (Some held) → used + standing board.claims + 2 ≤ more → w < most_workers
        → IsCircuit does stands_for fits has board' (journal ++ record { worker = w; job = name; event = ClaimEvent } ∷ []) (tallies_left name tallies) (used + 1) more
    claim_circuit board' held more same st claims le there =
        let stepped : step net (state_of board) (event_of (record { worker = w; job = name; event = ClaimEvent })) ≡ Some (state_of board') = rw (free, pending) (ap Some (sym st)) in
        record {
          replayed = one_event board' (record { worker = w; job = name; event = ClaimEvent }) same stepped;
          workers = one_worker (record { worker = w; job = name; event = ClaimEvent }) there;
          few = omega (arith, same, h.few);
          leaves_there = λ i lt. h.leaves_there i (omega (arith, same));
          tallies_long = left_long tallies name ∙ h.tallies_long ∙ sym same;
          are_tallies = subst (λ s. AreTallies leaf_code stands_for fits s (tallies_left name tallies)) (sym st)
              (claim_tallies code_of tree_codes stands_for fits (state_of board) tallies h.are_tallies w net name (leaf_there name pending_busy));
          room = omega (arith, ap standing claims, at_most_one_more board.claims w held, le);
        }

  -- ---- the ends of a claim

  module _ (w : ℕ) (c : Claim) (cl : (state_of board).claim w ≡ Some c) where
    pub end_fits : used < capacity
    end_fits =
        let held = was_some claim_from (get_or board.claims w None) c cl in
        omega (arith, one_less board.claims w held.0 held.1, h.room)

    room_left : (board' : BoardView) → board'.claims ≡ set board.claims w None → used + 1 + standing board'.claims ≤ capacity
    room_left board' fewer =
        let held = was_some claim_from (get_or board.claims w None) c cl in
        omega (arith, ap standing fewer, one_less board.claims w held.0 held.1, h.room)

    own_claim : claim_of ((state_of board).claim w) c.job ≡ Some c
    own_claim = ap (λ o. claim_of o c.job) cl ∙ (rw (eq_true c.job))

  pub task_busy : (w : ℕ) (task : Task T) → (state_of board).claim w ≡ Some (claim_of_task task) → (state_of board).status (code_of (task_name task)) ≢ Clean
  task_busy w task cl = held_busy w (claim_of_task task) cl

  pub done_busy : (w : ℕ) (did : Done T) → (state_of board).claim w ≡ Some (claim_of_done did) → (state_of board).status (code_of (done_name did)) ≢ Clean
  done_busy w did cl = held_busy w (claim_of_done did) cl

  pub abandon_circuit : (w : ℕ) (task : Task T) (board' : BoardView) → (state_of board).claim w ≡ Some (claim_of_task task) → board'.leaves ≡ board.leaves
      → state_of board' ≡ abandoned (state_of board) w (claim_of_task task) → board'.claims ≡ set board.claims w None → IsTask stands_for fits has task → w < most_workers
      → IsCircuit does stands_for fits has board' (journal ++ record { worker = w; job = task_name task; event = AbandonEvent } ∷ []) (tallies_back task tallies) (used + 1) capacity
  abandon_circuit w task board' cl same st fewer ok there =
      let e : Entry = record { worker = w; job = task_name task; event = AbandonEvent } in
      let stepped : step net (state_of board) (event_of e) ≡ Some (state_of board') = rw (own_claim w (claim_of_task task) cl) (ap Some (sym st)) in
      record {
        replayed = one_event board' e same stepped;
        workers = one_worker e there;
        few = omega (arith, same, h.few);
        leaves_there = λ i lt. h.leaves_there i (omega (arith, same));
        tallies_long = back_long tallies task ∙ h.tallies_long ∙ sym same;
        are_tallies = subst (λ s. AreTallies leaf_code stands_for fits s (tallies_back task tallies)) (sym st)
            (abandon_tallies code_of tree_codes stands_for fits (state_of board) tallies h.are_tallies w task (claim_of_task task) refl (kept.captured w (claim_of_task task) cl)
            (λ l f. (leaf_there (task_name task) (task_busy w task cl) l f, task_prior_fits stands_for fits has task ok l f)));
        room = room_left w (claim_of_task task) cl board' fewer;
      }

  leaf_is_leaf : (name : JobName) (l : ℕ) → (state_of board).status (code_of name) ≢ Clean → name ≡ Leaf l → net.is_leaf (code_of name) ≡ true
  leaf_is_leaf name l busy e =
      let inside : l < leaves_in (tree_of board.leaves) = omega (arith, leaf_there name busy l e, h.tallies_long, leaves_are board.leaves) in
      ap (λ n. net.is_leaf (code_of n)) e ∙ (rw (job_of-code (Leaf l) tt) (lt_true l (leaves_in (tree_of board.leaves)) inside))

  pub finish_circuit : (w : ℕ) (did : Done T) (board' : BoardView) → (state_of board).claim w ≡ Some (claim_of_done did) → board'.leaves ≡ board.leaves
      → state_of board' ≡ finished (circuit_net does (tree_of board.leaves)) (state_of board) w (claim_of_done did) → board'.claims ≡ set board.claims w None → IsOutput does stands_for fits did → w < most_workers
      → IsCircuit does stands_for fits has board' (journal ++ record { worker = w; job = done_name did; event = FinishEvent } ∷ []) (tallies_done did tallies) (used + 1) capacity
  finish_circuit w did board' cl same st fewer ok there =
      let e : Entry = record { worker = w; job = done_name did; event = FinishEvent } in
      let stepped : step net (state_of board) (event_of e) ≡ Some (state_of board') = rw (own_claim w (claim_of_done did) cl) (ap Some (sym st)) in
      let busy = done_busy w did cl in
      record {
        replayed = one_event board' e same stepped;
        workers = one_worker e there;
        few = omega (arith, same, h.few);
        leaves_there = λ i lt. h.leaves_there i (omega (arith, same));
        tallies_long = done_long tallies did ∙ h.tallies_long ∙ sym same;
        are_tallies = subst (λ s. AreTallies leaf_code stands_for fits s (tallies_done did tallies)) (sym st)
            (finish_tallies code_of tree_codes stands_for fits (state_of board) tallies h.are_tallies w net (claim_of_done did) did refl refl ok.has_tally
            (λ l f. (leaf_there (done_name did) busy l f, leaf_is_leaf (done_name did) l busy f)));
        room = room_left w (claim_of_done did) cl board' fewer;
      }

-- ---- the opening

pub start_circuit : {T : Type 0} (does : ℕ → List Mark → List Mark) (stands_for : T → ℕ → List Mark → Type 0) (fits : List Mark → Type 0) (has : ℕ → Type 0)
    (board : BoardView) (tallies : List (Option (Prior T))) (n used capacity : ℕ) → board.leaves ≡ n → n ≤ 256 → ((i : ℕ) → i < n → has i)
    → state_of board ≡ opening (circuit_net does (tree_of n)) → tallies ≡ table (λ k. None) n → standing board.claims ≡ 0 → used ≡ 0
    → IsCircuit does stands_for fits has board [] tallies used capacity
start_circuit does stands_for fits has board tallies n used capacity same few there st none free unused = record {
  replayed = ap Some (ap (λ k. opening (circuit_net does (tree_of k))) same ∙ sym st);
  workers = tt;
  few = omega arith;
  leaves_there = λ i lt. there i (omega arith);
  tallies_long = ap length none ∙ length-table (λ k. None) n ∙ sym same;
  are_tallies = record {
    each = λ i p e. absurd (let g : None ≡ Some p = sym (ap (λ l. get_or l i None) none ∙ get_same None n i) ∙ e in cc);
    there = λ i c d e. absurd (let g : None ≡ Some c = sym (ap (λ (s : State). s.done (code_of (Leaf i))) st) ∙ d in cc);
  };
  room = omega arith;
}
