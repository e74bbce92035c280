-- What each event keeps of a line's fields.
use Rattle.std.proofs.Common.{◌≡◌, ◌≢◌, ℕ, ◌+◌, ◌*◌, ◌/◌, ◌%◌, ◌<◌, ◌≤◌, true, false, List, [], ◌∷◌, ◌++◌, Option, Some, None, map, length, get_or, refl, sym, ap, ◌∙◌, subst, arith}
use Rattle.std.proofs.lemmas.List.{map-append}
use Rattle.lt_model.specs.declared.mark.Mark.{Mark}
use Rattle.lt_net.specs.declared.job.JobState.TheVariants.{Clean, Pending}
use Rattle.lt_net.specs.declared.job.JobName.{JobName}
use Rattle.lt_net.specs.declared.job.JobName.TheVariants.{Leaf}
use Rattle.lt_net.specs.Kept.{IsKept}
use Rattle.lt_net.specs.Net.{Net, State, Claim, abandoned, claim_of, claimed, finished, is_held, opening, read, replay, step}
use Rattle.lt_net.specs.Line.{AreSizes, line_inputs, line_job, line_leaf, line_net, size_in}
use Rattle.lt_net.specs.Row.{lifted, HasNoOther}
use Rattle.lt_net.specs.Tree.{leaves_in, tree_of}
use Rattle.lt_net.proofs.Inside.{leaves_are, replay_end, replay_more}
use Rattle.lt_net.proofs.Kept.{update_same}
use Rattle.lt_net.proofs.RowClaims.{row_claim_free}
use Rattle.lt_net.proofs.Shape.{eq_true, lt_true}
use Rattle.lt_circuit.specs.declared.cells.Held.{Held}
use Rattle.lt_circuit.specs.declared.line.LineEntry.{LineEntry}
use Rattle.lt_circuit.specs.declared.task.Prior.{Prior}
use Rattle.lt_circuit.specs.declared.task.Task.{Task}
use Rattle.lt_circuit.specs.declared.task.Done.{Done}
use Rattle.lt_circuit.specs.declared.entry.Event.TheVariants.{Claim as ClaimEvent, Finish as FinishEvent, Abandon as AbandonEvent}
use Rattle.lt_circuit.specs.Circuit.{AreTallies}
use Rattle.lt_circuit.specs.Job.{IsOutput, IsTask, done_name, tallies_back, tallies_done, tallies_left, task_name}
use Rattle.lt_circuit.specs.Line.{IsLine, IsLineReplay, leaf_place, line_event, line_name, number_code}
use Rattle.lt_circuit.specs.LineJob.{line_done_claim, line_task_claim}
use Rattle.lt_circuit.specs.Row.{HasChangedClaim, parts, row_of, segment_at, sizes, standing_in}
use Rattle.lt_circuit.specs.Segment.{SegmentView}
use Rattle.lt_circuit.proofs.Fronts.{held_some, of_segment}
use Rattle.lt_circuit.proofs.LineClaims.{one_fewer, one_more, placed_more, single_more, stands_below, still_none, stood_before}
use Rattle.lt_circuit.proofs.LineTables.{kept_line}
use Rattle.lt_circuit.proofs.Numbers.{leaf_below, leaf_whole, name_code, number_codes, own_of}
use Rattle.lt_circuit.proofs.RowReads.{read_inside}
use Rattle.lt_circuit.proofs.Standing.{one_stands}
use Rattle.lt_circuit.proofs.Steps.{back_long, done_long, left_long, task_prior_fits}
use Rattle.lt_circuit.proofs.Tallies.{abandon_tallies, claim_tallies, finish_tallies}

module _ {T : Type 0} (does : ℕ → List Mark → List Mark) (stands_for : T → ℕ → List Mark → Type 0) (fits : List Mark → Type 0) (has : ℕ → Type 0)
    (row : List SegmentView) (journal : List LineEntry) (tallies : List (Option (Prior T))) (used capacity : ℕ)
    (h : IsLine does stands_for fits has row journal tallies used capacity) where
  abbrev net : Net
  net = line_net does (sizes row)

  kept : IsKept (line_net does (sizes row)) (row_of row)
  kept = kept_line does stands_for fits has row journal tallies used capacity h

  pub roomier_line : (more : ℕ) → capacity ≤ more → IsLine does stands_for fits has row journal tallies used more
  roomier_line more le = record {
    replayed = h.replayed;
    small = h.small;
    leaves_there = h.leaves_there;
    tallies_long = h.tallies_long;
    are_tallies = h.are_tallies;
    single = h.single;
    placed = h.placed;
    room = omega (arith, h.room, le);
  }

  one_event : (row' : List SegmentView) (e : LineEntry) → sizes row' ≡ sizes row → step net (row_of row) (line_event e) ≡ Some (row_of row') → IsLineReplay does row' (journal ++ e ∷ [])
  one_event row' e same stepped =
      let es : map line_event (journal ++ e ∷ []) ≡ map line_event journal ++ line_event e ∷ [] = map-append line_event journal (e ∷ []) in
      let all : replay net (Some (opening net)) (map line_event (journal ++ e ∷ [])) ≡ Some (row_of row') =
      ap (replay net (Some (opening net))) es ∙ replay_more net (map line_event journal) (opening net) (row_of row) (line_event e) h.replayed ∙ replay_end net (step net (row_of row) (line_event e)) (row_of row') stepped in
      subst (λ ns. replay (line_net does ns) (Some (opening (line_net does ns))) (map line_event (journal ++ e ∷ [])) ≡ Some (row_of row')) (sym same) all

  -- ---- jobs that aren't Clean are jobs of the line

  module _ (code : ℕ) (busy : (row_of row).status code ≢ Clean) where
    pub is_some : line_inputs (sizes row) (line_job code) ≢ []
    is_some e = busy (kept.idle code e)

    pub is_in_row : code / 2048 < length row
    is_in_row = read_inside row code is_some

  module _ (name : JobName) (busy : (row_of row).status (number_code name) ≢ Clean) (leaf : ℕ) (e : name ≡ Leaf leaf) where
    below : leaf % 256 < size_in (sizes row) (leaf / 256)
    below = leaf_below (sizes row) leaf (subst (λ n. line_inputs (sizes row) (line_job (number_code n)) ≢ []) e (is_some (number_code name) busy))

    pub line_leaf_there : leaf < length tallies
    line_leaf_there = let long = h.tallies_long (leaf / 256) (leaf % 256) below in let whole = leaf_whole leaf in omega (arith, long, whole)

    pub line_leaf_has : has leaf
    line_leaf_has = subst has (leaf_whole leaf) (h.leaves_there (leaf / 256) (leaf % 256) below)

    is_leaf : net.is_leaf (number_code name) ≡ true
    is_leaf =
        ap (λ n. line_leaf (sizes row) (line_job (number_code n))) e ∙ ap (line_leaf (sizes row)) (own_of (Leaf leaf) tt)
        ∙ lt_true (leaf % 256) (leaves_in (tree_of (size_in (sizes row) (leaf / 256)))) (let all = leaves_are (size_in (sizes row) (leaf / 256)) in let b = below in omega (arith, all, b))

  pub held_busy : (w : ℕ) (c : Claim) → (row_of row).claim w ≡ Some c → (row_of row).status c.job ≢ Clean
  held_busy w c cl e = let a : false ≡ true = sym (ap is_held e) ∙ kept.held w c cl in cc

  -- ---- a claim

  module _ (w code : ℕ) (free : (row_of row).claim w ≡ None) (pending : (row_of row).status code ≡ Pending) where
    pub line_busy : (row_of row).status code ≢ Clean
    line_busy e = let a : Pending ≡ Clean = sym pending ∙ e in cc

    -- the job by its number
    abbrev job_name : JobName
    job_name = line_name (line_job code)

    pub named : number_code job_name ≡ code
    named = name_code (sizes row) h.small.few code (is_some code line_busy)

    pub name_busy : (row_of row).status (number_code job_name) ≢ Clean
    name_busy clean = line_busy (ap (row_of row).status (sym named) ∙ clean)

    tallies_after : AreTallies leaf_place stands_for fits (claimed net (row_of row) w code) (tallies_left job_name tallies)
    tallies_after =
        subst (λ k. AreTallies leaf_place stands_for fits (claimed net (row_of row) w k) (tallies_left job_name tallies)) named
        (claim_tallies number_code number_codes stands_for fits (row_of row) tallies h.are_tallies w net job_name (line_leaf_there job_name name_busy))

    free_in : (r : ℕ) → r < length row → (parts row r).claim w ≡ None
    free_in = row_claim_free (parts row) w (length row) free

    pub claim_line : (row' : List SegmentView) (held : Held) (more : ℕ) → sizes row' ≡ sizes row → row_of row' ≡ claimed (line_net does (sizes row)) (row_of row) w code
        → HasChangedClaim (code / 2048) w (Some held) row row' → used + standing_in row + 2 ≤ more
        → IsLine does stands_for fits has row' (journal ++ record { worker = w; job = code; event = ClaimEvent } ∷ []) (tallies_left job_name tallies) (used + 1) more
    claim_line row' held more same st changed le =
        let stepped : step net (row_of row) (line_event (record { worker = w; job = code; event = ClaimEvent })) ≡ Some (row_of row') = rw (free, pending) (ap Some (sym st)) in
        let job : Claim = record { job = code; inputs = read (row_of row).value (net.inputs code); prior = (row_of row).done code } in
        let claim : (row_of row').claim w ≡ Some job = ap (λ (t : State). t.claim w) st ∙ update_same (row_of row).claim w (Some job) in
        let more_stand = one_more row row' (code / 2048) w held changed (is_in_row code line_busy) in
        record {
          replayed = one_event row' (record { worker = w; job = code; event = ClaimEvent }) same stepped;
          small = subst AreSizes (sym same) h.small;
          leaves_there = λ s i lt. h.leaves_there s i (subst (λ ns. i < size_in ns s) same lt);
          tallies_long = λ s i lt. let long = left_long tallies job_name in let before = h.tallies_long s i (subst (λ ns. i < size_in ns s) same lt) in omega (arith, long, before);
          are_tallies = subst (λ t. AreTallies leaf_place stands_for fits t (tallies_left job_name tallies)) (sym st) tallies_after;
          single = single_more row row' (code / 2048) w held changed (is_in_row code line_busy) free_in h.single;
          placed = placed_more row row' (code / 2048) w held changed (is_in_row code line_busy) free_in h.single h.placed code job refl refl claim;
          room = omega (arith, more_stand, le);
        }

  -- ---- the ends of a claim

  module _ (w : ℕ) (c : Claim) (cl : (row_of row).claim w ≡ Some c) where
    of : (s : ℕ) × (d : Claim) × (s < length row) × ((parts row s).claim w ≡ Some d) × (lifted s d ≡ c)
    of = of_segment (length row) (parts row) w c cl

    at : of.0 ≡ c.job / 2048
    at = let few = h.placed w of.0 of.1 of.2 of.3 in let code = ap (λ (k : Claim). k.job) of.4 in omega (arith, few, code)

    pub line_own_inside : c.job / 2048 < length row
    line_own_inside = let inside = of.2 in let e = at in omega (arith, inside, e)

    pub line_own_alone : HasNoOther (length row) (parts row) (c.job / 2048) w
    line_own_alone = subst (λ s. HasNoOther (length row) (parts row) s w) at (h.single w of.0 of.1 of.2 of.3)

    held : (x : Held) × (get_or (segment_at row (c.job / 2048)).board.claims w None ≡ Some x)
    held = let x = held_some (segment_at row of.0).board.claims w of.1 of.3 in (x.0, ap (λ s. get_or (segment_at row s).board.claims w None) (sym at) ∙ x.1)

    pub line_end_fits : used < capacity
    line_end_fits =
        let one = one_stands (segment_at row (c.job / 2048)).board.claims w held.0 held.1 in
        let all = stands_below row (length row) (c.job / 2048) line_own_inside in
        omega (arith, one, all, h.room)

    own_claim : claim_of ((row_of row).claim w) c.job ≡ Some c
    own_claim = ap (λ o. claim_of o c.job) cl ∙ (rw (eq_true c.job))

    ended_line : (row' : List SegmentView) (e : LineEntry) (tallies' : List (Option (Prior T))) → sizes row' ≡ sizes row → HasChangedClaim (c.job / 2048) w None row row'
        → step net (row_of row) (line_event e) ≡ Some (row_of row') → length tallies' ≡ length tallies → AreTallies leaf_place stands_for fits (row_of row') tallies'
        → IsLine does stands_for fits has row' (journal ++ e ∷ []) tallies' (used + 1) capacity
    ended_line row' e tallies' same changed stepped long are =
        let fewer = one_fewer row row' (c.job / 2048) w changed line_own_inside held.0 held.1 in
        record {
          replayed = one_event row' e same stepped;
          small = subst AreSizes (sym same) h.small;
          leaves_there = λ s i lt. h.leaves_there s i (subst (λ ns. i < size_in ns s) same lt);
          tallies_long = λ s i lt. let before = h.tallies_long s i (subst (λ ns. i < size_in ns s) same lt) in omega (arith, long, before);
          are_tallies = are;
          single = λ x r k lt e q below ne. still_none row row' (c.job / 2048) w changed q x (h.single x r k (omega (arith, lt, changed.long)) (stood_before row row' (c.job / 2048) w changed r x k e) q (omega (arith, below, changed.long)) ne);
          placed = λ x r k lt e. h.placed x r k (omega (arith, lt, changed.long)) (stood_before row row' (c.job / 2048) w changed r x k e);
          room = omega (arith, fewer, h.room);
        }

  pub task_leaf_there : (w : ℕ) (task : Task T) → (row_of row).claim w ≡ Some (line_task_claim task) → (leaf : ℕ) → task_name task ≡ Leaf leaf → leaf < length tallies
  task_leaf_there w task cl leaf e = line_leaf_there (task_name task) (held_busy w (line_task_claim task) cl) leaf e

  pub done_leaf_there : (w : ℕ) (did : Done T) → (row_of row).claim w ≡ Some (line_done_claim did) → (leaf : ℕ) → done_name did ≡ Leaf leaf → leaf < length tallies
  done_leaf_there w did cl leaf e = line_leaf_there (done_name did) (held_busy w (line_done_claim did) cl) leaf e

  pub abandon_line : (w : ℕ) (task : Task T) (row' : List SegmentView) → (row_of row).claim w ≡ Some (line_task_claim task) → sizes row' ≡ sizes row
      → row_of row' ≡ abandoned (row_of row) w (line_task_claim task) → HasChangedClaim ((line_task_claim task).job / 2048) w None row row' → IsTask stands_for fits has task
      → IsLine does stands_for fits has row' (journal ++ record { worker = w; job = (line_task_claim task).job; event = AbandonEvent } ∷ []) (tallies_back task tallies) (used + 1) capacity
  abandon_line w task row' cl same st changed ok =
      let claim = line_task_claim task in
      let e : LineEntry = record { worker = w; job = claim.job; event = AbandonEvent } in
      let stepped : step net (row_of row) (line_event e) ≡ Some (row_of row') = rw (own_claim w (line_task_claim task) cl) (ap Some (sym st)) in
      ended_line w claim cl row' e (tallies_back task tallies) same changed stepped (back_long tallies task)
      (subst (λ t. AreTallies leaf_place stands_for fits t (tallies_back task tallies)) (sym st)
      (abandon_tallies number_code number_codes stands_for fits (row_of row) tallies h.are_tallies w task claim refl (kept.captured w claim cl)
      (λ l f. (task_leaf_there w task cl l f, task_prior_fits stands_for fits has task ok l f))))

  pub finish_line : (w : ℕ) (did : Done T) (row' : List SegmentView) → (row_of row).claim w ≡ Some (line_done_claim did) → sizes row' ≡ sizes row
      → row_of row' ≡ finished (line_net does (sizes row)) (row_of row) w (line_done_claim did) → HasChangedClaim ((line_done_claim did).job / 2048) w None row row' → IsOutput does stands_for fits did
      → IsLine does stands_for fits has row' (journal ++ record { worker = w; job = (line_done_claim did).job; event = FinishEvent } ∷ []) (tallies_done did tallies) (used + 1) capacity
  finish_line w did row' cl same st changed ok =
      let claim = line_done_claim did in
      let e : LineEntry = record { worker = w; job = claim.job; event = FinishEvent } in
      let stepped : step net (row_of row) (line_event e) ≡ Some (row_of row') = rw (own_claim w (line_done_claim did) cl) (ap Some (sym st)) in
      let busy = held_busy w claim cl in
      ended_line w claim cl row' e (tallies_done did tallies) same changed stepped (done_long tallies did)
      (subst (λ t. AreTallies leaf_place stands_for fits t (tallies_done did tallies)) (sym st)
      (finish_tallies number_code number_codes stands_for fits (row_of row) tallies h.are_tallies w net claim did refl refl ok.has_tally
      (λ l f. (line_leaf_there (done_name did) busy l f, is_leaf (done_name did) busy l f))))
