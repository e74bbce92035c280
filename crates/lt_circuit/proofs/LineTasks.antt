-- The task of a line's job on what a claim captured is of that claim, and fits.
use Rattle.std.proofs.Common.{◌≡◌, ◌≢◌, ℕ, ◌+◌, ◌*◌, ◌/◌, ◌%◌, ◌<◌, List, [], ◌∷◌, ◌++◌, Option, Some, None, length, refl, sym, ap, ◌∙◌, arith}
use Rattle.std.specs.List.{AllByRecursion}
use Rattle.lt_model.specs.declared.mark.Mark.{Mark}
use Rattle.lt_net.specs.declared.job.JobState.TheVariants.{Clean, Pending}
use Rattle.lt_net.specs.declared.job.JobName.{JobName}
use Rattle.lt_net.specs.declared.job.JobName.TheVariants.{Leaf, Merge, Correct, Pass}
use Rattle.lt_net.specs.Net.{Net, State, claimed, read}
use Rattle.lt_net.specs.Line.{line_inputs, line_job, line_net}
use Rattle.lt_net.proofs.Codes.{job_of-code}
use Rattle.lt_circuit.specs.declared.cells.Inputs.{Inputs}
use Rattle.lt_circuit.specs.declared.line.LineEntry.{LineEntry}
use Rattle.lt_circuit.specs.declared.task.Prior.{Prior}
use Rattle.lt_circuit.specs.declared.task.Task.{Task}
use Rattle.lt_circuit.specs.declared.entry.Event.TheVariants.{Claim as ClaimEvent}
use Rattle.lt_circuit.specs.Board.{done_of, inputs_list}
use Rattle.lt_circuit.specs.Job.{IsTask, arity, prior_of, tallies_left, task_from, task_name, task_prior}
use Rattle.lt_circuit.specs.Line.{IsLine, line_name, number_code}
use Rattle.lt_circuit.specs.LineClaiming.{IsLineClaimed}
use Rattle.lt_circuit.specs.LineJob.{line_task_claim}
use Rattle.lt_circuit.specs.Row.{parts, row_of, segment_at, sizes}
use Rattle.lt_circuit.specs.Segment.{SegmentView}
use Rattle.lt_circuit.proofs.LineSteps.{line_leaf_has, line_leaf_there, name_busy, named}
use Rattle.lt_circuit.proofs.Steps.{other_claim}
use Rattle.lt_circuit.proofs.Tasks.{from_claim, from_fits, from_name, takes_prior}

-- an inner job and a Pass keep no correction
row_done : (row : List SegmentView) (s place : ℕ) → place < 2048 → (row_of row).done (2048 * s + place) ≡ (parts row s).done place
row_done row s place low =
    let a : (2048 * s + place) / 2048 ≡ s = omega (arith, low) in
    let b : (2048 * s + place) % 2048 ≡ place = omega (arith, low) in
    λ i. (parts row (a i)).done (b i)

merge_done : (row : List SegmentView) (v : ℕ) → (row_of row).done (number_code (Merge v)) ≡ None
merge_done row v =
    row_done row (v / 512) (3 * (v % 512) + 1) (omega arith) ∙ ap (done_of (segment_at row (v / 512)).board.done) (job_of-code (Merge (v % 512)) tt)

correct_done : (row : List SegmentView) (v : ℕ) → (row_of row).done (number_code (Correct v)) ≡ None
correct_done row v =
    row_done row (v / 512) (3 * (v % 512) + 2) (omega arith) ∙ ap (done_of (segment_at row (v / 512)).board.done) (job_of-code (Correct (v % 512)) tt)

pass_done : (row : List SegmentView) (s : ℕ) → (row_of row).done (number_code (Pass s)) ≡ None
pass_done row s = row_done row s 2047 (omega arith)

module _ {T : Type 0} (does : ℕ → List Mark → List Mark) (stands_for : T → ℕ → List Mark → Type 0) (fits : List Mark → Type 0) (has : ℕ → Type 0)
    (row : List SegmentView) (journal : List LineEntry) (tallies : List (Option (Prior T))) (used capacity : ℕ)
    (h : IsLine does stands_for fits has row journal tallies used capacity)
    (w code : ℕ) (free : (row_of row).claim w ≡ None) (pending : (row_of row).status code ≡ Pending) where
  abbrev name : JobName
  name = line_name (line_job code)

  busy : (row_of row).status (number_code name) ≢ Clean
  busy = name_busy does stands_for fits has row journal tallies used capacity h w code free pending

  name_is : number_code name ≡ code
  name_is = named does stands_for fits has row journal tallies used capacity h w code free pending

  -- the place of a leaf's tally is there
  pub line_leaf_is_there : (leaf : ℕ) → name ≡ Leaf leaf → leaf < length tallies
  line_leaf_is_there = line_leaf_there does stands_for fits has row journal tallies used capacity h name busy

  module _ (given : Inputs) (long : length (inputs_list given) ≡ arity name) where
    -- what was captured makes the job's task
    pub line_from_fits : AllByRecursion fits (inputs_list given) → IsTask stands_for fits has (task_from name given tallies)
    line_from_fits all =
        from_fits tallies number_code stands_for fits (row_of row) h.are_tallies has name given long all
        (line_leaf_has does stands_for fits has row journal tallies used capacity h name busy)

    module _ (ins : inputs_list given ≡ read (row_of row).value (line_inputs (sizes row) (line_job code))) where
      abbrev net : Net
      net = line_net does (sizes row)

      -- the claim that an event makes is the task's
      line_from_claim : (claimed net (row_of row) w code).claim w ≡ Some (line_task_claim (task_from name given tallies))
      line_from_claim =
          ap (λ k. (claimed net (row_of row) w k).claim w) (sym name_is)
          ∙ from_claim tallies number_code stands_for fits (row_of row) h.are_tallies (merge_done row) (correct_done row) (pass_done row) net w name given long
          (ins ∙ ap (λ k. read (row_of row).value (net.inputs k)) (sym name_is)) (ap (row_of row).status name_is ∙ pending)

      module _ {W : Type 0} (work second : W) (row' : List SegmentView) (longer : List LineEntry) (task : Task T) (left : List (Option (Prior T)))
          (task_is : task ≡ task_from name given tallies) where
        of_name : task_name task ≡ name
        of_name = ap task_name task_is ∙ from_name tallies name given

        pub line_code_is : (line_task_claim task).job ≡ code
        line_code_is = ap number_code of_name ∙ name_is

        pub is_line_claimed : second ≡ work → sizes row' ≡ sizes row → row_of row' ≡ claimed (line_net does (sizes row)) (row_of row) w code
            → longer ≡ journal ++ record { worker = w; job = code; event = ClaimEvent } ∷ [] → left ≡ tallies_left name tallies
            → IsLineClaimed does (record { work = work; row = row; journal = journal; tallies = tallies }) (record { work = work; row = row'; journal = longer; tallies = left }) w (record { work = second; task = task })
        is_line_claimed same segments st more fewer = record {
          of_work = same;
          work = refl;
          leaves = segments;
          pending = ap (row_of row).status line_code_is ∙ pending;
          stepped = st ∙ ap (claimed net (row_of row) w) (sym line_code_is);
          held = ap (λ (t : State). t.claim w) st ∙ line_from_claim ∙ ap (λ (t : Task T). Some (line_task_claim t)) (sym task_is);
          others = λ v ne. ap (λ (t : State). t.claim v) st
              ∙ other_claim (row_of row).claim w (Some (record { job = code; inputs = read (row_of row).value (net.inputs code); prior = (row_of row).done code })) v ne;
          journal = more ∙ ap (λ k. journal ++ record { worker = w; job = k; event = ClaimEvent } ∷ []) (sym line_code_is);
          prior = ap task_prior task_is ∙ takes_prior tallies name given ∙ ap (λ n. prior_of n tallies) (sym of_name);
          tallies = fewer ∙ ap (λ n. tallies_left n tallies) (sym of_name);
        }
