-- The task of a job on what a claim captured is of that claim, and fits.
use Rattle.std.proofs.Common.{◌≡◌, ◌≢◌, ℕ, ◌+◌, Bool, true, false, List, [], ◌∷◌, ◌++◌, Option, Some, None, length, get_or, refl, sym, ap, subst, ◌∙◌, arith}
use Rattle.std.specs.Prelude.{if◌then◌else◌, nat_lt}
use Rattle.std.specs.List.{AllByRecursion}
use Rattle.lt_model.specs.declared.mark.Mark.{Mark}
use Rattle.lt_net.specs.declared.job.JobState.TheVariants.{Pending}
use Rattle.lt_net.specs.declared.job.JobName.{JobName}
use Rattle.lt_net.specs.declared.job.JobName.TheVariants.{Leaf, Merge, Correct, Pass}
use Rattle.lt_circuit.specs.declared.cells.Inputs.{Inputs}
use Rattle.lt_circuit.specs.declared.cells.Inputs.TheVariants.{One, Two}
use Rattle.lt_net.specs.Net.{Cell, Correction, Effect, Net, State, Claim, read, is_held, claimed}
use Rattle.lt_net.specs.Tree.{Tree, tree_of, right_in, leaves_in, node_in, if_inner, inputs_of, circuit_net}
use Rattle.lt_net.specs.Codes.{code_of, IsOfTree}
use Rattle.lt_circuit.specs.Board.{BoardView, state_of, done_of, inputs_list}
use Rattle.lt_net.proofs.Kept.{update_same}
use Rattle.lt_net.proofs.Codes.{job_of-code}
use Rattle.lt_circuit.specs.declared.task.Prior.{Prior}
use Rattle.lt_circuit.specs.declared.task.Task.{Task}
use Rattle.lt_circuit.specs.Circuit.{AreTallies, leaf_code}
use Rattle.lt_circuit.specs.Job.{arity, task_from, task_name, task_inputs, task_prior, prior_correction, prior_of, tallies_left, IsTask, IsPrior}
use Rattle.lt_circuit.specs.declared.entry.Event.TheVariants.{Claim as ClaimEvent}
use Rattle.lt_circuit.specs.declared.entry.Entry.{Entry}
use Rattle.lt_circuit.specs.Claiming.{IsClaimed}
use Rattle.lt_circuit.proofs.Steps.{claim_of_task, other_claim}

-- ---- how many inputs a job has

leaf_long : (b : Bool) (f : Cell → List Mark) (x : Cell) → (if b then x ∷ [] else []) ≢ [] → length (read f (if b then x ∷ [] else [])) ≡ 1
leaf_long true f x some = refl
leaf_long false f x some = absurd (some refl)

inner_long : (o : Option ℕ) (f : Cell → List Mark) (cells : ℕ → List Cell) → ((y : ℕ) → length (read f (cells y)) ≡ 2) → if_inner o cells ≢ [] → length (read f (if_inner o cells)) ≡ 2
inner_long None f cells two some = absurd (some refl)
inner_long (Some y) f cells two some = two y

pub inputs_long : (t : Option Tree) (name : JobName) (f : Cell → List Mark) → inputs_of t name ≢ [] → length (read f (inputs_of t name)) ≡ arity name
inputs_long t (Leaf i) f some = leaf_long (nat_lt i (leaves_in t)) f (Correction (node_in t i)) some
inputs_long t (Merge v) f some = inner_long (right_in t v) f (λ right. Effect (v + 1) ∷ Effect right ∷ []) (λ y. refl) some
inputs_long t (Correct v) f some = inner_long (right_in t v) f (λ right. Correction v ∷ Effect (v + 1) ∷ []) (λ y. refl) some
inputs_long t (Pass s) f some = absurd (some refl)

-- the claim of a task, by the codes of jobs
abbrev pub claim_by : {T : Type 0} → (JobName → ℕ) → Task T → Claim
claim_by codes task = record { job = codes (task_name task); inputs = task_inputs task; prior = prior_correction (task_prior task) }

module _ {T : Type 0} (tallies : List (Option (Prior T))) where
  pub from_name : (name : JobName) (inputs : Inputs) → task_name (task_from name inputs tallies) ≡ name
  from_name (Leaf i) inputs = refl
  from_name (Merge v) inputs = refl
  from_name (Correct v) inputs = refl
  from_name (Pass s) inputs = refl

  pub takes_prior : (name : JobName) (inputs : Inputs) → task_prior (task_from name inputs tallies) ≡ prior_of name tallies
  takes_prior (Leaf i) inputs = refl
  takes_prior (Merge v) inputs = refl
  takes_prior (Correct v) inputs = refl
  takes_prior (Pass s) inputs = refl

  from_inputs : (name : JobName) (inputs : Inputs) → length (inputs_list inputs) ≡ arity name → task_inputs (task_from name inputs tallies) ≡ inputs_list inputs
  from_inputs (Leaf i) (One a) h = refl
  from_inputs (Leaf i) (Two a b) h = absurd (omega arith)
  from_inputs (Merge v) (One a) h = absurd (omega arith)
  from_inputs (Merge v) (Two a b) h = refl
  from_inputs (Correct v) (One a) h = absurd (omega arith)
  from_inputs (Correct v) (Two a b) h = refl
  from_inputs (Pass s) (One a) h = absurd (omega arith)
  from_inputs (Pass s) (Two a b) h = refl

  module _ (codes : JobName → ℕ) (stands_for : T → ℕ → List Mark → Type 0) (fits : List Mark → Type 0) (s : State) (a : AreTallies (λ i. codes (Leaf i)) stands_for fits s tallies) where
    -- a leaf's tally is of the correction that it last finished with
    leaf_prior : (i : ℕ) (o : Option (Prior T)) (d : Option (List Mark)) → get_or tallies i None ≡ o → s.done (codes (Leaf i)) ≡ d → is_held (s.status (codes (Leaf i))) ≡ false → prior_correction o ≡ d
    leaf_prior i None None e f free = refl
    leaf_prior i None (Some c) e f free = let k = a.there i c f free in absurd (let g : None ≡ Some k.0 = sym e ∙ k.1 in cc)
    leaf_prior i (Some p) d e f free = sym (a.each i p e).last ∙ f

    prior_stands : (i : ℕ) (o : Option (Prior T)) → get_or tallies i None ≡ o → IsPrior stands_for fits i o
    prior_stands i None e = tt
    prior_stands i (Some p) e = let k = a.each i p e in (k.fit, k.stands)

    pub from_fits : (has : ℕ → Type 0) (name : JobName) (inputs : Inputs) → length (inputs_list inputs) ≡ arity name → AllByRecursion fits (inputs_list inputs)
        → ((l : ℕ) → name ≡ Leaf l → has l) → IsTask stands_for fits has (task_from name inputs tallies)
    from_fits has (Leaf i) (One x) h all leaf = (leaf i refl, all.0, prior_stands i (get_or tallies i None) refl)
    from_fits has (Leaf i) (Two x y) h all leaf = absurd (omega arith)
    from_fits has (Merge v) (One x) h all leaf = absurd (omega arith)
    from_fits has (Merge v) (Two x y) h all leaf = (all.0, all.1.0)
    from_fits has (Correct v) (One x) h all leaf = absurd (omega arith)
    from_fits has (Correct v) (Two x y) h all leaf = (all.0, all.1.0)
    from_fits has (Pass r) (One x) h all leaf = absurd (omega arith)
    from_fits has (Pass r) (Two x y) h all leaf = (all.0, all.1.0)

    -- an inner job and a Pass keep no correction
    module _ (merges : (v : ℕ) → s.done (codes (Merge v)) ≡ None) (corrects : (v : ℕ) → s.done (codes (Correct v)) ≡ None) (passes : (r : ℕ) → s.done (codes (Pass r)) ≡ None) where
      from_prior : (name : JobName) (inputs : Inputs) → s.status (codes name) ≡ Pending → prior_correction (task_prior (task_from name inputs tallies)) ≡ s.done (codes name)
      from_prior (Leaf i) inputs pending = leaf_prior i (get_or tallies i None) (s.done (codes (Leaf i))) refl refl (ap is_held pending)
      from_prior (Merge v) inputs pending = sym (merges v)
      from_prior (Correct v) inputs pending = sym (corrects v)
      from_prior (Pass r) inputs pending = sym (passes r)

      -- the claim that a step of a net makes is the task's
      pub from_claim : (net : Net) (w : ℕ) (name : JobName) (inputs : Inputs) → length (inputs_list inputs) ≡ arity name
          → inputs_list inputs ≡ read s.value (net.inputs (codes name)) → s.status (codes name) ≡ Pending
          → (claimed net s w (codes name)).claim w ≡ Some (claim_by codes (task_from name inputs tallies))
      from_claim net w name inputs long ins pending =
          let c0 : Claim = record { job = codes name; inputs = read s.value (net.inputs (codes name)); prior = s.done (codes name) } in
          let job = ap codes (sym (from_name name inputs)) in
          let read_is = sym ins ∙ sym (from_inputs name inputs long) in
          let prior = sym (from_prior name inputs pending) in
          update_same s.claim w (Some c0) ∙ (λ i. Some (record { job = job i; inputs = read_is i; prior = prior i }))

-- ---- what a claim answers

module _ {W T : Type 0} (stands_for : T → ℕ → List Mark → Type 0) (fits : List Mark → Type 0) (does : ℕ → List Mark → List Mark) (work second : W) (b after : BoardView)
    (journal longer : List Entry) (tallies : List (Option (Prior T))) (a : AreTallies leaf_code stands_for fits (state_of b) tallies) (w : ℕ) (name : JobName) (inputs : Inputs) (task : Task T) (left : List (Option (Prior T))) where
  pub is_claimed : IsOfTree name → second ≡ work → task ≡ task_from name inputs tallies → after.leaves ≡ b.leaves → (state_of b).status (code_of name) ≡ Pending
      → length (inputs_list inputs) ≡ arity name → inputs_list inputs ≡ read (state_of b).value (inputs_of (tree_of b.leaves) name)
      → state_of after ≡ claimed (circuit_net does (tree_of b.leaves)) (state_of b) w (code_of name) → longer ≡ journal ++ record { worker = w; job = name; event = ClaimEvent } ∷ []
      → left ≡ tallies_left name tallies
      → IsClaimed does (record { work = work; board = b; journal = journal; tallies = tallies }) (record { work = work; board = after; journal = longer; tallies = left }) w (record { work = second; task = task })
  is_claimed own same task_is leaves pending long ins st more fewer =
      let net = circuit_net does (tree_of b.leaves) in
      let named : task_name task ≡ name = ap task_name task_is ∙ from_name tallies name inputs in
      record {
        of_work = same;
        of_tree = subst IsOfTree (sym named) own;
        work = refl;
        leaves = leaves;
        pending = ap (state_of b).status (ap code_of named) ∙ pending;
        stepped = st ∙ ap (λ n. claimed net (state_of b) w (code_of n)) (sym named);
        held = ap (λ (s : State). s.claim w) st
            ∙ from_claim tallies code_of stands_for fits (state_of b) a (λ v. ap (done_of b.done) (job_of-code (Merge v) tt)) (λ v. ap (done_of b.done) (job_of-code (Correct v) tt)) (λ r. refl)
            net w name inputs long (ins ∙ sym (ap (λ n. read (state_of b).value (inputs_of (tree_of b.leaves) n)) (job_of-code name own))) pending ∙ ap (λ k. Some (claim_of_task k)) (sym task_is);
        others = λ v ne. ap (λ (s : State). s.claim v) st ∙ other_claim (state_of b).claim w (Some (record { job = code_of name; inputs = read (state_of b).value (net.inputs (code_of name)); prior = (state_of b).done (code_of name) })) v ne;
        journal = more ∙ ap (λ n. journal ++ record { worker = w; job = n; event = ClaimEvent } ∷ []) (sym named);
        prior = ap task_prior task_is ∙ takes_prior tallies name inputs ∙ ap (λ n. prior_of n tallies) (sym named);
        tallies = fewer ∙ ap (λ n. tallies_left n tallies) (sym named);
      }
