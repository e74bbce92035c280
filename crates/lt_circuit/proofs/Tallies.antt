-- What the events keep of the tallies.
use Rattle.std.proofs.Common.{◌≡◌, ◌≢◌, ℕ, ◌<◌, inl, inr, Bool, true, false, List, Option, Some, None, length, get_or, set, refl, sym, ap, ◌∙◌, subst, get_or-set_same, get_or-set_other}
use Rattle.std.specs.Prelude.{if◌then◌else◌}
use Rattle.std.proofs.lemmas.Bool.Decides.{eqb_tells}
use Rattle.lt_model.specs.declared.mark.Mark.{Mark}
use Rattle.lt_net.specs.declared.job.JobState.TheVariants.{Pending, Running}
use Rattle.lt_net.specs.declared.job.JobName.{JobName}
use Rattle.lt_net.specs.declared.job.JobName.TheVariants.{Leaf, Merge, Correct, Pass}
use Rattle.lt_net.specs.Net.{Net, State, Claim, first_of, is_held, ended, same_at, update, value_after, status_ended, claimed, finished, abandoned}
use Rattle.lt_net.specs.Codes.{code_of}
use Rattle.lt_net.proofs.Codes.{same_leaf, merge_no_leaf, correct_no_leaf, pass_no_leaf}
use Rattle.lt_net.proofs.Kept.{at_update, still_held, update_same}
use Rattle.lt_circuit.specs.declared.task.Prior.{Prior}
use Rattle.lt_circuit.specs.declared.task.Task.{Task}
use Rattle.lt_circuit.specs.declared.task.Task.TheVariants.{Leaf as LeafTask, Merge as MergeTask, Correct as CorrectTask, Pass as PassTask}
use Rattle.lt_circuit.specs.declared.task.Done.{Done}
use Rattle.lt_circuit.specs.declared.task.Done.TheVariants.{Leaf as LeafDone, Merge as MergeDone, Correct as CorrectDone, Pass as PassDone}
use Rattle.lt_circuit.specs.Circuit.{IsTally, AreTallies}
use Rattle.lt_circuit.specs.Job.{tallies_left, tallies_back, tallies_done, task_name, task_prior, prior_correction, done_name, IsPrior, HasTally, done_inputs}

prior_is : {T : Type 0} (o : Option (Prior T)) (c : List Mark) → prior_correction o ≡ Some c → (p : Prior T) × (o ≡ Some p)
prior_is None c e = cc
prior_is (Some p) c e = (p, refl)

-- a leaf has a code of its own
pub record AreCodes (codes : JobName → ℕ) : Type 0 where
  pub leaf : (i l : ℕ) → codes (Leaf i) ≡ codes (Leaf l) → i ≡ l
  pub merge : (v i : ℕ) → codes (Merge v) ≢ codes (Leaf i)
  pub correct : (v i : ℕ) → codes (Correct v) ≢ codes (Leaf i)
  pub pass : (s i : ℕ) → codes (Pass s) ≢ codes (Leaf i)

pub tree_codes : AreCodes code_of
tree_codes = record { leaf = same_leaf; merge = merge_no_leaf; correct = correct_no_leaf; pass = pass_no_leaf }

module _ {T : Type 0} (codes : JobName → ℕ) (laws : AreCodes codes) (stands_for : T → ℕ → List Mark → Type 0) (fits : List Mark → Type 0) where
  abbrev of_leaf : ℕ → ℕ
  of_leaf i = codes (Leaf i)

  -- what an event leaves of one leaf's tally
  pub record IsOwn (t : State) (tallies : List (Option (Prior T))) (i : ℕ) : Type 0 where
    each : (p : Prior T) → get_or tallies i None ≡ Some p → IsTally of_leaf stands_for fits t i p
    there : (c : List Mark) → t.done (codes (Leaf i)) ≡ Some c → is_held (t.status (codes (Leaf i))) ≡ false → (p : Prior T) × (get_or tallies i None ≡ Some p)

  -- an event of the job j changes nothing of the other leaves
  module _ (s t : State) (before after : List (Option (Prior T))) (j : ℕ) (a : AreTallies of_leaf stands_for fits s before)
      (done_other : (k : ℕ) → k ≢ j → t.done k ≡ s.done k) (held_other : (k : ℕ) → k ≢ j → is_held (t.status k) ≡ is_held (s.status k))
      (place_other : (i : ℕ) → codes (Leaf i) ≢ j → get_or after i None ≡ get_or before i None) (own : (i : ℕ) → codes (Leaf i) ≡ j → IsOwn t after i) where
    pub tallies_step : AreTallies of_leaf stands_for fits t after
    tallies_step = record {
      each = λ i p e. elim (eqb_tells (codes (Leaf i)) j) [
        | inl h ↦ (own i h.1).each p e
        | inr h ↦ let k = a.each i p (sym (place_other i h.1) ∙ e) in record { last = done_other (codes (Leaf i)) h.1 ∙ k.last; fit = k.fit; stands = k.stands }
      ];
      there = λ i c d e. elim (eqb_tells (codes (Leaf i)) j) [
        | inl h ↦ (own i h.1).there c d e
        | inr h ↦
            let k = a.there i c (sym (done_other (codes (Leaf i)) h.1) ∙ d) (sym (held_other (codes (Leaf i)) h.1) ∙ e) in
            (k.0, place_other i h.1 ∙ k.1)
      ];
    }

  update_other : {X : Type 0} (f : ℕ → X) (j : ℕ) (v : X) (k : ℕ) → k ≢ j → update f j v k ≡ f k
  update_other f j v k ne = elim (at_update f j v k) [ inl h ↦ absurd (ne h.0) | inr h ↦ h.1 ]

  set_other : (xs : List (Option (Prior T))) (l i : ℕ) (x : Option (Prior T)) → codes (Leaf i) ≢ codes (Leaf l) → get_or (set xs l x) i None ≡ get_or xs i None
  set_other xs l i x ne = get_or-set_other xs l i x None (λ e. ne (ap (λ n. codes (Leaf n)) e))

  set_own : (xs : List (Option (Prior T))) (l i : ℕ) (x : Option (Prior T)) → l < length xs → codes (Leaf i) ≡ codes (Leaf l) → get_or (set xs l x) i None ≡ x
  set_own xs l i x h e = ap (λ n. get_or (set xs l x) n None) (laws.leaf i l e) ∙ get_or-set_same xs l x None h

  module _ (s : State) (tallies : List (Option (Prior T))) (a : AreTallies of_leaf stands_for fits s tallies) (w : ℕ) where
    -- ---- a claim
    pub claim_tallies : (net : Net) (name : JobName) → ((l : ℕ) → name ≡ Leaf l → l < length tallies) → AreTallies of_leaf stands_for fits (claimed net s w (codes name)) (tallies_left name tallies)
    claim_tallies net name inside =
        tallies_step s (claimed net s w (codes name)) tallies (tallies_left name tallies) (codes name) a
        (λ k ne. refl) (λ k ne. ap is_held (update_other s.status (codes name) Running k ne)) (others name) (own name inside)
      where
        others : (name : JobName) (i : ℕ) → codes (Leaf i) ≢ codes name → get_or (tallies_left name tallies) i None ≡ get_or tallies i None
        others (Leaf l) i ne = set_other tallies l i None ne
        others (Merge v) i ne = refl
        others (Correct v) i ne = refl
        others (Pass r) i ne = refl

        own : (name : JobName) → ((l : ℕ) → name ≡ Leaf l → l < length tallies) → (i : ℕ) → codes (Leaf i) ≡ codes name → IsOwn (claimed net s w (codes name)) (tallies_left name tallies) i
        own (Leaf l) inside i e =
            let gone : get_or (set tallies l None) i None ≡ None = set_own tallies l i None (inside l refl) e in
            let runs : update s.status (codes (Leaf l)) Running (codes (Leaf i)) ≡ Running = ap (update s.status (codes (Leaf l)) Running) e ∙ update_same s.status (codes (Leaf l)) Running in
            record {
              each = λ p f. absurd (let g : None ≡ Some p = sym gone ∙ f in cc);
              there = λ c d f. absurd (let g : true ≡ false = sym (ap is_held runs) ∙ f in cc);
            }
        own (Merge v) inside i e = absurd (laws.merge v i (sym e))
        own (Correct v) inside i e = absurd (laws.correct v i (sym e))
        own (Pass r) inside i e = absurd (laws.pass r i (sym e))

    -- ---- an abandoned claim
    pub abandon_tallies : (task : Task T) (c : Claim) → c.job ≡ codes (task_name task) → prior_correction (task_prior task) ≡ s.done (codes (task_name task))
        → ((l : ℕ) → task_name task ≡ Leaf l → l < length tallies × IsPrior stands_for fits l (task_prior task))
        → AreTallies of_leaf stands_for fits (abandoned s w c) (tallies_back task tallies)
    abandon_tallies task c job captured inside =
        tallies_step s (abandoned s w c) tallies (tallies_back task tallies) c.job a
        (λ k ne. refl) (λ k ne. ap is_held (update_other s.status c.job Pending k ne)) (others task job) (own task job captured inside)
      where
        others : (task : Task T) → c.job ≡ codes (task_name task) → (i : ℕ) → codes (Leaf i) ≢ c.job → get_or (tallies_back task tallies) i None ≡ get_or tallies i None
        others (LeafTask l correction prior) job i ne = set_other tallies l i prior (λ e. ne (e ∙ sym job))
        others (MergeTask v left right) job i ne = refl
        others (CorrectTask v correction left) job i ne = refl
        others (PassTask r correction effect) job i ne = refl

        own : (task : Task T) → c.job ≡ codes (task_name task) → prior_correction (task_prior task) ≡ s.done (codes (task_name task))
            → ((l : ℕ) → task_name task ≡ Leaf l → l < length tallies × IsPrior stands_for fits l (task_prior task))
            → (i : ℕ) → codes (Leaf i) ≡ c.job → IsOwn (abandoned s w c) (tallies_back task tallies) i
        own (LeafTask l correction prior) job captured inside i e =
            let at : codes (Leaf i) ≡ codes (Leaf l) = e ∙ job in
            let same = laws.leaf i l at in
            let back : get_or (set tallies l prior) i None ≡ prior = set_own tallies l i prior (inside l refl).0 at in
            record {
              each = λ p f.
                  let q : prior ≡ Some p = sym back ∙ f in
                  let k = subst (IsPrior stands_for fits l) q (inside l refl).1 in
                  record {
                    last = ap s.done at ∙ sym captured ∙ ap prior_correction q;
                    fit = k.0;
                    stands = subst (λ n. stands_for p.tally n p.correction) (sym same) k.1;
                  };
              there = λ m d f.
                  let k = prior_is prior m (captured ∙ sym (ap s.done at) ∙ d) in
                  (k.0, back ∙ k.1);
            }
        own (MergeTask v left right) job captured inside i e = absurd (laws.merge v i (sym (e ∙ job)))
        own (CorrectTask v correction left) job captured inside i e = absurd (laws.correct v i (sym (e ∙ job)))
        own (PassTask r correction effect) job captured inside i e = absurd (laws.pass r i (sym (e ∙ job)))

    -- ---- a finished claim
    module _ (net : Net) (c : Claim) where
      done_other : (b : Bool) (k : ℕ) → k ≢ c.job → (if b then update s.done c.job (Some (first_of c.inputs)) else s.done) k ≡ s.done k
      done_other false k ne = refl
      done_other true k ne = update_other s.done c.job (Some (first_of c.inputs)) k ne

      held_other : (k : ℕ) → k ≢ c.job → is_held ((finished net s w c).status k) ≡ is_held (s.status k)
      held_other k ne =
          still_held (same_at s.value (value_after net s c) (net.inputs k)) (status_ended s c k)
          ∙ ap is_held (update_other s.status c.job (ended (s.status c.job)) k ne)

      pub finish_tallies : (did : Done T) → c.job ≡ codes (done_name did) → c.inputs ≡ done_inputs did → HasTally stands_for fits did
          → ((l : ℕ) → done_name did ≡ Leaf l → l < length tallies × (net.is_leaf c.job ≡ true))
          → AreTallies of_leaf stands_for fits (finished net s w c) (tallies_done did tallies)
      finish_tallies did job ins ok inside =
          tallies_step s (finished net s w c) tallies (tallies_done did tallies) c.job a
          (done_other (net.is_leaf c.job)) held_other (others did job) (own did job ins ok inside)
        where
          others : (did : Done T) → c.job ≡ codes (done_name did) → (i : ℕ) → codes (Leaf i) ≢ c.job → get_or (tallies_done did tallies) i None ≡ get_or tallies i None
          others (LeafDone l tally kept prior effect) job i ne = set_other tallies l i (Some tally) (λ e. ne (e ∙ sym job))
          others (MergeDone v left right effect) job i ne = refl
          others (CorrectDone v correction left to_right) job i ne = refl
          others (PassDone r correction effect next) job i ne = refl

          own : (did : Done T) → c.job ≡ codes (done_name did) → c.inputs ≡ done_inputs did → HasTally stands_for fits did
              → ((l : ℕ) → done_name did ≡ Leaf l → l < length tallies × (net.is_leaf c.job ≡ true))
              → (i : ℕ) → codes (Leaf i) ≡ c.job → IsOwn (finished net s w c) (tallies_done did tallies) i
          own (LeafDone l tally kept prior effect) job ins ok inside i e =
              let at : codes (Leaf i) ≡ codes (Leaf l) = e ∙ job in
              let same = laws.leaf i l at in
              let new : get_or (set tallies l (Some tally)) i None ≡ Some tally = set_own tallies l i (Some tally) (inside l refl).0 at in
              let leaf : net.is_leaf c.job ≡ true = (inside l refl).1 in
              let last : (finished net s w c).done (codes (Leaf i)) ≡ Some tally.correction =
              ap (λ b. (if b then update s.done c.job (Some (first_of c.inputs)) else s.done) (codes (Leaf i))) leaf
              ∙ ap (update s.done c.job (Some (first_of c.inputs))) e ∙ update_same s.done c.job (Some (first_of c.inputs)) ∙ ap (λ xs. Some (first_of xs)) ins in
              record {
                each = λ p f.
                    let g : Some tally ≡ Some p = sym new ∙ f in
                    let q : tally ≡ p = cc in
                    subst (IsTally of_leaf stands_for fits (finished net s w c) i) q
                    (record { last = last; fit = ok.0; stands = subst (λ n. stands_for tally.tally n tally.correction) (sym same) ok.1 });
                there = λ m d f. (tally, new);
              }
          own (MergeDone v left right effect) job ins ok inside i e = absurd (laws.merge v i (sym (e ∙ job)))
          own (CorrectDone v correction left to_right) job ins ok inside i e = absurd (laws.correct v i (sym (e ∙ job)))
          own (PassDone r correction effect next) job ins ok inside i e = absurd (laws.pass r i (sym (e ∙ job)))
