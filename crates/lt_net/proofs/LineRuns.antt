-- A job of a segment's tree, run in the line, is run in the tree.
use Rattle.std.proofs.Common.{◌≡◌, ℕ, ◌+◌, ◌*◌, ◌<◌, ◌≤◌, inl, inr, Bool, true, false, List, [], ◌∷◌, map, length, Some, None, refl, sym, ap, ◌∙◌, arith}
use Rattle.std.specs.Prelude.{if◌then◌else◌, ◌==◌}
use Rattle.std.specs.List.{AllByRecursion}
use Rattle.std.proofs.lemmas.Bool.Decides.{eqb_tells}
use Rattle.std.proofs.lemmas.List.{length-append}
use Rattle.lt_model.specs.declared.mark.Mark.{Mark}
use Rattle.lt_net.specs.declared.job.JobState.{JobState}
use Rattle.lt_net.specs.declared.job.JobState.TheVariants.{Clean, Running}
use Rattle.lt_net.specs.Net.{Cell, Net, State, Claims, Finishes, has_cell, same_at, read, first_of, update, woken, ended, is_held, is_pending, value_after, status_ended, claimed, opening}
use Rattle.lt_net.specs.Kept.{IsKept}
use Rattle.lt_net.specs.Tree.{gives_of}
use Rattle.lt_net.specs.Codes.{job_of}
use Rattle.lt_net.specs.Line.{AreSizes, effect_in, line_gives, line_inputs, line_leaf, line_net, line_outputs, placed, size_in}
use Rattle.lt_net.specs.Alone.{IsAlone, all_events, claim_for, net_over, ran, run_all, run_events, run_if_pending}
use Rattle.lt_net.specs.LineAlone.{in_segment, tree_in}
use Rattle.lt_net.proofs.Inside.{job_inside}
use Rattle.lt_net.proofs.Lines.{own_done, no_job}
use Rattle.lt_net.proofs.Placed.{own_at, read_placed, unplaced_placed, written, leaf_within}
use Rattle.lt_net.proofs.RowPlaces.{has_same, same_at_placed}
use Rattle.lt_net.proofs.Runs.{cleared}
use Rattle.lt_net.proofs.Shape.{eq_false, eq_true, lt_false, lt_tells, lt_true}

-- the two tests of a code agree
same_place : (k i j : ℕ) → (2048 * k + i == 2048 * k + j) ≡ (i == j)
same_place k i j = elim (eqb_tells i j) [
  | inl h ↦ ap (λ n. 2048 * k + i == 2048 * k + n) (sym h.1) ∙ eq_true (2048 * k + i) ∙ sym h.0
  | inr h ↦ eq_false (2048 * k + i) (2048 * k + j) (λ e. h.1 (omega (arith, e))) ∙ sym h.0
]

module _ (effect : ℕ → List Mark → List Mark) (sizes : List ℕ) (small : AreSizes sizes) (k : ℕ) where
  abbrev line : Net
  line = line_net effect sizes

  abbrev tree : Net
  tree = net_over (effect_in effect k) (size_in sizes k)

  -- ---- the tree's state

  pub low_status : (st : State) (i : ℕ) → i < 2047 → (tree_in k st).status i ≡ st.status (2048 * k + i)
  low_status st i h = ap (λ b. if b then st.status (2048 * k + i) else Clean) (lt_true i 2047 h)

  high_status : (st : State) (i : ℕ) → 2047 ≤ i → (tree_in k st).status i ≡ Clean
  high_status st i h = ap (λ b. if b then st.status (2048 * k + i) else Clean) (lt_false i 2047 h)

  no_inputs : (i : ℕ) → 2047 ≤ i → tree.inputs i ≡ []
  no_inputs i h = by_case (tree.inputs i) refl
    where
      by_case : (cs : List Cell) → tree.inputs i ≡ cs → cs ≡ []
      by_case [] e = refl
      by_case (c ∷ cs) e = absurd (no_job sizes small effect (opening (line_net effect sizes)) k i h (job_inside (size_in sizes k) (job_of i) (λ f. let g : c ∷ cs ≡ [] = sym e ∙ f in cc)))

  module _ (st : State) (a : IsAlone line st) where
    unheld : (code : ℕ) → is_held (st.status code) ≡ true → ⊥
    unheld code e =
        let old = a.kept.holder code e in
        let f : None ≡ Some old.1 = sym (a.free old.0) ∙ old.2 in cc

    idle_at : (i : ℕ) → i < 2047 → tree.inputs i ≡ [] → st.status (2048 * k + i) ≡ Clean
    idle_at i h e = a.kept.idle (2048 * k + i) (ap (line_inputs sizes) (own_at k i h) ∙ ap (map (placed k)) e)

    pub tree_kept : IsKept tree (tree_in k st)
    tree_kept = record {
      clean = λ i e. elim (lt_tells i 2047) [
        | inl h ↦
            let d = own_done sizes small effect st k i h.1 (a.kept.clean (2048 * k + i) (sym (low_status st i h.1) ∙ e)) in
            record { gave = d.gave; last = d.last }
        | inr h ↦ record {
          gave = λ y f. absurd (no_job sizes small effect st k i h.1 (written (size_in sizes k) (job_of i) y f).code);
          last = λ f. absurd (no_job sizes small effect st k i h.1 (leaf_within (size_in sizes k) (job_of i) f));
        }
      ];
      current = λ w c e r. cc;
      captured = λ w c e. cc;
      held = λ w c e. cc;
      single = λ v w b c e f g. cc;
      holder = λ i e. elim (lt_tells i 2047) [
        | inl h ↦ absurd (unheld (2048 * k + i) (ap is_held (sym (low_status st i h.1)) ∙ e))
        | inr h ↦ absurd (let f : false ≡ true = sym (ap is_held (high_status st i h.1)) ∙ e in cc)
      ];
      idle = λ i e. elim (lt_tells i 2047) [
        | inl h ↦ low_status st i h.1 ∙ idle_at i h.1 e
        | inr h ↦ high_status st i h.1
      ];
    }

    pub tree_alone : IsAlone tree (tree_in k st)
    tree_alone = record { kept = tree_kept; free = λ w. refl }

  -- ---- one job

  module _ (st : State) (j : ℕ) (low : j < 2047) where
    ins : read st.value (line.inputs (2048 * k + j)) ≡ read (tree_in k st).value (tree.inputs j)
    ins = ap (λ a. read st.value (line_inputs sizes a)) (own_at k j low) ∙ read_placed st.value k (tree.inputs j)

    outs : line.outputs (2048 * k + j) ≡ map (placed k) (tree.outputs j)
    outs = ap (line_outputs sizes) (own_at k j low)

    leaf : line.is_leaf (2048 * k + j) ≡ tree.is_leaf j
    leaf = ap (line_leaf sizes) (own_at k j low)

    abbrev line_value : Cell → List Mark
    line_value = value_after line (claimed line st 0 (2048 * k + j)) (claim_for line st (2048 * k + j))

    abbrev tree_value : Cell → List Mark
    tree_value = value_after tree (claimed tree (tree_in k st) 0 j) (claim_for tree (tree_in k st) j)

    gave : (y : Cell) → line.gives (2048 * k + j) (read st.value (line.inputs (2048 * k + j))) (placed k y) ≡ tree.gives j (read (tree_in k st).value (tree.inputs j)) y
    gave y =
        ap (λ a. line_gives effect a (read st.value (line.inputs (2048 * k + j))) (placed k y)) (own_at k j low)
        ∙ (λ i. gives_of (effect_in effect k) (job_of j) (ins i) (unplaced_placed k y i))

    value_is : (y : Cell) → line_value (placed k y) ≡ tree_value y
    value_is y =
        let own : has_cell (placed k y) (line.outputs (2048 * k + j)) ≡ has_cell y (tree.outputs j) = ap (has_cell (placed k y)) outs ∙ has_same k y (tree.outputs j) in
        λ i. if own i then gave y i else st.value (placed k y)

    abbrev line_ended : ℕ → JobState
    line_ended = status_ended (claimed line st 0 (2048 * k + j)) (claim_for line st (2048 * k + j))

    abbrev tree_ended : ℕ → JobState
    tree_ended = status_ended (claimed tree (tree_in k st) 0 j) (claim_for tree (tree_in k st) j)

    ended_is : (i : ℕ) → i < 2047 → line_ended (2048 * k + i) ≡ tree_ended i
    ended_is i h =
        let here = same_place k i j in
        let own = same_place k j j in
        let stood = sym (low_status st i h) in
        let own_stood = sym (low_status st j low) in
        λ t. if here t then ended (if own t then Running else own_stood t) else (if here t then Running else stood t)

    changed : (cs : List Cell) → same_at st.value line_value (map (placed k) cs) ≡ same_at (tree_in k st).value tree_value cs
    changed cs = same_at_placed st.value line_value k cs ∙ ap (λ f. same_at (tree_in k st).value f cs) (λ t y. value_is y t)

    status_low : (i : ℕ) → i < 2047 → (ran line st (2048 * k + j)).status (2048 * k + i) ≡ (ran tree (tree_in k st) j).status i
    status_low i h =
        let same : same_at st.value line_value (line.inputs (2048 * k + i)) ≡ same_at (tree_in k st).value tree_value (tree.inputs i) =
        ap (λ a. same_at st.value line_value (line_inputs sizes a)) (own_at k i h) ∙ changed (tree.inputs i) in
        let e = ended_is i h in
        λ t. if same t then e t else woken (e t)

    status_high : (i : ℕ) → 2047 ≤ i → Clean ≡ (ran tree (tree_in k st) j).status i
    status_high i h =
        let other : (i == j) ≡ false = eq_false i j (λ e. omega (arith, e, h, low)) in
        let same : same_at (tree_in k st).value tree_value (tree.inputs i) ≡ true = ap (same_at (tree_in k st).value tree_value) (no_inputs i h) in
        sym (high_status st i h)
        ∙ (λ t. if sym other t then ended (if j == j then Running else (tree_in k st).status j) else (if sym other t then Running else (tree_in k st).status i))
        ∙ ap (λ b. if b then tree_ended i else woken (tree_ended i)) (sym same)

    status_is : (i : ℕ) → (tree_in k (ran line st (2048 * k + j))).status i ≡ (ran tree (tree_in k st) j).status i
    status_is i = elim (lt_tells i 2047) [
      | inl h ↦ low_status (ran line st (2048 * k + j)) i h.1 ∙ status_low i h.1
      | inr h ↦ high_status (ran line st (2048 * k + j)) i h.1 ∙ status_high i h.1
    ]

    done_is : (i : ℕ) → (ran line st (2048 * k + j)).done (2048 * k + i) ≡ (ran tree (tree_in k st) j).done i
    done_is i =
        ap (λ b. (if b then update st.done (2048 * k + j) (Some (first_of (read st.value (line.inputs (2048 * k + j))))) else st.done) (2048 * k + i)) leaf
        ∙ by_leaf (tree.is_leaf j)
      where
        by_leaf : (b : Bool) → (if b then update st.done (2048 * k + j) (Some (first_of (read st.value (line.inputs (2048 * k + j))))) else st.done) (2048 * k + i)
            ≡ (if b then update (tree_in k st).done j (Some (first_of (read (tree_in k st).value (tree.inputs j)))) else (tree_in k st).done) i
        by_leaf true = let here = same_place k i j in λ t. if here t then Some (first_of (ins t)) else st.done (2048 * k + i)
        by_leaf false = refl

    ran_is : tree_in k (ran line st (2048 * k + j)) ≡ ran tree (tree_in k st) j
    ran_is = λ t. record {
      value = λ y. value_is y t;
      status = λ i. status_is i t;
      done = λ i. done_is i t;
      claim = λ w. sym (cleared (tree_in k st) (claim_for tree (tree_in k st) j) (λ v. refl) w) t;
    }

    pub run_is : tree_in k (run_if_pending line st (2048 * k + j)) ≡ run_if_pending tree (tree_in k st) j
    run_is = by_case (is_pending (st.status (2048 * k + j))) ∙ ap (λ s. if is_pending s then ran tree (tree_in k st) j else tree_in k st) (sym (low_status st j low))
      where
        by_case : (b : Bool) → tree_in k (if b then ran line st (2048 * k + j) else st) ≡ (if b then ran tree (tree_in k st) j else tree_in k st)
        by_case true = ran_is
        by_case false = refl

    pub events_long : length (run_events line st (2048 * k + j)) ≡ length (run_events tree (tree_in k st) j)
    events_long = by_case (is_pending (st.status (2048 * k + j))) ∙ ap (λ s. length (if is_pending s then Claims 0 j ∷ Finishes 0 j ∷ [] else [])) (sym (low_status st j low))
      where
        by_case : (b : Bool) → length (if b then Claims 0 (2048 * k + j) ∷ Finishes 0 (2048 * k + j) ∷ [] else []) ≡ length (if b then Claims 0 j ∷ Finishes 0 j ∷ [] else [])
        by_case true = refl
        by_case false = refl

  -- ---- many jobs

  pub runs_are : (places : List ℕ) → AllByRecursion (λ j. j < 2047) places → (st : State) → tree_in k (run_all line st (in_segment k places)) ≡ run_all tree (tree_in k st) places
  runs_are [] low st = refl
  runs_are (j ∷ js) low st =
      runs_are js low.1 (run_if_pending line st (2048 * k + j)) ∙ ap (λ s. run_all tree s js) (run_is st j low.0)

  pub runs_long : (places : List ℕ) → AllByRecursion (λ j. j < 2047) places → (st : State) → length (all_events line st (in_segment k places)) ≡ length (all_events tree (tree_in k st) places)
  runs_long [] low st = refl
  runs_long (j ∷ js) low st =
      let next = run_if_pending line st (2048 * k + j) in
      length-append (run_events line st (2048 * k + j)) (all_events line next (in_segment k js))
      ∙ (λ t. events_long st j low.0 t + (runs_long js low.1 next ∙ ap (λ s. length (all_events tree s js)) (run_is st j low.0)) t)
      ∙ sym (length-append (run_events tree (tree_in k st) j) (all_events tree (run_if_pending tree (tree_in k st) j) js))
