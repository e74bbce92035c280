-- A row of segments is a net. What its front leaves behind is serial, and stays.
use Rattle.std.proofs.Common.{◌≡◌, ℕ, zero, suc, ◌+◌, ◌*◌, ◌/◌, ◌%◌, ◌<◌, ◌≤◌, inl, inr, Bool, true, false, List, [], ◌∷◌, map, length, Some, refl, sym, ap, ◌∙◌, subst, arith, add-one}
use Rattle.std.specs.Prelude.{if◌then◌else◌, nat_lt}
use Rattle.std.specs.List.{AllByRecursion}
use Rattle.lt_model.specs.declared.mark.Mark.{Mark}
use Rattle.lt_model.specs.Marks.{AreMarks, and_then}
use Rattle.lt_model.proofs.Composition.{AreMarks-and_then}
use Rattle.lt_net.specs.declared.job.JobName.{JobName}
use Rattle.lt_net.specs.declared.job.JobName.TheVariants.{Leaf, Merge}
use Rattle.lt_net.specs.Kept.{IsDone, IsKept, IsBare}
use Rattle.lt_net.specs.Net.{Cell, Correction, Effect, State, Event, has_cell, read, first_of, replay, opening, IsSettled}
use Rattle.lt_net.specs.Tree.{Tree, Tip, Fork, leaves, node_of, node_in, inputs_of, outputs_of, gives_of, circuit_net, tree_of, halved_tree, leaf_value}
use Rattle.lt_net.specs.Codes.{code_of, job_of, codes_over}
use Rattle.lt_net.specs.Line.{LineJob, Own, Pass, AreSizes, GiveMarksIn, IsPast, IsSameBelow, IsSerialBelow, IsSerialFrom, before_segment, effect_in, hands_on, line_code, line_gives, line_inputs, line_job, line_leaf, line_net, line_outputs, line_starts, part, placed, size_in, unplaced}
use Rattle.lt_net.proofs.Kept.{IsNet, opening_kept, replay_kept, replay_bare, reached_bare}
use Rattle.lt_net.proofs.Shape.{lt_tells, lt_true, tree_leaves}
use Rattle.lt_net.proofs.Codes.{code_of-job}
use Rattle.lt_net.proofs.Cells.{first_has}
use Rattle.lt_net.proofs.Fitting.{IsClosed, AllFit, name_gives, opening_fits, replay_fits}
use Rattle.lt_net.proofs.Jobs.{has_one, has_two, same_writer, quiet, unread}
use Rattle.lt_net.proofs.Past.{AreApart, IsUntouched, replay_untouched}
use Rattle.lt_net.proofs.Serial.{root_free, serial_from}
use Rattle.lt_net.proofs.Solve.{then_from}
use Rattle.lt_net.proofs.Placed.{own_at, pass_at, own_back, own_written, code_back, same_line_job, segment_of, segment_at, node_at, unplaced_placed, placed_same, placed_in, has_placed, read_placed, written, leaf_within, read_within}

-- ---- the jobs of a row

module _ (sizes : List ℕ) (small : AreSizes sizes) where
  -- what a job writes
  abbrev IsWrite : LineJob → Cell → Type 0
  IsWrite (Own s name) x = (y : Cell) × (x ≡ placed s y) × (has_cell y (outputs_of (tree_of (size_in sizes s)) name) ≡ true) × (node_at y < 511) × (code_of name < 1534)
  IsWrite (Pass s) x = (x ≡ placed (s + 1) (Correction 0)) × (hands_on sizes s ≡ true)

  pub is_write : (a : LineJob) (x : Cell) → has_cell x (line_outputs sizes a) ≡ true → IsWrite a x
  is_write (Own s name) x e =
      let p = placed_in s x (outputs_of (tree_of (size_in sizes s)) name) e in
      let w = written (size_in sizes s) name p.0 p.2 in
      (p.0, p.1, p.2, omega (arith, w.node, small.few s), omega (arith, w.code, small.few s))
  is_write (Pass s) x e = by_case (hands_on sizes s) refl e
    where
      by_case : (b : Bool) → hands_on sizes s ≡ b → has_cell x (if b then placed (s + 1) (Correction 0) ∷ [] else []) ≡ true → (x ≡ placed (s + 1) (Correction 0)) × (hands_on sizes s ≡ true)
      by_case true h f = (has_one x (placed (s + 1) (Correction 0)) f, h)
      by_case false h f = cc

  pub is_read : (a : LineJob) (x : Cell) → has_cell x (line_inputs sizes a) ≡ true → (y : Cell) × (x ≡ placed (segment_of a) y) × (node_at y < 511)
  is_read (Own s name) x e =
      let p = placed_in s x (inputs_of (tree_of (size_in sizes s)) name) e in
      (p.0, p.1, omega (arith, read_within (size_in sizes s) name p.0 p.2, small.few s))
  is_read (Pass s) x e = by_case (hands_on sizes s) e
    where
      by_case : (b : Bool) → has_cell x (if b then placed s (Correction 0) ∷ placed s (Effect 0) ∷ [] else []) ≡ true → (y : Cell) × (x ≡ placed s y) × (node_at y < 511)
      by_case true f = elim (has_two x (placed s (Correction 0)) (placed s (Effect 0)) f) [
        | inl h ↦ (Correction 0, h, omega arith)
        | inr h ↦ (Effect 0, h, omega arith)
      ]
      by_case false f = cc

  -- a job reads of its own segment's jobs, and of the Pass before it
  feeds_at : (a b : LineJob) (x y : Cell) → x ≡ placed (segment_of a) y → node_at y < 511 → IsWrite b x → line_code b + 1 < 2048 * (segment_of a + 1)
  feeds_at a (Own r name) x y at low w =
      let e : placed (segment_of a) y ≡ placed r w.0 = sym at ∙ w.1 in
      let s = (placed_same (segment_of a) r y w.0 (omega (arith, low)) (omega (arith, w.3)) e).0 in
      omega (arith, s, w.4)
  feeds_at a (Pass r) x y at low w =
      let e : placed (segment_of a) y ≡ placed (r + 1) (Correction 0) = sym at ∙ w.0 in
      let s = (placed_same (segment_of a) (r + 1) y (Correction 0) (omega (arith, low)) (omega arith) e).0 in
      omega (arith, s)

  pub feeds : (a b : LineJob) (x : Cell) → has_cell x (line_inputs sizes a) ≡ true → has_cell x (line_outputs sizes b) ≡ true → line_code b + 1 < 2048 * (segment_of a + 1)
  feeds a b x p q = let y = is_read a x p in feeds_at a b x y.0 y.1 y.2 (is_write b x q)

  -- the segment's root has its correction of no job of its own
  not_root : (s : ℕ) (name : JobName) (y : Cell) → has_cell y (outputs_of (tree_of (size_in sizes s)) name) ≡ true → y ≡ Correction 0 → ⊥
  not_root s name y e f =
      let a : true ≡ false = sym e ∙ ap (λ c. has_cell c (outputs_of (tree_of (size_in sizes s)) name)) f ∙ root_free (tree_of (size_in sizes s)) name in
      cc

  own_writer : (s r : ℕ) (a b : JobName) (x : Cell) → IsWrite (Own s a) x → IsWrite (Own r b) x → Own s a ≡ Own r b
  own_writer s r a b x p q =
      let e = placed_same s r p.0 q.0 (omega (arith, p.3)) (omega (arith, q.3)) (sym p.1 ∙ q.1) in
      let moved : has_cell q.0 (outputs_of (tree_of (size_in sizes s)) b) ≡ true =
      subst (λ m. has_cell q.0 (outputs_of (tree_of (size_in sizes m)) b) ≡ true) (sym e.0) q.2 in
      let there : has_cell p.0 (outputs_of (tree_of (size_in sizes s)) b) ≡ true =
      subst (λ y. has_cell y (outputs_of (tree_of (size_in sizes s)) b) ≡ true) (sym e.1) moved in
      let name : a ≡ b = same_writer (tree_of (size_in sizes s)) p.0 a b p.2 there in
      λ i. Own (e.0 i) (name i)

  pass_apart : (s r : ℕ) (a : JobName) (x : Cell) → IsWrite (Own s a) x → IsWrite (Pass r) x → ⊥
  pass_apart s r a x p q =
      let e = placed_same s (r + 1) p.0 (Correction 0) (omega (arith, p.3)) (omega arith) (sym p.1 ∙ q.0) in
      not_root s a p.0 p.2 e.1

  line_writer : (a b : LineJob) (x : Cell) → IsWrite a x → IsWrite b x → a ≡ b
  line_writer (Own s a) (Own r b) x p q = own_writer s r a b x p q
  line_writer (Own s a) (Pass r) x p q = absurd (pass_apart s r a x p q)
  line_writer (Pass s) (Own r b) x p q = absurd (pass_apart r s b x q p)
  line_writer (Pass s) (Pass r) x p q =
      let e : placed (s + 1) (Correction 0) ≡ placed (r + 1) (Correction 0) = sym p.0 ∙ q.0 in
      let f = (placed_same (s + 1) (r + 1) (Correction 0) (Correction 0) (omega arith) (omega arith) e).0 in
      let g : s ≡ r = omega (arith, f) in
      ap Pass g

  module _ (effect : ℕ → List Mark → List Mark) where
    line_quiet : (a : LineJob) (x : Cell) → line_starts sizes a ≡ false → has_cell x (line_outputs sizes a) ≡ true
        → line_gives effect a (read (λ y. []) (line_inputs sizes a)) x ≡ []
    line_quiet (Own s name) x p e =
        let t = tree_of (size_in sizes s) in
        let w = placed_in s x (outputs_of (tree_of (size_in sizes s)) name) e in
        let at : unplaced s x ≡ w.0 = ap (unplaced s) w.1 ∙ unplaced_placed s w.0 in
        let ins : read (λ y. []) (map (placed s) (inputs_of (tree_of (size_in sizes s)) name)) ≡ read (λ y. []) (inputs_of (tree_of (size_in sizes s)) name) =
        read_placed (λ y. []) s (inputs_of (tree_of (size_in sizes s)) name) in
        (λ i. gives_of (effect_in effect s) name (ins i) (at i)) ∙ quiet (effect_in effect s) (tree_of (size_in sizes s)) name w.0 p w.2
    line_quiet (Pass s) x p e = absurd (let f : true ≡ false = sym (is_write (Pass s) x e).1 ∙ p in cc)

    line_unread : (a : LineJob) → line_inputs sizes a ≡ [] → line_starts sizes a ≡ false
    line_unread (Own s name) e = unread (effect_in effect s) (tree_of (size_in sizes s)) name (none_placed (inputs_of (tree_of (size_in sizes s)) name) e)
      where
        none_placed : (cs : List Cell) → map (placed s) cs ≡ [] → cs ≡ []
        none_placed [] f = refl
        none_placed (c ∷ cs) f = cc
    line_unread (Pass s) e = by_case (hands_on sizes s) e
      where
        by_case : (b : Bool) → (if b then placed s (Correction 0) ∷ placed s (Effect 0) ∷ [] else []) ≡ [] → b ≡ false
        by_case true f = cc
        by_case false f = refl

    leaf_starts : (a : LineJob) → line_leaf sizes a ≡ true → line_starts sizes a ≡ true
    leaf_starts (Own s name) e = e
    leaf_starts (Pass s) e = cc

    pub line_is_net : IsNet (line_net effect sizes)
    line_is_net = record {
      one_writer = λ x j k p q. same_line_job j k (line_writer (line_job j) (line_job k) x (is_write (line_job j) x p) (is_write (line_job k) x q));
      quiet = λ j x p e. line_quiet (line_job j) x p e;
      unread = λ j e. line_unread (line_job j) e;
      leaves_start = λ j e. leaf_starts (line_job j) e;
    }

    -- the segments below f read nothing of those behind them
    pub below_apart : (f : ℕ) → AreApart (line_net effect sizes) line_is_net (λ code. code + 1 < 2048 * f)
    below_apart f = record {
      closed = λ j k x here p q.
          let fed : line_code (line_job k) + 1 < 2048 * (segment_of (line_job j) + 1) = feeds (line_job j) (line_job k) x p q in
          let from : line_code (line_job k) ≡ k = code_back k in
          let at : segment_of (line_job j) ≡ j / 2048 = segment_at (j / 2048) (j % 2048) in
          omega (arith, fed, from, at, here);
    }

    pub line_kept : (events : List Event) (st : State) → replay (line_net effect sizes) (Some (opening (line_net effect sizes))) events ≡ Some st → IsKept (line_net effect sizes) st
    line_kept events st h = replay_kept (line_net effect sizes) line_is_net events (opening (line_net effect sizes)) st (opening_kept (line_net effect sizes) line_is_net) h

    -- ---- marks at each cell

    module _ (P : List Mark → Type 0) (none : P []) (both : (a b : List Mark) → P a → P b → P (and_then a b)) (does : (s i : ℕ) (c : List Mark) → i < size_in sizes s → P c → P (effect_in effect s i c)) where
      line_closed : (a : LineJob) (ins : List (List Mark)) (x : Cell) → has_cell x (line_outputs sizes a) ≡ true → AllByRecursion P ins → P (line_gives effect a ins x)
      line_closed (Own s name) ins x e h =
          let w = placed_in s x (outputs_of (tree_of (size_in sizes s)) name) e in
          let at : unplaced s x ≡ w.0 = ap (unplaced s) w.1 ∙ unplaced_placed s w.0 in
          subst (λ y. P (gives_of (effect_in effect s) name ins y)) (sym at) (name_gives P (effect_in effect s) (size_in sizes s) none both (does s) name ins w.0 w.2 h)
      line_closed (Pass s) ins x e h = two_fit ins h
        where
          two_fit : (ins : List (List Mark)) → AllByRecursion P ins → P (line_gives effect (Pass s) ins x)
          two_fit [] h = both [] [] none none
          two_fit (a ∷ []) h = both a [] h.0 none
          two_fit (a ∷ b ∷ cs) h = both a b h.0 h.1.0

      pub line_fits : (events : List Event) (st : State) → replay (line_net effect sizes) (Some (opening (line_net effect sizes))) events ≡ Some st → AllFit P st
      line_fits events st h =
          let closed : IsClosed P (line_net effect sizes) = record { empty = none; gives = λ j ins x e a. line_closed (line_job j) ins x e a } in
          replay_fits P (line_net effect sizes) closed events (opening (line_net effect sizes)) st (opening_fits P (line_net effect sizes) closed) h

    -- ---- the trees of a row

    module _ (st : State) where
      abbrev GaveAt : LineJob → Type 0
      GaveAt a = (x : Cell) → has_cell x (line_outputs sizes a) ≡ true → st.value x ≡ line_gives effect a (read st.value (line_inputs sizes a)) x

      abbrev LastAt : ℕ → LineJob → Type 0
      LastAt code a = line_leaf sizes a ≡ true → st.done code ≡ Some (first_of (read st.value (line_inputs sizes a)))

      module _ (s c : ℕ) (low : c < 2047) (done : IsDone (line_net effect sizes) st (2048 * s + c)) where
        own_gave : GaveAt (Own s (job_of c))
        own_gave = subst GaveAt (own_at s c low) done.gave

        own_last : LastAt (2048 * s + c) (Own s (job_of c))
        own_last = subst (LastAt (2048 * s + c)) (own_at s c low) done.last

        pub own_done : IsDone (circuit_net (effect_in effect s) (tree_of (size_in sizes s))) (part s st) c
        own_done = record {
          gave = λ y e.
              let at : unplaced s (placed s y) ≡ y = unplaced_placed s y in
              let ins : read st.value (map (placed s) (inputs_of (tree_of (size_in sizes s)) (job_of c))) ≡ read (part s st).value (inputs_of (tree_of (size_in sizes s)) (job_of c)) =
              read_placed st.value s (inputs_of (tree_of (size_in sizes s)) (job_of c)) in
              own_gave (placed s y) (has_placed s y (outputs_of (tree_of (size_in sizes s)) (job_of c)) e) ∙ (λ i. gives_of (effect_in effect s) (job_of c) (ins i) (at i));
          last = λ leaf. own_last leaf ∙ ap (λ ins. Some (first_of ins)) (read_placed st.value s (inputs_of (tree_of (size_in sizes s)) (job_of c)));
        }

      -- codes behind those of the tree are no jobs
      pub no_job : (s c : ℕ) → 2047 ≤ c → code_of (job_of c) < codes_over (size_in sizes s) → ⊥
      no_job s c h k = omega (arith, h, k, code_of-job c, small.few s)

      module _ (s : ℕ) (done : (c : ℕ) → c < 2047 → IsDone (line_net effect sizes) st (2048 * s + c)) where
        pub part_done : (c : ℕ) → IsDone (circuit_net (effect_in effect s) (tree_of (size_in sizes s))) (part s st) c
        part_done c = elim (lt_tells c 2047) [
          | inl h ↦ own_done s c h.1 (done c h.1)
          | inr h ↦ record {
            gave = λ y e. absurd (no_job s c h.1 (written (size_in sizes s) (job_of c) y e).code);
            last = λ leaf. absurd (no_job s c h.1 (leaf_within (size_in sizes s) (job_of c) leaf));
          }
        ]

      -- no job gives a cell
      unwritten : (x : Cell) → ((a : LineJob) → IsWrite a x → ⊥) → (j : ℕ) → has_cell x ((line_net effect sizes).outputs j) ≡ false
      unwritten x none j = by_case (has_cell x (line_outputs sizes (line_job j))) refl
        where
          by_case : (b : Bool) → has_cell x (line_outputs sizes (line_job j)) ≡ b → b ≡ false
          by_case true e = absurd (none (line_job j) (is_write (line_job j) x e))
          by_case false e = refl

      module _ (bare : IsBare (line_net effect sizes) st) where
        pub first_root : st.value (placed 0 (Correction 0)) ≡ []
        first_root = bare (placed 0 (Correction 0)) (unwritten (placed 0 (Correction 0)) none)
          where
            none : (a : LineJob) → IsWrite a (placed 0 (Correction 0)) → ⊥
            none (Own s name) w =
                let e = placed_same 0 s (Correction 0) w.0 (omega arith) (omega (arith, w.3)) w.1 in
                not_root s name w.0 w.2 (sym e.1)
            none (Pass s) w =
                let e = (placed_same 0 (s + 1) (Correction 0) (Correction 0) (omega arith) (omega arith) w.0).0 in
                omega (arith, e)

        pub empty_root : (s : ℕ) → size_in sizes s ≡ 0 → st.value (placed s (Effect 0)) ≡ []
        empty_root s e = bare (placed s (Effect 0)) (unwritten (placed s (Effect 0)) none)
          where
            none : (a : LineJob) → IsWrite a (placed s (Effect 0)) → ⊥
            none (Own r name) w =
                let f = placed_same s r (Effect 0) w.0 (omega arith) (omega (arith, w.3)) w.1 in
                let g : size_in sizes r ≡ 0 = ap (size_in sizes) (sym f.0) ∙ e in
                let h = (written (size_in sizes r) name w.0 w.2).node in
                omega (arith, g, h)
            none (Pass r) w = let f : placed s (Effect 0) ≡ placed (r + 1) (Correction 0) = w.0 in cc

        module _ (k : IsKept (line_net effect sizes) st) (marks : (x : Cell) → AreMarks (st.value x)) (f : ℕ) (inside : f ≤ length sizes) (past : IsPast f st) where
          is_done : (code : ℕ) → code + 1 < 2048 * f → IsDone (line_net effect sizes) st code
          is_done code h = k.clean code (past code h)

          segment_done : (s : ℕ) → s < f → (c : ℕ) → c < 2047 → IsDone (line_net effect sizes) st (2048 * s + c)
          segment_done s lt c h = is_done (2048 * s + c) (omega (arith, lt, h))

          segment_serial : (s : ℕ) → s < f → st.value (placed s (Correction 0)) ≡ before_segment sizes st s
              → IsSerialFrom (effect_in effect s) (before_segment sizes st s) (size_in sizes s) (part s st)
          segment_serial s lt first =
              serial_from (effect_in effect s) (before_segment sizes st s) (size_in sizes s) (part s st) (part_done s (segment_done s lt)) (λ x. marks (placed s x)) first (empty_root s)

          passed : (s : ℕ) → s + 1 < f → st.value (placed (s + 1) (Correction 0)) ≡ and_then (st.value (placed s (Correction 0))) (st.value (placed s (Effect 0)))
          passed s lt =
              let gave : GaveAt (Pass s) = subst GaveAt (pass_at s) (is_done (2048 * s + 2047) (omega (arith, lt))).gave in
              let on : hands_on sizes s ≡ true = lt_true (s + 1) (length sizes) (omega (arith, lt, inside)) in
              let outs : line_outputs sizes (Pass s) ≡ placed (s + 1) (Correction 0) ∷ [] = ap (λ b. if b then placed (s + 1) (Correction 0) ∷ [] else []) on in
              let ins : line_inputs sizes (Pass s) ≡ placed s (Correction 0) ∷ placed s (Effect 0) ∷ [] = ap (λ b. if b then placed s (Correction 0) ∷ placed s (Effect 0) ∷ [] else []) on in
              let here : has_cell (placed (s + 1) (Correction 0)) (line_outputs sizes (Pass s)) ≡ true =
              ap (has_cell (placed (s + 1) (Correction 0))) outs ∙ first_has (placed (s + 1) (Correction 0)) [] in
              gave (placed (s + 1) (Correction 0)) here ∙ ap (λ cs. line_gives effect (Pass s) (read st.value cs) (placed (s + 1) (Correction 0))) ins

          corrected : (s : ℕ) → s < f → st.value (placed s (Correction 0)) ≡ before_segment sizes st s
          corrected zero lt = first_root
          corrected (suc s) lt =
              let start = before_segment sizes st s in
              let first = corrected s (omega (arith, lt)) in
              let serial = segment_serial s (omega (arith, lt)) first in
              let up : AreMarks (before_segment sizes st s) = subst AreMarks first (marks (placed s (Correction 0))) in
              ap (λ n. st.value (placed n (Correction 0))) (sym (add-one s))
              ∙ passed s (omega (arith, lt))
              ∙ (λ i. and_then (first i) (serial.whole i))
              ∙ sym (then_from (leaf_value (size_in sizes s) (part s st)) (before_segment sizes st s) up (λ i. marks (placed s (Effect (node_in (tree_of (size_in sizes s)) i)))) (size_in sizes s))

          pub below_serial : IsSerialBelow effect sizes f st
          below_serial s lt = segment_serial s lt (corrected s lt)

-- ---- what is left behind stays

root_written : (t : Tree) → (name : JobName) × (has_cell (Effect 0) (outputs_of (Some t) name) ≡ true)
root_written Tip = (Leaf 0, refl)
root_written (Fork l r) = (Merge 0, refl)

leaf_written : (n i : ℕ) → i < n → has_cell (Effect (node_in (tree_of n) i)) (outputs_of (tree_of n) (Leaf i)) ≡ true
leaf_written zero i h = absurd (omega arith)
leaf_written (suc n) i h =
    let l : nat_lt i (leaves (halved_tree (suc n))) ≡ true = lt_true i (leaves (halved_tree (suc n))) (omega (arith, h, tree_leaves (suc n))) in
    ap (λ b. has_cell (Effect (node_of (halved_tree (suc n)) i)) (if b then Effect (node_of (halved_tree (suc n)) i) ∷ [] else [])) l ∙ first_has (Effect (node_of (halved_tree (suc n)) i)) []

module _ (effect : ℕ → List Mark → List Mark) (sizes : List ℕ) (small : AreSizes sizes) (f : ℕ) (s t : State)
    (bare_s : IsBare (line_net effect sizes) s) (bare_t : IsBare (line_net effect sizes) t)
    (same : IsUntouched (line_net effect sizes) (line_is_net sizes small effect) (λ code. code + 1 < 2048 * f) s t) where
  cell_stays : (k : ℕ) (name : JobName) (y : Cell) → k < f → has_cell y (outputs_of (tree_of (size_in sizes k)) name) ≡ true → t.value (placed k y) ≡ s.value (placed k y)
  cell_stays k name y lt e =
      let w = written (size_in sizes k) name y e in
      let below : code_of name < 2047 = omega (arith, w.code, small.few k) in
      let here : has_cell (placed k y) (line_outputs sizes (line_job (line_code (Own k name)))) ≡ true =
      ap (λ a. has_cell (placed k y) (line_outputs sizes a)) (own_back k name (own_written (tree_of (size_in sizes k)) name y e) below) ∙ has_placed k y (outputs_of (tree_of (size_in sizes k)) name) e in
      same.values (line_code (Own k name)) (placed k y) (omega (arith, below, lt)) here

  root_stays : (k n : ℕ) → size_in sizes k ≡ n → k < f → t.value (placed k (Effect 0)) ≡ s.value (placed k (Effect 0))
  root_stays k zero e lt = empty_root sizes small effect t bare_t k e ∙ sym (empty_root sizes small effect s bare_s k e)
  root_stays k (suc n) e lt =
      let w = root_written (halved_tree (suc n)) in
      cell_stays k w.0 (Effect 0) lt (ap (λ m. has_cell (Effect 0) (outputs_of (tree_of m) w.0)) e ∙ w.1)

  pub same_below : IsSameBelow sizes f s t
  same_below = record {
    effects = λ k i lt h. cell_stays k (Leaf i) (Effect (node_in (tree_of (size_in sizes k)) i)) lt (leaf_written (size_in sizes k) i h);
    roots = λ k lt. root_stays k (size_in sizes k) refl lt;
    tallies = λ k i lt h. same.done (line_code (Own k (Leaf i))) (let b = small.few k in omega (arith, lt, h, b));
  }

module _ (effect : ℕ → List Mark → List Mark) (sizes : List ℕ) (small : AreSizes sizes) (events : List Event) (s : State)
    (h : replay (line_net effect sizes) (Some (opening (line_net effect sizes))) events ≡ Some s) where
  kept : IsKept (line_net effect sizes) s
  kept = line_kept sizes small effect events s h

  bare : IsBare (line_net effect sizes) s
  bare = reached_bare (line_net effect sizes) events s h

  pub front_serial : GiveMarksIn effect sizes → (f : ℕ) → f ≤ length sizes → IsPast f s → IsSerialBelow effect sizes f s
  front_serial give f inside past =
      below_serial sizes small effect s bare kept
      (line_fits sizes small effect AreMarks tt (λ a b p q. AreMarks-and_then a b p) give events s h).cells f inside past

  pub settled_line : GiveMarksIn effect sizes → IsSettled s → IsSerialBelow effect sizes (length sizes) s
  settled_line give settled = front_serial give (length sizes) (omega arith) (λ code lt. settled code)

  module _ (later : List Event) (f : ℕ) (t : State) (past : IsPast f s) (g : replay (line_net effect sizes) (Some s) later ≡ Some t) where
    stays : IsUntouched (line_net effect sizes) (line_is_net sizes small effect) (λ code. code + 1 < 2048 * f) s t
    stays = replay_untouched (line_net effect sizes) (line_is_net sizes small effect) (λ code. code + 1 < 2048 * f) (below_apart sizes small effect f) later s t kept past g

    pub front_past : IsPast f t
    front_past = stays.clean

    pub front_same : IsSameBelow sizes f s t
    front_same = same_below effect sizes small f s t bare (replay_bare (line_net effect sizes) later s t bare g) stays
