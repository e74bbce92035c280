-- A line of one segment has the jobs of its tree alone.
use Rattle.std.proofs.Common.{◌≡◌, ◌≢◌, ℕ, zero, suc, ◌+◌, ◌-◌, ◌*◌, ◌/◌, ◌%◌, ◌<◌, ◌≤◌, ◌⊎◌, inl, inr, Bool, true, false, List, [], ◌∷◌, map, Option, Some, None, refl, sym, ap, subst, ◌∙◌, arith}
use Rattle.std.specs.Prelude.{if◌then◌else◌, ◌==◌, nat_lt}
use Rattle.std.proofs.lemmas.Bool.Decides.{eqb_tells}
use Rattle.lt_model.specs.declared.mark.Mark.{Mark}
use Rattle.lt_net.specs.declared.job.JobName.{JobName}
use Rattle.lt_net.specs.declared.job.JobName.TheVariants.{Leaf}
use Rattle.lt_net.specs.Alike.{AreAlike}
use Rattle.lt_net.specs.Net.{Cell, Correction, Effect, Net, State, has_cell}
use Rattle.lt_net.specs.Tree.{IsSerial, circuit_net, gives_of, inputs_of, is_leaf_job, node_in, outputs_of, then_all, tree_of}
use Rattle.lt_net.specs.Codes.{code_of, codes_over, job_of}
use Rattle.lt_net.specs.Line.{IsSerialBelow, LineJob, Own, Pass, effect_in, hands_on, job_at, line_gives, line_inputs, line_job, line_leaf, line_net, line_outputs, line_starts, part, placed, size_in, unplaced}
use Rattle.lt_net.proofs.Shape.{eq_false, lt_false, lt_tells}
use Rattle.lt_net.proofs.Cells.{first_has}
use Rattle.lt_net.proofs.Codes.{code_of-job}
use Rattle.lt_net.proofs.Inside.{job_inside, none_reads}
use Rattle.lt_net.proofs.Jobs.{unread, writes_none}
use Rattle.lt_net.proofs.Placed.{own_at, written}

-- ---- the first segment's places are the tree's

placed_first : (x : Cell) → placed 0 x ≡ x
placed_first (Correction v) = let e : 512 * 0 + v ≡ v = omega arith in ap Correction e
placed_first (Effect v) = let e : 512 * 0 + v ≡ v = omega arith in ap Effect e

unplaced_first : (x : Cell) → unplaced 0 x ≡ x
unplaced_first (Correction v) = let e : v - 512 * 0 ≡ v = omega arith in ap Correction e
unplaced_first (Effect v) = let e : v - 512 * 0 ≡ v = omega arith in ap Effect e

all_first : (cells : List Cell) → map (placed 0) cells ≡ cells
all_first [] = refl
all_first (c ∷ cells) = λ i. placed_first c i ∷ all_first cells i

effect_first : (effect : ℕ → List Mark → List Mark) → effect_in effect 0 ≡ effect
effect_first effect = λ i leaf. effect (first leaf i)
  where
    first : (leaf : ℕ) → 256 * 0 + leaf ≡ leaf
    first leaf = omega arith

-- ---- a code that is none of the tree's has no inputs and no outputs

empty_or : (cells : List Cell) → (cells ≡ []) ⊎ (cells ≢ [])
empty_or [] = inl refl
empty_or (c ∷ cells) = inr (λ e. cc)

no_inputs : (n : ℕ) (name : JobName) → codes_over n ≤ code_of name → inputs_of (tree_of n) name ≡ []
no_inputs n name h = elim (empty_or (inputs_of (tree_of n) name)) [
  | inl e ↦ e
  | inr some ↦ absurd (let k = job_inside n name some in omega (arith, h, k))
]

no_outputs : (n : ℕ) (name : JobName) → codes_over n ≤ code_of name → outputs_of (tree_of n) name ≡ []
no_outputs n name h = by_list (outputs_of (tree_of n) name) refl
  where
    by_list : (cells : List Cell) → outputs_of (tree_of n) name ≡ cells → cells ≡ []
    by_list [] e = refl
    by_list (c ∷ cells) e = absurd (
        let k = (written n name c (ap (has_cell c) e ∙ first_has c cells)).code in
        omega (arith, h, k))

none_written : (name : JobName) → outputs_of None name ≡ []
none_written name = by_list (outputs_of None name) refl
  where
    by_list : (cells : List Cell) → outputs_of None name ≡ cells → cells ≡ []
    by_list [] e = refl
    by_list (c ∷ cells) e = absurd (writes_none name c (ap (has_cell c) e ∙ first_has c cells))

module _ (effect : ℕ → List Mark → List Mark) (n : ℕ) (few : n ≤ 256) where
  abbrev one : Net
  one = line_net effect (n ∷ [])

  abbrev tree : Net
  tree = circuit_net effect (tree_of n)

  -- ---- the tree's places

  own : (code : ℕ) → code < 2047 → line_job code ≡ Own 0 (job_of code)
  own code h = let e : 2048 * 0 + code ≡ code = omega arith in ap line_job (sym e) ∙ own_at 0 code h

  low : (code : ℕ) → code_of (job_of code) < codes_over n → code < 2047
  low code h = let e = code_of-job code in omega (arith, h, few, e)

  -- ---- the places behind

  behind : (code : ℕ) → 2047 ≤ code → codes_over n ≤ code_of (job_of code)
  behind code h = let e = code_of-job code in omega (arith, h, few, e)

  no_next : (s : ℕ) → hands_on (n ∷ []) s ≡ false
  no_next s = lt_false (s + 1) 1 (omega arith)

  no_leaves : (s : ℕ) → 0 < s → size_in (n ∷ []) s ≡ 0
  no_leaves zero h = absurd (omega arith)
  no_leaves (suc s) h = refl

  -- a fact of each job behind the tree's is one of a Pass that isn't there and of the jobs of an empty tree
  by_job : (P : LineJob → Type 0) → ((s : ℕ) → hands_on (n ∷ []) s ≡ false → P (Pass s)) → ((s : ℕ) (name : JobName) → size_in (n ∷ []) s ≡ 0 → P (Own s name))
      → (code : ℕ) → 2047 ≤ code → P (line_job code)
  by_job P pass empty code h = elim (eqb_tells (code % 2048) 2047) [
    | inl g ↦ subst (λ b. P (if b then Pass (code / 2048) else Own (code / 2048) (job_of (code % 2048)))) (sym g.0) (pass (code / 2048) (no_next (code / 2048)))
    | inr g ↦
        let ne = g.1 in
        let some : 0 < code / 2048 = some_segment code h ne in
        subst (λ b. P (if b then Pass (code / 2048) else Own (code / 2048) (job_of (code % 2048)))) (sym g.0) (empty (code / 2048) (job_of (code % 2048)) (no_leaves (code / 2048) some))
  ]
    where
      some_segment : (code : ℕ) → 2047 ≤ code → code % 2048 ≢ 2047 → 0 < code / 2048
      some_segment code h ne = elim (lt_tells 0 (code / 2048)) [
        | inl g ↦ g.1
        | inr g ↦ absurd (let z = g.1 in ne (omega (arith, h, z)))
      ]

  -- ---- the jobs

  same_inputs : (code : ℕ) → one.inputs code ≡ tree.inputs code
  same_inputs code = elim (lt_tells code 2047) [
    | inl h ↦ ap (line_inputs (n ∷ [])) (own code h.1) ∙ all_first (inputs_of (tree_of n) (job_of code))
    | inr h ↦
        by_job (λ job. line_inputs (n ∷ []) job ≡ [])
        (λ s off. ap (λ b. if b then placed s (Correction 0) ∷ placed s (Effect 0) ∷ [] else []) off)
        (λ s name none. ap (λ k. map (placed s) (inputs_of (tree_of k) name)) none ∙ ap (map (placed s)) (none_reads name))
        code h.1
        ∙ sym (no_inputs n (job_of code) (behind code h.1))
  ]

  same_outputs : (code : ℕ) → one.outputs code ≡ tree.outputs code
  same_outputs code = elim (lt_tells code 2047) [
    | inl h ↦ ap (line_outputs (n ∷ [])) (own code h.1) ∙ all_first (outputs_of (tree_of n) (job_of code))
    | inr h ↦
        by_job (λ job. line_outputs (n ∷ []) job ≡ [])
        (λ s off. ap (λ b. if b then placed (s + 1) (Correction 0) ∷ [] else []) off)
        (λ s name none. ap (λ k. map (placed s) (outputs_of (tree_of k) name)) none ∙ ap (map (placed s)) (none_written name))
        code h.1
        ∙ sym (no_outputs n (job_of code) (behind code h.1))
  ]

  same_gives : (code : ℕ) (ins : List (List Mark)) (x : Cell) → has_cell x (tree.outputs code) ≡ true → one.gives code ins x ≡ tree.gives code ins x
  same_gives code ins x e =
      let h : code < 2047 = low code (written n (job_of code) x e).code in
      ap (λ job. line_gives effect job ins x) (own code h)
      ∙ (λ i. gives_of (effect_first effect i) (job_of code) ins (unplaced_first x i))

  no_leaf : (name : JobName) → is_leaf_job None name ≡ false
  no_leaf name = unread effect None name (none_reads name)

  same_leaf : (code : ℕ) → one.is_leaf code ≡ tree.is_leaf code
  same_leaf code = elim (lt_tells code 2047) [
    | inl h ↦ ap (line_leaf (n ∷ [])) (own code h.1)
    | inr h ↦
        by_job (λ job. line_leaf (n ∷ []) job ≡ false)
        (λ s off. refl)
        (λ s name none. ap (λ k. is_leaf_job (tree_of k) name) none ∙ no_leaf name)
        code h.1
        ∙ sym (unread effect (tree_of n) (job_of code) (no_inputs n (job_of code) (behind code h.1)))
  ]

  same_starts : (code : ℕ) → one.starts code ≡ tree.starts code
  same_starts code = elim (lt_tells code 2047) [
    | inl h ↦ ap (line_starts (n ∷ [])) (own code h.1)
    | inr h ↦
        by_job (λ job. line_starts (n ∷ []) job ≡ false)
        (λ s off. off)
        (λ s name none. ap (λ k. is_leaf_job (tree_of k) name) none ∙ no_leaf name)
        code h.1
        ∙ sym (unread effect (tree_of n) (job_of code) (no_inputs n (job_of code) (behind code h.1)))
  ]

  pub one_alike : AreAlike one tree
  one_alike = record {
    inputs = same_inputs;
    outputs = same_outputs;
    gives = same_gives;
    starts = same_starts;
    is_leaf = same_leaf;
  }

-- ---- what is serial

module _ (effect : ℕ → List Mark → List Mark) (n : ℕ) (s : State) where
  values : (part 0 s).value ≡ s.value
  values = λ i x. s.value (placed_first x i)

  dones : (part 0 s).done ≡ s.done
  dones = λ i place. s.done (place_first place i)
    where
      place_first : (place : ℕ) → 2048 * 0 + place ≡ place
      place_first place = omega arith

  abbrev leaf_in : (Cell → List Mark) → ℕ → List Mark
  leaf_in value i = value (Effect (node_in (tree_of n) i))

  abbrev Did : (ℕ → List Mark → List Mark) → (Cell → List Mark) → ℕ → Type 0
  Did does value i = leaf_in value i ≡ does i (then_all (leaf_in value) [] i)

  abbrev StandsFor : (Cell → List Mark) → (ℕ → Option (List Mark)) → ℕ → Type 0
  StandsFor value done i = done (code_of (Leaf i)) ≡ Some (then_all (leaf_in value) [] i)

  abbrev Whole : (Cell → List Mark) → Type 0
  Whole value = value (Effect 0) ≡ then_all (leaf_in value) [] n

  pub serial_of : IsSerialBelow effect (n ∷ []) 1 s → IsSerial effect n s
  serial_of h =
      let first = h 0 (omega arith) in
      record {
        did = λ i lt. subst (λ does. Did does s.value i) (effect_first effect) (subst (λ value. Did (effect_in effect 0) value i) values (first.did i lt));
        stands_for = λ i lt. subst (λ done. StandsFor s.value done i) dones (subst (λ value. StandsFor value (part 0 s).done i) values (first.stands_for i lt));
        whole = subst Whole values first.whole;
      }

  pub below_of : IsSerial effect n s → IsSerialBelow effect (n ∷ []) 1 s
  below_of h zero low = record {
    did = λ i lt. subst (λ does. Did does (part 0 s).value i) (sym (effect_first effect)) (subst (λ value. Did effect value i) (sym values) (h.did i lt));
    stands_for = λ i lt. subst (λ done. StandsFor (part 0 s).value done i) (sym dones) (subst (λ value. StandsFor value s.done i) (sym values) (h.stands_for i lt));
    whole = subst Whole (sym values) h.whole;
  }
  below_of h (suc k) low = absurd (omega arith)
