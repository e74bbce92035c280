-- The readers of a cell are the jobs that have it as an input.
use Rattle.std.proofs.Common.{◌≡◌, ℕ, ◌+◌, ◌*◌, ◌<◌, ◌⊎◌, ◌||◌, inl, inr, Bool, true, false, [], ◌∷◌, Option, Some, None, refl, sym, ap, ◌∙◌, subst, arith}
use Rattle.std.specs.Prelude.{if◌then◌else◌, ◌==◌, nat_lt}
use Rattle.std.specs.Option.{option_map}
use Rattle.std.proofs.lemmas.Bool.Decides.{eqb_tells}
use Rattle.lt_net.specs.declared.job.JobName.{JobName}
use Rattle.lt_net.specs.declared.job.JobName.TheVariants.{Leaf, Merge, Correct, Pass}
use Rattle.lt_net.specs.Net.{Cell, Correction, Effect, has_cell}
use Rattle.lt_net.specs.Tree.{Tree, Tip, Fork, leaves, right_of, node_of, parent_of, leaf_at, if_inner, inputs_of}
use Rattle.lt_net.specs.Codes.{code_of, job_of, IsOfTree}
use Rattle.lt_circuit.specs.Store.{readers_of, has_code}
use Rattle.lt_net.proofs.Shape.{lt_tells, lt_true, eq_true, eq_false, place, right_is, leaf_is, right_left, right_right, node_left, node_right, parent_left, parent_right, leaf_left, leaf_right}
use Rattle.lt_net.proofs.Codes.{code_of-job, is_of_tree, same_job}

-- a node but the root is a child of its parent
pub record IsChild (t : Tree) (u : ℕ) : Type 0 where
  pub right : ℕ
  pub inner : right_of t (parent_of t u) ≡ Some right
  pub either : (u ≡ parent_of t u + 1) ⊎ (u ≡ right)

module _ (l r : Tree) where
  child_left : (x : ℕ) → 0 < x → x + 1 < 2 * leaves l → IsChild l x → IsChild (Fork l r) (x + 1)
  child_left x a b h =
      let p : parent_of (Fork l r) (x + 1) ≡ parent_of l x + 1 = parent_left l r x a b in
      let inside : parent_of l x + 1 < 2 * leaves l = elim h.either [ inl e ↦ omega (arith, e) | inr e ↦ omega (arith, e, (right_is l (parent_of l x) h.right h.inner).after) ] in
      record {
        right = h.right + 1;
        inner = ap (right_of (Fork l r)) p ∙ right_left l r (parent_of l x) inside ∙ ap (option_map (λ y. y + 1)) h.inner;
        either = elim h.either [ inl e ↦ inl (omega (arith, e, p)) | inr e ↦ inr (omega (arith, e)) ];
      }

  child_right : (x : ℕ) → 0 < x → IsChild r x → IsChild (Fork l r) (x + 2 * leaves l)
  child_right x a h =
      let p : parent_of (Fork l r) (x + 2 * leaves l) ≡ parent_of r x + 2 * leaves l = parent_right l r x a in
      record {
        right = h.right + 2 * leaves l;
        inner = ap (right_of (Fork l r)) p ∙ right_right l r (parent_of r x) ∙ ap (option_map (λ y. y + 2 * leaves l)) h.inner;
        either = elim h.either [ inl e ↦ inl (omega (arith, e, p)) | inr e ↦ inr (omega (arith, e)) ];
      }

  child_first : IsChild (Fork l r) 1
  child_first = record { right = 2 * leaves l; inner = refl; either = inl refl }

  child_second : IsChild (Fork l r) (2 * leaves l)
  child_second =
      let a : (2 * leaves l == 1) ≡ false = eq_false (2 * leaves l) 1 (omega arith) in
      let b : (2 * leaves l == 2 * leaves l) ≡ true = eq_true (2 * leaves l) in
      let p : parent_of (Fork l r) (2 * leaves l) ≡ 0 = rw (a, b) in
      record { right = 2 * leaves l; inner = ap (right_of (Fork l r)) p; either = inr refl }

pub child_is : (t : Tree) (u : ℕ) → 0 < u → u + 1 < 2 * leaves t → IsChild t u
child_is Tip u a b = absurd (omega arith)
child_is (Fork l r) u a b = elim (place l r u) [
  | inl h ↦ absurd (omega (arith, h))
  | inr s ↦ elim s [
    | inl h ↦ elim (eqb_tells h.0 0) [
      | inl z ↦ let p : 1 ≡ u = omega (arith, h.1, z.1) in subst (IsChild (Fork l r)) p (child_first l r)
      | inr z ↦ subst (IsChild (Fork l r)) (sym h.1) (child_left l r h.0 (omega (arith, z.1)) h.2 (child_is l h.0 (omega (arith, z.1)) h.2))
    ]
    | inr h ↦ elim (eqb_tells h.0 0) [
      | inl z ↦ let p : 2 * leaves l ≡ u = omega (arith, h.1, z.1) in subst (IsChild (Fork l r)) p (child_second l r)
      | inr z ↦ subst (IsChild (Fork l r)) (sym h.1) (child_right l r h.0 (omega (arith, z.1)) (child_is r h.0 (omega (arith, z.1)) (omega (arith, h.1))))
    ]
  ]
]

was_none : (f : ℕ → ℕ) (o : Option ℕ) → option_map f o ≡ None → o ≡ None
was_none f None e = refl
was_none f (Some y) e = cc

-- a node without children is its leaf's node
pub leaf_back : (t : Tree) (u : ℕ) → u + 1 < 2 * leaves t → right_of t u ≡ None → (leaf_at t u < leaves t) × (node_of t (leaf_at t u) ≡ u)
leaf_back Tip u a b = (omega arith, omega arith)
leaf_back (Fork l r) u a b = elim (place l r u) [
  | inl h ↦ absurd (let f : Some (2 * leaves l) ≡ None = sym (ap (right_of (Fork l r)) h) ∙ b in cc)
  | inr s ↦ elim s [
    | inl h ↦
        let k = leaf_back l h.0 h.2 (was_none (λ y. y + 1) (right_of l h.0) (sym (right_left l r h.0 h.2) ∙ sym (ap (right_of (Fork l r)) h.1) ∙ b)) in
        let at : leaf_at (Fork l r) u ≡ leaf_at l h.0 = ap (leaf_at (Fork l r)) h.1 ∙ leaf_left l r h.0 h.2 in
        let there : node_of (Fork l r) (leaf_at l h.0) ≡ node_of l (leaf_at l h.0) + 1 = node_left l r (leaf_at l h.0) k.0 in
        (omega (arith, at, k.0), ap (node_of (Fork l r)) at ∙ there ∙ ap (λ n. n + 1) k.1 ∙ sym h.1)
    | inr h ↦
        let k = leaf_back r h.0 (omega (arith, h.1)) (was_none (λ y. y + 2 * leaves l) (right_of r h.0) (sym (right_right l r h.0) ∙ sym (ap (right_of (Fork l r)) h.1) ∙ b)) in
        let at : leaf_at (Fork l r) u ≡ leaf_at r h.0 + leaves l = ap (leaf_at (Fork l r)) h.1 ∙ leaf_right l r h.0 in
        let there : node_of (Fork l r) (leaf_at r h.0 + leaves l) ≡ node_of r (leaf_at r h.0) + 2 * leaves l = node_right l r (leaf_at r h.0) in
        (omega (arith, at, k.0), ap (node_of (Fork l r)) at ∙ there ∙ ap (λ n. n + 2 * leaves l) k.1 ∙ sym h.1)
  ]
]

-- ---- both lists name the same jobs

no_code : (j k : ℕ) → (j == k) ≡ true → j ≡ k
no_code j k e = elim (eqb_tells j k) [ inl h ↦ h.1 | inr h ↦ absurd (let f : false ≡ true = sym h.0 ∙ e in cc) ]

either_true : (a b : Bool) → (a || b) ≡ true → (a ≡ true) ⊎ (b ≡ true)
either_true true b e = inl refl
either_true false b e = inr e

or_right : (a b : Bool) → b ≡ true → (a || b) ≡ true
or_right true b e = refl
or_right false b e = e

module _ (t : Tree) (u : ℕ) (inside : u + 1 < 2 * leaves t) where
  parent_reads : 0 < u → has_code (code_of (Merge (parent_of t u))) (readers_of t (Effect u)) ≡ true
  parent_reads a = rw (eq_false u 0 (omega arith), eq_true (code_of (Merge (parent_of t u))))

  left_reads : 0 < u → u ≡ parent_of t u + 1 → has_code (code_of (Correct (parent_of t u))) (readers_of t (Effect u)) ≡ true
  left_reads a e =
      let b : (u == parent_of t u + 1) ≡ true = elim (eqb_tells u (parent_of t u + 1)) [ inl h ↦ h.0 | inr h ↦ absurd (h.1 e) ] in
      rw (eq_false u 0 (omega arith), b) (or_right (code_of (Correct (parent_of t u)) == code_of (Merge (parent_of t u))) ((code_of (Correct (parent_of t u)) == code_of (Correct (parent_of t u))) || false) (rw (eq_true (code_of (Correct (parent_of t u))))))

  merge_reads : (v : ℕ) (o : Option ℕ) → right_of t v ≡ o → has_cell (Effect u) (if_inner o (λ right. Effect (v + 1) ∷ Effect right ∷ [])) ≡ true → has_code (code_of (Merge v)) (readers_of t (Effect u)) ≡ true
  merge_reads v None e h = cc
  merge_reads v (Some y) e h =
      let r = right_is t v y e in
      elim (either_true (u == v + 1) ((u == y) || false) h) [
        | inl k ↦
            let p : u ≡ v + 1 = no_code u (v + 1) k in
            let q : parent_of t u ≡ v = ap (parent_of t) p ∙ r.left_back in
            subst (λ n. has_code (code_of (Merge n)) (readers_of t (Effect u)) ≡ true) q (parent_reads (omega arith))
        | inr k ↦ elim (either_true (u == y) false k) [
          | inl k' ↦
              let p : u ≡ y = no_code u y k' in
              let q : parent_of t u ≡ v = ap (parent_of t) p ∙ r.right_back in
              subst (λ n. has_code (code_of (Merge n)) (readers_of t (Effect u)) ≡ true) q (parent_reads (omega (arith, r.after, p)))
          | inr k' ↦ absurd (let f : false ≡ true = k' in cc)
        ]
      ]

  correct_reads : (v : ℕ) (o : Option ℕ) → right_of t v ≡ o → has_cell (Effect u) (if_inner o (λ right. Correction v ∷ Effect (v + 1) ∷ [])) ≡ true → has_code (code_of (Correct v)) (readers_of t (Effect u)) ≡ true
  correct_reads v None e h = cc
  correct_reads v (Some y) e h =
      let r = right_is t v y e in
      elim (either_true (u == v + 1) false h) [
        | inl k ↦
            let p : u ≡ v + 1 = no_code u (v + 1) k in
            let q : parent_of t u ≡ v = ap (parent_of t) p ∙ r.left_back in
            subst (λ n. has_code (code_of (Correct n)) (readers_of t (Effect u)) ≡ true) q (left_reads (omega arith) (omega (arith, p, q)))
        | inr k ↦ absurd (let f : false ≡ true = k in cc)
      ]

  -- the other way: a reader has the cell
  effect_back : (name : JobName) → IsOfTree name → has_code (code_of name) (readers_of t (Effect u)) ≡ true → has_cell (Effect u) (inputs_of (Some t) name) ≡ true
  effect_back name own h = elim (eqb_tells u 0) [
    | inl z ↦ absurd (let f : has_code (code_of name) [] ≡ true = rw z.0 at h in cc)
    | inr z ↦
        let c = child_is t u (omega (arith, z.1)) inside in
        let g : ((code_of name == code_of (Merge (parent_of t u))) || has_code (code_of name) (if u == parent_of t u + 1 then code_of (Correct (parent_of t u)) ∷ [] else [])) ≡ true = rw z.0 at h in
        elim (either_true (code_of name == code_of (Merge (parent_of t u))) (has_code (code_of name) (if u == parent_of t u + 1 then code_of (Correct (parent_of t u)) ∷ [] else [])) g) [
          | inl k ↦
              let n : Merge (parent_of t u) ≡ name = same_job (Merge (parent_of t u)) name tt own (sym (no_code (code_of name) (code_of (Merge (parent_of t u))) k)) in
              subst (λ m. has_cell (Effect u) (inputs_of (Some t) m) ≡ true) n (rw c.inner (merge_has c))
          | inr k ↦ elim (eqb_tells u (parent_of t u + 1)) [
            | inl e ↦
                let k' : ((code_of name == code_of (Correct (parent_of t u))) || false) ≡ true = rw e.0 at k in
                let n : Correct (parent_of t u) ≡ name = same_job (Correct (parent_of t u)) name tt own (sym (no_code (code_of name) (code_of (Correct (parent_of t u))) (only k'))) in
                subst (λ m. has_cell (Effect u) (inputs_of (Some t) m) ≡ true) n (rw (c.inner, e.0))
            | inr e ↦ absurd (let f : has_code (code_of name) [] ≡ true = rw e.0 at k in cc)
          ]
        ]
  ]
    where
      only : {b : Bool} → (b || false) ≡ true → b ≡ true
      only {b} e = elim (either_true b false e) [ inl h ↦ h | inr h ↦ absurd (let f : false ≡ true = h in cc) ]

      merge_has : (c : IsChild t u) → ((u == parent_of t u + 1) || ((u == c.right) || false)) ≡ true
      merge_has c = elim c.either [
        | inl e ↦ let a : (u == parent_of t u + 1) ≡ true = elim (eqb_tells u (parent_of t u + 1)) [ inl h ↦ h.0 | inr h ↦ absurd (h.1 e) ] in rw a
        | inr e ↦ let a : (u == c.right) ≡ true = elim (eqb_tells u c.right) [ inl h ↦ h.0 | inr h ↦ absurd (h.1 e) ] in
            rw a (or_right (u == parent_of t u + 1) true refl)
      ]

  effect_reads : (name : JobName) → has_cell (Effect u) (inputs_of (Some t) name) ≡ true → has_code (code_of name) (readers_of t (Effect u)) ≡ true
  effect_reads (Leaf i) h = absurd (leaf_case (nat_lt i (leaves t)) h)
    where
      leaf_case : (b : Bool) → has_cell (Effect u) (if b then Correction (node_of t i) ∷ [] else []) ≡ true → ⊥
      leaf_case true e = cc
      leaf_case false e = cc
  effect_reads (Merge v) h = merge_reads v (right_of t v) refl h
  effect_reads (Correct v) h = correct_reads v (right_of t v) refl h
  effect_reads (Pass s) h = cc

  -- ---- a node's correction

  correction_reads : (name : JobName) → has_cell (Correction u) (inputs_of (Some t) name) ≡ true → has_code (code_of name) (readers_of t (Correction u)) ≡ true
  correction_reads (Leaf i) h = elim (lt_tells i (leaves t)) [
    | inl g ↦
        let f : ((u == node_of t i) || false) ≡ true = rw g.0 at h in
        elim (either_true (u == node_of t i) false f) [
          | inl k ↦
              let p : u ≡ node_of t i = no_code u (node_of t i) k in
              let n = leaf_is t i g.1 in
              let e : right_of t u ≡ None = ap (right_of t) p ∙ n.childless in
              let l : leaf_at t u ≡ i = ap (leaf_at t) p ∙ n.back in
              rw (e, l, eq_true (code_of (Leaf i)))
          | inr k ↦ absurd (let f : false ≡ true = k in cc)
        ]
    | inr g ↦ absurd (let f : has_cell (Correction u) [] ≡ true = rw g.0 at h in cc)
  ]
  correction_reads (Merge v) h = absurd (merge_case (right_of t v) h)
    where
      merge_case : (o : Option ℕ) → has_cell (Correction u) (if_inner o (λ right. Effect (v + 1) ∷ Effect right ∷ [])) ≡ true → ⊥
      merge_case None e = cc
      merge_case (Some y) e = cc
  correction_reads (Correct v) h = correct_case (right_of t v) refl h
    where
      correct_case : (o : Option ℕ) → right_of t v ≡ o → has_cell (Correction u) (if_inner o (λ right. Correction v ∷ Effect (v + 1) ∷ [])) ≡ true → has_code (code_of (Correct v)) (readers_of t (Correction u)) ≡ true
      correct_case None e g = cc
      correct_case (Some y) e g = elim (either_true (u == v) false g) [
        | inl k ↦
            let p : u ≡ v = no_code u v k in
            let q : right_of t u ≡ Some y = ap (right_of t) p ∙ e in
            rw (q, p, eq_true (code_of (Correct v)))
        | inr k ↦ absurd (let f : false ≡ true = k in cc)
      ]
  correction_reads (Pass s) h = cc

  correction_back : (name : JobName) → IsOfTree name → has_code (code_of name) (readers_of t (Correction u)) ≡ true → has_cell (Correction u) (inputs_of (Some t) name) ≡ true
  correction_back name own h = by_case (right_of t u) refl
    where
      one_code : (k : ℕ) → has_code (code_of name) (k ∷ []) ≡ true → code_of name ≡ k
      one_code k e = elim (either_true (code_of name == k) false e) [ inl f ↦ no_code (code_of name) k f | inr f ↦ absurd (let g : false ≡ true = f in cc) ]

      by_case : (o : Option ℕ) → right_of t u ≡ o → has_cell (Correction u) (inputs_of (Some t) name) ≡ true
      by_case None e =
          let g : has_code (code_of name) (code_of (Leaf (leaf_at t u)) ∷ []) ≡ true = rw e at h in
          let n : Leaf (leaf_at t u) ≡ name = same_job (Leaf (leaf_at t u)) name tt own (sym (one_code (code_of (Leaf (leaf_at t u))) g)) in
          let b = leaf_back t u inside e in
          let same : (u == u) ≡ true = eq_true u in
          subst (λ m. has_cell (Correction u) (inputs_of (Some t) m) ≡ true) n (rw (lt_true (leaf_at t u) (leaves t) b.0, b.1, same))
      by_case (Some y) e =
          let g : has_code (code_of name) (code_of (Correct u) ∷ []) ≡ true = rw e at h in
          let n : Correct u ≡ name = same_job (Correct u) name tt own (sym (one_code (code_of (Correct u)) g)) in
          subst (λ m. has_cell (Correction u) (inputs_of (Some t) m) ≡ true) n (rw (e, eq_true u))

same_truth : (a b : Bool) → (a ≡ true → b ≡ true) → (b ≡ true → a ≡ true) → a ≡ b
same_truth true true f g = refl
same_truth true false f g = sym (f refl)
same_truth false true f g = g refl
same_truth false false f g = refl

abbrev pub node_at : Cell → ℕ
node_at (Correction u) = u
node_at (Effect u) = u

-- the jobs that have the cell as an input are its readers
pub readers : (t : Tree) (x : Cell) → node_at x + 1 < 2 * leaves t → (j : ℕ) → has_cell x (inputs_of (Some t) (job_of j)) ≡ has_code j (readers_of t x)
readers t (Effect u) inside j =
    same_truth (has_cell (Effect u) (inputs_of (Some t) (job_of j))) (has_code (code_of (job_of j)) (readers_of t (Effect u))) (effect_reads t u inside (job_of j)) (effect_back t u inside (job_of j) (is_of_tree j))
    ∙ ap (λ k. has_code k (readers_of t (Effect u))) (code_of-job j)
readers t (Correction u) inside j =
    same_truth (has_cell (Correction u) (inputs_of (Some t) (job_of j))) (has_code (code_of (job_of j)) (readers_of t (Correction u))) (correction_reads t u inside (job_of j)) (correction_back t u inside (job_of j) (is_of_tree j))
    ∙ ap (λ k. has_code k (readers_of t (Correction u))) (code_of-job j)
