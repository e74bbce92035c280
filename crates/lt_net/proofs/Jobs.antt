-- The jobs of a tree are a net, and where each is done the tree is done.
use Rattle.std.proofs.Common.{◌≡◌, ℕ, ◌+◌, ◌⊎◌, ◌||◌, inl, inr, Bool, true, false, List, [], ◌∷◌, Option, Some, None, refl, sym, ap, ◌∙◌, arith}
use Rattle.std.specs.Prelude.{if◌then◌else◌, nat_lt}
use Rattle.std.proofs.lemmas.Bool.Decides.{eqb_tells}
use Rattle.lt_model.specs.declared.mark.Mark.{Mark}
use Rattle.lt_model.specs.Marks.{and_then}
use Rattle.lt_net.specs.declared.job.JobName.{JobName}
use Rattle.lt_net.specs.declared.job.JobName.TheVariants.{Leaf, Merge, Correct, Pass}
use Rattle.lt_net.specs.Net.{Cell, Correction, Effect, same_cell, has_cell, read, first_of, second_of}
use Rattle.lt_net.specs.Tree.{Tree, leaves, right_of, node_of, parent_of, leaf_at, right_in, node_in, leaves_in, if_inner, inputs_of, outputs_of, gives_of, is_leaf_job, circuit_net}
use Rattle.lt_net.specs.Codes.{job_of}
use Rattle.lt_net.proofs.Codes.{same_code}
use Rattle.lt_net.proofs.Kept.{IsNet}
use Rattle.lt_net.proofs.Shape.{lt_tells, lt_false, eq_true, right_is, leaf_is}

-- ---- each cell has one writer: the job that its place names

pub cell_same : (x c : Cell) → same_cell x c ≡ true → x ≡ c
cell_same (Correction v) (Correction w) e = elim (eqb_tells v w) [ inl h ↦ ap Correction h.1 | inr h ↦ absurd (let f : false ≡ true = sym h.0 ∙ e in cc) ]
cell_same (Effect v) (Effect w) e = elim (eqb_tells v w) [ inl h ↦ ap Effect h.1 | inr h ↦ absurd (let f : false ≡ true = sym h.0 ∙ e in cc) ]
cell_same (Correction v) (Effect w) e = cc
cell_same (Effect v) (Correction w) e = cc

pub same_itself : (x : Cell) → same_cell x x ≡ true
same_itself (Correction v) = eq_true v
same_itself (Effect v) = eq_true v

pub one_of : (a b : Bool) → (a || b) ≡ true → (a ≡ true) ⊎ (b ≡ true)
one_of true b e = inl refl
one_of false b e = inr e

pub has_one : (x c : Cell) → has_cell x (c ∷ []) ≡ true → x ≡ c
has_one x c e = elim (one_of (same_cell x c) false e) [ inl h ↦ cell_same x c h | inr h ↦ absurd (let f : false ≡ true = h in cc) ]

pub has_two : (x c d : Cell) → has_cell x (c ∷ d ∷ []) ≡ true → (x ≡ c) ⊎ (x ≡ d)
has_two x c d e = elim (one_of (same_cell x c) (has_cell x (d ∷ [])) e) [ inl h ↦ inl (cell_same x c h) | inr h ↦ inr (has_one x d h) ]

abbrev effect_writer : Option ℕ → (leaf node : ℕ) → JobName
effect_writer None leaf node = Leaf leaf
effect_writer (Some right) leaf node = Merge node

abbrev writer : Tree → Cell → JobName
writer t (Correction u) = Correct (parent_of t u)
writer t (Effect u) = effect_writer (right_of t u) (leaf_at t u) u

merge_writes : (t : Tree) (v : ℕ) (o : Option ℕ) (x : Cell) → right_of t v ≡ o → has_cell x (if_inner o (λ right. Effect v ∷ [])) ≡ true → Merge v ≡ writer t x
merge_writes t v None x p e = cc
merge_writes t v (Some y) x p e =
    ap (λ o. effect_writer o (leaf_at t v) v) (sym p) ∙ ap (writer t) (sym (has_one x (Effect v) e))

correct_writes : (t : Tree) (v : ℕ) (o : Option ℕ) (x : Cell) → right_of t v ≡ o → has_cell x (if_inner o (λ right. Correction (v + 1) ∷ Correction right ∷ [])) ≡ true → Correct v ≡ writer t x
correct_writes t v None x p e = cc
correct_writes t v (Some y) x p e =
    let r = right_is t v y p in
    elim (has_two x (Correction (v + 1)) (Correction y) e) [
      | inl h ↦ ap Correct (sym r.left_back) ∙ ap (writer t) (sym h)
      | inr h ↦ ap Correct (sym r.right_back) ∙ ap (writer t) (sym h)
    ]

writes : (t : Tree) (name : JobName) (x : Cell) → has_cell x (outputs_of (Some t) name) ≡ true → name ≡ writer t x
writes t (Leaf i) x e = elim (lt_tells i (leaves t)) [
  | inl h ↦
      let n = leaf_is t i h.1 in
      let f : has_cell x (Effect (node_of t i) ∷ []) ≡ true = rw h.0 at e in
      ap Leaf (sym n.back) ∙ ap (λ o. effect_writer o (leaf_at t (node_of t i)) (node_of t i)) (sym n.childless) ∙ ap (writer t) (sym (has_one x (Effect (node_of t i)) f))
  | inr h ↦ absurd (let f : has_cell x [] ≡ true = rw h.0 at e in cc)
]
writes t (Merge v) x e = merge_writes t v (right_of t v) x refl e
writes t (Correct v) x e = correct_writes t v (right_of t v) x refl e
writes t (Pass s) x e = cc

pub writes_none : (name : JobName) (x : Cell) → has_cell x (outputs_of None name) ≡ true → ⊥
writes_none (Leaf i) x e = let f : has_cell x [] ≡ true = rw (lt_false i 0 (omega arith)) at e in cc
writes_none (Merge v) x e = cc
writes_none (Correct v) x e = cc
writes_none (Pass s) x e = cc

pub same_writer : (t : Option Tree) (x : Cell) (a b : JobName) → has_cell x (outputs_of t a) ≡ true → has_cell x (outputs_of t b) ≡ true → a ≡ b
same_writer None x a b p q = absurd (writes_none a x p)
same_writer (Some t) x a b p q = writes t a x p ∙ sym (writes t b x q)

one_writer : (t : Option Tree) (x : Cell) (j k : ℕ) → has_cell x (outputs_of t (job_of j)) ≡ true → has_cell x (outputs_of t (job_of k)) ≡ true → j ≡ k
one_writer t x j k p q = same_code j k (same_writer t x (job_of j) (job_of k) p q)

module _ (effect : ℕ → List Mark → List Mark) where
  -- an inner job gives empty marks of empty marks
  pub quiet : (t : Option Tree) (name : JobName) (x : Cell) → is_leaf_job t name ≡ false → has_cell x (outputs_of t name) ≡ true
      → gives_of effect name (read (λ y. []) (inputs_of t name)) x ≡ []
  quiet t (Leaf i) x p e = absurd (let f : has_cell x [] ≡ true = rw p at e in cc)
  quiet t (Merge v) x p e = empties (right_in t v)
    where
      empties : (o : Option ℕ) → gives_of effect (Merge v) (read (λ y. []) (if_inner o (λ right. Effect (v + 1) ∷ Effect right ∷ []))) x ≡ []
      empties None = refl
      empties (Some y) = refl
  quiet t (Correct v) x p e = empties (same_cell x (Correction (v + 1))) (right_in t v)
    where
      empties : (b : Bool) (o : Option ℕ) → (let ins = read (λ y. []) (if_inner o (λ right. Correction v ∷ Effect (v + 1) ∷ [])) in
          (if b then first_of ins else and_then (first_of ins) (second_of ins)) ≡ [])
      empties true None = refl
      empties true (Some y) = refl
      empties false None = refl
      empties false (Some y) = refl
  quiet t (Pass s) x p e = cc

  pub unread : (t : Option Tree) (name : JobName) → inputs_of t name ≡ [] → is_leaf_job t name ≡ false
  unread t (Leaf i) e = leaf_case (nat_lt i (leaves_in t)) e
    where
      leaf_case : (b : Bool) → (if b then Correction (node_in t i) ∷ [] else []) ≡ [] → b ≡ false
      leaf_case true e = cc
      leaf_case false e = refl
  unread t (Merge v) e = refl
  unread t (Correct v) e = refl
  unread t (Pass s) e = refl

  pub circuit_is_net : (t : Option Tree) → IsNet (circuit_net effect t)
  circuit_is_net t = record {
    one_writer = one_writer t;
    quiet = λ j x p e. quiet t (job_of j) x p e;
    unread = λ j e. unread t (job_of j) e;
    leaves_start = λ j e. e;
  }
