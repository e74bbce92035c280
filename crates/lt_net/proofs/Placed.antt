-- The codes and cells of a line's segments.
use Rattle.std.proofs.Common.{◌≡◌, ℕ, zero, suc, ◌+◌, ◌-◌, ◌*◌, ◌/◌, ◌%◌, ◌<◌, inl, inr, true, false, List, [], ◌∷◌, map, Option, Some, None, refl, sym, ap, ◌∙◌, arith}
use Rattle.std.specs.Prelude.{if◌then◌else◌, ◌==◌}
use Rattle.std.proofs.lemmas.Bool.Decides.{eqb_tells}
use Rattle.lt_model.specs.declared.mark.Mark.{Mark}
use Rattle.lt_net.specs.declared.job.JobName.{JobName}
use Rattle.lt_net.specs.declared.job.JobName.TheVariants.{Leaf, Merge, Correct, Pass as PassName}
use Rattle.lt_net.specs.Net.{Cell, Correction, Effect, same_cell, has_cell, read}
use Rattle.lt_net.specs.Tree.{Tree, leaves, right_of, node_of, leaves_in, if_inner, inputs_of, outputs_of, is_leaf_job, tree_of, halved_tree}
use Rattle.lt_net.specs.Codes.{code_of, job_of, codes_over, IsOfTree}
use Rattle.lt_net.specs.Line.{LineJob, Own, Pass, job_at, line_code, line_job, placed, unplaced}
use Rattle.lt_net.proofs.Shape.{lt_tells, lt_false, eq_false, right_is, leaf_is, tree_leaves}
use Rattle.lt_net.proofs.Codes.{job_of-code, code_of-job, code_within}
use Rattle.lt_net.proofs.Cells.{first_has, later_has}
use Rattle.lt_net.proofs.Jobs.{one_of, cell_same, has_one, has_two, writes_none}

-- ---- codes

pub at_code : (s c : ℕ) → c < 2048 → line_job (2048 * s + c) ≡ job_at s c
at_code s c h =
    let a : (2048 * s + c) / 2048 ≡ s = omega (arith, h) in
    let b : (2048 * s + c) % 2048 ≡ c = omega (arith, h) in
    λ i. job_at (a i) (b i)

pub own_at : (s c : ℕ) → c < 2047 → line_job (2048 * s + c) ≡ Own s (job_of c)
own_at s c h =
    let other : (c == 2047) ≡ false = eq_false c 2047 (λ e. omega (arith, e, h)) in
    at_code s c (omega (arith, h)) ∙ ap (λ b. if b then Pass s else Own s (job_of c)) other

pub pass_at : (s : ℕ) → line_job (2048 * s + 2047) ≡ Pass s
pass_at s = at_code s 2047 (omega arith)

pub own_back : (s : ℕ) (name : JobName) → IsOfTree name → code_of name < 2047 → line_job (line_code (Own s name)) ≡ Own s name
own_back s name own h = own_at s (code_of name) h ∙ ap (Own s) (job_of-code name own)

code_at : (s c : ℕ) → line_code (job_at s c) ≡ 2048 * s + c
code_at s c = elim (eqb_tells c 2047) [
  | inl h ↦ ap (λ b. line_code (if b then Pass s else Own s (job_of c))) h.0 ∙ ap (λ k. 2048 * s + k) (sym h.1)
  | inr h ↦ ap (λ b. line_code (if b then Pass s else Own s (job_of c))) h.0 ∙ ap (λ k. 2048 * s + k) (code_of-job c)
]

pub code_back : (code : ℕ) → line_code (line_job code) ≡ code
code_back code =
    let e : 2048 * (code / 2048) + code % 2048 ≡ code = omega arith in
    code_at (code / 2048) (code % 2048) ∙ e

pub same_line_job : (j k : ℕ) → line_job j ≡ line_job k → j ≡ k
same_line_job j k e = sym (code_back j) ∙ ap line_code e ∙ code_back k

abbrev pub segment_of : LineJob → ℕ
segment_of (Own s name) = s
segment_of (Pass s) = s

pub segment_at : (s c : ℕ) → segment_of (job_at s c) ≡ s
segment_at s c = elim (eqb_tells c 2047) [
  | inl h ↦ ap (λ b. segment_of (if b then Pass s else Own s (job_of c))) h.0
  | inr h ↦ ap (λ b. segment_of (if b then Pass s else Own s (job_of c))) h.0
]

-- ---- cells

abbrev pub node_at : Cell → ℕ
node_at (Correction v) = v
node_at (Effect v) = v

pub unplaced_placed : (s : ℕ) (y : Cell) → unplaced s (placed s y) ≡ y
unplaced_placed s (Correction v) = let e : 512 * s + v - 512 * s ≡ v = omega arith in ap Correction e
unplaced_placed s (Effect v) = let e : 512 * s + v - 512 * s ≡ v = omega arith in ap Effect e

pub placed_same : (s r : ℕ) (y z : Cell) → node_at y < 512 → node_at z < 512 → placed s y ≡ placed r z → (s ≡ r) × (y ≡ z)
placed_same s r (Correction v) (Correction w) a b e =
    let f : 512 * s + v ≡ 512 * r + w = ap node_at e in
    let p : s ≡ r = omega (arith, f, a, b) in
    let q : v ≡ w = omega (arith, f, a, b) in
    (p, ap Correction q)
placed_same s r (Effect v) (Effect w) a b e =
    let f : 512 * s + v ≡ 512 * r + w = ap node_at e in
    let p : s ≡ r = omega (arith, f, a, b) in
    let q : v ≡ w = omega (arith, f, a, b) in
    (p, ap Effect q)
placed_same s r (Correction v) (Effect w) a b e = cc
placed_same s r (Effect v) (Correction w) a b e = cc

pub placed_in : (s : ℕ) (x : Cell) (cs : List Cell) → has_cell x (map (placed s) cs) ≡ true → (y : Cell) × (x ≡ placed s y) × (has_cell y cs ≡ true)
placed_in s x [] e = cc
placed_in s x (c ∷ cs) e = elim (one_of (same_cell x (placed s c)) (has_cell x (map (placed s) cs)) e) [
  | inl h ↦ (c, cell_same x (placed s c) h, first_has c cs)
  | inr h ↦ let g = placed_in s x cs h in (g.0, g.1, later_has g.0 c cs g.2)
]

pub has_placed : (s : ℕ) (y : Cell) (cs : List Cell) → has_cell y cs ≡ true → has_cell (placed s y) (map (placed s) cs) ≡ true
has_placed s y [] e = cc
has_placed s y (c ∷ cs) e = elim (one_of (same_cell y c) (has_cell y cs) e) [
  | inl h ↦ ap (λ z. has_cell (placed s z) (placed s c ∷ map (placed s) cs)) (cell_same y c h) ∙ first_has (placed s c) (map (placed s) cs)
  | inr h ↦ later_has (placed s y) (placed s c) (map (placed s) cs) (has_placed s y cs h)
]

pub read_placed : (f : Cell → List Mark) (s : ℕ) (cs : List Cell) → read f (map (placed s) cs) ≡ read (λ y. f (placed s y)) cs
read_placed f s [] = refl
read_placed f s (c ∷ cs) = ap (λ rest. f (placed s c) ∷ rest) (read_placed f s cs)

-- ---- what a job of a tree reads and writes is within the tree

pub record IsWithin (n : ℕ) (name : JobName) (y : Cell) : Type 0 where
  pub node : node_at y + 1 < 2 * n
  pub code : code_of name < codes_over n

merge_within : (n v : ℕ) (o : Option ℕ) (y : Cell) → right_of (halved_tree (suc n)) v ≡ o → has_cell y (if_inner o (λ right. Effect v ∷ [])) ≡ true → IsWithin (suc n) (Merge v) y
merge_within n v None y p e = cc
merge_within n v (Some r) y p e =
    let l = tree_leaves (suc n) (omega arith) in
    let a = right_is (halved_tree (suc n)) v r p in
    let at : node_at y ≡ v = ap node_at (has_one y (Effect v) e) in
    record { node = omega (arith, at, a.after, a.inside, l); code = code_within (suc n) (Merge v) (omega (arith, a.after, a.inside, l)) }

correct_within : (n v : ℕ) (o : Option ℕ) (y : Cell) → right_of (halved_tree (suc n)) v ≡ o → has_cell y (if_inner o (λ right. Correction (v + 1) ∷ Correction right ∷ [])) ≡ true → IsWithin (suc n) (Correct v) y
correct_within n v None y p e = cc
correct_within n v (Some r) y p e =
    let l = tree_leaves (suc n) (omega arith) in
    let a = right_is (halved_tree (suc n)) v r p in
    let code : code_of (Correct v) < codes_over (suc n) = code_within (suc n) (Correct v) (omega (arith, a.after, a.inside, l)) in
    elim (has_two y (Correction (v + 1)) (Correction r) e) [
      | inl h ↦ let at : node_at y ≡ v + 1 = ap node_at h in record { node = omega (arith, at, a.after, a.inside, l); code = code }
      | inr h ↦ let at : node_at y ≡ r = ap node_at h in record { node = omega (arith, at, a.inside, l); code = code }
    ]

pub written : (n : ℕ) (name : JobName) (y : Cell) → has_cell y (outputs_of (tree_of n) name) ≡ true → IsWithin n name y
written zero name y e = absurd (writes_none name y e)
written (suc n) (Leaf i) y e = elim (lt_tells i (leaves (halved_tree (suc n)))) [
  | inl h ↦
      let f : has_cell y (Effect (node_of (halved_tree (suc n)) i) ∷ []) ≡ true = rw h.0 at e in
      let l = tree_leaves (suc n) (omega arith) in
      let at : node_at y ≡ node_of (halved_tree (suc n)) i = ap node_at (has_one y (Effect (node_of (halved_tree (suc n)) i)) f) in
      record {
        node = omega (arith, at, (leaf_is (halved_tree (suc n)) i h.1).inside, l);
        code = code_within (suc n) (Leaf i) (omega (arith, h.1, l));
      }
  | inr h ↦ absurd (let f : has_cell y [] ≡ true = rw h.0 at e in cc)
]
written (suc n) (Merge v) y e = merge_within n v (right_of (halved_tree (suc n)) v) y refl e
written (suc n) (Correct v) y e = correct_within n v (right_of (halved_tree (suc n)) v) y refl e
written (suc n) (PassName s) y e = cc

-- what writes a cell in a tree is a job of it
pub own_written : (t : Option Tree) (name : JobName) (y : Cell) → has_cell y (outputs_of t name) ≡ true → IsOfTree name
own_written t (Leaf i) y e = tt
own_written t (Merge v) y e = tt
own_written t (Correct v) y e = tt
own_written t (PassName s) y e = cc

pub leaf_within : (n : ℕ) (name : JobName) → is_leaf_job (tree_of n) name ≡ true → code_of name < codes_over n
leaf_within n (Leaf i) e = elim (lt_tells i (leaves_in (tree_of n))) [
  | inl h ↦ code_within n (Leaf i) (inside n h.1)
  | inr h ↦ absurd (let f : false ≡ true = sym h.0 ∙ e in cc)
]
  where
    inside : (m : ℕ) → i < leaves_in (tree_of m) → i < 2 * m - 1
    inside zero k = absurd (omega arith)
    inside (suc m) k = omega (arith, k, tree_leaves (suc m))
leaf_within n (Merge v) e = cc
leaf_within n (Correct v) e = cc
leaf_within n (PassName s) e = cc

merge_reads : (n v : ℕ) (o : Option ℕ) (y : Cell) → right_of (halved_tree (suc n)) v ≡ o → has_cell y (if_inner o (λ right. Effect (v + 1) ∷ Effect right ∷ [])) ≡ true → node_at y + 1 < 2 * suc n
merge_reads n v None y p e = cc
merge_reads n v (Some r) y p e =
    let l = tree_leaves (suc n) (omega arith) in
    let a = right_is (halved_tree (suc n)) v r p in
    elim (has_two y (Effect (v + 1)) (Effect r) e) [
      | inl h ↦ let at : node_at y ≡ v + 1 = ap node_at h in omega (arith, at, a.after, a.inside, l)
      | inr h ↦ let at : node_at y ≡ r = ap node_at h in omega (arith, at, a.inside, l)
    ]

correct_reads : (n v : ℕ) (o : Option ℕ) (y : Cell) → right_of (halved_tree (suc n)) v ≡ o → has_cell y (if_inner o (λ right. Correction v ∷ Effect (v + 1) ∷ [])) ≡ true → node_at y + 1 < 2 * suc n
correct_reads n v None y p e = cc
correct_reads n v (Some r) y p e =
    let l = tree_leaves (suc n) (omega arith) in
    let a = right_is (halved_tree (suc n)) v r p in
    elim (has_two y (Correction v) (Effect (v + 1)) e) [
      | inl h ↦ let at : node_at y ≡ v = ap node_at h in omega (arith, at, a.after, a.inside, l)
      | inr h ↦ let at : node_at y ≡ v + 1 = ap node_at h in omega (arith, at, a.after, a.inside, l)
    ]

none_reads : (name : JobName) (y : Cell) → has_cell y (inputs_of None name) ≡ true → ⊥
none_reads (Leaf i) y e = let f : has_cell y [] ≡ true = rw (lt_false i 0 (omega arith)) at e in cc
none_reads (Merge v) y e = cc
none_reads (Correct v) y e = cc
none_reads (PassName s) y e = cc

pub read_within : (n : ℕ) (name : JobName) (y : Cell) → has_cell y (inputs_of (tree_of n) name) ≡ true → node_at y + 1 < 2 * n
read_within zero name y e = absurd (none_reads name y e)
read_within (suc n) (Leaf i) y e = elim (lt_tells i (leaves (halved_tree (suc n)))) [
  | inl h ↦
      let f : has_cell y (Correction (node_of (halved_tree (suc n)) i) ∷ []) ≡ true = rw h.0 at e in
      let l = tree_leaves (suc n) (omega arith) in
      let at : node_at y ≡ node_of (halved_tree (suc n)) i = ap node_at (has_one y (Correction (node_of (halved_tree (suc n)) i)) f) in
      omega (arith, at, (leaf_is (halved_tree (suc n)) i h.1).inside, l)
  | inr h ↦ absurd (let f : has_cell y [] ≡ true = rw h.0 at e in cc)
]
read_within (suc n) (Merge v) y e = merge_reads n v (right_of (halved_tree (suc n)) v) y refl e
read_within (suc n) (Correct v) y e = correct_reads n v (right_of (halved_tree (suc n)) v) y refl e
read_within (suc n) (PassName s) y e = cc
