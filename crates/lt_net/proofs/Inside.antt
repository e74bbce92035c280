-- Replays with one more event, and jobs that have inputs as jobs of the tree.
use Rattle.std.proofs.Common.{◌≡◌, ℕ, zero, suc, ◌+◌, ◌*◌, ◌<◌, inl, inr, List, [], ◌∷◌, ◌++◌, Option, Some, None, refl, ap, arith, ◌∙◌, ◌≢◌, true}
use Rattle.lt_net.specs.declared.job.JobName.{JobName}
use Rattle.lt_net.specs.declared.job.JobName.TheVariants.{Leaf, Merge, Correct, Pass}
use Rattle.lt_net.specs.Net.{Cell, Correction, Effect, Net, State, Event, step, replay}
use Rattle.std.specs.Prelude.{nat_lt}
use Rattle.lt_net.specs.Tree.{Tree, leaves_in, tree_of, halved_tree, leaves, right_in, right_of, node_in, node_of, inputs_of, if_inner}
use Rattle.lt_net.specs.Codes.{code_of, codes_over, IsOfTree}
use Rattle.lt_net.proofs.Codes.{code_within}
use Rattle.lt_net.proofs.Shape.{lt_tells, lt_true, lt_false, right_is, tree_leaves}

-- ---- replays

pub replay_more : (net : Net) (es : List Event) (s t : State) (ev : Event) → replay net (Some s) es ≡ Some t → replay net (Some s) (es ++ ev ∷ []) ≡ replay net (step net t ev) []
replay_more net [] s t ev e = let p : s ≡ t = cc in ap (λ u. replay net (step net u ev) []) p
replay_more net (x ∷ es) s t ev e = next (step net s x) (λ u. replay_more net es u t ev) e
  where
    next : (o : Option State) → ((u : State) → replay net (Some u) es ≡ Some t → replay net (Some u) (es ++ ev ∷ []) ≡ replay net (step net t ev) [])
        → replay net o es ≡ Some t → replay net o (es ++ ev ∷ []) ≡ replay net (step net t ev) []
    next None later g = cc
    next (Some u) later g = later u g

pub replay_end : (net : Net) (o : Option State) (t : State) → o ≡ Some t → replay net o [] ≡ Some t
replay_end net o t e = ap (λ p. replay net p []) e

-- ---- jobs that are held are jobs of the tree

pub none_reads : (name : JobName) → inputs_of None name ≡ []
none_reads (Leaf i) = rw (lt_false i 0 (omega arith))
none_reads (Merge v) = refl
none_reads (Correct v) = refl
none_reads (Pass s) = refl

pub inner_inside : (n v : ℕ) (o : Option ℕ) (cells : ℕ → List Cell) → right_in (tree_of n) v ≡ o → (if_inner o cells ≡ [] → ⊥) → v + 2 < 2 * n
inner_inside n v None cells e some = absurd (some refl)
inner_inside zero v (Some y) cells e some = cc
inner_inside (suc n) v (Some y) cells e some =
    let r = right_is (halved_tree (suc n)) v y e in
    let l : leaves (halved_tree (suc n)) ≡ suc n = tree_leaves (suc n) (omega arith) in
    omega (arith, r.after, r.inside, l)

pub leaf_inside : (n i : ℕ) → (inputs_of (tree_of n) (Leaf i) ≡ [] → ⊥) → i < n
leaf_inside zero i some = absurd (some (none_reads (Leaf i)))
leaf_inside (suc n) i some = elim (lt_tells i (leaves (halved_tree (suc n)))) [
  | inl h ↦ omega (arith, h.1, tree_leaves (suc n))
  | inr h ↦ absurd (some (rw h.0))
]

pub job_inside : (n : ℕ) (name : JobName) → (inputs_of (tree_of n) name ≡ [] → ⊥) → code_of name < codes_over n
job_inside n (Leaf i) some = code_within n (Leaf i) (omega (arith, leaf_inside n i some))
job_inside n (Merge v) some = code_within n (Merge v) (omega (arith, inner_inside n v (right_in (tree_of n) v) (λ r. Effect (v + 1) ∷ Effect r ∷ []) refl some))
job_inside n (Correct v) some = code_within n (Correct v) (omega (arith, inner_inside n v (right_in (tree_of n) v) (λ r. Correction v ∷ Effect (v + 1) ∷ []) refl some))
job_inside n (Pass s) some = absurd (some refl)

-- what has inputs in a tree is a job of it
pub tree_job : (t : Option Tree) (name : JobName) → inputs_of t name ≢ [] → IsOfTree name
tree_job t (Leaf i) some = tt
tree_job t (Merge v) some = tt
tree_job t (Correct v) some = tt
tree_job t (Pass s) some = absurd (some refl)

-- ---- the tree over some leaves

pub node_in_is : (n i : ℕ) → i < n → node_in (tree_of n) i ≡ node_of (halved_tree n) i
node_in_is zero i h = absurd (omega arith)
node_in_is (suc n) i h = refl

pub right_in_is : (n v : ℕ) → 0 < n → right_in (tree_of n) v ≡ right_of (halved_tree n) v
right_in_is zero v h = absurd (omega arith)
right_in_is (suc n) v h = refl

pub leaves_are : (n : ℕ) → leaves_in (tree_of n) ≡ n
leaves_are zero = refl
leaves_are (suc n) = tree_leaves (suc n) (omega arith)

-- ---- what jobs of the tree read

pub leaf_reads : (n i : ℕ) → i < n → inputs_of (tree_of n) (Leaf i) ≡ Correction (node_of (halved_tree n) i) ∷ []
leaf_reads n i h =
    let there : nat_lt i (leaves_in (tree_of n)) ≡ true = lt_true i (leaves_in (tree_of n)) (omega (arith, leaves_are n)) in
    rw (there, node_in_is n i h)

pub merge_reads : (n v y : ℕ) → 0 < n → right_of (halved_tree n) v ≡ Some y → inputs_of (tree_of n) (Merge v) ≡ Effect (v + 1) ∷ Effect y ∷ []
merge_reads n v y some e = ap (λ o. if_inner o (λ right. Effect (v + 1) ∷ Effect right ∷ [])) (right_in_is n v some ∙ e)

same_cells : (o : Option ℕ) (cells : List Cell) → o ≢ None → if_inner o (λ right. cells) ≡ cells
same_cells None cells h = absurd (h refl)
same_cells (Some y) cells h = refl

pub correct_reads : (n v : ℕ) → right_in (tree_of n) v ≢ None → inputs_of (tree_of n) (Correct v) ≡ Correction v ∷ Effect (v + 1) ∷ []
correct_reads n v inner = same_cells (right_in (tree_of n) v) (Correction v ∷ Effect (v + 1) ∷ []) inner

-- a job of an inner node has inputs only where the node has children
pub merge_inner : (n v : ℕ) → inputs_of (tree_of n) (Merge v) ≢ [] → right_in (tree_of n) v ≢ None
merge_inner n v some e = some (ap (λ o. if_inner o (λ right. Effect (v + 1) ∷ Effect right ∷ [])) e)

pub correct_inner : (n v : ℕ) → inputs_of (tree_of n) (Correct v) ≢ [] → right_in (tree_of n) v ≢ None
correct_inner n v some e = some (ap (λ o. if_inner o (λ right. Correction v ∷ Effect (v + 1) ∷ [])) e)

pub merge_inside : (n v : ℕ) → inputs_of (tree_of n) (Merge v) ≢ [] → v + 2 < 2 * n
merge_inside n v some = inner_inside n v (right_in (tree_of n) v) (λ right. Effect (v + 1) ∷ Effect right ∷ []) refl some

pub correct_inside : (n v : ℕ) → inputs_of (tree_of n) (Correct v) ≢ [] → v + 2 < 2 * n
correct_inside n v some = inner_inside n v (right_in (tree_of n) v) (λ right. Correction v ∷ Effect (v + 1) ∷ []) refl some
