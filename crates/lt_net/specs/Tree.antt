-- The tree of a circuit, its jobs as a net, and what serial running gives.
use Rattle.std.specs.Prelude.{◌≡◌, ℕ, zero, suc, ◌*◌, ◌+◌, ◌-◌, ◌/◌, ◌<◌, Bool, true, false, if◌then◌else◌, List, [], ◌∷◌, Option, Some, None, ◌==◌, nat_lt}
use Rattle.std.specs.Option.{option_map}
use Rattle.lt_model.specs.declared.mark.Mark.{Mark}
use Rattle.lt_model.specs.Marks.{AreMarks, and_then}
use Rattle.lt_net.specs.declared.job.JobName.{JobName}
use Rattle.lt_net.specs.declared.job.JobName.TheVariants.{Leaf, Merge, Correct, Pass}
use Rattle.lt_net.specs.Net.{Cell, Correction, Effect, Net, State, same_cell, first_of, second_of}
use Rattle.lt_net.specs.Codes.{code_of, job_of}

pub data Tree : Type 0 where
  Tip : Tree
  Fork : (left right : Tree) → Tree

abbrev pub leaves : Tree → ℕ
leaves Tip = 1
leaves (Fork l r) = leaves l + leaves r

-- the tree over c leaves, at least 1: the left half has the odd one. `depth` bounds its depth
abbrev pub halved : (depth c : ℕ) → Tree
halved zero c = Tip
halved (suc depth) c = elim (nat_lt c 2) [ true ↦ Tip | false ↦ Fork (halved depth ((c + 1) / 2)) (halved depth (c / 2)) ]

-- the tree over c leaves
abbrev pub halved_tree : ℕ → Tree
halved_tree c = halved c c

-- the tree of a circuit. Without leaves there is none
abbrev pub tree_of : ℕ → Option Tree
tree_of zero = None
tree_of (suc n) = Some (halved_tree (suc n))

-- Nodes are numbered in preorder, the root as 0. The left child of v is v + 1, the right one v + 2 * (leaves of the left child).

-- the right child of the inner node x
abbrev pub right_of : Tree → ℕ → Option ℕ
right_of Tip x = None
right_of (Fork l r) x =
    if x == 0 then Some (2 * leaves l)
    else (if nat_lt x (2 * leaves l) then option_map (λ y. y + 1) (right_of l (x - 1))
    else option_map (λ y. y + 2 * leaves l) (right_of r (x - 2 * leaves l)))

-- the node of leaf i
abbrev pub node_of : Tree → ℕ → ℕ
node_of Tip i = 0
node_of (Fork l r) i = if nat_lt i (leaves l) then node_of l i + 1 else node_of r (i - leaves l) + 2 * leaves l

-- the parent of a node but the root, and the leaf at a node without children
abbrev pub parent_of : Tree → ℕ → ℕ
parent_of Tip x = 0
parent_of (Fork l r) x =
    if x == 1 then 0 else (if x == 2 * leaves l then 0
    else (if nat_lt x (2 * leaves l) then parent_of l (x - 1) + 1 else parent_of r (x - 2 * leaves l) + 2 * leaves l))

abbrev pub leaf_at : Tree → ℕ → ℕ
leaf_at Tip x = 0
leaf_at (Fork l r) x = if nat_lt x (2 * leaves l) then leaf_at l (x - 1) else leaf_at r (x - 2 * leaves l) + leaves l

abbrev pub right_in : Option Tree → ℕ → Option ℕ
right_in None x = None
right_in (Some t) x = right_of t x

abbrev pub leaves_in : Option Tree → ℕ
leaves_in None = 0
leaves_in (Some t) = leaves t

abbrev pub node_in : Option Tree → ℕ → ℕ
node_in None i = 0
node_in (Some t) i = node_of t i

-- ---- the jobs. A tree has no Pass

-- cells of an inner node, of which there are none without a right child
abbrev pub if_inner : Option ℕ → (ℕ → List Cell) → List Cell
if_inner None cells = []
if_inner (Some right) cells = cells right

abbrev pub inputs_of : Option Tree → JobName → List Cell
inputs_of t (Leaf i) = if nat_lt i (leaves_in t) then Correction (node_in t i) ∷ [] else []
inputs_of t (Merge v) = if_inner (right_in t v) (λ right. Effect (v + 1) ∷ Effect right ∷ [])
inputs_of t (Correct v) = if_inner (right_in t v) (λ right. Correction v ∷ Effect (v + 1) ∷ [])
inputs_of t (Pass s) = []

abbrev pub outputs_of : Option Tree → JobName → List Cell
outputs_of t (Leaf i) = if nat_lt i (leaves_in t) then Effect (node_in t i) ∷ [] else []
outputs_of t (Merge v) = if_inner (right_in t v) (λ right. Effect v ∷ [])
outputs_of t (Correct v) = if_inner (right_in t v) (λ right. Correction (v + 1) ∷ Correction right ∷ [])
outputs_of t (Pass s) = []

-- what a job gives an output, of its inputs. `effect` is what each leaf does on a correction
abbrev pub gives_of : (ℕ → List Mark → List Mark) → JobName → List (List Mark) → Cell → List Mark
gives_of effect (Leaf i) inputs x = effect i (first_of inputs)
gives_of effect (Merge v) inputs x = and_then (first_of inputs) (second_of inputs)
gives_of effect (Correct v) inputs x =
    if same_cell x (Correction (v + 1)) then first_of inputs else and_then (first_of inputs) (second_of inputs)
gives_of effect (Pass s) inputs x = and_then (first_of inputs) (second_of inputs)

abbrev pub is_leaf_job : Option Tree → JobName → Bool
is_leaf_job t (Leaf i) = nat_lt i (leaves_in t)
is_leaf_job t (Merge v) = false
is_leaf_job t (Correct v) = false
is_leaf_job t (Pass s) = false

abbrev pub circuit_net : (ℕ → List Mark → List Mark) → Option Tree → Net
circuit_net effect t = record {
  inputs = λ code. inputs_of t (job_of code);
  outputs = λ code. outputs_of t (job_of code);
  gives = λ code. gives_of effect (job_of code);
  starts = λ code. is_leaf_job t (job_of code);
  is_leaf = λ code. is_leaf_job t (job_of code);
}

-- ---- serial running

-- what the leaves before i do, one after another, where `start` stands before the first
abbrev pub before : (ℕ → List Mark → List Mark) → List Mark → ℕ → List Mark
before effect start zero = start
before effect start (suc i) = and_then (before effect start i) (effect i (before effect start i))

-- the first i of these marks, one after another, after `start`
abbrev pub then_all : (ℕ → List Mark) → List Mark → ℕ → List Mark
then_all marks start zero = start
then_all marks start (suc i) = and_then (then_all marks start i) (marks i)

-- what the first n leaves do on marks is marks
abbrev pub GiveMarks : (ℕ → List Mark → List Mark) → ℕ → Type 0
GiveMarks effect n = (i : ℕ) (c : List Mark) → i < n → AreMarks c → AreMarks (effect i c)

-- the effect of leaf i
abbrev pub leaf_value : ℕ → State → ℕ → List Mark
leaf_value n s i = s.value (Effect (node_in (tree_of n) i))

-- Each leaf did what it does on the effects of all leaves before it, and last finished with just that correction. The root's effect is that of all.
pub record IsSerial (effect : ℕ → List Mark → List Mark) (n : ℕ) (s : State) : Type 0 where
  pub did : (i : ℕ) → i < n → leaf_value n s i ≡ effect i (then_all (leaf_value n s) [] i)
  pub stands_for : (i : ℕ) → i < n → s.done (code_of (Leaf i)) ≡ Some (then_all (leaf_value n s) [] i)
  pub whole : s.value (Effect 0) ≡ then_all (leaf_value n s) [] n
