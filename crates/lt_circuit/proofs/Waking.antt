-- A cell stored and its readers woken, as tables and as a state.
use Rattle.std.proofs.Common.{◌≡◌, ℕ, zero, suc, ◌+◌, ◌*◌, ◌<◌, inl, inr, Bool, true, false, not, ◌&&◌, ◌||◌, List, [], ◌∷◌, length, get_or, set, refl, sym, ap, ◌∙◌, arith, get_or-set_same, get_or-set_other, length-set}
use Rattle.std.specs.Prelude.{if◌then◌else◌, ◌==◌, max}
use Rattle.std.proofs.lemmas.Bool.Decides.{eqb_tells}
use Rattle.lt_model.specs.declared.mark.Mark.{Mark}
use Rattle.lt_net.specs.Same.{same_marks}
use Rattle.lt_net.proofs.Equal.{marks_decides}
use Rattle.lt_net.specs.declared.job.JobState.{JobState}
use Rattle.lt_net.specs.declared.job.JobState.TheVariants.{Clean, Pending, Running, Dirty}
use Rattle.lt_circuit.specs.declared.cells.Node.{Node}
use Rattle.lt_net.specs.Net.{Net, State, Cell, Correction, Effect, same_cell, has_cell, same_at, woken}
use Rattle.lt_net.specs.Tree.{tree_of, halved_tree, circuit_net, inputs_of}
use Rattle.lt_net.specs.Codes.{job_of, nodes_over, codes_over}
use Rattle.lt_circuit.specs.Store.{with_value, stored, readers_of, has_code}
use Rattle.lt_circuit.specs.Board.{BoardView, state_of, board_state, value_in, bare_node, waked, waked_all}
use Rattle.lt_net.proofs.Codes.{code_of-job}
use Rattle.lt_net.proofs.Jobs.{cell_same}
use Rattle.lt_net.proofs.Inside.{job_inside, none_reads}
use Rattle.lt_circuit.proofs.Readers.{readers, node_at}
use Rattle.lt_net.proofs.Shape.{eq_true, eq_false, tree_leaves}

-- each of the jobs is in the table
pub InTable : List ℕ → ℕ → Type 0
InTable jobs n = (j : ℕ) → has_code j jobs ≡ true → j < n

woken_twice : (s : JobState) → woken (woken s) ≡ woken s
woken_twice Clean = refl
woken_twice Pending = refl
woken_twice Running = refl
woken_twice Dirty = refl

pub waked_nodes : (b : BoardView) (jobs : List ℕ) → (waked_all b jobs).nodes ≡ b.nodes
waked_nodes b [] = refl
waked_nodes b (j ∷ js) = waked_nodes (waked b j) js

pub waked_done : (b : BoardView) (jobs : List ℕ) → (waked_all b jobs).done ≡ b.done
waked_done b [] = refl
waked_done b (j ∷ js) = waked_done (waked b j) js

pub waked_claims : (b : BoardView) (jobs : List ℕ) → (waked_all b jobs).claims ≡ b.claims
waked_claims b [] = refl
waked_claims b (j ∷ js) = waked_claims (waked b j) js

pub waked_leaves : (b : BoardView) (jobs : List ℕ) → (waked_all b jobs).leaves ≡ b.leaves
waked_leaves b [] = refl
waked_leaves b (j ∷ js) = waked_leaves (waked b j) js

or_true : (b : Bool) → (b || true) ≡ true
or_true true = refl
or_true false = refl

first_code : (k : ℕ) (ks : List ℕ) → has_code k (k ∷ ks) ≡ true
first_code k ks = elim (eqb_tells k k) [ inl g ↦ rw g.0 | inr g ↦ absurd (g.1 refl) ]

later_code : (i k : ℕ) (ks : List ℕ) → has_code i ks ≡ true → has_code i (k ∷ ks) ≡ true
later_code i k ks e = rw e (or_true (i == k))

twice : (b : Bool) (s : JobState) → (if b then woken (woken s) else woken s) ≡ woken s
twice true s = woken_twice s
twice false s = refl

waked_status : (b : BoardView) (jobs : List ℕ) → ((j : ℕ) → has_code j jobs ≡ true → j < length b.states) → (j : ℕ)
    → get_or (waked_all b jobs).states j Clean ≡ (if has_code j jobs then woken (get_or b.states j Clean) else get_or b.states j Clean)
waked_status b [] h j = refl
waked_status b (k ∷ ks) h j =
    let there : k < length b.states = h k (first_code k ks) in
    let rest : (i : ℕ) → has_code i ks ≡ true → i < length (waked b k).states = λ i e. omega (arith, length-set b.states k (woken (get_or b.states k Clean)), h i (later_code i k ks e)) in
    waked_status (waked b k) ks rest j ∙ elim (eqb_tells j k) [
      | inl e ↦
          let p : get_or (set b.states k (woken (get_or b.states k Clean))) j Clean ≡ woken (get_or b.states j Clean) =
          ap (λ i. get_or (set b.states k (woken (get_or b.states k Clean))) i Clean) e.1 ∙ get_or-set_same b.states k (woken (get_or b.states k Clean)) Clean there ∙ ap (λ i. woken (get_or b.states i Clean)) (sym e.1) in
          rw (e.0, p) (twice (has_code j ks) (get_or b.states j Clean))
      | inr e ↦
          let p : get_or (set b.states k (woken (get_or b.states k Clean))) j Clean ≡ get_or b.states j Clean = get_or-set_other b.states k j (woken (get_or b.states k Clean)) Clean e.1 in
          rw (e.0, p)
    ]

own_marks : (m : List Mark) → same_marks m m ≡ true
own_marks m = (marks_decides m m).1 refl

number_sym : (a b : ℕ) → (a == b) ≡ (b == a)
number_sym a b = elim (eqb_tells a b) [
  | inl h ↦ elim (eqb_tells b a) [ inl g ↦ h.0 ∙ sym g.0 | inr g ↦ absurd (g.1 (sym h.1)) ]
  | inr h ↦ elim (eqb_tells b a) [ inl g ↦ absurd (h.1 (sym g.1)) | inr g ↦ h.0 ∙ sym g.0 ]
]

cell_sym : (x c : Cell) → same_cell x c ≡ same_cell c x
cell_sym (Correction v) (Correction w) = number_sym v w
cell_sym (Effect v) (Effect w) = number_sym v w
cell_sym (Correction v) (Effect w) = refl
cell_sym (Effect v) (Correction w) = refl

-- what changed at the inputs, where one cell was stored
same_stored : (v : Cell → List Mark) (x : Cell) (m : List Mark) (cs : List Cell) → same_at v (with_value v x m) cs ≡ (not (has_cell x cs) || same_marks (v x) m)
same_stored v x m [] = refl
same_stored v x m (c ∷ cs) = rw (same_stored v x m cs, cell_sym x c) (by_case (same_cell c x) refl)
  where
    absorb : (n a : Bool) → (a && (n || a)) ≡ a
    absorb true true = refl
    absorb true false = refl
    absorb false true = refl
    absorb false false = refl

    by_case : (b : Bool) → same_cell c x ≡ b → (same_marks (v c) (if b then m else v c) && (not (has_cell x cs) || same_marks (v x) m)) ≡ (not (b || has_cell x cs) || same_marks (v x) m)
    by_case true e = ap (λ y. same_marks (v y) m && (not (has_cell x cs) || same_marks (v x) m)) (cell_same c x e) ∙ absorb (not (has_cell x cs)) (same_marks (v x) m)
    by_case false e = rw (own_marks (v c))

module _ (does : ℕ → List Mark → List Mark) (b : BoardView) (x : Cell) (m : List Mark) (nodes : List Node)
    (values : (y : Cell) → value_in nodes y ≡ with_value (value_in b.nodes) x m y) where
  -- the same marks stood there
  pub store_same : same_marks (value_in b.nodes x) m ≡ true → state_of (record b { nodes = nodes }) ≡ stored (circuit_net does (tree_of b.leaves)) (state_of b) x m
  store_same e =
      let net = circuit_net does (tree_of b.leaves) in
      let at : (j : ℕ) → same_at (value_in b.nodes) (with_value (value_in b.nodes) x m) (net.inputs j) ≡ true =
      λ j. same_stored (value_in b.nodes) x m (net.inputs j) ∙ ap (λ t. not (has_cell x (net.inputs j)) || t) e ∙ or_true (not (has_cell x (net.inputs j))) in
      let st = (state_of b).status in
      λ i. record { value = λ y. values y i; status = λ j. (ap (λ t. if t then (state_of b).status j else woken ((state_of b).status j)) (sym (at j))) i; done = (state_of b).done; claim = (state_of b).claim }

  -- other marks stood there, and the readers are woken
  pub store_changed : same_marks (value_in b.nodes x) m ≡ false → 0 < b.leaves → node_at x + 1 < 2 * b.leaves
      → ((j : ℕ) → has_code j (readers_of (halved_tree b.leaves) x) ≡ true → j < length b.states)
      → state_of (waked_all (record b { nodes = nodes }) (readers_of (halved_tree b.leaves) x)) ≡ stored (circuit_net does (tree_of b.leaves)) (state_of b) x m
  store_changed e some inside there =
      let jobs = readers_of (halved_tree b.leaves) x in
      let b1 : BoardView = record b { nodes = nodes } in
      let net = circuit_net does (tree_of b.leaves) in
      let reads : (j : ℕ) → has_cell x (net.inputs j) ≡ has_code j jobs = reads_of b.leaves some inside in
      let at : (j : ℕ) → same_at (value_in b.nodes) (with_value (value_in b.nodes) x m) (net.inputs j) ≡ not (has_code j jobs) =
      λ j. same_stored (value_in b.nodes) x m (net.inputs j) ∙ ap (λ t. not (has_cell x (net.inputs j)) || t) e ∙ or_false (not (has_cell x (net.inputs j))) ∙ ap not (reads j) in
      let status : (j : ℕ) → get_or (waked_all b1 jobs).states j Clean ≡ (stored net (state_of b) x m).status j =
      λ j. waked_status b1 jobs there j ∙ flip (has_code j jobs) ((state_of b).status j) ∙ ap (λ t. if t then (state_of b).status j else woken ((state_of b).status j)) (sym (at j)) in
      let value : (y : Cell) → value_in (waked_all b1 jobs).nodes y ≡ with_value (value_in b.nodes) x m y = λ y. ap (λ n. value_in n y) (waked_nodes b1 jobs) ∙ values y in
      λ i. record {
        value = λ y. value y i;
        status = λ j. status j i;
        done = ap (λ d. (board_state [] [] d []).done) (waked_done b1 jobs) i;
        claim = ap (λ c. (board_state [] [] [] c).claim) (waked_claims b1 jobs) i;
      }
    where
      or_false : (t : Bool) → (t || false) ≡ t
      or_false true = refl
      or_false false = refl

      flip : (t : Bool) (s : JobState) → (if t then woken s else s) ≡ (if not t then s else woken s)
      flip true s = refl
      flip false s = refl

      reads_of : (n : ℕ) → 0 < n → node_at x + 1 < 2 * n → (j : ℕ) → has_cell x (inputs_of (tree_of n) (job_of j)) ≡ has_code j (readers_of (halved_tree n) x)
      reads_of zero a k j = absurd (omega arith)
      reads_of (suc n) a k j = readers (halved_tree (suc n)) x (omega (arith, k, tree_leaves (suc n) a)) j

-- the table of nodes after a node's effect, or its correction, was written
pub effect_written : (nodes : List Node) (u : ℕ) (m : List Mark) (n : Node) → u < length nodes → n ≡ record (get_or nodes u bare_node) { effect = m }
    → (y : Cell) → value_in (set nodes u n) y ≡ with_value (value_in nodes) (Effect u) m y
effect_written nodes u m n h e (Correction v) = elim (eqb_tells v u) [
  | inl g ↦ ap (λ i. (get_or (set nodes u n) i bare_node).correction) g.1 ∙ ap (λ (k : Node). k.correction) (get_or-set_same nodes u n bare_node h ∙ e) ∙ ap (λ i. (get_or nodes i bare_node).correction) (sym g.1)
  | inr g ↦ ap (λ (k : Node). k.correction) (get_or-set_other nodes u v n bare_node g.1)
]
effect_written nodes u m n h e (Effect v) = elim (eqb_tells v u) [
  | inl g ↦ rw g.0 (ap (λ i. (get_or (set nodes u n) i bare_node).effect) g.1 ∙ ap (λ (k : Node). k.effect) (get_or-set_same nodes u n bare_node h ∙ e))
  | inr g ↦ rw g.0 (ap (λ (k : Node). k.effect) (get_or-set_other nodes u v n bare_node g.1))
]

pub correction_written : (nodes : List Node) (u : ℕ) (m : List Mark) (n : Node) → u < length nodes → n ≡ record (get_or nodes u bare_node) { correction = m }
    → (y : Cell) → value_in (set nodes u n) y ≡ with_value (value_in nodes) (Correction u) m y
correction_written nodes u m n h e (Effect v) = elim (eqb_tells v u) [
  | inl g ↦ ap (λ i. (get_or (set nodes u n) i bare_node).effect) g.1 ∙ ap (λ (k : Node). k.effect) (get_or-set_same nodes u n bare_node h ∙ e) ∙ ap (λ i. (get_or nodes i bare_node).effect) (sym g.1)
  | inr g ↦ ap (λ (k : Node). k.effect) (get_or-set_other nodes u v n bare_node g.1)
]
correction_written nodes u m n h e (Correction v) = elim (eqb_tells v u) [
  | inl g ↦ rw g.0 (ap (λ i. (get_or (set nodes u n) i bare_node).correction) g.1 ∙ ap (λ (k : Node). k.correction) (get_or-set_same nodes u n bare_node h ∙ e))
  | inr g ↦ rw g.0 (ap (λ (k : Node). k.correction) (get_or-set_other nodes u v n bare_node g.1))
]

pub readers_in_table : (n : ℕ) (x : Cell) → 0 < n → node_at x + 1 < 2 * n → (j : ℕ) → has_code j (readers_of (halved_tree n) x) ≡ true → j < codes_over n
readers_in_table zero x a k j e = absurd (omega arith)
readers_in_table (suc n) x a k j e =
    let has : has_cell x (inputs_of (tree_of (suc n)) (job_of j)) ≡ true = readers (halved_tree (suc n)) x (omega (arith, k, tree_leaves (suc n) a)) j ∙ e in
    let some : inputs_of (tree_of (suc n)) (job_of j) ≡ [] → ⊥ = λ f. (let g : false ≡ true = sym (ap (has_cell x) f) ∙ has in cc) in
    let inside = job_inside (suc n) (job_of j) some in
    omega (arith, inside, code_of-job j)

differs : (a b : List Mark) → (a ≡ b → ⊥) → same_marks a b ≡ false
differs a b h = by_case (same_marks a b) refl
  where
    by_case : (t : Bool) → same_marks a b ≡ t → t ≡ false
    by_case true e = absurd (h ((marks_decides a b).0 e))
    by_case false e = refl

-- the code's two ways through a store of an effect, and of a correction
module _ (does : ℕ → List Mark → List Mark) (b : BoardView) (u : ℕ) (m : List Mark)
    (inside : u + 1 < 2 * b.leaves) (nodes_there : length b.nodes ≡ max (nodes_over b.leaves) 1) (states_there : length b.states ≡ codes_over b.leaves) where
  some : 0 < b.leaves
  some = omega (arith, inside)

  there : u < length b.nodes
  there = omega (arith, inside, nodes_there)

  abbrev with_effect : Node
  with_effect = record (get_or b.nodes u bare_node) { effect = m }

  abbrev with_correction : Node
  with_correction = record (get_or b.nodes u bare_node) { correction = m }

  pub effect_changed : ((get_or b.nodes u bare_node).effect ≡ m → ⊥)
      → state_of (waked_all (record b { nodes = set b.nodes u with_effect }) (readers_of (halved_tree b.leaves) (Effect u))) ≡ stored (circuit_net does (tree_of b.leaves)) (state_of b) (Effect u) m
  effect_changed ne = store_changed does b (Effect u) m (set b.nodes u with_effect) (effect_written b.nodes u m with_effect there refl)
      (differs (value_in b.nodes (Effect u)) m ne) some inside
      (λ j e. omega (arith, states_there, readers_in_table b.leaves (Effect u) some inside j e))

  pub effect_same : (get_or b.nodes u bare_node).effect ≡ m → state_of (record b { nodes = set b.nodes u with_effect }) ≡ stored (circuit_net does (tree_of b.leaves)) (state_of b) (Effect u) m
  effect_same e = store_same does b (Effect u) m (set b.nodes u with_effect) (effect_written b.nodes u m with_effect there refl)
      ((marks_decides (value_in b.nodes (Effect u)) m).1 e)

  pub correction_changed : ((get_or b.nodes u bare_node).correction ≡ m → ⊥)
      → state_of (waked_all (record b { nodes = set b.nodes u with_correction }) (readers_of (halved_tree b.leaves) (Correction u))) ≡ stored (circuit_net does (tree_of b.leaves)) (state_of b) (Correction u) m
  correction_changed ne = store_changed does b (Correction u) m (set b.nodes u with_correction) (correction_written b.nodes u m with_correction there refl)
      (differs (value_in b.nodes (Correction u)) m ne) some inside
      (λ j e. omega (arith, states_there, readers_in_table b.leaves (Correction u) some inside j e))

  pub correction_same : (get_or b.nodes u bare_node).correction ≡ m → state_of (record b { nodes = set b.nodes u with_correction }) ≡ stored (circuit_net does (tree_of b.leaves)) (state_of b) (Correction u) m
  correction_same e = store_same does b (Correction u) m (set b.nodes u with_correction) (correction_written b.nodes u m with_correction there refl)
      ((marks_decides (value_in b.nodes (Correction u)) m).1 e)

-- the marks stand there already
pub store_there : (does : ℕ → List Mark → List Mark) (b : BoardView) (x : Cell) (m : List Mark) → value_in b.nodes x ≡ m → state_of b ≡ stored (circuit_net does (tree_of b.leaves)) (state_of b) x m
store_there does b x m e = store_same does b x m b.nodes (λ y. by_case y (same_cell y x) refl) ((marks_decides (value_in b.nodes x) m).1 e)
  where
    by_case : (y : Cell) (t : Bool) → same_cell y x ≡ t → value_in b.nodes y ≡ (if t then m else value_in b.nodes y)
    by_case y true f = ap (value_in b.nodes) (cell_same y x f) ∙ e
    by_case y false f = refl

-- without leaves no job reads the root's correction
pub root_unread : (does : ℕ → List Mark → List Mark) (b : BoardView) (m : List Mark) → b.leaves ≡ 0 → length b.nodes ≡ max (nodes_over b.leaves) 1
    → state_of (record b { nodes = set b.nodes 0 (record (get_or b.nodes 0 bare_node) { correction = m }) }) ≡ stored (circuit_net does (tree_of b.leaves)) (state_of b) (Correction 0) m
root_unread does b m none there =
    let value = correction_written b.nodes 0 m (record (get_or b.nodes 0 bare_node) { correction = m }) (omega (arith, there, none)) refl in
    let unread : (j : ℕ) → (circuit_net does (tree_of b.leaves)).inputs j ≡ [] = λ j. ap (λ n. inputs_of (tree_of n) (job_of j)) none ∙ none_reads (job_of j) in
    λ i. record {
      value = λ y. value y i;
      status = λ j. ap (λ cs. if same_at (value_in b.nodes) (with_value (value_in b.nodes) (Correction 0) m) cs then (state_of b).status j else woken ((state_of b).status j)) (sym (unread j)) i;
      done = (state_of b).done;
      claim = (state_of b).claim;
    }

-- after a store at one of two cells both have the marks, where the other had them
pub both_have : (net : Net) (s : State) (v : ℕ) (m : List Mark) → m ≡ s.value (Correction v)
    → (stored net s (Correction (v + 1)) m).value (Correction (v + 1)) ≡ (stored net s (Correction (v + 1)) m).value (Correction v)
both_have net s v m e =
    let here : (v + 1 == v + 1) ≡ true = eq_true (v + 1) in
    let other : (v == v + 1) ≡ false = eq_false v (v + 1) (omega arith) in
    rw (here, other) e
