-- A write to a table, as an update of what the table stands for.
use Rattle.std.proofs.Common.{◌≡◌, ℕ, ◌<◌, ◌≢◌, inl, inr, false, List, Option, Some, None, length, get_or, set, sym, ap, ◌∙◌, get_or-set_same, get_or-set_other}
use Rattle.std.specs.Option.{option_map}
use Rattle.lt_model.specs.declared.mark.Mark.{Mark}
use Rattle.lt_net.specs.declared.job.JobName.{JobName}
use Rattle.lt_net.specs.declared.job.JobName.TheVariants.{Leaf, Merge, Correct, Pass}
use Rattle.lt_net.specs.Codes.{code_of, job_of}
use Rattle.lt_net.proofs.Codes.{code_of-job, same_leaf, merge_no_leaf, correct_no_leaf, pass_no_leaf}
use Rattle.lt_net.proofs.Shape.{eq_false}
use Rattle.lt_net.specs.declared.job.JobState.{JobState}
use Rattle.lt_net.specs.declared.job.JobState.TheVariants.{Clean, Pending, Running}
use Rattle.lt_circuit.specs.declared.cells.Node.{Node}
use Rattle.lt_circuit.specs.declared.cells.Held.{Held}
use Rattle.lt_net.specs.Net.{Net, Claim, update, ended, read, claimed, abandoned}
use Rattle.lt_circuit.specs.Store.{closed, kept_leaf}
use Rattle.std.specs.Prelude.{◌==◌, if◌then◌else◌}
use Rattle.std.proofs.lemmas.Bool.Decides.{eqb_tells}
use Rattle.lt_circuit.specs.Board.{inputs_list, claim_from, value_in, done_in, done_of, board_state}
use Rattle.lt_net.proofs.Kept.{at_update}

-- the table read by f, after a write
pub set_table : {X Y : Type 0} (f : X → Y) (xs : List X) (k : ℕ) (v d : X) → k < length xs → (j : ℕ) → f (get_or (set xs k v) j d) ≡ update (λ i. f (get_or xs i d)) k (f v) j
set_table f xs k v d h j = elim (at_update (λ i. f (get_or xs i d)) k (f v) j) [
  | inl e ↦ ap (λ i. f (get_or (set xs k v) i d)) e.0 ∙ ap f (get_or-set_same xs k v d h) ∙ sym e.1
  | inr e ↦ ap f (get_or-set_other xs k j v d e.0) ∙ sym e.1
]

pub hold_is : (net : Net) (nodes : List Node) (states : List JobState) (done : List (Option (List Mark))) (claims : List (Option Held)) (w : ℕ) (held : Held)
    → code_of held.job < length states → w < length claims → inputs_list held.inputs ≡ read (value_in nodes) (net.inputs (code_of held.job)) → held.prior ≡ done_in done (code_of held.job)
    → board_state nodes (set states (code_of held.job) Running) done (set claims w (Some held)) ≡ claimed net (board_state nodes states done claims) w (code_of held.job)
hold_is net nodes states done claims w held a b e f =
    let j = code_of held.job in
    let same : claim_from held ≡ record { job = j; inputs = read (value_in nodes) (net.inputs j); prior = done_in done j } = λ i. record { job = j; inputs = e i; prior = f i } in
    let p = set_table (λ (s : JobState). s) states j Running Clean a in
    let q = set_table (option_map claim_from) claims w (Some held) None b in
    λ i. record {
      value = value_in nodes;
      status = λ x. p x i;
      done = done_in done;
      claim = λ x. (q x ∙ ap (λ c. update (λ y. option_map claim_from (get_or claims y None)) w (Some c) x) same) i;
    }

pub abandon_is : (nodes : List Node) (states : List JobState) (done : List (Option (List Mark))) (claims : List (Option Held)) (w : ℕ) (c : Claim)
    → c.job < length states → w < length claims
    → board_state nodes (set states c.job Pending) done (set claims w None) ≡ abandoned (board_state nodes states done claims) w c
abandon_is nodes states done claims w c a b =
    let p = set_table (λ (s : JobState). s) states c.job Pending Clean a in
    let q = set_table (option_map claim_from) claims w None None b in
    λ i. record { value = value_in nodes; status = λ x. p x i; done = done_in done; claim = λ x. q x i }

pub close_is : (nodes : List Node) (states : List JobState) (done : List (Option (List Mark))) (claims : List (Option Held)) (w : ℕ) (c : Claim) (st : JobState)
    → c.job < length states → w < length claims → st ≡ ended (get_or states c.job Clean)
    → board_state nodes (set states c.job st) done (set claims w None) ≡ closed (board_state nodes states done claims) w c
close_is nodes states done claims w c st a b e =
    let p = set_table (λ (s : JobState). s) states c.job st Clean a in
    let q = set_table (option_map claim_from) claims w None None b in
    λ i. record { value = value_in nodes; status = λ x. (p x ∙ ap (λ u. update (λ y. get_or states y Clean) c.job u x) e) i; done = done_in done; claim = λ x. q x i }

pub keep_is : (nodes : List Node) (states : List JobState) (done : List (Option (List Mark))) (claims : List (Option Held)) (leaf : ℕ) (m : List Mark)
    → leaf < length done → board_state nodes states (set done leaf (Some m)) claims ≡ kept_leaf (board_state nodes states done claims) (code_of (Leaf leaf)) m
keep_is nodes states done claims leaf m a =
    let p : (j : ℕ) → done_in (set done leaf (Some m)) j ≡ update (done_in done) (code_of (Leaf leaf)) (Some m) j = λ j. at_job j in
    λ i. record { value = value_in nodes; status = λ x. get_or states x Clean; done = λ j. p j i; claim = λ x. option_map claim_from (get_or claims x None) }
  where
    by_name : (name : JobName) → done_of (set done leaf (Some m)) name ≡ (if code_of name == code_of (Leaf leaf) then Some m else done_of done name)
    by_name (Leaf i) = elim (eqb_tells (code_of (Leaf i)) (code_of (Leaf leaf))) [
      | inl h ↦ rw h.0 (ap (λ k. get_or (set done leaf (Some m)) k None) (same_leaf i leaf h.1) ∙ get_or-set_same done leaf (Some m) None a)
      | inr h ↦ let ne : i ≢ leaf = λ e. h.1 (ap (λ k. code_of (Leaf k)) e) in rw h.0 (get_or-set_other done leaf i (Some m) None ne)
    ]
    by_name (Merge v) = let no : (code_of (Merge v) == code_of (Leaf leaf)) ≡ false = eq_false (code_of (Merge v)) (code_of (Leaf leaf)) (merge_no_leaf v leaf) in rw no
    by_name (Correct v) = let no : (code_of (Correct v) == code_of (Leaf leaf)) ≡ false = eq_false (code_of (Correct v)) (code_of (Leaf leaf)) (correct_no_leaf v leaf) in rw no
    by_name (Pass s) = let no : (code_of (Pass s) == code_of (Leaf leaf)) ≡ false = eq_false (code_of (Pass s)) (code_of (Leaf leaf)) (pass_no_leaf s leaf) in rw no

    at_job : (j : ℕ) → done_in (set done leaf (Some m)) j ≡ update (done_in done) (code_of (Leaf leaf)) (Some m) j
    at_job j = by_name (job_of j) ∙ ap (λ k. if k == code_of (Leaf leaf) then Some m else done_in done j) (code_of-job j)
