-- What an event does to a tree's tables it does to the segment's.
use Rattle.std.proofs.Common.{◌≡◌, ◌≢◌, ℕ, zero, suc, ◌+◌, ◌<◌, inl, inr, Bool, true, false, ◌&&◌, List, [], Option, Some, None, length, get_or, set, refl, sym, ap, ◌∙◌, arith}
use Rattle.std.specs.Prelude.{if◌then◌else◌, ◌==◌}
use Rattle.std.proofs.lemmas.Bool.Decides.{eqb_tells}
use Rattle.lt_model.specs.declared.mark.Mark.{Mark}
use Rattle.lt_net.specs.declared.job.JobState.{JobState}
use Rattle.lt_net.specs.declared.job.JobState.TheVariants.{Clean, Pending, Running}
use Rattle.lt_net.specs.Net.{Cell, Correction, Effect, State, Claim, has_cell, update, read, first_of, same_at, woken, ended, value_after, status_ended, claimed, finished, abandoned, opening}
use Rattle.lt_net.specs.Tree.{circuit_net, halved_tree, right_in, tree_of}
use Rattle.lt_net.specs.Row.{passing_net, pass_inputs, pass_closed, given_root}
use Rattle.lt_net.proofs.Shape.{eq_false, right_is}
use Rattle.lt_net.specs.Same.{same_marks}
use Rattle.lt_net.proofs.Equal.{marks_decides}
use Rattle.lt_circuit.specs.Store.{stored, with_value}
use Rattle.std.specs.Option.{option_map}
use Rattle.lt_circuit.specs.declared.cells.Node.{Node}
use Rattle.lt_circuit.specs.declared.cells.Held.{Held}
use Rattle.lt_circuit.specs.Board.{board_state, claim_from, done_in, value_in}
use Rattle.lt_circuit.specs.Segment.{passing, after_change, first_pass, is_read, pass_given, pass_stored, with_claim}
use Rattle.lt_circuit.proofs.Tables.{set_table}

-- a worker's claim in the tables is another
pub claim_is : (nodes : List Node) (states : List JobState) (done : List (Option (List Mark))) (claims : List (Option Held)) (w : ℕ) (o : Option Held)
    → w < length claims → board_state nodes states done (set claims w o) ≡ with_claim (board_state nodes states done claims) w (option_map claim_from o)
claim_is nodes states done claims w o h = λ i. record {
  value = value_in nodes;
  status = λ j. get_or states j Clean;
  done = done_in done;
  claim = λ v. set_table (option_map claim_from) claims w o None h v i;
}

module _ (effect : ℕ → List Mark → List Mark) (n : ℕ) (on : Bool) where
  -- ---- by place

  pub passing_opening : passing (opening (circuit_net effect (tree_of n))) (first_pass on) ≡ opening (passing_net effect n on)
  passing_opening = λ i. record { value = λ x. []; status = λ c. by_place c (c == 2047) i; done = λ j. None; claim = λ w. None }
    where
      by_place : (c : ℕ) (b : Bool) → (if b then first_pass on else (opening (circuit_net effect (tree_of n))).status c) ≡ (if (if b then on else (circuit_net effect (tree_of n)).starts c) then Pending else Clean)
      by_place c true = refl
      by_place c false = refl

  module _ (s : State) (p : JobState) (w : ℕ) where
    -- a job of the tree gets another state
    set_state : (j : ℕ) (v : JobState) → j ≢ 2047 → (c : ℕ) → (if c == 2047 then p else update s.status j v c) ≡ update (passing s p).status j v c
    set_state j v ne c = elim (eqb_tells c 2047) [
      | inl h ↦
          let other : (c == j) ≡ false = eq_false c j (λ e. ne (sym e ∙ h.1)) in
          ap (λ b. if b then p else update s.status j v c) h.0
          ∙ sym (ap (λ b. if b then v else (if c == 2047 then p else s.status c)) other ∙ ap (λ b. if b then p else s.status c) h.0)
      | inr h ↦
          ap (λ b. if b then p else update s.status j v c) h.0
          ∙ ap (λ b. if c == j then v else (if b then p else s.status c)) (sym h.0)
    ]

    -- the Pass gets another
    set_pass : (v : JobState) (c : ℕ) → (if c == 2047 then v else s.status c) ≡ update (passing s p).status 2047 v c
    set_pass v c = by_place (c == 2047)
      where
        by_place : (b : Bool) → (if b then v else s.status c) ≡ (if b then v else (if b then p else s.status c))
        by_place true = refl
        by_place false = refl

    tree_inputs : (j : ℕ) → j ≢ 2047 → (circuit_net effect (tree_of n)).inputs j ≡ (passing_net effect n on).inputs j
    tree_inputs j ne = ap (λ b. if b then pass_inputs on else (circuit_net effect (tree_of n)).inputs j) (sym (eq_false j 2047 ne))

    tree_outputs : (j : ℕ) → j ≢ 2047 → (circuit_net effect (tree_of n)).outputs j ≡ (passing_net effect n on).outputs j
    tree_outputs j ne = ap (λ b. if b then [] else (circuit_net effect (tree_of n)).outputs j) (sym (eq_false j 2047 ne))

    tree_leaf : (j : ℕ) → j ≢ 2047 → (circuit_net effect (tree_of n)).is_leaf j ≡ (passing_net effect n on).is_leaf j
    tree_leaf j ne = ap (λ b. if b then false else (circuit_net effect (tree_of n)).is_leaf j) (sym (eq_false j 2047 ne))

    tree_status : (j : ℕ) → j ≢ 2047 → s.status j ≡ (passing s p).status j
    tree_status j ne = ap (λ b. if b then p else s.status j) (sym (eq_false j 2047 ne))

    -- ---- the events of the tree's jobs

    pub passing_claimed : (j : ℕ) → j ≢ 2047 → passing (claimed (circuit_net effect (tree_of n)) s w j) p ≡ claimed (passing_net effect n on) (passing s p) w j
    passing_claimed j ne =
        let ins = tree_inputs j ne in
        λ i. record {
          value = s.value;
          status = λ c. set_state j Running ne c i;
          done = s.done;
          claim = update s.claim w (Some (record { job = j; inputs = read s.value (ins i); prior = s.done j }));
        }

    pub passing_abandoned : (c : Claim) → c.job ≢ 2047 → passing (abandoned s w c) p ≡ abandoned (passing s p) w c
    passing_abandoned c ne = λ i. record {
      value = s.value;
      status = λ d. set_state c.job Pending ne d i;
      done = s.done;
      claim = update s.claim w None;
    }

    module _ (c : Claim) (ne : c.job ≢ 2047) where
      after_finish : value_after (circuit_net effect (tree_of n)) s c ≡ value_after (passing_net effect n on) (passing s p) c
      after_finish = let outs = tree_outputs c.job ne in λ i x. if has_cell x (outs i) then (circuit_net effect (tree_of n)).gives c.job c.inputs x else s.value x

      ended_finish : (d : ℕ) → (if d == 2047 then p else status_ended s c d) ≡ status_ended (passing s p) c d
      ended_finish d =
          set_state c.job (ended (s.status c.job)) ne d
          ∙ ap (λ v. update (passing s p).status c.job (ended v) d) (tree_status c.job ne)

      -- the Pass is woken where it reads another cell than before
      abbrev pass_after : JobState
      pass_after = if same_at s.value (value_after (circuit_net effect (tree_of n)) s c) (pass_inputs on) then p else woken p

      status_finish : (d : ℕ) → (if d == 2047 then pass_after else (finished (circuit_net effect (tree_of n)) s w c).status d)
          ≡ (if same_at s.value (value_after (passing_net effect n on) (passing s p) c) ((passing_net effect n on).inputs d) then status_ended (passing s p) c d else woken (status_ended (passing s p) c d))
      status_finish d =
          by_place (d == 2047) (status_ended s c d)
          ∙ (λ i. if same_at s.value (after_finish i) ((passing_net effect n on).inputs d) then ended_finish d i else woken (ended_finish d i))
        where
          by_place : (b : Bool) (e : JobState)
              → (if b then pass_after else (if same_at s.value (value_after (circuit_net effect (tree_of n)) s c) ((circuit_net effect (tree_of n)).inputs d) then e else woken e))
              ≡ (if same_at s.value (value_after (circuit_net effect (tree_of n)) s c) (if b then pass_inputs on else (circuit_net effect (tree_of n)).inputs d)
              then (if b then p else e) else woken (if b then p else e))
          by_place true e = refl
          by_place false e = refl

      pub passing_finished : passing (finished (circuit_net effect (tree_of n)) s w c) pass_after ≡ finished (passing_net effect n on) (passing s p) w c
      passing_finished =
          let leaf = tree_leaf c.job ne in
          λ i. record {
            value = after_finish i;
            status = λ d. status_finish d i;
            done = if leaf i then update s.done c.job (Some (first_of c.inputs)) else s.done;
            claim = update s.claim w None;
          }

    -- ---- the events of the Pass

    abbrev pass_claim : Claim
    pass_claim = record { job = 2047; inputs = read s.value (pass_inputs on); prior = s.done 2047 }

    pub pass_claimed : passing (record s { claim = update s.claim w (Some pass_claim) }) Running ≡ claimed (passing_net effect n on) (passing s p) w 2047
    pass_claimed = λ i. record {
      value = s.value;
      status = λ c. set_pass Running c i;
      done = s.done;
      claim = update s.claim w (Some pass_claim);
    }

    pub pass_abandoned : (c : Claim) → c.job ≡ 2047 → passing (record s { claim = update s.claim w None }) Pending ≡ abandoned (passing s p) w c
    pass_abandoned c e = λ i. record {
      value = s.value;
      status = λ d. (set_pass Pending d ∙ ap (λ j. update (passing s p).status j Pending d) (sym e)) i;
      done = s.done;
      claim = update s.claim w None;
    }

    pub pass_ends : (c : Claim) → c.job ≡ 2047 → passing (record s { claim = update s.claim w None }) (ended p) ≡ pass_closed (passing s p) w c
    pass_ends c e =
        let stood : p ≡ (passing s p).status c.job = sym (ap (passing s p).status e) in
        λ i. record {
          value = s.value;
          status = λ d. (set_pass (ended p) d ∙ ap (λ j. update (passing s p).status j (ended p) d) (sym e) ∙ ap (λ v. update (passing s p).status c.job (ended v) d) stood) i;
          done = s.done;
          claim = update s.claim w None;
        }

  -- the root is given its correction
  module _ (s : State) (p : JobState) (m : List Mark) where
    abbrev given_value : Cell → List Mark
    given_value = with_value s.value (Correction 0) m

    pub passing_given : passing (stored (circuit_net effect (tree_of n)) s (Correction 0) m) (if same_at s.value given_value (pass_inputs on) then p else woken p) ≡ given_root (passing_net effect n on) (passing s p) m
    passing_given = λ i. record {
      value = given_value;
      status = λ c. by_place c (c == 2047) i;
      done = s.done;
      claim = s.claim;
    }
      where
        by_place : (c : ℕ) (b : Bool)
            → (if b then (if same_at s.value given_value (pass_inputs on) then p else woken p)
            else (if same_at s.value given_value ((circuit_net effect (tree_of n)).inputs c) then s.status c else woken (s.status c)))
            ≡ (if same_at s.value given_value (if b then pass_inputs on else (circuit_net effect (tree_of n)).inputs c) then (if b then p else s.status c) else woken (if b then p else s.status c))
        by_place c true = refl
        by_place c false = refl

-- ---- what the Pass waits for

is_same : (a b : List Mark) → a ≡ b → same_marks a b ≡ true
is_same a b e = (marks_decides a b).1 e

not_same : (a b : List Mark) → a ≢ b → same_marks a b ≡ false
not_same a b ne = by_case (same_marks a b) refl
  where
    by_case : (t : Bool) → same_marks a b ≡ t → t ≡ false
    by_case true e = absurd (ne ((marks_decides a b).0 e))
    by_case false e = refl

and_false : (a : Bool) → (a && false) ≡ false
and_false true = refl
and_false false = refl

module _ (s : State) (p : JobState) (m : List Mark) where
  -- there is none
  pub given_off : p ≡ pass_given s p false m
  given_off = refl

  -- the root's correction is as before
  pub given_same : (on : Bool) → s.value (Correction 0) ≡ m → p ≡ pass_given s p on m
  given_same false e = refl
  given_same true e = sym (ap (λ b. if b then p else woken p) both)
    where
      both : same_at s.value (with_value s.value (Correction 0) m) (pass_inputs true) ≡ true
      both = λ i. is_same (s.value (Correction 0)) m e i && (is_same (s.value (Effect 0)) (s.value (Effect 0)) refl i && true)

  -- it is another
  pub given_other : s.value (Correction 0) ≢ m → woken p ≡ pass_given s p true m
  given_other ne = sym (ap (λ b. if b then p else woken p) first)
    where
      first : same_at s.value (with_value s.value (Correction 0) m) (pass_inputs true) ≡ false
      first = ap (λ b. b && (same_marks (s.value (Effect 0)) (s.value (Effect 0)) && true)) (not_same (s.value (Correction 0)) m ne)

  pub given_by : (on changed : Bool) → (changed ≡ true → s.value (Correction 0) ≢ m) → (changed ≡ false → s.value (Correction 0) ≡ m) → after_change p on changed ≡ pass_given s p on m
  given_by false changed other same = given_off
  given_by true true other same = given_other (other refl)
  given_by true false other same = given_same true (same refl)

  -- ---- an effect

  at_root : (changed : Bool) → (changed ≡ true → s.value (Effect 0) ≢ m) → (changed ≡ false → s.value (Effect 0) ≡ m) → after_change p true changed ≡ pass_stored s p true (Effect 0) m
  at_root true other same = sym (ap (λ b. if b then p else woken p) differs)
    where
      differs : same_at s.value (with_value s.value (Effect 0) m) (pass_inputs true) ≡ false
      differs =
          ap (λ b. same_marks (s.value (Correction 0)) (s.value (Correction 0)) && (b && true)) (not_same (s.value (Effect 0)) m (other refl))
          ∙ and_false (same_marks (s.value (Correction 0)) (s.value (Correction 0)))
  at_root false other same = sym (ap (λ b. if b then p else woken p) alike)
    where
      alike : same_at s.value (with_value s.value (Effect 0) m) (pass_inputs true) ≡ true
      alike = λ i. is_same (s.value (Correction 0)) (s.value (Correction 0)) refl i && (is_same (s.value (Effect 0)) m (same refl) i && true)

  off_root : (node : ℕ) → node ≢ 0 → p ≡ pass_stored s p true (Effect node) m
  off_root node ne = sym (ap (λ b. if b then p else woken p) alike)
    where
      kept : s.value (Effect 0) ≡ (if 0 == node then m else s.value (Effect 0))
      kept = ap (λ b. if b then m else s.value (Effect 0)) (sym (eq_false 0 node (λ e. ne (sym e))))

      alike : same_at s.value (with_value s.value (Effect node) m) (pass_inputs true) ≡ true
      alike = λ i. is_same (s.value (Correction 0)) (s.value (Correction 0)) refl i && (is_same (s.value (Effect 0)) (if 0 == node then m else s.value (Effect 0)) kept i && true)

  pub stored_by : (on : Bool) (node : ℕ) (changed : Bool) → (changed ≡ true → s.value (Effect 0) ≢ m) → (changed ≡ false → s.value (Effect 0) ≡ m)
      → after_change p (is_read on node) changed ≡ pass_stored s p on (Effect node) m
  stored_by false node changed other same = refl
  stored_by true node changed other same = elim (eqb_tells node 0) [
    | inl h ↦
        ap (λ b. after_change p b changed) h.0 ∙ at_root changed other same ∙ ap (λ k. pass_stored s p true (Effect k) m) (sym h.1)
    | inr h ↦ ap (λ b. after_change p b changed) h.0 ∙ off_root node h.1
  ]

-- ---- finishes

module _ (does : ℕ → List Mark → List Mark) (n : ℕ) (on : Bool) (s : State) (p : JobState) (w : ℕ) (c : Claim) (ne : c.job ≢ 2047) where
  pub stored_finished : (x : Cell) (m : List Mark) → value_after (circuit_net does (tree_of n)) s c ≡ with_value s.value x m
      → passing (finished (circuit_net does (tree_of n)) s w c) (pass_stored s p on x m) ≡ finished (passing_net does n on) (passing s p) w c
  stored_finished x m e =
      ap (λ v. passing (finished (circuit_net does (tree_of n)) s w c) (if same_at s.value v (pass_inputs on) then p else woken p)) (sym e)
      ∙ passing_finished does n on s p w c ne

  -- corrections of other nodes than the root
  pub corrected_finished : (v y : ℕ) (a b : List Mark) → y ≢ 0 → value_after (circuit_net does (tree_of n)) s c ≡ with_value (with_value s.value (Correction (v + 1)) a) (Correction y) b
      → passing (finished (circuit_net does (tree_of n)) s w c) p ≡ finished (passing_net does n on) (passing s p) w c
  corrected_finished v y a b far e =
      ap (passing (finished (circuit_net does (tree_of n)) s w c)) (stays on)
      ∙ ap (λ f. passing (finished (circuit_net does (tree_of n)) s w c) (if same_at s.value f (pass_inputs on) then p else woken p)) (sym e)
      ∙ passing_finished does n on s p w c ne
    where
      root : s.value (Correction 0) ≡ (if 0 == y then b else (if 0 == v + 1 then a else s.value (Correction 0)))
      root =
          let q : (0 == y) ≡ false = eq_false 0 y (λ f. far (sym f)) in
          let r : (0 == v + 1) ≡ false = eq_false 0 (v + 1) (λ f. omega (arith, f)) in
          λ i. if sym q i then b else (if sym r i then a else s.value (Correction 0))

      stays : (t : Bool) → p ≡ (if same_at s.value (with_value (with_value s.value (Correction (v + 1)) a) (Correction y) b) (pass_inputs t) then p else woken p)
      stays false = refl
      stays true = sym (ap (λ t. if t then p else woken p) (λ i.
          is_same (s.value (Correction 0)) (if 0 == y then b else (if 0 == v + 1 then a else s.value (Correction 0))) root i && (is_same (s.value (Effect 0)) (s.value (Effect 0)) refl i && true)))

-- an inner node's right child isn't the root
pub right_some : (n v : ℕ) → right_in (tree_of n) v ≢ None → (y : ℕ) × (right_in (tree_of n) v ≡ Some y) × (y ≢ 0)
right_some n v inner = by_case (right_in (tree_of n) v) refl
  where
    behind : (m y : ℕ) → right_in (tree_of m) v ≡ Some y → y ≢ 0
    behind zero y e = cc
    behind (suc m) y e = let r = right_is (halved_tree (suc m)) v y e in λ f. omega (arith, f, r.after)

    by_case : (o : Option ℕ) → right_in (tree_of n) v ≡ o → (y : ℕ) × (right_in (tree_of n) v ≡ Some y) × (y ≢ 0)
    by_case None e = absurd (inner e)
    by_case (Some y) e = (y, e, behind n y e)
