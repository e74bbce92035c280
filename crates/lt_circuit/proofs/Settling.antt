-- What the queries of a circuit stand on.
use Rattle.std.proofs.Common.{◌≡◌, ◌≢◌, ℕ, zero, suc, ◌<◌, ◌↔◌, Bool, true, false, not, List, [], map, Option, Some, None, get_or, refl, sym, ap, ◌∙◌, subst, arith}
use Rattle.std.specs.Option.{option_map}
use Rattle.std.specs.Bool.{IsTrue}
use Rattle.lt_model.specs.declared.mark.Mark.{Mark}
use Rattle.lt_model.specs.Marks.{AreMarks, and_then}
use Rattle.lt_net.specs.declared.job.JobState.{JobState}
use Rattle.lt_net.specs.declared.job.JobState.TheVariants.{Clean, Pending, Running, Dirty}
use Rattle.lt_net.specs.declared.job.JobName.TheVariants.{Leaf}
use Rattle.lt_net.specs.Kept.{IsKept}
use Rattle.lt_net.specs.Net.{Net, IsSettled, is_held}
use Rattle.lt_net.specs.Tree.{IsSerial, circuit_net, leaf_value, then_all, tree_of}
use Rattle.lt_net.specs.Codes.{code_of}
use Rattle.lt_circuit.specs.Board.{BoardView, state_of, claim_from, standing}
use Rattle.lt_net.proofs.Kept.{reached_bare}
use Rattle.lt_net.proofs.Serial.{serial_of}
use Rattle.lt_circuit.specs.Entry.{event_of}
use Rattle.lt_circuit.proofs.Standing.{none_at, some_at}
use Rattle.lt_circuit.specs.declared.entry.Entry.{Entry}
use Rattle.lt_circuit.specs.declared.task.Prior.{Prior}
use Rattle.lt_circuit.specs.Circuit.{IsCircuit}
use Rattle.lt_circuit.proofs.Steps.{kept, all_fit}

-- where no job is Pending and no claim stands, each job is Clean
pub idle_settled : (net : Net) (b : BoardView) → IsKept net (state_of b) → ((j : ℕ) → (state_of b).status j ≢ Pending) → standing b.claims ≡ 0 → IsSettled (state_of b)
idle_settled net b k none free j = by_state ((state_of b).status j) refl
  where
    unheld : is_held ((state_of b).status j) ≡ true → ⊥
    unheld e =
        let h = k.holder j e in
        let gone : (state_of b).claim h.0 ≡ None = ap (option_map claim_from) (none_at b.claims h.0 free) in
        let f : None ≡ Some h.1 = sym gone ∙ h.2 in cc

    by_state : (st : JobState) → (state_of b).status j ≡ st → (state_of b).status j ≡ Clean
    by_state Clean e = e
    by_state Pending e = absurd (none j e)
    by_state Running e = absurd (unheld (ap is_held e))
    by_state Dirty e = absurd (unheld (ap is_held e))

-- where each job is Clean no claim stands
pub settled_idle : (net : Net) (b : BoardView) → IsKept net (state_of b) → IsSettled (state_of b) → standing b.claims ≡ 0
settled_idle net b k settled = by_count (standing b.claims) refl
  where
    by_count : (n : ℕ) → standing b.claims ≡ n → standing b.claims ≡ 0
    by_count zero e = e
    by_count (suc n) e =
        let h = some_at b.claims (omega (arith, e)) in
        let claims : (state_of b).claim h.0 ≡ Some (claim_from h.1) = ap (option_map claim_from) h.2 in
        let f : false ≡ true = sym (ap is_held (settled (code_of h.1.job))) ∙ k.held h.0 (claim_from h.1) claims in cc

pub settled_where : {A : Type 0} (b : Bool) → (b ≡ true → A → ⊥) → (b ≡ false → A) → IsTrue (not b) ↔ A
settled_where true f g = (λ t. absurd (let h : false ≡ true = t in cc), λ a. absurd (f refl a))
settled_where false f g = (λ t. g refl, λ a. refl)

module _ {T : Type 0} (does : ℕ → List Mark → List Mark) (stands_for : T → ℕ → List Mark → Type 0) (fits : List Mark → Type 0) (has : ℕ → Type 0)
    (board : BoardView) (journal : List Entry) (tallies : List (Option (Prior T))) (used capacity : ℕ) (h : IsCircuit does stands_for fits has board journal tallies used capacity)
    (none : fits []) (both : (a b : List Mark) → fits a → fits b → fits (and_then a b)) (gives : (i : ℕ) (c : List Mark) → has i → fits c → fits (does i c)) (marks : (a : List Mark) → fits a → AreMarks a)
    (settled : IsSettled (state_of board)) where
  -- what holds of a circuit's fields says of a settled circuit that it is serial
  pub circuit_serial : IsSerial does board.leaves (state_of board)
  circuit_serial =
      serial_of does board.leaves (state_of board) (kept does stands_for fits has board journal tallies used capacity h)
      (reached_bare (circuit_net does (tree_of board.leaves)) (map event_of journal) (state_of board) h.replayed)
      (λ x. marks ((state_of board).value x) ((all_fit does stands_for fits has board journal tallies used capacity h none both gives).cells x)) settled

  module _ (i : ℕ) (lt : i < board.leaves) where
    -- a settled circuit has each leaf's tally, which stands for the leaf on what the leaves before it do
    pub tally_there : (p : Prior T) × (get_or tallies i None ≡ Some p)
    tally_there = h.are_tallies.there i (then_all (leaf_value board.leaves (state_of board)) [] i) (circuit_serial.stands_for i lt) (ap is_held (settled (code_of (Leaf i))))

    pub tally_stands : (p : Prior T) → get_or tallies i None ≡ Some p → stands_for p.tally i (then_all (leaf_value board.leaves (state_of board)) [] i)
    tally_stands t e =
        let k = h.are_tallies.each i t e in
        let same : Some t.correction ≡ Some (then_all (leaf_value board.leaves (state_of board)) [] i) = sym k.last ∙ circuit_serial.stands_for i lt in
        let p : t.correction ≡ then_all (leaf_value board.leaves (state_of board)) [] i = cc in
        subst (stands_for t.tally i) p k.stands

    pub tally_fits : (p : Prior T) → get_or tallies i None ≡ Some p → fits (then_all (leaf_value board.leaves (state_of board)) [] i)
    tally_fits t e =
        let k = h.are_tallies.each i t e in
        let same : Some t.correction ≡ Some (then_all (leaf_value board.leaves (state_of board)) [] i) = sym k.last ∙ circuit_serial.stands_for i lt in
        let p : t.correction ≡ then_all (leaf_value board.leaves (state_of board)) [] i = cc in
        subst fits p k.fit
