-- A finish is its steps.
use Rattle.std.proofs.Common.{◌≡◌, ℕ, Bool, true, false, ◌&&◌, ◌||◌, List, [], ◌∷◌, Some, None, refl, sym, ap, ◌∙◌}
use Rattle.std.specs.Prelude.{if◌then◌else◌}
use Rattle.lt_model.specs.declared.mark.Mark.{Mark}
use Rattle.lt_net.specs.Same.{same_marks}
use Rattle.lt_net.proofs.Equal.{marks_decides}
use Rattle.lt_net.specs.declared.job.JobState.{JobState}
use Rattle.lt_net.specs.declared.job.JobState.TheVariants.{Clean, Pending, Running, Dirty}
use Rattle.lt_net.specs.Net.{Cell, Net, State, Claim, same_cell, same_at, first_of, woken, update, status_ended, value_after, finished}
use Rattle.lt_circuit.specs.Store.{closed, with_value, stored, kept_leaf}
use Rattle.lt_net.proofs.Jobs.{cell_same}

own_marks : (m : List Mark) → same_marks m m ≡ true
own_marks m = (marks_decides m m).1 refl

shuffle : (a p q : Bool) → (a && (p && q)) ≡ ((a && p) && q)
shuffle true p q = refl
shuffle false p q = refl

swap_in : (a p q : Bool) → (a && (p && q)) ≡ (p && (a && q))
swap_in true p q = refl
swap_in false true q = refl
swap_in false false q = refl

nested : (a b : Bool) (s : JobState) → (if (a && b) then s else woken s) ≡ (if b then (if a then s else woken s) else woken (if a then s else woken s))
nested true true s = refl
nested true false s = refl
nested false true s = refl
nested false false Clean = refl
nested false false Pending = refl
nested false false Running = refl
nested false false Dirty = refl

module _ (net : Net) (s : State) (w : ℕ) (c : Claim) where
  -- one output
  module _ (x : Cell) (m : List Mark) (out : net.outputs c.job ≡ x ∷ []) (gave : net.gives c.job c.inputs x ≡ m) where
    value_one : (y : Cell) → value_after net s c y ≡ with_value s.value x m y
    value_one y = rw out (by_case (same_cell y x) refl)
      where
        by_case : (b : Bool) → same_cell y x ≡ b → (if (b || false) then net.gives c.job c.inputs y else s.value y) ≡ (if b then m else s.value y)
        by_case true e = ap (net.gives c.job c.inputs) (cell_same y x e) ∙ gave
        by_case false e = refl

    -- what a leaf's finish keeps beside the store, and another job's doesn't
    one_output : (is_leaf : Bool) → net.is_leaf c.job ≡ is_leaf
        → finished net s w c ≡ record (stored net (closed s w c) x m) { done = if is_leaf then update s.done c.job (Some (first_of c.inputs)) else s.done }
    one_output is_leaf leaf =
        let p : value_after net s c ≡ with_value s.value x m = λ i y. value_one y i in
        λ i. record {
          value = p i;
          status = λ j. if same_at s.value (p i) (net.inputs j) then status_ended s c j else woken (status_ended s c j);
          done = if (leaf i) then update s.done c.job (Some (first_of c.inputs)) else s.done;
          claim = update s.claim w None;
        }

    pub finish_one : net.is_leaf c.job ≡ false → finished net s w c ≡ stored net (closed s w c) x m
    finish_one = one_output false

    pub finish_leaf : net.is_leaf c.job ≡ true → finished net s w c ≡ kept_leaf (stored net (closed s w c) x m) c.job (first_of c.inputs)
    finish_leaf = one_output true

  -- two outputs
  module _ (x y : Cell) (m n : List Mark) (out : net.outputs c.job ≡ x ∷ y ∷ []) (apart : same_cell y x ≡ false)
      (gave_x : net.gives c.job c.inputs x ≡ m) (gave_y : net.gives c.job c.inputs y ≡ n) where
    value_two : (z : Cell) → value_after net s c z ≡ with_value (with_value s.value x m) y n z
    value_two z = rw out (by_case (same_cell z x) (same_cell z y) refl refl)
      where
        by_case : (a b : Bool) → same_cell z x ≡ a → same_cell z y ≡ b
            → (if (a || (b || false)) then net.gives c.job c.inputs z else s.value z) ≡ (if b then n else (if a then m else s.value z))
        by_case true true e f = absurd (let g : true ≡ false = sym e ∙ ap (λ u. same_cell u x) (cell_same z y f) ∙ apart in cc)
        by_case true false e f = ap (net.gives c.job c.inputs) (cell_same z x e) ∙ gave_x
        by_case false true e f = ap (net.gives c.job c.inputs) (cell_same z y f) ∙ gave_y
        by_case false false e f = refl

    -- what changed at one cell after both stores changed at one of them
    same_both : (cs : List Cell) → same_at s.value (with_value (with_value s.value x m) y n) cs
        ≡ (same_at s.value (with_value s.value x m) cs && same_at (with_value s.value x m) (with_value (with_value s.value x m) y n) cs)
    same_both [] = refl
    same_both (z ∷ zs) = rw (same_both zs) (by_case (same_cell z x) (same_cell z y) refl refl)
      where
        by_case : (a b : Bool) → same_cell z x ≡ a → same_cell z y ≡ b
            → (let v = s.value z in let v1 = (if a then m else v) in let v2 = (if b then n else v1) in
            let p = same_at s.value (with_value s.value x m) zs in let q = same_at (with_value s.value x m) (with_value (with_value s.value x m) y n) zs in
            (same_marks v v2 && (p && q)) ≡ ((same_marks v v1 && p) && (same_marks v1 v2 && q)))
        by_case true true e f = absurd (let g : true ≡ false = sym e ∙ ap (λ u. same_cell u x) (cell_same z y f) ∙ apart in cc)
        by_case true false e f = rw (own_marks m) (shuffle (same_marks (s.value z) m) _ _)
        by_case false true e f = rw (own_marks (s.value z)) (swap_in (same_marks (s.value z) n) _ _)
        by_case false false e f = rw (own_marks (s.value z)) refl

    pub finish_two : net.is_leaf c.job ≡ false → finished net s w c ≡ stored net (stored net (closed s w c) x m) y n
    finish_two leaf =
        let v1 = with_value s.value x m in
        let v2 = with_value (with_value s.value x m) y n in
        let p : value_after net s c ≡ with_value (with_value s.value x m) y n = λ i z. value_two z i in
        let status : (j : ℕ) → (if same_at s.value (value_after net s c) (net.inputs j) then status_ended s c j else woken (status_ended s c j))
        ≡ (stored net (stored net (closed s w c) x m) y n).status j =
        λ j. ap (λ v. if same_at s.value v (net.inputs j) then status_ended s c j else woken (status_ended s c j)) p
        ∙ ap (λ b. if b then status_ended s c j else woken (status_ended s c j)) (same_both (net.inputs j))
        ∙ nested (same_at s.value (with_value s.value x m) (net.inputs j)) (same_at (with_value s.value x m) (with_value (with_value s.value x m) y n) (net.inputs j)) (status_ended s c j) in
        λ i. record {
          value = p i;
          status = λ j. status j i;
          done = (ap (λ (b : Bool). if b then update s.done c.job (Some (first_of c.inputs)) else s.done) leaf) i;
          claim = update s.claim w None;
        }
