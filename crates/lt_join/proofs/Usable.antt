-- A level that a walk reached may be opened.
use Rattle.std.specs.Prelude.{◌≡◌, ℕ, zero, suc, ◌+◌, ◌^◌, ◌<◌, true, false, List, [], ◌∷◌, filter, length, slice_get, Some, nat_lt}
use Rattle.std.specs.List.{AllByRecursion}
use Rattle.std.proofs.Common.{ap, ◌∙◌, subst, inl, inr, cond, arith}
use Rattle.std.proofs.lemmas.Bool.{and_parts, ltb-true}
use Rattle.lt_face.specs.Rows.{IsCell}
use Rattle.lt_face.proofs.RowLemmas.{each_weaker}
use Rattle.lt_face.specs.Lists.{IsIn}
use Rattle.lt_model.specs.declared.normal.Term.{Term}
use Rattle.lt_model.specs.declared.normal.Body.{Body}
use Rattle.lt_query.specs.declared.plans.Guide.{Guide}
use Rattle.lt_query.specs.declared.plans.Level.{Level}
use Rattle.lt_query.specs.declared.plans.Plan.{Plan}
use Rattle.lt_model.specs.Cells.{is_cell}
use Rattle.lt_query.specs.Plan.{levels_of, IsPlanOf, term_at}
use Rattle.lt_sense.specs.Kept.{Sense}
use Rattle.lt_leap.specs.Common.{has_key}
use Rattle.lt_join.specs.Walked.{IsReached}
use Rattle.lt_join.specs.Holders.{IsWalkable, IsUsable, IsPrepared, atoms_at}
use Rattle.lt_join.proofs.KnownLists.{holds_same, walkable_all}
use Rattle.lt_join.proofs.Repair.{All_at}
use Rattle.lt_join.proofs.Steps.{level_at}
use Rattle.lt_join.proofs.Under.{has_key-of}

-- ---- what can be walked

some_atoms : (guides : List Guide) (guide : Guide) (l : ℕ) → IsIn guide guides → has_key (levels_of guide) l ≡ true → 0 < length (atoms_at guides l)
some_atoms [] guide l h held = absurd h
some_atoms (g ∷ guides) guide l h held =
    elim h [
      | inl e ↦ (let here : has_key (levels_of g) l ≡ true = ap (λ (w : Guide). has_key (levels_of w) l) e ∙ held in rw here (omega arith))
      | inr r ↦ (let later = some_atoms guides guide l r held in elim (has_key (levels_of g) l) as (λ b. 0 < length (cond b (g ∷ filter (λ w. has_key (levels_of w) l) guides) (filter (λ w. has_key (levels_of w) l) guides))) [ true ↦ omega arith | false ↦ later ])
    ]

all_slice : {X : Type 0} (P : X → Type 0) (xs : List X) (i : ℕ) (x : X) → AllByRecursion P xs → slice_get xs i ≡ Some x → P x
all_slice P [] i x h e = cc
all_slice P (y ∷ xs) zero x h e = subst P (let k = e in let same : y ≡ x = cc in same) h.0
all_slice P (y ∷ xs) (suc i) x h e = all_slice P xs i x h.1 e

ties_below : (Q : ℕ → Type 0) (n : ℕ) (ms : List ℕ) → AllByRecursion (λ m. (m < 0 + n) × Q m) ms → AllByRecursion (λ m. m < n) ms
ties_below Q n [] h = tt
ties_below Q n (m ∷ ms) h = ((let a = h.0.0 in omega arith), ties_below Q n ms h.1)

pub small_cells : (ks : List ℕ) → AllByRecursion (λ k. is_cell k ≡ true) ks → AllByRecursion (λ k. k < 2 ^ 120) ks
small_cells [] h = tt
small_cells (k ∷ ks) h = (ltb-true k (2 ^ 120) (and_parts (nat_lt 0 k) (nat_lt k (2 ^ 120)) h.0).1, small_cells ks h.1)

pub usable_at : (body : Body) (plan : Plan) (terms : List Term) (sense : Sense) (keys : List ℕ) (level : Level) → IsPlanOf body plan → IsPrepared body plan terms → IsReached plan sense keys → slice_get plan.levels (length keys) ≡ Some level → length keys < length plan.levels → IsUsable plan.guides level keys
usable_at body plan terms sense keys level of_body prepared reached here deeper =
    let h = of_body.held (length keys) deeper in
    let walkable = All_at IsWalkable plan.guides h.0 (walkable_all body plan of_body) h.1 in
    let is_level = level_at body plan.levels plan.levels 0 (length keys) level of_body.levels here in
    record {
      held = some_atoms plan.guides h.0 (length keys) h.1 (holds_same h.0 (length keys) walkable ∙ has_key-of (length keys) h.0.places h.2);
      pins = each_weaker IsCell (λ pin. pin < 2 ^ 120) (λ pin h. h.1) level.pins (all_slice (λ (lv : Level). AllByRecursion IsCell lv.pins) plan.levels (length keys) level prepared.runnable.pins here);
      ties = ties_below (λ m. term_at plan.levels m ≡ level.term) (length keys) level.ties is_level.ties;
      keys = small_cells keys reached.cells;
      few = all_slice (λ (lv : Level). length plan.guides + (length lv.pins + length lv.ties) < 2 ^ 32) plan.levels (length keys) level prepared.runnable.few here;
    }
