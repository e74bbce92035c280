-- How many rows there are, where rows are laid over others.
use Rattle.std.proofs.Common.{◌≡◌, ◌+◌, ◌≤◌, Bool, true, false, cond, not, ◌&&◌, ◌||◌, List, [], ◌∷◌, length, refl, sym, ap, ◌∙◌, arith}
use Rattle.std.specs.Prelude.{filter}
use Rattle.lt_face.specs.Rows.{IsAscending, has_row}
use Rattle.lt_face.specs.State.{Row}
use Rattle.lt_face.proofs.RowLemmas.{ascending-filter}
use Rattle.lt_model.proofs.Composition.{rows_same}
use Rattle.lt_over.specs.Overlaid.{overlaid, stays}
use Rattle.lt_over.proofs.Overlays.{has-filter, has-overlaid, ascending-overlaid}

-- ---- a filter leaves no more

pub le_all : (p : Row → Bool) (rows : List Row) → length (filter p rows) ≤ length rows
le_all p [] = omega arith
le_all p (x ∷ rows) = elim (p x) as (λ b. length (cond b (x ∷ filter p rows) (filter p rows)) ≤ length (x ∷ rows)) [ true ↦ omega (arith, le_all p rows) | false ↦ omega (arith, le_all p rows) ]

-- ---- the rows of a set, and of those laid over it

split : (p : Row → Bool) (rows : List Row) → length rows ≡ length (filter p rows) + length (filter (λ r. not (p r)) rows)
split p [] = refl
split p (x ∷ rows) =
    elim (p x) as (λ b. length (x ∷ rows) ≡ length (cond b (x ∷ filter p rows) (filter p rows)) + length (cond (not b) (x ∷ filter (λ r. not (p r)) rows) (filter (λ r. not (p r)) rows))) [
      | true ↦ omega (arith, split p rows)
      | false ↦ omega (arith, split p rows)
    ]

new_only : (p b m : Bool) → ((p || (b && not m)) && not b) ≡ (p && not b)
new_only true b m = refl
new_only false true true = refl
new_only false true false = refl
new_only false false m = refl

old_only : (p b m : Bool) → ((p || (b && not m)) && b) ≡ (b && (p || not m))
old_only true true m = refl
old_only true false m = refl
old_only false true true = refl
old_only false true false = refl
old_only false false m = refl

gone_only : (p b m : Bool) → (b && not (p || not m)) ≡ (m && (b && not p))
gone_only true true true = refl
gone_only true true false = refl
gone_only true false true = refl
gone_only true false false = refl
gone_only false true true = refl
gone_only false true false = refl
gone_only false false true = refl
gone_only false false false = refl

module _ (base gone come : List Row) (up : IsAscending base) (up_gone : IsAscending gone) (up_come : IsAscending come) where
  abbrev pub all : List Row
  all = overlaid base gone come

  abbrev pub lacked : Row → Bool
  lacked r = not (has_row base r)

  abbrev pub remains : Row → Bool
  remains r = has_row come r || not (has_row gone r)

  new_ones : filter lacked all ≡ filter lacked come
  new_ones =
      rows_same (filter lacked all) (filter lacked come) (ascending-filter lacked all (ascending-overlaid base gone come up)) (ascending-filter lacked come up_come)
      (λ q. has-filter lacked all q ∙ ap (λ b. b && lacked q) (has-overlaid base gone come q) ∙ new_only (has_row come q) (has_row base q) (has_row gone q) ∙ sym (has-filter lacked come q))

  stay : filter (has_row base) all ≡ filter remains base
  stay =
      rows_same (filter (has_row base) all) (filter remains base) (ascending-filter (has_row base) all (ascending-overlaid base gone come up)) (ascending-filter remains base up)
      (λ q. has-filter (has_row base) all q ∙ ap (λ b. b && has_row base q) (has-overlaid base gone come q) ∙ old_only (has_row come q) (has_row base q) (has_row gone q) ∙ sym (has-filter remains base q))

  lost_ones : filter (λ r. not (remains r)) base ≡ filter (stays base come) gone
  lost_ones =
      rows_same (filter (λ r. not (remains r)) base) (filter (stays base come) gone) (ascending-filter (λ r. not (remains r)) base up) (ascending-filter (stays base come) gone up_gone)
      (λ q. has-filter (λ r. not (remains r)) base q ∙ gone_only (has_row come q) (has_row base q) (has_row gone q) ∙ sym (has-filter (stays base come) gone q))

  -- the rows that were there and those that came, against those that are there and those that went
  pub overlaid_count : length base + length (filter lacked come) ≡ length (overlaid base gone come) + length (filter (stays base come) gone)
  overlaid_count =
      let a : length all ≡ length (filter (has_row base) all) + length (filter lacked all) = split (has_row base) all in
      let b : length base ≡ length (filter remains base) + length (filter (λ r. not (remains r)) base) = split remains base in
      let c : length (filter lacked all) ≡ length (filter lacked come) = ap length new_ones in
      let d : length (filter (has_row base) all) ≡ length (filter remains base) = ap length stay in
      let e : length (filter (λ r. not (remains r)) base) ≡ length (filter (stays base come) gone) = ap length lost_ones in
      omega (arith, a, b, c, d, e)
