-- Parts of gaps at one key.
use Rattle.std.specs.Prelude.{◌≡◌, ℕ, ◌+◌, ◌<◌, ◌≤◌, true, false, ◌&&◌, nat_lt, nat_le, List, [], ◌∷◌, ◌++◌}
use Rattle.std.specs.List.{AllByRecursion}
use Rattle.std.proofs.Common.{refl, sym, ap, ◌∙◌, subst, inl, inr, arith, cond}
use Rattle.std.proofs.lemmas.Bool.{and_parts, and_from, leb-true, ltb-true, le-leb, lt-ltb, cases_Bool, true≢false}
use Rattle.std.proofs.lemmas.List.{append_assoc, append-nil}
use Rattle.std.proofs.lemmas.Grind.{flat_map-append}
use Rattle.lt_face.specs.Lists.{IsIn}
use Rattle.lt_face.specs.State.{State, permuted}
use Rattle.lt_face.proofs.Membership.{IsIn-flat_map, IsIn-flat_map_from}
use Rattle.lt_sense.specs.declared.covering.KeptGap.{KeptGap}
use Rattle.lt_sense.specs.Sense.{lies_in}
use Rattle.lt_join.specs.OfKey.{part_at, parts_at}
use Rattle.lt_join.proofs.MendLaws.{lies_in_whole}
use Rattle.lt_join.proofs.MendedGaps.{IsPartOf}
use Rattle.lt_join.proofs.Repair.{All_at, All_of, GapIsTight}

-- the gap has the key
pub part_some : (key : ℕ) (gap : KeptGap) → gap.lo ≤ key → key < gap.hi → part_at key gap ≡ record gap { lo = key; hi = key + 1 } ∷ []
part_some key gap from below = ap (λ b. cond b (record gap { lo = key; hi = key + 1 } ∷ []) []) (and_from (nat_le gap.lo key) (nat_lt key gap.hi) (le-leb gap.lo key from) (lt-ltb key gap.hi below))

-- or hasn't
pub part_none : (key : ℕ) (gap : KeptGap) → (gap.lo ≤ key → key < gap.hi → ⊥) → part_at key gap ≡ []
part_none key gap lacks =
    elim (cases_Bool (nat_le gap.lo key && nat_lt key gap.hi)) [
      | inl has ↦ (let both = and_parts (nat_le gap.lo key) (nat_lt key gap.hi) has in absurd (lacks (leb-true gap.lo key both.0) (ltb-true key gap.hi both.1)))
      | inr e ↦ ap (λ b. cond b (record gap { lo = key; hi = key + 1 } ∷ []) []) e
    ]

pub parts_more : (key : ℕ) (first now next old rest : List KeptGap) (gap : KeptGap) → now ≡ first ++ parts_at key old → next ≡ now ++ part_at key gap → rest ≡ old ++ gap ∷ [] → next ≡ first ++ parts_at key rest
parts_more key first now next old rest gap so pushed is =
    let parts : parts_at key rest ≡ parts_at key old ++ part_at key gap = ap (parts_at key) is ∙ flat_map-append (part_at key) old (gap ∷ []) ∙ ap (λ xs. parts_at key old ++ xs) (append-nil (part_at key gap)) in
    pushed ∙ ap (λ xs. xs ++ part_at key gap) so ∙ append_assoc first (parts_at key old) (part_at key gap) ∙ ap (λ xs. first ++ xs) (sym parts)

-- what a part is
pub part_is : (key : ℕ) (gap part : KeptGap) → IsIn part (part_at key gap) → (gap.lo ≤ key) × (key < gap.hi) × (record gap { lo = key; hi = key + 1 } ≡ part)
part_is key gap part h =
    elim (nat_le gap.lo key && nat_lt key gap.hi) as (λ b. (nat_le gap.lo key && nat_lt key gap.hi) ≡ b → IsIn part (cond b (record gap { lo = key; hi = key + 1 } ∷ []) []) → (gap.lo ≤ key) × (key < gap.hi) × (record gap { lo = key; hi = key + 1 } ≡ part)) [
      | true ↦ λ e at.
          let both = and_parts (nat_le gap.lo key) (nat_lt key gap.hi) e in
          elim at [ inl q ↦ (leb-true gap.lo key both.0, ltb-true key gap.hi both.1, q) | inr none ↦ absurd none ]
      | false ↦ λ e at. absurd at
    ] refl h

-- the gaps that have the key have a part
pub part_there : (key : ℕ) (gaps : List KeptGap) (gap : KeptGap) → IsIn gap gaps → gap.lo ≤ key → key < gap.hi → IsIn (record gap { lo = key; hi = key + 1 }) (parts_at key gaps)
part_there key gaps gap at from below =
    let part : KeptGap = record gap { lo = key; hi = key + 1 } in
    IsIn-flat_map (part_at key) gap part gaps at (subst (IsIn part) (sym (part_some key gap from below)) (inl refl))

-- parts of tight gaps are tight
pub parts_tight : (state : State) (key : ℕ) (gaps : List KeptGap) → AllByRecursion (GapIsTight state) gaps → AllByRecursion (GapIsTight state) (parts_at key gaps)
parts_tight state key gaps tight =
    All_of (GapIsTight state) (parts_at key gaps) (λ part at.
    let from = IsIn-flat_map_from (part_at key) part gaps at in
    let gap = from.0 in
    let is = part_is key gap part from.2 in
    subst (GapIsTight state) is.2 (λ row has.
    elim (cases_Bool (lies_in gap.prefix key (key + 1) (permuted gap.columns row))) [
      | inl inside ↦
          let of : IsPartOf gap (record gap { lo = key; hi = key + 1 }) = record { relation = refl; columns = refl; prefix = refl; from = is.0; to = (let b = is.1 in omega arith) } in
          absurd (true≢false (sym (lies_in_whole gap (record gap { lo = key; hi = key + 1 }) row of inside) ∙ All_at (GapIsTight state) gaps gap tight from.1 row has))
      | inr e ↦ e
    ]))

-- parts of gaps of the first level are that level's, at the key
pub parts_at_key : (key : ℕ) (gaps : List KeptGap) → AllByRecursion (λ gap. gap.prefix ≡ []) gaps → AllByRecursion (λ (gap : KeptGap). (gap.prefix ≡ []) × (gap.lo ≡ key) × (gap.hi ≡ key + 1)) (parts_at key gaps)
parts_at_key key gaps first =
    All_of (λ (gap : KeptGap). (gap.prefix ≡ []) × (gap.lo ≡ key) × (gap.hi ≡ key + 1)) (parts_at key gaps) (λ part at.
    let from = IsIn-flat_map_from (part_at key) part gaps at in
    subst (λ (gap : KeptGap). (gap.prefix ≡ []) × (gap.lo ≡ key) × (gap.hi ≡ key + 1)) (part_is key from.0 part from.2).2 (All_at (λ (gap : KeptGap). gap.prefix ≡ []) gaps from.0 first from.1, refl, refl))
