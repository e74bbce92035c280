-- Gaps cut at keys.
use Rattle.std.specs.Prelude.{◌≡◌, ℕ, ◌+◌, ◌<◌, ◌≤◌, true, false, ◌&&◌, nat_lt, nat_le, List, [], ◌∷◌, ◌⊎◌}
use Rattle.std.specs.List.{flat_map}
use Rattle.std.proofs.Common.{refl, sym, ◌∙◌, subst, inl, inr, arith, cond}
use Rattle.std.proofs.lemmas.Bool.{and_parts, and_from, leb-true, ltb-true, le-leb, lt-ltb, cases_order, true≢false}
use Rattle.lt_face.specs.Lists.{IsIn}
use Rattle.lt_face.proofs.Membership.{IsIn-flat_map, IsIn-flat_map_from}
use Rattle.lt_query.proofs.Distinct.{IsIn-filter, IsIn-filter_from}
use Rattle.lt_sense.specs.declared.covering.KeptGap.{KeptGap}
use Rattle.lt_sense.specs.Kept.{Sense}
use Rattle.lt_sense.specs.Cut.{without_key, without_keys, has_room, cut}

-- the part is of the gap's relation, order and prefix, and lies within its bounds
pub record IsPartOf (gap part : KeptGap) : Type 0 where
  pub relation : gap.relation ≡ part.relation
  pub columns : gap.columns ≡ part.columns
  pub prefix : gap.prefix ≡ part.prefix
  pub from : gap.lo ≤ part.lo
  pub to : part.hi ≤ gap.hi

IsPartOf-itself : (gap : KeptGap) → IsPartOf gap gap
IsPartOf-itself gap = record { relation = refl; columns = refl; prefix = refl; from = omega arith; to = omega arith }

IsPartOf-then : (a b c : KeptGap) → IsPartOf a b → IsPartOf b c → IsPartOf a c
IsPartOf-then a b c h k =
    let f = h.from in
    let g = k.from in
    let t = h.to in
    let u = k.to in
    record { relation = h.relation ∙ k.relation; columns = h.columns ∙ k.columns; prefix = h.prefix ∙ k.prefix; from = omega arith; to = omega arith }

-- the key lies between the gap's bounds
abbrev pub IsWithin : KeptGap → ℕ → Type 0
IsWithin gap k = (gap.lo ≤ k) × (k < gap.hi)

-- ---- one key

-- the parts are of the gap, and the key lies in none
part_of_one : (k : ℕ) (gap part : KeptGap) → IsIn part (without_key k gap) → IsPartOf gap part × (IsWithin part k → ⊥)
part_of_one k gap part h =
    elim (nat_le gap.lo k && nat_lt k gap.hi) as (λ b. (nat_le gap.lo k && nat_lt k gap.hi) ≡ b → IsIn part (cond b (record gap { hi = k } ∷ record gap { lo = k + 1 } ∷ []) (gap ∷ [])) → IsPartOf gap part × (IsWithin part k → ⊥)) [
      | true ↦ λ e at.
          let both = and_parts (nat_le gap.lo k) (nat_lt k gap.hi) e in
          let from : gap.lo ≤ k = leb-true gap.lo k both.0 in
          let to : k < gap.hi = ltb-true k gap.hi both.1 in
          elim at [
            | inl q ↦ subst (λ (p : KeptGap). IsPartOf gap p × (IsWithin p k → ⊥)) q (record { relation = refl; columns = refl; prefix = refl; from = omega arith; to = omega arith }, λ in_it. (let b = in_it.1 in omega arith))
            | inr r ↦ elim r [
              | inl q ↦ subst (λ (p : KeptGap). IsPartOf gap p × (IsWithin p k → ⊥)) q (record { relation = refl; columns = refl; prefix = refl; from = omega arith; to = omega arith }, λ in_it. (let b = in_it.0 in omega arith))
              | inr none ↦ absurd none
            ]
          ]
      | false ↦ λ e at. elim at [
        | inl q ↦ subst (λ (p : KeptGap). IsPartOf gap p × (IsWithin p k → ⊥)) q (IsPartOf-itself gap, λ in_it. true≢false (sym (and_from (nat_le gap.lo k) (nat_lt k gap.hi) (le-leb gap.lo k in_it.0) (lt-ltb k gap.hi in_it.1)) ∙ e))
        | inr none ↦ absurd none
      ]
    ] refl h

-- each other key of the gap lies in a part
part_with : (k : ℕ) (gap : KeptGap) (c : ℕ) → IsWithin gap c → (k ≡ c) ⊎ ((part : KeptGap) × IsIn part (without_key k gap) × IsPartOf gap part × IsWithin part c)
part_with k gap c h =
    elim (nat_le gap.lo k && nat_lt k gap.hi) as (λ b. (nat_le gap.lo k && nat_lt k gap.hi) ≡ b → (k ≡ c) ⊎ ((part : KeptGap) × IsIn part (cond b (record gap { hi = k } ∷ record gap { lo = k + 1 } ∷ []) (gap ∷ [])) × IsPartOf gap part × IsWithin part c)) [
      | true ↦ λ e.
          let both = and_parts (nat_le gap.lo k) (nat_lt k gap.hi) e in
          let from : gap.lo ≤ k = leb-true gap.lo k both.0 in
          let to : k < gap.hi = ltb-true k gap.hi both.1 in
          let low = h.0 in
          let high = h.1 in
          elim (cases_order k c) [
            | inl same ↦ inl same
            | inr r ↦ elim r [
              | inl after ↦ inr (record gap { lo = k + 1 }, inr (inl refl), record { relation = refl; columns = refl; prefix = refl; from = omega arith; to = omega arith }, (omega arith, high))
              | inr before ↦ inr (record gap { hi = k }, inl refl, record { relation = refl; columns = refl; prefix = refl; from = omega arith; to = omega arith }, (low, before))
            ]
          ]
      | false ↦ λ e. inr (gap, inl refl, IsPartOf-itself gap, h)
    ] refl

-- ---- all keys

part_of_all : (ks : List ℕ) (gaps : List KeptGap) (part : KeptGap) → IsIn part (without_keys ks gaps) → (gap : KeptGap) × IsIn gap gaps × IsPartOf gap part × ((k : ℕ) → IsIn k ks → IsWithin part k → ⊥)
part_of_all [] gaps part h = (part, h, IsPartOf-itself part, λ k at. absurd at)
part_of_all (k ∷ ks) gaps part h =
    let later = part_of_all ks (flat_map (without_key k) gaps) part h in
    let first = IsIn-flat_map_from (without_key k) later.0 gaps later.1 in
    let one = part_of_one k first.0 later.0 first.2 in (
      first.0,
      first.1,
      IsPartOf-then first.0 later.0 part one.0 later.2,
      λ c at in_it. elim at [
        | inl same ↦
            let low = later.2.from in
            let high = later.2.to in
            let a = in_it.0 in
            let b = in_it.1 in
            one.1 (subst (IsWithin later.0) (sym same) (omega arith, omega arith))
        | inr r ↦ later.3 c r in_it
      ],
    )

part_with_all : (ks : List ℕ) (gaps : List KeptGap) (gap : KeptGap) (c : ℕ) → IsIn gap gaps → IsWithin gap c → IsIn c ks ⊎ ((part : KeptGap) × IsIn part (without_keys ks gaps) × IsPartOf gap part × IsWithin part c)
part_with_all [] gaps gap c at h = inr (gap, at, IsPartOf-itself gap, h)
part_with_all (k ∷ ks) gaps gap c at h =
    elim (part_with k gap c h) [
      | inl same ↦ inl (inl same)
      | inr found ↦ elim (part_with_all ks (flat_map (without_key k) gaps) found.0 c (IsIn-flat_map (without_key k) gap found.0 gaps at found.1) found.3) [
        | inl key ↦ inl (inr key)
        | inr deep ↦ inr (deep.0, deep.1, IsPartOf-then gap found.0 deep.0 found.2 deep.2, deep.3)
      ]
    ]

-- ---- the root

-- each gap of the cut root is a part of a root gap, and no key lies in it
pub cut_from : (ks : List ℕ) (root : Sense) (part : KeptGap) → IsIn part (cut ks root).gaps → (gap : KeptGap) × IsIn gap root.gaps × IsPartOf gap part × ((k : ℕ) → IsIn k ks → IsWithin part k → ⊥)
cut_from ks root part h = part_of_all ks root.gaps part (IsIn-filter_from has_room part (without_keys ks root.gaps) h).0

-- what lies in a root gap lies in a part of it, unless it is one of the keys
pub cut_with : (ks : List ℕ) (root : Sense) (gap : KeptGap) (c : ℕ) → IsIn gap root.gaps → IsWithin gap c → IsIn c ks ⊎ ((part : KeptGap) × IsIn part (cut ks root).gaps × IsPartOf gap part × IsWithin part c)
cut_with ks root gap c at h =
    elim (part_with_all ks root.gaps gap c at h) [
      | inl key ↦ inl key
      | inr found ↦
          let a = found.3.0 in
          let b = found.3.1 in
          inr (found.0, IsIn-filter has_room found.0 (without_keys ks root.gaps) found.1 (lt-ltb found.0.lo found.0.hi (omega arith)), found.2, found.3)
    ]
