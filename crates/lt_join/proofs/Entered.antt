-- The iterators of a level that stands at a key: they are at the keys with this one more.
use Rattle.std.specs.Prelude.{◌≡◌, ◌≢◌, ℕ, zero, suc, ◌+◌, ◌<◌, ◌==◌, true, false, List, [], ◌∷◌, ◌++◌, map, length, slice_get, slice_index, Some}
use Rattle.std.specs.List.{AllByRecursion, AllZip}
use Rattle.std.proofs.Common.{refl, sym, ap, ◌∙◌, subst, inl, inr, arith}
use Rattle.std.proofs.lemmas.Bool.{cases_Bool, ne_eqb, true≢false}
use Rattle.lt_face.specs.Keys.{end_key}
use Rattle.lt_face.specs.Lists.{IsIn}
use Rattle.lt_face.specs.State.{Row, State}
use Rattle.lt_trie.specs.Trie.{TrieView, keys_of}
use Rattle.lt_trie.specs.Under.{keys_under}
use Rattle.lt_leap.specs.Common.{has_key}
use Rattle.lt_leap.specs.Ring.{keys_at}
use Rattle.lt_query.specs.declared.plans.Guide.{Guide}
use Rattle.lt_query.specs.declared.plans.Plan.{Plan}
use Rattle.lt_query.specs.Holding.{atoms_at_level, guide_at, holds_level}
use Rattle.lt_query.specs.Lists.{IsRising, below}
use Rattle.lt_query.specs.Plan.{Keys, levels_of}
use Rattle.lt_query.proofs.Distinct.{IsIn-filter, IsIn-filter_from, IsIn-below}
use Rattle.lt_join.specs.AtomIter.{AtomView, atom_keys, atom_here}
use Rattle.lt_join.specs.Explored.{with_key}
use Rattle.lt_join.specs.Holders.{IsWalkable, IsOpenedOf}
use Rattle.lt_join.specs.Level.{IsAtomAt, AreAtomsAt, IsOpenedFrom, IsLevelAt}
use Rattle.lt_join.specs.Walked.{at}
use Rattle.lt_join.proofs.Deeper.{TrieOf-same, TrieOf-deeper}
use Rattle.lt_join.proofs.KnownLists.{holds_same}
use Rattle.lt_join.proofs.Steps.{at_push, length_push}

-- ---- one iterator

keys_there : (t : TrieView) (p : Row) → 0 < t.level → t.prefix ≡ p → keys_of t ≡ keys_under p t.rows
keys_there t p deep is =
    let no : (t.level == 0) ≡ false = ne_eqb t.level 0 (λ z. omega (arith, deep, z)) in
    rw no (ap (λ q. keys_under q t.rows) is)

-- it was opened, and stands at one of its keys
atom_deeper : (state : State) (l : ℕ) (keys : Keys) (guide : Guide) (above atom : AtomView) (k : ℕ) → IsRising (levels_of guide) → has_key (levels_of guide) l ≡ true → k ≢ end_key → IsAtomAt state l keys guide above → IsOpenedFrom above atom → atom.trie.here ≡ k → IsIn k (atom_keys atom)
    → IsAtomAt state (l + 1) (with_key keys l k) guide atom
atom_deeper state l keys guide above atom k up h goes is from here there =
    let t = is.1 in
    let opened : IsOpenedOf state l keys guide atom.trie = record {
      over = record { index = rw (from.rows, from.width) (t.over.index); is_set = rw (from.rows, from.width) (t.over.is_set); narrow = rw (from.width) (t.over.narrow) };
      prefix = from.prefix ∙ t.path;
      level = from.level ∙ ap (λ n. n + 1) t.level;
    } in
    let deep : 0 < atom.trie.level = (let e = from.level in omega (arith, e)) in
    (from.guide ∙ is.0, TrieOf-deeper state l keys guide atom.trie k up h goes here (subst (IsIn k) (keys_there atom.trie _ deep opened.prefix) there) opened)

-- it stayed where it was
atom_same : (state : State) (l : ℕ) (keys : Keys) (guide : Guide) (atom : AtomView) (k : ℕ) → has_key (levels_of guide) l ≡ false → IsAtomAt state l keys guide atom → IsAtomAt state (l + 1) (with_key keys l k) guide atom
atom_same state l keys guide atom k h is = (is.0, TrieOf-same state l keys guide atom.trie k h is.1)

-- ---- at their places

all_map_at : {X Y : Type 0} (P : Y → Type 0) (f : X → Y) (xs : List X) (x : X) → AllByRecursion P (map f xs) → IsIn x xs → P (f x)
all_map_at P f [] x h there = absurd there
all_map_at P f (y ∷ xs) x h there = elim there [ inl e ↦ subst (λ z. P (f z)) e h.0 | inr r ↦ all_map_at P f xs x h.1 r ]

here_there : (atoms : List AtomView) (i : ℕ) (atom : AtomView) → slice_get atoms i ≡ Some atom → slice_index (map atom_here atoms) i ≡ atom.trie.here
here_there [] i atom e = cc
here_there (x ∷ atoms) zero atom e = ap atom_here (let k = e in let same : x ≡ atom = cc in same)
here_there (x ∷ atoms) (suc i) atom e = here_there atoms i atom e

list_there : (atoms : List AtomView) (i : ℕ) (atom : AtomView) → slice_get atoms i ≡ Some atom → keys_at (map atom_keys atoms) i ≡ atom_keys atom
list_there [] i atom e = cc
list_there (x ∷ atoms) zero atom e = ap atom_keys (let k = e in let same : x ≡ atom = cc in same)
list_there (x ∷ atoms) (suc i) atom e = list_there atoms i atom e

guide_there : (guides : List Guide) (i : ℕ) (guide : Guide) → slice_get guides i ≡ Some guide → (i < length guides) × (guide_at guides i ≡ guide)
guide_there [] i guide e = cc
guide_there (x ∷ guides) zero guide e = (omega arith, let k = e in let same : x ≡ guide = cc in same)
guide_there (x ∷ guides) (suc i) guide e = let r = guide_there guides i guide e in (let a = r.0 in omega (arith, a), r.1)

all_slice : {X : Type 0} (P : X → Type 0) (xs : List X) (i : ℕ) (x : X) → AllByRecursion P xs → slice_get xs i ≡ Some x → P x
all_slice P [] i x h e = cc
all_slice P (y ∷ xs) zero x h e = subst P (let k = e in let same : y ≡ x = cc in same) h.0
all_slice P (y ∷ xs) (suc i) x h e = all_slice P xs i x h.1 e

-- item by item
zip_each : {X Y : Type 0} (R S : X → Y → Type 0) (xs : List X) (ys zs : List Y) → AllZip R xs ys → length zs ≡ length ys
    → ((i : ℕ) (x : X) (y z : Y) → slice_get xs i ≡ Some x → slice_get ys i ≡ Some y → slice_get zs i ≡ Some z → R x y → S x z) → AllZip S xs zs
zip_each R S [] [] [] h n each = tt
zip_each R S [] [] (z ∷ zs) h n each = absurd (omega (arith, n))
zip_each R S [] (y ∷ ys) zs h n each = absurd h
zip_each R S (x ∷ xs) [] zs h n each = absurd h
zip_each R S (x ∷ xs) (y ∷ ys) [] h n each = absurd (omega (arith, n))
zip_each R S (x ∷ xs) (y ∷ ys) (z ∷ zs) h n each = (each 0 x y z refl refl refl h.0, zip_each R S xs ys zs h.1 (omega (arith, n)) (λ i a b c. each (suc i) a b c))

module _ (plan : Plan) (state : State) (keys : List ℕ) (walkable : AllByRecursion IsWalkable plan.guides) where
  abbrev places : List ℕ
  places = atoms_at_level plan.guides (length keys)

  is_place : (i : ℕ) (guide : Guide) → slice_get plan.guides i ≡ Some guide → has_key (levels_of guide) (length keys) ≡ true → IsIn i places
  is_place i guide e h =
      let g = guide_there plan.guides i guide e in
      let w = all_slice IsWalkable plan.guides i guide walkable e in
      IsIn-filter (λ j. holds_level (length keys) (guide_at plan.guides j)) i (below (length plan.guides)) (IsIn-below (length plan.guides) i g.0)
      (ap (holds_level (length keys)) g.1 ∙ (sym (holds_same guide (length keys) w) ∙ h))

  no_place : (i : ℕ) (guide : Guide) → slice_get plan.guides i ≡ Some guide → has_key (levels_of guide) (length keys) ≡ false → IsIn i places → ⊥
  no_place i guide e h there =
      let g = guide_there plan.guides i guide e in
      let w = all_slice IsWalkable plan.guides i guide walkable e in
      let f = IsIn-filter_from (λ j. holds_level (length keys) (guide_at plan.guides j)) i (below (length plan.guides)) there in
      true≢false (sym f.1 ∙ (ap (holds_level (length keys)) g.1 ∙ (sym (holds_same guide (length keys) w) ∙ h)))

  pub entered : (above atoms : List AtomView) (key turn : ℕ) → IsLevelAt plan state keys places above atoms key turn → AreAtomsAt plan state (keys ++ key ∷ []) atoms
  entered above atoms key turn stands =
      let l = length keys in
      let goes : key ≢ end_key = λ e. (let n = stands.not_ended in omega (arith, n, e)) in
      let deeper = zip_each (IsAtomAt state l (at keys)) (IsAtomAt state (l + 1) (with_key (at keys) l key)) plan.guides above atoms stands.is_above stands.opened.as_long
      (λ i guide one atom is_guide is_one is_atom r. elim (cases_Bool (has_key (levels_of guide) l)) [
        | inl h ↦
            let there = is_place i guide is_guide h in
            let w = all_slice IsWalkable plan.guides i guide walkable is_guide in
            let from = stands.opened.opened i one atom there is_one is_atom in
            let here = sym (here_there atoms i atom is_atom) ∙ all_map_at (λ here. here ≡ key) (slice_index (map atom_here atoms)) places i stands.at_key there in
            let in_keys = subst (IsIn key) (list_there atoms i atom is_atom) (all_map_at (λ ks. IsIn key ks) (keys_at (map atom_keys atoms)) places i stands.there there) in
            atom_deeper state l (at keys) guide one atom key w.rising h goes r from here in_keys
        | inr h ↦
            let same = stands.opened.others i (no_place i guide is_guide h) in
            let is : one ≡ atom = (let a = is_one in let b = is_atom in let c = same in cc) in
            atom_same state l (at keys) guide atom key h (subst (IsAtomAt state l (at keys) guide) is r)
      ]) in
      subst (λ n. AllZip (IsAtomAt state n (at (keys ++ key ∷ []))) plan.guides atoms) (sym (length_push keys key))
      (subst (λ (ks : Keys). AllZip (IsAtomAt state (l + 1) ks) plan.guides atoms) (sym (at_push keys key)) deeper)
