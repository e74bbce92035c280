-- The iterators of the atoms that hold a level, opened there: their keys are those that the count of moves speaks of.
use Rattle.std.specs.Prelude.{◌≡◌, ℕ, zero, suc, ◌+◌, ◌*◌, ◌<◌, ◌≤◌, ◌^◌, Bool, true, false, List, [], ◌∷◌, ◌++◌, map, filter, length, slice_get, slice_index_or, Some, nat_lt}
use Rattle.std.specs.List.{AllByRecursion, AllZip}
use Rattle.std.proofs.Common.{refl, sym, ap, ◌∙◌, subst, inl, inr, cond, arith, append-nil}
use Rattle.std.proofs.Math.Nat.{mul-add}
use Rattle.std.proofs.lemmas.Bool.{and_from, lt-ltb, ltb-false}
use Rattle.lt_face.specs.Keys.{IsKeyList}
use Rattle.lt_face.specs.Lists.{IsIn}
use Rattle.lt_face.specs.Rows.{IsRow}
use Rattle.lt_face.specs.State.{State}
use Rattle.lt_trie.specs.Under.{keys_under}
use Rattle.lt_trie.proofs.Cells.{keys_rise, cell_of}
use Rattle.lt_model.specs.Cells.{is_cell}
use Rattle.lt_query.specs.declared.plans.Guide.{Guide}
use Rattle.lt_query.specs.declared.plans.Level.{Level}
use Rattle.lt_query.specs.declared.plans.Plan.{Plan}
use Rattle.lt_query.specs.Holding.{atoms_at_level, guide_at, holds_level}
use Rattle.lt_query.specs.Lists.{below}
use Rattle.lt_query.specs.Plan.{levels_of}
use Rattle.lt_query.proofs.Distinct.{IsIn-filter_from, IsIn-below_from}
use Rattle.lt_query.proofs.LevelParts.{guides_there, atoms_within, atoms_rising}
use Rattle.lt_leap.specs.Common.{has_key, common_keys}
use Rattle.lt_leap.specs.Places.{ArePlaces}
use Rattle.lt_leap.specs.Potential.{join_cost, least_length}
use Rattle.lt_leap.specs.Ring.{keys_at}
use Rattle.lt_join.specs.AtomIter.{AtomView, atom_keys}
use Rattle.lt_join.specs.Cost.{iterator_keys, iterators_at}
use Rattle.lt_join.specs.Explored.{Fits, prefix_at}
use Rattle.lt_join.specs.Holders.{IsWalkable, atoms_at}
use Rattle.lt_join.specs.Level.{IsAtomAt, AreAtomsAt, AreOpened, is_lone, lists_of}
use Rattle.lt_join.specs.Walked.{at}
use Rattle.lt_join.proofs.KnownLists.{holds_same}
use Rattle.lt_join.proofs.LevelLists.{length_map, length_append, all_append, SameKeys, same_in_all, in_common, cost-least}
use Rattle.lt_join.proofs.Opened.{zip_as_long, rising_places, opened_at, holder_at, holder_opened}
use Rattle.lt_join.proofs.Repair.{All_at}
use Rattle.lt_join.proofs.Sensed.{opened_keys, IsOpenAt}
use Rattle.lt_join.proofs.Under.{key_of_iterator, iterator_of_key, no_longer, IsIn-keys_under_from}

-- ---- lists

pub some_is : {X : Type 0} (x y : X) → Some x ≡ Some y → x ≡ y
some_is x y e = cc

pub get_there : {X : Type 0} (xs : List X) (i : ℕ) → i < length xs → (x : X) × (slice_get xs i ≡ Some x)
get_there [] i lt = absurd (omega arith)
get_there (x ∷ xs) zero lt = (x, refl)
get_there (x ∷ xs) (suc i) lt = get_there xs i (omega arith)

keys_there : (atoms : List AtomView) (i : ℕ) (atom : AtomView) → slice_get atoms i ≡ Some atom → keys_at (map atom_keys atoms) i ≡ atom_keys atom
keys_there [] i atom e = cc
keys_there (x ∷ atoms) zero atom e = ap atom_keys (some_is x atom e)
keys_there (x ∷ atoms) (suc i) atom e = keys_there atoms i atom e

pub map_there : {X Y : Type 0} (f : X → Y) (xs : List X) (i : ℕ) (x : X) → slice_get xs i ≡ Some x → slice_get (map f xs) i ≡ Some (f x)
map_there f [] i x e = cc
map_there f (y ∷ xs) zero x e = ap (λ z. Some (f z)) (some_is y x e)
map_there f (y ∷ xs) (suc i) x e = map_there f xs i x e

map_same : {X Y : Type 0} (f g : X → Y) (xs : List X) → ((x : X) → IsIn x xs → f x ≡ g x) → map f xs ≡ map g xs
map_same f g [] h = refl
map_same f g (x ∷ xs) h = ap (λ y. y ∷ map f xs) (h x (inl refl)) ∙ ap (λ ys. g x ∷ ys) (map_same f g xs (λ y there. h y (inr there)))

map_twice : {X Y Z : Type 0} (f : Y → Z) (g : X → Y) (xs : List X) → map f (map g xs) ≡ map (λ x. f (g x)) xs
map_twice f g [] = refl
map_twice f g (x ∷ xs) = ap (λ zs. f (g x) ∷ zs) (map_twice f g xs)

zip_map : {X Y Z : Type 0} (R : Y → Z → Type 0) (f : X → Y) (g : X → Z) (xs : List X) → ((x : X) → IsIn x xs → R (f x) (g x)) → AllZip R (map f xs) (map g xs)
zip_map R f g [] h = tt
zip_map R f g (x ∷ xs) h = (h x (inl refl), zip_map R f g xs (λ y there. h y (inr there)))

all_map : {X Y : Type 0} (P : Y → Type 0) (f : X → Y) (xs : List X) → ((x : X) → IsIn x xs → P (f x)) → AllByRecursion P (map f xs)
all_map P f [] h = tt
all_map P f (x ∷ xs) h = (h x (inl refl), all_map P f xs (λ y there. h y (inr there)))

all_unmap : {X Y : Type 0} (P : Y → Type 0) (f : X → Y) (xs : List X) (x : X) → AllByRecursion P (map f xs) → IsIn x xs → P (f x)
all_unmap P f [] x h there = absurd there
all_unmap P f (y ∷ xs) x h there = elim there [ inl e ↦ subst (λ z. P (f z)) e h.0 | inr r ↦ all_unmap P f xs x h.1 r ]

filter_same : {X : Type 0} (p q : X → Bool) (xs : List X) → ((x : X) → IsIn x xs → p x ≡ q x) → filter p xs ≡ filter q xs
filter_same p q [] h = refl
filter_same p q (x ∷ xs) h =
    let rest = filter_same p q xs (λ y there. h y (inr there)) in
    ap (λ b. cond b (x ∷ filter p xs) (filter p xs)) (h x (inl refl)) ∙ ap (λ ys. cond (q x) (x ∷ ys) ys) rest

-- ---- which atoms hold a level

pub atoms_same : (guides : List Guide) (l : ℕ) → AllByRecursion IsWalkable guides → map (guide_at guides) (atoms_at_level guides l) ≡ atoms_at guides l
atoms_same guides l walkable =
    guides_there guides l
    ∙ filter_same (holds_level l) (λ guide. has_key (levels_of guide) l) guides (λ guide there. sym (holds_same guide l (All_at IsWalkable guides guide walkable there)))

pub as_many : (guides : List Guide) (l : ℕ) → AllByRecursion IsWalkable guides → length (atoms_at_level guides l) ≡ length (atoms_at guides l)
as_many guides l walkable = sym (length_map (guide_at guides) (atoms_at_level guides l)) ∙ ap length (atoms_same guides l walkable)

-- ---- places that rise

pub places_are : (guides : List Guide) (l count : ℕ) → length guides ≡ count → ArePlaces (atoms_at_level guides l) count
places_are guides l count same = rising_places (atoms_at_level guides l) count (subst (λ n. AllByRecursion (λ place. place < n) (atoms_at_level guides l)) same (atoms_within guides l)) (atoms_rising guides l)

-- ---- the iterators

-- an iterator at one of the level's places is its atom's, opened there
pub record IsHolderAt (plan : Plan) (state : State) (keys : List ℕ) (atoms : List AtomView) (i : ℕ) : Type 0 where
  pub atom : AtomView
  pub there : slice_get atoms i ≡ Some atom
  pub is_guide : guide_at plan.guides i ≡ atom.guide
  pub is_open : IsOpenAt plan state keys atom
  pub keys_are : keys_at (map atom_keys atoms) i ≡ keys_under (prefix_at atom.guide (length keys) (at keys)) atom.trie.rows

zip_there : {X Y : Type 0} (R : X → Y → Type 0) (xs : List X) (ys : List Y) (i : ℕ) (d : X) → AllZip R xs ys → i < length xs → (y : Y) × (slice_get ys i ≡ Some y) × R (slice_index_or xs i d) y
zip_there R [] ys i d z lt = absurd (omega arith)
zip_there R (x ∷ xs) [] i d z lt = absurd z
zip_there R (x ∷ xs) (y ∷ ys) zero d z lt = (y, refl, z.0)
zip_there R (x ∷ xs) (y ∷ ys) (suc i) d z lt = zip_there R xs ys i d z.1 (omega arith)

module _ (plan : Plan) (state : State) (keys : List ℕ) (walkable : AllByRecursion IsWalkable plan.guides) (above atoms : List AtomView)
    (is_above : AreAtomsAt plan state keys above) (are_opened : AreOpened (atoms_at_level plan.guides (length keys)) above atoms) where
  abbrev l : ℕ
  l = length keys

  abbrev places : List ℕ
  places = atoms_at_level plan.guides (length keys)

  -- as many iterators as atoms
  pub count_is : length plan.guides ≡ length atoms
  count_is = (let a = zip_as_long (IsAtomAt state (length keys) (at keys)) plan.guides above is_above in let b = are_opened.as_long in omega arith)

  pub holder_of : (i : ℕ) → IsIn i places → IsHolderAt plan state keys atoms i
  holder_of i there =
      let both = IsIn-filter_from (λ i. holds_level (length keys) (guide_at plan.guides i)) i (below (length plan.guides)) there in
      let lt = IsIn-below_from (length plan.guides) i both.0 in
      let down = get_there atoms i (let n = count_is in omega arith) in
      let up = opened_at places above atoms i down.0 are_opened there down.1 in
      let zipped = zip_there (IsAtomAt state (length keys) (at keys)) plan.guides above i (record { relation = 0; places = []; columns = [] }) is_above lt in
      let is_open = holder_opened plan state keys up.0 down.0 (holder_at plan state keys above i up.0 walkable is_above there up.1) up.2 in
      record {
        atom = down.0;
        there = down.1;
        is_guide = sym (up.2.guide ∙ ap (λ (w : AtomView). w.guide) (some_is up.0 zipped.0 (sym up.1 ∙ zipped.1)) ∙ zipped.2.0);
        is_open = is_open;
        keys_are = keys_there atoms i down.0 down.1 ∙ opened_keys state (length keys) (at keys) down.0.guide down.0.trie is_open.is_opened;
      }

  -- their keys ascend
  pub keyed : AllByRecursion IsKeyList (lists_of atoms places)
  keyed = all_map IsKeyList (keys_at (map atom_keys atoms)) places (λ i there.
      let h = holder_of i there in
      let t = h.atom.trie in
      subst IsKeyList (sym h.keys_are) (keys_rise (prefix_at h.atom.guide (length keys) (at keys)) t.rows t.width h.is_open.is_opened.over.is_set.rises h.is_open.is_opened.over.is_set.each))

  same_at : (i : ℕ) → IsIn i places → SameKeys (iterator_keys state (length keys) (at keys) (guide_at plan.guides i)) (keys_at (map atom_keys atoms) i)
  same_at i there =
      let h = holder_of i there in
      let t = h.atom.trie in
      let over = h.is_open.is_opened.over in
      let up = keys_rise (prefix_at h.atom.guide (length keys) (at keys)) t.rows t.width over.is_set.rises over.is_set.each in
      rw (h.is_guide, h.keys_are) (record {
        to = iterator_of_key state h.atom.guide t over (length keys) (at keys);
        from = key_of_iterator state h.atom.guide t over (length keys) (at keys);
        short = no_longer (keys_under (prefix_at h.atom.guide (length keys) (at keys)) t.rows) (iterator_keys state (length keys) (at keys) h.atom.guide) up (iterator_of_key state h.atom.guide t over (length keys) (at keys));
      })

  abbrev counted : List (List ℕ)
  counted = map (iterator_keys state (length keys) (at keys)) (atoms_at plan.guides (length keys))

  counted_are : counted ≡ map (λ i. iterator_keys state (length keys) (at keys) (guide_at plan.guides i)) places
  counted_are =
      sym (ap (map (iterator_keys state (length keys) (at keys))) (atoms_same plan.guides (length keys) walkable))
      ∙ map_twice (iterator_keys state (length keys) (at keys)) (guide_at plan.guides) places

  -- the keys that the count speaks of are theirs
  pub lists_same : AllZip SameKeys counted (lists_of atoms places)
  lists_same =
      subst (λ (xss : List (List ℕ)). AllZip SameKeys xss (lists_of atoms places)) (sym counted_are)
      (zip_map SameKeys (λ i. iterator_keys state (length keys) (at keys) (guide_at plan.guides i)) (keys_at (map atom_keys atoms)) places same_at)

  -- a key of one of them is a cell
  pub cell_there : (key : ℕ) → 0 < length places → AllByRecursion (λ ks. IsIn key ks) (lists_of atoms places) → is_cell key ≡ true
  cell_there key some there =
      let first = get_there places 0 some in
      let i_in : IsIn first.0 places = in_first places first.0 first.1 in
      let h = holder_of first.0 i_in in
      let key_in = subst (IsIn key) h.keys_are (all_unmap (λ ks. IsIn key ks) (keys_at (map atom_keys atoms)) places first.0 there i_in) in
      let r = IsIn-keys_under_from (prefix_at h.atom.guide (length keys) (at keys)) h.atom.trie.rows key key_in in
      let row = All_at (IsRow h.atom.trie.width) h.atom.trie.rows r.0 h.is_open.is_opened.over.is_set.each r.1 in
      let cell = cell_of (prefix_at h.atom.guide (length keys) (at keys)) r.0 key r.2 row.has_cells in
      and_from (nat_lt 0 key) (nat_lt key (2 ^ 120)) (lt-ltb 0 key (let a = cell.0 in omega arith)) (lt-ltb key (2 ^ 120) cell.1)
    where
      in_first : (xs : List ℕ) (x : ℕ) → slice_get xs 0 ≡ Some x → IsIn x xs
      in_first [] x e = cc
      in_first (y ∷ xs) x e = inl (some_is y x e)

  module _ (level : Level) where
    lone : List (List ℕ)
    lone = map (λ pin. pin ∷ []) level.pins ++ map (λ m. at keys m ∷ []) level.ties

    -- a key that they have, and that fits, is common
    pub common_there : (key : ℕ) → 0 < length places → AllByRecursion (λ ks. IsIn key ks) (lists_of atoms places) → Fits level (at keys) key → IsIn key (common_keys (iterators_at state plan.guides level (length keys) (at keys)))
    common_there key some there fits =
        let atoms_have = same_in_all key counted (lists_of atoms places) lists_same there in
        let pins_have = all_map (λ ks. IsIn key ks) (λ pin. pin ∷ []) level.pins (λ pin h. inl (All_at (λ pin. pin ≡ key) level.pins pin fits.0 h)) in
        let ties_have = all_map (λ ks. IsIn key ks) (λ m. at keys m ∷ []) level.ties (λ m h. inl (All_at (λ m. at keys m ≡ key) level.ties m fits.1 h)) in
        let all_have = all_append (λ ks. IsIn key ks) counted (map (λ pin. pin ∷ []) level.pins ++ map (λ m. at keys m ∷ []) level.ties) atoms_have
        (all_append (λ ks. IsIn key ks) (map (λ pin. pin ∷ []) level.pins) (map (λ m. at keys m ∷ []) level.ties) pins_have ties_have) in
        in_common key (iterators_at state plan.guides level (length keys) (at keys))
        (let a = length_append counted (map (λ pin. pin ∷ []) level.pins ++ map (λ m. at keys m ∷ []) level.ties) in
        let b = zip_as_long SameKeys counted (lists_of atoms places) lists_same in
        let c = length_map (keys_at (map atom_keys atoms)) places in omega arith) all_have

    -- what they cost is no more than the count says
    pub cost_there : is_lone level ≡ false → join_cost (lists_of atoms places) ≤ join_cost (iterators_at state plan.guides level (length keys) (at keys))
    cost_there free =
        let none = ltb-false 0 (length level.pins + length level.ties) free in
        let same : iterators_at state plan.guides level (length keys) (at keys) ≡ counted =
        ap (λ xss. counted ++ xss) (no_more level.pins level.ties (omega arith)) ∙ append-nil counted in
        rw same (cost-least counted (lists_of atoms places) lists_same)
      where
        no_more : (pins ties : List ℕ) → length pins + length ties ≡ 0 → map (λ pin. pin ∷ []) pins ++ map (λ m. at keys m ∷ []) ties ≡ []
        no_more [] [] e = refl
        no_more [] (m ∷ ties) e = absurd (omega arith)
        no_more (pin ∷ pins) ties e = absurd (omega arith)

-- each may be opened, and go on once
pub cost_twice : (plan : Plan) (state : State) (keys : List ℕ) (level : Level) → length (atoms_at plan.guides (length keys)) + length (atoms_at plan.guides (length keys)) ≤ join_cost (iterators_at state plan.guides level (length keys) (at keys))
cost_twice plan state keys level =
    let counted = map (iterator_keys state (length keys) (at keys)) (atoms_at plan.guides (length keys)) in
    let lone = map (λ pin. pin ∷ []) level.pins ++ map (λ m. at keys m ∷ []) level.ties in
    let long = length_append counted lone in
    let same = length_map (iterator_keys state (length keys) (at keys)) (atoms_at plan.guides (length keys)) in
    let n = length (counted ++ lone) in
    let m = least_length (counted ++ lone) in
    let spread = mul-add n m 2 in
    let whole : n * m + n * 2 ≤ join_cost (counted ++ lone) = omega arith in
    omega arith
