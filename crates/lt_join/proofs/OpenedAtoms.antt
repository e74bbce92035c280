-- The iterator of an atom is opened, goes on and comes back up.
use Rattle.std.specs.Prelude.{◌≡◌, ◌≢◌, ℕ, ◌+◌, ◌<◌, ◌≤◌, List, [], ◌∷◌, ◌++◌, length}
use Rattle.std.proofs.Common.{refl, sym, ap, ◌∙◌, inl, inr, arith}
use Rattle.std.proofs.lemmas.Bool.{eq-eqb, ne_eqb, cases_lt}
use Rattle.lt_face.specs.Keys.{end_key, least_from}
use Rattle.lt_face.specs.Limits.{most_columns}
use Rattle.lt_trie.specs.Trie.{TrieView, keys_of}
use Rattle.lt_trie.specs.Under.{keys_under}
use Rattle.lt_query.specs.declared.plans.Guide.{Guide}
use Rattle.lt_join.specs.AtomIter.{AtomView, IsOfGuide, atom_still}
use Rattle.lt_join.specs.Holders.{path_of}
use Rattle.lt_join.specs.Level.{CanBeOpened, IsOpenedFrom}

long_push : (xs : List ℕ) (x : ℕ) → length (xs ++ x ∷ []) ≡ length xs + 1
long_push [] x = refl
long_push (y ∷ xs) x = let e = long_push xs x in omega (arith, e)

pushed_same : (xs ys : List ℕ) (x y : ℕ) → xs ++ x ∷ [] ≡ ys ++ y ∷ [] → (xs ≡ ys) × (x ≡ y)
pushed_same [] [] x y e = (refl, (let same : x ≡ y = cc in same))
pushed_same [] (b ∷ ys) x y e = let n = ap length e in let m = long_push ys y in absurd (omega arith)
pushed_same (a ∷ xs) [] x y e = let n = ap length e in let m = long_push xs x in absurd (omega arith)
pushed_same (a ∷ xs) (b ∷ ys) x y e =
    let head : a ≡ b = cc in
    let tail : xs ++ x ∷ [] ≡ ys ++ y ∷ [] = cc in
    let rest = pushed_same xs ys x y tail in
    ((let first = rest.0 in cc), rest.1)

-- one level further on
pub record GoesDown (t u : TrieView) : Type 0 where
  pub rows : u.rows ≡ t.rows
  pub width : u.width ≡ t.width
  pub level : u.level ≡ t.level + 1
  pub root : t.level ≡ 0 → u.prefix ≡ []
  pub deeper : 0 < t.level → u.prefix ≡ t.prefix ++ t.here ∷ []

pub guide_opened : (guide : Guide) (t u : TrieView) → IsOfGuide (record { guide = guide; trie = t }) → t.level < t.width → GoesDown t u → IsOfGuide (record { guide = guide; trie = u })
guide_opened guide t u is above_last down = record {
  wide = down.width ∙ is.wide;
  narrow = is.narrow;
  within = (let w = down.width in let l = down.level in omega (arith, w, l, above_last));
  root = λ z. (let l = down.level in absurd (omega (arith, z, l)));
  deep = λ lt. elim (cases_lt 0 t.level) [
    | inl deep ↦ (let l = down.level in let n = ap length (down.deeper deep) in let m = long_push t.prefix t.here in let d = is.deep deep in omega (arith, l, n, m, d))
    | inr le ↦ (let z : t.level ≡ 0 = omega (arith, le) in let n : length u.prefix ≡ 0 = ap length (down.root z) in let l = down.level in omega (arith, z, n, l))
  ];
}

pub atom_opened : (guide : Guide) (t u : TrieView) → IsOfGuide (record { guide = guide; trie = t }) → t.level < t.width → (0 < t.level → t.here ≢ end_key) → GoesDown t u → IsOpenedFrom (record { guide = guide; trie = t }) (record { guide = guide; trie = u })
atom_opened guide t u is above_last at_key down = record {
  could = record { above_last = above_last; at_key = at_key; root = is.root };
  guide = refl;
  rows = down.rows;
  width = down.width;
  level = down.level;
  prefix = elim (cases_lt 0 t.level) [
    | inl deep ↦ rw (ne_eqb t.level 0 (λ z. omega (arith, z, deep))) (down.deeper deep)
    | inr le ↦ (let z : t.level ≡ 0 = omega (arith, le) in rw (eq-eqb t.level 0 z) (down.root z))
  ];
}

keys_deep : (t : TrieView) (n : ℕ) → t.level ≡ n + 1 → keys_of t ≡ keys_under t.prefix t.rows
keys_deep t n e = rw (ne_eqb t.level 0 (λ h. omega (arith, e, h))) refl

pub here_opened : (t u : TrieView) (bound : ℕ) → u.level ≡ t.level + 1 → u.here ≡ least_from (keys_under u.prefix u.rows) bound → u.here ≡ least_from (keys_of u) bound
here_opened t u bound level here = here ∙ ap (λ ks. least_from ks bound) (sym (keys_deep u t.level level))

-- one level back
pub record ComesUp (t u : TrieView) : Type 0 where
  pub rows : u.rows ≡ t.rows
  pub width : u.width ≡ t.width
  pub level : u.level + 1 ≡ t.level
  pub root : t.level ≡ 1 → u.here ≡ end_key
  pub root_prefix : t.level ≡ 1 → u.prefix ≡ []
  pub parent : 1 < t.level → t.prefix ≡ u.prefix ++ u.here ∷ []

pub guide_up : (guide : Guide) (t u : TrieView) → IsOfGuide (record { guide = guide; trie = t }) → ComesUp t u → IsOfGuide (record { guide = guide; trie = u })
guide_up guide t u is comes = record {
  wide = comes.width ∙ is.wide;
  narrow = is.narrow;
  within = (let w = comes.width in let l = comes.level in let i = is.within in omega (arith, w, l, i));
  root = λ z. (let l = comes.level in let one : t.level ≡ 1 = omega (arith, z, l) in (comes.root_prefix one, comes.root one));
  deep = λ lt. (
      let l = comes.level in
      let d = is.deep (omega (arith, l)) in
      let n = ap length (comes.parent (omega (arith, l, lt))) in
      let m = long_push u.prefix u.here in
      omega (arith, l, d, n, m)
      );
}

abbrev view_of : ℕ → List (List ℕ) → ℕ → List ℕ → ℕ → TrieView
view_of width rows level prefix here = record { width = width; rows = rows; level = level; prefix = prefix; here = here }

same_view : (t u : TrieView) → t.width ≡ u.width → t.rows ≡ u.rows → t.level ≡ u.level → t.prefix ≡ u.prefix → t.here ≡ u.here → t ≡ u
same_view t u width rows level prefix here =
    ap (λ w. view_of w t.rows t.level t.prefix t.here) width ∙ ap (λ r. view_of u.width r t.level t.prefix t.here) rows ∙ ap (λ l. view_of u.width u.rows l t.prefix t.here) level
    ∙ ap (λ p. view_of u.width u.rows u.level p t.here) prefix ∙ ap (λ h. view_of u.width u.rows u.level u.prefix h) here

abbrev atom_of : Guide → TrieView → AtomView
atom_of guide trie = record { guide = guide; trie = trie }

same_atom : (a b : AtomView) → a.guide ≡ b.guide → a.trie ≡ b.trie → a ≡ b
same_atom a b guide trie = ap (λ (g : Guide). atom_of g a.trie) guide ∙ ap (atom_of b.guide) trie

-- it is where it was opened
pub atom_up : (guide : Guide) (t u : TrieView) (above : AtomView) → ComesUp t u → CanBeOpened above → IsOpenedFrom above (record { guide = guide; trie = t }) → record { guide = guide; trie = u } ≡ above
atom_up guide t u above comes could is =
    let level = comes.level in
    let was = is.level in
    let same_level : u.level ≡ above.trie.level = omega (arith, level, was) in
    same_atom (record { guide = guide; trie = u }) above is.guide
    (elim (cases_lt 0 above.trie.level) [
      | inl deep ↦
          let path : path_of above.trie ≡ above.trie.prefix ++ above.trie.here ∷ [] = rw (ne_eqb above.trie.level 0 (λ z. omega (arith, z, deep))) refl in
          let both = pushed_same u.prefix above.trie.prefix u.here above.trie.here (sym (comes.parent (omega (arith, level, same_level, deep))) ∙ is.prefix ∙ path) in
          same_view u above.trie (comes.width ∙ is.width) (comes.rows ∙ is.rows) same_level both.0 both.1
      | inr le ↦
          let z : above.trie.level ≡ 0 = omega (arith, le) in
          let root = could.root z in
          let one : t.level ≡ 1 = omega (arith, z, was) in
          same_view u above.trie (comes.width ∙ is.width) (comes.rows ∙ is.rows) same_level (comes.root_prefix one ∙ sym root.0) (comes.root one ∙ sym root.1)
    ])

-- on the same level
pub guide_moved : (guide : Guide) (t u : TrieView) (bound : ℕ) → IsOfGuide (record { guide = guide; trie = t }) → (record u { here = 0 }) ≡ (record t { here = 0 }) → u.here ≡ least_from (keys_of t) bound → IsOfGuide (record { guide = guide; trie = u })
guide_moved guide t u bound is still here =
    let width : u.width ≡ t.width = ap (λ (v : TrieView). v.width) still in
    let level : u.level ≡ t.level = ap (λ (v : TrieView). v.level) still in
    let prefix : u.prefix ≡ t.prefix = ap (λ (v : TrieView). v.prefix) still in
    record {
      wide = width ∙ is.wide;
      narrow = is.narrow;
      within = (let w = is.within in omega (arith, width, level, w));
      root = λ z. (
          let at_root : t.level ≡ 0 = omega (arith, z, level) in
          let none : keys_of t ≡ [] = rw (eq-eqb t.level 0 at_root) refl in
          (prefix ∙ (is.root at_root).0, here ∙ ap (λ ks. least_from ks bound) none)
          );
      deep = λ lt. (let d = is.deep (omega (arith, level, lt)) in let n = ap length prefix in omega (arith, level, d, n));
    }

-- its keys above are few
pub prefix_narrow : (atom : AtomView) → IsOfGuide atom → length atom.trie.prefix ≤ most_columns
prefix_narrow atom is =
    let wide = is.wide in
    let narrow = is.narrow in
    let within = is.within in
    elim (cases_lt 0 atom.trie.level) [
      | inl deep ↦ (let d = is.deep deep in omega (arith, d, wide, narrow, within))
      | inr le ↦ (let z : atom.trie.level ≡ 0 = omega (arith, le) in let n : length atom.trie.prefix ≡ 0 = ap length (is.root z).0 in omega (arith, n))
    ]

-- what an iterator was that stands elsewhere now
pub opened_still : (above atom next : AtomView) → IsOpenedFrom above atom → atom_still next ≡ atom_still atom → IsOpenedFrom above next
opened_still above atom next is still = record {
  could = is.could;
  guide = ap (λ (a : AtomView). a.guide) still ∙ is.guide;
  rows = ap (λ (a : AtomView). a.trie.rows) still ∙ is.rows;
  width = ap (λ (a : AtomView). a.trie.width) still ∙ is.width;
  level = ap (λ (a : AtomView). a.trie.level) still ∙ is.level;
  prefix = ap (λ (a : AtomView). a.trie.prefix) still ∙ is.prefix;
}
