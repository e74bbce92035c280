use Rattle.std.proofs.Common.{◌≡◌, ◌-◌, ℕ, List, suc, [], ◌∷◌, ◌++◌, length, take, get_or, sym, ap, ◌∙◌, subst, arith, length-take-le}
use Rattle.lt_trie.specs.Trie.{TrieView}
use Rattle.lt_trie.specs.Stand.{cell_at, IsStand, AreAlong}
use Rattle.lt_trie.specs.declared.stand.Stand.{Stand}
use Rattle.lt_trie.proofs.Along.{parent, last_split, prefix_is}
use Rattle.lt_trie.proofs.Stands.{first_wide}
use Rattle.lt_trie.proofs.Moved.{IsTrie-left}
use Rattle.lt_trie.proofs.trie_iter.TrieIter.up.Goals as goal

pub cells_at-key-requires : goal.cells_at-key-requires
cells_at-key-requires g c =
    let n = c.self.inside.level - 1 - 1 in
    let p = c.self.inside.prefix.now in
    let rows = g.R.RowReads.rows c.self.inside.rows.now in
    let deep = c.self.invariant.0.deep (omega (arith, c.if-self-eq0.false)) in
    let long : length p ≡ suc n = omega (arith, deep, c.if-self-eq0.false) in
    let above = parent (λ front key (s : Stand). IsStand rows front key s.run.now s.end s.is_whole) p n c.self.inside.above c.index-above-column.result long c.self.invariant.2 c.index-above-column.is in
    let within = c.self.invariant.0.within in
    first_wide (g.R.RowReads.width_of c.self.inside.rows.now) n rows (take n p) (get_or p n 0) c.index-above-column.result.run.now c.index-above-column.result.end c.index-above-column.result.is_whole (omega (arith, within, c.if-self-eq0.false)) c.self.invariant.0.is_set above.1

pub invariant_of-self-2 : goal.invariant_of-self-2
invariant_of-self-2 g c =
    let n = c.self.inside.level - 1 - 1 in
    let p = c.self.inside.prefix.now in
    let rows = g.R.RowReads.rows c.self.inside.rows.now in
    let deep = c.self.invariant.0.deep (omega (arith, c.if-self-eq0.false)) in
    let long : length p ≡ suc n = omega (arith, deep, c.if-self-eq0.false) in
    let above = parent (λ front key (s : Stand). IsStand rows front key s.run.now s.end s.is_whole) p n c.self.inside.above c.index-above-column.result long c.self.invariant.2 c.index-above-column.is in
    let len : length (take n p) ≡ n = length-take-le n p (omega (arith, long)) in
    let prefix : c.cells_at-key.result.0.now ≡ take n p = c.cells_at-key.ensures.prefix ∙ prefix_is rows (take n p) (get_or p n 0) c.index-above-column.result.run.now _ _ n above.1 (sym len) in
    let key : c.cells_at-key.result.1 ≡ get_or p n 0 = c.cells_at-key.ensures.key ∙ ap (cell_at c.index-above-column.result.run.now 0) (sym len) ∙ above.1.at_key in
    let split : p ≡ c.cells_at-key.result.0.now ++ c.cells_at-key.result.1 ∷ [] = rw (prefix, key) (last_split p n long) in (
      IsTrie-left _ c.cells_at-key.result.0.now c.cells_at-key.result.1 split c.self.invariant.0 (omega (arith, c.if-self-eq0.false)),
      λ _. rw (prefix, key) above.1,
      subst (λ (q : List ℕ). AreAlong (λ front key (s : Stand). IsStand rows front key s.run.now s.end s.is_whole) [] q c.self.inside.above) (sym prefix) above.0,
    )

pub returns-clause-parent : goal.returns-clause-parent
returns-clause-parent g c =
    let n = c.self.inside.level - 1 - 1 in
    let p = c.self.inside.prefix.now in
    let rows = g.R.RowReads.rows c.self.inside.rows.now in
    let deep = c.self.invariant.0.deep (omega (arith, c.if-self-eq0.false)) in
    let long : length p ≡ suc n = omega (arith, deep, c.if-self-eq0.false) in
    let above = parent (λ front key (s : Stand). IsStand rows front key s.run.now s.end s.is_whole) p n c.self.inside.above c.index-above-column.result long c.self.invariant.2 c.index-above-column.is in
    let len : length (take n p) ≡ n = length-take-le n p (omega (arith, long)) in
    let prefix : c.cells_at-key.result.0.now ≡ take n p = c.cells_at-key.ensures.prefix ∙ prefix_is rows (take n p) (get_or p n 0) c.index-above-column.result.run.now _ _ n above.1 (sym len) in
    let key : c.cells_at-key.result.1 ≡ get_or p n 0 = c.cells_at-key.ensures.key ∙ ap (cell_at c.index-above-column.result.run.now 0) (sym len) ∙ above.1.at_key in
    λ _. subst (λ (t : TrieView). t.prefix ≡ c.cells_at-key.result.0.now ++ c.cells_at-key.result.1 ∷ []) c.self.view_is (rw (prefix, key) (last_split p n long))
