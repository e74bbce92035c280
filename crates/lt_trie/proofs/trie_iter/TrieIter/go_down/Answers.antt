use Rattle.std.proofs.Common.{◌≡◌, ◌<◌, ◌-◌, ◌+◌, ℕ, List, [], ◌∷◌, ◌++◌, length, set, sym, ap, ◌∙◌, subst, arith}
use Rattle.lt_face.specs.Keys.{least_from}
use Rattle.lt_trie.specs.Under.{keys_under}
use Rattle.lt_trie.specs.Trie.{TrieView}
use Rattle.lt_trie.specs.Stand.{cell_at, IsStand, AreAlong}
use Rattle.lt_trie.specs.declared.stand.Stand.{Stand}
use Rattle.lt_trie.proofs.Along.{along_more, prefix_more}
use Rattle.lt_trie.proofs.Below.{least_below}
use Rattle.lt_trie.proofs.Stands.{first_wide}
use Rattle.lt_trie.proofs.Moved.{IsTrie-opened}
use Rattle.lt_trie.proofs.trie_iter.TrieIter.go_down.Goals as goal

pub cells_at-key-requires : goal.cells_at-key-requires
cells_at-key-requires g c =
    let p = c.self.inside.prefix.now in
    let k = c.self.inside.key in
    let rows = g.R.RowReads.rows c.self.inside.rows.now in
    let width = g.R.RowReads.width_of c.self.inside.rows.now in
    let level = c.self.inside.level in
    let stand = c.find_end.new.place.stand in
    let below = subst (λ (t : TrieView). t.level < t.width) (sym c.self.view_is) c.requires.above_last in
    let at_level = subst (λ (t : TrieView). 0 < t.level) (sym c.self.view_is) c.requires.deep in
    let deep = c.self.invariant.0.deep at_level in
    let column : level ≡ length p + 1 = sym deep in
    first_wide width level rows p k stand.run.now stand.end stand.is_whole below c.self.invariant.0.is_set c.find_end.ensures.stand

pub invariant_of-self : goal.invariant_of-self
invariant_of-self g c =
    let p = c.self.inside.prefix.now in
    let k = c.self.inside.key in
    let rows = g.R.RowReads.rows c.self.inside.rows.now in
    let width = g.R.RowReads.width_of c.self.inside.rows.now in
    let level = c.self.inside.level in
    let stand = c.find_end.new.place.stand in
    let below = subst (λ (t : TrieView). t.level < t.width) (sym c.self.view_is) c.requires.above_last in
    let at_level = subst (λ (t : TrieView). 0 < t.level) (sym c.self.view_is) c.requires.deep in
    let deep = c.self.invariant.0.deep at_level in
    let column : level ≡ length p + 1 = sym deep in
    let prefix : c.cells_at-key.result.0.now ≡ p ++ k ∷ [] = c.cells_at-key.ensures.prefix ∙ prefix_more rows p k stand.run.now stand.end stand.is_whole level c.find_end.ensures.stand column in
    let key : c.cells_at-key.result.1 ≡ cell_at stand.run.now 0 (length p + 1) = c.cells_at-key.ensures.key ∙ ap (cell_at stand.run.now 0) column in
    let least : c.cells_at-key.result.1 ≡ least_from (keys_under c.cells_at-key.result.0.now rows) 0 =
    key ∙ sym (least_below width rows p k stand.run.now stand.end stand.is_whole c.self.invariant.0.is_set (omega (arith, deep, below)) c.find_end.ensures.stand) ∙ ap (λ q. least_from (keys_under q rows) 0) (sym prefix) in
    let room : length c.self.inside.above ≡ 8 = omega arith in
    let within = c.self.invariant.0.within in
    let narrow = c.self.invariant.0.narrow in
    let at : length p ≡ level - 1 = omega (arith, deep) in
    let along : AreAlong (λ front key (s : Stand). IsStand rows front key s.run.now s.end s.is_whole) [] (p ++ k ∷ []) (set c.self.inside.above (length p) stand) =
    along_more (λ front key (s : Stand). IsStand rows front key s.run.now s.end s.is_whole) [] p k c.self.inside.above stand c.self.invariant.2 c.find_end.ensures.stand (omega (arith, room, within, narrow, deep)) in (
      IsTrie-opened _ c.cells_at-key.result.0.now c.cells_at-key.result.1 prefix least c.self.invariant.0 at_level below,
      λ _. rw (prefix, key) c.below-self-inside.ensures,
      subst (λ (q : List ℕ). AreAlong (λ front key (s : Stand). IsStand rows front key s.run.now s.end s.is_whole) [] q (set c.self.inside.above (level - 1) stand)) (sym prefix)
          (subst (λ i. AreAlong (λ front key (s : Stand). IsStand rows front key s.run.now s.end s.is_whole) [] (p ++ k ∷ []) (set c.self.inside.above i stand)) at along),
    )

pub returns-clause-prefix : goal.returns-clause-prefix
returns-clause-prefix g c =
    let p = c.self.inside.prefix.now in
    let k = c.self.inside.key in
    let rows = g.R.RowReads.rows c.self.inside.rows.now in
    let width = g.R.RowReads.width_of c.self.inside.rows.now in
    let level = c.self.inside.level in
    let stand = c.find_end.new.place.stand in
    let below = subst (λ (t : TrieView). t.level < t.width) (sym c.self.view_is) c.requires.above_last in
    let at_level = subst (λ (t : TrieView). 0 < t.level) (sym c.self.view_is) c.requires.deep in
    let deep = c.self.invariant.0.deep at_level in
    let column : level ≡ length p + 1 = sym deep in
    let prefix : c.cells_at-key.result.0.now ≡ p ++ k ∷ [] = c.cells_at-key.ensures.prefix ∙ prefix_more rows p k stand.run.now stand.end stand.is_whole level c.find_end.ensures.stand column in
    let key : c.cells_at-key.result.1 ≡ cell_at stand.run.now 0 (length p + 1) = c.cells_at-key.ensures.key ∙ ap (cell_at stand.run.now 0) column in
    let least : c.cells_at-key.result.1 ≡ least_from (keys_under c.cells_at-key.result.0.now rows) 0 =
    key ∙ sym (least_below width rows p k stand.run.now stand.end stand.is_whole c.self.invariant.0.is_set (omega (arith, deep, below)) c.find_end.ensures.stand) ∙ ap (λ q. least_from (keys_under q rows) 0) (sym prefix) in
    subst (λ (t : TrieView). c.cells_at-key.result.0.now ≡ t.prefix ++ t.here ∷ []) c.self.view_is prefix

pub returns-clause-here : goal.returns-clause-here
returns-clause-here g c =
    let p = c.self.inside.prefix.now in
    let k = c.self.inside.key in
    let rows = g.R.RowReads.rows c.self.inside.rows.now in
    let width = g.R.RowReads.width_of c.self.inside.rows.now in
    let level = c.self.inside.level in
    let stand = c.find_end.new.place.stand in
    let below = subst (λ (t : TrieView). t.level < t.width) (sym c.self.view_is) c.requires.above_last in
    let at_level = subst (λ (t : TrieView). 0 < t.level) (sym c.self.view_is) c.requires.deep in
    let deep = c.self.invariant.0.deep at_level in
    let column : level ≡ length p + 1 = sym deep in
    let prefix : c.cells_at-key.result.0.now ≡ p ++ k ∷ [] = c.cells_at-key.ensures.prefix ∙ prefix_more rows p k stand.run.now stand.end stand.is_whole level c.find_end.ensures.stand column in
    let key : c.cells_at-key.result.1 ≡ cell_at stand.run.now 0 (length p + 1) = c.cells_at-key.ensures.key ∙ ap (cell_at stand.run.now 0) column in
    let least : c.cells_at-key.result.1 ≡ least_from (keys_under c.cells_at-key.result.0.now rows) 0 =
    key ∙ sym (least_below width rows p k stand.run.now stand.end stand.is_whole c.self.invariant.0.is_set (omega (arith, deep, below)) c.find_end.ensures.stand) ∙ ap (λ q. least_from (keys_under q rows) 0) (sym prefix) in
    least
