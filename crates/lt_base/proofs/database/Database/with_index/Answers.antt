use Rattle.std.proofs.Common.{◌≡◌, ◌∙◌, ◌||◌, ◌&&◌, ℕ, true, List, Some, refl, sym, ap}
use Rattle.std.specs.Prelude.{◌==◌, slice_get}
use Rattle.std.specs.Arc.{arc_value}
use Rattle.lt_face.specs.State.{row_eq}
use Rattle.lt_base.specs.Tables.{Table, relation_of, state_of, has_columns, has_index}
use Rattle.lt_base.proofs.Grown.{map_at}
use Rattle.lt_base.proofs.Replaced.{already, place_in, wide_at, same_state, more_indexes, with_used}
use Rattle.lt_base.proofs.States.{index_at}
use Rattle.lt_base.proofs.Used.{seen_same}
use Rattle.lt_base.proofs.database.Database.with_index.Goals as goal

pub returns-then-is_in_use-clause-indexes : goal.returns-then-is_in_use-clause-indexes
returns-then-is_in_use-clause-indexes g c = λ r columns. rw c.in_ok-same.ensures (already c.args.self.now c.args.relation c.args.perm.now (c.if-is_in_use.ensures refl) r columns)

pub with_used_index-requires-clause-perm : goal.with_used_index-requires-clause-perm
with_used_index-requires-clause-perm g c = λ lifetimes outlive.
    rw c.deref.ensures (c.requires.perm _ (wide_at arc_value c.in_ok-relations.relations.items c.args.self.now c.args.relation c.index.result.now (c.in_ok-relations.ensures ∙ c.self.view_is) c.requires.there c.index.ensures))

pub returns-clause-state : goal.returns-clause-state
returns-clause-state g c =
    let one = ap relation_of c.in_ok-indexed-2.ensures.ok ∙ (with_used c.deref.result.now c.in_ok-indexed.indexed c.args.perm.now c.in_ok-indexed.ensures.there c.in_ok-indexed.ensures.new).0 ∙ ap relation_of c.deref.ensures in
    same_state arc_value c.in_ok-relations.relations.items c.args.relation c.index.result.now c.in_ok-indexed-2.indexed c.index.ensures one
    ∙ ap state_of (c.in_ok-relations.ensures ∙ c.self.view_is)

pub returns-clause-indexes : goal.returns-clause-indexes
returns-clause-indexes g c = λ r columns.
    let used = (with_used c.deref.result.now c.in_ok-indexed.indexed c.args.perm.now c.in_ok-indexed.ensures.there c.in_ok-indexed.ensures.new).1 in
    let one : (cs : List ℕ) → has_columns (arc_value c.in_ok-indexed-2.indexed) cs ≡ (has_columns (arc_value c.index.result.now) cs || row_eq cs c.args.perm.now) = λ cs.
    ap (λ (t : Table). has_columns t cs) c.in_ok-indexed-2.ensures.ok ∙ used cs ∙ ap (λ (t : Table). has_columns t cs || row_eq cs c.args.perm.now) c.deref.ensures in
    more_indexes arc_value c.in_ok-relations.relations.items c.args.relation c.index.result.now c.in_ok-indexed-2.indexed c.args.perm.now
    (place_in arc_value c.in_ok-relations.relations.items c.args.self.now c.args.relation (c.in_ok-relations.ensures ∙ c.self.view_is) c.requires.there) c.index.ensures one r columns
    ∙ ap (λ (l : List Table). has_index l r columns || (r == c.args.relation && row_eq columns c.args.perm.now)) (c.in_ok-relations.ensures ∙ c.self.view_is)

pub returns-clause-same : goal.returns-clause-same
returns-clause-same g c = λ has.
    let are = c.in_ok-relations.ensures ∙ c.self.view_is in
    let lt = place_in arc_value c.in_ok-relations.relations.items c.args.self.now c.args.relation are c.requires.there in
    let here : Some (arc_value c.index.result.now) ≡ slice_get c.args.self.now c.args.relation = sym (map_at arc_value c.in_ok-relations.relations.items c.args.relation c.index.result.now lt c.index.ensures) ∙ ap (λ (l : List Table). slice_get l c.args.relation) are in
    let there : has_columns c.deref.result.now c.args.perm.now ≡ true = ap (λ (t : Table). has_columns t c.args.perm.now) c.deref.ensures ∙ sym (index_at c.args.self.now c.args.relation (arc_value c.index.result.now) c.args.perm.now here) ∙ has in
    seen_same arc_value c.in_ok-relations.relations.items c.args.relation c.index.result.now c.in_ok-indexed-2.indexed c.index.ensures (c.in_ok-indexed-2.ensures.ok ∙ c.in_ok-indexed.ensures.there there ∙ c.deref.ensures)
    ∙ are
