use Rattle.std.proofs.Common.{◌≡◌, ◌<◌, List, ℕ, take, length, ap, ◌∙◌, subst}
use Rattle.lt_face.specs.State.{IsIndexOf}
use Rattle.lt_query.specs.Lists.{below}
use Rattle.lt_join.specs.Holders.{IsLookUpOf}
use Rattle.lt_join.proofs.KnownLists.{take_more, AllZip-more}
use Rattle.lt_join.proofs.looking_up.look_ups_of.Goals as goal

pub loop-atom-preserved : goal.loop-atom-preserved
loop-atom-preserved g c =
    let state = g.I.Indexes.state c.args.tables.now in
    let absents = c.args.body.now.absents in
    let atom = c.atom-item.result in
    let items = c.as_slice-atom-items.ensures in
    let lt : c.loop-atom.atom-index < length absents = subst (λ xs. c.loop-atom.atom-index < length xs) items c.loop-atom-test.true in
    let atom_is = rw items at c.atom-item.is in
    let own : c.in_ok-columns.columns ≡ below (length atom.terms) = c.in_ok-columns.ensures ∙ ap below c.len.ensures in
    rw (take_more absents c.loop-atom.atom-index atom lt atom_is, c.in_ok-push.ensures.items)
    (AllZip-more (IsLookUpOf state) (take c.loop-atom.atom-index absents) c.loop-atom.look_ups.items atom c.among.result c.loop-atom.invariant
    (record {
      columns = c.among.ensures.columns ∙ own;
      index = let found = rw c.unwrap-rows.ensures at c.index.ensures.rows in
          subst (λ (cs : List ℕ). IsIndexOf state atom.relation cs c.among.result.width c.among.result.rows) own (rw (c.among.ensures.rows, c.among.ensures.width) found);
    }))
