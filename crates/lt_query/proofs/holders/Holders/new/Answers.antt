use Rattle.lt_query.proofs.LevelParts.{are_kept}
use Rattle.lt_query.proofs.holders.Holders.new.Goals as goal

pub invariant_of-result : goal.invariant_of-result
invariant_of-result c =
    let made = c.in_ok-made.ensures in
    let guides = c.args.guides in
    are_kept guides c.in_ok-count.count c.in_ok-made.made.parts.items c.in_ok-made.made.places.items
    (rw c.as_slice-2.ensures at made.parts) (rw c.as_slice-2.ensures at made.places) (rw c.as_slice.ensures at c.in_ok-count.ensures)
