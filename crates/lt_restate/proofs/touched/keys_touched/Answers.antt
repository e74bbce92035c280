use Rattle.std.proofs.Common.{List, subst}
use Rattle.lt_sense.specs.Kept.{Sense}
use Rattle.lt_join.specs.Slices.{Slice}
use Rattle.lt_join.specs.MendedKeys.{AreTouched}
use Rattle.lt_restate.proofs.TouchedKeys.{keys_are}
use Rattle.lt_restate.proofs.touched.keys_touched.Goals as goal

pub returns-clause-keys : goal.returns-clause-keys
returns-clause-keys c = λ s t are.
    keys_are c.args.part.now s t c.args.changes.now c.in_ok-keys.keys
    (subst (λ (l : List Slice). AreTouched c.args.part.now.sense l c.args.changes.now c.in_ok-keys.keys) c.in-Some.ensures.slices
    (subst (λ (root : Sense). AreTouched root c.in-Some.found.now.slices c.args.changes.now c.in_ok-keys.keys) c.in-Some.ensures.root c.in_ok-keys.ensures.touched)) are
