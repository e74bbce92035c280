use Rattle.std.proofs.Common.{◌≡◌, ℕ, true, take}
use Rattle.lt_sense.specs.ByKey.{GainsJust}
use Rattle.lt_sense.specs.ByKeyTold.{rests_at}
use Rattle.lt_sense.proofs.by_key_sense.add_keys.Given as goal

abbrev pub invariant-loop-i : goal.invariant-loop-i
invariant-loop-i l = GainsJust (λ (k : ℕ). rests_at k (take l.i l.rest.items) l.relation l.row ≡ true) l.fn.keys.items l.keys.items
