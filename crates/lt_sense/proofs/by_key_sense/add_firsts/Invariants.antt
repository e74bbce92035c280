use Rattle.std.proofs.Common.{◌≡◌, ℕ, true, take}
use Rattle.lt_sense.specs.ByKey.{have_at, GainsJust}
use Rattle.lt_sense.specs.Gathered.{ranges_in}
use Rattle.lt_sense.proofs.by_key_sense.add_firsts.Given as goal

abbrev pub invariant-loop-i : goal.invariant-loop-i
invariant-loop-i l = GainsJust (λ (k : ℕ). have_at k (ranges_in (take l.i l.lists.items)) l.relation l.row ≡ true) l.fn.keys.items l.keys.items
