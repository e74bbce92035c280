use Rattle.std.proofs.Common.{◌≡◌, map, take}
use Rattle.lt_model.specs.Check.{normal}
use Rattle.lt_world.proofs.GoodAll.{AreGood}
use Rattle.lt_world.proofs.Refilling.{turned}
use Rattle.lt_world.proofs.reusing.refill_all.Given as goal

-- the first of the new statements stand there, which have no code, and then those of the old ones that are left
abbrev pub invariant-loop-i : goal.invariant-loop-i
invariant-loop-i l = (l.planned ≡ map (normal l.schema) (turned l.i l.new l.old)) × AreGood l.schema (take l.i l.new)
