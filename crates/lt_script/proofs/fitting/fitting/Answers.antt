use Rattle.lt_script.proofs.Fits.{fits_first, fits_constant, fits_last}
use Rattle.lt_script.proofs.fitting.fitting.Goals as goal

pub loop-slot-init : goal.loop-slot-init
loop-slot-init c = fits_first _ _ _ _ c.new-cells.ensures.items

pub loop-slot-preserved : goal.loop-slot-preserved
loop-slot-preserved c =
    let found = c.in-Some-constant_at.ensures in
    fits_constant _ _ _ _ _ _ _ _ _ _ _ _ found.0 _ _ _ c.loop-slot-test.true c.split_at.ensures.front c.split_at.ensures.back c.split_at-in-loop-slot.ensures.back c.in-Some.ensures found.1 found.2 c.in_ok-push.ensures.ok c.loop-slot.invariant

pub returns-in-Some-left_behind : goal.returns-in-Some-left_behind
returns-in-Some-left_behind c = fits_last _ _ _ _ _ _ _ _ c.loop-slot-test.false c.in-Some-left_behind.ensures c.loop-slot.invariant
