use Rattle.lt_script.proofs.Fits.{FitsOn}
use Rattle.lt_script.proofs.fitting.fitting.Given as goal

abbrev pub invariant-loop-slot : goal.invariant-loop-slot
invariant-loop-slot l = FitsOn l.slots l.fn.text l.fn.bytes l.slot-index l.text l.left l.cells.items
