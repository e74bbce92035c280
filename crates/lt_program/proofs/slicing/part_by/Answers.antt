use Rattle.std.proofs.Common.{sym, ap, subst}
use Rattle.lt_program.specs.Part.{Part}
use Rattle.lt_program.specs.Tally.{IsPartOn}
use Rattle.lt_program.proofs.KeptSlices.{rows_by, part_by_is}
use Rattle.lt_program.proofs.slicing.part_by.Goals as goal

pub returns-clause-part : goal.returns-clause-part
returns-clause-part c = λ state are.
    subst (λ (p : Part). IsPartOn c.args.stmt.now state p) (sym c.new.ensures)
    (part_by_is c.requires.fits.0 state c.args.stmt.now c.args.found.root c.args.found.slices c.requires.fits.1 c.requires.fits.2 c.requires.sliced are c.in_ok-outcome.outcome
    (c.in_ok-outcome.ensures state
    (rows_by c.requires.fits.0 state c.args.stmt.now c.args.found.root c.args.found.slices c.requires.fits.1 c.requires.fits.2 c.requires.sliced are c.in_ok-rows.rows c.in_ok-rows.ensures)))

pub returns-clause-root : goal.returns-clause-root
returns-clause-root c = ap (λ (p : Part). p.sense) c.new.ensures

pub returns-clause-slices : goal.returns-clause-slices
returns-clause-slices c = ap (λ (p : Part). p.slices) c.new.ensures
