use Rattle.std.proofs.Common.{sym, subst}
use Rattle.lt_query.specs.Runnable.{HasWidths}
use Rattle.lt_program.proofs.KeptSlices.{body_widths, narrow_heads}
use Rattle.lt_program.proofs.slicing.is_sliced.Goals as goal

pub has_level-some-requires : goal.has_level-some-requires
has_level-some-requires c = record { widths = subst HasWidths (sym c.body_of.ensures) (body_widths c.requires.fits.0 c.args.stmt.now c.requires.fits.1 c.requires.fits.2) }

pub have_room-requires-clause-first : goal.have_room-requires-clause-first
have_room-requires-clause-first c = (narrow_heads c.requires.fits.0 c.args.stmt.now c.in-Replace.gone c.in-Replace.come c.in-Replace.keys c.in-Replace.body c.in-Replace.is c.requires.fits.1 c.requires.fits.2).0

pub have_room-requires-clause-second : goal.have_room-requires-clause-second
have_room-requires-clause-second c = (narrow_heads c.requires.fits.0 c.args.stmt.now c.in-Replace.gone c.in-Replace.come c.in-Replace.keys c.in-Replace.body c.in-Replace.is c.requires.fits.1 c.requires.fits.2).1
