use Rattle.std.proofs.Common.{sym, ap, ◌∙◌, subst}
use Rattle.std.specs.Arc.{arc_value}
use Rattle.lt_model.specs.Fits.{Fits}
use Rattle.lt_base.specs.Tables.{state_of}
use Rattle.lt_readers.specs.declared.front.Front.{Front}
use Rattle.lt_readers.proofs.Fitting.{fits_last, fits_later}
use Rattle.lt_readers.proofs.reader.Reader.query.Goals as goal

pub answered-requires-clause-fits : goal.answered-requires-clause-fits
answered-requires-clause-fits g c = λ lifetimes outlive.
    let now = c.args.self.now.front in
    let front = c.in-Some.front in
    let program = arc_value c.args.prog.now in
    let fits = fits_later now.seen.log front.seen.log (arc_value now.version) program now.last c.in-Some.ensures.newer.1 c.requires.fits in
    subst (λ db. Fits (state_of db) program) (sym c.database.ensures) (fits_last front.seen.log (arc_value front.version) program front.legal front.last fits)

pub answered-requires-in-None-clause-fits : goal.answered-requires-in-None-clause-fits
answered-requires-in-None-clause-fits g c = λ lifetimes outlive.
    let now = c.args.self.now.front in
    let program = arc_value c.args.prog.now in
    let same = c.database-in-None.ensures ∙ ap (λ (f : Front). state_of (arc_value f.version).db) c.in-None.ensures.front in
    subst (λ s. Fits s program) (sym same) (fits_last now.seen.log (arc_value now.version) program now.legal now.last c.requires.fits)
