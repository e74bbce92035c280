use Rattle.std.proofs.Common.{◌≡◌, ◌∙◌, ◌*◌, length, sym, ap, subst, arith}
use Rattle.std.specs.Prelude.{IfOk, OnOk}
use Rattle.std.specs.Arc.{arc_value}
use Rattle.std.specs.List.{AllByRecursion}
use Rattle.lt_face.proofs.RowLemmas.{each_weaker}
use Rattle.lt_readers.specs.declared.reader.Reader.{Reader}
use Rattle.lt_readers.specs.Boards.{posted, poster_board, reader_board, seen}
use Rattle.lt_runs.specs.Asking.{IsAsked, WereAsked}
use Rattle.lt_runs.specs.Posting.{HasPosted}
use Rattle.lt_runs.specs.Reading.{IsPosted, IsReady}
use Rattle.lt_runs.proofs.beside.read_beside.Goals as goal

pub both-queried-requires-clause-ready : goal.both-queried-requires-clause-ready
both-queried-requires-clause-ready g c = λ lifetimes outlive.
    let program = arc_value c.args.asked.now in
    let log = posted c.args.poster.now in
    each_weaker (λ (r : Reader). (seen r ≡ log) × (reader_board r ≡ poster_board c.args.poster.now)) (λ (r : Reader). IsReady program (seen r)) (λ r h. subst (IsReady program) (sym h.0) c.requires.fits) c.args.readers.items c.requires.seen

pub compare-requires-clause-asked : goal.compare-requires-clause-asked
compare-requires-clause-asked g c = λ lifetimes outlive.
    let program = arc_value c.args.asked.now in
    let were : WereAsked program c.args.readers.items c.in_ok-all.all.items = subst (λ r. IfOk r (λ all. WereAsked program c.args.readers.items all.items)) c.in_ok-all.was c.both-queried.ensures.asked in
    let boards = each_weaker (λ (r : Reader). (seen r ≡ posted c.args.poster.now) × (reader_board r ≡ poster_board c.args.poster.now)) (λ (r : Reader). reader_board r ≡ poster_board c.args.poster.now) (λ r h. h.1) c.args.readers.items c.requires.seen in
    subst (λ b. AllByRecursion (IsAsked program b) c.in_ok-all.all.items) (sym c.both-queried.ensures.board) (were.each (poster_board c.args.poster.now) boards)

pub compare-requires-clause-few : goal.compare-requires-clause-few
compare-requires-clause-few g c = λ lifetimes outlive.
    let program = arc_value c.args.asked.now in
    let were : WereAsked program c.args.readers.items c.in_ok-all.all.items = subst (λ r. IfOk r (λ all. WereAsked program c.args.readers.items all.items)) c.in_ok-all.was c.both-queried.ensures.asked in
    omega (arith, were.count, c.requires.few)

pub compare-requires-clause-posted : goal.compare-requires-clause-posted
compare-requires-clause-posted g c = λ lifetimes outlive.
    let log = posted c.args.poster.now in
    let later = posted c.both-queried.new.poster in
    let did : HasPosted c.args.come c.args.batches.items log later c.both-queried.new.come = subst (λ r. OnOk r (HasPosted c.args.come c.args.batches.items log later c.both-queried.new.come)) c.in_ok-_ran.was c.both-queried.ensures.posted in
    let p = c.requires.post.posted in
    let bound = c.requires.most p.first p.begins in
    let whole : length later ≡ c.requires.post.most = omega (arith, did.longer, c.requires.one, bound, p.most_is) in
    subst (λ n. IsPosted n c.both-queried.new.come.world.versions later) (sym whole) (did.posted c.requires.post.most p)

pub compare-requires-clause-ready : goal.compare-requires-clause-ready
compare-requires-clause-ready g c = λ lifetimes outlive.
    let log = posted c.args.poster.now in
    let later = posted c.both-queried.new.poster in
    let did : HasPosted c.args.come c.args.batches.items log later c.both-queried.new.come = subst (λ r. OnOk r (HasPosted c.args.come c.args.batches.items log later c.both-queried.new.come)) c.in_ok-_ran.was c.both-queried.ensures.posted in
    record { first = c.requires.fits.first; begins = did.first c.requires.fits.first c.requires.fits.begins; fits = c.requires.fits.fits }

pub returns-clause-come : goal.returns-clause-come
returns-clause-come g c = λ front h.
    let log = posted c.args.poster.now in
    let later = posted c.both-queried.new.poster in
    let did : HasPosted c.args.come c.args.batches.items log later c.both-queried.new.come = subst (λ r. OnOk r (HasPosted c.args.come c.args.batches.items log later c.both-queried.new.come)) c.in_ok-_ran.was c.both-queried.ensures.posted in
    did.run front h

pub returns-clause-programs : goal.returns-clause-programs
returns-clause-programs g c =
    let log = posted c.args.poster.now in
    let later = posted c.both-queried.new.poster in
    let did : HasPosted c.args.come c.args.batches.items log later c.both-queried.new.come = subst (λ r. OnOk r (HasPosted c.args.come c.args.batches.items log later c.both-queried.new.come)) c.in_ok-_ran.was c.both-queried.ensures.posted in
    did.programs

pub returns-clause-reads : goal.returns-clause-reads
returns-clause-reads g c =
    let program = arc_value c.args.asked.now in
    let were : WereAsked program c.args.readers.items c.in_ok-all.all.items = subst (λ r. IfOk r (λ all. WereAsked program c.args.readers.items all.items)) c.in_ok-all.was c.both-queried.ensures.asked in
    c.in_ok-read.ensures.reads ∙ ap (λ n. 16 * n) were.count

pub returns-clause-equal : goal.returns-clause-equal
returns-clause-equal g c =
    let program = arc_value c.args.asked.now in
    let were : WereAsked program c.args.readers.items c.in_ok-all.all.items = subst (λ r. IfOk r (λ all. WereAsked program c.args.readers.items all.items)) c.in_ok-all.was c.both-queried.ensures.asked in
    c.in_ok-read.ensures.equal ∙ ap (λ n. 16 * n) were.count
