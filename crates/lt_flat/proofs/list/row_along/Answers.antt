use Rattle.std.proofs.Common.{length, refl}
use Rattle.std.proofs.lemmas.Option.{slice_get_read}
use Rattle.lt_face.proofs.Walked.{got_has}
use Rattle.lt_flat.proofs.list.row_along.Goals as goal

pub returns : goal.returns
returns c =
    let rows = c.args.rows.now in
    let row = c.index-rows-place.result in
    got_has rows c.place.result row (slice_get_read rows (length rows) c.place.result row refl c.place.ensures.within c.index-rows-place.is)
