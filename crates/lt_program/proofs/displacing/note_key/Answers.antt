use Rattle.std.proofs.Common.{◌∙◌, List, ◌++◌, map, length, sym, ap, arith}
use Rattle.lt_face.specs.State.{Row}
use Rattle.lt_join.proofs.LookingUp.{Grows-both}
use Rattle.lt_program.proofs.KeysLooked.{hit_at, alike_rise, alike_beside, alike_key, small_row, hits_grow, looked_certified, looked_tight}
use Rattle.lt_program.proofs.displacing.note_key.Goals as goal

pub note_others-requires-clause-row : goal.note_others-requires-clause-row
note_others-requires-clause-row c = small_row (length c.args.place.now.columns) c.args.row.now c.requires.row

pub note_others-requires-clause-ascend : goal.note_others-requires-clause-ascend
note_others-requires-clause-ascend c =
    alike_rise c.requires.alike.0 c.requires.alike.1 c.args.place.now.relation (length c.args.place.now.columns) c.args.keys c.requires.alike.2 c.args.row.now c.args.alike.now c.requires.alike.3

pub note_others-requires-clause-wide : goal.note_others-requires-clause-wide
note_others-requires-clause-wide c =
    alike_beside c.requires.alike.0 c.requires.alike.1 c.args.place.now.relation (length c.args.place.now.columns) c.args.keys c.requires.alike.2 c.args.row.now c.args.alike.now c.requires.alike.3

pub note_others-requires-clause-key : goal.note_others-requires-clause-key
note_others-requires-clause-key c =
    alike_key c.requires.alike.0 c.requires.alike.1 c.args.place.now.relation (length c.args.place.now.columns) c.args.keys c.requires.alike.2 c.args.row.now c.args.alike.now c.requires.alike.3

pub returns-clause-grows : goal.returns-clause-grows
returns-clause-grows c =
    Grows-both c.args.sense.now c.note_others.new.sense c.add_hits.new.sense c.in_ok-note_others.ensures.grows
    (hits_grow c.args.place.now.relation c.args.alike.now c.note_others.new.sense c.add_hits.new.sense c.in_ok-add_hits.ensures.gaps (c.in_ok-add_hits.ensures.hits ∙ ap (λ (rs : List Row). c.note_others.new.sense.hits ++ map (hit_at c.args.place.now.relation) rs) c.as_slice.ensures))

pub returns-clause-certified : goal.returns-clause-certified
returns-clause-certified c =
    looked_certified c.args.place.now.relation c.args.keys (length c.args.place.now.columns) c.args.row.now c.args.alike.now c.args.sense.now c.note_others.new.sense c.add_hits.new.sense (sym c.requires.row.is_wide) (omega (arith, c.requires.within, c.requires.row.is_wide))
    c.in_ok-note_others.ensures c.in_ok-add_hits.ensures.gaps (c.in_ok-add_hits.ensures.hits ∙ ap (λ (rs : List Row). c.note_others.new.sense.hits ++ map (hit_at c.args.place.now.relation) rs) c.as_slice.ensures)

pub returns-clause-tight : goal.returns-clause-tight
returns-clause-tight c =
    looked_tight c.args.place.now.relation c.args.keys (length c.args.place.now.columns) c.args.row.now c.args.alike.now c.args.sense.now c.note_others.new.sense c.add_hits.new.sense
    c.in_ok-note_others.ensures c.in_ok-add_hits.ensures.gaps (c.in_ok-add_hits.ensures.hits ∙ ap (λ (rs : List Row). c.note_others.new.sense.hits ++ map (hit_at c.args.place.now.relation) rs) c.as_slice.ensures)
