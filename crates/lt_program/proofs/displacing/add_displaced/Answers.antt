use Rattle.std.proofs.Common.{◌∙◌, List, ◌++◌, not, length, sym, ap, arith}
use Rattle.std.specs.Prelude.{filter}
use Rattle.lt_base.specs.Tables.{state_of}
use Rattle.lt_face.specs.State.{Row}
use Rattle.lt_model.specs.Effect.{same_row}
use Rattle.lt_program.proofs.KeysAll.{relation_wide, found_in, others_displaced, key_cost}
use Rattle.lt_program.proofs.displacing.add_displaced.Goals as goal

pub rows_with_key-requires-clause-within : goal.rows_with_key-requires-clause-within
rows_with_key-requires-clause-within g c =
    let wide = relation_wide (state_of c.args._tables.now) c.args.place.now.relation (length c.args.place.now.columns) c.args.rows.now c.requires.rows c.requires.wide in omega (arith, wide, c.requires.within)

pub rows_with_key-requires-clause-wide : goal.rows_with_key-requires-clause-wide
rows_with_key-requires-clause-wide g c =
    c.requires.row.is_wide ∙ sym (relation_wide (state_of c.args._tables.now) c.args.place.now.relation (length c.args.place.now.columns) c.args.rows.now c.requires.rows c.requires.wide)

pub note_key-requires-clause-alike : goal.note_key-requires-clause-alike
note_key-requires-clause-alike g c = (
  state_of c.args._tables.now,
  c.requires.state,
  c.requires.wide,
  found_in (state_of c.args._tables.now) c.requires.state c.args.place.now.relation c.args.keys (length c.args.place.now.columns) c.requires.wide c.args.row.now c.args.rows.now c.requires.rows c.requires.row c.requires.within c.in_ok-alike.alike c.in_ok-alike.ensures.rows,
)

pub returns-clause-rows : goal.returns-clause-rows
returns-clause-rows g c =
    others_displaced (state_of c.args._tables.now) c.requires.state c.args.place.now.relation c.args.keys (length c.args.place.now.columns) c.requires.wide c.args.row.now c.args.rows.now c.requires.rows c.requires.row c.requires.within c.in_ok-alike.alike c.in_ok-alike.ensures.rows
    c.args.displaced.now.items c.add_others.new.displaced.items (c.in_ok-add_others.ensures ∙ ap (λ (rs : List Row). c.args.displaced.now.items ++ filter (λ other. not (same_row other c.args.row.now)) rs) c.as_slice.ensures)

pub returns-clause-certified : goal.returns-clause-certified
returns-clause-certified g c =
    c.in_ok-note_key.ensures.certified (state_of c.args._tables.now)
    (found_in (state_of c.args._tables.now) c.requires.state c.args.place.now.relation c.args.keys (length c.args.place.now.columns) c.requires.wide c.args.row.now c.args.rows.now c.requires.rows c.requires.row c.requires.within c.in_ok-alike.alike c.in_ok-alike.ensures.rows)

pub returns-clause-tight : goal.returns-clause-tight
returns-clause-tight g c =
    c.in_ok-note_key.ensures.tight (state_of c.args._tables.now) c.requires.state c.requires.wide
    (found_in (state_of c.args._tables.now) c.requires.state c.args.place.now.relation c.args.keys (length c.args.place.now.columns) c.requires.wide c.args.row.now c.args.rows.now c.requires.rows c.requires.row c.requires.within c.in_ok-alike.alike c.in_ok-alike.ensures.rows)

pub returns-clause-cost : goal.returns-clause-cost
returns-clause-cost g c = key_cost (state_of c.args._tables.now) c.args.place.now.relation c.args.keys (length c.args.place.now.columns) c.args.moves.now c.rows_with_key.new.moves c.args.row.now c.args.rows.now c.requires.state c.requires.wide c.requires.rows c.requires.row c.requires.within c.rows_with_key.ensures.cost

pub returns-in_err-alike-clause-cost : goal.returns-in_err-alike-clause-cost
returns-in_err-alike-clause-cost g c = key_cost (state_of c.args._tables.now) c.args.place.now.relation c.args.keys (length c.args.place.now.columns) c.args.moves.now c.rows_with_key.new.moves c.args.row.now c.args.rows.now c.requires.state c.requires.wide c.requires.rows c.requires.row c.requires.within c.rows_with_key.ensures.cost

pub returns-in_err-add_others-clause-cost : goal.returns-in_err-add_others-clause-cost
returns-in_err-add_others-clause-cost g c = key_cost (state_of c.args._tables.now) c.args.place.now.relation c.args.keys (length c.args.place.now.columns) c.args.moves.now c.rows_with_key.new.moves c.args.row.now c.args.rows.now c.requires.state c.requires.wide c.requires.rows c.requires.row c.requires.within c.rows_with_key.ensures.cost

pub returns-in_err-note_key-clause-cost : goal.returns-in_err-note_key-clause-cost
returns-in_err-note_key-clause-cost g c = key_cost (state_of c.args._tables.now) c.args.place.now.relation c.args.keys (length c.args.place.now.columns) c.args.moves.now c.rows_with_key.new.moves c.args.row.now c.args.rows.now c.requires.state c.requires.wide c.requires.rows c.requires.row c.requires.within c.rows_with_key.ensures.cost
