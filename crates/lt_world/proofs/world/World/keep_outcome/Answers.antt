use Rattle.std.proofs.Common.{map, refl, true, length, ap, ◌∙◌}
use Rattle.lt_base.specs.Tables.{state_of}
use Rattle.lt_world.specs.Batches.{checked_of, good_ones}
use Rattle.lt_world.proofs.Batches.{batch_shown, effects-length, run_is}
use Rattle.lt_world.proofs.world.World.keep_outcome.Goals as goal

pub returns-clause-ran : goal.returns-clause-ran
returns-clause-ran c = λ programs judged.
    let o = c.requires.outcome in
    run_is c.args.self.now c.requires.world.model c.requires.world.shows programs true _ (good_ones c.args.judgements.items)
    c.next_number-number.ensures judged refl o.replies (λ asked. o.effects) (ap (λ es. length es) o.effects ∙ effects-length (good_ones c.args.judgements.items) (state_of c.args.self.now.database)) o.printed o.fit

pub returns-clause-world : goal.returns-clause-world
returns-clause-world c = λ programs judged marks m s.
    let o = c.requires.outcome in
    batch_shown c.args.self.now m programs (map checked_of c.args.judgements.items) s judged marks c.keep.new.self c.args.outcome.db
    c.in_ok-keep.ensures.schema o.state_is c.in_ok-keep.ensures.database c.in_ok-keep.ensures.versions
