use Rattle.std.proofs.Common.{◌+◌, ◌∙◌, ℕ, length, refl, ap}
use Rattle.lt_base.specs.Tables.{state_of}
use Rattle.lt_program.specs.Tally.{run_of_first}
use Rattle.lt_restate.proofs.Ways.{way_kept, there_is}
use Rattle.lt_restate.proofs.restating.keep_next.Goals as goal

pub returns-clause-under_way : goal.returns-clause-under_way
returns-clause-under_way c =
    let part = there_is c.args.old.now.parts (length c.args.new.now.parts) c.requires.below in
    way_kept c.args.old.now c.args.new.now c.keep.new.self c.args._old_on.now c.args._new_on.now c.args.walk.now c.requires.under_way c.in_ok-keep.ensures.one part.0 c.in_ok-past.past _ part.1 (c.in_ok-keep.ensures.kept part.0 part.1)
    (c.requires.agree part.0 part.1) (c.in_ok-past.ensures.value ∙ ap (λ (n : ℕ). (run_of_first (n + 1) c.args.old.now.program (state_of c.args.old.now.base)).1) c.evaluated-place.ensures)
    c.in_ok-past.ensures.fits refl
