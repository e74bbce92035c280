use Rattle.std.proofs.Common.{◌+◌, ◌∙◌, ℕ, List, ◌∷◌, ◌++◌, [], length, refl, sym, ap}
use Rattle.std.specs.Prelude.{slice_get}
use Rattle.lt_base.specs.Tables.{state_of}
use Rattle.lt_model.specs.declared.normal.Stmt.{Stmt}
use Rattle.lt_program.specs.Tally.{run_of_first, is_sliced_at}
use Rattle.lt_restate.proofs.Touching.{whole_here}
use Rattle.lt_restate.proofs.Ways.{way_again}
use Rattle.lt_restate.proofs.Steps.{walk_is}
use Rattle.lt_restate.proofs.Costing.{cost_whole}
use Rattle.lt_restate.proofs.restating.evaluate_whole.Goals as goal

pub returns-clause-under_way : goal.returns-clause-under_way
returns-clause-under_way g c =
    way_again c.args.old.now c.args.new.now c.evaluate.new.self c.args._old_on.now c.args._new_on.now c.args.walk.now c.requires.under_way c.in_ok-evaluate.ensures.one c.args._part.now c.args.touch c.in_ok-past.past _ c.requires.part c.requires.touch
    (whole_here c.args.old.now c.args.new.now c.evaluate.new.self c.in_ok-evaluate.ensures.one (ap (λ (p : List Stmt). is_sliced_at (slice_get p (length c.args.new.now.parts))) (sym c.requires.under_way.program) ∙ c.requires.whole))
    (c.in_ok-past.ensures.value ∙ ap (λ (n : ℕ). (run_of_first (n + 1) c.args.old.now.program (state_of c.args.old.now.base)).1) c.evaluated-place.ensures)
    c.in_ok-past.ensures.fits
    (walk_is c.in_ok-past.past c.in_ok-past.past c.push.new.self (c.args.walk.now.touches ++ c.args.touch ∷ []) refl c.in_ok-push.ensures.ok)

pub returns-clause-moves : goal.returns-clause-moves
returns-clause-moves g c = cost_whole c.args.old.now c.args.new.now (length c.args.new.now.parts) c.args.moves.now c.evaluate.new.moves c.args._part.now c.args.touch c.requires.under_way.program c.requires.part c.requires.touch c.requires.whole c.evaluate.ensures.moves

pub returns-in_err-evaluate-clause-moves : goal.returns-in_err-evaluate-clause-moves
returns-in_err-evaluate-clause-moves g c = cost_whole c.args.old.now c.args.new.now (length c.args.new.now.parts) c.args.moves.now c.evaluate.new.moves c.args._part.now c.args.touch c.requires.under_way.program c.requires.part c.requires.touch c.requires.whole c.evaluate.ensures.moves

pub returns-in_err-push-clause-moves : goal.returns-in_err-push-clause-moves
returns-in_err-push-clause-moves g c = cost_whole c.args.old.now c.args.new.now (length c.args.new.now.parts) c.args.moves.now c.evaluate.new.moves c.args._part.now c.args.touch c.requires.under_way.program c.requires.part c.requires.touch c.requires.whole c.evaluate.ensures.moves
