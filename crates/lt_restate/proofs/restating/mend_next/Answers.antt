use Rattle.std.proofs.Common.{◌+◌, ◌∙◌, ℕ, ◌∷◌, ◌++◌, [], length, refl, sym, ap, subst}
use Rattle.lt_base.specs.Tables.{state_of}
use Rattle.lt_sense.specs.Done.{AreAskable}
use Rattle.lt_program.specs.Part.{Part}
use Rattle.lt_program.specs.Tally.{run_of_first, sense_of}
use Rattle.lt_restate.specs.Changes.{touched_on}
use Rattle.lt_restate.specs.Covered.{AreCoveredChanges}
use Rattle.lt_restate.specs.Touches.{before}
use Rattle.lt_restate.proofs.Touching.{mended_here}
use Rattle.lt_restate.proofs.Ways.{way_again}
use Rattle.lt_restate.proofs.Steps.{walk_is, mend_touched, part_askable, part_by_key}
use Rattle.lt_restate.proofs.Costing.{cost_mended}
use Rattle.lt_restate.proofs.restating.mend_next.Goals as goal

pub keys_touched-requires-clause-by_key : goal.keys_touched-requires-clause-by_key
keys_touched-requires-clause-by_key g c =
    ap (λ (p : Part). p.by_key) c.part.ensures ∙ part_by_key c.args.old.now c.args.new.now c.args._old_on.now c.args._new_on.now c.args.walk.now c.requires.under_way c.args.part.now c.requires.part c.requires.sliced

pub keys_touched-requires-clause-askable : goal.keys_touched-requires-clause-askable
keys_touched-requires-clause-askable g c =
    subst (λ (p : Part). AreAskable (sense_of p) c.args.changes.now) (sym c.part.ensures)
    (part_askable c.args.old.now c.args.new.now c.args._old_on.now c.args._new_on.now c.args.walk.now c.requires.under_way c.args.part.now c.requires.part c.args.changes.now c.requires.rows)

pub mend-requires-clause-touched : goal.mend-requires-clause-touched
mend-requires-clause-touched g c =
    let keys_are = (c.in_ok-keys.ensures.keys (before (length c.args.new.now.parts) c.args.old.now) (before (length c.args.new.now.parts) c.args.new.now) (subst (λ (p : Part). AreCoveredChanges (sense_of p) (before (length c.args.new.now.parts) c.args.old.now) (before (length c.args.new.now.parts) c.args.new.now) c.args.changes.now) (sym c.part.ensures) c.requires.changes) ∙ ap (λ (p : Part). touched_on p (before (length c.args.new.now.parts) c.args.old.now) (before (length c.args.new.now.parts) c.args.new.now)) c.part.ensures) in
    mend_touched c.args.old.now c.args.new.now c.args._old_on.now c.args._new_on.now c.args.walk.now c.requires.under_way c.args.part.now c.requires.part c.in_ok-keys.keys keys_are

pub returns-clause-under_way : goal.returns-clause-under_way
returns-clause-under_way g c =
    let keys_are = (c.in_ok-keys.ensures.keys (before (length c.args.new.now.parts) c.args.old.now) (before (length c.args.new.now.parts) c.args.new.now) (subst (λ (p : Part). AreCoveredChanges (sense_of p) (before (length c.args.new.now.parts) c.args.old.now) (before (length c.args.new.now.parts) c.args.new.now) c.args.changes.now) (sym c.part.ensures) c.requires.changes) ∙ ap (λ (p : Part). touched_on p (before (length c.args.new.now.parts) c.args.old.now) (before (length c.args.new.now.parts) c.args.new.now)) c.part.ensures) in
    let mended = c.in_ok-mend.ensures.mended c.args.part.now c.requires.part in
    way_again c.args.old.now c.args.new.now c.mend.new.self c.args._old_on.now c.args._new_on.now c.args.walk.now c.requires.under_way c.in_ok-mend.ensures.one c.args.part.now c.args.touch c.in_ok-past.past _ c.requires.part c.requires.touch
    (mended_here c.args.old.now c.args.new.now c.mend.new.self c.in_ok-mend.ensures.one c.args.part.now mended.0 c.in_ok-keys.keys c.requires.part mended.1 keys_are mended.2)
    (c.in_ok-past.ensures.value ∙ ap (λ (n : ℕ). (run_of_first (n + 1) c.args.old.now.program (state_of c.args.old.now.base)).1) c.evaluated-place.ensures)
    c.in_ok-past.ensures.fits
    (walk_is c.in_ok-past.past c.in_ok-past.past c.push.new.self (c.args.walk.now.touches ++ c.args.touch ∷ []) refl c.in_ok-push.ensures.ok)

pub returns-clause-moves : goal.returns-clause-moves
returns-clause-moves g c =
    let keys_are = (c.in_ok-keys.ensures.keys (before (length c.args.new.now.parts) c.args.old.now) (before (length c.args.new.now.parts) c.args.new.now) (subst (λ (p : Part). AreCoveredChanges (sense_of p) (before (length c.args.new.now.parts) c.args.old.now) (before (length c.args.new.now.parts) c.args.new.now) c.args.changes.now) (sym c.part.ensures) c.requires.changes) ∙ ap (λ (p : Part). touched_on p (before (length c.args.new.now.parts) c.args.old.now) (before (length c.args.new.now.parts) c.args.new.now)) c.part.ensures) in
    cost_mended c.args.old.now c.args.new.now (length c.args.new.now.parts) c.args.moves.now c.mend.new.moves c.args.part.now c.args.touch c.requires.under_way.program c.requires.part c.requires.touch c.in_ok-keys.keys c.requires.sliced keys_are c.mend.ensures.moves

pub returns-in_err-mend-clause-moves : goal.returns-in_err-mend-clause-moves
returns-in_err-mend-clause-moves g c =
    let keys_are = (c.in_ok-keys.ensures.keys (before (length c.args.new.now.parts) c.args.old.now) (before (length c.args.new.now.parts) c.args.new.now) (subst (λ (p : Part). AreCoveredChanges (sense_of p) (before (length c.args.new.now.parts) c.args.old.now) (before (length c.args.new.now.parts) c.args.new.now) c.args.changes.now) (sym c.part.ensures) c.requires.changes) ∙ ap (λ (p : Part). touched_on p (before (length c.args.new.now.parts) c.args.old.now) (before (length c.args.new.now.parts) c.args.new.now)) c.part.ensures) in
    cost_mended c.args.old.now c.args.new.now (length c.args.new.now.parts) c.args.moves.now c.mend.new.moves c.args.part.now c.args.touch c.requires.under_way.program c.requires.part c.requires.touch c.in_ok-keys.keys c.requires.sliced keys_are c.mend.ensures.moves

pub returns-in_err-push-clause-moves : goal.returns-in_err-push-clause-moves
returns-in_err-push-clause-moves g c =
    let keys_are = (c.in_ok-keys.ensures.keys (before (length c.args.new.now.parts) c.args.old.now) (before (length c.args.new.now.parts) c.args.new.now) (subst (λ (p : Part). AreCoveredChanges (sense_of p) (before (length c.args.new.now.parts) c.args.old.now) (before (length c.args.new.now.parts) c.args.new.now) c.args.changes.now) (sym c.part.ensures) c.requires.changes) ∙ ap (λ (p : Part). touched_on p (before (length c.args.new.now.parts) c.args.old.now) (before (length c.args.new.now.parts) c.args.new.now)) c.part.ensures) in
    cost_mended c.args.old.now c.args.new.now (length c.args.new.now.parts) c.args.moves.now c.mend.new.moves c.args.part.now c.args.touch c.requires.under_way.program c.requires.part c.requires.touch c.in_ok-keys.keys c.requires.sliced keys_are c.mend.ensures.moves
