use Rattle.std.proofs.Common.{◌≡◌, List, sym, subst}
use Rattle.lt_base.specs.Tables.{state_of}
use Rattle.lt_face.specs.State.{Row}
use Rattle.lt_model.specs.Answers.{answers}
use Rattle.lt_sense.specs.Kept.{Sense}
use Rattle.lt_sense.specs.Sense.{IsTight}
use Rattle.lt_join.specs.Certify.{Certifies}
use Rattle.lt_program.specs.Tally.{CertifiesKeys}
use Rattle.lt_program.proofs.Parts.{head_wide}
use Rattle.lt_program.proofs.Picked.{answers_rise}
use Rattle.lt_program.proofs.SenseGrows.{certified_grows}
use Rattle.lt_program.proofs.evaluation.replaced_by_key.Goals as goal

pub keyed-requires-clause-ascend : goal.keyed-requires-clause-ascend
keyed-requires-clause-ascend g c = answers_rise c.args.come.now.terms c.args.body.now (state_of c.args.tables.now) c.in_ok-pair.pair.second c.in_ok-pair.ensures.second

pub keyed-requires-clause-rows : goal.keyed-requires-clause-rows
keyed-requires-clause-rows g c = head_wide (state_of c.args.tables.now) c.args.come.now c.args.body.now c.in_ok-pair.pair.second c.look_over.ensures.state c.requires.can_follow.fits c.requires.come c.in_ok-pair.ensures.second

pub returns-clause-certified : goal.returns-clause-certified
returns-clause-certified g c =
    subst (λ (s : Sense). Certifies s c.args.body.now (state_of c.args.tables.now)) (sym c.in_ok-part.ensures.sense)
    (certified_grows c.in_ok-pair.pair.sense c.keyed.new.sense c.in_ok-outcome.ensures.grows c.args.body.now (state_of c.args.tables.now) c.in_ok-pair.ensures.certified)

pub returns-clause-keys : goal.returns-clause-keys
returns-clause-keys g c =
    let come : c.in_ok-pair.pair.second ≡ answers c.args.come.now.terms c.args.body.now (state_of c.args.tables.now) = c.in_ok-pair.ensures.second in
    subst (λ (s : Sense). CertifiesKeys s c.args.come.now c.args.keys (answers c.args.come.now.terms c.args.body.now (state_of c.args.tables.now)) (state_of c.args.tables.now)) (sym c.in_ok-part.ensures.sense)
    (subst (λ (rows : List Row). CertifiesKeys c.keyed.new.sense c.args.come.now c.args.keys rows (state_of c.args.tables.now)) come c.in_ok-outcome.ensures.keys)

pub returns-clause-tight : goal.returns-clause-tight
returns-clause-tight g c = subst (λ (s : Sense). IsTight s (state_of c.args.tables.now)) (sym c.in_ok-part.ensures.sense) (c.in_ok-outcome.ensures.tight c.in_ok-pair.ensures.tight)
