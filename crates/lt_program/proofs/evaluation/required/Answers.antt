use Rattle.std.proofs.Common.{sym, subst}
use Rattle.lt_base.specs.Tables.{state_of}
use Rattle.lt_sense.specs.Kept.{Sense}
use Rattle.lt_sense.specs.Sense.{IsTight}
use Rattle.lt_join.specs.Certify.{Vouches}
use Rattle.lt_program.proofs.evaluation.required.Goals as goal

pub returns-clause-vouched : goal.returns-clause-vouched
returns-clause-vouched g c = subst (λ (s : Sense). Vouches s c.args.body.now (state_of c.args.tables.now)) (sym c.in_ok-part.ensures.sense) c.in_ok-told.ensures.vouched

pub returns-clause-tight : goal.returns-clause-tight
returns-clause-tight g c = subst (λ (s : Sense). IsTight s (state_of c.args.tables.now)) (sym c.in_ok-part.ensures.sense) c.in_ok-told.ensures.tight
