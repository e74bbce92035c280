use Rattle.std.proofs.Common.{◌≡◌, subst}
use Rattle.lt_sense.specs.Gathered.{IsAskable}
use Rattle.lt_sense.specs.Kept.{Sense}
use Rattle.lt_sense.specs.Sense.{covers}
use Rattle.lt_program.proofs.KeptSlices.{kept_is}
use Rattle.lt_program.proofs.part.Part.covers.Goals as goal

pub returns : goal.returns
returns c =
    subst (λ (s : Sense). IsAskable s c.args.relation c.args.row.now → c.covers.result ≡ covers s c.args.relation c.args.row.now)
    (kept_is c.self.inside.outcome c.self.inside.certificate c.args.self.now c.self.view_is) c.covers.ensures
