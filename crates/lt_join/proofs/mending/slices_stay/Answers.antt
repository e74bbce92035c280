use Rattle.lt_join.proofs.MendLaws.{stay_slices}
use Rattle.lt_join.proofs.mending.slices_stay.Goals as goal

pub returns : goal.returns
returns c = stay_slices
