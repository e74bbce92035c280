use Rattle.lt_join.proofs.PartsAtKey.{part_some, part_none}
use Rattle.lt_join.proofs.noting.add_part.Goals as goal
