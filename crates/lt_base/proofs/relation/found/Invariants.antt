use Rattle.std.proofs.Common.{◌≡◌, take, map, false}
use Rattle.std.specs.List.{list_any}
use Rattle.lt_face.specs.State.{row_eq}
use Rattle.lt_base.specs.declared.index.Index.{Index}
use Rattle.lt_base.proofs.relation.found.Given as goal

abbrev pub invariant-loop-index : goal.invariant-loop-index
invariant-loop-index l = list_any (row_eq l.perm) (map (λ (i : Index). i.columns) (take l.index-index l.others)) ≡ false
