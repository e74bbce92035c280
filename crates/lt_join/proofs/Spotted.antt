-- What root gaps or a slice cover, all together cover.
use Rattle.std.specs.Prelude.{◌≡◌, ℕ, true, List}
use Rattle.lt_face.specs.Lists.{IsIn}
use Rattle.lt_face.specs.State.{Row}
use Rattle.lt_sense.specs.Kept.{Sense}
use Rattle.lt_sense.specs.Sense.{covers}
use Rattle.lt_join.specs.Slices.{Slice}
use Rattle.lt_join.specs.Sliced.{united}
use Rattle.lt_join.proofs.SliceLaws.{grows_root, grows_slice}
use Rattle.lt_join.proofs.Steps.{covers_grows}

pub covered_root : (root : Sense) (slices : List Slice) (relation : ℕ) (row : Row) → covers root relation row ≡ true → covers (united root slices) relation row ≡ true
covered_root root slices relation row h = covers_grows root (united root slices) (grows_root root slices) relation row h

pub covered_slice : (root : Sense) (slices : List Slice) (slice : Slice) → IsIn slice slices → (relation : ℕ) (row : Row) → covers slice.sense relation row ≡ true → covers (united root slices) relation row ≡ true
covered_slice root slices slice at relation row h = covers_grows slice.sense (united root slices) (grows_slice root slices slice at) relation row h
