use Rattle.std.specs.Prelude.{◌≡◌, ◌<◌, true}
use Rattle.std.specs.List.{list_all}
use Rattle.lt_face.specs.Keys.{end_key}
use Rattle.lt_model.specs.Answers.{Assignment, passes}
use Rattle.lt_join.specs.Narrowed.{AgreesWith, IsInRange}
use Rattle.lt_join.proofs.narrowing.Above.left_by_all.Given as goal

abbrev pub invariant-loop-test : goal.invariant-loop-test
invariant-loop-test l = (a : Assignment) → AgreesWith l.self a → list_all (passes a) l.tests ≡ true → a l.v < end_key → IsInRange l.range (a l.v)
