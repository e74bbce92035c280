use Rattle.std.proofs.Common.{◌≡◌, map, take}
use Rattle.lt_model.specs.Forms.{put, on_normal}
use Rattle.lt_query.proofs.filling.filled_terms.Given as goal

abbrev pub invariant-loop-term : goal.invariant-loop-term
invariant-loop-term l = l.list ≡ map (on_normal (put l.cells)) (take l.term-index l.terms)
