use Rattle.std.proofs.Common.{List, ℕ, take}
use Rattle.std.specs.Prelude.{flat_map}
use Rattle.lt_model.specs.Variables.{literal_terms}
use Rattle.lt_check.specs.Taking.{IsWhole, Takes, Adds}
use Rattle.lt_check.proofs.Bodies.{all_say}
use Rattle.lt_check.proofs.taken.add_literals.Given as goal

abbrev pub invariant-loop-literal : goal.invariant-loop-literal
invariant-loop-literal l =
    Takes (flat_map literal_terms (take l.literal-index l.literals)) (all_say l.schema (take l.literal-index l.literals)) l.fn.notes l.notes
    × ((whole : List (List ℕ)) → IsWhole l.notes.names whole → Adds l.schema whole (take l.literal-index l.literals) l.fn.body l.body)
