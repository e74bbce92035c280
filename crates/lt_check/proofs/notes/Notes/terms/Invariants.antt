use Rattle.std.proofs.Common.{◌≡◌, ℕ, true, List, map, take}
use Rattle.lt_model.specs.Check.{term}
use Rattle.lt_check.specs.Taking.{IsWhole, Takes}
use Rattle.lt_check.proofs.notes.Notes.terms.Given as goal

abbrev pub invariant-loop-term : goal.invariant-loop-term
invariant-loop-term l =
    Takes (take l.term-index l.terms) (λ whole choice. true) l.fn.self l.self
    × ((whole : List (List ℕ)) → IsWhole l.self.names whole → l.list ≡ map (term whole) (take l.term-index l.terms))
