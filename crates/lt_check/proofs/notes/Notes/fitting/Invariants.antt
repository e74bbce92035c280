use Rattle.std.proofs.Common.{◌≡◌, ℕ, List, map, take}
use Rattle.lt_model.specs.Check.{term, kind_of, same_kinds}
use Rattle.lt_check.specs.Taking.{IsWhole, Takes}
use Rattle.lt_check.proofs.notes.Notes.fitting.Given as goal

abbrev pub invariant-loop-i : goal.invariant-loop-i
invariant-loop-i l =
    Takes (take l.i l.terms) (λ whole choice. same_kinds (map (kind_of whole choice) (take l.i l.terms)) (take l.i l.columns)) l.fn.self l.self
    × ((whole : List (List ℕ)) → IsWhole l.self.names whole → l.list ≡ map (term whole) (take l.i l.terms))
