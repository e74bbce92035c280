-- A sense that gains gaps and hits stands for what it stood for.
use Rattle.std.proofs.Common.{List, [], ◌∷◌, inl, inr}
use Rattle.std.specs.List.{AllByRecursion}
use Rattle.lt_face.specs.Lists.{AnyByRecursion}
use Rattle.lt_face.specs.State.{State}
use Rattle.lt_model.specs.declared.normal.Atom.{Atom}
use Rattle.lt_model.specs.declared.normal.Body.{Body}
use Rattle.lt_model.specs.Answers.{Assignment, cells_of}
use Rattle.lt_sense.specs.Kept.{Sense}
use Rattle.lt_join.specs.Certify.{IsMet, IsMissed, Certifies}
use Rattle.lt_join.specs.Walked.{Grows}
use Rattle.lt_join.proofs.Steps.{covers_grows, met_grows}

module _ (s t : Sense) (grows : Grows s t) (state : State) (a : Assignment) where
  one_met : (atom : Atom) → IsMet s state a atom → IsMet t state a atom
  one_met atom h = (h.0, covers_grows s t grows atom.relation (cells_of a atom.terms) h.1)

  one_missed : (atom : Atom) → IsMissed s state a atom → IsMissed t state a atom
  one_missed atom h = (h.0, covers_grows s t grows atom.relation (cells_of a atom.terms) h.1)

  all_missed : (atoms : List Atom) → AllByRecursion (IsMissed s state a) atoms → AllByRecursion (IsMissed t state a) atoms
  all_missed [] h = tt
  all_missed (atom ∷ atoms) h = (one_missed atom h.0, all_missed atoms h.1)

  any_missed : (atoms : List Atom) → AnyByRecursion (IsMissed s state a) atoms → AnyByRecursion (IsMissed t state a) atoms
  any_missed [] h = h
  any_missed (atom ∷ atoms) h = elim h [ inl m ↦ inl (one_missed atom m) | inr k ↦ inr (any_missed atoms k) ]

  any_met : (atoms : List Atom) → AnyByRecursion (IsMet s state a) atoms → AnyByRecursion (IsMet t state a) atoms
  any_met [] h = h
  any_met (atom ∷ atoms) h = elim h [ inl m ↦ inl (one_met atom m) | inr k ↦ inr (any_met atoms k) ]

pub certified_grows : (s t : Sense) → Grows s t → (body : Body) (state : State) → Certifies s body state → Certifies t body state
certified_grows s t grows body state h a holds =
    elim (h a holds) [
      | inl met ↦ inl (met_grows s t grows state a body.atoms met.0, all_missed s t grows state a body.absents met.1)
      | inr other ↦ elim other [ inl missed ↦ inr (inl (any_missed s t grows state a body.atoms missed)) | inr met ↦ inr (inr (any_met s t grows state a body.absents met)) ]
    ]
