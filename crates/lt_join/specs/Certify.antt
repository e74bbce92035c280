-- When a sense stands for the answers.
use Rattle.std.specs.Prelude.{◌≡◌, true, false, List, ◌⊎◌}
use Rattle.std.specs.List.{AllByRecursion}
use Rattle.lt_model.specs.declared.normal.Term.{Term}
use Rattle.lt_model.specs.declared.normal.Atom.{Atom}
use Rattle.lt_model.specs.declared.normal.Body.{Body}
use Rattle.lt_sense.specs.Kept.{Sense}
use Rattle.lt_sense.specs.declared.covering.KeptGap.{KeptGap}
use Rattle.lt_sense.specs.declared.covering.Hit.{Hit}
use Rattle.lt_model.specs.Answers.{Assignment, cells_of, holds, some_answer}
use Rattle.lt_face.specs.Lists.{IsIn, AnyByRecursion}
use Rattle.lt_face.specs.State.{Row, State, Has}
use Rattle.lt_sense.specs.Sense.{covers, gap_covers}

abbrev pub IsMet : Sense → State → Assignment → Atom → Type 0
IsMet sense state a atom = Has state atom.relation (cells_of a atom.terms) × (covers sense atom.relation (cells_of a atom.terms) ≡ true)

abbrev pub IsMissed : Sense → State → Assignment → Atom → Type 0
IsMissed sense state a atom = (Has state atom.relation (cells_of a atom.terms) → ⊥) × (covers sense atom.relation (cells_of a atom.terms) ≡ true)

-- of each assignment that holds, all rows are in the state and covered, and all absent rows are absent and covered; or one of
-- its rows is absent and covered; or one of its absent rows is in the state and covered
abbrev pub Certifies : Sense → Body → State → Type 0
Certifies sense body state =
    (a : Assignment) → holds a body ≡ true →
    (AllByRecursion (IsMet sense state a) body.atoms × AllByRecursion (IsMissed sense state a) body.absents)
    ⊎ (AnyByRecursion (IsMissed sense state a) body.atoms ⊎ AnyByRecursion (IsMet sense state a) body.absents)

-- one assignment that holds has all its rows in the state and covered, and all its absent rows absent and covered
abbrev pub Witnesses : Sense → Body → State → Type 0
Witnesses sense body state =
    (a : Assignment) × (holds a body ≡ true) × AllByRecursion (IsMet sense state a) body.atoms × AllByRecursion (IsMissed sense state a) body.absents

-- the same, with the cells of terms
abbrev pub IsWitness : Sense → List Term → Body → State → Row → Type 0
IsWitness sense terms body state row =
    (a : Assignment) × (holds a body ≡ true) × AllByRecursion (IsMet sense state a) body.atoms × (cells_of a terms ≡ row) × AllByRecursion (IsMissed sense state a) body.absents

-- ---- what was looked up

-- the atom's row lies in a gap
abbrev pub IsGapped : Sense → Assignment → Atom → Type 0
IsGapped sense a atom = (gap : KeptGap) × IsIn gap sense.gaps × (gap_covers gap atom.relation (cells_of a atom.terms) ≡ true)

-- the atom's row is a hit
abbrev pub IsHitOf : Sense → Assignment → Atom → Type 0
IsHitOf sense a atom = (hit : Hit) × IsIn hit sense.hits × (hit.relation ≡ atom.relation) × (hit.row ≡ cells_of a atom.terms)

-- a true answer has an assignment that shows it, and a false one is certified
pub record Vouches (sense : Sense) (body : Body) (state : State) : Type 0 where
  pub when_true : some_answer body state ≡ true → Witnesses sense body state
  pub when_false : some_answer body state ≡ false → Certifies sense body state
