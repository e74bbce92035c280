-- What a walk goes by, and what it leaves below some keys.
use Rattle.std.specs.Prelude.{◌≡◌, ◌<◌, ◌≤◌, ◌+◌, ◌⊎◌, ℕ, Bool, true, false, List, [], ◌∷◌, ◌++◌, drop, length}
use Rattle.lt_face.specs.Lists.{IsIn}
use Rattle.lt_face.specs.State.{Row, State}
use Rattle.lt_model.specs.declared.normal.Term.{Term}
use Rattle.lt_model.specs.declared.normal.Body.{Body}
use Rattle.lt_model.specs.Answers.{Assignment, cells_of, holds}
use Rattle.lt_query.specs.declared.plans.Level.{Level}
use Rattle.lt_query.specs.declared.plans.Plan.{Plan}
use Rattle.lt_query.specs.Answering.{Stands, Lacks}
use Rattle.lt_query.specs.Plan.{Keys, IsPlanOf, keys_under}
use Rattle.lt_join.specs.declared.Found.{Found}
use Rattle.lt_join.specs.Certify.{IsWitness}
use Rattle.lt_join.specs.Cost.{GainsFewer}
use Rattle.lt_join.specs.Explored.{AgreeBelow, Explored, IsHopeless}
use Rattle.lt_join.specs.Holders.{IsPrepared, atoms_at}
use Rattle.lt_join.specs.Walked.{at, AreFoundUnder, FoundGrows, IsCollected, IsRight}

-- The state, a body and a plan of it, the terms that are asked for, whether the first answer suffices, and how many levels are wanted:
-- what lies below these adds no other row once one answer was found there.
pub record WayView : Type 0 where
  pub state : State
  pub body : Body
  pub plan : Plan
  pub terms : List Term
  pub first : Bool
  pub wanted : ℕ

-- assignments with the same keys at so many levels have the same cells of the terms
abbrev pub AreDecidedBy : List Level → ℕ → List Term → Type 0
AreDecidedBy levels wanted terms =
    (a b : Assignment) → AgreeBelow wanted (keys_under a levels) (keys_under b levels) → cells_of a terms ≡ cells_of b terms

-- an answer ends the walk below the levels that are wanted, which aren't all
abbrev pub EndsEarly : WayView → Type 0
EndsEarly way = (way.first ≡ false) × (way.wanted < length way.plan.levels)

-- the plan is the body's and can be walked for the terms, and the levels that are wanted decide these
pub record IsWay (way : WayView) : Type 0 where
  pub of_body : IsPlanOf way.body way.plan
  pub prepared : IsPrepared way.body way.plan way.terms
  pub at_first : way.first ≡ true → way.wanted ≡ 0
  pub decided : EndsEarly way → AreDecidedBy way.plan.levels way.wanted way.terms

-- the row of each answer with these keys at the levels before this one is there
abbrev pub AreAllFound : WayView → List Row → ℕ → Keys → Type 0
AreAllFound way rows l keys =
    (a : Assignment) → AgreeBelow l keys (keys_under a way.plan.levels) → holds a way.body ≡ true → Stands a way.body.atoms way.state → Lacks a way.body.absents way.state → IsIn (cells_of a way.terms) rows

-- why a walk leaves out what has these keys: nothing holds there, or it ends early and all that it would find there was found
abbrev pub IsLeftOut : {S : Type 0} → WayView → Found S → ℕ → Keys → Type 0
IsLeftOut way found l keys = IsHopeless way.body way.plan.levels l keys ⊎ (EndsEarly way × AreAllFound way found.rows l keys)

-- the levels below these keys are explored
abbrev pub IsExploredBelow : {S : Type 0} → WayView → Found S → List ℕ → Type 0
IsExploredBelow way found keys =
    Explored found.sense way.plan.guides (IsLeftOut way found) (IsCollected way.body way.plan way.terms found) (drop (length keys) way.plan.levels) (length keys) (at keys)

-- A walk below the keys went through all of it, or stopped at an answer: at the first, of which it adds no row; or where all that it
-- would find below the levels that are wanted was found.
pub record HasWalked {S : Type 0} (way : WayView) (keys : List ℕ) (old new : Found S) (begun now : ℕ) (stopped : Bool) : Type 0 where
  pub gains : GainsFewer old.sense new.sense begun now
  pub grows : FoundGrows old new
  pub right : IsRight way.body way.terms way.state new
  pub under : AreFoundUnder way.terms way.body way.plan way.state keys old new
  pub explored : (way.first ≡ false) ⊎ (stopped ≡ false) → IsExploredBelow way new keys
  pub met : stopped ≡ true → (row : Row) × IsWitness new.sense way.terms way.body way.state row
  pub asked : stopped ≡ true → (way.first ≡ true) ⊎ EndsEarly way
  pub deep : stopped ≡ true → way.wanted ≤ length keys
  pub all : stopped ≡ true → way.first ≡ false → AreAllFound way new.rows way.wanted (at keys)
  pub unfound : way.first ≡ true → new.rows ≡ old.rows

-- what lies below one more key was walked: all of it, or all that is wanted there
pub record HasExplored {S : Type 0} (way : WayView) (keys : List ℕ) (key : ℕ) (old new : Found S) (began now : ℕ) : Type 0 where
  pub grows : FoundGrows old new
  pub right : IsRight way.body way.terms way.state new
  pub under : AreFoundUnder way.terms way.body way.plan way.state (keys ++ key ∷ []) old new
  pub explored : IsExploredBelow way new (keys ++ key ∷ [])
  pub gaps : length new.sense.gaps + began ≤ length old.sense.gaps + now
  pub hits : length new.sense.hits + began ≤ length old.sense.hits + now + length (atoms_at way.plan.guides (length keys))
  pub unfound : way.first ≡ true → new.rows ≡ old.rows
