-- What of a line was handed on.
use Rattle.std.specs.Prelude.{◌≡◌, ℕ, zero, suc, ◌+◌, ◌<◌, ◌≤◌, List, [], ◌∷◌, ◌++◌, Some, length}
use Rattle.lt_model.specs.declared.mark.Mark.{Mark}
use Rattle.lt_net.specs.Line.{line_net, placed, AreSizes, IsPast}
use Rattle.lt_net.specs.Net.{Effect, Event, State, IsReached}
use Rattle.lt_turn.specs.declared.view.View.{View}
use Rattle.lt_workers.specs.declared.basis.LineBasis.{LineBasis}
use Rattle.lt_workers.specs.Machines.{line_net_of}
use Rattle.lt_workers.specs.Seen.{reached, IsOfBasis, Knows}

-- the effects of all leaves of each of the first segments
abbrev pub roots : State → ℕ → List (List Mark)
roots s zero = []
roots s (suc k) = roots s k ++ s.value (placed k (Effect 0)) ∷ []

-- those of so many segments were handed on, in a state in which these segments are past
pub record HasGiven (sizes : List ℕ) (before after : List (List Mark)) (count : ℕ) (s : State) : Type 0 where
  pub within : count ≤ length sizes
  pub past : IsPast count s
  pub given : after ≡ before ++ roots s count

-- what was handed on before stays so in the later state, with more of it or as much
abbrev pub Gives : (sizes : List ℕ) → (s t : State) → (old new : List (List Mark)) → (count more : ℕ) → Type 0
Gives sizes s t old new count more = (before : List (List Mark)) → HasGiven sizes before old count s → HasGiven sizes before new more t

-- so it is in some state that the line reaches
pub record GaveSome (does : ℕ → List Mark → List Mark) (sizes : List ℕ) (before after : List (List Mark)) : Type 0 where
  pub count : ℕ
  pub events : List Event
  pub state : State
  pub reached : IsReached (line_net does sizes) events state
  pub gave : HasGiven sizes before after count state

-- this segment is past, and this is its root effect
pub record IsPassed (sizes : List ℕ) (s : State) (segment : ℕ) (effect : List Mark) : Type 0 where
  pub within : segment < length sizes
  pub past : IsPast (segment + 1) s
  pub value : effect ≡ s.value (placed segment (Effect 0))

module _ {W : Type 0} (does : W → ℕ → List Mark → List Mark) where
  -- a beginning of the journal that the seat has seen leads to a state in which these segments are past, and their root effects
  -- were handed on
  pub record HasSeenGiven (v : View (LineBasis W)) (before after : List (List Mark)) (count : ℕ) : Type 0 where
    pub basis : LineBasis W
    pub log : List (ℕ × ℕ)
    pub rest : List (ℕ × ℕ)
    pub state : State
    pub opening : v.opening ≡ Some basis
    pub seen : v.seen ≡ log ++ rest
    pub reaches : reached (line_net_of does) (Some basis) log ≡ Some state
    pub gave : HasGiven basis.sizes before after count state

  -- what was handed on stays so while the seat sees more, with more of it or as much
  abbrev pub GivesOn : (v w : View (LineBasis W)) → (old new : List (List Mark)) → (count more : ℕ) → Type 0
  GivesOn v w old new count more = (before : List (List Mark)) → HasSeenGiven v before old count → HasSeenGiven w before new more

  -- the seat has seen that this segment is past, and that this is its root effect
  pub record IsFinal (fits : W → List Mark → Type 0) (v : View (LineBasis W)) (segment : ℕ) (effect : List Mark) : Type 0 where
    pub basis : LineBasis W
    pub state : State
    pub opening : v.opening ≡ Some basis
    pub known : reached (line_net_of does) (Some basis) v.seen ≡ Some state
    pub small : AreSizes basis.sizes
    pub passed : IsPassed basis.sizes state segment effect
    pub fit : fits basis.work effect

  -- as far as the seat has seen, this segment isn't past
  abbrev pub IsAhead : View (LineBasis W) → ℕ → Type 0
  IsAhead v segment = (s : State) → Knows (line_net_of does) v s → IsOfBasis v (λ b. segment < length b.sizes → IsPast (segment + 1) s → ⊥)
