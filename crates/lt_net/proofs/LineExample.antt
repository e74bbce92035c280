-- Two segments of one leaf each: the first inserts a row, the second reads. Worker 0 ends the jobs 2048, 0, 2047 and 2048. By
-- computation.
use Rattle.std.proofs.Common.{◌≡◌, ℕ, zero, suc, true, List, [], ◌∷◌, map, Option, Some, refl, take}
use Rattle.std.specs.Option.{option_map}
use Rattle.lt_model.specs.declared.mark.Mark.{Mark}
use Rattle.lt_net.specs.Same.{same_marks}
use Rattle.lt_net.specs.declared.job.JobState.{JobState}
use Rattle.lt_net.specs.declared.job.JobState.TheVariants.{Clean, Pending}
use Rattle.lt_net.specs.declared.job.JobName.TheVariants.{Leaf}
use Rattle.lt_net.specs.Net.{Correction, Effect, Net, State, Event, Claims, Finishes, replay, opening}
use Rattle.lt_net.specs.Line.{Own, Pass, line_code, line_net}

abbrev come : Mark
come = record { relation = 0; row = 1 ∷ []; plus = true }

abbrev effect : ℕ → List Mark → List Mark
effect i c = elim i [ zero ↦ come ∷ [] | suc j ↦ [] ]

abbrev net : Net
net = line_net effect (1 ∷ 1 ∷ [])

first : line_code (Own 0 (Leaf 0)) ≡ 0
first = refl

second : line_code (Own 1 (Leaf 0)) ≡ 2048
second = refl

passing : line_code (Pass 0) ≡ 2047
passing = refl

abbrev events : List Event
events =
    Claims 0 2048 ∷ Finishes 0 2048 ∷ Claims 0 0 ∷ Finishes 0 0 ∷ Claims 0 2047 ∷ Finishes 0 2047 ∷ Claims 0 2048 ∷ Finishes 0 2048 ∷ []

-- the first leaf, the Pass, the second leaf, and two codes that are no jobs
abbrev states : ℕ → Option (List JobState)
states n = option_map (λ (s : State). map s.status (0 ∷ 2047 ∷ 2048 ∷ 1 ∷ 4095 ∷ [])) (replay net (Some (opening net)) (take n events))

at_0 : states 0 ≡ Some (Pending ∷ Pending ∷ Pending ∷ Clean ∷ Clean ∷ [])
unfolding same_marks
at_0 = refl

-- the front is 0: the first leaf is to be done
at_2 : states 2 ≡ Some (Pending ∷ Pending ∷ Clean ∷ Clean ∷ Clean ∷ [])
unfolding same_marks
at_2 = refl

-- it is 1: the first segment is done, and no Pass stands before it
at_4 : states 4 ≡ Some (Clean ∷ Pending ∷ Clean ∷ Clean ∷ Clean ∷ [])
unfolding same_marks
at_4 = refl

-- it is 1 still: the second leaf has another correction
at_6 : states 6 ≡ Some (Clean ∷ Clean ∷ Pending ∷ Clean ∷ Clean ∷ [])
unfolding same_marks
at_6 = refl

-- it is 2
at_8 : states 8 ≡ Some (Clean ∷ Clean ∷ Clean ∷ Clean ∷ Clean ∷ [])
unfolding same_marks
at_8 = refl

given : option_map (λ (s : State). s.value (Effect 0) ∷ s.value (Correction 512) ∷ s.value (Effect 512) ∷ []) (replay net (Some (opening net)) events)
    ≡ Some ((come ∷ []) ∷ (come ∷ []) ∷ [] ∷ [])
unfolding same_marks
given = refl

last : option_map (λ (s : State). s.done 2048) (replay net (Some (opening net)) events) ≡ Some (Some (come ∷ []))
unfolding same_marks
last = refl
