-- Two leaves: the first deletes a row, the second inserts it. By computation.
use Rattle.std.proofs.Common.{◌≡◌, ℕ, zero, suc, true, false, List, [], ◌∷◌, map, Option, Some, None, refl, take}
use Rattle.std.specs.Option.{option_map}
use Rattle.lt_model.specs.declared.mark.Mark.{Mark}
use Rattle.lt_net.specs.Same.{same_marks}
use Rattle.lt_net.specs.declared.job.JobState.{JobState}
use Rattle.lt_net.specs.declared.job.JobState.TheVariants.{Clean, Pending, Running, Dirty}
use Rattle.lt_net.specs.declared.job.JobName.TheVariants.{Leaf, Merge, Correct}
use Rattle.lt_net.specs.Net.{Correction, Effect, Net, State, Event, Claims, Finishes, replay, opening}
use Rattle.lt_net.specs.Tree.{circuit_net, tree_of}
use Rattle.lt_net.specs.Codes.{code_of}

abbrev gone : Mark
gone = record { relation = 0; row = 1 ∷ []; plus = false }

abbrev come : Mark
come = record { relation = 0; row = 1 ∷ []; plus = true }

abbrev effect : ℕ → List Mark → List Mark
effect i c = elim i [ zero ↦ gone ∷ [] | suc j ↦ come ∷ [] ]

abbrev net : Net
net = circuit_net effect (tree_of 2)

abbrev events : List Event
events =
    Claims 0 (code_of (Leaf 0)) ∷ Claims 1 (code_of (Leaf 1)) ∷ Finishes 0 (code_of (Leaf 0)) ∷ Claims 0 (code_of (Merge 0))
    ∷ Finishes 1 (code_of (Leaf 1)) ∷ Finishes 0 (code_of (Merge 0)) ∷ Claims 1 (code_of (Correct 0)) ∷ Finishes 1 (code_of (Correct 0))
    ∷ Claims 0 (code_of (Merge 0)) ∷ Finishes 0 (code_of (Merge 0)) ∷ Claims 1 (code_of (Leaf 1)) ∷ Finishes 1 (code_of (Leaf 1)) ∷ []

abbrev after : ℕ → (State → List (List Mark)) → Option (List (List Mark))
after n f = option_map f (replay net (Some (opening net)) (take n events))

abbrev states : ℕ → Option (List JobState)
states n = option_map (λ (s : State). map s.status (0 ∷ 1 ∷ 2 ∷ 3 ∷ [])) (replay net (Some (opening net)) (take n events))

at_2 : states 2 ≡ Some (Running ∷ Clean ∷ Clean ∷ Running ∷ [])
unfolding same_marks
at_2 = refl

at_3 : states 3 ≡ Some (Clean ∷ Pending ∷ Pending ∷ Running ∷ [])
unfolding same_marks
at_3 = refl

-- a claim that is made then captures what stands: the first leaf's effect, and the second one's that is still empty
captured_4 : after 4 (λ s. elim (s.claim 0) [ None ↦ [] | Some c ↦ c.inputs ]) ≡ Some ((gone ∷ []) ∷ [] ∷ [])
unfolding same_marks
captured_4 = refl

at_5 : states 5 ≡ Some (Clean ∷ Dirty ∷ Pending ∷ Clean ∷ [])
unfolding same_marks
at_5 = refl

at_6 : states 6 ≡ Some (Clean ∷ Pending ∷ Pending ∷ Clean ∷ [])
unfolding same_marks
at_6 = refl

effects_6 : after 6 (λ s. s.value (Effect 0) ∷ s.value (Correction 2) ∷ []) ≡ Some ((gone ∷ []) ∷ [] ∷ [])
unfolding same_marks
effects_6 = refl

at_8 : states 8 ≡ Some (Clean ∷ Pending ∷ Clean ∷ Pending ∷ [])
unfolding same_marks
at_8 = refl

at_10 : states 10 ≡ Some (Clean ∷ Clean ∷ Clean ∷ Pending ∷ [])
unfolding same_marks
at_10 = refl

effect_10 : after 10 (λ s. s.value (Effect 0) ∷ []) ≡ Some ((come ∷ []) ∷ [])
unfolding same_marks
effect_10 = refl

at_12 : states 12 ≡ Some (Clean ∷ Clean ∷ Clean ∷ Clean ∷ [])
unfolding same_marks
at_12 = refl

effects_12 : after 12 (λ s. s.value (Effect 0) ∷ s.value (Effect 1) ∷ s.value (Effect 2) ∷ s.value (Correction 1) ∷ s.value (Correction 2) ∷ [])
    ≡ Some ((come ∷ []) ∷ (gone ∷ []) ∷ (come ∷ []) ∷ [] ∷ (gone ∷ []) ∷ [])
unfolding same_marks
effects_12 = refl
