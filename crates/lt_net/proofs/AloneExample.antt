-- Two leaves, the first deletes a row and the second inserts it: what a worker alone does, by computation.
use Rattle.std.proofs.Common.{◌≡◌, ℕ, zero, suc, true, false, List, [], ◌∷◌, refl}
use Rattle.lt_model.specs.declared.mark.Mark.{Mark}
use Rattle.lt_net.specs.Same.{same_marks}
use Rattle.lt_net.specs.declared.job.JobName.TheVariants.{Leaf, Merge, Correct}
use Rattle.lt_net.specs.Net.{Correction, Effect, Net, Claims, Finishes, opening}
use Rattle.lt_net.specs.Codes.{code_of}
use Rattle.lt_net.specs.Alone.{net_over, settled_alone, alone_events}

abbrev gone : Mark
gone = record { relation = 0; row = 1 ∷ []; plus = false }

abbrev come : Mark
come = record { relation = 0; row = 1 ∷ []; plus = true }

abbrev effect : ℕ → List Mark → List Mark
effect i c = elim i [ zero ↦ gone ∷ [] | suc j ↦ come ∷ [] ]

abbrev net : Net
net = net_over effect 2

events : alone_events net 2 (opening net)
    ≡ Claims 0 (code_of (Leaf 0)) ∷ Finishes 0 (code_of (Leaf 0)) ∷ Claims 0 (code_of (Merge 0)) ∷ Finishes 0 (code_of (Merge 0))
    ∷ Claims 0 (code_of (Correct 0)) ∷ Finishes 0 (code_of (Correct 0)) ∷ Claims 0 (code_of (Leaf 1)) ∷ Finishes 0 (code_of (Leaf 1))
    ∷ Claims 0 (code_of (Merge 0)) ∷ Finishes 0 (code_of (Merge 0)) ∷ []
unfolding same_marks
events = refl

root_effect : (settled_alone net 2 (opening net)).value (Effect 0) ≡ come ∷ []
unfolding same_marks
root_effect = refl

passed_on : (settled_alone net 2 (opening net)).value (Correction 2) ≡ gone ∷ []
unfolding same_marks
passed_on = refl
