-- Runs of rows in lists of entries.
use Rattle.std.proofs.Common.{◌≡◌, ℕ, suc, ◌-◌, ◌<◌, length, get_or, take, drop, slice_get, List, [], ◌∷◌, ◌++◌, sym, ap, ◌∙◌, arith, append_assoc}
use Rattle.std.proofs.lemmas.List.{append-nil, take_rest}
use Rattle.lt_face.specs.Rows.{IsRun}
use Rattle.lt_face.proofs.Walked.{first_dropped}
use Rattle.lt_shared.specs.Entries.{joined}
use Rattle.lt_shared.proofs.Joins.{joined-at}

-- what follows one another in one entry follows one another in all
pub run-at : {X : Type 0} (f : X → List (List ℕ)) (xs : List X) (at : ℕ) (x : X) (run : List (List ℕ)) → at < length xs → x ≡ get_or xs at x → IsRun (f x) run → IsRun (joined f xs) run
run-at f xs at x run lt is here =
    let before = joined f (take at xs) in
    let after = joined f (drop (suc at) xs) in
    record {
      before = before ++ here.before;
      after = here.after ++ after;
      whole = joined-at f xs at x lt is ∙ ap (λ t. before ++ (t ++ after)) here.whole ∙ parts before here.before run here.after after;
    }
  where
    parts : (a b r d c : List (List ℕ)) → a ++ ((b ++ (r ++ d)) ++ c) ≡ (a ++ b) ++ (r ++ (d ++ c))
    parts a b r d c =
        ap (λ t. a ++ t) (append_assoc b (r ++ d) c ∙ ap (λ t. b ++ t) (append_assoc r d c)) ∙ sym (append_assoc a b (r ++ (d ++ c)))

pub run-all : (rows : List (List ℕ)) → IsRun rows rows
run-all rows = record { before = []; after = []; whole = sym (append-nil rows) }

-- the first of those from a place on
pub head_within : (at : ℕ) (rows : List (List ℕ)) → slice_get (take (length rows - at) (drop at rows)) 0 ≡ slice_get rows at
head_within at rows = ap (λ t. slice_get t 0) (take_rest rows at) ∙ first_dropped at rows

-- what begins with the first row of the first entry begins with the first of all
pub head-first : {X : Type 0} (f : X → List (List ℕ)) (xs : List X) (x : X) (run : List (List ℕ)) → 0 < length xs → x ≡ get_or xs 0 x → 0 < length run → slice_get run 0 ≡ slice_get (f x) 0
    → slice_get run 0 ≡ slice_get (joined f xs) 0
head-first f [] x run lt is some e = absurd (omega arith)
head-first f (y ∷ ys) x run lt is some e = before (f y) run some (e ∙ ap (λ t. slice_get (f t) 0) is)
  where
    before : (rows run : List (List ℕ)) → 0 < length run → slice_get run 0 ≡ slice_get rows 0 → slice_get run 0 ≡ slice_get (rows ++ joined f ys) 0
    before rows [] some e = absurd (omega arith)
    before [] (r ∷ run) some e = absurd cc
    before (z ∷ rows) (r ∷ run) some e = e
