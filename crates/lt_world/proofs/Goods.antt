-- The programs without a code, one judgement after another.
use Rattle.std.proofs.Common.{◌≡◌, ℕ, zero, suc, ◌+◌, ◌<◌, List, [], ◌∷◌, ◌++◌, length, map, take, get_or, add-one, sym, ap, arith}
use Rattle.std.specs.Prelude.{filter_map}
use Rattle.lt_model.specs.declared.normal.Stmt.{Stmt}
use Rattle.lt_model.specs.Check.{Checked, Good, Bad}
use Rattle.lt_model.specs.Report.{good_of}
use Rattle.lt_world.specs.declared.batch.Judgement.{Judgement}
use Rattle.lt_world.specs.Batches.{checked_of}

abbrev pub goods : List Checked → List (List Stmt)
goods checks = filter_map good_of checks

-- those of the first i judgements and of the next
pub one_good_more : (judgements : List Judgement) (i : ℕ) (j : Judgement) → i < length judgements → j ≡ get_or judgements i j → goods (map checked_of (take (i + 1) judgements)) ≡ goods (map checked_of (take i judgements)) ++ goods (checked_of j ∷ [])
one_good_more judgements i j below at = rw add-one (go judgements i below at)
  where
    front : (c : Checked) (cs ds : List Checked) → goods cs ≡ goods ds ++ goods (checked_of j ∷ []) → goods (c ∷ cs) ≡ goods (c ∷ ds) ++ goods (checked_of j ∷ [])
    front (Good prog) cs ds e = ap (λ (ps : List (List Stmt)). prog ∷ ps) e
    front (Bad code statement) cs ds e = e

    go : (js : List Judgement) (k : ℕ) → k < length js → j ≡ get_or js k j → goods (map checked_of (take (suc k) js)) ≡ goods (map checked_of (take k js)) ++ goods (checked_of j ∷ [])
    go [] k lt is = absurd (omega (arith, lt))
    go (x ∷ js) zero lt is = ap (λ (y : Judgement). goods (checked_of y ∷ [])) (sym is)
    go (x ∷ js) (suc k) lt is = front (checked_of x) (map checked_of (take (suc k) js)) (map checked_of (take k js)) (go js k (omega (arith, lt)) is)
