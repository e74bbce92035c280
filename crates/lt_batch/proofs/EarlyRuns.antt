-- Runs of programs on the snapshot that are there before a circuit starts.
use Rattle.std.proofs.Common.{◌≡◌, ℕ, List, [], ◌∷◌, ◌++◌, length, Option, None, sym, ap, ◌∙◌, inl, inr, subst, arith}
use Rattle.std.specs.Prelude.{IfSome}
use Rattle.std.proofs.lemmas.Bool.{cases_lt}
use Rattle.std.proofs.lemmas.List.{get_or_append_left, length-append}
use Rattle.std.proofs.Math.ListN.{get_or-eq_default}
use Rattle.std.proofs.Math.Seq.{get_or-append_seam}
use Rattle.lt_face.specs.State.{State}
use Rattle.lt_model.specs.declared.normal.Stmt.{Stmt}
use Rattle.lt_batch.specs.declared.leaf.LeafTally.{LeafTally}
use Rattle.lt_batch.specs.Batch.{program_at}
use Rattle.lt_batch.specs.Early.{AreEarly, early_of}
use Rattle.lt_batch.specs.LeafRun.{IsRunOn}

-- the run of a program on the snapshot, if it was made
abbrev pub IsEarly : State → List Stmt → Option LeafTally → Type 0
IsEarly s program x = IfSome x (IsRunOn program s [])

pub none_early : (s : State) (programs : List (List Stmt)) → AreEarly s programs []
none_early s programs = λ i. tt

-- the run of the next program
pub early_more : (s : State) (programs : List (List Stmt)) (all : List (Option LeafTally)) (x : Option LeafTally) (n : ℕ) (program : List Stmt)
    → AreEarly s programs all → length all ≡ n → program_at programs n ≡ program → IsEarly s program x → AreEarly s programs (all ++ x ∷ [])
early_more s programs all x n program are long is one = λ i. elim (cases_lt i n) [
  | inl lt ↦ subst (IsEarly s (program_at programs i)) (sym (get_or_append_left all (x ∷ []) None i (omega (arith, lt, long)))) (are i)
  | inr ge ↦ elim (cases_lt n i) [
    | inl gt ↦
        let most = length-append all (x ∷ []) in
        subst (IsEarly s (program_at programs i)) (sym (get_or-eq_default (all ++ x ∷ []) None (omega (arith, gt, long, most)))) tt
    | inr le ↦
        let here : i ≡ length all = omega (arith, ge, le, long) in
        let own : IsEarly s (program_at programs (length all)) x = subst (λ (p : List Stmt). IsEarly s p x) (sym (ap (program_at programs) long ∙ is)) one in
        subst (λ j. IsEarly s (program_at programs j) (early_of (all ++ x ∷ []) j)) (sym here) (subst (IsEarly s (program_at programs (length all))) (sym (get_or-append_seam all x [] None)) own)
  ]
]
