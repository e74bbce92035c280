-- The lines of batches, written one after another.
use Rattle.std.proofs.Common.{◌≡◌, ℕ, Bool, ◌+◌, ◌≤◌, ◌<◌, List, [], ◌∷◌, ◌++◌, length, map, drop, get_or, zero, suc, refl, sym, ap, subst, ◌∙◌, append_assoc, append-nil, arith}
use Rattle.std.specs.Prelude.{Option}
use Rattle.std.specs.Global.{Vec}
use Rattle.std.specs.Io.KnownBytes.{Appends}
use Rattle.lt_model.specs.declared.syntax.Program.{Program}
use Rattle.lt_model.specs.declared.reply.Reply.{Reply}
use Rattle.lt_model.specs.Marks.{Marks}
use Rattle.lt_model.specs.Schema.{Schema}
use Rattle.lt_model.specs.Report.{Text, batch_text, version_text}
use Rattle.lt_report.proofs.Going.{Did, did_more, did_none}
use Rattle.lt_world.specs.declared.batch.Judgement.{Judgement}
use Rattle.lt_world.specs.Batches.{checked_of, told, HasAnswers}
use Rattle.lt_world.specs.Lines.{checks_of, line_text, HaveAnswers}
use Rattle.lt_world.proofs.Telling.{split}

abbrev Bytes : Type 0
Bytes = Option (List ℕ)

-- each batch has its place in each list
pub enough : (schema : Schema) (batches : List (List Program)) (judgements : List (Vec Judgement)) (replies : List (List Reply)) (effects : List (List Marks)) → HaveAnswers schema batches judgements replies effects
    → (length batches ≤ length judgements) × (length batches ≤ length replies) × (length batches ≤ length effects)
enough schema [] judgements replies effects h = (omega arith, omega arith, omega arith)
enough schema (b ∷ batches) [] replies effects h = absurd h
enough schema (b ∷ batches) (j ∷ judgements) [] effects h = absurd h
enough schema (b ∷ batches) (j ∷ judgements) (r ∷ replies) [] h = absurd h
enough schema (b ∷ batches) (j ∷ judgements) (r ∷ replies) (e ∷ effects) h =
    let rest = enough schema batches judgements replies effects h.1 in
    (omega (arith, rest.0), omega (arith, rest.1), omega (arith, rest.2))

none_past : (xs : List (List Program)) (i : ℕ) → length xs ≤ i → drop i xs ≡ []
none_past [] zero past = refl
none_past [] (suc i) past = refl
none_past (x ∷ xs) zero past = absurd (omega (arith, past))
none_past (x ∷ xs) (suc i) past = none_past xs i (omega (arith, past))

module _ (marks : Bool) (schema : Schema) (number : ℕ) (batches : List (List Program)) (judgements : List (Vec Judgement)) (replies : List (List Reply)) (effects : List (List Marks)) where
  -- the lines of all batches, and those from batch i on
  abbrev pub whole : Text
  whole = line_text marks schema number batches (checks_of judgements) replies effects

  abbrev pub rest_from : ℕ → Text
  rest_from i = line_text marks schema (number + i) (drop i batches) (checks_of (drop i judgements)) (drop i replies) (drop i effects)

  -- the lines before those were written, and the batches behind have their answers
  pub record HasTold (a b : Bytes) (s t : ℕ) (i : ℕ) : Type 0 where
    pub front : Text
    pub did : Did a b s t front
    pub parts : whole ≡ front ++ rest_from i
    pub answers : HaveAnswers schema (drop i batches) (drop i judgements) (drop i replies) (drop i effects)

  -- before the first
  pub told_none : (a : Bytes) (s : ℕ) → HaveAnswers schema batches judgements replies effects → HasTold a a s s 0
  told_none a s answers = record {
    front = [];
    did = did_none a s;
    parts = let same : number ≡ number + 0 = omega arith in ap (λ n. line_text marks schema n batches (checks_of judgements) replies effects) same;
    answers = answers;
  }

  -- behind the last
  pub told_all : (a b : Bytes) (s t i : ℕ) (so_far : HasTold a b s t i) → length batches ≤ i → whole ≡ so_far.front
  told_all a b s t i so_far past =
      so_far.parts
      ∙ ap (λ (bs : List (List Program)). so_far.front ++ line_text marks schema (number + i) bs (checks_of (drop i judgements)) (drop i replies) (drop i effects)) (none_past batches i past)
      ∙ append-nil so_far.front

  module _ (a b : Bytes) (s t : ℕ) (i : ℕ) (p : List Program) (j : Vec Judgement) (r : List Reply) (e : List Marks) (so_far : HasTold a b s t i)
      (below : i < length batches) (at : p ≡ get_or batches i p) (j_below : i < length judgements) (j_at : j ≡ get_or judgements i j)
      (r_below : i < length replies) (r_at : r ≡ get_or replies i r) (e_below : i < length effects) (e_at : e ≡ get_or effects i e) where
    -- the answers of this batch, and of those behind it
    pub answers_here : HasAnswers schema p j.items r e × HaveAnswers schema (drop (i + 1) batches) (drop (i + 1) judgements) (drop (i + 1) replies) (drop (i + 1) effects)
    answers_here =
        subst (λ (xs : List (List Marks)). HaveAnswers schema (p ∷ drop (i + 1) batches) (j ∷ drop (i + 1) judgements) (r ∷ drop (i + 1) replies) xs) (split effects i e e_below e_at)
        (subst (λ (xs : List (List Reply)). HaveAnswers schema (p ∷ drop (i + 1) batches) (j ∷ drop (i + 1) judgements) xs (drop i effects)) (split replies i r r_below r_at)
        (subst (λ (xs : List (Vec Judgement)). HaveAnswers schema (p ∷ drop (i + 1) batches) xs (drop i replies) (drop i effects)) (split judgements i j j_below j_at)
        (subst (λ (xs : List (List Program)). HaveAnswers schema xs (drop i judgements) (drop i replies) (drop i effects)) (split batches i p below at) so_far.answers)))

    -- its lines
    abbrev pub lines : Text
    lines = batch_text (number + i) ++ told marks schema p (map checked_of j.items) r e ++ version_text (number + i)

    pub line_parts : whole ≡ (so_far.front ++ lines) ++ rest_from (i + 1)
    line_parts =
        let next : number + i + 1 ≡ number + (i + 1) = omega arith in
        let parts : rest_from i ≡ lines ++ line_text marks schema (number + i + 1) (drop (i + 1) batches) (checks_of (drop (i + 1) judgements)) (drop (i + 1) replies) (drop (i + 1) effects) =
        rw (split batches i p below at, split judgements i j j_below j_at, split replies i r r_below r_at, split effects i e e_below e_at) refl in
        so_far.parts
        ∙ ap (λ (u : Text). so_far.front ++ u) parts
        ∙ ap (λ n. so_far.front ++ (lines ++ line_text marks schema n (drop (i + 1) batches) (checks_of (drop (i + 1) judgements)) (drop (i + 1) replies) (drop (i + 1) effects))) next
        ∙ sym (append_assoc so_far.front lines (rest_from (i + 1)))

    pub line_told : (c : Bytes) (u : ℕ) → Appends b c lines → t ≤ u → HasTold a c s u (i + 1)
    line_told c u more later = record {
      front = so_far.front ++ lines;
      did = did_more a b c s t u so_far.front lines (so_far.front ++ lines) so_far.did more later refl;
      parts = line_parts;
      answers = answers_here.1;
    }
