-- The lines of a batch's programs, written one after another.
use Rattle.std.proofs.Common.{◌≡◌, ℕ, Bool, ◌+◌, ◌≤◌, ◌<◌, List, ◌∷◌, ◌++◌, length, map, drop, get_or, refl, sym, ap, ◌∙◌, append_assoc, arith}
use Rattle.std.specs.Prelude.{Option}
use Rattle.std.specs.Io.KnownBytes.{Appends}
use Rattle.std.proofs.lemmas.List.{drop_more}
use Rattle.lt_model.specs.declared.normal.Stmt.{Stmt}
use Rattle.lt_model.specs.declared.syntax.Program.{Program}
use Rattle.lt_model.specs.declared.reply.Reply.{Reply}
use Rattle.lt_model.specs.Check as model
use Rattle.lt_model.specs.Marks.{Marks}
use Rattle.lt_model.specs.Schema.{Schema}
use Rattle.lt_model.specs.Report.{Text, bad_program_text, done_text}
use Rattle.lt_report.proofs.Going.{Did, did_more}
use Rattle.lt_world.specs.declared.batch.Judgement.{Judgement}
use Rattle.lt_world.specs.Batches.{checked_of, good_ones, told}

abbrev Bytes : Type 0
Bytes = Option (List ℕ)

-- an element, and those behind it
pub split : {X : Type 0} (xs : List X) (i : ℕ) (x : X) → i < length xs → x ≡ get_or xs i x → drop i xs ≡ x ∷ drop (i + 1) xs
split {X = X} xs i x below at = drop_more xs i x below ∙ ap (λ (y : X). y ∷ drop (i + 1) xs) (sym at)

module _ (marks : Bool) (schema : Schema) (programs : List Program) (judgements : List Judgement) (replies : List Reply) (effects : List Marks) where
  -- the lines of all programs, and those from program i on, where so many replies were taken
  abbrev pub whole : Text
  whole = told marks schema programs (map checked_of judgements) replies effects

  abbrev pub rest_from : ℕ → ℕ → Text
  rest_from i next = told marks schema (drop i programs) (map checked_of (drop i judgements)) (drop next replies) (drop next effects)

  -- the lines before those were written, and there are replies and marks for the programs behind
  pub record HasTold (a b : Bytes) (s t : ℕ) (i next : ℕ) : Type 0 where
    pub front : Text
    pub did : Did a b s t front
    pub parts : whole ≡ front ++ rest_from i next
    pub some_replies : length (good_ones (drop i judgements)) + next ≤ length replies
    pub some_effects : length (good_ones (drop i judgements)) + next ≤ length effects

  module _ (a b : Bytes) (s t : ℕ) (i next : ℕ) (p : Program) (j : Judgement) (below : i < length programs) (at : p ≡ get_or programs i p) (inside : i < length judgements)
      (j_at : j ≡ get_or judgements i j) (so_far : HasTold a b s t i next) where
    left_good : (prog : List Stmt) → checked_of j ≡ model.Good prog → length (good_ones (drop i judgements)) ≡ length (good_ones (drop (i + 1) judgements)) + 1
    left_good prog good = ap (λ (js : List Judgement). length (good_ones js)) (split judgements i j inside j_at) ∙ rw good (omega arith)

    left_bad : (code statement : ℕ) → checked_of j ≡ model.Bad code statement → length (good_ones (drop i judgements)) ≡ length (good_ones (drop (i + 1) judgements))
    left_bad code statement bad = ap (λ (js : List Judgement). length (good_ones js)) (split judgements i j inside j_at) ∙ rw bad refl

    -- where the program is good there is a reply for it, and there are marks
    pub reply_left : (prog : List Stmt) → checked_of j ≡ model.Good prog → next < length replies
    reply_left prog good = let n = left_good prog good in omega (arith, n, so_far.some_replies)

    pub effect_left : (prog : List Stmt) → checked_of j ≡ model.Good prog → next < length effects
    effect_left prog good = let n = left_good prog good in omega (arith, n, so_far.some_effects)

    pub good_parts : (prog : List Stmt) (reply : Reply) (effect : Marks) → checked_of j ≡ model.Good prog → next < length replies → next < length effects → reply ≡ get_or replies next reply → effect ≡ get_or effects next effect
        → whole ≡ (so_far.front ++ done_text marks schema p.name (reply, effect)) ++ rest_from (i + 1) (next + 1)
    good_parts prog reply effect good r_left e_left r_at e_at =
        let parts : rest_from i next ≡ done_text marks schema p.name (reply, effect) ++ rest_from (i + 1) (next + 1) =
        rw (split programs i p below at, split judgements i j inside j_at, split replies next reply r_left r_at, split effects next effect e_left e_at, good) refl in
        so_far.parts ∙ ap (λ (u : Text). so_far.front ++ u) parts ∙ sym (append_assoc so_far.front (done_text marks schema p.name (reply, effect)) (rest_from (i + 1) (next + 1)))

    pub bad_parts : (code statement : ℕ) → checked_of j ≡ model.Bad code statement → whole ≡ (so_far.front ++ bad_program_text p.name code statement) ++ rest_from (i + 1) next
    bad_parts code statement bad =
        let parts : rest_from i next ≡ bad_program_text p.name code statement ++ rest_from (i + 1) next =
        rw (split programs i p below at, split judgements i j inside j_at, bad) refl in
        so_far.parts ∙ ap (λ (u : Text). so_far.front ++ u) parts ∙ sym (append_assoc so_far.front (bad_program_text p.name code statement) (rest_from (i + 1) next))

    pub good_told : (c : Bytes) (u : ℕ) (prog : List Stmt) (reply : Reply) (effect : Marks) → checked_of j ≡ model.Good prog → next < length replies → next < length effects
        → reply ≡ get_or replies next reply → effect ≡ get_or effects next effect → Appends b c (done_text marks schema p.name (reply, effect)) → t ≤ u → HasTold a c s u (i + 1) (next + 1)
    good_told c u prog reply effect good r_left e_left r_at e_at more later =
        let n = left_good prog good in
        record {
          front = so_far.front ++ done_text marks schema p.name (reply, effect);
          did = did_more a b c s t u so_far.front _ _ so_far.did more later refl;
          parts = good_parts prog reply effect good r_left e_left r_at e_at;
          some_replies = omega (arith, n, so_far.some_replies);
          some_effects = omega (arith, n, so_far.some_effects);
        }

    pub bad_told : (c : Bytes) (u : ℕ) (code statement : ℕ) → checked_of j ≡ model.Bad code statement → Appends b c (bad_program_text p.name code statement) → t ≤ u → HasTold a c s u (i + 1) next
    bad_told c u code statement bad more later =
        let n = left_bad code statement bad in
        record {
          front = so_far.front ++ bad_program_text p.name code statement;
          did = did_more a b c s t u so_far.front _ _ so_far.did more later refl;
          parts = bad_parts code statement bad;
          some_replies = omega (arith, n, so_far.some_replies);
          some_effects = omega (arith, n, so_far.some_effects);
        }
