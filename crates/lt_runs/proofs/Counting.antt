-- What the programs of a batch answered, counted one after another.
use Rattle.std.proofs.Common.{◌≡◌, ℕ, Bool, ◌+◌, ◌≤◌, ◌<◌, List, [], ◌∷◌, ◌++◌, length, map, drop, get_or, refl, sym, ap, subst, ◌∙◌, append_assoc, append-nil, arith}
use Rattle.std.specs.Prelude.{filter_map}
use Rattle.std.specs.List.{AllByRecursion}
use Rattle.std.proofs.lemmas.List.{drop_all, length-append}
use Rattle.lt_face.specs.State.{State}
use Rattle.lt_model.specs.declared.normal.Stmt.{Stmt}
use Rattle.lt_model.specs.declared.syntax.Program.{Program}
use Rattle.lt_model.specs.declared.syntax.Item.TheVariants.{Batch}
use Rattle.lt_model.specs.declared.reply.Reply.{Reply}
use Rattle.lt_model.specs.Check.{Checked, Good, Bad, checked}
use Rattle.lt_model.specs.Limits.{IsProgramWithin}
use Rattle.lt_model.specs.Marks.{Marks}
use Rattle.lt_model.specs.Schema.{Schema}
use Rattle.lt_model.specs.Serial.{serial}
use Rattle.lt_model.specs.Report as model
use Rattle.lt_model.specs.Report.{Text, good_of}
use Rattle.lt_base.specs.Tables.{state_of}
use Rattle.lt_batch.specs.Batch.{serial_replies}
use Rattle.lt_gen.specs.declared.summary.Summary.{Summary}
use Rattle.lt_gen.specs.Answered.{Answer, answered, answers_to}
use Rattle.lt_gen.specs.Counted.{Counts, HasFewPrints, HasRoom}
use Rattle.lt_gen.proofs.Answering.{batch_few}
use Rattle.lt_world.specs.declared.batch.Judgement.{Judgement}
use Rattle.lt_world.specs.declared.batch.Ran.{Ran}
use Rattle.lt_world.specs.declared.world.World.{World}
use Rattle.lt_world.specs.Batches.{checked_of, good_ones, IsRun}
use Rattle.lt_runs.specs.Counting.{answered_by, HasRoomFor}
use Rattle.lt_world.specs.World.{Shows}
use Rattle.lt_world.proofs.Batches.{replies_of, same_checks, same_runs}
use Rattle.lt_world.proofs.Telling.{split}

-- ---- what a batch answers

one_answered : (p : Program) (c : Checked) (rest : List (Text × Checked)) (programs : List Program) (cs : List Checked) (dones : List (Reply × Marks))
    → ((ds : List (Reply × Marks)) → answered rest ds ≡ answered_by programs cs (replies_of ds)) → answered ((p.name, c) ∷ rest) dones ≡ answered_by (p ∷ programs) (c ∷ cs) (replies_of dones)
one_answered p (Bad code j) rest programs cs dones same = same dones
one_answered p (Good prog) rest programs cs [] same = refl
one_answered p (Good prog) rest programs cs (d ∷ dones) same = ap (λ (xs : List Answer). (p.name, d.0) ∷ xs) (same dones)

all_answered : (schema : Schema) (programs : List Program) (dones : List (Reply × Marks))
    → answered (map (λ (p : Program). (p.name, checked p schema)) programs) dones ≡ answered_by programs (map (λ (p : Program). checked p schema) programs) (replies_of dones)
all_answered schema [] dones = refl
all_answered schema (p ∷ programs) dones =
    one_answered p (checked p schema) (map (λ (p : Program). (p.name, checked p schema)) programs) programs (map (λ (p : Program). checked p schema) programs) dones (all_answered schema programs)

-- of a batch that ran
pub run_answers : (w : World) (m : model.World) (s : Shows w m) (programs : List Program) (marks : Bool) (ran : Ran) → IsRun w programs marks ran
    → answers_to m (Batch programs) ≡ answered_by programs (map checked_of ran.judgements.items) ran.replies
run_answers w m s programs marks ran r =
    let cs : List Checked = map checked_of ran.judgements.items in
    let gs : List (List Stmt) = filter_map (λ (check : Text × Checked). good_of check.1) (map (λ (p : Program). (p.name, checked p m.schema)) programs) in
    all_answered m.schema programs (serial gs m.state).0
    ∙ ap (λ (c : List Checked). answered_by programs c (replies_of (serial gs m.state).0)) (same_checks w m programs cs s r.checks)
    ∙ ap (λ (d : List (Reply × Marks) × State). answered_by programs cs (replies_of d.0)) (same_runs w m programs cs s r.checks)
    ∙ sym (ap (λ (rs : List Reply). answered_by programs cs rs) r.replies_are)

-- each of its replies has few prints
pub run_few : (w : World) (programs : List Program) (marks : Bool) (ran : Ran) → IsRun w programs marks ran → AllByRecursion IsProgramWithin programs → AllByRecursion HasFewPrints ran.replies
run_few w programs marks ran r within =
    subst (AllByRecursion HasFewPrints) (sym (r.replies_are ∙ ap (λ (cs : List Checked). serial_replies (filter_map good_of cs) (state_of w.database)) r.checks))
    (batch_few w.schema programs (state_of w.database) within)

-- ---- the programs of a batch, counted one after another

module _ (programs : List Program) (judgements : List Judgement) (replies : List Reply) where
  abbrev pub rest_from : ℕ → ℕ → List Answer
  rest_from i next = answered_by (drop i programs) (map checked_of (drop i judgements)) (drop next replies)

  -- the first i programs were counted, and so many replies taken
  pub record HasCounted (old now : Summary) (i next : ℕ) : Type 0 where
    pub front : List Answer
    pub parts : answered_by programs (map checked_of judgements) replies ≡ front ++ rest_from i next
    pub counts : (answers : List Answer) → Counts old answers → Counts now (answers ++ front)
    pub short : length front ≤ i
    pub some_replies : length (good_ones (drop i judgements)) + next ≤ length replies
    pub same_programs : now.programs ≡ old.programs
    pub same_left : now.left ≡ old.left
    pub same_sold : now.sold ≡ old.sold

  -- before the first
  pub none_counted : (summary : Summary) → length (good_ones judgements) ≤ length replies → HasCounted summary summary 0 0
  none_counted summary some = record {
    front = [];
    parts = refl;
    counts = λ answers h. subst (Counts summary) (sym (append-nil answers)) h;
    short = omega arith;
    some_replies = omega (arith, some);
    same_programs = refl;
    same_left = refl;
    same_sold = refl;
  }

  -- one more can be counted
  pub room_left : (old now : Summary) (i next : ℕ) → HasCounted old now i next → HasRoomFor old (length programs) → i < length programs → HasRoom now
  room_left old now i next so_far room below = record {
    answers = room.answers ++ so_far.front;
    counts = so_far.counts room.answers room.counts;
    few = omega (arith, so_far.short, room.few, below, length-append room.answers so_far.front);
  }

  -- behind the last
  pub all_counted : (old now : Summary) (i next : ℕ) → HasCounted old now i next → length programs ≤ i → (answers : List Answer) → Counts old answers
      → Counts now (answers ++ answered_by programs (map checked_of judgements) replies)
  all_counted old now i next so_far end answers h =
      let none : rest_from i next ≡ [] = ap (λ (ps : List Program). answered_by ps (map checked_of (drop i judgements)) (drop next replies)) (drop_all i programs end) in
      let whole : answered_by programs (map checked_of judgements) replies ≡ so_far.front = so_far.parts ∙ ap (λ (xs : List Answer). so_far.front ++ xs) none ∙ append-nil so_far.front in
      subst (λ (xs : List Answer). Counts now (answers ++ xs)) (sym whole) (so_far.counts answers h)

  module _ (old now : Summary) (i next : ℕ) (p : Program) (j : Judgement) (below : i < length programs) (at : p ≡ get_or programs i p) (inside : i < length judgements)
      (j_at : j ≡ get_or judgements i j) (so_far : HasCounted old now i next) where
    left_good : (prog : List Stmt) → checked_of j ≡ Good prog → length (good_ones (drop i judgements)) ≡ length (good_ones (drop (i + 1) judgements)) + 1
    left_good prog good = ap (λ (js : List Judgement). length (good_ones js)) (split judgements i j inside j_at) ∙ rw good (omega arith)

    left_bad : (code statement : ℕ) → checked_of j ≡ Bad code statement → length (good_ones (drop i judgements)) ≡ length (good_ones (drop (i + 1) judgements))
    left_bad code statement bad = ap (λ (js : List Judgement). length (good_ones js)) (split judgements i j inside j_at) ∙ rw bad refl

    pub answer_left : (prog : List Stmt) → checked_of j ≡ Good prog → next < length replies
    answer_left prog good = let n = left_good prog good in omega (arith, n, so_far.some_replies)

    pub good_counted : (new : Summary) (prog : List Stmt) (reply : Reply) → checked_of j ≡ Good prog → next < length replies → reply ≡ get_or replies next reply
        → ((answers : List Answer) → Counts now answers → Counts new (answers ++ (p.name, reply) ∷ [])) → new.programs ≡ now.programs → new.left ≡ now.left → new.sold ≡ now.sold
        → HasCounted old new (i + 1) (next + 1)
    good_counted new prog reply good r_left r_at more same_programs same_left same_sold =
        let n = left_good prog good in
        let parts : rest_from i next ≡ (p.name, reply) ∷ rest_from (i + 1) (next + 1) = rw (split programs i p below at, split judgements i j inside j_at, split replies next reply r_left r_at, good) refl in
        record {
          front = so_far.front ++ (p.name, reply) ∷ [];
          parts = so_far.parts ∙ ap (λ (xs : List Answer). so_far.front ++ xs) parts ∙ sym (append_assoc so_far.front ((p.name, reply) ∷ []) (rest_from (i + 1) (next + 1)));
          counts = λ answers h. subst (Counts new) (append_assoc answers so_far.front ((p.name, reply) ∷ [])) (more (answers ++ so_far.front) (so_far.counts answers h));
          short = omega (arith, so_far.short, length-append so_far.front ((p.name, reply) ∷ []));
          some_replies = omega (arith, n, so_far.some_replies);
          same_programs = same_programs ∙ so_far.same_programs;
          same_left = same_left ∙ so_far.same_left;
          same_sold = same_sold ∙ so_far.same_sold;
        }

    pub bad_counted : (code statement : ℕ) → checked_of j ≡ Bad code statement → HasCounted old now (i + 1) next
    bad_counted code statement bad =
        let n = left_bad code statement bad in
        let parts : rest_from i next ≡ rest_from (i + 1) next = rw (split programs i p below at, split judgements i j inside j_at, bad) refl in
        record {
          front = so_far.front;
          parts = so_far.parts ∙ ap (λ (xs : List Answer). so_far.front ++ xs) parts;
          counts = so_far.counts;
          short = omega (arith, so_far.short);
          some_replies = omega (arith, n, so_far.some_replies);
          same_programs = so_far.same_programs;
          same_left = so_far.same_left;
          same_sold = so_far.same_sold;
        }
