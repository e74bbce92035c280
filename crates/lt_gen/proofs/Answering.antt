-- What callers need of the answers of a script: how many there are, and how many prints each has.
use Rattle.std.proofs.Common.{◌≡◌, ◌∙◌, ℕ, suc, ◌+◌, ◌*◌, ◌≤◌, true, false, List, [], ◌∷◌, ◌++◌, length, refl, sym, ap, append_assoc, append-nil, arith}
use Rattle.std.specs.Prelude.{map, fold, filter_map, Some, None}
use Rattle.std.specs.List.{AllByRecursion, cons_option}
use Rattle.std.proofs.lemmas.List.{length-append, length-map, length_push}
use Rattle.lt_face.specs.State.{State}
use Rattle.lt_model.specs.declared.normal.Stmt.{Stmt}
use Rattle.lt_model.specs.declared.syntax.Statement.{Statement}
use Rattle.lt_model.specs.declared.syntax.Program.{Program}
use Rattle.lt_model.specs.declared.syntax.Item.{Item}
use Rattle.lt_model.specs.declared.syntax.Item.TheVariants.{Relation, Batch, Show}
use Rattle.lt_model.specs.declared.reply.Printed.{Printed}
use Rattle.lt_model.specs.declared.reply.Reply.{Reply}
use Rattle.lt_model.specs.declared.reply.Reply.TheVariants.{Done, Refused}
use Rattle.lt_model.specs.Schema.{Schema}
use Rattle.lt_model.specs.Check.{Checked, Good, Bad, after_good, checked, checked_from, code_of, normal, or_bad}
use Rattle.lt_model.specs.Limits.{IsProgramWithin, IsWithinLimits}
use Rattle.lt_model.specs.Marks.{Marks, and_then, laid}
use Rattle.lt_model.specs.Effect.{Writes, Requires, Prints, Clashes, effect}
use Rattle.lt_model.specs.Run.{Progress, run, run_from, run_on}
use Rattle.lt_model.specs.Serial.{serial}
use Rattle.lt_model.specs.Report.{Text, World, good_of, step}
use Rattle.lt_gen.specs.Answered.{Answer, answered, answers_from, answers_to, checks}
use Rattle.lt_gen.specs.Counted.{HasFewPrints}

-- ---- prints

-- at most so many prints
abbrev HasAtMost : ℕ → Reply → Type 0
HasAtMost n (Done prints) = length prints ≤ n
HasAtMost n (Refused j) = Unit {0}

prints_from : (n j : ℕ) (program : List Stmt) (state : State) (p : Progress) → length p.prints + length program ≤ n → HasAtMost n (run_from j program state p).0
prints_from n j [] state p few = let h : length p.prints ≤ n = omega (arith, few) in h
prints_from n j (s ∷ program) state p few =
    elim (effect s (laid state p.marks)) as (λ e. HasAtMost n (run_on j p e (run_from (j + 1) program state)).0) [
      | Writes marks ↦ let h : length p.prints + length program ≤ n = omega (arith, few) in prints_from n (j + 1) program state (record p { marks = and_then p.marks marks }) h
      | Requires holds ↦ elim holds as (λ b. HasAtMost n (run_on j p (Requires b) (run_from (j + 1) program state)).0) [
        | true ↦ let h : length p.prints + length program ≤ n = omega (arith, few) in prints_from n (j + 1) program state p h
        | false ↦ tt
      ]
      | Prints kinds rows ↦
          let printed : Printed = record { statement = j; kinds = kinds; rows = rows } in
          let more : length (p.prints ++ printed ∷ []) ≡ length p.prints + 1 = length_push p.prints printed in
          let h : length (p.prints ++ printed ∷ []) + length program ≤ n = omega (arith, few, more) in
          prints_from n (j + 1) program state (record p { prints = p.prints ++ printed ∷ [] }) h
      | Clashes ↦ tt
    ]

few_of : (reply : Reply) → HasAtMost 64 reply → HasFewPrints reply
few_of (Done prints) h = h
few_of (Refused j) h = tt

-- programs of at most 64 statements have at most as many prints each
pub serial_few : (programs : List (List Stmt)) (state : State) → AllByRecursion (λ (program : List Stmt). length program ≤ 64) programs
    → AllByRecursion HasFewPrints (map (λ (done : Reply × Marks). done.0) (serial programs state).0)
serial_few [] state few = tt
serial_few (program ∷ programs) state few =
    let here : 0 + length program ≤ 64 = omega (arith, few.0) in
    (few_of (run program state).0 (prints_from 64 1 program state (record { marks = []; prints = [] }) here), serial_few programs (laid state (run program state).1) few.1)

-- ---- checked programs

abbrev IsAsLong : ℕ → Checked → Type 0
IsAsLong n (Good program) = length program ≡ n
IsAsLong n (Bad code j) = Unit {0}

checked_length : (schema : Schema) (j : ℕ) (statements : List Statement) → IsAsLong (length statements) (checked_from schema j statements)
checked_length schema j [] = refl
checked_length schema j (s ∷ statements) =
    elim (code_of schema s) as (λ code. IsAsLong (suc (length statements)) (or_bad j code (after_good (normal schema s) (checked_from schema (j + 1) statements)))) [
      | Some code ↦ tt
      | None ↦ elim (checked_from schema (j + 1) statements) as (λ r. IsAsLong (length statements) r → IsAsLong (suc (length statements)) (after_good (normal schema s) r)) [
        | Good program ↦ λ h. ap suc h
        | Bad code at ↦ λ h. tt
      ] (checked_length schema (j + 1) statements)
    ]

-- those without a code, of programs within the limits
pub goods_few : (schema : Schema) (programs : List Program) → AllByRecursion IsProgramWithin programs
    → AllByRecursion (λ (program : List Stmt). length program ≤ 64) (filter_map good_of (map (λ (p : Program). checked p schema) programs))
goods_few schema [] within = tt
goods_few schema (p ∷ programs) within =
    elim (checked p schema) as (λ c. IsAsLong (length p.statements) c → AllByRecursion (λ (program : List Stmt). length program ≤ 64) (cons_option (good_of c) (filter_map good_of (map (λ (p : Program). checked p schema) programs)))) [
      | Good program ↦ λ h. let few : length program ≤ 64 = omega (arith, h, within.0.few) in (few, goods_few schema programs within.1)
      | Bad code j ↦ λ h. goods_few schema programs within.1
    ] (checked_length schema 1 p.statements)

-- the replies of a batch within the limits
pub batch_few : (schema : Schema) (programs : List Program) (state : State) → AllByRecursion IsProgramWithin programs
    → AllByRecursion HasFewPrints (map (λ (done : Reply × Marks). done.0) (serial (filter_map good_of (map (λ (p : Program). checked p schema) programs)) state).0)
batch_few schema programs state within = serial_few (filter_map good_of (map (λ (p : Program). checked p schema) programs)) state (goods_few schema programs within)

-- ---- answers

-- one item more
pub answers-push : (w : World) (items : List Item) (item : Item) → answers_from w (items ++ item ∷ []) ≡ answers_from w items ++ answers_to (fold (step false) w items) item
answers-push w [] item = append-nil (answers_to w item)
answers-push w (first ∷ items) item =
    ap (λ (answers : List Answer). answers_to w first ++ answers) (answers-push (step false w first) items item)
    ∙ sym (append_assoc (answers_to w first) (answers_from (step false w first) items) (answers_to (fold (step false) (step false w first) items) item))

answered_few : (programs : List (Text × Checked)) (done : List (Reply × Marks)) → length (answered programs done) ≤ length programs
answered_few [] done = omega arith
answered_few ((name, Bad code j) ∷ programs) done = let h = answered_few programs done in omega (arith, h)
answered_few ((name, Good program) ∷ programs) [] = omega arith
answered_few ((name, Good program) ∷ programs) (reply ∷ done) = let h = answered_few programs done in omega (arith, h)

pub item_answers_few : (w : World) (item : Item) → IsWithinLimits item → length (answers_to w item) ≤ 256
item_answers_few w (Relation name kinds keys) within = omega arith
item_answers_few w (Batch programs) within =
    let few = answered_few (checks w programs) (serial (filter_map (λ check. good_of check.1) (checks w programs)) w.state).0 in
    let same : length (checks w programs) ≡ length programs = length-map programs (λ (p : Program). (p.name, checked p w.schema)) in
    omega (arith, few, same, within.1)
item_answers_few w (Show name version) within = omega arith

-- at most 256 for each item
pub answers_few : (w : World) (items : List Item) → AllByRecursion IsWithinLimits items → length (answers_from w items) ≤ 256 * length items
answers_few w [] within = omega arith
answers_few w (item ∷ items) within =
    let here = item_answers_few w item within.0 in
    let rest = answers_few (step false w item) items within.1 in
    let both : length (answers_from w (item ∷ items)) ≡ length (answers_to w item) + length (answers_from (step false w item) items) = length-append (answers_to w item) (answers_from (step false w item) items) in
    omega (arith, here, rest, both)
