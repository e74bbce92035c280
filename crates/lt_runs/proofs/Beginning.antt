-- Where the readers of a bench begin: behind the first three items of its script.
use Rattle.std.proofs.Common.{◌≡◌, ◌∙◌, ℕ, ◌+◌, ◌≤◌, List, [], ◌∷◌, ◌++◌, length, map, take, drop, false, Some, Result, slice_get, refl, sym, ap, subst, arith, lit≤, length-append}
use Rattle.std.specs.Prelude.{fold, IfOk}
use Rattle.std.proofs.lemmas.Result.{IfOk-weaker}
use Rattle.std.specs.List.{AllByRecursion}
use Rattle.lt_face.specs.Limits.{most_workers}
use Rattle.lt_face.specs.State.{State}
use Rattle.lt_model.specs.declared.normal.Stmt.{Stmt}
use Rattle.lt_model.specs.declared.syntax.Item.{Item}
use Rattle.lt_model.specs.declared.syntax.Item.TheVariants.{Batch}
use Rattle.lt_model.specs.declared.syntax.Program.{Program}
use Rattle.lt_model.specs.Check.{Bad, Good, checked}
use Rattle.lt_model.specs.Fits.{Fits}
use Rattle.lt_model.specs.Limits.{IsWithinLimits}
use Rattle.lt_model.specs.Report as model
use Rattle.lt_model.specs.Report.{opening, step}
use Rattle.lt_model.specs.Schema.{Schema}
use Rattle.lt_check.specs.States.{IsStateOf}
use Rattle.lt_query.specs.Planned.{HaveWidths}
use Rattle.lt_base.specs.Tables.{Table, state_of}
use Rattle.lt_gen.specs.Programs.{stock_query}
use Rattle.lt_gen.specs.Script.{bench_items, bench_schema, buy_items, load_item, sale_item, stock_item}
use Rattle.lt_gen.proofs.Asking.{schema_opened}
use Rattle.lt_readers.specs.declared.version.Version.{Version}
use Rattle.lt_readers.proofs.Adding.{history_one}
use Rattle.lt_world.specs.declared.world.World.{World}
use Rattle.lt_runs.specs.declared.come.Come.{Come}
use Rattle.lt_runs.specs.Coming.{HasCome, HasRun, IsBatch}
use Rattle.lt_runs.specs.Posting.{IsToPost}
use Rattle.lt_runs.specs.Reading.{IsPosted, IsReady}
use Rattle.lt_world.specs.World.{Shows}
use Rattle.lt_runs.proofs.Summing.{come_kept}

-- ---- what readers ask

query_is_good : (prog : List Stmt) × (checked stock_query bench_schema ≡ Good prog)
query_is_good = (_, refl)

pub never_bad : (code statement : ℕ) (program : Program) (schema : Schema) → program ≡ stock_query → schema ≡ bench_schema → checked program schema ≡ Bad code statement → ⊥
never_bad code statement program schema is there bad =
    let good : checked stock_query bench_schema ≡ Good query_is_good.0 = query_is_good.1 in
    let same : checked stock_query bench_schema ≡ Bad code statement = subst (λ (p : Program). checked p bench_schema ≡ Bad code statement) is (subst (λ (s : Schema). checked program s ≡ Bad code statement) there bad) in
    absurd (cc (good, same))

pub asked_widths : (prog : List Stmt) (program : Program) (schema : Schema) → program ≡ stock_query → schema ≡ bench_schema → checked program schema ≡ Good prog → HaveWidths prog
unfolding query_is_good
asked_widths prog program schema is there good =
    let own : checked stock_query bench_schema ≡ Good query_is_good.0 = query_is_good.1 in
    let same : checked stock_query bench_schema ≡ Good prog = subst (λ (p : Program). checked p bench_schema ≡ Good prog) is (subst (λ (s : Schema). checked program s ≡ Good prog) there good) in
    let e : query_is_good.0 ≡ prog = cc (own, same) in
    subst HaveWidths e ((((lit≤ tt, lit≤ tt), tt), tt), tt)

-- ---- the first version

abbrev pub first_items : ℕ → ℕ → List Item
first_items seed items = stock_item ∷ sale_item ∷ load_item seed items ∷ []

abbrev pub first_world : ℕ → ℕ → model.World
first_world seed items = fold (step false) opening (first_items seed items)

one_version : (seed items : ℕ) → (first_world seed items).versions ≡ (first_world seed items).state ∷ []
one_version seed items = refl

pub schema_first : (seed items : ℕ) (w : World) → Shows w (first_world seed items) → w.schema ≡ bench_schema
schema_first seed items w s = sym s.schema ∙ schema_opened seed items

pub state_first : (seed items : ℕ) (w : World) → Shows w (first_world seed items) → IsStateOf bench_schema (state_of w.database)
state_first seed items w s = subst (λ (st : State). IsStateOf bench_schema st) s.state (subst (λ (h : Schema). IsStateOf h (first_world seed items).state) (schema_opened seed items) s.widths)

abbrev first_version : ℕ → List Table → Version
first_version most db = record { number = 1; most = most; db = db }

pub posted_first : (seed items most : ℕ) (w : World) (log : List Version) → Shows w (first_world seed items) → 1 ≤ most → log ≡ record { number = 1; most = most; db = w.database } ∷ [] → IsPosted most w.versions log
posted_first seed items most w log s bound is =
    let v : Version = first_version most w.database in
    subst (IsPosted most w.versions) (sym is) (record {
      states = ap (λ (st : State). [] ∷ st ∷ []) (sym s.state) ∙ ap (λ (ss : List State). [] ∷ ss) (sym (one_version seed items)) ∙ s.versions;
      first = v;
      begins = refl;
      number = refl;
      most_is = refl;
      history = history_one v bound;
    })

pub ready_first : (program : List Stmt) (most : ℕ) (db : List Table) (log : List Version) → log ≡ record { number = 1; most = most; db = db } ∷ [] → IsStateOf bench_schema (state_of db)
    → ((state : State) → IsStateOf bench_schema state → Fits state program) → IsReady program log
ready_first program most db log is wide fits = subst (IsReady program) (sym is) (record { first = first_version most db; begins = refl; fits = fits (state_of db) wide })

-- ---- the batches

all_batches : (groups : List (List Program)) → AllByRecursion IsBatch (map Batch groups)
all_batches [] = tt
all_batches (g ∷ groups) = (tt, all_batches groups)

pub buys_are_batches : (seed items programs : ℕ) → AllByRecursion IsBatch (buy_items seed items programs)
buys_are_batches seed items programs = all_batches _

-- ---- the script, cut behind its first three items

-- what was posted is the first version
abbrev pub seen_first : List Table → ℕ → List Version → Type 0
seen_first db most log = log ≡ record { number = 1; most = most; db = db } ∷ []

module _ (seed items programs : ℕ) (script first rest : List Item) (is : script ≡ bench_items seed items programs) (front : first ≡ take 3 script) (behind : rest ≡ drop 3 script) where
  first_is : first ≡ first_items seed items
  first_is = front ∙ ap (take 3) is

  rest_is : rest ≡ buy_items seed items programs
  rest_is = behind ∙ ap (drop 3) is

  pub joined_again : first ++ rest ≡ script
  joined_again = ap (λ (xs : List Item). xs ++ rest) first_is ∙ ap (λ (xs : List Item). first_items seed items ++ xs) rest_is ∙ sym is

  pub first_within : AllByRecursion IsWithinLimits script → AllByRecursion IsWithinLimits first
  first_within all =
      let w : AllByRecursion IsWithinLimits (bench_items seed items programs) = subst (AllByRecursion IsWithinLimits) is all in
      subst (AllByRecursion IsWithinLimits) (sym first_is) (w.0, (w.1.0, (w.1.1.0, tt)))

  pub first_few : length first ≤ 1027
  first_few = let three : length first ≡ 3 = ap length first_is in omega (arith, three)

  rest_within : AllByRecursion IsWithinLimits script → AllByRecursion IsWithinLimits rest
  rest_within all =
      let w : AllByRecursion IsWithinLimits (bench_items seed items programs) = subst (AllByRecursion IsWithinLimits) is all in
      subst (AllByRecursion IsWithinLimits) (sym rest_is) w.1.1.1

  pub rest_few : length script ≤ 1027 → length first + length rest ≤ 1027
  rest_few few = let both : length first + length rest ≡ length script = sym (length-append first rest) ∙ ap length joined_again in omega (arith, both, few)

  -- what was run up to the first version
  module _ (come : Come) (run : HasRun Shows first come.world come.summary) where
    shows_first : Shows come.world (first_world seed items)
    shows_first = (subst (λ (xs : List Item). HasRun Shows xs come.world come.summary) first_is run).shows

    pub schema_is : come.world.schema ≡ bench_schema
    schema_is = schema_first seed items come.world shows_first

    pub to_post : (workers most : ℕ) (log : List Version) → 1 ≤ workers → workers ≤ most_workers → AllByRecursion IsWithinLimits script → length script ≤ 1027
        → seen_first come.world.database most log → most ≡ length rest + 1 → IsToPost come rest workers log
    to_post workers most log some many all few begun last = record {
      some = some;
      many = many;
      within = rest_within all;
      are = subst (AllByRecursion IsBatch) (sym rest_is) (buys_are_batches seed items programs);
      front = first;
      run = run;
      few = rest_few few;
      most = most;
      posted = posted_first seed items most come.world log shows_first (omega (arith, last)) begun;
      room = let one : length log ≡ 1 = ap length begun in omega (arith, one, last);
    }

    pub fits_first : (program : List Stmt) (most : ℕ) (log : List Version) → seen_first come.world.database most log → ((state : State) → IsStateOf bench_schema state → Fits state program) → IsReady program log
    fits_first program most log begun fits = ready_first program most come.world.database log begun (state_first seed items come.world shows_first) fits

    pub come_beside : {X E : Type 0} (at : X → Come) (result : Result X E) → IfOk result (λ out. HasRun Shows (first ++ rest) (at out).world (at out).summary) → IfOk result (λ out. HasCome script (at out))
    come_beside at result ran =
        IfOk-weaker result (λ out. HasRun Shows (first ++ rest) (at out).world (at out).summary) (λ out. HasCome script (at out))
        (λ out h. come_kept script (at out) (subst (λ (xs : List Item). HasRun Shows xs (at out).world (at out).summary) joined_again h)) ran

pub most_first : (db : List Table) (most n : ℕ) (log : List Version) → seen_first db most log → most ≡ n + 1 → (v : Version) → slice_get log 0 ≡ Some v → v.most ≡ 1 + n
most_first db most n log begun last v begins =
    let w : Version = first_version most db in
    let same : Some w ≡ Some v = subst (λ (l : List Version). slice_get l 0 ≡ Some v) begun begins in
    let is : w ≡ v = cc in
    let bound : v.most ≡ most = sym (ap (λ (x : Version). x.most) is) in
    omega (arith, bound, last)
