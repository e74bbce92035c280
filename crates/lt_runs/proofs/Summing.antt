-- What comes of a script, item by item.
use Rattle.std.proofs.Common.{◌≡◌, ℕ, zero, suc, ◌+◌, ◌*◌, ◌≤◌, ◌<◌, List, [], ◌∷◌, ◌++◌, length, true, false, Some, None, refl, sym, ap, subst, ◌∙◌, arith}
use Rattle.std.specs.Prelude.{Bool, Option, ℤ, if◌then◌else◌, fold, nat_le, nat_lt, unwrap_or, slice_get, codes}
use Rattle.std.specs.Borrow.{Bor}
use Rattle.std.specs.Option.{option_copied}
use Rattle.std.proofs.lemmas.List.{length-append, length_push}
use Rattle.std.proofs.lemmas.List.Sums.{fold_push}
use Rattle.lt_face.specs.State.{Relation, State, rows_in}
use Rattle.lt_model.specs.declared.kind.Kind.{Kind}
use Rattle.lt_model.specs.declared.syntax.Item.{Item}
use Rattle.lt_model.specs.declared.syntax.Item.TheVariants.{Batch, Relation as Declares, Show}
use Rattle.lt_model.specs.Limits.{IsWithinLimits}
use Rattle.lt_model.specs.Schema.{Schema, number_of}
use Rattle.lt_model.specs.Report as model
use Rattle.lt_model.specs.Report.{bad_text, opening, says, shown, step, with_relation}
use Rattle.lt_base.specs.Tables.{state_of}
use Rattle.lt_report.specs.Texts.{held}
use Rattle.lt_gen.specs.declared.summary.Summary.{Summary}
use Rattle.lt_gen.specs.Answered.{Answer, answers_from, answers_to}
use Rattle.lt_gen.specs.Counted.{Counts}
use Rattle.lt_gen.specs.Script.{bench_items}
use Rattle.lt_gen.specs.Summaries.{column_sum, last_world, queries_of, rows_at, rows_named, summary_of}
use Rattle.lt_gen.proofs.Answering.{answers-push, item_answers_few}
use Rattle.lt_runs.specs.declared.come.Come.{Come}
use Rattle.lt_world.specs.declared.world.World.{World}
use Rattle.lt_runs.specs.Coming.{HasCome, HasRun}
use Rattle.lt_runs.specs.Counting.{HasRoomFor}
use Rattle.lt_world.specs.World.{IsWorld, now_of, Shows, ShowsNow}
use Rattle.lt_world.proofs.Columns.{set_held}

-- ---- a session that has no versions

-- whether a test holds or not
either_now : (b : Bool) (u v w x : model.World) → now_of u ≡ now_of w → now_of v ≡ now_of x → now_of (if b then u else v) ≡ now_of (if b then w else x)
either_now true u v w x e f = e
either_now false u v w x e f = f

related_now : (m : model.World) (name : List ℕ) (kinds : List Kind) (keys : ℕ) (o : Option ℕ) → now_of (with_relation (now_of m) name kinds keys o) ≡ now_of (with_relation m name kinds keys o)
related_now m name kinds keys (Some n) = refl
related_now m name kinds keys None = either_now (nat_le 64 (length m.schema)) _ _ _ _ refl refl

shown_now : (m : model.World) (name : List ℕ) (at o : Option ℕ) → now_of (shown m name at o) ≡ now_of m
shown_now m name at None = refl
shown_now m name at (Some n) = either_now (nat_lt (length m.versions) (unwrap_or at 0)) (says m (bad_text 26)) _ m m refl refl ∙ elim (nat_lt (length m.versions) (unwrap_or at 0)) as (λ b. now_of (if b then m else m) ≡ now_of m) [ true ↦ refl | false ↦ refl ]

-- a step goes where it would with versions
pub now_step : (m : model.World) (item : Item) → now_of (step false (now_of m) item) ≡ now_of (step false m item)
now_step m (Declares name kinds keys) = related_now m name kinds keys (number_of m.schema name)
now_step m (Batch programs) = refl
now_step m (Show name at) = shown_now (now_of m) name at (number_of m.schema name) ∙ sym (shown_now m name at (number_of m.schema name))

-- and its programs answer the same
pub answers_now : (m : model.World) (item : Item) → answers_to (now_of m) item ≡ answers_to m item
answers_now m (Declares name kinds keys) = refl
answers_now m (Batch programs) = refl
answers_now m (Show name at) = refl

-- ---- items

pub world_now : (items : List Item) (world : World) (summary : Summary) → HasRun ShowsNow items world summary → IsWorld world
world_now items world summary so_far = record { model = now_of (fold (step false) opening items); shows = so_far.shows }

pub world_kept : (items : List Item) (world : World) (summary : Summary) → HasRun Shows items world summary → IsWorld world
world_kept items world summary so_far = record { model = fold (step false) opening items; shows = so_far.shows }

module _ (Stands : World → model.World → Type 0) where
  pub none_run : (world : World) (summary : Summary) → Stands world opening → Counts summary [] → HasRun Stands [] world summary
  none_run world summary shows counts = record { shows = shows; counts = counts; few = omega arith }

  module _ (items : List Item) (world : World) (summary : Summary) (so_far : HasRun Stands items world summary) where
    pub room_for_one : (n : ℕ) → length items < n → n ≤ 1027 → HasRoomFor summary 256
    room_for_one n below few = record { answers = answers_from opening items; counts = so_far.counts; few = omega (arith, so_far.few, below, few) }

    -- one item more
    pub one_run : (item : Item) (w : World) (counted : Summary) → IsWithinLimits item → ((m : model.World) → Stands world m → Stands w (step false m item))
        → ((m : model.World) (answers : List Answer) → Stands world m → Counts summary answers → Counts counted (answers ++ answers_to m item)) → HasRun Stands (items ++ item ∷ []) w counted
    one_run item w counted within takes counts =
        let m : model.World = fold (step false) opening items in
        let more : answers_from opening (items ++ item ∷ []) ≡ answers_from opening items ++ answers_to m item = answers-push opening items item in
        let here : length (answers_to m item) ≤ 256 = item_answers_few m item within in
        let both : length (answers_from opening (items ++ item ∷ [])) ≡ length (answers_from opening items) + length (answers_to m item) =
        ap (λ (xs : List Answer). length xs) more ∙ length-append (answers_from opening items) (answers_to m item) in
        let longer : length (items ++ item ∷ []) ≡ length items + 1 = length_push items item in
        record {
          shows = subst (Stands w) (sym (fold_push (step false) opening items item)) (takes m so_far.shows);
          counts = subst (Counts counted) (sym more) (counts m (answers_from opening items) so_far.shows so_far.counts);
          few = omega (arith, both, here, longer, so_far.few);
        }

pub come_alone : (items : List Item) (come : Come) → HasRun ShowsNow items come.world come.summary → HasCome items come
come_alone items come run = record { model = now_of (fold (step false) opening items); shows = run.shows; now = refl; counts = run.counts }

pub come_kept : (items : List Item) (come : Come) → HasRun Shows items come.world come.summary → HasCome items come
come_kept items come run = record { model = fold (step false) opening items; shows = run.shows; now = refl; counts = run.counts }

-- ---- relations by name

module _ (w : World) (m : model.World) (s : Shows w m) (name : List ℕ) where
  pub rows_found : (n : ℕ) (rows : Option (Bor Relation)) → Some n ≡ number_of w.schema name → option_copied rows ≡ slice_get (state_of w.database) n
      → held (λ (set : Relation). set.rows) rows ≡ rows_named m name
  rows_found n rows found are =
      set_held rows (state_of w.database) n are
      ∙ ap (λ (st : State). rows_in st n) (sym s.state)
      ∙ ap (rows_at m.state) (found ∙ ap (λ (h : Schema). number_of h name) (sym s.schema))

  pub rows_missing : None ≡ number_of w.schema name → [] ≡ rows_named m name
  rows_missing none = ap (rows_at m.state) (none ∙ ap (λ (h : Schema). number_of h name) (sym s.schema))

-- ---- the summary

-- what was counted, with these sums and these numbers of queries
abbrev pub with_sums : Summary → ℤ → ℤ → Option ℕ → Option ℕ → Summary
with_sums s left sold reads equal = record { programs = s.programs; done = s.done; refused = s.refused; printed = s.printed; left = left; sold = sold; reads = reads; equal = equal }

is_summary : (seed items programs readers : ℕ) (s : Summary) (left sold : ℤ) (reads equal : Option ℕ) → s.programs ≡ programs → Counts s (answers_from opening (bench_items seed items programs))
    → left ≡ column_sum 1 (rows_named (last_world seed items programs) (codes "stock")) → sold ≡ column_sum 2 (rows_named (last_world seed items programs) (codes "sale"))
    → reads ≡ queries_of readers → equal ≡ queries_of readers → with_sums s left sold reads equal ≡ summary_of seed items programs readers
is_summary seed items programs readers s left sold reads equal asked counts stock sale queries same = rw (asked, counts.done, counts.refused, counts.printed, stock, sale, queries, same) refl

-- a relation's rows, as the fold has them
rows_there : (items : List Item) (come : Come) (h : HasCome items come) (name : List ℕ) → rows_named h.model name ≡ rows_named (fold (step false) opening items) name
rows_there items come h name = ap (λ (m : model.World). rows_named m name) h.now

-- behind the last item
pub all_run : (seed items programs readers : ℕ) (ran : List Item) (come : Come) (left sold : ℤ) (reads equal : Option ℕ) → ran ≡ bench_items seed items programs → HasCome ran come → come.summary.programs ≡ programs
    → ((m : model.World) → Shows come.world m → left ≡ column_sum 1 (rows_named m (codes "stock"))) → ((m : model.World) → Shows come.world m → sold ≡ column_sum 2 (rows_named m (codes "sale")))
    → reads ≡ queries_of readers → equal ≡ queries_of readers → with_sums come.summary left sold reads equal ≡ summary_of seed items programs readers
all_run seed items programs readers ran come left sold reads equal all run asked stock sale queries same =
    let done : HasCome (bench_items seed items programs) come = subst (λ (xs : List Item). HasCome xs come) all run in
    is_summary seed items programs readers come.summary left sold reads equal asked done.counts
    (stock done.model done.shows ∙ ap (column_sum 1) (rows_there (bench_items seed items programs) come done (codes "stock")))
    (sale done.model done.shows ∙ ap (column_sum 2) (rows_there (bench_items seed items programs) come done (codes "sale")))
    queries same

-- how many queries some readers make
pub some_queries : (readers made : ℕ) → 1 ≤ readers → made ≡ 16 * readers → Some made ≡ queries_of readers
some_queries zero made some is = absurd (omega (arith, some))
some_queries (suc n) made some is = ap Some is
