-- What a session has answered of the items that it took, and what waits.
use Rattle.std.proofs.Common.{◌≡◌, ◌≤◌, ◌<◌, ◌++◌, ◌∷◌, ◌∙◌, ◌⊎◌, Bool, true, false, List, [], ℕ, length, Result, Ok, Err, refl, sym, ap, subst, append-nil, arith, get_or, ⊎_elim}
use Rattle.std.specs.Prelude.{Option, fold, OnOk}
use Rattle.std.specs.List.{AllByRecursion}
use Rattle.std.proofs.lemmas.List.Sums.{fold-append}
use Rattle.std.proofs.KnownBytes.{Appends-nil}
use Rattle.lt_blocks.specs.declared.block.Block.{Block}
use Rattle.lt_model.specs.declared.syntax.Item.{Item}
use Rattle.lt_model.specs.declared.syntax.Item.TheVariants.{Batch}
use Rattle.lt_model.specs.declared.syntax.Program.{Program}
use Rattle.lt_model.specs.Limits.{IsWithinLimits}
use Rattle.lt_model.specs.Report.{World, opening, step}
use Rattle.lt_world.specs.declared.halt.Halt.{Halt}
use Rattle.lt_world.specs.declared.halt.Halt.TheVariants.{NoMemory}
use Rattle.lt_world.specs.declared.options.Options.{Options}
use Rattle.lt_runs.specs.declared.session.Session.{Session}
use Rattle.lt_world.specs.declared.tracing.Traced.{Traced}
use Rattle.lt_world.specs.declared.world.World as session
use Rattle.lt_world.specs.Lines.{items_of, said_all, TakesAll}
use Rattle.lt_world.specs.Traces.{KeepsBlock, KeepsBlocks}
use Rattle.lt_runs.specs.Waiting.{AnswersSome, held, IsReady}
use Rattle.lt_world.specs.World.{IsWorld, said, Shows, Takes}
use Rattle.lt_world.specs.Writing.{Writes}
use Rattle.lt_runs.proofs.Answered.{appends_behind, front_behind, front_of_more, items_more}
use Rattle.lt_world.proofs.Columns.{AllByRecursion-push}
use Rattle.lt_world.proofs.Traced.{keeps_none, keeps_one}

abbrev Bytes : Type 0
Bytes = Option (List ℕ)

pub none_of : (xs : List (List Program)) → length xs < 1 → xs ≡ []
none_of [] few = refl
none_of (x ∷ xs) few = absurd (omega (arith, few))

pub one_of : (batches : List (List Program)) (programs : List Program) → length batches ≡ 1 → programs ≡ get_or batches 0 programs → batches ≡ programs ∷ []
one_of [] programs one at = absurd (omega (arith, one))
one_of (first ∷ []) programs one at = ap (λ (ps : List Program). ps ∷ []) (sym at)
one_of (first ∷ second ∷ batches) programs one at = absurd (omega (arith, one))

-- where a line has one batch, or traces are asked for, none waits
pub none_waits : (options : Options) (s : Session) → IsReady options s → (options.trace ≡ true) ⊎ (options.pipeline ≤ 1) → s.waiting.items ≡ []
none_waits options s ready why = ⊎_elim ready.alone (λ (one : options.pipeline ≤ 1). none_of s.waiting.items (omega (arith, one, ready.few))) why

pub ready_none : (options : Options) (s : Session) → 1 ≤ options.pipeline → IsWorld s.made.world → s.waiting.items ≡ [] → IsReady options s
ready_none options s some world none = record {
  world = world;
  within = subst (λ (bs : List (List Program)). AllByRecursion IsWithinLimits (items_of bs)) (sym none) tt;
  few = subst (λ (bs : List (List Program)). length bs < options.pipeline) (sym none) some;
  alone = λ e. none;
}

pub ready_first : (options : Options) (s : Session) → 1 ≤ options.pipeline → Shows s.made.world opening → s.waiting.items ≡ [] → IsReady options s
ready_first options s some shows none = ready_none options s some (record { model = opening; shows = shows }) none

-- ---- all of them were answered

pub answered_all : {T : Type 0} (result : Result T Halt) (options : Options) (m : World) (items : List Item) (old new : Session) (h i : Bytes) (w x : ℕ) → Writes result h i w x (said_all options.marks m items)
    → OnOk result (Shows new.made.world (fold (step options.marks) m items)) → OnOk result (new.waiting.items ≡ []) → OnOk result (KeepsBlocks options.trace options.marks m items old.made.blocks.items new.made.blocks.items)
    → AnswersSome result options m items old new h i w x
answered_all (Ok v) options m items old new h i w x wrote shows none kept = record {
  ok = record {
    front = items;
    parts = sym (append-nil items) ∙ ap (λ (bs : List (List Program)). items ++ items_of bs) (sym none);
    shows = shows;
    written = wrote.ok;
    kept = kept;
  };
  err = tt;
  later = wrote.later;
  failed = wrote.failed;
}
answered_all (Err e) options m items old new h i w x wrote shows none kept = record { ok = tt; err = wrote.err; later = wrote.later; failed = wrote.failed }

-- ---- memory was refused before anything was done

pub refused : {T : Type 0} (r : Result T Halt) (e : Halt) (options : Options) (m : World) (items : List Item) (old new : Session) (h : Bytes) (w : ℕ) → r ≡ Err e → e ≡ NoMemory → AnswersSome r options m items old new h h w w
refused {T} r e options m items old new h w is none =
    subst (λ (q : Result T Halt). AnswersSome q options m items old new h h w w) (sym (is ∙ ap (λ (f : Halt). let q : Result T Halt = Err f in q) none))
    (record { ok = tt; err = ([], said_all options.marks m items, refl, Appends-nil h); later = omega arith; failed = λ e. absurd cc })

-- ---- a batch waits

pub held_within : (old new : Session) (programs : List Program) → AllByRecursion IsWithinLimits (held old) → IsWithinLimits (Batch programs) → new.waiting.items ≡ old.waiting.items ++ programs ∷ [] → AllByRecursion IsWithinLimits (held new)
held_within old new programs all within kept =
    subst (AllByRecursion IsWithinLimits) (sym (ap items_of kept ∙ items_more old.waiting.items programs)) (AllByRecursion-push IsWithinLimits (held old) (Batch programs) all within)

pub ready_more : (options : Options) (old new : Session) (programs : List Program) → IsReady options old → IsWithinLimits (Batch programs) → options.trace ≡ false → new.waiting.items ≡ old.waiting.items ++ programs ∷ [] → new.made ≡ old.made
    → length new.waiting.items < options.pipeline → IsReady options new
ready_more options old new programs ready within untraced kept made few = record {
  world = subst (λ (t : Traced). IsWorld t.world) (sym made) ready.world;
  within = held_within old new programs ready.within within kept;
  few = few;
  alone = λ traced. absurd (let e : false ≡ true = sym untraced ∙ traced in cc);
}

pub held_more : (old new : Session) (programs : List Program) → new.waiting.items ≡ old.waiting.items ++ programs ∷ [] → held new ≡ held old ++ Batch programs ∷ []
held_more old new programs kept = ap items_of kept ∙ items_more old.waiting.items programs

pub waits_more : {T : Type 0} (v : T) (options : Options) (m : World) (old new : Session) (programs : List Program) (h : Bytes) (w : ℕ) → Shows old.made.world m → new.waiting.items ≡ old.waiting.items ++ programs ∷ [] → new.made ≡ old.made
    → AnswersSome {T = T} (Ok v) options m (held old ++ Batch programs ∷ []) old new h h w w
waits_more v options m old new programs h w s kept made = record {
  ok = record {
    front = [];
    parts = sym (held_more old new programs kept);
    shows = subst (λ (t : Traced). Shows t.world m) (sym made) s;
    written = Appends-nil h;
    kept = keeps_none options.trace options.marks m [] old.made.blocks.items new.made.blocks.items (ap (λ (t : Traced). t.blocks.items) made) (λ e. refl);
  };
  err = tt;
  later = omega arith;
  failed = λ e. absurd cc;
}

-- ---- one text behind another

pub wrote_behind : {T U : Type 0} (u : U) (r : Result T Halt) (marks : Bool) (m : World) (xs ys : List Item) (h i j : Bytes) (w x y : ℕ) → Writes {T = U} (Ok u) h i w x (said_all marks m xs) → Writes r i j x y (said_all marks (fold (step marks) m xs) ys)
    → Writes r h j w y (said_all marks m (xs ++ ys))
wrote_behind u (Ok v) marks m xs ys h i j w x y a b = record {
  ok = appends_behind marks m xs ys h i j a.ok b.ok;
  err = tt;
  later = omega (arith, a.later, b.later);
  failed = λ e. absurd cc;
}
wrote_behind u (Err e) marks m xs ys h i j w x y a b = record {
  ok = tt;
  err = front_behind marks m xs ys h i j a.ok b.err;
  later = omega (arith, a.later, b.later);
  failed = λ is. let rose = b.failed cc in omega (arith, a.later, rose);
}

-- the first wasn't written to its end
pub answered_front : {T U : Type 0} (r : Result T Halt) (e f : Halt) (options : Options) (m : World) (xs ys : List Item) (old new : Session) (h i : Bytes) (w x : ℕ) → r ≡ Err e → e ≡ f → Writes {T = U} (Err f) h i w x (said_all options.marks m xs)
    → AnswersSome r options m (xs ++ ys) old new h i w x
answered_front {T} r e f options m xs ys old new h i w x is same wrote =
    subst (λ (q : Result T Halt). AnswersSome q options m (xs ++ ys) old new h i w x) (sym (is ∙ ap (λ (g : Halt). let q : Result T Halt = Err g in q) same))
    (record { ok = tt; err = front_of_more options.marks m xs ys h i wrote.err; later = wrote.later; failed = λ e. wrote.failed cc })

-- ---- a result that is passed on

-- where no traces are asked for no block is kept
unkept : (trace : Bool) → trace ≡ false → (m : World) (item : Item) (old new : List Block) → KeepsBlock trace m item old new → new ≡ old
unkept true off m item old new keeps = absurd (let e : true ≡ false = off in cc)
unkept false off m item old new keeps = keeps

module _ {T : Type 0} where
  pub ready_ran : (result : Result T Halt) (options : Options) (before : session.World) (items : List Item) (new : Session) → 1 ≤ options.pipeline → IsWorld before → OnOk result (TakesAll before items new.made.world) → OnOk result (new.waiting.items ≡ [])
      → OnOk result (IsReady options new)
  ready_ran (Ok v) options before items new some world takes none =
      ready_none options new some (record { model = fold (step false) world.model items; shows = takes false world.model world.shows }) none
  ready_ran (Err e) options before items new some world takes none = tt

  pub ready_taken : (result : Result T Halt) (options : Options) (before : session.World) (item : Item) (new : Session) → 1 ≤ options.pipeline → IsWorld before → OnOk result (Takes before item new.made.world) → new.waiting.items ≡ []
      → OnOk result (IsReady options new)
  ready_taken (Ok v) options before item new some world takes none =
      ready_none options new some (record { model = step false world.model item; shows = takes false world.model world.shows }) none
  ready_taken (Err e) options before item new some world takes none = tt

  -- the batches that wait were run, one more of them than before
  pub answered_ran : (result : Result T Halt) (options : Options) (m : World) (items : List Item) (old full new : Session) (h i : Bytes) (w x : ℕ) → options.trace ≡ false → held full ≡ items → full.made ≡ old.made → Shows old.made.world m
      → Writes result h i w x (said_all options.marks m (held full)) → OnOk result (TakesAll full.made.world (held full) new.made.world) → OnOk result (new.waiting.items ≡ []) → OnOk result (new.made.blocks ≡ full.made.blocks)
      → AnswersSome result options m items old new h i w x
  answered_ran (Ok v) options m items old full new h i w x untraced all made s wrote takes none same =
      let there : Shows full.made.world m = subst (λ (t : Traced). Shows t.world m) (sym made) s in
      answered_all (Ok v) options m items old new h i w x (subst (λ (is : List Item). Writes {T = T} (Ok v) h i w x (said_all options.marks m is)) all wrote)
      (subst (λ (is : List Item). Shows new.made.world (fold (step options.marks) m is)) all (takes options.marks m there)) none
      (keeps_none options.trace options.marks m items old.made.blocks.items new.made.blocks.items (ap (λ bs. bs.items) same ∙ ap (λ (t : Traced). t.blocks.items) made) (λ traced. absurd (let e : false ≡ true = sym untraced ∙ traced in cc)))
  answered_ran (Err e) options m items old full new h i w x untraced all made s wrote takes none same =
      answered_all (Err e) options m items old new h i w x (subst (λ (is : List Item). Writes {T = T} (Err e) h i w x (said_all options.marks m is)) all wrote) tt tt tt

  -- an item alone, where none waits
  pub answered_alone : (result : Result T Halt) (options : Options) (m : World) (item : Item) (old new : Session) (h i : Bytes) (w x : ℕ) → old.waiting.items ≡ [] → new.waiting.items ≡ [] → Shows old.made.world m
      → Writes result h i w x (said options.marks m item) → OnOk result (Takes old.made.world item new.made.world)
      → OnOk result ((n : World) → Shows old.made.world n → KeepsBlock options.trace n item old.made.blocks.items new.made.blocks.items) → AnswersSome result options m (held old ++ item ∷ []) old new h i w x
  answered_alone (Ok v) options m item old new h i w x before none s wrote takes keeps =
      subst (λ (bs : List (List Program)). AnswersSome {T = T} (Ok v) options m (items_of bs ++ item ∷ []) old new h i w x) (sym before)
      (answered_all (Ok v) options m (item ∷ []) old new h i w x wrote (takes options.marks m s) none (keeps_one options.trace options.marks m item old.made.blocks.items new.made.blocks.items (keeps m s)))
  answered_alone (Err e) options m item old new h i w x before none s wrote takes keeps =
      subst (λ (bs : List (List Program)). AnswersSome {T = T} (Err e) options m (items_of bs ++ item ∷ []) old new h i w x) (sym before)
      (answered_all (Err e) options m (item ∷ []) old new h i w x wrote tt tt tt)

  -- an item behind batches that waited and were run
  pub answered_behind : {U : Type 0} (u : U) (result : Result T Halt) (options : Options) (m : World) (item : Item) (old ran new : Session) (h i j : Bytes) (w x y : ℕ) → options.trace ≡ false → Shows old.made.world m
      → Writes {T = U} (Ok u) h i w x (said_all options.marks m (held old)) → TakesAll old.made.world (held old) ran.made.world → ran.made.blocks ≡ old.made.blocks → new.waiting.items ≡ []
      → ((n : World) → Shows ran.made.world n → Writes result i j x y (said options.marks n item)) → OnOk result (Takes ran.made.world item new.made.world)
      → OnOk result ((n : World) → Shows ran.made.world n → KeepsBlock options.trace n item ran.made.blocks.items new.made.blocks.items) → AnswersSome result options m (held old ++ item ∷ []) old new h j w y
  answered_behind u (Ok v) options m item old ran new h i j w x y untraced s first takes same none then_wrote then_takes keeps =
      let there : Shows ran.made.world (fold (step options.marks) m (held old)) = takes options.marks m s in
      let block : new.made.blocks.items ≡ ran.made.blocks.items = unkept options.trace untraced _ item _ _ (keeps _ there) in
      answered_all (Ok v) options m (held old ++ item ∷ []) old new h j w y
      (wrote_behind u (Ok v) options.marks m (held old) (item ∷ []) h i j w x y first (then_wrote (fold (step options.marks) m (held old)) there))
      (subst (Shows new.made.world) (sym (fold-append (step options.marks) m (held old) (item ∷ []))) (then_takes options.marks (fold (step options.marks) m (held old)) there)) none
      (keeps_none options.trace options.marks m (held old ++ item ∷ []) old.made.blocks.items new.made.blocks.items (block ∙ ap (λ bs. bs.items) same) (λ traced. absurd (let e : false ≡ true = sym untraced ∙ traced in cc)))
  answered_behind u (Err e) options m item old ran new h i j w x y untraced s first takes same none then_wrote then_takes keeps =
      answered_all (Err e) options m (held old ++ item ∷ []) old new h j w y
      (wrote_behind u (Err e) options.marks m (held old) (item ∷ []) h i j w x y first (then_wrote (fold (step options.marks) m (held old)) (takes options.marks m s))) tt tt tt
