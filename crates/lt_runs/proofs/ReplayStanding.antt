-- Where a replay stands.
use Rattle.std.proofs.Common.{◌≡◌, ◌⊎◌, ◌≤◌, ◌<◌, ◌+◌, ◌++◌, ◌∷◌, ◌∙◌, Bool, true, false, List, [], ℕ, length, refl, sym, ap, subst, inl, inr, append-nil, append_assoc, arith}
use Rattle.std.specs.Prelude.{Option, Some, None, fold}
use Rattle.std.specs.List.{AllByRecursion}
use Rattle.std.proofs.lemmas.List.{length-append}
use Rattle.std.proofs.lemmas.List.Sums.{fold-append}
use Rattle.std.proofs.KnownBytes.{Appends-trans, Consumes-nil, Consumes-trans}
use Rattle.std.specs.Io.KnownBytes.{Appends, Consumes, IsAtEnd, Keeps}
use Rattle.lt_blocks.specs.declared.block.Block.{Block}
use Rattle.lt_blocks.specs.Blocks.{blocks_text, script_text, IsBlock, IsTrace}
use Rattle.lt_model.specs.declared.syntax.Item.{Item}
use Rattle.lt_model.specs.declared.syntax.Item.TheVariants.{Batch}
use Rattle.lt_model.specs.Script.{Close, End, Fault, Script}
use Rattle.lt_model.specs.Report as model
use Rattle.lt_model.specs.Report.{close_text, opening, report, step}
use Rattle.lt_report.specs.Puts.{AppendsFront}
use Rattle.lt_report.specs.Traces.{bad_trace_text}
use Rattle.lt_report.proofs.Going.{Did, did_more, did_none}
use Rattle.lt_script.specs.declared.feed.Feed.{Feed}
use Rattle.lt_script.specs.Feed.{kept_of, Gives, HasFed, IsClosed, IsMore}
use Rattle.lt_script.proofs.Totality.{BeginsReading}
use Rattle.lt_runs.specs.declared.input.Taken.{Taken}
use Rattle.lt_runs.specs.declared.replay.Verdict.{Verdict}
use Rattle.lt_runs.specs.declared.replay.Verdict.TheVariants as verdicts
use Rattle.lt_runs.specs.declared.stop.Stop.{Stop}
use Rattle.lt_runs.specs.declared.stop.Stop.TheVariants as stops
use Rattle.lt_world.specs.declared.world.World.{World}
use Rattle.lt_runs.specs.Ends.{IsInput}
use Rattle.lt_runs.specs.Input.{limit}
use Rattle.lt_runs.specs.Reads.{ReadsOn, StopsGoing, TakesBeyond, TakesWithin}
use Rattle.lt_runs.specs.ReplayEnds.{AtBatch, AtEnd, IsLongReplayPart, IsReplayPart, IsReplayWritten, IsRightTrace, Leads, Items, Refused, Refuses, ReplayStopsAs, Whole}
use Rattle.lt_runs.specs.ReplaySteps.{front_of, Closes, ClosesPart, IsBegun, StopsRefusing, TakesInside, TakesOut, TakesOver}
use Rattle.lt_world.specs.Replays.{IsRightItem, IsWrongItem}
use Rattle.lt_world.specs.World.{said, Shows, Takes}
use Rattle.lt_runs.proofs.BlocksUsed.{none_left, refused_item, some_left, used_more, used_none, IsUsed}
use Rattle.lt_runs.proofs.Fed.{feeds_on, kept_few, none_more}
use Rattle.lt_world.proofs.Said.{step_says}
use Rattle.lt_runs.proofs.Steps.{left_to_do, less_taken}
use Rattle.lt_world.proofs.Writing.{did_kept, front_more, front_so_far}

abbrev Bytes : Type 0
Bytes = Option (List ℕ)

none_some : {A : Type 0} (x : A) → None ≡ Some x → ⊥
none_some x e = absurd cc

some_none : {A : Type 0} (x : A) → Some x ≡ None → ⊥
some_none x e = absurd cc

some_same : {A : Type 0} (x y : A) → Some x ≡ Some y → y ≡ x
some_same x y e = cc

-- A trace was read, and what was taken behind it was fed; the world stands behind the items that were answered, whose batches' blocks are
-- right; and what they say was written.
pub record StandsReplayed (marks : Bool) (blocks : List Block) (feed : Feed) (world : World) (taken : Taken) (l m : Bytes) (r s : ℕ) (h i : Bytes) (w x : ℕ) : Type 0 where
  pub bytes : List ℕ
  pub items : List Item
  pub blocks_within : AllByRecursion IsBlock blocks
  pub fed : HasFed feed bytes items
  pub shows : Shows world (fold (step marks) opening items)
  pub did : Did h i w x (fold (step marks) opening items).text
  pub consumed : Consumes l m (front_of blocks ++ bytes)
  pub counted : taken.count ≡ length (front_of blocks ++ bytes)
  pub within : taken.count ≤ limit
  pub ended : feed.ended ≡ taken.ended
  pub end : taken.ended ≡ true → IsAtEnd m
  pub later : r ≤ s
  pub used : IsUsed marks items blocks

-- before an item was answered
pub stands_first : (marks : Bool) (blocks : List Block) (feed : Feed) (world : World) (taken : Taken) (l m : Bytes) (r : ℕ) (h : Bytes) (w : ℕ) (count : ℕ) → IsBegun blocks count feed l m → Shows world opening → taken.count ≡ count → taken.ended ≡ false
    → StandsReplayed marks blocks feed world taken l m r r h h w w
stands_first marks blocks feed world taken l m r h w count b shows same on = record {
  bytes = b.script;
  items = [];
  blocks_within = b.blocks_within;
  fed = b.fed;
  shows = shows;
  did = did_none h w;
  consumed = b.consumed;
  counted = same ∙ b.counted;
  within = omega (arith, same, b.within);
  ended = b.open_still ∙ sym on;
  end = λ e. absurd (let f : false ≡ true = sym on ∙ e in cc);
  later = omega arith;
  used = used_none marks blocks;
}

-- the bytes are a trace
is_trace : (blocks : List Block) (script : List ℕ) → AllByRecursion IsBlock blocks → IsTrace (front_of blocks ++ script) blocks script
is_trace blocks script within = record { within = within; parts = append_assoc (blocks_text blocks) script_text script }

module _ (marks : Bool) (blocks : List Block) (feed : Feed) (world : World) (taken : Taken) (l m : Bytes) (r s : ℕ) (h i : Bytes) (w x : ℕ) (at : StandsReplayed marks blocks feed world taken l m r s h i w x) where
  -- where its fold stands
  abbrev here : model.World
  here = fold (step marks) opening at.items

  -- an item was answered and taken
  pub stands_item : (later_blocks : List Block) → later_blocks ≡ blocks → (new : Feed) (after : World) (item : Item) (j : Bytes) (y : ℕ) → Gives feed new at.bytes at.items item → new.ended ≡ feed.ended → Takes world item after → Appends i j (said marks here item) → x ≤ y
      → IsRightItem here item blocks → StandsReplayed marks later_blocks new after taken l m r s h j w y
  stands_item later_blocks stay new after item j y gives same takes wrote later right =
      subst (λ (bs : List Block). StandsReplayed marks bs new after taken l m r s h j w y) (sym stay)
      (record {
        bytes = at.bytes;
        items = at.items ++ item ∷ [];
        blocks_within = at.blocks_within;
        fed = gives.fed;
        shows = subst (Shows after) (sym (fold-append (step marks) opening at.items (item ∷ []))) (takes marks here at.shows);
        did =
            did_more h i j w x y here.text (said marks here item) (fold (step marks) opening (at.items ++ item ∷ [])).text at.did wrote later
            (ap (λ (v : model.World). v.text) (fold-append (step marks) opening at.items (item ∷ [])) ∙ step_says marks here item);
        consumed = at.consumed;
        counted = at.counted;
        within = at.within;
        ended = same ∙ at.ended;
        end = at.end;
        later = at.later;
        used = used_more marks at.items item blocks at.used right;
      })

  -- more was read
  pub stands_more : (old new : Feed) (next : Taken) (n : Bytes) (q : ℕ) (j : Bytes) (y : ℕ) → HasFed old at.bytes at.items → ReadsOn old new taken.count next m n → s ≤ q → Keeps i j → x ≤ y
      → StandsReplayed marks blocks new world next l n r q h j w y
  stands_more old new next n q j y fed reads later kept sink_later =
      let more = append_assoc (front_of blocks) at.bytes reads.piece in
      record {
        bytes = at.bytes ++ reads.piece;
        items = at.items;
        blocks_within = at.blocks_within;
        fed = reads.fed at.bytes at.items fed;
        shows = at.shows;
        did = did_kept h i j w x y here.text at.did kept sink_later;
        consumed = subst (Consumes l n) more (Consumes-trans l m n (front_of blocks ++ at.bytes) reads.piece at.consumed reads.consumed);
        counted = subst (λ (bs : List ℕ). next.count ≡ length bs) more (omega (arith, reads.counted, at.counted, length-append (front_of blocks ++ at.bytes) reads.piece));
        within = reads.within;
        ended = reads.ended;
        end = reads.end;
        later = omega (arith, at.later, later);
        used = at.used;
      }

  -- so less is left to do
  pub less_more : (old new : Feed) (next : Taken) (n : Bytes) → HasFed old at.bytes at.items → feed.ended ≡ false → ReadsOn old new taken.count next m n
      → left_to_do next.ended next.count (length (kept_of new)) < left_to_do taken.ended taken.count (length (kept_of feed))
  less_more old new next n fed before reads =
      let few : length (kept_of new) ≤ length (at.bytes ++ reads.piece) = kept_few new (at.bytes ++ reads.piece) at.items (reads.fed at.bytes at.items fed) in
      let within : length (kept_of new) ≤ next.count = omega (arith, few, reads.counted, at.counted, length-append at.bytes reads.piece, length-append (front_of blocks) at.bytes) in
      subst (λ (b : Bool). left_to_do next.ended next.count (length (kept_of new)) < left_to_do b taken.count (length (kept_of feed))) (sym (sym at.ended ∙ before))
      (less_taken next.ended taken.count next.count (length (kept_of feed)) (length (kept_of new)) reads.some within reads.within)

  -- ---- what is written

  -- all that was taken, and what was taken behind it
  abbrev all : List ℕ → List ℕ
  all piece = front_of blocks ++ (at.bytes ++ piece)

  taken_all : (n : Bytes) (piece : List ℕ) → Consumes m n piece → Consumes l n (all piece)
  taken_all n piece c = subst (Consumes l n) (append_assoc (front_of blocks) at.bytes piece) (Consumes-trans l m n (front_of blocks ++ at.bytes) piece at.consumed c)

  long_all : (piece : List ℕ) → length (all piece) ≡ taken.count + length piece
  long_all piece = omega (arith, at.counted, length-append (front_of blocks) (at.bytes ++ piece), length-append at.bytes piece, length-append (front_of blocks) at.bytes)

  trace_all : (piece : List ℕ) → IsTrace (all piece) blocks (at.bytes ++ piece)
  trace_all piece = is_trace blocks (at.bytes ++ piece) at.blocks_within

  end_text : here.text ≡ report marks at.items End
  end_text = sym (append-nil here.text)

  -- behind these items
  leads_here : (piece : List ℕ) → BeginsReading (at.bytes ++ piece) at.items → Leads marks (all piece) (report marks at.items End)
  leads_here piece b = Items blocks (at.bytes ++ piece) (trace_all piece) at.items b.more b.close b.is_script at.used.used at.used.rest at.used.parts at.used.right

  front_here : (j : Bytes) → Keeps i j → AppendsFront h j (report marks at.items End)
  front_here j kept =
      let d = did_kept h i j w x x here.text at.did kept (omega arith) in
      front_so_far h j w x here.text (report marks at.items End) [] d refl

  part_of : (n j : Bytes) (piece : List ℕ) → Consumes m n piece → taken.count + length piece ≤ limit → (text : List ℕ) → Leads marks (all piece) text → AppendsFront h j text → IsReplayPart marks l n h j
  part_of n j piece c few text leads wrote = record { bytes = all piece; taken = taken_all n piece c; within = omega (arith, few, long_all piece); text = text; leads = leads; written = wrote }

  long_part_of : (n j : Bytes) (piece : List ℕ) → Consumes m n piece → limit < taken.count + length piece → (text : List ℕ) → Leads marks (all piece) text → AppendsFront h j text → IsLongReplayPart marks l n h j
  long_part_of n j piece c many text leads wrote = record { bytes = all piece; taken = taken_all n piece c; beyond = omega (arith, many, long_all piece); text = text; leads = leads; written = wrote }

  none_within : taken.count + length (let none : List ℕ = [] in none) ≤ limit
  none_within = omega (arith, at.within)

  fed_on : (old : Feed) → HasFed old at.bytes at.items → (piece : List ℕ) → IsMore old.ended piece → BeginsReading (at.bytes ++ piece) at.items
  fed_on old fed piece may = feeds_on old at.bytes at.items fed piece may

  -- ---- it stops

  -- no memory was there for the next item
  pub part_here : IsReplayPart marks l m h i
  part_here = part_of m i [] (Consumes-nil m) none_within (report marks at.items End) (leads_here [] (fed_on feed at.fed [] (none_more feed.ended))) (front_so_far h i w x here.text (report marks at.items End) [] at.did refl)

  -- in the next item
  pub part_item : (new : Feed) (item : Item) (j : Bytes) → Gives feed new at.bytes at.items item → AppendsFront i j (said marks here item) → IsRightItem here item blocks ⊎ Keeps i j → IsReplayPart marks l m h j
  part_item new item j gives wrote (inl right) =
      let more = used_more marks at.items item blocks at.used right in
      let b = feeds_on new at.bytes (at.items ++ item ∷ []) gives.fed [] (none_more new.ended) in
      let text : report marks (at.items ++ item ∷ []) End ≡ (here.text ++ said marks here item) ++ [] =
      ap (λ (v : model.World). v.text ++ close_text End) (fold-append (step marks) opening at.items (item ∷ [])) ∙ ap (λ (t : List ℕ). t ++ close_text End) (step_says marks here item) in
      part_of m j [] (Consumes-nil m) none_within (report marks (at.items ++ item ∷ []) End)
      (Items blocks (at.bytes ++ []) (trace_all []) (at.items ++ item ∷ []) b.more b.close b.is_script more.used more.rest more.parts more.right)
      (front_more h i j w x here.text (said marks here item) (report marks (at.items ++ item ∷ []) End) [] at.did wrote text)
  part_item new item j gives wrote (inr kept) =
      let b = feeds_on new at.bytes (at.items ++ item ∷ []) gives.fed [] (none_more new.ended) in
      part_of m j [] (Consumes-nil m) none_within (report marks at.items End)
      (leads_here [] (record { more = item ∷ b.more; close = b.close; is_script = subst (λ (is : List Item). Script (at.bytes ++ []) is b.close) (append_assoc at.items (item ∷ []) b.more) b.is_script }))
      (front_here j kept)

  -- as no more was read
  pub stops_going : (old : Feed) (stop : Stop) (n : Bytes) (q : ℕ) (j : Bytes) (y : ℕ) → HasFed old at.bytes at.items → old.ended ≡ false → StopsGoing stop taken.count m n s q x y → s ≤ q → Keeps i j → x ≤ y
      → ReplayStopsAs marks stop l n r q h j w y
  stops_going old stop n q j y fed before how later kept sink_later = go stop how
    where
      leads : (piece : List ℕ) → Leads marks (all piece) (report marks at.items End)
      leads piece = leads_here piece (fed_on old fed piece (subst (λ (b : Bool). IsMore b piece) (sym before) tt))

      inside : TakesWithin taken.count m n → IsReplayPart marks l n h j
      inside p = part_of n j p.0 p.1 p.2 (report marks at.items End) (leads p.0) (front_here j kept)

      over : TakesBeyond taken.count m n → IsLongReplayPart marks l n h j
      over p = long_part_of n j p.0 p.1 p.2 (report marks at.items End) (leads p.0) (front_here j kept)

      go : (e : Stop) → StopsGoing e taken.count m n s q x y → ReplayStopsAs marks e l n r q h j w y
      go stops.NoMemory p = inside p
      go stops.ReadFailed p = (omega (arith, at.later, p.0), inside p.1)
      go stops.WriteFailed p = (omega (arith, at.did.later, p.0), inside p.1)
      go stops.TooLong p = over p

  -- ---- the trace isn't right at the next batch

  module _ (new : Feed) (item : Item) (place batch : ℕ) (gives : Gives feed new at.bytes at.items item) (wrong : IsWrongItem here item blocks place) (number : batch ≡ length here.versions + 1) (same : new.ended ≡ feed.ended) where
    refuses_item : (piece : List ℕ) → IsMore taken.ended piece → Refuses marks (all piece) (report marks at.items End ++ bad_trace_text batch place)
    refuses_item piece may =
        let bad = refused_item marks at.items item blocks place at.used wrong in
        let b = feeds_on new at.bytes (at.items ++ item ∷ []) gives.fed piece (subst (λ (e : Bool). IsMore e piece) (sym (same ∙ at.ended)) may) in
        let script : Script (at.bytes ++ piece) (at.items ++ Batch bad.programs ∷ b.more) b.close =
        subst (λ (is : List Item). Script (at.bytes ++ piece) is b.close) (append_assoc at.items (item ∷ []) b.more ∙ ap (λ (it : Item). at.items ++ it ∷ b.more) bad.is) b.is_script in
        subst (λ (n : ℕ). Refuses marks (all piece) (report marks at.items End ++ bad_trace_text n place)) (sym number)
        (AtBatch blocks (at.bytes ++ piece) (trace_all piece) at.items b.more bad.programs b.close script place bad.refused)

    abbrev text : List ℕ
    text = report marks at.items End ++ bad_trace_text batch place

    pub refused_written : (n j k : Bytes) → Appends i j [] → TakesOut taken.ended taken.count m n → Appends j k (bad_trace_text batch place) → IsReplayWritten marks verdicts.BadTrace l n h k
    refused_written n j k none out told = record {
      bytes = all out.piece;
      input = record { consumed = taken_all n out.piece out.consumed; end = out.end; within = omega (arith, out.within, long_all out.piece) };
      text = text;
      refuses = refuses_item out.piece out.behind;
      written =
          subst (λ (t : List ℕ). Appends h k (t ++ bad_trace_text batch place)) (append-nil here.text ∙ end_text)
          (Appends-trans h j k (here.text ++ []) (bad_trace_text batch place) (Appends-trans h i j here.text [] at.did.written none) told);
    }

    pub refused_stops : (stop : Stop) (n j k : Bytes) (q v y : ℕ) → Appends i j [] → x ≤ v → s ≤ q → v ≤ y → StopsRefusing stop taken.ended taken.count m n s q v y → AppendsFront j k (bad_trace_text batch place) → ReplayStopsAs marks stop l n r q h k w y
    refused_stops stop n j k q v y none before later sink_later how told = go stop how
      where
        wrote : AppendsFront h k text
        wrote =
            front_more h j k w v here.text (bad_trace_text batch place) text []
            (record {
              written = subst (Appends h j) (append-nil here.text) (Appends-trans h i j here.text [] at.did.written none);
              later = omega (arith, at.did.later, before);
            })
            told (ap (λ (t : List ℕ). t ++ bad_trace_text batch place) (sym end_text) ∙ sym (append-nil (here.text ++ bad_trace_text batch place)))

        leads : (piece : List ℕ) → IsMore taken.ended piece → Leads marks (all piece) text
        leads piece may = Refused text (refuses_item piece may)

        inside : TakesInside taken.ended taken.count m n → IsReplayPart marks l n h k
        inside p = part_of n k p.0 p.1 p.3 text (leads p.0 p.2) wrote

        over : TakesOver taken.ended taken.count m n → IsLongReplayPart marks l n h k
        over p = long_part_of n k p.0 p.1 p.3 text (leads p.0 p.2) wrote

        go : (e : Stop) → StopsRefusing e taken.ended taken.count m n s q v y → ReplayStopsAs marks e l n r q h k w y
        go stops.NoMemory p = inside p
        go stops.ReadFailed p = (omega (arith, at.later, p.0), inside p.1)
        go stops.WriteFailed p = (omega (arith, at.did.later, before, p.0), inside p.1)
        go stops.TooLong p = over p

  -- ---- behind the last item

  module _ (j : Bytes) (closed : Close) (script : Script at.bytes at.items closed) where
    is_script : Script (at.bytes ++ []) at.items closed
    is_script = subst (λ (bs : List ℕ). Script bs at.items closed) (sym (append-nil at.bytes)) script

    all_input : taken.ended ≡ true → IsInput l m (all [])
    all_input e = record { consumed = taken_all m [] (Consumes-nil m); end = at.end e; within = let few = none_within in omega (arith, few, long_all []) }

    left_refuses : length here.versions < length blocks → Refuses marks (all []) (report marks at.items End ++ bad_trace_text (length here.versions + 1) 0)
    left_refuses more = AtEnd blocks (at.bytes ++ []) (trace_all []) at.items closed is_script (some_left marks at.items blocks at.used more)

    left_written : taken.ended ≡ true → length here.versions < length blocks → Appends i j (bad_trace_text (length here.versions + 1) 0) → IsReplayWritten marks verdicts.BadTrace l m h j
    left_written e more told = record {
      bytes = all [];
      input = all_input e;
      text = report marks at.items End ++ bad_trace_text (length here.versions + 1) 0;
      refuses = left_refuses more;
      written = subst (λ (t : List ℕ). Appends h j (t ++ bad_trace_text (length here.versions + 1) 0)) end_text (Appends-trans h i j here.text (bad_trace_text (length here.versions + 1) 0) at.did.written told);
    }

    right_trace : length blocks ≤ length here.versions → IsRightTrace marks (all []) at.items closed
    right_trace few = record { blocks = blocks; script = at.bytes ++ []; trace = trace_all []; script_is = is_script; right = none_left marks at.items blocks at.used few }

    left_part : length here.versions < length blocks → AppendsFront i j (bad_trace_text (length here.versions + 1) 0) → IsReplayPart marks l m h j
    left_part more told =
        let text : List ℕ = report marks at.items End ++ bad_trace_text (length here.versions + 1) 0 in
        part_of m j [] (Consumes-nil m) none_within text (Refused text (left_refuses more))
        (front_more h i j w x here.text (bad_trace_text (length here.versions + 1) 0) text [] at.did told
        (ap (λ (t : List ℕ). t ++ bad_trace_text (length here.versions + 1) 0) (sym end_text) ∙ sym (append-nil (here.text ++ bad_trace_text (length here.versions + 1) 0))))

    whole_part : length blocks ≤ length here.versions → AppendsFront i j (close_text closed) → IsReplayPart marks l m h j
    whole_part few told =
        part_of m j [] (Consumes-nil m) none_within (report marks at.items closed) (Whole at.items closed (right_trace few))
        (front_more h i j w x here.text (close_text closed) (report marks at.items closed) [] at.did told (sym (append-nil (report marks at.items closed))))

  -- the script has no fault
  pub end_written : (j : Bytes) (verdict : Verdict) → taken.ended ≡ true → Script at.bytes at.items End → Closes verdict (length here.versions) (length blocks) None i j → IsReplayWritten marks verdict l m h j
  end_written j verdicts.Good e script c = record {
    bytes = all [];
    input = all_input j End script e;
    items = at.items;
    trace = right_trace j End script c.0;
    written = Appends-trans h i j here.text [] at.did.written c.2;
  }
  end_written j verdicts.Faulty e script c = absurd (none_some c.1 c.2)
  end_written j verdicts.BadTrace e script c = left_written j End script e c.0 c.1

  pub end_part : (j : Bytes) → Script at.bytes at.items End → ClosesPart (length here.versions) (length blocks) None i j → IsReplayPart marks l m h j
  end_part j script (inl p) = left_part j End script p.0 p.1
  end_part j script (inr p) = absurd (none_some p.1 p.2)

  -- it has one
  module _ (line code : ℕ) (closed : IsClosed feed.ended at.bytes at.items (Fault line code)) where
    fault_script : Script at.bytes at.items (Fault line code)
    fault_script = subst (λ (bs : List ℕ). Script bs at.items (Fault line code)) (append-nil at.bytes) (closed [] (none_more feed.ended))

    pub fault_written : (j : Bytes) (verdict : Verdict) → taken.ended ≡ true → Closes verdict (length here.versions) (length blocks) (Some (line, code)) i j → IsReplayWritten marks verdict l m h j
    fault_written j verdicts.Good e c = absurd (some_none (line, code) c.1)
    fault_written j verdicts.Faulty e c = record {
      bytes = all [];
      input = all_input j (Fault line code) fault_script e;
      items = at.items;
      line = line;
      code = code;
      trace = right_trace j (Fault line code) fault_script c.0;
      written =
          let is = some_same (line, code) c.1 c.2 in
          Appends-trans h i j here.text (close_text (Fault line code)) at.did.written (subst (λ (t : ℕ × ℕ). Appends i j (close_text (Fault t.0 t.1))) is c.3);
    }
    fault_written j verdicts.BadTrace e c = left_written j (Fault line code) fault_script e c.0 c.1

    pub fault_part : (j : Bytes) → ClosesPart (length here.versions) (length blocks) (Some (line, code)) i j → IsReplayPart marks l m h j
    fault_part j (inl p) = left_part j (Fault line code) fault_script p.0 p.1
    fault_part j (inr p) =
        let is = some_same (line, code) p.1 p.2 in
        whole_part j (Fault line code) fault_script p.0 (subst (λ (t : ℕ × ℕ). AppendsFront i j (close_text (Fault t.0 t.1))) is p.3)
