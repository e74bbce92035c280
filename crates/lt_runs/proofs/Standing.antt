-- Where a script stands that is run as it comes.
use Rattle.std.proofs.Common.{◌≡◌, ◌≤◌, ◌<◌, ◌++◌, ◌∷◌, ◌∙◌, Bool, true, false, List, [], ℕ, length, sym, ap, subst, append-nil, append_assoc, Ok, arith}
use Rattle.std.specs.Prelude.{Option, fold}
use Rattle.std.proofs.lemmas.List.{length-append}
use Rattle.std.proofs.lemmas.List.Sums.{fold-append}
use Rattle.std.proofs.KnownBytes.{Consumes-nil, Consumes-trans}
use Rattle.std.specs.Io.KnownBytes.{Appends, Consumes, IsAtEnd, Keeps}
use Rattle.lt_model.specs.declared.syntax.Item.{Item}
use Rattle.lt_model.specs.Script.{End, Fault, Script}
use Rattle.lt_model.specs.Report as model
use Rattle.lt_model.specs.Report.{close_text, opening, step}
use Rattle.lt_report.specs.Puts.{AppendsFront}
use Rattle.lt_report.proofs.Going.{Did, did_more, did_none}
use Rattle.lt_script.specs.declared.feed.Feed.{Feed}
use Rattle.lt_script.specs.Feed.{kept_of, Gives, HasFed, IsClosed, IsMore}
use Rattle.lt_runs.specs.declared.input.Taken.{Taken}
use Rattle.lt_runs.specs.declared.stop.Stop.{Stop}
use Rattle.lt_world.specs.declared.world.World.{World}
use Rattle.lt_runs.specs.Input.{limit}
use Rattle.lt_runs.specs.Reads.{ReadsOn, StopsGoing}
use Rattle.lt_runs.specs.Reports.{IsFrontOf}
use Rattle.lt_runs.specs.Ends.{IsInput, IsPart, IsWritten, StopsAs}
use Rattle.lt_blocks.specs.declared.block.Block.{Block}
use Rattle.lt_world.specs.Lines.{said_all}
use Rattle.lt_world.specs.Traces.{AreKept, KeepsBlocks}
use Rattle.lt_world.specs.World.{Shows}
use Rattle.lt_world.specs.Writing.{Writes}
use Rattle.lt_runs.proofs.Answered.{fold_says}
use Rattle.lt_world.proofs.Traced.{keeps_none, kept_all, kept_none}
use Rattle.lt_runs.proofs.Ends.{by_going}
use Rattle.lt_runs.proofs.Fed.{fed_reading, feeds_on, kept_few, none_more}
use Rattle.lt_runs.proofs.Fronts.{begins_less, front_fault, front_here, front_next, report_ends, report_faults}
use Rattle.lt_runs.proofs.Steps.{left_to_do, less_taken}
use Rattle.lt_world.proofs.Writing.{did_kept}

abbrev Bytes : Type 0
Bytes = Option (List ℕ)

-- What was taken was fed, the world stands behind the items that were answered, what they say was written, and their blocks were
-- kept. The last items wait.
pub record Stands (trace : Bool) (blocks : List Block) (marks : Bool) (feed : Feed) (world : World) (waiting : List Item) (taken : Taken) (l m : Bytes) (r s : ℕ) (h i : Bytes) (w x : ℕ) : Type 0 where
  pub bytes : List ℕ
  pub items : List Item
  pub fed : HasFed feed bytes (items ++ waiting)
  pub shows : Shows world (fold (step marks) opening items)
  pub did : Did h i w x (fold (step marks) opening items).text
  pub consumed : Consumes l m bytes
  pub counted : taken.count ≡ length bytes
  pub within : taken.count ≤ limit
  pub ended : feed.ended ≡ taken.ended
  pub end : taken.ended ≡ true → IsAtEnd m
  pub later : r ≤ s
  pub kept : AreKept trace marks items blocks

-- before anything was read
pub stands_first : (trace : Bool) (blocks : List Block) → blocks ≡ [] → (marks : Bool) (feed : Feed) (world : World) (taken : Taken) (l : Bytes) (r : ℕ) (h : Bytes) (w : ℕ) → HasFed feed [] [] → feed.ended ≡ false → Shows world opening → taken.count ≡ 0 → taken.ended ≡ false
    → Stands trace blocks marks feed world [] taken l l r r h h w w
stands_first trace blocks empty marks feed world taken l r h w fed before shows none on = record {
  bytes = [];
  items = [];
  fed = fed;
  shows = shows;
  did = did_none h w;
  consumed = Consumes-nil l;
  counted = none;
  within = omega (arith, none);
  ended = before ∙ sym on;
  end = λ e. absurd (let f : false ≡ true = sym on ∙ e in cc);
  later = omega arith;
  kept = kept_none trace marks blocks empty;
}

module _ (trace : Bool) (blocks : List Block) (marks : Bool) (feed : Feed) (world : World) (waiting : List Item) (taken : Taken) (l m : Bytes) (r s : ℕ) (h i : Bytes) (w x : ℕ) (at : Stands trace blocks marks feed world waiting taken l m r s h i w x) where
  -- where its fold stands
  abbrev here : model.World
  here = fold (step marks) opening at.items

  -- all that was taken in
  abbrev pub all : List Item
  all = at.items ++ waiting

  -- some of the items that wait, or come next, were answered
  pub stands_on : (new : Feed) (after : World) (later_blocks : List Block) (next front held : List Item) (j : Bytes) (y : ℕ) → HasFed new at.bytes (at.items ++ next) → new.ended ≡ feed.ended → next ≡ front ++ held
      → Shows after (fold (step marks) here front) → Appends i j (said_all marks here front) → x ≤ y → KeepsBlocks trace marks here front blocks later_blocks → Stands trace later_blocks marks new after held taken l m r s h j w y
  stands_on new after later_blocks next front held j y fed same parts shows wrote later keeps = record {
    bytes = at.bytes;
    items = at.items ++ front;
    fed = subst (HasFed new at.bytes) (ap (λ (is : List Item). at.items ++ is) parts ∙ sym (append_assoc at.items front held)) fed;
    shows = subst (Shows after) (sym (fold-append (step marks) opening at.items front)) shows;
    did =
        did_more h i j w x y here.text (said_all marks here front) (fold (step marks) opening (at.items ++ front)).text at.did wrote later
        (ap (λ (v : model.World). v.text) (fold-append (step marks) opening at.items front) ∙ fold_says marks here front);
    consumed = at.consumed;
    counted = at.counted;
    within = at.within;
    ended = same ∙ at.ended;
    end = at.end;
    later = at.later;
    kept = kept_all trace marks at.items front blocks later_blocks at.kept keeps;
  }

  -- those that wait were answered
  pub stands_run : {T : Type 0} (v : T) (new : Feed) (after : World) (later_blocks : List Block) (j : Bytes) (y : ℕ) → HasFed new at.bytes all → new.ended ≡ feed.ended → Shows after (fold (step marks) here waiting)
      → Writes {T = T} (Ok v) i j x y (said_all marks here waiting) → later_blocks ≡ blocks → (trace ≡ true → waiting ≡ []) → Stands trace later_blocks marks new after [] taken l m r s h j w y
  stands_run v new after later_blocks j y fed same shows wrote kept none =
      stands_on new after later_blocks waiting waiting [] j y fed same (sym (append-nil waiting)) shows wrote.ok wrote.later (keeps_none trace marks here waiting blocks later_blocks kept none)

  -- behind an item that was taken in
  pub fed_more : (new : Feed) (item : Item) → Gives feed new at.bytes all item → HasFed new at.bytes (at.items ++ (waiting ++ item ∷ []))
  fed_more new item gives = subst (HasFed new at.bytes) (append_assoc at.items waiting (item ∷ [])) gives.fed

  -- more was read
  pub stands_more : (old new : Feed) (next : Taken) (n : Bytes) (q : ℕ) (j : Bytes) (y : ℕ) → HasFed old at.bytes all → ReadsOn old new taken.count next m n → s ≤ q → Keeps i j → x ≤ y
      → Stands trace blocks marks new world waiting next l n r q h j w y
  stands_more old new next n q j y fed reads later kept sink_later = record {
    bytes = at.bytes ++ reads.piece;
    items = at.items;
    fed = reads.fed at.bytes all fed;
    shows = at.shows;
    did = did_kept h i j w x y here.text at.did kept sink_later;
    consumed = Consumes-trans l m n at.bytes reads.piece at.consumed reads.consumed;
    counted = omega (arith, reads.counted, at.counted, length-append at.bytes reads.piece);
    within = reads.within;
    ended = reads.ended;
    end = reads.end;
    later = omega (arith, at.later, later);
    kept = at.kept;
  }

  -- so less is left to do
  pub less_more : (old new : Feed) (next : Taken) (n : Bytes) → HasFed old at.bytes all → feed.ended ≡ false → ReadsOn old new taken.count next m n
      → left_to_do next.ended next.count (length (kept_of new)) < left_to_do taken.ended taken.count (length (kept_of feed))
  less_more old new next n fed before reads =
      let few : length (kept_of new) ≤ length (at.bytes ++ reads.piece) = kept_few new (at.bytes ++ reads.piece) all (reads.fed at.bytes all fed) in
      let within : length (kept_of new) ≤ next.count = omega (arith, few, reads.counted, at.counted, length-append at.bytes reads.piece) in
      subst (λ (b : Bool). left_to_do next.ended next.count (length (kept_of new)) < left_to_do b taken.count (length (kept_of feed))) (sym (sym at.ended ∙ before))
      (less_taken next.ended taken.count next.count (length (kept_of feed)) (length (kept_of new)) reads.some within reads.within)

  -- ---- it stops

  part_of : (j : Bytes) → IsFrontOf marks at.bytes h j → IsPart marks l m h j
  part_of j front = record { bytes = at.bytes; taken = at.consumed; within = omega (arith, at.counted, at.within); front = front }

  -- behind these items
  pub part_here : IsPart marks l m h i
  part_here = part_of i (front_here marks at.bytes at.items h i w x at.did (begins_less at.bytes at.items waiting (fed_reading feed at.bytes all at.fed)))

  -- in the items that wait or come next
  pub part_next : (new : Feed) (next : List Item) (j : Bytes) → HasFed new at.bytes (at.items ++ next) → AppendsFront i j (said_all marks here next) → IsPart marks l m h j
  part_next new next j fed wrote = part_of j (front_next marks at.bytes at.items h i w x at.did next j (fed_reading new at.bytes (at.items ++ next) fed) wrote)

  -- as no more was read
  pub stops_going : (old : Feed) (stop : Stop) (n : Bytes) (q : ℕ) (j : Bytes) (y : ℕ) → HasFed old at.bytes all → old.ended ≡ false → StopsGoing stop taken.count m n s q x y → s ≤ q → Keeps i j → x ≤ y
      → StopsAs marks stop l n r q h j w y
  stops_going old stop n q j y fed before stops later kept sink_later =
      by_going marks l n r q h j w y stop m s x taken.count at.bytes at.consumed at.counted at.later at.did.later
      (λ piece. front_here marks (at.bytes ++ piece) at.items h j w y (did_kept h i j w x y here.text at.did kept sink_later) (begins_less (at.bytes ++ piece) at.items waiting (feeds_on old at.bytes all fed piece (subst (λ (b : Bool). IsMore b piece) (sym before) tt))))
      stops

  -- ---- it ends

  -- the input is what was taken
  input : taken.ended ≡ true → IsInput l m at.bytes
  input e = record { consumed = at.consumed; end = at.end e; within = omega (arith, at.counted, at.within) }

  -- those that wait were answered, and then the script ends
  module _ {T : Type 0} (v : T) (later_blocks : List Block) (j : Bytes) (y : ℕ) (wrote : Writes {T = T} (Ok v) i j x y (said_all marks here waiting)) (same : later_blocks ≡ blocks) (none : trace ≡ true → waiting ≡ []) where
    did_all : Did h j w y (fold (step marks) opening all).text
    did_all =
        did_more h i j w x y here.text (said_all marks here waiting) (fold (step marks) opening all).text at.did wrote.ok wrote.later
        (ap (λ (u : model.World). u.text) (fold-append (step marks) opening at.items waiting) ∙ fold_says marks here waiting)

    kept_here : AreKept trace marks all later_blocks
    kept_here = kept_all trace marks at.items waiting blocks later_blocks at.kept (keeps_none trace marks here waiting blocks later_blocks same none)

    pub ran_written : feed.ended ≡ true → Script at.bytes all End → IsWritten trace marks false later_blocks l m h j
    ran_written e script = (at.bytes, input (sym at.ended ∙ e), report_ends marks at.bytes all h j w y did_all trace later_blocks kept_here script)

    -- or its fault stands there
    module _ (line code : ℕ) (closed : IsClosed feed.ended at.bytes all (Fault line code)) where
      is_script : Script at.bytes all (Fault line code)
      is_script = subst (λ (bs : List ℕ). Script bs all (Fault line code)) (append-nil at.bytes) (closed [] (none_more feed.ended))

      pub ran_fault_written : (k : Bytes) → taken.ended ≡ true → Appends j k (close_text (Fault line code)) → IsWritten trace marks true later_blocks l m h k
      ran_fault_written k e more = (at.bytes, input e, report_faults marks at.bytes all h j w y did_all trace later_blocks kept_here line code k is_script more)

      pub ran_part_fault : (k : Bytes) → AppendsFront j k (close_text (Fault line code)) → IsPart marks l m h k
      ran_part_fault k more = part_of k (front_fault marks at.bytes all h j w y did_all line code k is_script more)

-- as none waits
pub stands_none : {trace : Bool} {blocks : List Block} {marks : Bool} {feed : Feed} {world : World} {taken : Taken} {l m : Bytes} {r s : ℕ} {h i : Bytes} {w x : ℕ} → (waiting : List Item) → waiting ≡ [] → Stands trace blocks marks feed world [] taken l m r s h i w x
    → Stands trace blocks marks feed world waiting taken l m r s h i w x
stands_none {trace} {blocks} {marks} {feed} {world} {taken} {l} {m} {r} {s} {h} {i} {w} {x} waiting none at =
    subst (λ (is : List Item). Stands trace blocks marks feed world is taken l m r s h i w x) (sym none) at
