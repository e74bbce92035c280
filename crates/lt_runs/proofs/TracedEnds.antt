-- What was read and what was written, as a run ends behind whose report blocks are written.
use Rattle.std.proofs.Common.{◌≡◌, ◌++◌, ◌∙◌, Bool, true, false, List, [], ℕ, inl, inr, sym, ap, subst, append-nil, append_assoc}
use Rattle.std.specs.Prelude.{Option}
use Rattle.std.proofs.KnownBytes.{Appends-trans}
use Rattle.std.specs.Io.KnownBytes.{Appends}
use Rattle.lt_blocks.specs.declared.block.Block.{Block}
use Rattle.lt_blocks.specs.Blocks.{blocks_text}
use Rattle.lt_edges.specs.Causes.{Rose}
use Rattle.lt_model.specs.declared.syntax.Item.{Item}
use Rattle.lt_model.specs.Script.{Close, End, Fault, Script}
use Rattle.lt_model.specs.Report.{report}
use Rattle.lt_report.specs.Puts.{AppendsFront}
use Rattle.lt_runs.specs.declared.status.Status.TheVariants.{Done, Faulty, WriteFault}
use Rattle.lt_runs.specs.declared.stop.Stop.{Stop}
use Rattle.lt_runs.specs.declared.stop.Stop.TheVariants as stops
use Rattle.lt_runs.specs.Statuses.{stopped_as}
use Rattle.lt_runs.specs.Reports.{is_fault, IsReportOf}
use Rattle.lt_runs.specs.Ends.{IsInput, IsPart, StopsAs}
use Rattle.lt_world.specs.Traces.{AreKept}
use Rattle.lt_runs.specs.TracedEnds.{IsTracedPart, RunEndsAs}

abbrev Bytes : Type 0
Bytes = Option (List ℕ)

-- ---- a stop before the report's end

pub traced_part : (marks : Bool) (l m h i : Bytes) → IsPart marks l m h i → IsTracedPart marks l m h i
traced_part marks l m h i p = record { bytes = p.bytes; taken = p.taken; within = p.within; front = inl p.front }

module _ (marks : Bool) (l m : Bytes) (r s : ℕ) (h i : Bytes) (w x : ℕ) where
  pub by_stop : (trace : Bool) (stop : Stop) → StopsAs marks stop l m r s h i w x → RunEndsAs trace marks (stopped_as stop) l m r s h i w x
  by_stop true stops.NoMemory p = traced_part marks l m h i p
  by_stop false stops.NoMemory p = p
  by_stop true stops.ReadFailed p = (p.0, traced_part marks l m h i p.1)
  by_stop false stops.ReadFailed p = p
  by_stop true stops.WriteFailed p = (p.0, traced_part marks l m h i p.1)
  by_stop false stops.WriteFailed p = p
  by_stop true stops.TooLong p = ((p.bytes, p.taken, p.beyond), p)
  by_stop false stops.TooLong p = ((p.bytes, p.taken, p.beyond), p)

-- ---- the end

behind : (h i j : Bytes) (text more : List ℕ) → Appends h i text → Appends i j more → Appends h j (text ++ more)
behind h i j text more a b = Appends-trans h i j text more a b

none_behind : (h i j : Bytes) (text : List ℕ) (blocks : List Block) → Appends h i text → blocks ≡ [] → Appends i j (blocks_text blocks) → Appends h j text
none_behind h i j text blocks a e b = subst (Appends h j) (ap (λ (bs : List Block). text ++ blocks_text bs) e ∙ append-nil text) (Appends-trans h i j text (blocks_text blocks) a b)

module _ (marks : Bool) (l m h i j : Bytes) (bytes : List ℕ) (all : IsInput l m bytes) (blocks : List Block) (wrote : Appends i j (blocks_text blocks)) (r s w x : ℕ) where
  done : (trace : Bool) (items : List Item) (close : Close) → Script bytes items close → false ≡ is_fault close → Appends h i (report marks items close) → AreKept trace marks items blocks → RunEndsAs trace marks Done l m r s h j w x
  done true items End script f a kept = record { bytes = bytes; input = all; items = items; script = script; blocks = blocks; are_blocks = kept; written = behind h i j (report marks items End) (blocks_text blocks) a wrote }
  done false items End script f a kept = record { bytes = bytes; input = all; items = items; script = script; written = none_behind h i j (report marks items End) blocks a kept wrote }
  done trace items (Fault line code) script f a kept = absurd (let e : false ≡ true = f in cc)

  faulted : (trace : Bool) (items : List Item) (close : Close) → Script bytes items close → true ≡ is_fault close → Appends h i (report marks items close) → AreKept trace marks items blocks → RunEndsAs trace marks Faulty l m r s h j w x
  faulted trace items End script f a kept = absurd (let e : true ≡ false = f in cc)
  faulted true items (Fault line code) script f a kept = record {
    bytes = bytes;
    input = all;
    items = items;
    line = line;
    code = code;
    script = script;
    blocks = blocks;
    are_blocks = kept;
    written = behind h i j (report marks items (Fault line code)) (blocks_text blocks) a wrote;
  }
  faulted false items (Fault line code) script f a kept = record {
    bytes = bytes;
    input = all;
    items = items;
    line = line;
    code = code;
    script = script;
    written = none_behind h i j (report marks items (Fault line code)) blocks a kept wrote;
  }

  pub ends_done : (trace faulty : Bool) → IsReportOf trace blocks marks bytes faulty h i → faulty ≡ false → RunEndsAs trace marks Done l m r s h j w x
  ends_done trace faulty o f = done trace o.items o.close o.script (sym f ∙ o.told) o.written o.kept

  pub ends_faulty : (trace faulty : Bool) → IsReportOf trace blocks marks bytes faulty h i → faulty ≡ true → RunEndsAs trace marks Faulty l m r s h j w x
  ends_faulty trace faulty o f = faulted trace o.items o.close o.script (sym f ∙ o.told) o.written o.kept

-- the blocks weren't written to their end
module _ (marks : Bool) (l m h i j : Bytes) (bytes : List ℕ) (all : IsInput l m bytes) (blocks : List Block) (wrote : AppendsFront i j (blocks_text blocks)) (r s w x : ℕ) (rose : Rose w x) where
  cut : (text : List ℕ) → Appends h i text → AppendsFront h j (text ++ blocks_text blocks)
  cut text a = (text ++ wrote.0, wrote.1, ap (λ (b : List ℕ). text ++ b) wrote.2 ∙ sym (append_assoc text wrote.0 wrote.1), Appends-trans h i j text wrote.0 a wrote.3)

  none_cut : (text : List ℕ) → blocks ≡ [] → Appends h i text → AppendsFront h j text
  none_cut text e a = subst (AppendsFront h j) (ap (λ (bs : List Block). text ++ blocks_text bs) e ∙ append-nil text) (cut text a)

  pub ends_cut : (trace faulty : Bool) → IsReportOf trace blocks marks bytes faulty h i → RunEndsAs trace marks WriteFault l m r s h j w x
  ends_cut true faulty o = (
    rose,
    record {
      bytes = bytes;
      taken = all.consumed;
      within = all.within;
      front = inr (record { items = o.items; close = o.close; script = o.script; blocks = blocks; are_blocks = o.kept; written = cut (report marks o.items o.close) o.written });
    },
  )
  ends_cut false faulty o = (
    rose,
    record {
      bytes = bytes;
      taken = all.consumed;
      within = all.within;
      front = record { items = o.items; close = o.close; script = o.script; written = none_cut (report marks o.items o.close) o.kept o.written };
    },
  )
