-- How a replay ends, from how its parts did.
use Rattle.std.proofs.Common.{◌≡◌, ◌≤◌, ◌++◌, ◌∙◌, Bool, false, List, [], ℕ, length, refl, sym, ap, subst, append-nil, append_assoc, arith}
use Rattle.std.specs.Prelude.{Option, Some, None, Result, Ok, Err, IfErr, OnErr}
use Rattle.std.proofs.KnownBytes.{Appends-kept, Appends-nil, Consumes-nil}
use Rattle.std.specs.Io.KnownBytes.{Appends, Consumes, IsAtEnd, Keeps}
use Rattle.lt_blocks.specs.declared.block.Block.{Block}
use Rattle.lt_blocks.specs.Blocks.{blocks_text, script_text}
use Rattle.lt_model.specs.Script.{End, Fault}
use Rattle.lt_model.specs.Report.{report}
use Rattle.lt_report.specs.Puts.{AppendsFront}
use Rattle.lt_report.specs.Traces.{bad_trace_text}
use Rattle.lt_script.specs.declared.feed.Feed.{Feed}
use Rattle.lt_script.specs.Feed.{HasFed, IsMore}
use Rattle.lt_runs.specs.declared.front.Front.{Front}
use Rattle.lt_runs.specs.declared.input.InputError.{InputError}
use Rattle.lt_runs.specs.declared.input.InputError.TheVariants as errors
use Rattle.lt_runs.specs.declared.replay.Verdict.{Verdict}
use Rattle.lt_runs.specs.declared.replay.Verdict.TheVariants as verdicts
use Rattle.lt_runs.specs.declared.stop.Stop.{Stop}
use Rattle.lt_runs.specs.declared.stop.Stop.TheVariants as stops
use Rattle.lt_runs.specs.FrontReads.{IsBadRead, IsFrontRead, ReadsFront, TakesRest}
use Rattle.lt_runs.specs.Input.{limit}
use Rattle.lt_runs.specs.Reads.{StopsReading, TakesBeyond, TakesWithin}
use Rattle.lt_runs.specs.ReplayEnds.{AtLine, IsLongReplayPart, IsReplayPart, IsReplayWritten, Nothing, Refused, ReplayEndsAs, ReplayStopsAs, Whole}
use Rattle.lt_runs.specs.ReplaySteps.{IsBegun, StopsInside, StopsRefusing, TakesInside, TakesOut}
use Rattle.lt_runs.specs.Statuses.{stopped_as}
use Rattle.lt_runs.specs.Stops.{unread}
use Rattle.lt_runs.proofs.Fed.{none_more}
use Rattle.lt_world.proofs.Writing.{kept_appends}

abbrev Bytes : Type 0
Bytes = Option (List ℕ)

-- it stops where an error is passed on
module _ {T : Type 0} (result : Result T Stop) (e stop : Stop) (is : result ≡ Err e) (same : e ≡ stop) where
  pub at_stop : (P : Stop → Type 0) → P stop → IfErr result P
  at_stop P p = subst (λ (q : Result T Stop). IfErr q P) (sym (is ∙ ap (λ (q : Stop). let w : Result T Stop = Err q in w) same)) p

  pub stopped_replay : (marks : Bool) (l m : Bytes) (r s : ℕ) (h i : Bytes) (w x : ℕ) → ReplayStopsAs marks stop l m r s h i w x → IfErr result (λ q. ReplayStopsAs marks q l m r s h i w x)
  stopped_replay marks l m r s h i w x p = at_stop (λ q. ReplayStopsAs marks q l m r s h i w x) p

  pub stopped_refusing : (ended : Bool) (count : ℕ) (l m : Bytes) (r s w x : ℕ) → StopsRefusing stop ended count l m r s w x → IfErr result (λ q. StopsRefusing q ended count l m r s w x)
  stopped_refusing ended count l m r s w x p = at_stop (λ q. StopsRefusing q ended count l m r s w x) p

  -- whatever was taken before
  pub stopped_behind : (marks : Bool) (blocks : List Block) (count : ℕ) (feed : Feed) (k m : Bytes) (r s : ℕ) (h i : Bytes) (w x : ℕ) → ((left : Bytes) → IsBegun blocks count feed left k → ReplayStopsAs marks stop left m r s h i w x)
      → IfErr result (λ q. (left : Bytes) → IsBegun blocks count feed left k → ReplayStopsAs marks q left m r s h i w x)
  stopped_behind marks blocks count feed k m r s h i w x p = at_stop (λ q. (left : Bytes) → IsBegun blocks count feed left k → ReplayStopsAs marks q left m r s h i w x) p

pub stopped_inside : {T : Type 0} (result : Result T InputError) (e error : InputError) → result ≡ Err e → e ≡ error → (ended : Bool) (count : ℕ) (l m : Bytes) (r s : ℕ) → StopsInside error ended count l m r s → IfErr result (λ q. StopsInside q ended count l m r s)
stopped_inside {T} result e error is same ended count l m r s p =
    subst (λ (q : Result T InputError). IfErr q (λ f. StopsInside f ended count l m r s)) (sym (is ∙ ap (λ (f : InputError). let w : Result T InputError = Err f in w) same)) p

pub on_err : {T E P : Type 0} (result : Result T E) → P → OnErr result P
on_err (Ok value) p = tt
on_err (Err error) p = p

-- ---- the rest of the source

pub inside_going : (error : InputError) (ended : Bool) (count : ℕ) (l m : Bytes) (r s : ℕ) → ended ≡ false → StopsReading error count l m r s → StopsInside error ended count l m r s
inside_going error ended count l m r s open_still stops = go error stops
  where
    free : (piece : List ℕ) → IsMore ended piece
    free piece = subst (λ (b : Bool). IsMore b piece) (sym open_still) tt

    go : (e : InputError) → StopsReading e count l m r s → StopsInside e ended count l m r s
    go errors.NoMemory p = (p.0, p.1, free p.0, p.2)
    go errors.Failed p = (p.0, (p.1.0, p.1.1, free p.1.0, p.1.2))
    go errors.TooLong p = (p.0, p.1, free p.0, p.2)

pub refusing_unread : (error : InputError) (ended : Bool) (count : ℕ) (l m : Bytes) (r s w x : ℕ) → StopsInside error ended count l m r s → StopsRefusing (unread error) ended count l m r s w x
refusing_unread errors.NoMemory ended count l m r s w x p = p
refusing_unread errors.Failed ended count l m r s w x p = p
refusing_unread errors.TooLong ended count l m r s w x p = p

-- where the end was met
pub rest_taken : (ended : Bool) (count : ℕ) (l : Bytes) → count ≤ limit → IsAtEnd l → TakesOut ended count l l
rest_taken ended count l few end = record { piece = []; consumed = Consumes-nil l; behind = none_more ended; within = omega (arith, few); end = end }

-- where it wasn't
pub rest_read : (ended : Bool) (count : ℕ) (l m : Bytes) → ended ≡ false → TakesRest count l m → TakesOut ended count l m
rest_read ended count l m open_still t = record { piece = t.piece; consumed = t.consumed; behind = subst (λ (b : Bool). IsMore b t.piece) (sym open_still) tt; within = t.within; end = t.end }

-- nothing more was taken
pub none_inside : (ended : Bool) (count : ℕ) (l : Bytes) → count ≤ limit → TakesInside ended count l l
none_inside ended count l few = ([], Consumes-nil l, none_more ended, omega (arith, few))

pub rest_inside : (ended : Bool) (count : ℕ) (l m : Bytes) → TakesOut ended count l m → TakesInside ended count l m
rest_inside ended count l m t = (t.piece, t.consumed, t.behind, t.within)

-- what is written behind a flush
pub kept_then : (h i j : Bytes) (text : List ℕ) → Keeps h i → Appends i j text → Appends h j text
kept_then None i j text k a = tt
kept_then (Some x) None j text k a = absurd k
kept_then (Some x) (Some y) None text k a = absurd a
kept_then (Some x) (Some y) (Some z) text k a = a ∙ ap (λ (b : List ℕ). b ++ text) k

pub kept_told : (h i j : Bytes) (text : List ℕ) → Keeps h i → AppendsFront i j text → AppendsFront h j text
kept_told h i j text k a = (a.0, a.1, a.2, kept_then h i j a.0 k a.3)

pub kept_front : (h i : Bytes) (text : List ℕ) → Keeps h i → AppendsFront h i text
kept_front h i text k = ([], text, refl, kept_appends h i k)

-- ---- the front

-- nothing was read and nothing was written
pub none_replayed : (marks : Bool) (l h : Bytes) → IsReplayPart marks l l h h
none_replayed marks l h = record { bytes = []; taken = Consumes-nil l; within = omega arith; text = []; leads = Nothing; written = ([], [], refl, Appends-nil h) }

pub front_stops : (marks : Bool) (error : InputError) (l m : Bytes) (r s : ℕ) (h : Bytes) (w : ℕ) → StopsReading error 0 l m r s → ReplayStopsAs marks (unread error) l m r s h h w w
front_stops marks error l m r s h w stops = go error stops
  where
    inside : TakesWithin 0 l m → IsReplayPart marks l m h h
    inside p = record { bytes = p.0; taken = p.1; within = omega (arith, p.2); text = []; leads = Nothing; written = ([], [], refl, Appends-nil h) }

    over : TakesBeyond 0 l m → IsLongReplayPart marks l m h h
    over p = record { bytes = p.0; taken = p.1; beyond = omega (arith, p.2); text = []; leads = Nothing; written = ([], [], refl, Appends-nil h) }

    go : (e : InputError) → StopsReading e 0 l m r s → ReplayStopsAs marks (unread e) l m r s h h w w
    go errors.NoMemory p = inside p
    go errors.Failed p = (p.0, inside p.1)
    go errors.TooLong p = over p

-- what was read, where it is known to be this
pub read_as : (front known : Front) → front ≡ known → (old new : Feed) (l m : Bytes) → ReadsFront front old new l m → ReadsFront known old new l m
read_as front known is old new l m r = subst (λ (f : Front). ReadsFront f old new l m) is r

pub begun_of : (blocks : List Block) (count : ℕ) (old new : Feed) (l m : Bytes) → IsFrontRead blocks count old new l m → HasFed old [] [] → IsBegun blocks count new l m
begun_of blocks count old new l m f fed =
    let is = f.trace.parts ∙ sym (append_assoc (blocks_text blocks) script_text f.script) in
    record {
      script = f.script;
      consumed = subst (Consumes l m) is f.consumed;
      counted = f.counted ∙ ap (λ (bs : List ℕ). length bs) is;
      within = f.within;
      blocks_within = f.trace.within;
      fed = f.fed [] [] fed;
      open_still = f.open_still;
    }

-- a line of it isn't what is wanted there
pub bad_written : (marks : Bool) (line : ℕ) (l m h i : Bytes) → IsBadRead line l m → Appends h i (bad_trace_text 0 line) → IsReplayWritten marks verdicts.BadTrace l m h i
bad_written marks line l m h i b told = record {
  bytes = b.bytes;
  input = record { consumed = b.consumed; end = b.end; within = b.within };
  text = bad_trace_text 0 line;
  refuses = AtLine line b.bad;
  written = told;
}

pub bad_part : (marks : Bool) (line : ℕ) (l m h i : Bytes) → IsBadRead line l m → AppendsFront h i (bad_trace_text 0 line) → IsReplayPart marks l m h i
bad_part marks line l m h i b told = record { bytes = b.bytes; taken = b.consumed; within = b.within; text = bad_trace_text 0 line; leads = Refused (bad_trace_text 0 line) (AtLine line b.bad); written = told }

-- ---- the end

-- the faults from before count too
pub stops_after : (marks : Bool) (stop : Stop) (l m : Bytes) (q r s : ℕ) (h i : Bytes) (w x : ℕ) → q ≤ r → ReplayStopsAs marks stop l m r s h i w x → ReplayStopsAs marks stop l m q s h i w x
stops_after marks stops.NoMemory l m q r s h i w x before p = p
stops_after marks stops.ReadFailed l m q r s h i w x before p = (omega (arith, before, p.0), p.1)
stops_after marks stops.WriteFailed l m q r s h i w x before p = p
stops_after marks stops.TooLong l m q r s h i w x before p = p

pub ends_stopped : (marks : Bool) (stop : Stop) (l m : Bytes) (r s : ℕ) (h i : Bytes) (w x : ℕ) → ReplayStopsAs marks stop l m r s h i w x → ReplayEndsAs marks (stopped_as stop) l m r s h i w x
ends_stopped marks stops.NoMemory l m r s h i w x p = p
ends_stopped marks stops.ReadFailed l m r s h i w x p = p
ends_stopped marks stops.WriteFailed l m r s h i w x p = p
ends_stopped marks stops.TooLong l m r s h i w x p = ((p.bytes, p.taken, p.beyond), p)

-- a flush writes nothing
pub written_kept : (marks : Bool) (verdict : Verdict) (l m h i j : Bytes) → IsReplayWritten marks verdict l m h i → Keeps i j → IsReplayWritten marks verdict l m h j
written_kept marks verdicts.Good l m h i j p k = record { bytes = p.bytes; input = p.input; items = p.items; trace = p.trace; written = Appends-kept h i j (report marks p.items End) p.written k }
written_kept marks verdicts.Faulty l m h i j p k = record {
  bytes = p.bytes;
  input = p.input;
  items = p.items;
  line = p.line;
  code = p.code;
  trace = p.trace;
  written = Appends-kept h i j (report marks p.items (Fault p.line p.code)) p.written k;
}
written_kept marks verdicts.BadTrace l m h i j p k = record { bytes = p.bytes; input = p.input; text = p.text; refuses = p.refuses; written = Appends-kept h i j p.text p.written k }

-- but it may fail
whole_front : (h i j : Bytes) (text : List ℕ) → Appends h i text → Keeps i j → AppendsFront h j text
whole_front h i j text a k = (text, [], sym (append-nil text), Appends-kept h i j text a k)

pub written_cut : (marks : Bool) (verdict : Verdict) (l m h i j : Bytes) → IsReplayWritten marks verdict l m h i → Keeps i j → IsReplayPart marks l m h j
written_cut marks verdicts.Good l m h i j p k = record {
  bytes = p.bytes;
  taken = p.input.consumed;
  within = p.input.within;
  text = report marks p.items End;
  leads = Whole p.items End p.trace;
  written = whole_front h i j (report marks p.items End) p.written k;
}
written_cut marks verdicts.Faulty l m h i j p k = record {
  bytes = p.bytes;
  taken = p.input.consumed;
  within = p.input.within;
  text = report marks p.items (Fault p.line p.code);
  leads = Whole p.items (Fault p.line p.code) p.trace;
  written = whole_front h i j (report marks p.items (Fault p.line p.code)) p.written k;
}
written_cut marks verdicts.BadTrace l m h i j p k = record { bytes = p.bytes; taken = p.input.consumed; within = p.input.within; text = p.text; leads = Refused p.text p.refuses; written = whole_front h i j p.text p.written k }
