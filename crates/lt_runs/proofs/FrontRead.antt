-- What was read of a trace, piece by piece.
use Rattle.std.proofs.Common.{◌≡◌, ◌≤◌, ◌+◌, ◌-◌, ◌++◌, ◌∙◌, ℕ, List, length, take, drop, Result, Ok, Err, refl, sym, ap, subst, arith, append_assoc}
use Rattle.std.specs.Prelude.{slice_range, IfErr}
use Rattle.std.specs.declared.option.Option.{Option}
use Rattle.std.specs.Io.KnownBytes.{Consumes}
use Rattle.std.proofs.KnownBytes.{Consumes-trans}
use Rattle.std.proofs.lemmas.List.{drop-take, length-append, length-take, take-append-drop, take_all}
use Rattle.lt_blocks.specs.declared.reader.Reader.{Reader}
use Rattle.lt_blocks.specs.declared.reader.Stage.TheVariants.{Script}
use Rattle.lt_blocks.specs.Blocks.{blocks_text, script_text, IsBadLine, IsTrace}
use Rattle.lt_blocks.specs.Reading.{HasRead, HasReadTo}
use Rattle.lt_edges.specs.Causes.{Rose}
use Rattle.lt_runs.specs.declared.input.InputError.{InputError}
use Rattle.lt_runs.specs.declared.input.InputError.TheVariants.{NoMemory, Failed, TooLong}
use Rattle.lt_runs.specs.FrontReads.{IsBadRead, TakesRest}
use Rattle.lt_runs.specs.Reads.{StopsReading}

abbrev Bytes : Type 0
Bytes = Option (List ℕ)

rose_before : (r s t : ℕ) → r ≤ s → Rose s t → Rose r t
rose_before r s t later rose = omega (arith, later, rose)

-- a call behind these bytes that didn't read on
pub stops_behind : (error : InputError) (count : ℕ) (l m n : Bytes) (r s t : ℕ) (bytes : List ℕ) → Consumes l m bytes → count ≡ length bytes → r ≤ s → StopsReading error count m n s t → StopsReading error 0 l n r t
stops_behind NoMemory count l m n r s t bytes taken counted later stop =
    (bytes ++ stop.0, Consumes-trans l m n bytes stop.0 taken stop.1, omega (arith, counted, length-append bytes stop.0, stop.2))
stops_behind Failed count l m n r s t bytes taken counted later stop =
    (rose_before r s t later stop.0, (bytes ++ stop.1.0, Consumes-trans l m n bytes stop.1.0 taken stop.1.1, omega (arith, counted, length-append bytes stop.1.0, stop.1.2)))
stops_behind TooLong count l m n r s t bytes taken counted later stop =
    (bytes ++ stop.0, Consumes-trans l m n bytes stop.0 taken stop.1, omega (arith, counted, length-append bytes stop.0, stop.2))

-- why the rest wasn't read
pub passed_behind : {T : Type 0} (result : Result T InputError) (e error : InputError) (count : ℕ) (l m n : Bytes) (r s t : ℕ) (bytes : List ℕ) → result ≡ Err e → e ≡ error → Consumes l m bytes → count ≡ length bytes → r ≤ s
    → StopsReading error count m n s t → IfErr result (λ x. StopsReading x 0 l n r t)
passed_behind (Ok v) e error count l m n r s t bytes is why taken counted later stop = tt
passed_behind (Err x) e error count l m n r s t bytes is why taken counted later stop =
    let same : x ≡ error = cc in subst (λ (y : InputError). StopsReading y 0 l n r t) (sym same) (stops_behind error count l m n r s t bytes taken counted later stop)

-- a piece of which all was read
pub all_read : (r : Reader) (piece more : List ℕ) (used : ℕ) → used ≡ length more → HasRead r (piece ++ take used more) → HasRead r (piece ++ more)
all_read r piece more used all read = subst (λ (bs : List ℕ). HasRead r (piece ++ bs)) (take_all used more (omega (arith, all))) read

parted : (piece more : List ℕ) (used : ℕ) → piece ++ more ≡ (piece ++ take used more) ++ drop used more
parted piece more used = ap (λ (bs : List ℕ). piece ++ bs) (sym (take-append-drop used more)) ∙ sym (append_assoc piece (take used more) (drop used more))

-- what was pushed of a piece behind the first bytes of it
pub range_is : (buf : List ℕ) (read used : ℕ) → used ≤ length (take read buf) → read ≤ length buf → slice_range buf used read ≡ drop used (take read buf)
range_is buf read used within bound =
    let all : used + (read - used) ≡ read = omega (arith, within, bound, length-take read buf) in
    sym (ap (λ (n : ℕ). drop used (take n buf)) (sym all) ∙ drop-take used (read - used) buf)

-- the line `script` has ended among these bytes
pub trace_read : (r : Reader) (piece more : List ℕ) (used : ℕ) → r.stage ≡ Script → HasRead r (piece ++ take used more) → IsTrace (piece ++ more) r.blocks.items (drop used more)
trace_read r piece more used stage read =
    let h : HasReadTo Script r (piece ++ take used more) = subst (λ st. HasReadTo st r (piece ++ take used more)) stage read in
    record {
      within = h.0;
      parts = parted piece more used ∙ ap (λ (bs : List ℕ). bs ++ drop used more) h.1 ∙ append_assoc (blocks_text r.blocks.items) script_text (drop used more);
    }

-- a line that isn't what is wanted has ended among these bytes, and the rest was taken
pub bad_read : (line count : ℕ) (l m n : Bytes) (piece more : List ℕ) (used : ℕ) → Consumes l m (piece ++ more) → count ≡ length (piece ++ more)
    → ((bytes behind : List ℕ) → bytes ≡ piece ++ take used more → IsBadLine (bytes ++ behind) line) → TakesRest count m n → IsBadRead line l n
bad_read line count l m n piece more used taken counted bad rest = record {
  bytes = (piece ++ more) ++ rest.piece;
  consumed = Consumes-trans l m n (piece ++ more) rest.piece taken rest.consumed;
  within = omega (arith, counted, length-append (piece ++ more) rest.piece, rest.within);
  end = rest.end;
  bad = subst (λ (bs : List ℕ). IsBadLine bs line)
      (sym (ap (λ (bs : List ℕ). bs ++ rest.piece) (parted piece more used) ∙ append_assoc (piece ++ take used more) (drop used more) rest.piece))
      (bad (piece ++ take used more) (drop used more ++ rest.piece) refl);
}
