-- What the codes of entries tell.
use Rattle.std.proofs.Common.{◌≡◌, ℕ, ◌/◌, ◌%◌, ◌<◌, Bool, true, false, refl, arith}
use Rattle.std.specs.Prelude.{◌==◌, if◌then◌else◌}
use Rattle.lt_net.specs.Net.{Claims, Finishes, Abandons}
use Rattle.lt_net.specs.Codes.{code_of}
use Rattle.lt_net.proofs.Codes.{kind_back, number_back}
use Rattle.lt_circuit.specs.declared.entry.Entry.{Entry}
use Rattle.lt_circuit.specs.declared.entry.Event.{Event as Kind}
use Rattle.lt_circuit.specs.declared.entry.Event.TheVariants.{Claim, Finish, Abandon}
use Rattle.lt_circuit.specs.Entry.{event_of, event_on, kind_code, entry_code, coded_event}
use Rattle.lt_circuit.specs.declared.line.LineEntry.{LineEntry}
use Rattle.lt_circuit.specs.Line.{line_entry_code, line_event}
use Rattle.lt_circuit.specs.Shape.{worker_of}

kind_small : (k : Kind) → kind_code k < 3
kind_small Claim = omega arith
kind_small Finish = omega arith
kind_small Abandon = omega arith

told : (k : Kind) (worker job code : ℕ) → code % 3 ≡ kind_code k → code / 3 ≡ job → coded_event worker code ≡ event_on k worker job
told Claim worker job code kind number = rw (kind, number)
told Finish worker job code kind number = rw (kind, number)
told Abandon worker job code kind number = rw (kind, number)

-- an entry's code tells its event
pub event_told : (e : Entry) → coded_event e.worker (entry_code e) ≡ event_of e
event_told e =
    told e.event e.worker (code_of e.job) (entry_code e) (kind_back (code_of e.job) (kind_code e.event) (kind_small e.event)) (number_back (code_of e.job) (kind_code e.event) (kind_small e.event))

-- the event of a worker and a code is that worker's
pub worker_told : (worker code : ℕ) → worker_of (coded_event worker code) ≡ worker
worker_told worker code = by_kind (code % 3 == 0) (code % 3 == 1)
  where
    by_kind : (a b : Bool) → worker_of (if a then Claims worker (code / 3) else (if b then Finishes worker (code / 3) else Abandons worker (code / 3))) ≡ worker
    by_kind true b = refl
    by_kind false true = refl
    by_kind false false = refl

-- and so does that of a line's entry
pub line_event_told : (e : LineEntry) → coded_event e.worker (line_entry_code e) ≡ line_event e
line_event_told e = told e.event e.worker e.job (line_entry_code e) (kind_back e.job (kind_code e.event) (kind_small e.event)) (number_back e.job (kind_code e.event) (kind_small e.event))
