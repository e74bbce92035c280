-- The entries of a journal, as events of the machine and by their codes.
use Rattle.std.specs.Prelude.{ℕ, ◌/◌, ◌%◌, ◌==◌, if◌then◌else◌}
use Rattle.lt_net.specs.Net.{Event, Claims, Finishes, Abandons}
use Rattle.lt_net.specs.Codes.{code_of, with_kind}
use Rattle.lt_circuit.specs.declared.entry.Entry.{Entry}
use Rattle.lt_circuit.specs.declared.entry.Event.{Event as Kind}
use Rattle.lt_circuit.specs.declared.entry.Event.TheVariants.{Claim, Finish, Abandon}

abbrev pub event_on : Kind → (worker job : ℕ) → Event
event_on Claim worker job = Claims worker job
event_on Finish worker job = Finishes worker job
event_on Abandon worker job = Abandons worker job

-- the event that the entry tells
abbrev pub event_of : Entry → Event
event_of e = event_on e.event e.worker (code_of e.job)

abbrev pub kind_code : Kind → ℕ
kind_code Claim = 0
kind_code Finish = 1
kind_code Abandon = 2

-- the job's code, with what is done as its kind
abbrev pub entry_code : Entry → ℕ
entry_code e = with_kind (code_of e.job) (kind_code e.event)

-- the event of a worker and an entry's code
abbrev pub coded_event : (worker code : ℕ) → Event
coded_event worker code =
    if code % 3 == 0 then Claims worker (code / 3)
    else (if code % 3 == 1 then Finishes worker (code / 3) else Abandons worker (code / 3))
