-- Statuses as numbers, and those of runs that stop.
use Rattle.std.specs.Prelude.{ℕ}
use Rattle.lt_runs.specs.declared.stop.Stop.{Stop}
use Rattle.lt_runs.specs.declared.stop.Stop.TheVariants as stops
use Rattle.lt_runs.specs.declared.status.Status.{Status}
use Rattle.lt_runs.specs.declared.status.Status.TheVariants.{Done, NotTaken, Faulty, ReadFault, WriteFault, NoMemory, TooLong, BadTrace}

abbrev pub status_code : Status → ℕ
status_code Done = 0
status_code NotTaken = 1
status_code Faulty = 2
status_code ReadFault = 3
status_code WriteFault = 4
status_code NoMemory = 5
status_code TooLong = 6
status_code BadTrace = 7

abbrev pub stopped_as : Stop → Status
stopped_as stops.NoMemory = NoMemory
stopped_as stops.ReadFailed = ReadFault
stopped_as stops.WriteFailed = WriteFault
stopped_as stops.TooLong = TooLong
