-- Why a script stops, from why a part of it did.
use Rattle.lt_world.specs.declared.halt.Halt.{Halt}
use Rattle.lt_world.specs.declared.halt.Halt.TheVariants as halts
use Rattle.lt_runs.specs.declared.input.InputError.{InputError}
use Rattle.lt_runs.specs.declared.input.InputError.TheVariants as errors
use Rattle.lt_runs.specs.declared.stop.Stop.{Stop}
use Rattle.lt_runs.specs.declared.stop.Stop.TheVariants.{NoMemory, ReadFailed, WriteFailed, TooLong}

abbrev pub halted : Halt → Stop
halted halts.NoMemory = NoMemory
halted halts.Failed = WriteFailed

abbrev pub unread : InputError → Stop
unread errors.NoMemory = NoMemory
unread errors.Failed = ReadFailed
unread errors.TooLong = TooLong
