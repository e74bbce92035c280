-- What a call that reads on has done to the feed and the source.
use Rattle.std.specs.Prelude.{◌≡◌, ◌≤◌, ◌<◌, ◌+◌, ◌++◌, ℕ, true, false, List, length}
use Rattle.std.specs.declared.option.Option.{Option}
use Rattle.std.specs.Io.KnownBytes.{Consumes, IsAtEnd}
use Rattle.lt_edges.specs.Causes.{Rose}
use Rattle.lt_model.specs.declared.syntax.Item.{Item}
use Rattle.lt_script.specs.declared.feed.Feed.{Feed}
use Rattle.lt_script.specs.Feed.{HasFed}
use Rattle.lt_runs.specs.declared.input.InputError.{InputError}
use Rattle.lt_runs.specs.declared.input.InputError.TheVariants.{NoMemory, Failed, TooLong}
use Rattle.lt_runs.specs.declared.input.Taken.{Taken}
use Rattle.lt_runs.specs.declared.stop.Stop.{Stop}
use Rattle.lt_runs.specs.declared.stop.Stop.TheVariants as stops
use Rattle.lt_runs.specs.Input.{limit}

-- Some bytes more were taken, counted and fed. There is one at least, or the end was met and said.
pub record ReadsOn (old new : Feed) (count : ℕ) (taken : Taken) (left_old left_new : Option (List ℕ)) : Type 0 where
  pub piece : List ℕ
  pub consumed : Consumes left_old left_new piece
  pub counted : taken.count ≡ count + length piece
  pub within : taken.count ≤ limit
  pub fed : (bytes : List ℕ) (items : List Item) → HasFed old bytes items → HasFed new (bytes ++ piece) items
  pub ended : new.ended ≡ taken.ended
  pub end : taken.ended ≡ true → IsAtEnd left_new
  pub some : taken.ended ≡ false → count < taken.count

-- some bytes more were taken, within the limit with those before, or beyond it
abbrev pub TakesWithin : ℕ → Option (List ℕ) → Option (List ℕ) → Type 0
TakesWithin count l m = (piece : List ℕ) × Consumes l m piece × (count + length piece ≤ limit)

abbrev pub TakesBeyond : ℕ → Option (List ℕ) → Option (List ℕ) → Type 0
TakesBeyond count l m = (piece : List ℕ) × Consumes l m piece × (limit < count + length piece)

-- how a call ends that didn't read on
abbrev pub StopsReading : InputError → ℕ → Option (List ℕ) → Option (List ℕ) → ℕ → ℕ → Type 0
StopsReading NoMemory count l m r s = TakesWithin count l m
StopsReading Failed count l m r s = Rose r s × TakesWithin count l m
StopsReading TooLong count l m r s = TakesBeyond count l m

-- how a call ends that didn't pass on what was written, or didn't read on
abbrev pub StopsGoing : Stop → ℕ → Option (List ℕ) → Option (List ℕ) → ℕ → ℕ → ℕ → ℕ → Type 0
StopsGoing stops.NoMemory count l m r s w x = TakesWithin count l m
StopsGoing stops.ReadFailed count l m r s w x = Rose r s × TakesWithin count l m
StopsGoing stops.WriteFailed count l m r s w x = Rose w x × TakesWithin count l m
StopsGoing stops.TooLong count l m r s w x = TakesBeyond count l m
