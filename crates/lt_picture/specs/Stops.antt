-- How the program ends without a picture.
use Rattle.std.specs.Prelude.{ℕ, ⊤}
use Rattle.lt_picture.specs.declared.stop.Stop.{Stop}
use Rattle.lt_picture.specs.declared.stop.Stop.TheVariants.{Refused, ReadFailed, WriteFailed, NoMemory, TooLong}

abbrev pub status_code : Stop → ℕ
status_code (Refused _) = 2
status_code ReadFailed = 3
status_code WriteFailed = 4
status_code NoMemory = 5
status_code TooLong = 6

-- the input is no report with traces
abbrev pub IsRefusal : Stop → Type 0
IsRefusal (Refused _) = ⊤
IsRefusal ReadFailed = ⊥
IsRefusal WriteFailed = ⊥
IsRefusal NoMemory = ⊥
IsRefusal TooLong = ⊥
