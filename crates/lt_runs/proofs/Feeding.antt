-- What was read on, piece by piece.
use Rattle.std.proofs.Common.{◌≡◌, ◌++◌, ℕ, List, Result, Ok, Err, sym, subst, append_assoc}
use Rattle.std.specs.Prelude.{Option, IfErr}
use Rattle.lt_model.specs.declared.syntax.Item.{Item}
use Rattle.lt_script.specs.declared.feed.Feed.{Feed}
use Rattle.lt_script.specs.Feed.{HasFed}
use Rattle.lt_runs.specs.declared.input.InputError.{InputError}
use Rattle.lt_runs.specs.declared.input.InputError.TheVariants.{NoMemory}
use Rattle.lt_runs.specs.Reads.{StopsReading, TakesWithin}

-- memory for a piece was refused
pub refused : {T : Type 0} (r : Result T InputError) (e : InputError) (count : ℕ) (l m : Option (List ℕ)) (s t : ℕ) → r ≡ Err e → e ≡ NoMemory → TakesWithin count l m → IfErr r (λ error. StopsReading error count l m s t)
refused (Ok v) e count l m s t is none p = tt
refused (Err x) e count l m s t is none p = let same : x ≡ NoMemory = cc in subst (λ (y : InputError). StopsReading y count l m s t) (sym same) p

-- one piece more was fed
pub fed_more : (old mid new : Feed) (piece more : List ℕ) → ((bytes : List ℕ) (items : List Item) → HasFed old bytes items → HasFed mid (bytes ++ piece) items)
    → ((bytes : List ℕ) (items : List Item) → HasFed mid bytes items → HasFed new (bytes ++ more) items) → (bytes : List ℕ) (items : List Item) → HasFed old bytes items → HasFed new (bytes ++ (piece ++ more)) items
fed_more old mid new piece more first second bytes items h = subst (λ (bs : List ℕ). HasFed new bs items) (append_assoc bytes piece more) (second (bytes ++ piece) items (first bytes items h))
