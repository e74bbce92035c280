-- What a function of the parser returned, beside a reader of the grammar.
use Rattle.std.specs.Prelude.{◌≡◌, ℕ, List, map, Bool, Result, Ok, Err}
use Rattle.std.specs.Borrow.{Bor}
use Rattle.lt_reading.specs.Reading as reading
use Rattle.lt_model.specs.Tokens as tokens
use Rattle.lt_model.specs.Grammar as model
use Rattle.lt_grammar.specs.Tokens as grammar
use Rattle.lt_script.specs.declared.refusal.Cause.{Cause}
use Rattle.lt_script.specs.declared.refusal.Cause.TheVariants as causes
use Rattle.lt_script.specs.declared.refusal.Refusal.{Refusal}
use Rattle.lt_script.specs.declared.refusal.Refusal.TheVariants.{NoMemory, Fault}
use Rattle.lt_script.specs.Ahead.{Place, shapes}

abbrev pub cause_of : Cause → reading.Cause
cause_of causes.NotAllowed = reading.not_allowed
cause_of causes.TooMany = reading.too_many
cause_of causes.TooLarge = reading.too_large
cause_of causes.TooFull = reading.too_full

abbrev pub Stop : Type 0
Stop = reading.Stop tokens.Shape

abbrev pub Outcome : Type 0 → Type 0
Outcome A = reading.Outcome tokens.Shape A

abbrev pub Reader : Type 0 → Type 0
Reader A = reading.Reader tokens.Shape A

-- What was refused, and the tokens from the fault on, are what reading gives, unless memory ran out.
abbrev pub Fails : {Y : Type 0} → Refusal → List tokens.Shape → Outcome Y → Type 0
Fails NoMemory left read = Unit {0}
Fails (Fault c) left read = read ≡ Err (record { rest = left; cause = cause_of c })

-- the same, of the place and the cause alone
abbrev pub StopsAt : Refusal → List tokens.Shape → Stop → Type 0
StopsAt NoMemory left stop = Unit {0}
StopsAt (Fault c) left stop = stop ≡ record { rest = left; cause = cause_of c }

-- What was returned, seen by view, and the tokens that were left are what reading gives, unless memory ran out.
abbrev pub Gives : {X Y : Type 0} → (X → Y) → Result X Refusal → List tokens.Shape → Outcome Y → Type 0
Gives view (Ok x) left read = read ≡ Ok (view x, left)
Gives view (Err refusal) left read = Fails refusal left read

-- A function that went from the one place to the other, in the same source, did as the reader does.
abbrev pub Parses : {X Y : Type 0} → (X → Y) → Result X Refusal → Place → Place → Reader Y → Type 0
Parses view result old new reader = Gives view result (shapes new) (reader (shapes old)) × (new.source ≡ old.source)

-- the same, of a function that says why nothing more is read
abbrev pub Refuses : Refusal → Place → Place → (List tokens.Shape → Stop) → Type 0
Refuses refusal old new stop = StopsAt refusal (shapes new) (stop (shapes old)) × (new.source ≡ old.source)

-- the readers that a loop goes through: the further ones of a list with commas
abbrev pub further : {A : Type 0} → (tokens.Shape → Bool) → Reader A → ℕ → Reader (List A)
further starts r room = reading.many (λ t. grammar.same_shape t model.comma) (reading.led grammar.same_shape model.comma r) (reading.past_comma starts) room

-- texts without where they lie in memory
abbrev pub texts : List (Bor (List ℕ)) → List (List ℕ)
texts xs = map (λ x. x.now) xs
