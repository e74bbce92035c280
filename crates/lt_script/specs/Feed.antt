-- What a feed knows of all bytes that were pushed, and what it answers. `items` are those that it has answered.
use Rattle.std.specs.Prelude.{◌≡◌, ◌⊎◌, ℕ, ◌<◌, Bool, true, false, List, [], ◌∷◌, ◌++◌, length, drop, Option, Some, None}
use Rattle.lt_model.specs.declared.syntax.Item.{Item}
use Rattle.lt_model.specs.Tokens as tokens
use Rattle.lt_model.specs.Tokens.{Shape, Token}
use Rattle.lt_model.specs.Grammar.{legal, SpellsItem, Derives}
use Rattle.lt_model.specs.Faults.{Faulty}
use Rattle.lt_model.specs.Limits.{IsWithinLimits}
use Rattle.lt_model.specs.Script as script
use Rattle.lt_script.specs.Pieces.{Leads, goes_on, first_at}
use Rattle.lt_script.specs.Ahead.{Place, IsUndecided, IsDecided}
use Rattle.lt_script.specs.declared.feed.Feed.{Feed}
use Rattle.lt_script.specs.declared.feed.Fault.{Fault}
use Rattle.lt_script.specs.declared.feed.Found.{Found}
use Rattle.lt_script.specs.declared.feed.Found.TheVariants as found
use Rattle.lt_script.specs.declared.feed.FeedStep.{FeedStep}
use Rattle.lt_script.specs.declared.feed.FeedStep.TheVariants as steps

-- the bytes that were pushed since the end of the last item
abbrev pub kept_of : Feed → List ℕ
kept_of f = drop f.from f.bytes.items

-- no more bytes come once the end was said
abbrev pub IsMore : Bool → List ℕ → Type 0
IsMore true more = more ≡ []
IsMore false more = Unit {0}

-- whatever comes, the script has these items and ends so
abbrev pub IsClosed : Bool → List ℕ → List Item → script.Close → Type 0
IsClosed ended bytes items close = (more : List ℕ) → IsMore ended more → script.Script (bytes ++ more) items close

-- these bytes end with a semicolon, or there are no items yet, and none of the bytes
abbrev pub EndsItem : List Item → List ℕ → Type 0
EndsItem [] front = front ≡ []
EndsItem (item ∷ items) front = (others : List ℕ) × (front ≡ others ++ 59 ∷ [])

-- The items are decided: whatever comes, they are the tokens of this front, which ends with the last item's semicolon. The
-- bytes that are kept are those behind it, and begin on this line.
pub record IsOpenAt (line : ℕ) (kept : List ℕ) (bytes : List ℕ) (items : List Item) : Type 0 where
  pub front : List ℕ
  pub parts : bytes ≡ front ++ kept
  pub last : EndsItem items front
  pub done : List Token
  pub leads : Leads 1 front done line []
  pub derived : Derives legal (script.shapes done) items

abbrev pub StandsBy : Option Fault → Bool → ℕ → List ℕ → List ℕ → List Item → Type 0
StandsBy None ended line kept bytes items = IsOpenAt line kept bytes items
StandsBy (Some fault) ended line kept bytes items = (kept ≡ []) × IsClosed ended bytes items (script.Fault fault.line fault.code)

-- of all bytes that were pushed, a feed has answered these items
abbrev pub HasFed : Feed → List ℕ → List Item → Type 0
HasFed f bytes items = StandsBy f.fault f.ended f.line (kept_of f) bytes items

-- a feed that has answered this fault holds it, and no bytes
pub record HoldsFault (f : Feed) (line code : ℕ) : Type 0 where
  pub fault : Fault
  pub is : f.fault ≡ Some fault
  pub line_is : fault.line ≡ line
  pub code_is : fault.code ≡ code
  pub nothing : kept_of f ≡ []

-- a fault that is held stays so
abbrev pub HoldsStill : Feed → Feed → Type 0
HoldsStill old new = (line code : ℕ) → HoldsFault old line code → HoldsFault new line code

-- two feeds that hold the same
pub record IsSame (old new : Feed) : Type 0 where
  pub kept : kept_of new ≡ kept_of old
  pub line : new.line ≡ old.line
  pub ended : new.ended ≡ old.ended
  pub fault : new.fault ≡ old.fault

-- The tokens that are decided lie inside one item more, and none has a fault. Behind them is nothing, or one token or
-- comment that more bytes may make longer.
pub record IsInside (bytes : List ℕ) (items : List Item) : Type 0 where
  pub decided : List Token
  pub line : ℕ
  pub tail : List ℕ
  pub leads : Leads 1 bytes decided line tail
  pub goes : goes_on tail ≡ true
  pub left : List Shape
  pub stops : script.Stops (script.shapes decided) items left

-- The fault stands at a token that is decided, or inside one whose fault is decided.
pub data IsFaultAt (bytes : List ℕ) (items : List Item) : ℕ → ℕ → Type 0 where
  at_token : (before : List Token) (t : Token) (after : ℕ) (tail : List ℕ) (left : List Shape) (code : ℕ) → Leads 1 bytes (before ++ t ∷ []) after tail → script.Stops (script.shapes before) items left
      → Faulty (script.shapes before) t.shape code → IsFaultAt bytes items t.line code
  inside : (before : List Token) (line code : ℕ) (tail : List ℕ) (left : List Shape) → Leads 1 bytes before line tail → goes_on tail ≡ false → first_at tail ≡ Some (tokens.fault code) → script.Stops (script.shapes before) items left
      → IsFaultAt bytes items line code

abbrev pub IsDecidedFault : Bool → List ℕ → List Item → ℕ → ℕ → Type 0
IsDecidedFault true bytes items line code = Unit {0}
IsDecidedFault false bytes items line code = IsFaultAt bytes items line code

-- one item more was answered
pub record Gives (old new : Feed) (bytes : List ℕ) (items : List Item) (item : Item) : Type 0 where
  pub fed : HasFed new bytes (items ++ item ∷ [])
  pub tokens : List Shape
  pub spelled : SpellsItem legal item tokens
  pub within : IsWithinLimits item
  pub shorter : length (kept_of new) < length (kept_of old)

-- what a feed that was pushed these bytes and has answered these items answers next
abbrev pub IsStep : List ℕ → List Item → Feed → Feed → FeedStep → Type 0
IsStep bytes items old new (steps.Item item) = Gives old new bytes items item
IsStep bytes items old new steps.End = (old.ended ≡ true) × script.Script bytes items script.End × (new ≡ old)
IsStep bytes items old new (steps.Fault line code) = IsClosed old.ended bytes items (script.Fault line code) × HasFed new bytes items × HoldsFault new line code
IsStep bytes items old new steps.More = (old.ended ≡ false) × IsInside bytes items × (new ≡ old)
IsStep bytes items old new steps.NoMemory = new ≡ old

-- a fault that is held is answered, and held further on
abbrev pub IsRepeated : Feed → Feed → FeedStep → Type 0
IsRepeated old new step = (line code : ℕ) → HoldsFault old line code → (step ≡ steps.Fault line code) × HoldsFault new line code

-- a fault that is answered for the first time is decided
abbrev pub IsFirstFault : List ℕ → List Item → Feed → FeedStep → Type 0
IsFirstFault bytes items old (steps.Fault line code) = old.fault ≡ None → IsDecidedFault old.ended bytes items line code
IsFirstFault bytes items old step = Unit {0}

-- ---- what the bytes that are kept begin with

-- whether more bytes are wanted to tell what stands next
abbrev pub WantsMore : Bool → Bool → Place → Type 0
WantsMore true ended p = (ended ≡ false) × IsUndecided p
WantsMore false ended p = (ended ≡ true) ⊎ IsDecided p

-- An item, the bytes right behind its semicolon, and their line. The bytes that are kept begin on the first line that is given.
pub record Goes (done : List Token) (items : List Item) (from : ℕ) (kept : List ℕ) (item : Item) (left line : ℕ) : Type 0 where
  pub front : List ℕ
  pub rest : List ℕ
  pub long : left ≡ length rest
  pub parts : kept ≡ (front ++ 59 ∷ []) ++ rest
  pub tokens : List Token
  pub leads : Leads from (front ++ 59 ∷ []) tokens line []
  pub spelled : SpellsItem legal item (script.shapes tokens)
  pub derived : Derives legal (script.shapes (done ++ tokens)) (items ++ item ∷ [])
  pub within : IsWithinLimits item

-- what was found in the bytes that are kept, behind these tokens of all bytes
abbrev pub Finds : List ℕ → List Token → List Item → ℕ → List ℕ → Bool → Found → Type 0
Finds bytes done items from kept ended (found.Item item left line) = Goes done items from kept item left line
Finds bytes done items from kept ended (found.Fault f) = IsClosed ended bytes items (script.Fault f.line f.code) × IsDecidedFault ended bytes items f.line f.code
Finds bytes done items from kept ended found.End = (ended ≡ true) × script.Script bytes items script.End
Finds bytes done items from kept ended found.More = (ended ≡ false) × IsInside bytes items
Finds bytes done items from kept ended found.NoMemory = Unit {0}
