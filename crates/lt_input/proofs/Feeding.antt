-- Feeds that hold the same, and what a step leaves.
use Rattle.std.proofs.Common.{◌++◌, ◌∷◌, [], ℕ, List, Result, Ok, Err, OnOk, sym, subst}
use Rattle.std.specs.Prelude.{OnErr}
use Rattle.lt_model.specs.declared.syntax.Item.{Item}
use Rattle.lt_script.specs.declared.feed.Feed.{Feed}
use Rattle.lt_script.specs.declared.feed.FeedStep.{FeedStep}
use Rattle.lt_script.specs.declared.feed.FeedStep.TheVariants as steps
use Rattle.lt_script.specs.Feed.{HasFed, IsSame, IsStep, kept_of, StandsBy}
use Rattle.lt_input.specs.Fed.{IsFed, IsStepWithin}

-- two feeds that hold the same have answered the same
pub same_fed : (f g : Feed) (bytes : List ℕ) (items : List Item) → IsSame f g → HasFed f bytes items → HasFed g bytes items
same_fed f g bytes items s h =
    let a : StandsBy g.fault f.ended f.line (kept_of f) bytes items = subst (λ x. StandsBy x f.ended f.line (kept_of f) bytes items) (sym s.fault) h in
    let b : StandsBy g.fault g.ended f.line (kept_of f) bytes items = subst (λ x. StandsBy g.fault x f.line (kept_of f) bytes items) (sym s.ended) a in
    let c : StandsBy g.fault g.ended g.line (kept_of f) bytes items = subst (λ x. StandsBy g.fault g.ended x (kept_of f) bytes items) (sym s.line) b in
    subst (λ x. StandsBy g.fault g.ended g.line x bytes items) (sym s.kept) c

pub same_is_fed : (f g : Feed) → IsSame f g → IsFed f → IsFed g
same_is_fed f g s h = record { bytes = h.bytes; items = h.items; fed = same_fed f g h.bytes h.items s h.fed }

pub pushed : (f g : Feed) (piece : List ℕ) → ((bytes : List ℕ) (items : List Item) → HasFed f bytes items → HasFed g (bytes ++ piece) items) → IsFed f → IsFed g
pushed f g piece p h = record { bytes = h.bytes ++ piece; items = h.items; fed = p h.bytes h.items h.fed }

-- behind a step a feed has answered some items
pub stepped : (step : FeedStep) (f g : Feed) (bytes : List ℕ) (items : List Item) → HasFed f bytes items → IsStep bytes items f g step → IsFed g
stepped (steps.Item item) f g bytes items h s = record { bytes = bytes; items = items ++ item ∷ []; fed = s.fed }
stepped steps.End f g bytes items h s = record { bytes = bytes; items = items; fed = subst (λ (x : Feed). HasFed x bytes items) (sym s.2) h }
stepped (steps.Fault line code) f g bytes items h s = record { bytes = bytes; items = items; fed = s.1 }
stepped steps.More f g bytes items h s = record { bytes = bytes; items = items; fed = subst (λ (x : Feed). HasFed x bytes items) (sym s.2) h }
stepped steps.NoMemory f g bytes items h s = record { bytes = bytes; items = items; fed = subst (λ (x : Feed). HasFed x bytes items) (sym s) h }

pub step_is_fed : (step : FeedStep) (f g : Feed) → ((bytes : List ℕ) (items : List Item) → HasFed f bytes items → IsStep bytes items f g step) → IsFed f → IsFed g
step_is_fed step f g s h = stepped step f g h.bytes h.items h.fed (s h.bytes h.items h.fed)

within : (step : FeedStep) (f g : Feed) (bytes : List ℕ) (items : List Item) → IsStep bytes items f g step → IsStepWithin step
within (steps.Item item) f g bytes items s = s.within
within steps.End f g bytes items s = tt
within (steps.Fault line code) f g bytes items s = tt
within steps.More f g bytes items s = tt
within steps.NoMemory f g bytes items s = tt

-- and an item that it gave is within all limits
pub step_is_within : (step : FeedStep) (f g : Feed) → ((bytes : List ℕ) (items : List Item) → HasFed f bytes items → IsStep bytes items f g step) → IsFed f → IsStepWithin step
step_is_within step f g s h = within step f g h.bytes h.items (s h.bytes h.items h.fed)

-- a push leaves a feed, whether it is refused or not
pub push_is_fed : {T E : Type 0} → (r : Result T E) (f g : Feed) (piece : List ℕ) → OnOk r ((bytes : List ℕ) (items : List Item) → HasFed f bytes items → HasFed g (bytes ++ piece) items) → OnErr r (IsSame f g) → IsFed f → IsFed g
push_is_fed (Ok v) f g piece ok err h = pushed f g piece ok h
push_is_fed (Err e) f g piece ok err h = same_is_fed f g err h
