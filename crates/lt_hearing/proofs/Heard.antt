-- Items that were heard, one more at a time.
use Rattle.std.proofs.Common.{◌≡◌, ◌∙◌, ◌++◌, ◌∷◌, [], ℕ, List, false, sym, ap, subst, append_assoc, append-nil}
use Rattle.std.specs.Prelude.{Option, fold}
use Rattle.std.proofs.lemmas.List.Sums.{fold-append}
use Rattle.std.proofs.KnownBytes.{Appends-nil, Appends-trans}
use Rattle.std.specs.Io.KnownBytes.{Appends}
use Rattle.lt_model.specs.declared.syntax.Item.{Item}
use Rattle.lt_model.specs.Report as model
use Rattle.lt_model.specs.Report.{step}
use Rattle.lt_script.specs.declared.feed.Feed.{Feed}
use Rattle.lt_script.specs.Feed.{HasFed}
use Rattle.lt_world.specs.declared.world.World.{World}
use Rattle.lt_world.specs.World.{IsWorld, Shows, Takes}
use Rattle.lt_hearing.specs.Answered.{answered, answered_all, Heard}

-- behind an item the world stands somewhere, too
pub taken : (w v : World) (item : Item) → IsWorld w → Takes w item v → IsWorld v
taken w v item h t = record { model = step false h.model item; shows = t false h.model h.shows }

-- nothing was heard yet
pub heard_none : (m : model.World) (bytes : List ℕ) (items : List Item) (w : World) (f : Feed) (a : Option (List ℕ)) → HasFed f bytes items → Shows w m → Heard m bytes items w f a a
heard_none m bytes items w f a fed shows = record {
  more = [];
  fed = subst (λ (xs : List Item). HasFed f bytes xs) (sym (append-nil items)) fed;
  shows = shows;
  written = Appends-nil a;
}

-- what is answered to one more
answered_more : (m : model.World) (more : List Item) (item : Item) → answered_all m (more ++ item ∷ []) ≡ answered_all m more ++ answered (fold (step false) m more) item
answered_more m [] item = append-nil (answered m item)
answered_more m (first ∷ more) item =
    ap (λ (t : List ℕ). answered m first ++ t) (answered_more (step false m first) more item)
    ∙ sym (append_assoc (answered m first) (answered_all (step false m first) more) (answered (fold (step false) (step false m first) more) item))

-- one more was heard
pub heard_more : (m : model.World) (bytes : List ℕ) (items : List Item) (w v : World) (f g : Feed) (a b c : Option (List ℕ)) (item : Item) → (h : Heard m bytes items w f a b) → HasFed g bytes ((items ++ h.more) ++ item ∷ [])
    → Shows v (step false (fold (step false) m h.more) item) → Appends b c (answered (fold (step false) m h.more) item) → Heard m bytes items v g a c
heard_more m bytes items w v f g a b c item h fed shows written = record {
  more = h.more ++ item ∷ [];
  fed = subst (λ (xs : List Item). HasFed g bytes xs) (append_assoc items h.more (item ∷ [])) fed;
  shows = subst (λ (x : model.World). Shows v x) (sym (fold-append (step false) m h.more (item ∷ []))) shows;
  written = subst (λ (t : List ℕ). Appends a c t) (sym (answered_more m h.more item)) (Appends-trans a b c (answered_all m h.more) (answered (fold (step false) m h.more) item) h.written written);
}

-- nothing more was heard
pub heard_still : (m : model.World) (bytes : List ℕ) (items : List Item) (w : World) (f g : Feed) (a b : Option (List ℕ)) → (h : Heard m bytes items w f a b) → HasFed g bytes (items ++ h.more) → Heard m bytes items w g a b
heard_still m bytes items w f g a b h fed = record { more = h.more; fed = fed; shows = h.shows; written = h.written }
