-- Scripts that are read to their end.
use Rattle.std.proofs.Common.{◌≡◌, ◌∙◌, ◌++◌, ◌∷◌, [], ℕ, List, true, false, sym, subst}
use Rattle.std.specs.Prelude.{Option, Some, IfSome, fold}
use Rattle.std.proofs.lemmas.List.Sums.{fold-append}
use Rattle.lt_base.specs.Tables.{state_of}
use Rattle.lt_model.specs.declared.syntax.Item.{Item}
use Rattle.lt_model.specs.Report as model
use Rattle.lt_model.specs.Report.{opening, step}
use Rattle.lt_script.specs.declared.feed.Feed.{Feed}
use Rattle.lt_script.specs.Feed.{HasFed}
use Rattle.lt_world.specs.declared.world.World.{World}
use Rattle.lt_world.specs.World.{IsWorld, Shows}
use Rattle.lt_obeying.specs.Dumped.{IsMadeBy, Makes}

-- of a feed that was pushed this text, and ended, these items were answered, and the world stands behind them
pub record Stands (text : List ℕ) (f : Feed) (w : World) : Type 0 where
  pub items : List Item
  pub fed : HasFed f text items
  pub ended : f.ended ≡ true
  pub shows : Shows w (fold (step false) opening items)

pub stands_in : (text : List ℕ) (f : Feed) (w : World) → Stands text f w → IsWorld w
stands_in text f w s = record { model = fold (step false) opening s.items; shows = s.shows }

pub stands_first : (text : List ℕ) (f : Feed) (w : World) → HasFed f text [] → f.ended ≡ true → Shows w opening → Stands text f w
stands_first text f w fed ended shows = record { items = []; fed = fed; ended = ended; shows = shows }

-- one item more
pub stands_more : (text : List ℕ) (f g : Feed) (w v : World) (item : Item) → (s : Stands text f w) → HasFed g text (s.items ++ item ∷ []) → g.ended ≡ f.ended → Shows v (step false (fold (step false) opening s.items) item) → Stands text g v
stands_more text f g w v item s fed ended shows = record {
  items = s.items ++ item ∷ [];
  fed = fed;
  ended = ended ∙ s.ended;
  shows = subst (λ (x : model.World). Shows v x) (sym (fold-append (step false) opening s.items (item ∷ []))) shows;
}

-- what makes a world makes another one with the same relations and rows
pub made_same : (text : List ℕ) (made : Option World) (v w : World) → made ≡ Some v → IfSome made (IsMadeBy text) → v.schema ≡ w.schema → state_of v.database ≡ state_of w.database → Makes text w
made_same text made v w is found schema state =
    let h : IsMadeBy text v = subst (λ (o : Option World). IfSome o (IsMadeBy text)) is found in
    record { items = h.items; script = h.script; schema = h.shows.schema ∙ schema; state = h.shows.state ∙ state }
