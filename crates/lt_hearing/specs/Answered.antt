-- What the console answers at a pipe: of each item what the report says of it, and of a declaration that is taken its name.
use Rattle.std.specs.Prelude.{ℕ, List, [], ◌∷◌, ◌++◌, fold, codes, false}
use Rattle.std.specs.declared.option.Option.{Option}
use Rattle.std.specs.Io.KnownBytes.{Appends}
use Rattle.lt_model.specs.declared.syntax.Item.{Item}
use Rattle.lt_model.specs.declared.syntax.Item.TheVariants.{Relation, Batch, Show}
use Rattle.lt_model.specs.Report as model
use Rattle.lt_model.specs.Report.{Text, line, step}
use Rattle.lt_script.specs.declared.feed.Feed.{Feed}
use Rattle.lt_script.specs.Feed.{HasFed}
use Rattle.lt_world.specs.declared.world.World.{World}
use Rattle.lt_world.specs.World.{said, Shows}

-- a declaration of which the report says nothing is acknowledged
abbrev pub acknowledged : Item → Text → Text
acknowledged (Relation name kinds keys) [] = line (codes "relation" ∷ name ∷ [])
acknowledged (Relation name kinds keys) (byte ∷ text) = byte ∷ text
acknowledged (Batch programs) text = text
acknowledged (Show name version) text = text

-- what is answered to an item
abbrev pub answered : model.World → Item → Text
answered m item = acknowledged item (said false m item)

-- what is answered to items, one after another
abbrev pub answered_all : model.World → List Item → Text
answered_all m [] = []
answered_all m (item ∷ items) = answered m item ++ answered_all (step false m item) items

-- Of a feed that has answered these items the next ones were taken: the world stands behind them, and their answers were written.
pub record Heard (m : model.World) (bytes : List ℕ) (items : List Item) (world : World) (feed : Feed) (before now : Option (List ℕ)) : Type 0 where
  pub more : List Item
  pub fed : HasFed feed bytes (items ++ more)
  pub shows : Shows world (fold (step false) m more)
  pub written : Appends before now (answered_all m more)
