-- What a dump has to be before it is written.
use Rattle.std.specs.Prelude.{◌≡◌, ℕ, List, false, fold}
use Rattle.std.specs.declared.option.Option.{Option}
use Rattle.std.specs.Io.KnownBytes.{Appends}
use Rattle.lt_base.specs.Tables.{state_of}
use Rattle.lt_model.specs.declared.syntax.Item.{Item}
use Rattle.lt_model.specs.Report.{opening, step}
use Rattle.lt_model.specs.Script.{Script, End}
use Rattle.lt_world.specs.declared.world.World.{World}
use Rattle.lt_world.specs.World.{Shows}

-- the text is a script that ends without a fault, and the world stands behind its items, taken one after another from nothing on
pub record IsMadeBy (text : List ℕ) (world : World) : Type 0 where
  pub items : List Item
  pub script : Script text items End
  pub shows : Shows world (fold (step false) opening items)

-- The text is a script that ends without a fault. Its items, taken one after another from nothing on, make the relations of this
-- world, with their names, kinds and keys in the same order, and their rows.
pub record Makes (text : List ℕ) (world : World) : Type 0 where
  pub items : List Item
  pub script : Script text items End
  pub schema : (fold (step false) opening items).schema ≡ world.schema
  pub state : (fold (step false) opening items).state ≡ state_of world.database

-- a text that makes this world was written
pub record IsDumped (world : World) (before now : Option (List ℕ)) : Type 0 where
  pub text : List ℕ
  pub makes : Makes text world
  pub written : Appends before now text
