-- What a session has, as the fold over the items of a script sees it.
use Rattle.std.specs.Prelude.{◌≡◌, ◌≤◌, Bool, [], ◌∷◌, length, map}
use Rattle.std.specs.List.{AllByRecursion}
use Rattle.lt_model.specs.declared.syntax.Item.{Item}
use Rattle.lt_model.specs.Report as model
use Rattle.lt_check.specs.States.{IsStateOf}
use Rattle.lt_base.specs.Tables.{state_of}
use Rattle.lt_world.specs.Versions.{IsFront}
use Rattle.lt_world.specs.declared.world.World.{World}

-- the session stands where the fold does: the databases have its states, from version 0 on
pub record Shows (w : World) (m : model.World) : Type 0 where
  pub schema : m.schema ≡ w.schema
  pub some : AllByRecursion (λ heading. 1 ≤ length heading.1) m.schema
  pub widths : IsStateOf m.schema m.state
  pub state : m.state ≡ state_of w.database
  pub versions : [] ∷ m.versions ≡ map state_of w.versions
  pub older : AllByRecursion (IsFront m.schema) m.versions

-- it stands somewhere
pub record IsWorld (w : World) : Type 0 where
  pub model : model.World
  pub shows : Shows w model

-- the session stands behind the item
abbrev pub Takes : World → Item → World → Type 0
Takes old item new = (marks : Bool) (m : model.World) → Shows old m → Shows new (model.step marks m item)

-- where the fold stands, with nothing written
abbrev pub unwritten : model.World → model.World
unwritten m = record m { text = [] }

-- where it stands, with no version made and nothing written
abbrev pub now_of : model.World → model.World
now_of m = record m { versions = []; text = [] }

-- the session stands where the fold does, and has none of its versions
abbrev pub ShowsNow : World → model.World → Type 0
ShowsNow w m = Shows w (now_of m)

-- what the fold writes of the item
abbrev pub said : Bool → model.World → Item → model.Text
said marks m item = (model.step marks (unwritten m) item).text
