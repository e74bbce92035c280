-- What has come of a script's items.
use Rattle.std.specs.Prelude.{◌≡◌, ◌*◌, ◌≤◌, List, length, fold, false, ⊤}
use Rattle.lt_model.specs.declared.syntax.Item.{Item}
use Rattle.lt_model.specs.declared.syntax.Item.TheVariants.{Batch, Relation, Show}
use Rattle.lt_model.specs.Report as model
use Rattle.lt_model.specs.Report.{opening, step}
use Rattle.lt_gen.specs.declared.summary.Summary.{Summary}
use Rattle.lt_gen.specs.Answered.{answers_from}
use Rattle.lt_gen.specs.Counted.{Counts}
use Rattle.lt_runs.specs.declared.come.Come.{Come}
use Rattle.lt_world.specs.declared.world.World.{World}
use Rattle.lt_world.specs.World.{now_of, Shows}

-- the items were run up to where the session stands, and what their programs answered was counted
pub record HasRun (Stands : World → model.World → Type 0) (items : List Item) (world : World) (summary : Summary) : Type 0 where
  pub shows : Stands world (fold (step false) opening items)
  pub counts : Counts summary (answers_from opening items)
  pub few : length (answers_from opening items) ≤ 256 * length items

-- the session stands where the fold over the items does, be it without versions, and what their programs answered was counted
pub record HasCome (items : List Item) (come : Come) : Type 0 where
  pub model : model.World
  pub shows : Shows come.world model
  pub now : now_of model ≡ now_of (fold (step false) opening items)
  pub counts : Counts come.summary (answers_from opening items)

abbrev pub IsBatch : Item → Type 0
IsBatch (Batch programs) = ⊤
IsBatch (Relation name kinds keys) = ⊥
IsBatch (Show name version) = ⊥
