-- Sessions that have the same relations, database and versions stand in the same places.
use Rattle.std.proofs.Common.{◌≡◌, Bool, List, length, map, sym, ap, subst, ◌∙◌}
use Rattle.lt_model.specs.declared.syntax.Item.{Item}
use Rattle.lt_model.specs.declared.syntax.Program.{Program}
use Rattle.lt_model.specs.Check.{checked}
use Rattle.lt_model.specs.Report as model
use Rattle.lt_model.specs.Schema.{Schema}
use Rattle.lt_base.specs.Tables.{Table, state_of}
use Rattle.lt_batch.specs.Batch.{serial_effects, serial_replies}
use Rattle.lt_world.specs.declared.batch.Ran.{Ran}
use Rattle.lt_world.specs.declared.world.World.{World}
use Rattle.lt_world.specs.Batches.{good_ones, HasAnswers, IsRun}
use Rattle.lt_world.specs.World.{IsWorld, Shows, Takes}

module _ (w v : World) (schema : v.schema ≡ w.schema) (database : v.database ≡ w.database) (versions : v.versions ≡ w.versions) where
  pub shows_too : (m : model.World) → Shows w m → Shows v m
  shows_too m s = record {
    schema = s.schema ∙ sym schema;
    some = s.some;
    widths = s.widths;
    state = s.state ∙ ap state_of (sym database);
    versions = s.versions ∙ ap (λ (vs : List (List Table)). map state_of vs) (sym versions);
    older = s.older;
  }

  pub world_too : IsWorld w → IsWorld v
  world_too is = record { model = is.model; shows = shows_too is.model is.shows }

  -- what runs on the one has run on the other
  pub run_before : (programs : List Program) (marks : Bool) (ran : Ran) → IsRun v programs marks ran → IsRun w programs marks ran
  run_before programs marks ran is = record {
    number_is = is.number_is ∙ ap (λ (vs : List (List Table)). length vs) versions;
    checks = is.checks ∙ ap (λ (h : Schema). map (λ (p : Program). checked p h) programs) schema;
    replies_are = is.replies_are ∙ ap (λ (db : List Table). serial_replies (good_ones ran.judgements.items) (state_of db)) database;
    effects_are = λ asked. is.effects_are asked ∙ ap (λ (db : List Table). serial_effects (good_ones ran.judgements.items) (state_of db)) database;
    answers = subst (λ (h : Schema). HasAnswers h programs ran.judgements.items ran.replies ran.effects) schema is.answers;
  }

  pub takes_before : (item : Item) (new : World) → Takes v item new → Takes w item new
  takes_before item new takes = λ marks m s. takes marks m (shows_too m s)

  pub takes_behind : (old : World) (item : Item) → Takes old item w → Takes old item v
  takes_behind old item takes = λ marks m s. shows_too (model.step marks m item) (takes marks m s)
