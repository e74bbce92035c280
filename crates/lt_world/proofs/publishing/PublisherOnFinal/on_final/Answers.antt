use Rattle.std.proofs.Common.{◌++◌, [], ◌∷◌, ◌∙◌, List, ap}
use Rattle.lt_model.specs.declared.mark.Mark.{Mark}
use Rattle.lt_model.specs.Marks.{laid}
use Rattle.lt_base.specs.Tables.{Table, state_of}
use Rattle.lt_world.specs.Publishing.{Published}
use Rattle.lt_world.proofs.Published.{fit_behind, published_more}
use Rattle.lt_world.proofs.publishing.PublisherOnFinal.on_final.Goals as goal

pub invariant_of-self-in-Ok : goal.invariant_of-self-in-Ok
invariant_of-self-in-Ok g c =
    published_more g.B.Start.state g.B.Start.versions c.self.inside.database c.self.inside.versions c.self.inside.given.items c.self.invariant c.args.effect.now c.lay.new.self c.publish.new.self c.push.new.self.items
    (c.in_ok-lay.ensures.state ∙ ap (λ (db : List Table). laid (state_of db) c.args.effect.now) c.in_ok-database.ensures)
    (c.in-Ok.ensures.ok ∙ ap (λ (db : List Table). c.self.inside.versions ++ db ∷ []) c.in_ok-version.ensures)
    (c.in_ok-push.ensures.items ∙ ap (λ (ms : List Mark). c.self.inside.given.items ++ ms ∷ []) c.in_ok-marks.ensures)

pub returns-in-Ok-clause-base : goal.returns-in-Ok-clause-base
returns-in-Ok-clause-base g c = λ marks fit.
    fit_behind c.args.self.now.database c.lay.new.self c.args.effect.now (c.in_ok-lay.ensures.state ∙ ap (λ (db : List Table). laid (state_of db) c.args.effect.now) c.in_ok-database.ensures ∙ ap (λ (p : Published). laid (state_of p.database) c.args.effect.now) c.self.view_is) marks fit
