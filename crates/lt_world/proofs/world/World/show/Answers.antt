use Rattle.std.proofs.Common.{◌≡◌, ℕ, List, Some, refl, sym, ap, subst, ◌∙◌}
use Rattle.lt_model.specs.Schema.{Schema, number_of}
use Rattle.lt_report.specs.Puts.{Puts}
use Rattle.lt_world.proofs.Folds.{later_said}
use Rattle.lt_world.proofs.Versions.{not_made}
use Rattle.lt_world.proofs.Showing.{show_said, some, wide}
use Rattle.lt_world.proofs.world.World.show.Goals as goal

pub put_rows-requires-clause-some : goal.put_rows-requires-clause-some
put_rows-requires-clause-some g c =
    some c.args.self.now c.requires.model c.requires.shows c.args.name.now c.in-Some.number c.args.at c.in-Some-database_at.database.now c.args.self.now.versions c.columns-columns.result.now c.rows-rows.result
    c.in-Some.ensures refl c.in-Some-database_at.ensures c.columns-columns.ensures c.rows-rows.ensures

pub put_rows-requires-clause-wide : goal.put_rows-requires-clause-wide
put_rows-requires-clause-wide g c =
    wide c.args.self.now c.requires.model c.requires.shows c.args.name.now c.in-Some.number c.args.at c.in-Some-database_at.database.now c.args.self.now.versions c.columns-columns.result.now c.rows-rows.result
    c.in-Some.ensures refl c.in-Some-database_at.ensures c.columns-columns.ensures c.rows-rows.ensures

pub returns : goal.returns
returns g c = λ marks m s.
    subst (λ (text : List ℕ). Puts c.put_rows.result (g.K.Sink.holds c.args.sink.now) (g.K.Sink.holds c.put_rows.new.sink) (g.K.Sink.faults c.args.sink.now) (g.K.Sink.faults c.put_rows.new.sink) text)
    (sym (show_said marks c.args.self.now m s c.args.name.now c.in-Some.number c.args.at c.in-Some-database_at.database.now c.columns-columns.result.now c.rows-rows.result
    c.in-Some.ensures c.in-Some-database_at.ensures c.columns-columns.ensures c.rows-rows.ensures)) c.put_rows.ensures

pub returns-in_default-database_at : goal.returns-in_default-database_at
returns-in_default-database_at g c = λ marks m s.
    let place : number_of m.schema c.args.name.now ≡ Some c.in-Some.number = ap (λ (h : Schema). number_of h c.args.name.now) s.schema ∙ sym c.in-Some.ensures in
    let later = not_made m c.args.self.now.database c.args.self.now.versions s.state s.versions c.args.at (sym c.in_default-database_at.ensures) in
    subst (λ (text : List ℕ). Puts c.put_bad_item-in_default-database_at.result (g.K.Sink.holds c.args.sink.now) (g.K.Sink.holds c.put_bad_item-in_default-database_at.new.sink) (g.K.Sink.faults c.args.sink.now) (g.K.Sink.faults c.put_bad_item-in_default-database_at.new.sink) text)
    (sym (later_said marks m c.args.name.now c.in-Some.number c.args.at place later)) c.put_bad_item-in_default-database_at.ensures
