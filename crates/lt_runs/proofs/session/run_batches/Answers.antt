use Rattle.std.proofs.Common.{◌≡◌, ◌∷◌, [], List, arith, subst, sym}
use Rattle.std.specs.Prelude.{OnOk}
use Rattle.lt_model.specs.declared.syntax.Program.{Program}
use Rattle.lt_world.specs.Lines.{items_of, TakesAll}
use Rattle.lt_runs.proofs.Held.{one_of}
use Rattle.lt_runs.proofs.session.run_batches.Goals as goal

pub returns-then-batches-eq1-clause-world : goal.returns-then-batches-eq1-clause-world
returns-then-batches-eq1-clause-world g c =
    let one : c.args.batches.now ≡ c.index-batches-0.result ∷ [] = one_of c.args.batches.now c.index-batches-0.result (omega (arith, c.if-batches-eq1.true)) c.index-batches-0.is in
    subst (λ (bs : List (List Program)). OnOk c.batch.result (TakesAll c.args.world.now (items_of bs) c.batch.new.self)) (sym one)
    (subst (λ (ps : List Program). OnOk c.batch.result (TakesAll c.args.world.now (items_of (ps ∷ [])) c.batch.new.self)) c.as_slice.ensures c.batch.ensures.world)
