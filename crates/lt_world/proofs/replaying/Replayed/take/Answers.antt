use Rattle.std.proofs.Common.{List, inl, refl, subst}
use Rattle.std.specs.Prelude.{OnOk}
use Rattle.std.proofs.lemmas.Result.{err_from_is_err_and}
use Rattle.lt_model.specs.declared.syntax.Item.TheVariants.{Batch}
use Rattle.lt_model.specs.declared.syntax.Program.{Program}
use Rattle.lt_model.specs.Schema.{number_of}
use Rattle.lt_world.specs.World.{Takes}
use Rattle.lt_world.proofs.Said.{shown_stays}
use Rattle.lt_world.proofs.Replayed.{all_replayed, all_taken, halted, no_write, on_err, replay_failed, take_halted}
use Rattle.lt_world.proofs.replaying.Replayed.take.Goals as goal

pub returns-in_err-relation-in-Relation-clause-wrong : goal.returns-in_err-relation-in-Relation-clause-wrong
returns-in_err-relation-in-Relation-clause-wrong g c =
    let p = err_from_is_err_and c.from_residual.result c.from_residual.ensures.1 in
    halted _ c.from_residual.result p.0 c.in_err-relation-in-Relation.field-0.0 p.1 p.2

pub returns-in_err-relation-in-Relation-clause-kept : goal.returns-in_err-relation-in-Relation-clause-kept
returns-in_err-relation-in-Relation-clause-kept g c =
    let p = err_from_is_err_and c.from_residual.result c.from_residual.ensures.1 in
    halted _ c.from_residual.result p.0 c.in_err-relation-in-Relation.field-0.0 p.1 p.2

pub returns-in_err-relation-in-Relation-clause-text : goal.returns-in_err-relation-in-Relation-clause-text
returns-in_err-relation-in-Relation-clause-text g c = λ m s.
    let p = err_from_is_err_and c.from_residual.result c.from_residual.ensures.1 in
    rw c.in-Relation.is (take_halted c.from_residual.result p.0 c.in_err-relation-in-Relation.field-0.0 _ _ _ _ _ p.1 p.2 (c.in_err-relation-in-Relation.ensures.text c.args.marks m s))

pub returns-in_err-relation-in-Relation-clause-part : goal.returns-in_err-relation-in-Relation-clause-part
returns-in_err-relation-in-Relation-clause-part g c = on_err c.from_residual.result (λ m s. rw c.in-Relation.is (inl tt))

pub returns-in_ok-relation-in-Relation-clause-world : goal.returns-in_ok-relation-in-Relation-clause-world
returns-in_ok-relation-in-Relation-clause-world g c = rw c.in-Relation.is c.in_ok-relation-in-Relation.ensures.world

pub returns-in_ok-relation-in-Relation-clause-text : goal.returns-in_ok-relation-in-Relation-clause-text
returns-in_ok-relation-in-Relation-clause-text g c = λ m s. rw c.in-Relation.is (all_taken tt _ _ _ _ _ _ (c.in_ok-relation-in-Relation.ensures.text c.args.marks m s))

pub returns-in-Batch-clause-world : goal.returns-in-Batch-clause-world
returns-in-Batch-clause-world g c = rw c.in-Batch.is (subst (λ (programs : List Program). OnOk c.batch.result (Takes c.args.self.now.world (Batch programs) c.batch.new.self.world)) c.as_slice.ensures c.batch.ensures.world)

pub returns-in_err-show-in-Show-clause-text : goal.returns-in_err-show-in-Show-clause-text
returns-in_err-show-in-Show-clause-text g c = λ m s.
    let r = c.from_residual-in_err-show-in-Show in
    let p = err_from_is_err_and r.result r.ensures.1 in
    rw c.in-Show.is (replay_failed r.result p.0 _ _ _ _ _ _ _ p.1 p.2 (c.in_err-show-in-Show.ensures c.args.marks m s) refl)

pub returns-in_err-show-in-Show-clause-part : goal.returns-in_err-show-in-Show-clause-part
returns-in_err-show-in-Show-clause-part g c = on_err c.from_residual-in_err-show-in-Show.result (λ m s. rw c.in-Show.is (inl tt))

pub returns-in_err-show-in-Show-clause-wrong : goal.returns-in_err-show-in-Show-clause-wrong
returns-in_err-show-in-Show-clause-wrong g c =
    let r = c.from_residual-in_err-show-in-Show in
    let p = err_from_is_err_and r.result r.ensures.1 in
    no_write _ r.result p.0 p.1 p.2

pub returns-in_err-show-in-Show-clause-kept : goal.returns-in_err-show-in-Show-clause-kept
returns-in_err-show-in-Show-clause-kept g c =
    let r = c.from_residual-in_err-show-in-Show in
    let p = err_from_is_err_and r.result r.ensures.1 in
    no_write _ r.result p.0 p.1 p.2

pub returns-in_ok-show-in-Show-clause-world : goal.returns-in_ok-show-in-Show-clause-world
returns-in_ok-show-in-Show-clause-world g c = λ marks m s. rw c.in-Show.is (shown_stays c.args.self.now.world m c.in-Show.name c.in-Show.at (number_of m.schema c.in-Show.name) s)

pub returns-in_ok-show-in-Show-clause-text : goal.returns-in_ok-show-in-Show-clause-text
returns-in_ok-show-in-Show-clause-text g c = λ m s. rw c.in-Show.is (all_replayed tt _ _ _ _ _ _ _ (c.in_ok-show-in-Show.ensures c.args.marks m s) refl)
