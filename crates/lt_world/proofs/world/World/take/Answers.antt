use Rattle.std.proofs.Common.{List, map, refl, sym, ap, subst, ◌∙◌}
use Rattle.std.proofs.lemmas.Result.{err_from_is_err_and}
use Rattle.lt_model.specs.declared.syntax.Item.TheVariants.{Batch}
use Rattle.lt_model.specs.declared.syntax.Program.{Program}
use Rattle.lt_model.specs.Check.{checked}
use Rattle.lt_model.specs.Schema.{number_of}
use Rattle.lt_world.specs.World.{said, Takes}
use Rattle.lt_world.proofs.Said.{shown_stays}
use Rattle.lt_world.proofs.SameWorld.{takes_behind}
use Rattle.lt_world.proofs.Writing.{all_written, passed_on, write_failed}
use Rattle.lt_world.proofs.world.World.take.Goals as goal

pub returns-in-Relation-clause-world : goal.returns-in-Relation-clause-world
returns-in-Relation-clause-world g c = rw c.in-Relation.is c.relation.ensures.world

pub returns-in-Relation-clause-text : goal.returns-in-Relation-clause-text
returns-in-Relation-clause-text g c = λ m s. rw c.in-Relation.is (c.relation.ensures.text c.args.options.marks m s)

pub retire-requires : goal.retire-requires
retire-requires g c = c.in_ok-judgements-in-Batch.ensures.checked ∙ ap (λ (ps : List Program). map (λ (p : Program). checked p c.answer.new.self.schema) ps) c.as_slice.ensures

pub returns-in_ok-judgements-in-Batch-clause-world : goal.returns-in_ok-judgements-in-Batch-clause-world
returns-in_ok-judgements-in-Batch-clause-world g c =
    rw c.in-Batch.is (takes_behind c.answer.new.self _ c.retire.ensures refl refl c.args.self.now (Batch c.in-Batch.programs)
    (subst (λ (programs : List Program). Takes c.args.self.now (Batch programs) c.answer.new.self) c.as_slice.ensures c.in_ok-judgements-in-Batch.ensures.world))

pub returns-in_err-judgements-in-Batch-clause-text : goal.returns-in_err-judgements-in-Batch-clause-text
returns-in_err-judgements-in-Batch-clause-text g c = λ m s.
    let p = err_from_is_err_and c.from_residual.result c.from_residual.ensures.1 in
    rw c.in-Batch.is (passed_on c.from_residual.result p.0 c.in_err-judgements-in-Batch.field-0.0 _ _ _ _ _ _ p.1 p.2 (c.in_err-judgements-in-Batch.ensures.text m s)
    (ap (λ (ps : List Program). said c.args.options.marks m (Batch ps)) (sym c.as_slice.ensures)))

pub returns-in_err-show-in-Show-clause-text : goal.returns-in_err-show-in-Show-clause-text
returns-in_err-show-in-Show-clause-text g c = λ m s.
    let p = err_from_is_err_and c.from_residual-in_err-show-in-Show.result c.from_residual-in_err-show-in-Show.ensures.1 in
    rw c.in-Show.is (write_failed c.from_residual-in_err-show-in-Show.result p.0 _ _ _ _ _ _ _ p.1 (c.in_err-show-in-Show.ensures c.args.options.marks m s) refl)

pub returns-in_ok-show-in-Show-clause-world : goal.returns-in_ok-show-in-Show-clause-world
returns-in_ok-show-in-Show-clause-world g c = λ marks m s. rw c.in-Show.is (shown_stays c.args.self.now m c.in-Show.name c.in-Show.at (number_of m.schema c.in-Show.name) s)

pub returns-in_ok-show-in-Show-clause-text : goal.returns-in_ok-show-in-Show-clause-text
returns-in_ok-show-in-Show-clause-text g c = λ m s. rw c.in-Show.is (all_written tt _ _ _ _ _ _ _ (c.in_ok-show-in-Show.ensures c.args.options.marks m s) refl)
