use Rattle.std.proofs.Common.{◌∙◌, [], ℕ, Option, ap}
use Rattle.std.specs.Option.{option_map_or}
use Rattle.std.proofs.lemmas.Result.{err_from_is_err_and}
use Rattle.lt_model.specs.Report.{bad_text}
use Rattle.lt_world.proofs.Writing.{all_written, memory_refused, none_written, write_failed}
use Rattle.lt_world.proofs.world.World.relation.Goals as goal

pub returns-in_err-code-clause-text : goal.returns-in_err-code-clause-text
returns-in_err-code-clause-text g c = λ marks m s.
    let p = err_from_is_err_and c.from_residual.result c.from_residual.ensures.1 in
    memory_refused c.from_residual.result p.0 _ _ _ p.1 p.2

pub returns-in_err-put_bad_item-in-Some-clause-text : goal.returns-in_err-put_bad_item-in-Some-clause-text
returns-in_err-put_bad_item-in-Some-clause-text g c = λ marks m s.
    let r = c.from_residual-in_err-put_bad_item-in-Some in
    let p = err_from_is_err_and r.result r.ensures.1 in
    write_failed r.result p.0 _ _ _ _ _ (bad_text c.in-Some.code) _ p.1 c.in_err-put_bad_item-in-Some.ensures (c.in_ok-code.ensures.code marks m s ∙ ap (λ (o : Option ℕ). option_map_or bad_text o []) c.in-Some.is)

pub returns-in_ok-put_bad_item-in-Some-clause-text : goal.returns-in_ok-put_bad_item-in-Some-clause-text
returns-in_ok-put_bad_item-in-Some-clause-text g c = λ marks m s. all_written _ _ _ _ _ _ (bad_text c.in-Some.code) _ c.in_ok-put_bad_item-in-Some.ensures (c.in_ok-code.ensures.code marks m s ∙ ap (λ (o : Option ℕ). option_map_or bad_text o []) c.in-Some.is)

pub returns-in-None-clause-text : goal.returns-in-None-clause-text
returns-in-None-clause-text g c = λ marks m s. none_written _ _ _ _ (c.in_ok-code.ensures.code marks m s ∙ ap (λ (o : Option ℕ). option_map_or bad_text o []) c.in-None.is)
