use Rattle.std.proofs.Common.{◌∙◌, ap, map}
use Rattle.lt_model.specs.declared.normal.Body.{Body}
use Rattle.lt_query.specs.Needs.{first_index, with_names}
use Rattle.lt_query.proofs.Needed.{first_step}
use Rattle.lt_query.proofs.indexes.add_firsts.Goals as goal

pub loop-stmt-preserved : goal.loop-stmt-preserved
loop-stmt-preserved c =
    first_step c.loop-stmt.names c.add_firsts_of.new.names _ c.args.stmts.now c.loop-stmt.stmt-index c.stmt-item.result c.loop-stmt-test.true c.stmt-item.is
    (c.in_ok-add_firsts_of.ensures ∙ ap (λ atoms. with_names c.loop-stmt.names (map first_index atoms)) (c.as_slice.ensures ∙ ap (λ (b : Body). b.absents) c.body_of.ensures))
    c.loop-stmt.invariant
