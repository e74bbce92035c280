use Rattle.std.proofs.Common.{sym, subst}
use Rattle.lt_model.specs.declared.normal.Body.{Body}
use Rattle.lt_model.specs.declared.normal.Stmt.{Stmt}
use Rattle.lt_query.specs.Needs.{body_of}
use Rattle.lt_query.specs.Runnable.{HasWidths}
use Rattle.lt_world.proofs.GoodAll.{normal_wide}
use Rattle.lt_world.proofs.making.Making.add_whole.Goals as goal

pub route_of-requires : goal.route_of-requires
route_of-requires c =
    record { widths = subst (λ (b : Body). HasWidths b) (sym c.body_of.ensures) (subst (λ (s : Stmt). HasWidths (body_of s)) (sym c.in_ok-stmt.ensures.good.1) (normal_wide c.args.schema.now c.args.statement.now c.requires.within)) }

pub add-requires-clause-widths : goal.add-requires-clause-widths
add-requires-clause-widths c = subst (λ (s : Stmt). HasWidths (body_of s)) (sym c.in_ok-stmt.ensures.good.1) (normal_wide c.args.schema.now c.args.statement.now c.requires.within)
