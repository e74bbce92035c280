use Rattle.std.proofs.Common.{arith}
use Rattle.lt_model.specs.declared.normal.Term.TheVariants.{Var}
use Rattle.lt_query.specs.Order.{is_tied_to, place_at}
use Rattle.std.proofs.lemmas.Grind.{common_steps}
use Rattle.lt_query.proofs.PlaceSteps.{filter_below_more}
use Rattle.lt_query.proofs.order.add_tied.Goals as goal

pub loop-q-preserved : goal.loop-q-preserved
loop-q-preserved c =
    let more = filter_below_more (λ q. is_tied_to (Var c.args.v) (place_at c.args.places.now q)) c.loop-q.q in
    grind (arith, common_steps, more)
