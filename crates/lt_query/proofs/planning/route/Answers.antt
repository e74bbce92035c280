use Rattle.std.proofs.Common.{◌≡◌}
use Rattle.lt_query.specs.Order.{places_of, stated_order}
use Rattle.lt_query.specs.Stated.{guides_from}
use Rattle.lt_query.proofs.ByShape.{route_made}
use Rattle.lt_query.proofs.planning.route.Goals as goal

pub returns : goal.returns
returns c =
    let order : c.in_ok-order.order ≡ stated_order c.args.body.now.tests (places_of c.args.body.now.atoms) = cc (c.in_ok-places.ensures, c.as_slice.ensures, c.as_slice-2.ensures, c.as_slice-3.ensures, c.in_ok-order.ensures) in
    let made : c.in_ok-guides.guides ≡ guides_from (places_of c.args.body.now.atoms) c.in_ok-order.order 0 c.args.body.now.atoms =
    cc (c.in_ok-places.ensures, c.as_slice.ensures, c.as_slice-4.ensures, c.as_slice-5.ensures, c.as_slice-6.ensures, c.in_ok-made.ensures, c.in_ok-guides.ensures) in
    route_made c.args.body.now c.in_ok-order.order c.in_ok-guides.guides order made
