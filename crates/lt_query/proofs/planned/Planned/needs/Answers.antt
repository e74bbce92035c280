use Rattle.std.proofs.Common.{◌≡◌, ◌∙◌, ◌++◌, [], map, ap, subst, sym}
use Rattle.std.specs.List.{AllByRecursion}
use Rattle.std.specs.Arc.{arc_value}
use Rattle.lt_query.specs.declared.plans.Route.{Route}
use Rattle.lt_query.specs.Lists.{IsDistinct}
use Rattle.lt_query.specs.Needs.{body_of, with_names, names_of, firsts_of, HaveNames, HaveFirsts}
use Rattle.lt_query.proofs.ByShape.{names_by, names_step, names_end}
use Rattle.lt_query.proofs.Needed.{IsDistinct-with_names, needed_is, each_named, each_first, names_all}
use Rattle.lt_query.proofs.planned.Planned.needs.Goals as goal

pub loop-route-preserved : goal.loop-route-preserved
loop-route-preserved c =
    names_step arc_value c.routes-route-items.result.now c.loop-route.route-index c.route-item.result c.loop-route.names c.add_names.new.names (with_names [] (names_by (map arc_value c.routes-route-items.result.now))) c.as_slice.result.now
    c.loop-route-test.true c.route-item.is (c.as_slice.ensures ∙ ap (λ (r : Route). r.guides) c.deref.ensures) c.in_ok-add_names.ensures c.loop-route.invariant

pub returns-clause-once : goal.returns-clause-once
returns-clause-once c =
    let all : c.add_firsts.new.names ≡ with_names [] (names_of c.args.self.now ++ firsts_of c.args.self.now) =
    names_all c.args.self.now c.loop-route.names c.add_firsts.new.names c.in_ok-add_firsts.ensures
    (names_end arc_value c.routes-route-items.result.now c.args.self.now c.loop-route.route-index c.loop-route.names c.routes-route-items.ensures c.loop-route-test.false c.loop-route.invariant) in
    subst IsDistinct (sym all) (IsDistinct-with_names [] (names_of c.args.self.now ++ firsts_of c.args.self.now) tt)

pub returns-clause-needed : goal.returns-clause-needed
returns-clause-needed c =
    let all : c.add_firsts.new.names ≡ with_names [] (names_of c.args.self.now ++ firsts_of c.args.self.now) =
    names_all c.args.self.now c.loop-route.names c.add_firsts.new.names c.in_ok-add_firsts.ensures
    (names_end arc_value c.routes-route-items.result.now c.args.self.now c.loop-route.route-index c.loop-route.names c.routes-route-items.ensures c.loop-route-test.false c.loop-route.invariant) in
    λ name. rw all (needed_is c.args.self.now name)

pub returns-clause-each : goal.returns-clause-each
returns-clause-each c =
    let all : c.add_firsts.new.names ≡ with_names [] (names_of c.args.self.now ++ firsts_of c.args.self.now) =
    names_all c.args.self.now c.loop-route.names c.add_firsts.new.names c.in_ok-add_firsts.ensures
    (names_end arc_value c.routes-route-items.result.now c.args.self.now c.loop-route.route-index c.loop-route.names c.routes-route-items.ensures c.loop-route-test.false c.loop-route.invariant) in
    subst (λ names. HaveNames names c.args.self.now) (sym all) (each_named c.args.self.now)

pub returns-clause-firsts : goal.returns-clause-firsts
returns-clause-firsts c =
    let all : c.add_firsts.new.names ≡ with_names [] (names_of c.args.self.now ++ firsts_of c.args.self.now) =
    names_all c.args.self.now c.loop-route.names c.add_firsts.new.names c.in_ok-add_firsts.ensures
    (names_end arc_value c.routes-route-items.result.now c.args.self.now c.loop-route.route-index c.loop-route.names c.routes-route-items.ensures c.loop-route-test.false c.loop-route.invariant) in
    subst (λ names. AllByRecursion (λ stmt. HaveFirsts names (body_of stmt)) c.args.self.now) (sym all) (each_first c.args.self.now)
