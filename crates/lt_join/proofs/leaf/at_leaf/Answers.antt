use Rattle.std.proofs.Common.{◌≡◌, ◌<◌, ◌^◌, ◌∙◌, List, false, true, sym, refl, ap, subst}
use Rattle.std.specs.List.{AllByRecursion, list_all}
use Rattle.lt_face.specs.Lists.{AnyByRecursion}
use Rattle.lt_face.specs.State.{State}
use Rattle.lt_model.specs.declared.normal.Atom.{Atom}
use Rattle.lt_model.specs.Answers.{cells_of, give_all, passes}
use Rattle.lt_sense.specs.Kept.{Sense}
use Rattle.lt_sense.specs.Sense.{IsTight}
use Rattle.lt_join.specs.Certify.{IsGapped, IsHitOf}
use Rattle.lt_join.specs.Cost.{GainsFewer}
use Rattle.lt_join.specs.Values.{assigned, values_in}
use Rattle.lt_join.specs.Walked.{Grows}
use Rattle.lt_join.specs.Way.{WayView, IsWay}
use Rattle.lt_join.proofs.KnownLeaf.{nil_of, leaf_plain, leaf_failed, leaf_small, leaf_hit, leaf_answered}
use Rattle.lt_join.proofs.leaf.at_leaf.Goals as goal

pub returns-then-is_empty-2-clause-walked : goal.returns-then-is_empty-2-clause-walked
returns-then-is_empty-2-clause-walked g c =
    let way = c.args.way.now in
    let is_way : IsWay way = subst IsWay c.way.view_is c.way.invariant.0 in
    let tests : c.as_slice-tests.result.now ≡ way.body.tests = c.as_slice-tests.ensures ∙ ap (λ (w : WayView). w.body.tests) c.way.view_is in
    let absents : c.as_slice-absents.result.now ≡ way.body.absents = c.as_slice-absents.ensures ∙ ap (λ (w : WayView). w.body.absents) c.way.view_is in
    let no_tests = sym tests ∙ nil_of c.as_slice-tests.result.now (sym c.is_empty.ensures ∙ c.if-is_empty.true) in
    let no_absents = sym absents ∙ nil_of c.as_slice-absents.result.now (sym c.is_empty-then-is_empty.ensures ∙ c.if-is_empty-2.true) in
    leaf_plain way is_way c.args._keys.now c.requires.full c.args.found.now c.requires.reached c.requires.right (values_in c.args.values.now.cells) c.requires.known no_tests no_absents
    c.add_row.new.found c.args.moves.now c.stops.result c.stops.ensures
    (λ each. record { there = c.in_ok-add_row.ensures.added each; kept = c.in_ok-add_row.ensures.kept; each = c.in_ok-add_row.ensures.each }) c.add_row.ensures.first c.add_row.ensures.sense

pub returns-then-not-all_pass-clause-walked : goal.returns-then-not-all_pass-clause-walked
returns-then-not-all_pass-clause-walked g c =
    let way = c.args.way.now in
    let is_way : IsWay way = subst IsWay c.way.view_is c.way.invariant.0 in
    let tests : c.as_slice-tests.result.now ≡ way.body.tests = c.as_slice-tests.ensures ∙ ap (λ (w : WayView). w.body.tests) c.way.view_is in
    let values = values_in c.args.values.now.cells in
    let all = values_in c.give_each.new.values.cells in
    let given : all ≡ give_all values way.body.tests = c.give_each.ensures ∙ ap (give_all values) tests in
    let fails : list_all (passes (assigned all)) way.body.tests ≡ false = sym (ap (list_all (passes (assigned all))) tests) ∙ (sym c.all_pass.ensures ∙ c.if-not-all_pass.true) in
    leaf_failed way is_way c.args._keys.now c.requires.full c.args.found.now c.requires.reached c.requires.right values all c.requires.known given c.args.moves.now fails

pub lacks_each-requires-clause-small : goal.lacks_each-requires-clause-small
lacks_each-requires-clause-small g c =
    let way = c.args.way.now in
    let is_way : IsWay way = subst IsWay c.way.view_is c.way.invariant.0 in
    let tests : c.as_slice-tests.result.now ≡ way.body.tests = c.as_slice-tests.ensures ∙ ap (λ (w : WayView). w.body.tests) c.way.view_is in
    let absents : c.as_slice-absents.result.now ≡ way.body.absents = c.as_slice-absents.ensures ∙ ap (λ (w : WayView). w.body.absents) c.way.view_is in
    let values = values_in c.args.values.now.cells in
    let all = values_in c.give_each.new.values.cells in
    let given : all ≡ give_all values way.body.tests = c.give_each.ensures ∙ ap (give_all values) tests in
    subst (λ (xs : List Atom). AllByRecursion (λ (atom : Atom). AllByRecursion (λ x. x < 2 ^ 120) (cells_of (assigned all) atom.terms)) xs) (sym absents)
    (leaf_small way is_way c.args._keys.now c.requires.full c.args.found.now c.requires.reached c.requires.right values all c.requires.known given)

pub returns-then-not-lacks-clause-walked : goal.returns-then-not-lacks-clause-walked
returns-then-not-lacks-clause-walked g c =
    let way = c.args.way.now in
    let is_way : IsWay way = subst IsWay c.way.view_is c.way.invariant.0 in
    let tests : c.as_slice-tests.result.now ≡ way.body.tests = c.as_slice-tests.ensures ∙ ap (λ (w : WayView). w.body.tests) c.way.view_is in
    let absents : c.as_slice-absents.result.now ≡ way.body.absents = c.as_slice-absents.ensures ∙ ap (λ (w : WayView). w.body.absents) c.way.view_is in
    let values = values_in c.args.values.now.cells in
    let all = values_in c.give_each.new.values.cells in
    let given : all ≡ give_all values way.body.tests = c.give_each.ensures ∙ ap (give_all values) tests in
    let state : g.I.Indexes.state c.way.inside.tables.now ≡ way.state = ap (λ (w : WayView). w.state) c.way.view_is in
    let tight : IsTight c.lacks_each.new.sense way.state = subst (λ (s : State). IsTight c.lacks_each.new.sense s) state c.in_ok-lacks.ensures.tight in
    leaf_hit way is_way c.args._keys.now c.requires.full c.args.found.now c.requires.reached c.requires.right values all c.requires.known given
    (record { sense = c.lacks_each.new.sense; rows = c.args.found.now.rows }) c.args.moves.now c.lacks_each.new.moves refl c.in_ok-lacks.ensures.grows tight c.in_ok-lacks.ensures.gains
    (subst (AnyByRecursion (IsHitOf c.lacks_each.new.sense (assigned all))) absents (c.in_ok-lacks.ensures.finds c.if-not-lacks.true))

pub returns-clause-walked : goal.returns-clause-walked
returns-clause-walked g c =
    let way = c.args.way.now in
    let is_way : IsWay way = subst IsWay c.way.view_is c.way.invariant.0 in
    let tests : c.as_slice-tests.result.now ≡ way.body.tests = c.as_slice-tests.ensures ∙ ap (λ (w : WayView). w.body.tests) c.way.view_is in
    let absents : c.as_slice-absents.result.now ≡ way.body.absents = c.as_slice-absents.ensures ∙ ap (λ (w : WayView). w.body.absents) c.way.view_is in
    let values = values_in c.args.values.now.cells in
    let all = values_in c.give_each.new.values.cells in
    let given : all ≡ give_all values way.body.tests = c.give_each.ensures ∙ ap (give_all values) tests in
    let state : g.I.Indexes.state c.way.inside.tables.now ≡ way.state = ap (λ (w : WayView). w.state) c.way.view_is in
    let tight : IsTight c.lacks_each.new.sense way.state = subst (λ (s : State). IsTight c.lacks_each.new.sense s) state c.in_ok-lacks.ensures.tight in
    let held : list_all (passes (assigned all)) way.body.tests ≡ true = sym (ap (list_all (passes (assigned all))) tests) ∙ (sym c.all_pass.ensures ∙ c.if-not-all_pass.false) in
    let sense : c.lacks_each.new.sense ≡ c.add_row-2.new.found.sense = sym c.add_row-2.ensures.sense in
    let gapped = subst (AllByRecursion (IsGapped c.lacks_each.new.sense (assigned all))) absents (c.in_ok-lacks.ensures.lacks c.if-not-lacks.false) in
    leaf_answered way is_way c.args._keys.now c.requires.full c.args.found.now c.requires.reached c.requires.right values all c.requires.known given
    c.add_row-2.new.found c.args.moves.now c.lacks_each.new.moves c.stops-2.result c.stops-2.ensures held
    (subst (λ (s : Sense). AllByRecursion (IsGapped s (assigned all)) way.body.absents) sense gapped)
    (λ each. record { there = c.in_ok-add_row-2.ensures.added each; kept = c.in_ok-add_row-2.ensures.kept; each = c.in_ok-add_row-2.ensures.each }) c.add_row-2.ensures.first
    (subst (Grows c.args.found.now.sense) sense c.in_ok-lacks.ensures.grows) (subst (λ (s : Sense). IsTight s way.state) sense tight)
    (subst (λ (s : Sense). GainsFewer c.args.found.now.sense s c.args.moves.now c.lacks_each.new.moves) sense c.in_ok-lacks.ensures.gains)
