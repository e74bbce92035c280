use Rattle.std.proofs.Common.{◌≡◌, ◌∙◌, List, Some, sym, ap}
use Rattle.lt_face.specs.State.{Row, State}
use Rattle.lt_model.specs.Answers.{Values}
use Rattle.lt_join.specs.Values.{values_in, assigned}
use Rattle.lt_reference.specs.Values.{matched}
use Rattle.lt_reference.specs.Walk.{bare, bears}
use Rattle.lt_reference.proofs.Loops.{some_at_end, some_met, some_missed, some_there, some_all}
use Rattle.lt_reference.proofs.answers.+find_some.Goals as goal
use Rattle.lt_reference.proofs.answers.+find_some.Goals.{in-Some-matched+else-find_some, in_default-matched}

pub returns-in_default : goal.returns-in_default
returns-in_default t c =
    c.bears.ensures
    ∙ (ap (λ (v : Values). bears (assigned v) c.args.tests.now c.args.absents.now (bare c.args.relations.now)) c.give_all-values.ensures
    ∙ some_at_end (values_in c.args.values.now.cells) c.args.atoms.now c.args.tests.now c.args.absents.now (bare c.args.relations.now) c.in_default.ensures.cases)

pub returns-then-find_some : goal.returns-then-find_some
returns-then-find_some t c =
    let values : Values = values_in c.args.values.now.cells in
    let met : matched values c.in-Some.atom.now.terms c.row-item.result ≡ Some (values_in c.in-Some-matched.next.cells) = ap (λ ts. matched values ts c.row-item.result) (sym c.as_slice.ensures) ∙ c.in-Some-matched.ensures in
    sym (some_there values c.in-Some.atom.now c.in-Some.rest.now c.args.tests.now c.args.absents.now (bare c.args.relations.now) c.rows_of-row-items.result.now c.loop-row.row-index c.row-item.result c.loop-row-test.true c.row-item.is c.args.atoms.now (values_in c.in-Some-matched.next.cells) c.in-Some.ensures.cases.0 c.rows_of-row-items.ensures met (sym c.find_some.ensures ∙ c.if-find_some.true))

pub loop-row-preserved : goal.loop-row-preserved
loop-row-preserved t c =
    let values : Values = values_in c.args.values.now.cells in
    let state : State = bare c.args.relations.now in
    let rows : List Row = c.rows_of-row-items.result.now in
    let terms : matched values c.in-Some.atom.now.terms c.row-item.result ≡ matched values c.as_slice.result.now c.row-item.result =
    ap (λ ts. matched values ts c.row-item.result) (sym c.as_slice.ensures) in
    elim c.match-matched.branch [
      | in-Some-matched+else-find_some w ↦ some_met values c.in-Some.atom.now c.in-Some.rest.now c.args.tests.now c.args.absents.now state rows c.loop-row.row-index c.row-item.result c.loop-row-test.true c.row-item.is (values_in w.in-Some-matched.next.cells) c.loop-row.invariant (terms ∙ w.in-Some-matched.ensures) (sym w.find_some.ensures ∙ w.if-find_some.false)
      | in_default-matched w ↦ some_missed values c.in-Some.atom.now c.in-Some.rest.now c.args.tests.now c.args.absents.now state rows c.loop-row.row-index c.row-item.result c.loop-row-test.true c.row-item.is c.loop-row.invariant (terms ∙ w.in_default-matched.ensures)
    ]

pub returns : goal.returns
returns t c =
    some_all (values_in c.args.values.now.cells) c.in-Some.atom.now c.in-Some.rest.now c.args.atoms.now c.args.tests.now c.args.absents.now (bare c.args.relations.now) c.rows_of-row-items.result.now c.loop-row.row-index c.in-Some.ensures.cases.0 c.rows_of-row-items.ensures c.loop-row-test.false c.loop-row.invariant
