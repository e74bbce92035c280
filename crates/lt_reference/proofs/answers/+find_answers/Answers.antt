use Rattle.std.proofs.Common.{◌≡◌, ◌∙◌, List, Vec, Global, sym, ap, append-nil}
use Rattle.lt_face.specs.State.{Row, State}
use Rattle.lt_model.specs.Answers.{Values}
use Rattle.lt_join.specs.Values.{values_in}
use Rattle.lt_reference.specs.Values.{matched}
use Rattle.lt_reference.specs.Walk.{bare}
use Rattle.lt_reference.proofs.Loops.{found_at_end, found_met, found_missed, found_all}
use Rattle.lt_reference.proofs.answers.+find_answers.Goals as goal
use Rattle.lt_reference.proofs.answers.+find_answers.Goals.{in-Some-matched+in_ok-find_answers, in_default-matched}

pub returns-in_ok-push : goal.returns-in_ok-push
returns-in_ok-push t c =
    c.in_ok-push.ensures.items
    ∙ found_at_end c.args.terms.now (values_in c.args.values.now.cells) c.args.atoms.now c.args.tests.now c.args.absents.now (bare c.args.relations.now) _ c.args.found.now.items c.in_default.ensures.cases c.in-Some-answer.ensures

pub returns-in_default-answer : goal.returns-in_default-answer
returns-in_default-answer t c =
    sym (append-nil c.args.found.now.items)
    ∙ found_at_end c.args.terms.now (values_in c.args.values.now.cells) c.args.atoms.now c.args.tests.now c.args.absents.now (bare c.args.relations.now) _ c.args.found.now.items c.in_default.ensures.cases c.in_default-answer.ensures

pub loop-row-preserved : goal.loop-row-preserved
loop-row-preserved t c =
    let values : Values = values_in c.args.values.now.cells in
    let state : State = bare c.args.relations.now in
    let rows : List Row = c.rows_of-row-items.result.now in
    let terms : matched values c.in-Some.atom.now.terms c.row-item.result ≡ matched values c.as_slice.result.now c.row-item.result =
    ap (λ ts. matched values ts c.row-item.result) (sym c.as_slice.ensures) in
    elim c.match-matched.branch [
      | in-Some-matched+in_ok-find_answers w ↦
          ap (λ (v : Vec Row Global). v.items) w.found-is
          ∙ found_met values c.in-Some.atom.now c.in-Some.rest.now c.args.tests.now c.args.absents.now state rows c.loop-row.row-index c.row-item.result c.loop-row-test.true c.row-item.is c.args.terms.now c.args.found.now.items c.loop-row.found.items w.find_answers.new.found.items (values_in w.in-Some-matched.next.cells) c.loop-row.invariant (terms ∙ w.in-Some-matched.ensures) w.in_ok-find_answers.ensures
      | in_default-matched w ↦
          ap (λ (v : Vec Row Global). v.items) w.found-is
          ∙ found_missed values c.in-Some.atom.now c.in-Some.rest.now c.args.tests.now c.args.absents.now state rows c.loop-row.row-index c.row-item.result c.loop-row-test.true c.row-item.is c.args.terms.now c.args.found.now.items c.loop-row.found.items c.loop-row.invariant (terms ∙ w.in_default-matched.ensures)
    ]

pub returns : goal.returns
returns t c =
    found_all c.args.terms.now (values_in c.args.values.now.cells) c.in-Some.atom.now c.in-Some.rest.now c.args.atoms.now c.args.tests.now c.args.absents.now (bare c.args.relations.now) c.rows_of-row-items.result.now c.args.found.now.items c.loop-row.found.items c.loop-row.row-index c.in-Some.ensures.cases.0 c.rows_of-row-items.ensures c.loop-row-test.false c.loop-row.invariant
