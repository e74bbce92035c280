use Rattle.std.proofs.Common.{◌∙◌, ◌++◌, List, None, ap}
use Rattle.lt_face.specs.State.{Row, State}
use Rattle.lt_model.specs.declared.normal.Atom.{Atom}
use Rattle.lt_model.specs.declared.normal.Test.{Test}
use Rattle.lt_model.specs.Answers.{Values, ascending}
use Rattle.lt_join.specs.Values.{values_in}
use Rattle.lt_reference.specs.Walk.{bare, found_from}
use Rattle.lt_reference.proofs.WholePicks.{answers_found}
use Rattle.lt_reference.proofs.answers.answers.Goals as goal

pub returns : goal.returns
returns c =
    let state : State = bare c.args.relations.now in
    c.in_ok-rows.ensures
    ∙ (ap ascending
    (c.in_ok-find_answers.ensures
    ∙ (ap (λ (old : List Row). old ++ found_from c.args.terms.now (values_in c.none.result.cells) c.as_slice-atoms.result.now c.as_slice-tests.result.now c.as_slice.result.now state) c.new-found.ensures.items
    ∙ (ap (λ (v : Values). found_from c.args.terms.now v c.as_slice-atoms.result.now c.as_slice-tests.result.now c.as_slice.result.now state) c.none.ensures
    ∙ (ap (λ (atoms : List Atom). found_from c.args.terms.now (λ _. None) atoms c.as_slice-tests.result.now c.as_slice.result.now state) c.as_slice-atoms.ensures
    ∙ (ap (λ (tests : List Test). found_from c.args.terms.now (λ _. None) c.args.body.now.atoms tests c.as_slice.result.now state) c.as_slice-tests.ensures
    ∙ ap (λ (absents : List Atom). found_from c.args.terms.now (λ _. None) c.args.body.now.atoms c.args.body.now.tests absents state) c.as_slice.ensures)))))
    ∙ answers_found c.args.terms.now c.args.body.now c.args.relations.now c.requires.cells)
