use Rattle.std.proofs.Common.{◌∙◌, List, None, ap}
use Rattle.lt_face.specs.State.{State}
use Rattle.lt_model.specs.declared.normal.Atom.{Atom}
use Rattle.lt_model.specs.declared.normal.Test.{Test}
use Rattle.lt_model.specs.Answers.{Values}
use Rattle.lt_reference.specs.Walk.{bare, some_from}
use Rattle.lt_reference.proofs.WholePicks.{some_found}
use Rattle.lt_reference.proofs.answers.some_answer.Goals as goal

pub returns : goal.returns
returns c =
    let state : State = bare c.args.relations.now in
    c.find_some.ensures
    ∙ (ap (λ (v : Values). some_from v c.as_slice-atoms.result.now c.as_slice-tests.result.now c.as_slice.result.now state) c.none.ensures
    ∙ (ap (λ (atoms : List Atom). some_from (λ _. None) atoms c.as_slice-tests.result.now c.as_slice.result.now state) c.as_slice-atoms.ensures
    ∙ (ap (λ (tests : List Test). some_from (λ _. None) c.args.body.now.atoms tests c.as_slice.result.now state) c.as_slice-tests.ensures
    ∙ (ap (λ (absents : List Atom). some_from (λ _. None) c.args.body.now.atoms c.args.body.now.tests absents state) c.as_slice.ensures
    ∙ some_found c.args.body.now c.args.relations.now c.requires.cells))))
