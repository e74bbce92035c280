use Rattle.std.proofs.Common.{Bool, length, subst}
use Rattle.std.specs.Prelude.{Some, None, if◌then◌else◌}
use Rattle.lt_model.specs.Check.{Choice, choice_fits}
use Rattle.lt_check.specs.Narrowing.{Settles}
use Rattle.lt_check.specs.Seen.{seen}
use Rattle.lt_check.proofs.Bodies.{taken_none}
use Rattle.lt_check.proofs.Statements.{fits_same}
use Rattle.lt_check.proofs.statement.settle_kinds.Goals as goal

pub returns-then-notes-clause-found : goal.returns-then-notes-clause-found
returns-then-notes-clause-found c = taken_none (choice_fits c.args.schema.now c.args.statement.now) c.args.notes.now _ c.requires.taken c.if-notes.true

pub returns-clause-found : goal.returns-clause-found
returns-clause-found c =
    let P : (Choice → Bool) → Type 0 = λ f. Settles f (length c.args.notes.now.names) (if c.in_ok-found.found then Some c.settle.new.known else None) in
    subst P (fits_same c.args.schema.now c.args.statement.now c.args.notes.now.names (seen c.args.atoms.now) c.body_of.result.now c.requires.names c.requires.atoms c.body_of.ensures) c.in_ok-found.ensures
