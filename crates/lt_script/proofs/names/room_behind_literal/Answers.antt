use Rattle.std.proofs.Common.{◌≤◌, length}
use Rattle.lt_script.specs.Names.{literal_names}
use Rattle.lt_script.proofs.Counting.{few_arguments, behind_fewer}
use Rattle.lt_script.proofs.names.room_behind_literal.Goals as goal

pub returns-in-Atom : goal.returns-in-Atom
returns-in-Atom c =
    let few : length (literal_names c.args.literal.now) ≤ length c.as_slice.result.now = rw (c.in-Atom.is, c.as_slice.ensures) (few_arguments c.in-Atom.head.terms) in
    behind_fewer _ _ _ _ few c.room_behind.ensures

pub returns-in-Absent : goal.returns-in-Absent
returns-in-Absent c =
    let few : length (literal_names c.args.literal.now) ≤ length c.as_slice-in-Absent.result.now = rw (c.in-Absent.is, c.as_slice-in-Absent.ensures) (few_arguments c.in-Absent.head.terms) in
    behind_fewer _ _ _ _ few c.room_behind-in-Absent.ensures
