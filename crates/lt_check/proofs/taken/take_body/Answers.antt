use Rattle.std.proofs.Common.{◌≡◌, refl, arith}
use Rattle.std.specs.Prelude.{length}
use Rattle.lt_model.specs.declared.normal.Body.{Body}
use Rattle.lt_check.proofs.Bodies.{body_taken}
use Rattle.lt_check.proofs.taken.take_body.Goals as goal

pub returns-clause-body : goal.returns-clause-body
returns-clause-body c few =
    let empty : Body = record { atoms = c.new.result; absents = c.new-2.result; tests = c.new-3.result; vars = 0 } in
    let vars : c.min.result ≡ length c.add_literals.new.notes.names = omega (arith, c.min.ensures, c.count.ensures, few) in
    body_taken c.args.schema.now c.add_literals.new.notes.names c.args.literals.now empty c.add_literals.new.body _ c.new.ensures c.new-2.ensures c.new-3.ensures few c.in_ok-add_literals.ensures.adds refl refl refl vars
