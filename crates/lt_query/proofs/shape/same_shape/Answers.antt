use Rattle.std.proofs.Common.{rules, ◌≡◌, ◌↔◌, true, subst, sym}
use Rattle.lt_query.specs.Shape.{shape_of, same_shape}
use Rattle.lt_query.proofs.SameShape.{same_shape-is}
use Rattle.lt_query.proofs.shape.same_shape.Goals as goal

pub returns-then-same_atoms-clause-shapes : goal.returns-then-same_atoms-clause-shapes
returns-then-same_atoms-clause-shapes c =
    let value : c.same_tests.result ≡ same_shape c.args.a.now c.args.b.now = search rules in
    subst (λ r. (r ≡ true) ↔ (shape_of c.args.a.now ≡ shape_of c.args.b.now)) (sym value) (same_shape-is c.args.a.now c.args.b.now)

pub returns-else-same_atoms-clause-shapes : goal.returns-else-same_atoms-clause-shapes
returns-else-same_atoms-clause-shapes c =
    let value : c.same_atoms.result ≡ same_shape c.args.a.now c.args.b.now = search rules in
    subst (λ r. (r ≡ true) ↔ (shape_of c.args.a.now ≡ shape_of c.args.b.now)) (sym value) (same_shape-is c.args.a.now c.args.b.now)
