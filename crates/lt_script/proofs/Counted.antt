-- A statement within the limits has few constants.
use Rattle.std.proofs.Common.{◌*◌, ◌≤◌, ◌<◌, ◌^◌, List, [], ◌∷◌, ◌++◌, length, arith}
use Rattle.std.specs.Prelude.{flat_map}
use Rattle.std.specs.List.{AllByRecursion}
use Rattle.std.proofs.lemmas.List.{length-append}
use Rattle.lt_model.specs.declared.syntax.Term.{Term}
use Rattle.lt_model.specs.declared.syntax.Term.TheVariants.{Name, Cell}
use Rattle.lt_model.specs.declared.syntax.Literal.{Literal}
use Rattle.lt_model.specs.declared.syntax.Literal.TheVariants.{Atom, Absent, Cmp, Sum}
use Rattle.lt_model.specs.declared.syntax.Statement.{Statement}
use Rattle.lt_model.specs.declared.syntax.Statement.TheVariants.{Insert, Delete, Replace, Require, Print}
use Rattle.lt_model.specs.Forms.{cells_in, cells_of}
use Rattle.lt_model.specs.Variables.{literal_terms, front_terms, body_of}
use Rattle.lt_model.specs.Within.{IsLiteralWithin, IsStatementWithin}

cells_few : (ts : List Term) → length (cells_in ts) ≤ length ts
cells_few [] = omega arith
cells_few (Name name ∷ ts) = omega (arith, cells_few ts)
cells_few (Cell kind cell ∷ ts) = omega (arith, cells_few ts)

literal_few : (l : Literal) → IsLiteralWithin l → length (literal_terms l) ≤ 8
literal_few (Atom head) h = h.few
literal_few (Absent head) h = h.few
literal_few (Cmp left op right) h = omega arith
literal_few (Sum var a minus b) h = omega arith

body_few : (ls : List Literal) → AllByRecursion IsLiteralWithin ls → length (flat_map literal_terms ls) ≤ 8 * length ls
body_few [] h = omega arith
body_few (l ∷ ls) h = omega (arith, literal_few l h.0, body_few ls h.1, length-append (literal_terms l) (flat_map literal_terms ls))

front_few : (s : Statement) → IsStatementWithin s → length (front_terms s) ≤ 16
front_few (Insert head body) h = omega (arith, h.heads.0.few, length-append head.terms [])
front_few (Delete head body) h = omega (arith, h.heads.0.few, length-append head.terms [])
front_few (Replace gone come body) h = omega (arith, h.heads.0.few, h.heads.1.0.few, length-append gone.terms (come.terms ++ []), length-append come.terms [])
front_few (Require some body) h = omega arith
front_few (Print terms body) h = omega (arith, h.printed.few)

pub constants_few : (s : Statement) → IsStatementWithin s → length (cells_of s) < 2 ^ 120
constants_few s h =
    let body : List Term = flat_map literal_terms (body_of s) in
    omega (arith, front_few s h, body_few (body_of s) h.literals, h.few_literals, cells_few (front_terms s ++ body), length-append (front_terms s) body)
