-- Worked examples of cells, marks, codes and answers.
use Rattle.std.proofs.Common.{◌≡◌, ℕ, ◌+◌, true, false, List, [], ◌∷◌, Option, Some, None, refl, arith, ◌<◌, ◌≤◌}
use Rattle.std.specs.Prelude.{codes, pos, neg_ℤ, ◌*◌, ◌^◌, ◌-◌, nat_le}
use Rattle.lt_model.specs.declared.kind.Kind.TheVariants.{Int, Sym}
use Rattle.lt_model.specs.declared.mark.Mark.{Mark}
use Rattle.lt_model.specs.declared.syntax.Literal.{Literal}
use Rattle.lt_model.specs.declared.syntax.Literal.TheVariants.{Atom, Absent, Cmp, Sum}
use Rattle.lt_model.specs.declared.syntax.Op.TheVariants.{Eq, Gt}
use Rattle.lt_model.specs.declared.syntax.Statement.TheVariants.{Require, Print}
use Rattle.lt_model.specs.Cells.{zero_cell, last_int, cell_int, cell_text, sym_cell, sum_of}
use Rattle.lt_model.specs.Marks.{and_then}
use Rattle.lt_model.specs.Schema.{Schema}
use Rattle.lt_model.specs.Check.{code_of, checked, Good}
use Rattle.lt_model.proofs.Samples as s
use Rattle.std.proofs.lemmas.Bool.{leb-true}
use Rattle.lt_face.specs.Rows.{IsCell}
use Rattle.lt_model.specs.declared.normal.Term.TheVariants as normal_terms
use Rattle.lt_model.specs.declared.normal.Atom as normal
use Rattle.lt_model.specs.declared.normal.Test.TheVariants as normal_tests
use Rattle.lt_model.specs.declared.normal.Body.{Body}
use Rattle.lt_model.specs.declared.normal.Stmt.{Stmt}
use Rattle.lt_model.specs.declared.normal.Stmt.TheVariants as stmts
use Rattle.lt_face.specs.State.{State}
use Rattle.lt_model.specs.Fits.{Fits, IsAtomOf}

-- ---- cells

zero : cell_int zero_cell ≡ pos 0
zero = refl

greatest : cell_int last_int ≡ pos 9223372036854775807
greatest = refl

least : cell_int 1 ≡ neg_ℤ (pos 9223372036854775808)
least = refl

letter : sym_cell (codes "a") ≡ 97 * (256 ^ 14)
letter = refl

letter_back : cell_text Sym (sym_cell (codes "a_1")) ≡ codes "a_1"
letter_back = refl

two_less : sum_of true (zero_cell + 1) (zero_cell + 3) ≡ Some (zero_cell - 2)
two_less = refl

past : sum_of false last_int (zero_cell + 1) ≡ None
past = refl

below : sum_of true 1 (zero_cell + 1) ≡ None
below = refl

-- the sum of two symbols has no value
symbols : sum_of false (sym_cell (codes "a")) (sym_cell (codes "b")) ≡ None
symbols = refl

-- ---- marks

plus_one : Mark
plus_one = record { relation = 0; row = (zero_cell + 1) ∷ []; plus = true }

minus_one : Mark
minus_one = record { relation = 0; row = (zero_cell + 1) ∷ []; plus = false }

minus_then_plus : and_then (minus_one ∷ []) (plus_one ∷ []) ≡ plus_one ∷ []
unfolding plus_one minus_one
minus_then_plus = refl

plus_then_minus : and_then (plus_one ∷ []) (minus_one ∷ []) ≡ minus_one ∷ []
unfolding plus_one minus_one
plus_then_minus = refl

-- ---- codes

abbrev r_and_s : Schema
r_and_s = (codes "r", Int ∷ [], 1) ∷ (codes "s", Sym ∷ [], 1) ∷ []

-- `require some` of these
abbrev code : List Literal → Option ℕ
code body = code_of r_and_s (Require true body)

abbrev x : List ℕ
x = codes "x"

abbrev y : List ℕ
y = codes "y"

abbrev r_of : List ℕ → Literal
r_of name = Atom (s.on (codes "r") (s.var name ∷ []))

abbrev equals : List ℕ → List ℕ → Literal
equals a b = Cmp (s.var a) Eq (s.var b)

-- a literal binds its left side alone, and for later ones
left_alone : code (r_of x ∷ equals x y ∷ []) ≡ Some 23
left_alone = refl

by_itself : code (equals x x ∷ []) ≡ Some 23
by_itself = refl

constant_left : code (Cmp (s.int 1) Eq (s.var x) ∷ []) ≡ Some 23
constant_left = refl

bound_twice : code (equals x y ∷ Cmp (s.var y) Eq (s.int 1) ∷ Cmp (s.var x) Eq (s.int 1) ∷ []) ≡ None
bound_twice = refl

too_early : code (equals x y ∷ Cmp (s.var y) Eq (s.int 1) ∷ []) ≡ Some 23
too_early = refl

-- an atom binds for all
atom_after : code (equals y x ∷ r_of x ∷ []) ≡ None
atom_after = refl

by_sum : code (r_of x ∷ Sum y (s.var x) true (s.int 1) ∷ []) ≡ None
by_sum = refl

-- a negated atom binds nothing, but its relation, its width and its kinds are judged
not_bound : code (Absent (s.on (codes "r") (s.var x ∷ [])) ∷ []) ≡ Some 23
not_bound = refl

bound_elsewhere : code (Absent (s.on (codes "r") (s.var y ∷ [])) ∷ r_of x ∷ Sum y (s.var x) true (s.int 1) ∷ []) ≡ None
bound_elsewhere = refl

negated_unknown : code (Absent (s.on (codes "t") (s.row1 1)) ∷ []) ≡ Some 20
negated_unknown = refl

negated_width : code (Absent (s.on (codes "r") (s.row2 1 2)) ∷ []) ≡ Some 21
negated_width = refl

negated_kind : code (r_of x ∷ Absent (s.on (codes "s") (s.var x ∷ [])) ∷ []) ≡ Some 22
negated_kind = refl

-- kinds: constants against each other, a variable in two columns, a chain of comparisons, a sum of a symbol
constants : code (Cmp (s.int 1) Eq (s.quoted (codes "a")) ∷ []) ≡ Some 22
constants = refl

two_columns : code (r_of x ∷ Atom (s.on (codes "s") (s.var x ∷ [])) ∷ []) ≡ Some 22
two_columns = refl

chain : code (r_of x ∷ equals x y ∷ Atom (s.on (codes "s") (s.var y ∷ [])) ∷ []) ≡ Some 22
chain = refl

symbol_sum : code (Atom (s.on (codes "s") (s.var x ∷ [])) ∷ Sum y (s.var x) false (s.int 1) ∷ []) ≡ Some 22
symbol_sum = refl

-- the whole statement is tried for each code
width_first : code (Cmp (s.int 1) Eq (s.quoted (codes "a")) ∷ Atom (s.on (codes "r") (s.row2 1 2)) ∷ []) ≡ Some 21
width_first = refl

unknown_first : code (Atom (s.on (codes "r") (s.row2 1 2)) ∷ Atom (s.on (codes "t") (s.row1 1)) ∷ []) ≡ Some 20
unknown_first = refl

-- a printed variable has the kind of its column
printed_kinds : code_of r_and_s (Print (s.var y ∷ s.var x ∷ s.int 3 ∷ []) (r_of x ∷ Atom (s.on (codes "s") (s.var y ∷ [])) ∷ [])) ≡ None
printed_kinds = refl

-- ---- a program in normal form, which fits

stock_schema : Schema
stock_schema = (codes "stock", Int ∷ Int ∷ [], 2) ∷ []

stock_state : State
stock_state = record { width = 2; rows = [] } ∷ []

-- the stock of 1
abbrev stock_atom : ℕ → normal.Atom
stock_atom v = record { relation = 0; terms = normal_terms.Cell (zero_cell + 1) ∷ normal_terms.Var v ∷ [] }

abbrev some_left : Body
some_left = record { atoms = stock_atom 0 ∷ []; absents = []; tests = normal_tests.Cmp (normal_terms.Var 0) Gt (normal_terms.Cell zero_cell) ∷ []; vars = 1 }

abbrev one_less : Body
one_less = record { atoms = stock_atom 0 ∷ []; absents = []; tests = normal_tests.Sum 1 (normal_terms.Var 0) true (normal_terms.Cell (zero_cell + 1)) ∷ []; vars = 2 }

abbrev normal_buyer : List Stmt
normal_buyer = stmts.Require true some_left ∷ stmts.Replace (stock_atom 0) (stock_atom 1) 2 one_less ∷ []

buyer_checked : checked (s.buyer (codes "a")) stock_schema ≡ Good normal_buyer
unfolding stock_schema
buyer_checked = refl

a_cell : (c : ℕ) → nat_le 1 c ≡ true → nat_le c 1329227995784915872903807060280344575 ≡ true → IsCell c
a_cell c h k = (leb-true 1 c h, let m : c ≤ 1329227995784915872903807060280344575 = leb-true c 1329227995784915872903807060280344575 k in omega (arith, m))

one_cell : IsCell (zero_cell + 1)
one_cell = a_cell (zero_cell + 1) refl refl

an_atom : (v vars : ℕ) → v < vars → IsAtomOf stock_state vars (stock_atom v)
unfolding stock_state
an_atom v vars h = record { is_wide = refl; has_terms = (one_cell, (h, tt)) }

buyer_fits : Fits stock_state normal_buyer
buyer_fits = record {
  each = (
    record {
      atoms = (an_atom 0 1 (omega arith), tt);
      absents = tt;
      tests = ((omega arith, (a_cell zero_cell refl refl, tt)), tt);
      is_bound = (refl, tt);
      are_absents_bound = tt;
      has_few_variables = omega arith;
      has_few_literals = omega arith;
    },
    (
      (
        record {
          atoms = (an_atom 0 2 (omega arith), tt);
          absents = tt;
          tests = ((omega arith, (omega arith, (one_cell, tt))), tt);
          is_bound = (refl, tt);
          are_absents_bound = tt;
          has_few_variables = omega arith;
          has_few_literals = omega arith;
        },
        record { fits = an_atom 0 2 (omega arith); is_bound = refl },
        record { fits = an_atom 1 2 (omega arith); is_bound = refl },
        (omega arith, omega arith),
      ),
      tt,
    ),
  );
  has_few = omega arith;
}
