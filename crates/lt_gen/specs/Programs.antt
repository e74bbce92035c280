-- The statements and the programs of the generated script, with their numbers written out.
use Rattle.std.specs.Prelude.{ℕ, ◌+◌, true, List, [], ◌∷◌, codes}
use Rattle.lt_model.specs.declared.kind.Kind.TheVariants.{Int}
use Rattle.lt_model.specs.declared.syntax.Term.{Term}
use Rattle.lt_model.specs.declared.syntax.Term.TheVariants.{Name, Cell}
use Rattle.lt_model.specs.declared.syntax.Head.{Head}
use Rattle.lt_model.specs.declared.syntax.Op.TheVariants.{Ge}
use Rattle.lt_model.specs.declared.syntax.Literal.{Literal}
use Rattle.lt_model.specs.declared.syntax.Literal.TheVariants.{Atom, Cmp, Sum}
use Rattle.lt_model.specs.declared.syntax.Statement.{Statement}
use Rattle.lt_model.specs.declared.syntax.Statement.TheVariants.{Insert, Replace, Require, Print}
use Rattle.lt_model.specs.declared.syntax.Program.{Program}
use Rattle.lt_model.specs.Cells.{zero_cell}

abbrev pub var : List ℕ → Term
var name = Name name

abbrev pub int : ℕ → Term
int n = Cell Int (zero_cell + n)

-- how many of an item are there: `stock(item, count)`
abbrev pub stock : Term → Term → Head
stock item count = record { relation = codes "stock"; terms = item ∷ count ∷ [] }

-- how many of an item a program has bought: `sale(program, item, count)`
abbrev pub sale : Term → Term → Term → Head
sale program item count = record { relation = codes "sale"; terms = program ∷ item ∷ count ∷ [] }

-- `insert stock(i, q);`
abbrev pub stocks : ℕ → ℕ → Statement
stocks i q = Insert (stock (int i) (int q)) []

-- `require some stock(i, n), n >= c;`
abbrev pub requires_stock : ℕ → ℕ → Statement
requires_stock i c = Require true (Atom (stock (int i) (var (codes "n"))) ∷ Cmp (var (codes "n")) Ge (int c) ∷ [])

-- `stock(i, n), m = n - c`
abbrev pub stock_less : ℕ → ℕ → List Literal
stock_less i c = Atom (stock (int i) (var (codes "n"))) ∷ Sum (codes "m") (var (codes "n")) true (int c) ∷ []

-- `replace stock(i, n) by stock(i, m) where stock(i, n), m = n - c;`
abbrev pub takes_stock : ℕ → ℕ → Statement
takes_stock i c = Replace (stock (int i) (var (codes "n"))) (stock (int i) (var (codes "m"))) (stock_less i c)

-- `insert sale(p, i, c);`
abbrev pub sells : ℕ → ℕ → ℕ → Statement
sells p i c = Insert (sale (int p) (int i) (int c)) []

-- `sale(s, k, w), stock(k, n)`
abbrev pub sales_of : ℕ → List Literal
sales_of k = Atom (sale (var (codes "s")) (int k) (var (codes "w"))) ∷ Atom (stock (int k) (var (codes "n"))) ∷ []

-- `print (s, n) where sale(s, k, w), stock(k, n);`
abbrev pub prints_sales : ℕ → Statement
prints_sales k = Print (var (codes "s") ∷ var (codes "n") ∷ []) (sales_of k)

abbrev pub load : List Statement → Program
load statements = record { name = codes "load"; statements = statements }

-- program p buys c of item i, and prints who bought item k
abbrev pub buy : ℕ → ℕ → ℕ → ℕ → Program
buy p c i k = record { name = codes "buy"; statements = requires_stock i c ∷ takes_stock i c ∷ sells p i c ∷ prints_sales k ∷ [] }

-- `print (i, n) where stock(i, n);`
abbrev pub prints_stock : Statement
prints_stock = Print (var (codes "i") ∷ var (codes "n") ∷ []) (Atom (stock (var (codes "i")) (var (codes "n"))) ∷ [])

-- what readers ask
abbrev pub stock_query : Program
stock_query = record { name = codes "ask"; statements = prints_stock ∷ [] }
