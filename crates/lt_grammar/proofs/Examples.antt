-- Worked examples of what a syntax tree stands for.
use Rattle.std.proofs.Common.{◌≡◌, ◌*◌, true, false, [], ◌∷◌, Some, refl}
use Rattle.std.specs.Prelude.{◌^◌, codes}
use Rattle.lt_model.specs.declared.kind.Kind.TheVariants.{Int, Sym}
use Rattle.lt_model.specs.declared.syntax.Term.TheVariants.{Name, Cell}
use Rattle.lt_model.specs.declared.syntax.Statement.TheVariants.{Insert}
use Rattle.lt_model.specs.declared.syntax.Item.TheVariants.{Show}
use Rattle.lt_model.specs.Tokens.{word, number}
use Rattle.lt_model.specs.Grammar.{comma, left_paren, right_paren, semicolon}
use Rattle.lt_grammar.specs.Tokens.{insert_word, show_word, at_word, minus}
use Rattle.lt_grammar.specs.Grammar.{name, numeral, quoted, Statement, insert, Item, show, statement_tokens, item_tokens}
use Rattle.lt_grammar.specs.Meaning.{term_value, statement_value, item_value}

-- 007, 0 and -0, and a symbol
seven : term_value (numeral false (codes "007")) ≡ Cell Int 9223372036854775816
seven = refl

no_sign : term_value (numeral true (codes "0")) ≡ term_value (numeral false (codes "00"))
no_sign = refl

letter_a : term_value (quoted (codes "a")) ≡ Cell Sym (97 * 256 ^ 14)
letter_a = refl

-- `insert r(-3, x);`
abbrev insert_r : Statement
insert_r = insert (record { relation = codes "r"; first = numeral true (codes "3"); others = name (codes "x") ∷ [] }) []

its_tokens : statement_tokens insert_r ≡ insert_word ∷ word (codes "r") ∷ left_paren ∷ minus ∷ number (codes "3") ∷ comma ∷ word (codes "x") ∷ right_paren ∷ semicolon ∷ []
its_tokens = refl

its_value : statement_value insert_r ≡ Insert (record { relation = codes "r"; terms = Cell Int 9223372036854775806 ∷ Name (codes "x") ∷ [] }) []
its_value = refl

-- `show r at 07;`
abbrev show_r : Item
show_r = show (codes "r") (Some (codes "07"))

tokens_of_show : item_tokens show_r ≡ show_word ∷ word (codes "r") ∷ at_word ∷ number (codes "07") ∷ semicolon ∷ []
tokens_of_show = refl

value_of_show : item_value show_r ≡ Show (codes "r") (Some 7)
value_of_show = refl
