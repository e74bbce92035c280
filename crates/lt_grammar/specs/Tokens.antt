-- A token by its kind and its text, apart from the place where it stands.
use Rattle.std.specs.Prelude.{ℕ, Bool, false, List, codes}
use Rattle.std.specs.List.{list_any}
use Rattle.std.specs.Str.{bytes_eq}
use Rattle.lt_model.specs.Tokens.{Shape, word, number, symbol, sign}
use Rattle.lt_model.specs.Grammar.{reserved}

abbrev pub Text : Type 0
Text = List ℕ

abbrev pub same_shape : Shape → Shape → Bool
same_shape (word a) (word b) = bytes_eq a b
same_shape (number a) (number b) = bytes_eq a b
same_shape (symbol a) (symbol b) = bytes_eq a b
same_shape (sign a) (sign b) = bytes_eq a b
same_shape _ _ = false

-- ---- reserved words

abbrev pub relation_word : Shape
relation_word = word (codes "relation")

abbrev pub batch_word : Shape
batch_word = word (codes "batch")

abbrev pub program_word : Shape
program_word = word (codes "program")

abbrev pub end_word : Shape
end_word = word (codes "end")

abbrev pub commit_word : Shape
commit_word = word (codes "commit")

abbrev pub show_word : Shape
show_word = word (codes "show")

abbrev pub at_word : Shape
at_word = word (codes "at")

abbrev pub insert_word : Shape
insert_word = word (codes "insert")

abbrev pub delete_word : Shape
delete_word = word (codes "delete")

abbrev pub replace_word : Shape
replace_word = word (codes "replace")

abbrev pub by_word : Shape
by_word = word (codes "by")

abbrev pub require_word : Shape
require_word = word (codes "require")

abbrev pub some_word : Shape
some_word = word (codes "some")

abbrev pub none_word : Shape
none_word = word (codes "none")

abbrev pub print_word : Shape
print_word = word (codes "print")

abbrev pub int_word : Shape
int_word = word (codes "int")

abbrev pub sym_word : Shape
sym_word = word (codes "sym")

abbrev pub not_word : Shape
not_word = word (codes "not")

abbrev pub is_reserved : List ℕ → Bool
is_reserved text = list_any (bytes_eq text) reserved

-- ---- signs

abbrev pub equals : Shape
equals = sign (codes "=")

abbrev pub plus : Shape
plus = sign (codes "+")

abbrev pub minus : Shape
minus = sign (codes "-")
