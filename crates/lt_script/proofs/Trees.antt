-- What a statement's tokens are read as: what is read is spelled so, and what is spelled so is read.
use Rattle.std.proofs.Common.{◌≡◌, Bool, true, List, [], ◌∷◌, ◌++◌, Ok, sym, ap, subst, ◌∙◌}
use Rattle.std.proofs.lemmas.List.{append-nil}
use Rattle.lt_reading.specs.Reading.{next_is}
use Rattle.lt_reading.specs.Language.{formed, full}
use Rattle.lt_reading.proofs.Exact.{Heads, next_none, to_formed}
use Rattle.lt_model.specs.declared.syntax.Statement.{Statement}
use Rattle.lt_model.specs.Grammar as model
use Rattle.lt_model.specs.Grammar.{legal, SpellsForm, SpellsStatement}
use Rattle.lt_model.specs.Tokens.{Shape}
use Rattle.lt_model.specs.Within.{IsStatementWithin}
use Rattle.lt_grammar.specs.Grammar as grammar
use Rattle.lt_grammar.specs.Grammar.{IsStatement, statement_tokens}
use Rattle.lt_grammar.specs.Meaning.{statement_value}
use Rattle.lt_grammar.specs.Productions.{statement_at, starts_statement}
use Rattle.lt_grammar.proofs.Agrees.{Written}
use Rattle.lt_grammar.proofs.ItemsAgree.{statements_agree}
use Rattle.lt_grammar.proofs.Statements.{Statements, statements_read, statements_begin}
use Rattle.lt_script.specs.Valued.{valued_statement_at}
use Rattle.lt_script.proofs.Bridges.{statement_tree, statement_read}
use Rattle.lt_script.proofs.Good.{AreGood}
use Rattle.lt_script.proofs.Within.{statement_within}

-- a tree whose tokens and whose value these are
abbrev pub HasTree : Statement → List Shape → Type 0
HasTree s ts = Written (IsStatement full) statement_tokens statement_value s ts

-- ---- what is read or spelled has one

pub read_has_tree : (s : Statement) (ts : List Shape) → valued_statement_at ts ≡ Ok (s, []) → HasTree s ts
read_has_tree s ts e =
    let t = statement_tree ts s [] e in
    let f = statements_read.found ts t.tree [] t.read in
    (t.tree, f.1, sym t.is, sym (f.0 ∙ append-nil (statement_tokens t.tree)))

pub spelled_has_tree : (s : Statement) (ts : List Shape) → SpellsStatement legal s ts → HasTree s ts
spelled_has_tree s ts h = (statements_agree full).back s ts h

-- ---- what has one is spelled so, and read

spelled_by : (s : Statement) (ts : List Shape) (tree : grammar.Statement) (level : model.Level) → SpellsStatement level (statement_value tree) (statement_tokens tree) → statement_value tree ≡ s → statement_tokens tree ≡ ts → SpellsStatement level s ts
spelled_by s ts tree level h value tokens = subst (λ (x : Statement). SpellsStatement level x ts) value (subst (λ (us : List Shape). SpellsStatement level (statement_value tree) us) tokens h)

pub tree_is_spelled : (s : Statement) (ts : List Shape) → HasTree s ts → SpellsStatement legal s ts
tree_is_spelled s ts w = spelled_by s ts w.0 legal ((statements_agree full).there w.0 w.1) w.2 w.3

pub tree_is_formed : (s : Statement) (ts : List Shape) → HasTree s ts → SpellsForm model.formed s ts
tree_is_formed s ts w = (spelled_by s ts w.0 model.formed ((statements_agree formed).there w.0 (to_formed Statements statements_read.weaken full w.0 w.1)) w.2 w.3).1

pub tree_is_read : (s : Statement) (ts : List Shape) → HasTree s ts → (more : List Shape) → valued_statement_at (ts ++ more) ≡ Ok (s, more)
tree_is_read s ts w more =
    let again : statement_at (statement_tokens w.0 ++ more) ≡ Ok (w.0, more) = statements_read.again w.0 more w.1 (next_none more) in
    ap (λ (us : List Shape). valued_statement_at (us ++ more)) (sym w.3)
    ∙ (statement_read (statement_tokens w.0 ++ more) w.0 more again ∙ ap (λ (x : Statement). Ok (x, more)) w.2)

-- ---- how it begins, and its limits

begins_so : (p : Shape → Bool) (ts more : List Shape) → Heads p true ts → next_is p (ts ++ more) ≡ true
begins_so p [] more h = absurd h
begins_so p (t ∷ ts) more h = h

pub tree_begins : (s : Statement) (ts : List Shape) → HasTree s ts → (more : List Shape) → next_is starts_statement (ts ++ more) ≡ true
tree_begins s ts w more = begins_so starts_statement ts more (subst (Heads starts_statement true) w.3 (statements_begin w.0 (to_formed Statements statements_read.weaken full w.0 w.1)))

pub tree_is_within : (s : Statement) (ts : List Shape) → HasTree s ts → AreGood ts → IsStatementWithin s
tree_is_within s ts w good = subst IsStatementWithin w.2 (statement_within w.0 w.1 (subst AreGood (sym w.3) good))
