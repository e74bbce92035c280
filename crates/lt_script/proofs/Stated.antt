-- The tokens of a statement that was read: whatever comes behind them, they are read so.
use Rattle.std.proofs.Common.{◌≡◌, ◌≤◌, true, List, [], ◌∷◌, ◌++◌, length, Ok, refl, sym, ap, ◌∙◌, arith}
use Rattle.std.proofs.lemmas.List.{length-append}
use Rattle.lt_reading.specs.Reading.{next_is}
use Rattle.lt_reading.specs.Language.{full}
use Rattle.lt_reading.proofs.Exact.{to_formed, next_none, Heads}
use Rattle.lt_model.specs.Tokens.{Shape}
use Rattle.lt_model.specs.Grammar.{semicolon}
use Rattle.lt_model.specs.declared.syntax.Statement.{Statement}
use Rattle.lt_grammar.specs.Grammar as grammar
use Rattle.lt_grammar.specs.Grammar.{form_tokens, statement_tokens}
use Rattle.lt_grammar.specs.Productions.{starts_statement}
use Rattle.lt_grammar.proofs.Statements.{Statements, statements_read, statements_begin}
use Rattle.lt_script.specs.Valued.{valued_statement_at}
use Rattle.lt_script.proofs.Ends.{EndsWith}
use Rattle.lt_script.proofs.Bridges.{statement_tree, statement_read}

pub record Stated (s : Statement) (ts rest : List Shape) : Type 0 where
  pub tokens : List Shape
  pub parts : ts ≡ tokens ++ rest
  pub ends : EndsWith semicolon tokens
  pub some : 3 ≤ length tokens
  pub begins : (more : List Shape) → next_is starts_statement (tokens ++ more) ≡ true
  pub reads : (more : List Shape) → valued_statement_at (tokens ++ more) ≡ Ok (s, more)

head_next : (ts more : List Shape) → Heads starts_statement true ts → next_is starts_statement (ts ++ more) ≡ true
head_next [] more h = absurd h
head_next (t ∷ ts) more h = h

two_more : (s : grammar.Statement) → 2 ≤ length (form_tokens s)
two_more (grammar.insert h ls) = omega arith
two_more (grammar.delete h ls) = omega arith
two_more (grammar.replace gone come ls) = omega arith
two_more (grammar.require some l ls) = omega arith
two_more (grammar.print t ts l ls) = omega arith

pub stated : (s : Statement) (ts rest : List Shape) → valued_statement_at ts ≡ Ok (s, rest) → Stated s ts rest
stated s ts rest e =
    let t = statement_tree ts s rest e in
    let f = statements_read.found ts t.tree rest t.read in
    let heads : Heads starts_statement true (statement_tokens t.tree) = statements_begin t.tree (to_formed Statements statements_read.weaken full t.tree f.1) in
    record {
      tokens = statement_tokens t.tree;
      parts = f.0;
      ends = record { front = form_tokens t.tree; is = refl };
      some = omega (arith, two_more t.tree, length-append (form_tokens t.tree) (semicolon ∷ []));
      begins = λ more. head_next (statement_tokens t.tree) more heads;
      reads = λ more. statement_read (statement_tokens t.tree ++ more) t.tree more (statements_read.again t.tree more f.1 (next_none more)) ∙ ap (λ (x : Statement). Ok (x, more)) (sym t.is);
    }
