-- Each reader that a loop calls takes at least one token.
use Rattle.std.proofs.Common.{Bool, true, refl}
use Rattle.lt_reading.specs.Reading.{led}
use Rattle.lt_reading.proofs.Loops.{Shrinks, shrinks}
use Rattle.lt_reading.proofs.Marked.{Led, led_reads}
use Rattle.lt_model.specs.Tokens.{Shape}
use Rattle.lt_model.specs.Grammar.{comma}
use Rattle.lt_grammar.specs.Tokens.{same_shape}
use Rattle.lt_grammar.specs.Productions.{term_at, literal_at, kind_at, statement_at, program_at}
use Rattle.lt_grammar.proofs.Shapes.{marks}
use Rattle.lt_grammar.proofs.Terms.{Terms, terms_read}
use Rattle.lt_grammar.proofs.Literals.{Literals, literals_read}
use Rattle.lt_grammar.proofs.Statements.{Statements, statements_read, statements_begin}
use Rattle.lt_grammar.proofs.Programs.{Programs, programs_read, programs_begin}
use Rattle.lt_grammar.proofs.Scripts.{Kinds, kinds_read}
use Rattle.lt_grammar.specs.Productions.{starts_statement, is_program}

abbrev any : Shape → Bool
any t = true

pub terms_shrink : Shrinks (led same_shape comma term_at)
terms_shrink = shrinks marks (Led comma Terms) (led same_shape comma term_at) (led_reads marks comma Terms term_at terms_read) any true (λ x h. refl)

pub literals_shrink : Shrinks (led same_shape comma literal_at)
literals_shrink = shrinks marks (Led comma Literals) (led same_shape comma literal_at) (led_reads marks comma Literals literal_at literals_read) any true (λ x h. refl)

pub kinds_shrink : Shrinks (led same_shape comma kind_at)
kinds_shrink = shrinks marks (Led comma Kinds) (led same_shape comma kind_at) (led_reads marks comma Kinds kind_at kinds_read) any true (λ x h. refl)

pub statements_shrink : Shrinks statement_at
statements_shrink = shrinks marks Statements statement_at statements_read starts_statement true statements_begin

pub programs_shrink : Shrinks program_at
programs_shrink = shrinks marks Programs program_at programs_read is_program true programs_begin
