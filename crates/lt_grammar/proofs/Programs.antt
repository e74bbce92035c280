-- Programs are read exactly: at most 64 statements, of which the first token of the 65th is at fault.
use Rattle.std.proofs.Common.{◌≡◌, Bool, true, false, ◌||◌, List, [], ◌∷◌, drop, refl, sym as turned, ap, ◌∙◌, inl, inr, ◌⊎◌}
use Rattle.lt_reading.specs.Reading.{both, led, ended, many, at_once}
use Rattle.lt_reading.specs.Language.{formed, Language, none}
use Rattle.lt_reading.proofs.Exact.{Viable, Reads, Begins}
use Rattle.lt_reading.proofs.Sequence.{Both, loose_reads}
use Rattle.lt_reading.proofs.Meaning.{given_reads}
use Rattle.lt_reading.proofs.Marked.{Led, Ended, led_reads, ended_reads}
use Rattle.lt_reading.proofs.Repeat.{Many, ending_free}
use Rattle.lt_reading.proofs.Listed.{Started, several_reads}
use Rattle.lt_model.specs.Tokens.{Shape}
use Rattle.lt_model.specs.Grammar.{semicolon}
use Rattle.lt_grammar.specs.Tokens.{Text, same_shape, end_word, program_word, insert_word, delete_word, replace_word, require_word, print_word}
use Rattle.lt_model.specs.declared.syntax.Op.TheVariants.{Eq}
use Rattle.lt_grammar.specs.Grammar.{Head, quoted, compare, Literal, Statement, insert, delete, replace, require, print, Program, IsStatement, IsProgram, statement_tokens, program_tokens}
use Rattle.lt_grammar.specs.Productions.{name_at, statement_at, starts_statement, program_of, program_at, is_program}
use Rattle.lt_grammar.proofs.Shapes.{marks, blamed, same_shape_is}
use Rattle.lt_grammar.proofs.Terms.{Names, names_read}
use Rattle.lt_grammar.proofs.Statements.{Statements, statements_read, statements_begin}

pub or_true : (a b : Bool) → (a || b) ≡ true → (a ≡ true) ⊎ (b ≡ true)
or_true true b h = inl refl
or_true false b h = inr h

-- ---- each of the five words begins some statement

abbrev a_head : Head
a_head = record { relation = []; first = quoted []; others = [] }

abbrev a_literal : Literal
a_literal = compare (quoted []) Eq (quoted [])

begun_by : (t first : Shape) (x : Statement) → same_shape t first ≡ true → statement_tokens x ≡ first ∷ drop 1 (statement_tokens x) → IsStatement formed x → Viable Statements formed (t ∷ [])
begun_by t first x same is h = record { value = x; more = drop 1 (statement_tokens x); holds = h; begins = is ∙ ap (λ (s : Shape). s ∷ drop 1 (statement_tokens x)) (turned (same_shape_is t first same)) }

pub statements_start : Started starts_statement Statements
statements_start t h =
    elim (or_true (same_shape t insert_word) (same_shape t delete_word || (same_shape t replace_word || (same_shape t require_word || same_shape t print_word))) h) [
      | inl e ↦ begun_by t insert_word (insert a_head []) e refl (((refl, (tt, (tt, tt))), tt), tt)
      | inr k ↦
          elim (or_true (same_shape t delete_word) (same_shape t replace_word || (same_shape t require_word || same_shape t print_word)) k) [
            | inl e ↦ begun_by t delete_word (delete a_head []) e refl (((refl, (tt, (tt, tt))), tt), tt)
            | inr l ↦
                elim (or_true (same_shape t replace_word) (same_shape t require_word || same_shape t print_word) l) [
                  | inl e ↦ begun_by t replace_word (replace a_head a_head []) e refl (((refl, (tt, (tt, tt))), ((refl, (tt, (tt, tt))), tt)), tt)
                  | inr m ↦
                      elim (or_true (same_shape t require_word) (same_shape t print_word) m) [
                        | inl e ↦ begun_by t require_word (require true a_literal []) e refl (((tt, tt), (tt, tt)), tt)
                        | inr e ↦ begun_by t print_word (print (quoted []) [] a_literal []) e refl (((tt, (tt, tt)), ((tt, tt), (tt, tt))), tt)
                      ]
                ]
          ]
    ]

-- ---- programs

abbrev pub Blocks : Language Shape (List Statement)
Blocks = Many starts_statement Statements 64

pub blocks_read : Reads marks Blocks (many starts_statement statement_at at_once 64)
blocks_read = several_reads marks starts_statement Statements statement_at statements_read statements_begin statements_start (blamed starts_statement refl refl) (λ x t h. refl) 64

abbrev ProgramParts : Language Shape (Text × List Statement)
ProgramParts = Led program_word (Both Names (Ended semicolon (Ended end_word Blocks)))

abbrev pub Programs : Language Shape Program
Programs = record { spell = program_tokens; Holds = IsProgram; bars = λ x. none }

pub programs_read : Reads marks Programs program_at
unfolding program_at
programs_read =
    given_reads marks program_of (λ p. (p.name, p.statements)) ProgramParts (led same_shape program_word (both name_at (ended same_shape semicolon (ended same_shape end_word (many starts_statement statement_at at_once 64))))) Programs
    (led_reads marks program_word (Both Names (Ended semicolon (Ended end_word Blocks))) (both name_at (ended same_shape semicolon (ended same_shape end_word (many starts_statement statement_at at_once 64))))
    (loose_reads marks Names name_at (Ended semicolon (Ended end_word Blocks)) (ended same_shape semicolon (ended same_shape end_word (many starts_statement statement_at at_once 64))) names_read
    (ended_reads marks semicolon (Ended end_word Blocks) (ended same_shape end_word (many starts_statement statement_at at_once 64))
    (ended_reads marks end_word Blocks (many starts_statement statement_at at_once 64) blocks_read (λ xs. ending_free starts_statement Statements.bars none xs end_word refl (λ y. refl) refl))
    (λ x. refl))
    (λ a t. refl)))
    (record { same = λ a h. refl; bars = λ a h. refl; is = λ level x h. refl; to = λ level a h. h; from = λ level x h. h })

pub programs_begin : Begins is_program true Programs
programs_begin x h = refl

pub programs_start : Started is_program Programs
programs_start t h =
    let p : Program = record { name = []; statements = [] } in
    record { value = p; more = drop 1 (program_tokens p); holds = (refl, (tt, tt)); begins = ap (λ (s : Shape). s ∷ drop 1 (program_tokens p)) (turned (same_shape_is t program_word h)) }
