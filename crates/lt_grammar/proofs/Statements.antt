-- Statements are read exactly; the semicolon ends one, and there its variables are counted.
use Rattle.std.proofs.Common.{◌≡◌, Bool, true, false, List, [], Some, refl, arith, inl, inr}
use Rattle.lt_reading.specs.Reading.{both, led, ended, choice}
use Rattle.lt_reading.specs.Language.{Level, formed, Language}
use Rattle.lt_reading.proofs.Exact.{Reads, Begins}
use Rattle.lt_reading.proofs.OneToken.{Plain, table_reads}
use Rattle.lt_reading.proofs.Sequence.{Both, loose_reads}
use Rattle.lt_reading.proofs.Meaning.{given_reads}
use Rattle.lt_reading.proofs.Marked.{Led, Ended, led_reads, ended_reads}
use Rattle.lt_reading.proofs.Choice.{Choice, choice_reads}
use Rattle.lt_reading.proofs.Closing.{Closed, closed_reads}
use Rattle.lt_reading.specs.Reading.{in_table}
use Rattle.lt_model.specs.Tokens.{Shape}
use Rattle.lt_model.specs.Grammar.{semicolon, where_word}
use Rattle.lt_grammar.specs.Tokens.{same_shape, insert_word, delete_word, replace_word, by_word, require_word, print_word}
use Rattle.lt_grammar.specs.Grammar.{Term, quoted, Head, Literal, Statement, insert, delete, replace, require, print, IsForm, form_tokens, need_token, few_names}
use Rattle.lt_grammar.specs.Productions.{head_at, body_at, where_at, terms_at, need_table, need_at, is_insert, is_delete, is_replace, is_require, Form, form_of, insert_at, delete_at, replace_at, require_at, print_at, form_at, statement_at, starts_statement}
use Rattle.lt_grammar.proofs.Shapes.{marks}
use Rattle.lt_grammar.proofs.Terms.{Arguments, arguments_read, Heads_, heads_read}
use Rattle.lt_grammar.proofs.Literals.{Bodies, bodies_read, body_bars, bodies_free, Wheres, wheres_read, where_bars, wheres_free}
use Rattle.lt_grammar.proofs.Unclosed.{form}

-- ---- the five forms

abbrev pub Inserts : Language Shape (Head × List Literal)
Inserts = Led insert_word (Both Heads_ Wheres)

pub inserts_read : Reads marks Inserts insert_at
unfolding insert_at
inserts_read = led_reads marks insert_word (Both Heads_ Wheres) (both head_at where_at) (loose_reads marks Heads_ head_at Wheres where_at heads_read wheres_read (λ a t. refl))

abbrev pub Deletes : Language Shape (Head × List Literal)
Deletes = Led delete_word (Both Heads_ Wheres)

pub deletes_read : Reads marks Deletes delete_at
unfolding delete_at
deletes_read = led_reads marks delete_word (Both Heads_ Wheres) (both head_at where_at) (loose_reads marks Heads_ head_at Wheres where_at heads_read wheres_read (λ a t. refl))

abbrev pub Replaces : Language Shape (Head × (Head × List Literal))
Replaces = Led replace_word (Both (Ended by_word Heads_) (Both Heads_ Wheres))

pub replaces_read : Reads marks Replaces replace_at
unfolding replace_at
replaces_read =
    led_reads marks replace_word (Both (Ended by_word Heads_) (Both Heads_ Wheres)) (both (ended same_shape by_word head_at) (both head_at where_at))
    (loose_reads marks (Ended by_word Heads_) (ended same_shape by_word head_at) (Both Heads_ Wheres) (both head_at where_at)
    (ended_reads marks by_word Heads_ head_at heads_read (λ x. refl))
    (loose_reads marks Heads_ head_at Wheres where_at heads_read wheres_read (λ a t. refl))
    (λ a t. refl))

abbrev pub Needs : Language Shape Bool
Needs = Plain need_token (λ x. Unit {0})

need_in_table : (x : Bool) → Unit {0} → in_table same_shape need_table (need_token x) ≡ Some x
need_in_table true h = refl
need_in_table false h = refl

pub needs_read : Reads marks Needs need_at
unfolding need_at
needs_read = table_reads marks need_token (λ x. Unit {0}) need_table ((refl, tt), ((refl, tt), tt)) need_in_table true tt

abbrev pub Requires : Language Shape (Bool × (Literal × List Literal))
Requires = Led require_word (Both Needs Bodies)

pub requires_read : Reads marks Requires require_at
unfolding require_at
requires_read = led_reads marks require_word (Both Needs Bodies) (both need_at body_at) (loose_reads marks Needs need_at Bodies body_at needs_read bodies_read (λ a t. refl))

abbrev pub Prints : Language Shape ((Term × List Term) × (Literal × List Literal))
Prints = Led print_word (Both Arguments (Led where_word Bodies))

pub prints_read : Reads marks Prints print_at
unfolding print_at
prints_read =
    led_reads marks print_word (Both Arguments (Led where_word Bodies)) (both terms_at (led same_shape where_word body_at))
    (loose_reads marks Arguments terms_at (Led where_word Bodies) (led same_shape where_word body_at) arguments_read (led_reads marks where_word Bodies body_at bodies_read) (λ a t. refl))

-- ---- a statement up to its semicolon

abbrev pub form_bars : Statement → Shape → Bool
form_bars (insert h ls) = where_bars ls
form_bars (delete h ls) = where_bars ls
form_bars (replace gone come ls) = where_bars ls
form_bars (require some l ls) = body_bars l ls
form_bars (print t ts l ls) = body_bars l ls

abbrev pub Forms : Language Shape Statement
Forms = record { spell = form_tokens; Holds = IsForm; bars = form_bars }

abbrev FormParts : Language Shape Form
FormParts = Choice Inserts (Choice Deletes (Choice Replaces (Choice Requires Prints)))

abbrev pub form_parts : Statement → Form
form_parts (insert h ls) = inl (h, ls)
form_parts (delete h ls) = inr (inl (h, ls))
form_parts (replace gone come ls) = inr (inr (inl (gone, (come, ls))))
form_parts (require some l ls) = inr (inr (inr (inl (some, (l, ls)))))
form_parts (print t ts l ls) = inr (inr (inr (inr ((t, ts), (l, ls)))))

form_same : (a : Form) → FormParts.Holds formed a → form_tokens (form_of a) ≡ FormParts.spell a
form_same (inl x) h = refl
form_same (inr (inl x)) h = refl
form_same (inr (inr (inl x))) h = refl
form_same (inr (inr (inr (inl x)))) h = refl
form_same (inr (inr (inr (inr x)))) h = refl

form_bars_same : (a : Form) → FormParts.Holds formed a → form_bars (form_of a) ≡ FormParts.bars a
form_bars_same (inl x) h = refl
form_bars_same (inr (inl x)) h = refl
form_bars_same (inr (inr (inl x))) h = refl
form_bars_same (inr (inr (inr (inl x)))) h = refl
form_bars_same (inr (inr (inr (inr x)))) h = refl

form_is : (x : Statement) → form_of (form_parts x) ≡ x
form_is (insert h ls) = refl
form_is (delete h ls) = refl
form_is (replace gone come ls) = refl
form_is (require some l ls) = refl
form_is (print t ts l ls) = refl

form_to : (level : Level) (a : Form) → FormParts.Holds level a → IsForm level (form_of a)
form_to level (inl x) h = h
form_to level (inr (inl x)) h = h
form_to level (inr (inr (inl x))) h = h
form_to level (inr (inr (inr (inl x)))) h = h.1
form_to level (inr (inr (inr (inr x)))) h = h

form_from : (level : Level) (x : Statement) → IsForm level x → FormParts.Holds level (form_parts x)
form_from level (insert k ls) h = h
form_from level (delete k ls) h = h
form_from level (replace gone come ls) h = h
form_from level (require some l ls) h = (tt, h)
form_from level (print t ts l ls) h = h

no_require : Begins is_require false Prints
no_require x h = refl

no_replace : Begins is_replace false (Choice Requires Prints)
no_replace (inl x) h = refl
no_replace (inr x) h = refl

no_delete : Begins is_delete false (Choice Replaces (Choice Requires Prints))
no_delete (inl x) h = refl
no_delete (inr (inl x)) h = refl
no_delete (inr (inr x)) h = refl

no_insert : Begins is_insert false (Choice Deletes (Choice Replaces (Choice Requires Prints)))
no_insert (inl x) h = refl
no_insert (inr (inl x)) h = refl
no_insert (inr (inr (inl x))) h = refl
no_insert (inr (inr (inr x))) h = refl

form_parts_read : Reads marks FormParts (choice is_insert insert_at (choice is_delete delete_at (choice is_replace replace_at (choice is_require require_at print_at))))
form_parts_read =
    choice_reads marks is_insert Inserts insert_at (Choice Deletes (Choice Replaces (Choice Requires Prints))) (choice is_delete delete_at (choice is_replace replace_at (choice is_require require_at print_at))) inserts_read
    (choice_reads marks is_delete Deletes delete_at (Choice Replaces (Choice Requires Prints)) (choice is_replace replace_at (choice is_require require_at print_at)) deletes_read
    (choice_reads marks is_replace Replaces replace_at (Choice Requires Prints) (choice is_require require_at print_at) replaces_read
    (choice_reads marks is_require Requires require_at Prints print_at requires_read prints_read (λ x h. refl) no_require)
    (λ x h. refl) no_replace)
    (λ x h. refl) no_delete)
    (λ x h. refl) no_insert

pub forms_read : Reads marks Forms form_at
unfolding form_at
forms_read =
    given_reads marks form_of form_parts FormParts (choice is_insert insert_at (choice is_delete delete_at (choice is_replace replace_at (choice is_require require_at print_at)))) Forms form_parts_read
    (record { same = form_same; bars = form_bars_same; is = λ level x h. form_is x; to = form_to; from = form_from })

-- a semicolon may stand behind each form
forms_free : (x : Statement) → form_bars x semicolon ≡ false
forms_free (insert h ls) = wheres_free ls semicolon refl refl refl
forms_free (delete h ls) = wheres_free ls semicolon refl refl refl
forms_free (replace gone come ls) = wheres_free ls semicolon refl refl refl
forms_free (require some l ls) = bodies_free l ls semicolon refl refl
forms_free (print t ts l ls) = bodies_free l ls semicolon refl refl

-- ---- statements

abbrev pub Statements : Language Shape Statement
Statements = Closed marks few_names Forms

abbrev a_head : Head
a_head = record { relation = []; first = quoted []; others = [] }

few_of_none : few_names (insert a_head []) ≡ true
unfolding few_names
few_of_none = refl

pub statements_read : Reads marks Statements statement_at
unfolding statement_at
statements_read = closed_reads marks few_names Forms form_at forms_read forms_free (λ x h. form x) (insert a_head []) ((refl, (tt, (tt, omega arith))), tt) few_of_none

pub statements_begin : Begins starts_statement true Statements
statements_begin (insert h ls) k = refl
statements_begin (delete h ls) k = refl
statements_begin (replace gone come ls) k = refl
statements_begin (require some l ls) k = refl
statements_begin (print t ts l ls) k = refl
