-- A program, where its name and the first of its statements were read together.
use Rattle.std.proofs.Common.{◌≡◌, ◌≤◌, List, [], ◌++◌, length, Ok, sym, ap, ◌∙◌}
use Rattle.lt_face.specs.Limits.{most_statements}
use Rattle.lt_reading.specs.Reading.{given, both, token, ended, many, at_once}
use Rattle.lt_model.specs.Tokens.{Shape}
use Rattle.lt_model.specs.Grammar.{semicolon}
use Rattle.lt_model.specs.declared.syntax.Statement.{Statement}
use Rattle.lt_model.specs.declared.syntax.Program.{Program}
use Rattle.lt_grammar.specs.Tokens.{Text, same_shape, program_word, end_word}
use Rattle.lt_grammar.specs.Productions.{name_at, starts_statement}
use Rattle.lt_script.specs.declared.refusal.Refusal.{Refusal}
use Rattle.lt_script.specs.declared.refusal.Refusal.TheVariants.{NoMemory, Fault}
use Rattle.lt_script.specs.Parsed.{Fails, Outcome, Reader}
use Rattle.lt_script.specs.Valued.{valued_statement_at, valued_program_at, program_of}
use Rattle.lt_script.specs.Forms.{AreRead, more_statements}
use Rattle.lt_script.proofs.Room.{more_at_first}

-- ---- the reader, where some of its parts are read

abbrev gives : {A : Type 0} → Outcome A → Reader A
gives o us = o

abbrev read_as : {A : Type 0} → A → Reader A
read_as x us = Ok (x, us)

abbrev all_at : Reader (List Statement)
all_at = ended same_shape semicolon (ended same_shape end_word (many starts_statement valued_statement_at at_once most_statements))

abbrev in_program : Reader (Unit {0}) → Reader (Text × List Statement) → Outcome Program
in_program w r = given program_of (given (λ (x : Unit {0} × (Text × List Statement)). x.1) (both w r)) []

abbrev in_list : Reader (List Statement) → Reader (Unit {0}) → Reader (List Statement)
in_list r w = given (λ (x : List Statement × Unit {0}). x.0) (both r w)

abbrev from_word : Outcome (Unit {0}) → Outcome Program
from_word o = in_program (gives o) (both name_at all_at)

abbrev from_name : Outcome Text → Outcome Program
from_name o = in_program (read_as tt) (both (gives o) all_at)

-- what is made of the statements
abbrev finish : Text → Outcome (List Statement) → Outcome Program
finish name o = in_program (read_as tt) (both (read_as name) (ended same_shape semicolon (ended same_shape end_word (gives o))))

abbrev from_end : Text → List Statement → Outcome (Unit {0}) → Outcome Program
from_end name all o = in_program (read_as tt) (both (read_as name) (ended same_shape semicolon (in_list (read_as all) (gives o))))

abbrev from_semicolon : Text → List Statement → Outcome (Unit {0}) → Outcome Program
from_semicolon name all o = in_program (read_as tt) (both (read_as name) (in_list (in_list (read_as all) (read_as tt)) (gives o)))

module _ (ts t1 t2 : List Shape) (name : Text) (read : List Statement) (first : token same_shape program_word ts ≡ Ok (tt, t1)) (titled : (tokens : List Shape) × (name_at t1 ≡ Ok (name, tokens ++ t2)) × AreRead read tokens × (length read ≤ most_statements)) where
  pub program_read : valued_program_at ts ≡ finish name (more_statements read t2)
  unfolding valued_program_at
  program_read = ap from_word first ∙ ap from_name titled.1 ∙ ap (finish name) (sym (more_at_first (titled.0 ++ t2)) ∙ titled.2 [] t2 titled.3)

  pub ends_at_statements : (refusal : Refusal) (left : List Shape) → Fails refusal left (more_statements read t2) → Fails refusal left (valued_program_at ts)
  ends_at_statements NoMemory left h = tt
  ends_at_statements (Fault c) left h = program_read ∙ ap (finish name) h

  module _ (all : List Statement) (t3 : List Shape) (others : more_statements read t2 ≡ Ok (all, t3)) where
    ended_so : valued_program_at ts ≡ finish name (Ok (all, t3))
    ended_so = program_read ∙ ap (finish name) others

    pub ends_at_end : (refusal : Refusal) (left : List Shape) → Fails refusal left (token same_shape end_word t3) → Fails refusal left (valued_program_at ts)
    ends_at_end NoMemory left h = tt
    ends_at_end (Fault c) left h = ended_so ∙ ap (from_end name all) h

    module _ (t4 : List Shape) (end : token same_shape end_word t3 ≡ Ok (tt, t4)) where
      closed_so : valued_program_at ts ≡ from_semicolon name all (token same_shape semicolon t4)
      closed_so = ended_so ∙ ap (from_end name all) end

      pub ends_at_semicolon : (refusal : Refusal) (left : List Shape) → Fails refusal left (token same_shape semicolon t4) → Fails refusal left (valued_program_at ts)
      ends_at_semicolon NoMemory left h = tt
      ends_at_semicolon (Fault c) left h = closed_so ∙ ap (from_semicolon name all) h

      pub whole_program : (t5 : List Shape) → token same_shape semicolon t4 ≡ Ok (tt, t5) → valued_program_at ts ≡ Ok (program_of (name, all), t5)
      whole_program t5 h = closed_so ∙ ap (from_semicolon name all) h
