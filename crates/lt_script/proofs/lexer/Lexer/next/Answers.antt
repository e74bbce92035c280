use Rattle.std.proofs.Common.{rules, ◌∷◌, ◌≢◌, ◌≤◌, ◌<◌}
use Rattle.lt_model.specs.Tokens.{class_of}
use Rattle.lt_script.specs.View.{IsOther}
use Rattle.lt_script.specs.Pieces.{Skipped}
use Rattle.lt_script.proofs.Opens.{opened_letter, opened_line, opened_digit, opened_quote, opened_other}
use Rattle.lt_script.proofs.lexer.Lexer.next.Goals as goal
use Rattle.lt_script.proofs.lexer.Lexer.next.Goals.{in-95-1, in_default+else-first-lt48+else-first-lt58+else-first-lt97+then-first-lt123}

pub returns-in_default-first-clause-opened : goal.returns-in_default-first-clause-opened
returns-in_default-first-clause-opened c =
    let s : Skipped c.args.self.now.line c.args.self.now.rest.now c.skip_gap.new.self.line (c.in-Some.first.now ∷ c.in-Some.after.now) = search rules in
    let o : IsOther (class_of c.in-Some.first.now) = search rules in
    let not_quote : c.in-Some.first.now ≢ 39 = search rules in
    let not_line : c.in-Some.first.now ≢ 95 = search rules in
    let letters : 97 ≤ c.in-Some.first.now → 122 < c.in-Some.first.now = search rules in
    let digits : 48 ≤ c.in-Some.first.now → 57 < c.in-Some.first.now = search rules in
    opened_other c.sign.result c.args.self.now.line c.skip_gap.new.self.line c.sign.new.self.line c.in-Some.first.now c.args.self.now.rest.now c.in-Some.after.now c.sign.new.self.rest.now s c.sign.ensures.line o not_quote not_line letters digits (search rules)

pub returns-in-97-to-122-clause-opened : goal.returns-in-97-to-122-clause-opened
returns-in-97-to-122-clause-opened c = elim c.in-97-to-122-1.branch [
  | in-95-1 w ↦
      let s : Skipped c.args.self.now.line c.args.self.now.rest.now c.skip_gap.new.self.line (95 ∷ c.in-Some.after.now) = search rules in
      opened_line c.word.result c.args.self.now.line c.skip_gap.new.self.line c.word.new.self.line c.args.self.now.rest.now c.in-Some.after.now c.word.new.self.rest.now s c.word.ensures.line (search rules)
  | in_default+else-first-lt48+else-first-lt58+else-first-lt97+then-first-lt123 w ↦
      let s : Skipped c.args.self.now.line c.args.self.now.rest.now c.skip_gap.new.self.line (c.in-Some.first.now ∷ c.in-Some.after.now) = search rules in
      opened_letter c.word.result c.args.self.now.line c.skip_gap.new.self.line c.word.new.self.line c.in-Some.first.now c.args.self.now.rest.now c.in-Some.after.now c.word.new.self.rest.now s c.word.ensures.line (search rules) (search rules) (search rules)
]

pub returns-in-48-to-57-clause-opened : goal.returns-in-48-to-57-clause-opened
returns-in-48-to-57-clause-opened c =
    let s : Skipped c.args.self.now.line c.args.self.now.rest.now c.skip_gap.new.self.line (c.in-Some.first.now ∷ c.in-Some.after.now) = search rules in
    opened_digit c.number.result c.args.self.now.line c.skip_gap.new.self.line c.number.new.self.line c.in-Some.first.now c.args.self.now.rest.now c.in-Some.after.now c.number.new.self.rest.now s c.number.ensures.line (search rules) (search rules) (search rules)

pub returns-in-39-clause-opened : goal.returns-in-39-clause-opened
returns-in-39-clause-opened c =
    let s : Skipped c.args.self.now.line c.args.self.now.rest.now c.skip_gap.new.self.line (39 ∷ c.in-Some.after.now) = search rules in
    opened_quote c.symbol.result c.args.self.now.line c.skip_gap.new.self.line c.symbol.new.self.line c.args.self.now.rest.now c.in-Some.after.now c.symbol.new.self.rest.now s c.symbol.ensures.line (search rules)
