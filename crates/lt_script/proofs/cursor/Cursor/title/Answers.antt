use Rattle.std.proofs.Common.{◌≡◌, List, [], ◌++◌, Ok, rules, sym, ap, subst, ◌∙◌, length, arith}
use Rattle.lt_model.specs.Tokens.{Shape}
use Rattle.lt_model.specs.Script as script
use Rattle.lt_model.specs.declared.syntax.Statement.{Statement}
use Rattle.lt_grammar.specs.Productions.{name_at}
use Rattle.lt_script.specs.Ahead.{shapes, behind, passed_tokens}
use Rattle.lt_script.specs.Forms.{AreRead}
use Rattle.lt_script.proofs.Behind.{source_same}
use Rattle.lt_script.proofs.Past.{place_past, shapes_between}
use Rattle.lt_script.proofs.cursor.Cursor.title.Goals as goal

only : (old read all : List Statement) → old ≡ [] → all ≡ old ++ read → read ≡ all
only old read all none is = ap (λ (xs : List Statement). xs ++ read) (sym none) ∙ sym is

pub go_to-requires-clause-place : goal.go_to-requires-clause-place
go_to-requires-clause-place c =
    let past = c.in_ok-end.ensures.past in
    (_, place_past c.args.self.now.source (passed_tokens (behind c.args.self.now)) c.behind_next.result.line c.in_ok-end.end.line c.behind_next.result.rest.now c.in_ok-end.end.rest.now c.behind_next.ensures.place past.0 past.2)

pub returns-clause-titled : goal.returns-clause-titled
returns-clause-titled c =
    let past = c.in_ok-end.ensures.past in
    let passed = c.go_to.ensures.passed _ (place_past c.args.self.now.source (passed_tokens (behind c.args.self.now)) c.behind_next.result.line c.in_ok-end.end.line c.behind_next.result.rest.now c.in_ok-end.end.rest.now c.behind_next.ensures.place past.0 past.2) in
    let named : name_at (shapes c.args.self.now) ≡ Ok (c.in-Some-Word.word.label.bytes.now, shapes (behind c.args.self.now)) = search rules in
    let between = shapes_between (behind c.args.self.now) c.go_to.new.self past.2.ts (c.go_to.ensures.source ∙ sym (source_same c.args.self.now)) passed in (
      script.shapes past.2.ts,
      named ∙ ap (λ (us : List Shape). Ok (c.in-Some-Word.word.label.bytes.now, us)) between,
      subst (λ (xs : List Statement). AreRead xs (script.shapes past.2.ts)) (only c.args.statements.now.items past.0 c.past_known.new.statements.items c.requires past.1) past.2.are,
      c.in_ok-end.ensures.few (omega (arith, ap (λ (xs : List Statement). length xs) c.requires)),
    )
