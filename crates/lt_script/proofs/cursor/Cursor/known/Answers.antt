use Rattle.lt_script.specs.Ahead.{passed_tokens}
use Rattle.lt_script.proofs.Past.{place_past}
use Rattle.lt_script.proofs.Known.{known_on}
use Rattle.lt_script.proofs.cursor.Cursor.known.Goals as goal

pub go_to-requires-clause-place : goal.go_to-requires-clause-place
go_to-requires-clause-place c =
    let past = c.in_ok-end.ensures.past in
    (_, place_past c.args.self.now.source (passed_tokens c.args.self.now) c.rest.result.line c.in_ok-end.end.line c.rest.result.rest.now c.in_ok-end.end.rest.now c.rest.ensures.whole past.0 past.2)

pub returns-then-len-count-clause-known : goal.returns-then-len-count-clause-known
returns-then-len-count-clause-known c =
    let past = c.in_ok-end.ensures.past in
    known_on c.args.statements.now.items past.0 c.past_known.new.statements.items c.args.self.now c.go_to.new.self past.2.ts past.2.are past.1 (c.in_ok-end.ensures.few c.requires) c.go_to.ensures.source
    (c.go_to.ensures.passed _ (place_past c.args.self.now.source (passed_tokens c.args.self.now) c.rest.result.line c.in_ok-end.end.line c.rest.result.rest.now c.in_ok-end.end.rest.now c.rest.ensures.whole past.0 past.2))
