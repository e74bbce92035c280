use Rattle.std.proofs.Common.{subst}
use Rattle.lt_script.specs.Ahead.{Place, passed_tokens, IsBehind, IsBehindSemicolon, IsPlace}
use Rattle.lt_script.proofs.cursor.Cursor.rest.Goals as goal

pub returns-clause-place : goal.returns-clause-place
returns-clause-place c = subst (λ (p : Place). IsBehind p.source (passed_tokens p) c.self.inside.since.line c.self.inside.since.rest.now) c.self.view_is c.self.invariant.place.behind

pub returns-clause-fits : goal.returns-clause-fits
returns-clause-fits c = c.self.invariant.fits

pub returns-clause-ends : goal.returns-clause-ends
returns-clause-ends c = subst (λ (p : Place). IsBehindSemicolon p.source (passed_tokens p) c.self.inside.since.line c.self.inside.since.rest.now) c.self.view_is c.self.invariant.place.ends

pub returns-clause-whole : goal.returns-clause-whole
returns-clause-whole c = subst (λ (p : Place). IsPlace p.source (passed_tokens p) c.self.inside.since.line c.self.inside.since.rest.now) c.self.view_is c.self.invariant.place
