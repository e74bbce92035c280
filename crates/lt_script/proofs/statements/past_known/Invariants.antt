use Rattle.std.proofs.Common.{◌≡◌, ℕ, ◌+◌, ◌-◌, ◌^◌, ◌<◌, ◌≤◌, List, ◌++◌, length}
use Rattle.lt_face.specs.Limits.{most_statements}
use Rattle.lt_model.specs.declared.syntax.Statement.{Statement}
use Rattle.lt_script.specs.Forms.{GoesPast}
use Rattle.lt_script.proofs.statements.past_known.Given as goal

-- what was passed, as far as the loop has come
pub record Passed (line : ℕ) (bytes : List ℕ) (old new : List Statement) (after : ℕ) (left : List ℕ) : Type 0 where
  pub read : List Statement
  pub is : new ≡ old ++ read
  pub past : GoesPast line bytes after left read
  pub few : length old ≤ most_statements → length new ≤ most_statements
  pub fits : after + length left < 2 ^ 64

abbrev pub invariant-statements : goal.invariant-statements
invariant-statements l = Passed l.fn.from.line l.fn.from.rest.now l.fn.statements.items l.statements.items l.end.line l.end.rest.now

abbrev pub decreases-statements : goal.decreases-statements
decreases-statements l = 64 - length l.statements.items
