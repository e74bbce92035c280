use Rattle.std.proofs.Common.{ℕ, ◌+◌, ◌^◌, ◌<◌, List, [], ◌∷◌, ◌++◌, length, Some, sym, ap, ◌∙◌, append_assoc, arith}
use Rattle.std.proofs.lemmas.List.{append-nil, length-append}
use Rattle.lt_face.specs.Limits.{most_statements}
use Rattle.lt_model.specs.declared.syntax.Statement.{Statement}
use Rattle.lt_script.specs.declared.fitting.Behind.{Behind}
use Rattle.lt_script.specs.Pieces.{Skipped}
use Rattle.lt_script.specs.Forms.{Took}
use Rattle.lt_script.proofs.Past.{past_none, past_more, taken_fits}
use Rattle.lt_script.proofs.statements.past_known.Invariants.{Passed}
use Rattle.lt_script.proofs.statements.past_known.Goals as goal

pub statements-init : goal.statements-init
statements-init c = record { read = []; is = sym (append-nil c.args.statements.now.items); past = past_none c.args.from.line c.args.from.rest.now; few = λ h. h; fits = c.requires }

line_fits : (after : ℕ) (tail : List ℕ) (now new : List Statement) (behind : Behind) → after + length tail < 2 ^ 64 → Took tail now new (Some behind) → after + behind.lines + length behind.rest.now < 2 ^ 64
line_fits after tail now new behind fits t = taken_fits after behind.lines (2 ^ 64) tail behind.rest.now t.0 fits t.2

module _ (line mid after : ℕ) (bytes here tail : List ℕ) (old now new : List Statement) (behind : Behind) (k : Skipped mid here after tail) (fits : after + length tail < 2 ^ 64) (room : length now < most_statements) (t : Took tail now new (Some behind)) where
  one_more : Passed line bytes old now mid here → Passed line bytes old new (after + behind.lines) behind.rest.now
  one_more p = record {
    read = p.read ++ t.0 ∷ [];
    is = t.1 ∙ ap (λ (xs : List Statement). xs ++ t.0 ∷ []) p.is ∙ append_assoc old p.read (t.0 ∷ []);
    past = past_more line mid after behind.lines bytes here tail behind.rest.now p.read t.0 p.past k t.2;
    few = λ h. omega (arith, room, ap (λ (xs : List Statement). length xs) t.1, length-append now (t.0 ∷ []));
    fits = line_fits after tail now new behind fits t;
  }

pub overflow_add-end : goal.overflow_add-end
overflow_add-end c = omega (arith, line_fits c.skip_gap.new.self.line c.skip_gap.new.self.rest.now c.statements.statements.items c.take.new.statements.items c.in-Some.behind c.skip_gap.ensures.fits (rw c.in-Some.is at c.in_ok-behind.ensures))

pub statements-preserved : goal.statements-preserved
statements-preserved c =
    one_more c.args.from.line c.statements.end.line c.skip_gap.new.self.line c.args.from.rest.now c.statements.end.rest.now c.skip_gap.new.self.rest.now c.args.statements.now.items c.statements.statements.items c.take.new.statements.items c.in-Some.behind
    c.skip_gap.ensures.skipped c.skip_gap.ensures.fits (omega (arith, c.statements-test.true, c.len.ensures)) (rw c.in-Some.is at c.in_ok-behind.ensures) c.statements.invariant
