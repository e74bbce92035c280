use Rattle.std.proofs.Common.{◌≡◌, List, refl, subst}
use Rattle.lt_model.specs.declared.normal.Stmt.{Stmt}
use Rattle.lt_model.specs.Marks.{laid}
use Rattle.lt_model.specs.Run.{run}
use Rattle.lt_batch.proofs.AheadRuns.{early_stays, kept_stays}
use Rattle.lt_batch.proofs.ahead.let_one_go.Goals as goal

pub returns-then-is_kept : goal.returns-then-is_kept
returns-then-is_kept c = λ s since fit h. kept_stays c.args.prog.now s since c.args.marks.now c.args.one.now fit (c.is_kept.ensures c.if-is_kept.true) h

pub returns-then-not-bear_on : goal.returns-then-not-bear_on
returns-then-not-bear_on c = λ s since fit h.
    early_stays c.args.prog.now s since c.args.marks.now c.args.one.now fit
    (subst (λ (p : List Stmt). run p s ≡ run p (laid s c.args.marks.now)) c.statements.ensures (c.if-not-bear_on.ensures.same refl s)) h
