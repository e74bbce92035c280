use Rattle.std.proofs.Common.{◌≡◌, ◌+◌, ◌-◌, ◌∙◌, sym, arith}
use Rattle.std.proofs.lemmas.Option.{slice_get_within}
use Rattle.lt_program.proofs.Firsts.{within_less}
use Rattle.lt_program.proofs.going.last_refusing.Goals as goal

pub last-init : goal.last-init
last-init c = record { within = omega arith; all = λ j stmt there refuses. slice_get_within c.args.stmts.now j stmt there }

pub last-preserved : goal.last-preserved
last-preserved c =
    let one : (c.last.count - 1) + 1 ≡ c.last.count = omega (arith, c.last-test.true) in
    record {
      within = omega (arith, c.last.invariant.within);
      all = within_less (c.last.count - 1) c.last.count c.args.stmts.now c.index-stmts-count.result one c.last.invariant.within c.index-stmts-count.is (sym c.may_refuse.ensures ∙ c.if-may_refuse.false) c.last.invariant.all;
    }
