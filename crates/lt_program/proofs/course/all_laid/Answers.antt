use Rattle.std.proofs.Common.{Option, rules, subst}
use Rattle.lt_base.specs.Tables.{state_of}
use Rattle.lt_program.specs.declared.course.Laid.{Laid}
use Rattle.lt_program.specs.Tally.{IsLaid, IsLaidUpTo}
use Rattle.lt_program.proofs.LaterMarks.{rises, later_fits, laid_finished}
use Rattle.lt_program.proofs.course.all_laid.Goals as goal

pub finish-requires : goal.finish-requires
finish-requires c =
    let is : IsLaidUpTo c.args.base.now c.args.marks.now c.in-Some.laid = subst (λ (o : Option Laid). IsLaid c.args.base.now c.args.marks.now o) c.in-Some.is c.requires.laid in
    later_fits c.args.base.now c.args.marks.now c.in-Some.laid is c.requires.fits

pub returns-in_ok-tables-in-Some-clause-laid : goal.returns-in_ok-tables-in-Some-clause-laid
returns-in_ok-tables-in-Some-clause-laid c =
    let is : IsLaidUpTo c.args.base.now c.args.marks.now c.in-Some.laid = subst (λ (o : Option Laid). IsLaid c.args.base.now c.args.marks.now o) c.in-Some.is c.requires.laid in
    laid_finished c.args.base.now c.args.marks.now c.in-Some.laid is c.in_ok-tables-in-Some.tables (rises (state_of c.args.base.now) c.look_over.ensures.state) c.in_ok-tables-in-Some.ensures.state c.in_ok-tables-in-Some.ensures.indexes

pub returns-in_ok-tables-in-None-clause-laid : goal.returns-in_ok-tables-in-None-clause-laid
returns-in_ok-tables-in-None-clause-laid c = search rules
