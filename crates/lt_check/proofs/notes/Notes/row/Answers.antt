use Rattle.std.proofs.Common.{false, [], refl}
use Rattle.lt_check.proofs.Fronts.{IsWhole_before}
use Rattle.lt_check.proofs.Looks.{Takes_misfit}
use Rattle.lt_check.proofs.notes.Notes.row.Goals as goal

pub returns-clause-takes : goal.returns-clause-takes
returns-clause-takes c = Takes_misfit c.args.terms.now c.args.columns.now c.args.self.now c.terms.new.self c.refuse.new.self c.if-terms-columns.false c.in_ok-list.ensures.takes c.refuse.ensures

pub returns-clause-terms : goal.returns-clause-terms
returns-clause-terms c whole w =
    c.in_ok-list.ensures.terms whole (IsWhole_before c.terms.new.self.names c.refuse.new.self.names whole [] (c.refuse.ensures (λ whole choice. false) (λ whole choice. refl)).names w)
