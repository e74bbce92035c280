use Rattle.std.proofs.Common.{[], ◌∷◌, refl, sym, subst}
use Rattle.lt_model.specs.Check.{kind_of, same_kind}
use Rattle.lt_check.specs.Taking.{Takes}
use Rattle.lt_check.proofs.Looks.{Takes_numbered, Takes_then, Takes_cell}
use Rattle.lt_check.proofs.notes.Notes.kinded.Goals as goal

pub returns-in_ok-number-in-Name-clause-takes : goal.returns-in_ok-number-in-Name-clause-takes
returns-in_ok-number-in-Name-clause-takes c =
    subst (λ t. Takes (t ∷ []) (λ whole choice. same_kind (kind_of whole choice t) c.args.kind) c.args.self.now c.learn.new.self) (sym c.in-Name.is)
    (Takes_numbered _ _ c.args.kind c.args.self.now c.number.new.self c.learn.new.self c.in_ok-number-in-Name.ensures.number c.in_ok-number-in-Name.ensures.takes c.learn.ensures)

pub returns-in-Cell-clause-takes : goal.returns-in-Cell-clause-takes
returns-in-Cell-clause-takes c =
    subst (λ t. Takes (t ∷ []) (λ whole choice. same_kind (kind_of whole choice t) c.args.kind) c.args.self.now c.agree.new.self) (sym c.in-Cell.is)
    (Takes_then _ _ _ c.args.self.now c.args.self.now c.agree.new.self (λ whole choice w. refl) (Takes_cell c.args.self.now _ _) c.agree.ensures)
