use Rattle.std.proofs.Common.{◌≡◌, true, false, subst}
use Rattle.lt_face.specs.State.{Row}
use Rattle.lt_delta.specs.Finding.{is_before}
use Rattle.lt_delta.proofs.Starts.{before_start, from_start}
use Rattle.lt_delta.proofs.marks.Marks.start_of.Goals as goal

pub returns-clause-before : goal.returns-clause-before
returns-clause-before c = λ p m at lt.
    before_start c.args.relation m (subst (λ (r : Row). is_before c.args.relation r m ≡ true) c.from_cells-least.ensures (c.place_for.ensures.before p m at lt))

pub returns-clause-after : goal.returns-clause-after
returns-clause-after c = λ p m at le.
    from_start c.args.relation m (subst (λ (r : Row). is_before c.args.relation r m ≡ false) c.from_cells-least.ensures (c.place_for.ensures.after p m at le))
