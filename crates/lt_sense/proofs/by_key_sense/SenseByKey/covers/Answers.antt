use Rattle.std.proofs.Common.{◌||◌, subst, sym, ap, ◌∙◌}
use Rattle.lt_sense.specs.ByKeyTold.{have_rest, IsToldByKey}
use Rattle.lt_sense.proofs.ByKeyTouched.{told_covers}
use Rattle.lt_sense.proofs.by_key_sense.SenseByKey.covers.Goals as goal

pub returns-then-have_done : goal.returns-then-have_done
returns-then-have_done c ask =
    let s = c.self.inside in
    let now = c.args.self.now in
    sym (ap (λ b. b || have_rest s.rest.items c.args.relation c.args.row.now) (sym c.have_done.ensures ∙ c.if-have_done.true))
    ∙ told_covers now s.lists.items s.rest.items c.args.relation c.args.row.now (subst (λ x. IsToldByKey x s.lists.items s.rest.items) c.self.view_is c.self.invariant.1) ask

pub returns : goal.returns
returns c ask =
    let s = c.self.inside in
    let now = c.args.self.now in
    c.rest_has.ensures
    ∙ sym (ap (λ b. b || have_rest s.rest.items c.args.relation c.args.row.now) (sym c.have_done.ensures ∙ c.if-have_done.false))
    ∙ told_covers now s.lists.items s.rest.items c.args.relation c.args.row.now (subst (λ x. IsToldByKey x s.lists.items s.rest.items) c.self.view_is c.self.invariant.1) ask
