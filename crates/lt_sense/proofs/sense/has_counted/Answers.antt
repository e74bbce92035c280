use Rattle.std.proofs.Common.{sym, ap, ◌∙◌}
use Rattle.std.proofs.lemmas.Bool.{eq-eqb}
use Rattle.lt_sense.specs.Spans.{have, stills}
use Rattle.lt_sense.proofs.Done.{done_have}
use Rattle.lt_sense.proofs.Having.{list_other}
use Rattle.lt_sense.proofs.sense.has_counted.Goals as goal

pub returns-then-list-relation-clause-value : goal.returns-then-list-relation-clause-value
returns-then-list-relation-clause-value n c = sym (list_other c.args.list.now c.args.relation c.args.row.now c.if-list-relation.true)

pub returns-clause-value : goal.returns-clause-value
returns-clause-value n c =
    let s = c.args.list.now in
    c.has_ordered.ensures.value ∙ ap (λ k. have (stills s) k c.args.row.now) c.if-list-relation.false ∙ sym (done_have s c.requires c.args.relation c.args.row.now)

pub returns-clause-steps : goal.returns-clause-steps
returns-clause-steps n c d fits = rw (eq-eqb c.args.list.now.relation c.args.relation c.if-list-relation.false) (c.has_ordered.ensures.steps d fits)
