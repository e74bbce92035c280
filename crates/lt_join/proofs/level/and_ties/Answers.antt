use Rattle.std.proofs.Common.{◌<◌, ◌++◌, length, map, sym, ap, subst, ◌∙◌, arith, get_or}
use Rattle.std.proofs.lemmas.List.{take_all}
use Rattle.lt_join.specs.Lone.{IsLeftBy}
use Rattle.lt_model.specs.Answers.{cell_of}
use Rattle.lt_query.specs.declared.plans.Level.{Level}
use Rattle.lt_join.specs.Values.{assigned, values_in}
use Rattle.lt_join.specs.Walked.{at}
use Rattle.lt_join.proofs.Asking.{tied_key, tied_next, tie_below}
use Rattle.lt_join.proofs.level.and_ties.Goals as goal

pub loop-tie-preserved : goal.loop-tie-preserved
loop-tie-preserved c = λ before left.
    let ties = c.args.ties.now in
    let i = c.loop-tie.tie-index in
    let below : get_or ties i 0 < length c.args._keys.now = tie_below (λ m. m < length c.args._keys.now) ties i c.requires.ties (omega arith) in
    let within : get_or ties i 0 < length c.args.levels.now = omega (arith, below, c.requires.within) in
    tied_next (at c.args._keys.now) ties i c.cell.result before c.loop-tie.asked c.and_key-asked.result (omega arith)
    (c.cell.ensures ∙ ap (λ (w : Level). cell_of (assigned (values_in c.args.values.now.cells)) w.term) (sym c.index-levels-tie.is) ∙ tied_key c.args.levels.now c.args._keys.now (values_in c.args.values.now.cells) (get_or ties i 0) c.index-levels-tie.result c.requires.known below within c.index-levels-tie.is)
    (c.loop-tie.invariant before left) c.and_key-asked.ensures

pub returns : goal.returns
returns c = λ before left. subst (λ ties. IsLeftBy (before ++ map (at c.args._keys.now) ties) c.loop-tie.asked) (take_all c.loop-tie.tie-index c.args.ties.now (omega arith)) (c.loop-tie.invariant before left)
