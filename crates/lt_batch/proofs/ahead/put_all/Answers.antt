use Rattle.std.proofs.Common.{◌∙◌, rules, sym, subst}
use Rattle.std.proofs.lemmas.Iterator.Consumers.{YieldsList-turn}
use Rattle.std.proofs.lemmas.Iterator.Adapters.{YieldsList-from_vec}
use Rattle.lt_face.proofs.RowLemmas.{each_at}
use Rattle.lt_batch.specs.Folding.{IsInPlace}
use Rattle.lt_batch.proofs.ahead.put_all.Goals as goal

pub loop-one-preserved : goal.loop-one-preserved
loop-one-preserved c =
    let given = YieldsList-from_vec {s = c.into_iter-one-iterator.result} c.args.runs.items (search rules) (search rules) in
    let turn = YieldsList-turn given c.loop-one.yielded c.loop-one.one-iterator c.loop-one.yielded_by c.next.result c.next.new.self c.in-Some.one c.in-Some.is c.next.ensures.steps in
    record {
      can_next = search rules;
      is_finite = search rules;
      long = c.put_one.ensures.long ∙ c.loop-one.invariant.long;
      ahead = λ programs s old runs.
          c.put_one.ensures.ahead programs s (c.loop-one.invariant.ahead programs s old runs)
          (subst (IsInPlace programs s) (sym turn.1) (each_at (IsInPlace programs s) c.args.runs.items _ c.in-Some.one runs turn.0));
    }
