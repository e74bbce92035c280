use Rattle.std.proofs.Common.{◌≡◌, ◌∙◌, ◌++◌, ◌∷◌, [], ap, arith}
use Rattle.lt_restate.proofs.Covering.{gains_one, there_last, marked_more, marked_whole}
use Rattle.lt_run_trials.proofs.restatement.add_named.Goals as goal

pub loop-i-preserved : goal.loop-i-preserved
loop-i-preserved c =
    let m = c.mark-mark.result.now in
    let came : c.push.new.self ≡ c.loop-i.named ++ (m.relation, m.row) ∷ [] = c.in_ok-push.ensures.ok ∙ ap (λ row. c.loop-i.named ++ (m.relation, row) ∷ []) c.copy_row.ensures in
    marked_more (λ _. Unit {0}) c.args.marks.now c.loop-i.i m c.mark-mark.ensures c.args.named.now c.loop-i.named c.push.new.self c.loop-i.invariant
    (gains_one (λ _. Unit {0}) c.loop-i.named c.push.new.self (m.relation, m.row) tt came) (λ told. there_last c.loop-i.named c.push.new.self (m.relation, m.row) came)

pub returns-clause-stay : goal.returns-clause-stay
returns-clause-stay c = c.loop-i.invariant.gains.stay

pub returns-clause-all : goal.returns-clause-all
returns-clause-all c = λ mark there. marked_whole (λ _. Unit {0}) c.args.marks.now c.loop-i.i c.args.named.now c.loop-i.named (omega (arith, c.len-i-end.ensures.count)) c.loop-i.invariant mark there tt
