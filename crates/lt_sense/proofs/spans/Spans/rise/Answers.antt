use Rattle.std.proofs.Common.{◌-◌, length, take, ap, ◌∙◌, arith}
use Rattle.lt_sense.specs.Spans.{ranges_of}
use Rattle.lt_sense.proofs.Stepped.{same_chain, ok_map}
use Rattle.lt_sense.proofs.spans.Spans.rise.Goals as goal

pub returns-clause-rows : goal.returns-clause-rows
returns-clause-rows c = same_chain (ranges_of c.args.self.now) (ranges_of c.settle.new.self) (ranges_of c.step_up-2.new.self) c.in_ok-settle.ensures.rows c.step_up-2.ensures.rows

pub returns-clause-at : goal.returns-clause-at
returns-clause-at c = ok_map c.step_up-2.result (λ e. e ∙ ap (λ xs. take (length xs - 1) xs) c.in_ok-settle.ensures.at) c.step_up-2.ensures.at

pub returns-clause-few : goal.returns-clause-few
returns-clause-few c = (let a = c.in_ok-settle.ensures.few in let b = c.step_up-2.ensures.few in omega (arith, a, b))
