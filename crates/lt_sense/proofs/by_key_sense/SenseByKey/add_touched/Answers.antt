use Rattle.std.proofs.Common.{subst}
use Rattle.lt_sense.specs.ByKeyTold.{IsToldByKey}
use Rattle.lt_sense.proofs.ByKeyGains.{gains_all}
use Rattle.lt_sense.proofs.ByKeyTouched.{askable_at}
use Rattle.lt_sense.proofs.Stepped.{ok_map}
use Rattle.lt_sense.proofs.by_key_sense.SenseByKey.add_touched.Goals as goal

pub returns : goal.returns
returns c ask =
    let s = c.self.inside in
    let now = c.args.self.now in
    let told = subst (λ x. IsToldByKey x s.lists.items s.rest.items) c.self.view_is c.self.invariant.1 in
    ok_map c.add_keys.result (gains_all s.lists.items s.rest.items now c.args.relation c.args.row.now c.args.keys.now.items c.add_firsts.new.keys.items c.add_keys.new.keys.items
    (λ k. told.told k c.args.relation c.args.row.now (askable_at now k c.args.relation c.args.row.now ask)) c.in_ok-add_firsts.ensures) c.add_keys.ensures
