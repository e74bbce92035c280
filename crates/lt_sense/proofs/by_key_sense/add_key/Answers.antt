use Rattle.std.proofs.Common.{◌∷◌, ◌++◌, [], ap, sym, ◌∙◌}
use Rattle.lt_sense.proofs.ByKeyGains.{key_one}
use Rattle.lt_sense.proofs.by_key_sense.add_key.Goals as goal

pub returns-in_ok-push : goal.returns-in_ok-push
returns-in_ok-push c =
    key_one c.args.part.now c.args.relation c.args.row.now c.args.keys.now.items c.push.new.self.items (sym c.has.ensures ∙ c.if-has.true) (c.in_ok-push.ensures.items ∙ ap (λ n. c.args.keys.now.items ++ n ∷ []) c.key.ensures)
