use Rattle.std.proofs.Common.{rules, ◌≡◌, ◌∙◌, nat_lt, unwrap_or}
use Rattle.std.specs.Prelude.{find, not}
use Rattle.lt_face.specs.Keys.{end_key}
use Rattle.lt_trials.proofs.Finding.{least_find}
use Rattle.lt_trials.proofs.leap.list_iter.least.Goals as goal

pub returns : goal.returns
returns c =
    let is : c.unwrap_or.result ≡ unwrap_or (find (λ key. not (nat_lt key c.args.bound)) c.args.keys.now) end_key = search rules in
    is ∙ least_find c.args.keys.now c.args.bound
