use Rattle.std.proofs.Common.{rules, ◌≡◌, ◌*◌, [], ◌∷◌, Some, ap}
use Rattle.lt_turn.proofs.Steps.{opens}
use Rattle.lt_turn.proofs.turn.Turn.new.Goals as goal

pub new-requires : goal.new-requires
new-requires g c =
    let one : c.push_reserved.new.self.items ≡ Some c.args.value ∷ [] = search rules in
    rw (one, c.of.ensures) (opens g.T.Story.opening g.T.Story.journal c.args.value c.args.workers (2 * c.entries-left.result) (ap (λ n. 2 * n) c.entries-left.ensures))
