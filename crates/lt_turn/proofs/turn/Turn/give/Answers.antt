use Rattle.std.proofs.Common.{rules, ap, ◌*◌}
use Rattle.lt_turn.proofs.Steps.{frees}
use Rattle.lt_turn.proofs.turn.Turn.give.Goals as goal

pub store-requires : goal.store-requires
store-requires g c = (
  search rules,
  search rules,
  frees g.T.Story.opening g.T.Story.journal _ _ _ c.args.seat.now.token.me.0 c.args.value c.requires.journal.0 _ c.args.self.now.sized.1 (search rules) (search rules) c.requires.journal.1 c.requires.value c.requires.journal.2 (ap (λ n. 2 * n) c.entries-left.ensures),
)
