use Rattle.std.proofs.Common.{refl, ap, ◌≡◌, ◌∙◌, ℕ, length, arith}
use Rattle.std.specs.Prelude.{min}
use Rattle.lt_script.proofs.Feeds.{same_kept}
use Rattle.lt_script.proofs.feed.Feed.forget_answered.Goals as goal

pub give_up-requires : goal.give_up-requires
give_up-requires c = omega (arith, c.len.ensures, c.min-answered.ensures)

pub returns-clause-same : goal.returns-clause-same
returns-clause-same c =
    let n : c.len.result ≡ length c.args.self.now.bytes.items = omega (arith, c.len.ensures) in
    same_kept c.args.self.now _ c.min-answered.result (c.min-answered.ensures ∙ ap (λ (k : ℕ). min c.args.self.now.from k) n) c.in_ok-give_up.ensures.left refl refl refl refl
