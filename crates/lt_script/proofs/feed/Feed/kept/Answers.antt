use Rattle.std.proofs.Common.{arith, length-drop}
use Rattle.lt_script.proofs.feed.Feed.kept.Goals as goal

pub returns : goal.returns
returns c = omega (arith, c.len.ensures, c.saturating_sub.ensures, length-drop c.args.self.now.from c.args.self.now.bytes.items)
