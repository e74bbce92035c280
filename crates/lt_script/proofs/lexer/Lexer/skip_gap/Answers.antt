use Rattle.std.proofs.Common.{rules}
use Rattle.lt_script.proofs.Gaps.{over_feed}
use Rattle.lt_script.proofs.Skips.{skip_feed}
use Rattle.lt_script.proofs.lexer.Lexer.skip_gap.Goals as goal

pub bytes-preserved-in-10 : goal.bytes-preserved-in-10
bytes-preserved-in-10 c = record { same = search (rules, over_feed); skipped = search (rules, skip_feed); down = search rules; fits = search rules }
