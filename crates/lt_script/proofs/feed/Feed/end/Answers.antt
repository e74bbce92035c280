use Rattle.lt_script.specs.Feed.{kept_of}
use Rattle.lt_script.proofs.Feeds.{at_end}
use Rattle.lt_script.proofs.feed.Feed.end.Goals as goal

pub returns-clause-fed : goal.returns-clause-fed
returns-clause-fed c = λ bytes items h. at_end c.args.self.now.fault c.args.self.now.ended c.args.self.now.line (kept_of c.args.self.now) bytes items h

pub returns-clause-held : goal.returns-clause-held
returns-clause-held c = λ line code h. record { fault = h.fault; is = h.is; line_is = h.line_is; code_is = h.code_is; nothing = h.nothing }
