use Rattle.lt_script.proofs.Feeds.{fed_none}
use Rattle.lt_script.proofs.feed.Feed.new.Goals as goal

pub returns-clause-fed : goal.returns-clause-fed
returns-clause-fed c = fed_none c.new.result.items c.new.ensures.items
