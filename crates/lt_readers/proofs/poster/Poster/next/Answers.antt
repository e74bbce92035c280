use Rattle.std.proofs.Common.{rules}
use Rattle.lt_readers.proofs.Adding.{may_follow}
use Rattle.lt_readers.proofs.poster.Poster.next.Goals as goal

pub next_number-number-requires : goal.next_number-number-requires
next_number-number-requires c = rw c.deref-last.ensures (c.requires.room _ c.args.self.now.front.last)

pub returns-clause-follows : goal.returns-clause-follows
returns-clause-follows c =
    let last = c.args.self.now.front.last in
    may_follow c.args.self.now.front.seen.log _ _ c.args.db.now last (c.requires.room _ last) (c.requires.relations _ last) (search rules)
