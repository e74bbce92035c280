use Rattle.lt_blocks.proofs.Inside.{inside, unended_line}
use Rattle.lt_blocks.proofs.reader.Reader.bad_line.Goals as goal

pub returns-clause-ended : goal.returns-clause-ended
returns-clause-ended c = λ stage bytes read. let r = c.args.self.now in unended_line r.blocks.items r.header r.entries.items r.missing r.line.items r.number bytes (inside r bytes stage read)
