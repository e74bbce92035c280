use Rattle.std.proofs.Common.{rules}
use Rattle.lt_leap.proofs.notes.NoNotesNotes.gap.Goals as goal

pub returns : goal.returns
returns c = search rules
