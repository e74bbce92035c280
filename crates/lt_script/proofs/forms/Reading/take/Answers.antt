use Rattle.std.proofs.Common.{rules}
use Rattle.lt_script.proofs.forms.Reading.take.Goals as goal

pub returns : goal.returns
returns c = search rules
