use Rattle.lt_script.proofs.Lexing.{lexed_alike}
use Rattle.lt_script.proofs.theorems.texts_of_forms.Goals as goal

pub returns : goal.returns
returns c = lexed_alike
