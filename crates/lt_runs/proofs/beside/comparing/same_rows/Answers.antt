use Rattle.std.proofs.Common.{◌∙◌, sym}
use Rattle.lt_runs.proofs.Compared.{rows_decide}
use Rattle.lt_runs.proofs.beside.comparing.same_rows.Goals as goal

pub returns : goal.returns
returns c =
    let decides = rows_decide c.args.a.now c.args.b.now in
    (λ h. decides.0 (sym c.eq.ensures ∙ h), λ e. c.eq.ensures ∙ decides.1 e)
