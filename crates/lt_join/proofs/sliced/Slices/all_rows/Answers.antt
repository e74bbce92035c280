use Rattle.std.proofs.Common.{List, sym, ap, ◌∙◌}
use Rattle.std.proofs.lemmas.Result.{IfOk-weaker}
use Rattle.lt_join.specs.Sliced.{sliced_rows}
use Rattle.lt_join.specs.Slices.{KeyRows, SlicesView, rows_in}
use Rattle.lt_join.proofs.Keyed.{all_rows}
use Rattle.lt_join.proofs.sliced.Slices.all_rows.Goals as goal

pub returns : goal.returns
returns c =
    let s = c.self.inside in
    IfOk-weaker c.rows_by_key.result _ _ (λ rows are. are ∙ ap (λ (all : List KeyRows). rows_in all) c.deref.ensures.value ∙ sym (all_rows s.sense.slices s.rows.items c.self.invariant.0) ∙ ap (λ (v : SlicesView). sliced_rows v.slices) c.self.view_is) c.rows_by_key.ensures
