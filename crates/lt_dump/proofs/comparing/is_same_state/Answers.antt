use Rattle.std.proofs.Common.{◌≡◌, ◌∙◌, ap, sym}
use Rattle.std.specs.Prelude.{Some}
use Rattle.lt_base.specs.Tables.{state_of}
use Rattle.lt_dump.proofs.Elementwise.{same_more}
use Rattle.lt_dump.proofs.comparing.is_same_state.Goals as goal

pub relations-preserved : goal.relations-preserved
relations-preserved c =
    let same : c.in-Some.rows.now ≡ c.in-Some-rows.found.now = c.is_same_relation.ensures c.if-not-is_same_relation.false in
    same_more (state_of c.args.one.now) (state_of c.args.other.now) c.relations.number c.in-Some.rows.now c.relations.invariant (sym c.in-Some.ensures) (sym c.in-Some-rows.ensures ∙ ap (λ row. Some row) (sym same))
