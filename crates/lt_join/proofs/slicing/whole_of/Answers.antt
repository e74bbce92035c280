use Rattle.std.proofs.Common.{refl, sym, subst, arith}
use Rattle.std.proofs.lemmas.Result.{IfOk-weaker}
use Rattle.lt_face.specs.Keys.{end_key}
use Rattle.lt_join.specs.Mended.{AreSlicesOn}
use Rattle.lt_join.specs.Parts.{IsAtMost}
use Rattle.lt_join.specs.Sliced.{AreFoundKeys, slice_keys, united}
use Rattle.lt_join.specs.Slices.{SlicesView, slices_of}
use Rattle.lt_join.proofs.RangeLaws.{slices_whole}
use Rattle.lt_join.proofs.slicing.whole_of.Goals as goal

pub returns-clause-slices : goal.returns-clause-slices
returns-clause-slices c =
    let root = c.args.found.sense.root in
    let slices = slices_of c.args.found.rows.items c.args.found.sense.slices in
    IfOk-weaker c.of.result _ _ (λ whole is. λ terms body plan state within.
    subst (λ (w : SlicesView). AreSlicesOn terms body plan state w.root w.slices × AreFoundKeys plan state (slice_keys w.slices)) (sym is)
    (slices_whole terms body plan state 0 end_key root slices refl (omega arith) within, within.found)) c.of.ensures

pub returns-clause-few : goal.returns-clause-few
returns-clause-few c =
    IfOk-weaker c.of.result _ _ (λ whole is. λ n few. subst (λ (w : SlicesView). IsAtMost (united w.root w.slices) n) (sym is) few) c.of.ensures
