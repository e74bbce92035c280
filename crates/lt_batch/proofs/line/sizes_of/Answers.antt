use Rattle.std.proofs.Common.{◌≡◌, ◌∙◌, ◌++◌, ◌∷◌, [], ap, length, map, take, sym, arith}
use Rattle.std.proofs.lemmas.List.{length-map, map-append}
use Rattle.std.specs.Arc.{arc_value}
use Rattle.lt_batch.specs.Line.{programs_of}
use Rattle.lt_batch.proofs.SpanLists.{batch_short, batches_more}
use Rattle.lt_batch.proofs.line.sizes_of.Goals as goal

pub loop-batch-preserved : goal.loop-batch-preserved
loop-batch-preserved c =
    let is = c.len.ensures in
    let long : c.len.result ≡ length (map arc_value c.batch-item.result.items) = omega (arith, is, length-map c.batch-item.result.items arc_value) in
    c.in_ok-push.ensures.items
    ∙ ap (λ n. c.loop-batch.sizes.items ++ n ∷ []) long
    ∙ ap (λ zs. zs ++ length (map arc_value c.batch-item.result.items) ∷ []) c.loop-batch.invariant
    ∙ sym (map-append length (programs_of (take c.loop-batch.batch-index c.args.batches.now)) (map arc_value c.batch-item.result.items ∷ []))
    ∙ ap (map length) (sym (batches_more c.args.batches.now c.loop-batch.batch-index c.batch-item.result c.loop-batch-test.true c.batch-item.is))

pub overflow_cast-len : goal.overflow_cast-len
overflow_cast-len c =
    let few = batch_short c.args.batches.now c.loop-batch.batch-index c.batch-item.result c.loop-batch-test.true c.batch-item.is c.requires in
    let is = c.len.ensures in
    omega (arith, few, is, length-map c.batch-item.result.items arc_value)
