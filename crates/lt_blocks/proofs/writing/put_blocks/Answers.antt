use Rattle.std.proofs.Common.{◌+◌, drop, sym, take}
use Rattle.std.proofs.lemmas.Result.{err_from_is_err_and}
use Rattle.lt_report.proofs.Going.{stops}
use Rattle.lt_report.proofs.Folding.{text-at}
use Rattle.lt_blocks.specs.Blocks.{blocks_text, block_text}
use Rattle.lt_blocks.proofs.writing.put_blocks.Goals as goal

pub returns-in_err-put_block : goal.returns-in_err-put_block
returns-in_err-put_block g c =
    let p = err_from_is_err_and c.from_residual.result c.from_residual.ensures.1 in
    stops c.from_residual.result p.0 _ _ (g.K.Sink.holds c.each.sink) _ _ (g.K.Sink.faults c.each.sink) _ (blocks_text (take c.each.block-index c.args.blocks.now)) _ _ (blocks_text (drop (c.each.block-index + 1) c.args.blocks.now)) p.1 c.each.invariant c.in_err-put_block.ensures
    (text-at block_text c.args.blocks.now c.each.block-index _ c.each-test.true (sym c.block-item.is))
