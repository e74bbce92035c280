use Rattle.std.proofs.Common.{[], append-nil, sym}
use Rattle.std.proofs.lemmas.Result.{err_from_is_err_and}
use Rattle.lt_blocks.specs.Blocks.{blocks_text}
use Rattle.lt_report.proofs.Going.{did_of, ends, stops_first}
use Rattle.lt_world.proofs.Writing.{flushed}
use Rattle.lt_session.proofs.repair.write_blocks.Goals as goal

pub returns-in_err-put_blocks : goal.returns-in_err-put_blocks
returns-in_err-put_blocks g c =
    let p = err_from_is_err_and c.from_residual.result c.from_residual.ensures.1 in
    let text = blocks_text c.args.blocks.now in
    stops_first c.from_residual.result p.0 _ _ _ _ _ text _ [] p.1 c.in_err-put_blocks.ensures (sym (append-nil text))

pub returns : goal.returns
returns g c =
    let text = blocks_text c.args.blocks.now in
    ends c.flush.result _ (g.K.Sink.holds c.put_blocks.new.sink) _ _ (g.K.Sink.faults c.put_blocks.new.sink) _ text [] _ (did_of _ _ _ _ _ _ text c.in_ok-put_blocks.ensures)
    (flushed c.flush.result _ _ _ _ c.flush.ensures.bytes c.flush.ensures.cause) (sym (append-nil text))
