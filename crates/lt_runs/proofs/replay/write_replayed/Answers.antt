use Rattle.std.proofs.lemmas.Result.{err_from_is_err_and}
use Rattle.lt_runs.proofs.ReplayEnded.{bad_part, bad_written, begun_of, front_stops, none_replayed, read_as, stopped_replay, stops_after}
use Rattle.lt_runs.proofs.replay.write_replayed.Goals as goal

pub returns-in_err-world-clause-err : goal.returns-in_err-world-clause-err
returns-in_err-world-clause-err g c =
    let p = err_from_is_err_and c.from_residual.result c.from_residual.ensures.1 in
    stopped_replay c.from_residual.result p.0 _ p.1 p.2 _ _ _ _ _ _ _ _ _ (none_replayed c.args.marks _ _)

pub returns-in_err-front-clause-err : goal.returns-in_err-front-clause-err
returns-in_err-front-clause-err g c =
    let p = err_from_is_err_and c.from_residual-in_err-front.result c.from_residual-in_err-front.ensures.1 in
    stopped_replay c.from_residual-in_err-front.result p.0 _ p.1 p.2 _ _ _ _ _ _ _ _ _ (front_stops c.args.marks c.in_err-front.field-0.0 _ _ _ _ _ _ c.in_err-front.ensures.err)

pub write_items-requires-clause-begun : goal.write_items-requires-clause-begun
write_items-requires-clause-begun g c = λ lifetimes outlive. (g.S.Source.left c.args.source.now, begun_of _ _ _ _ _ _ (read_as _ _ c.in-Blocks.is _ _ _ _ c.in_ok-front.ensures.ok) c.new-feed.ensures.fed)

pub returns-in_err-verdict-in-Blocks-clause-err : goal.returns-in_err-verdict-in-Blocks-clause-err
returns-in_err-verdict-in-Blocks-clause-err g c =
    let p = err_from_is_err_and c.from_residual-in_err-verdict-in-Blocks.result c.from_residual-in_err-verdict-in-Blocks.ensures.1 in
    stopped_replay c.from_residual-in_err-verdict-in-Blocks.result p.0 _ p.1 p.2 _ _ _ _ _ _ _ _ _
    (stops_after c.args.marks c.in_err-verdict-in-Blocks.field-0.0 _ _ _ _ _ _ _ _ _ c.read_front.ensures.later
    (c.in_err-verdict-in-Blocks.ensures.err (g.S.Source.left c.args.source.now) (begun_of _ _ _ _ _ _ (read_as _ _ c.in-Blocks.is _ _ _ _ c.in_ok-front.ensures.ok) c.new-feed.ensures.fed)))

pub returns-in-Blocks-clause-ok : goal.returns-in-Blocks-clause-ok
returns-in-Blocks-clause-ok g c = c.in_ok-verdict-in-Blocks.ensures.ok (g.S.Source.left c.args.source.now) (begun_of _ _ _ _ _ _ (read_as _ _ c.in-Blocks.is _ _ _ _ c.in_ok-front.ensures.ok) c.new-feed.ensures.fed)

pub returns-in_err-put_bad_trace-in-Bad-clause-err : goal.returns-in_err-put_bad_trace-in-Bad-clause-err
returns-in_err-put_bad_trace-in-Bad-clause-err g c =
    let p = err_from_is_err_and c.from_residual-in_err-put_bad_trace-in-Bad.result c.from_residual-in_err-put_bad_trace-in-Bad.ensures.1 in
    stopped_replay c.from_residual-in_err-put_bad_trace-in-Bad.result p.0 _ p.1 p.2 _ _ _ _ _ _ _ _ _
    (c.in_err-put_bad_trace-in-Bad.ensures.cause.failed, bad_part c.args.marks c.in-Bad.line _ _ _ _ (read_as _ _ c.in-Bad.is _ _ _ _ c.in_ok-front.ensures.ok) c.in_err-put_bad_trace-in-Bad.ensures.err)

pub returns-clause-ok : goal.returns-clause-ok
returns-clause-ok g c = bad_written c.args.marks c.in-Bad.line _ _ _ _ (read_as _ _ c.in-Bad.is _ _ _ _ c.in_ok-front.ensures.ok) c.in_ok-put_bad_trace-in-Bad.ensures.ok
