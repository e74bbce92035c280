use Rattle.std.proofs.Common.{◌++◌, List, ℕ, take, arith}
use Rattle.std.proofs.lemmas.List.{length-append, length-take}
use Rattle.std.proofs.lemmas.Result.{err_from_is_err_and}
use Rattle.std.proofs.KnownBytes.{Consumes-trans}
use Rattle.lt_runs.proofs.Feeding.{fed_more, refused}
use Rattle.lt_runs.proofs.input.read_on.Goals as goal

pub returns-then-read-taken-clause-err : goal.returns-then-read-taken-clause-err
returns-then-read-taken-clause-err g c =
    let before = c.reads.invariant in
    let more : List ℕ = take c.in_ok-read.read c.read.new.buf in (
      before.piece ++ more,
      Consumes-trans _ (g.S.Source.left c.reads.source) _ before.piece more before.consumed c.in_ok-read.ensures.bytes.0,
      omega (arith, before.counted, length-append before.piece more, length-take c.in_ok-read.read c.read.new.buf, c.in_ok-read.ensures.bound),
    )

pub returns-in_err-push-clause-err : goal.returns-in_err-push-clause-err
returns-in_err-push-clause-err g c =
    let before = c.reads.invariant in
    let more : List ℕ = take c.in_ok-read.read c.read.new.buf in
    let p = err_from_is_err_and c.from_residual-in_err-push.result c.from_residual-in_err-push.ensures.1 in
    refused c.from_residual-in_err-push.result p.0 c.args.count _ _ _ _ p.1 p.2 (
      before.piece ++ more,
      Consumes-trans _ (g.S.Source.left c.reads.source) _ before.piece more before.consumed c.in_ok-read.ensures.bytes.0,
      omega (arith, before.counted, length-append before.piece more, length-take c.in_ok-read.read c.read.new.buf, c.in_ok-read.ensures.bound),
    )

pub returns-then-asks-clause-ok : goal.returns-then-asks-clause-ok
returns-then-asks-clause-ok g c =
    let before = c.reads.invariant in
    let more : List ℕ = take c.in_ok-read.read c.read.new.buf in
    record {
      piece = before.piece ++ more;
      consumed = Consumes-trans _ (g.S.Source.left c.reads.source) _ before.piece more before.consumed c.in_ok-read.ensures.bytes.0;
      counted = omega (arith, before.counted, length-append before.piece more, length-take c.in_ok-read.read c.read.new.buf, c.in_ok-read.ensures.bound);
      within = omega arith;
      fed = fed_more c.args.feed.now c.reads.feed c.push.new.self before.piece more before.fed c.in_ok-push.ensures.fed;
      ended = c.in_ok-push.ensures.open;
      end = λ e. absurd cc;
      some = λ e. omega (arith, before.counted);
    }

pub reads-preserved : goal.reads-preserved
reads-preserved g c =
    let before = c.reads.invariant in
    let more : List ℕ = take c.in_ok-read.read c.read.new.buf in
    record {
      piece = before.piece ++ more;
      consumed = Consumes-trans _ (g.S.Source.left c.reads.source) _ before.piece more before.consumed c.in_ok-read.ensures.bytes.0;
      counted = omega (arith, before.counted, length-append before.piece more, length-take c.in_ok-read.read c.read.new.buf, c.in_ok-read.ensures.bound);
      within = omega arith;
      fed = fed_more c.args.feed.now c.reads.feed c.push.new.self before.piece more before.fed c.in_ok-push.ensures.fed;
      open_still = c.in_ok-push.ensures.open;
      later = omega (arith, before.later, c.in_ok-read.ensures.cause.later);
    }
