use Rattle.std.proofs.Common.{◌++◌, List, ℕ, take, arith}
use Rattle.std.proofs.lemmas.List.{length-append, length-take}
use Rattle.std.proofs.KnownBytes.{Consumes-trans}
use Rattle.lt_runs.proofs.front.read_rest.Goals as goal

pub returns-then-read-taken-clause-err : goal.returns-then-read-taken-clause-err
returns-then-read-taken-clause-err g c =
    let before = c.reads.invariant in
    let more : List ℕ = take c.in_ok-read.read c.read.new.buf in (
      before.piece ++ more,
      Consumes-trans _ (g.S.Source.left c.reads.source) _ before.piece more before.consumed c.in_ok-read.ensures.bytes.0,
      omega (arith, before.counted, length-append before.piece more, length-take c.in_ok-read.read c.read.new.buf, c.in_ok-read.ensures.bound),
    )

pub reads-preserved : goal.reads-preserved
reads-preserved g c =
    let before = c.reads.invariant in
    let more : List ℕ = take c.in_ok-read.read c.read.new.buf in
    record {
      piece = before.piece ++ more;
      consumed = Consumes-trans _ (g.S.Source.left c.reads.source) _ before.piece more before.consumed c.in_ok-read.ensures.bytes.0;
      counted = omega (arith, before.counted, length-append before.piece more, length-take c.in_ok-read.read c.read.new.buf, c.in_ok-read.ensures.bound);
      within = omega arith;
      later = omega (arith, before.later, c.in_ok-read.ensures.cause.later);
    }
