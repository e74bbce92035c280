use Rattle.std.proofs.Common.{◌≡◌, ◌≤◌, ◌+◌, ◌++◌, ◌∙◌, List, Vec, Global, ℕ, drop, length, sym, subst, take, arith}
use Rattle.std.proofs.lemmas.List.{length-append, length-take}
use Rattle.std.proofs.lemmas.Result.{err_from_is_err_and}
use Rattle.std.proofs.KnownBytes.{Consumes-trans}
use Rattle.lt_blocks.specs.declared.block.Block.{Block}
use Rattle.lt_blocks.specs.Blocks.{IsTrace}
use Rattle.lt_blocks.specs.Reading.{HasRead}
use Rattle.lt_script.specs.declared.feed.Feed.{Feed}
use Rattle.lt_script.specs.Feed.{HasFed}
use Rattle.lt_runs.proofs.Feeding.{refused}
use Rattle.lt_runs.proofs.FrontRead.{all_read, bad_read, passed_behind, range_is, trace_read}
use Rattle.lt_runs.proofs.front.read_front.Goals as goal

pub returns-then-read-count-clause-err : goal.returns-then-read-count-clause-err
returns-then-read-count-clause-err g c =
    let before = c.reads.invariant in
    let more : List ℕ = take c.in_ok-read.read c.read.new.buf in (
      before.piece ++ more,
      Consumes-trans _ (g.S.Source.left c.reads.source) _ before.piece more before.consumed c.in_ok-read.ensures.bytes.0,
      omega (arith, before.counted, length-append before.piece more, length-take c.in_ok-read.read c.read.new.buf, c.in_ok-read.ensures.bound),
    )

pub returns-in_err-used-clause-err : goal.returns-in_err-used-clause-err
returns-in_err-used-clause-err g c =
    let before = c.reads.invariant in
    let more : List ℕ = take c.in_ok-read.read c.read.new.buf in
    let p = err_from_is_err_and c.from_residual-in_err-used.result c.from_residual-in_err-used.ensures.1 in
    refused c.from_residual-in_err-used.result p.0 0 _ _ _ _ p.1 p.2 (
      before.piece ++ more,
      Consumes-trans _ (g.S.Source.left c.reads.source) _ before.piece more before.consumed c.in_ok-read.ensures.bytes.0,
      omega (arith, before.counted, length-append before.piece more, length-take c.in_ok-read.read c.read.new.buf, c.in_ok-read.ensures.bound),
    )

pub returns-in_err-push-in-Script-clause-err : goal.returns-in_err-push-in-Script-clause-err
returns-in_err-push-in-Script-clause-err g c =
    let before = c.reads.invariant in
    let more : List ℕ = take c.in_ok-read.read c.read.new.buf in
    let p = err_from_is_err_and c.from_residual-in_err-push-in-Script.result c.from_residual-in_err-push-in-Script.ensures.1 in
    refused c.from_residual-in_err-push-in-Script.result p.0 0 _ _ _ _ p.1 p.2 (
      before.piece ++ more,
      Consumes-trans _ (g.S.Source.left c.reads.source) _ before.piece more before.consumed c.in_ok-read.ensures.bytes.0,
      omega (arith, before.counted, length-append before.piece more, length-take c.in_ok-read.read c.read.new.buf, c.in_ok-read.ensures.bound),
    )

pub returns-in-Script-clause-ok : goal.returns-in-Script-clause-ok
returns-in-Script-clause-ok g c =
    let before = c.reads.invariant in
    let more : List ℕ = take c.in_ok-read.read c.read.new.buf in
    let bound : c.in_ok-read.read ≤ length c.read.new.buf = omega (arith, c.in_ok-read.ensures.bound) in
    record {
      bytes = before.piece ++ more;
      script = drop c.in_ok-used.used more;
      consumed = Consumes-trans _ (g.S.Source.left c.reads.source) _ before.piece more before.consumed c.in_ok-read.ensures.bytes.0;
      counted = omega (arith, before.counted, length-append before.piece more, length-take c.in_ok-read.read c.read.new.buf, c.in_ok-read.ensures.bound);
      within = omega arith;
      trace = subst (λ (blocks : Vec Block Global). IsTrace (before.piece ++ more) blocks.items (drop c.in_ok-used.used more)) (sym c.into_blocks-blocks.ensures)
          (trace_read c.push.new.self before.piece more c.in_ok-used.used (sym c.stage.ensures ∙ c.in-Script.is) (c.in_ok-used.ensures.read before.piece before.read));
      fed = λ bytes items h. subst (λ (bs : List ℕ). HasFed c.push-in-Script.new.self (bytes ++ bs) items) (range_is c.read.new.buf c.in_ok-read.read c.in_ok-used.used c.in_ok-used.ensures.within bound)
          (c.in_ok-push-in-Script.ensures.fed bytes items (subst (λ (f : Feed). HasFed f bytes items) (sym before.feed) h));
      open_still = c.in_ok-push-in-Script.ensures.open;
    }

pub returns-in_err-read_rest-in-Bad-clause-err : goal.returns-in_err-read_rest-in-Bad-clause-err
returns-in_err-read_rest-in-Bad-clause-err g c =
    let before = c.reads.invariant in
    let more : List ℕ = take c.in_ok-read.read c.read.new.buf in
    let r = c.from_residual-in_err-read_rest-in-Bad in
    let p = err_from_is_err_and r.result r.ensures.1 in
    passed_behind r.result p.0 c.in_err-read_rest-in-Bad.field-0.0 _ _ (g.S.Source.left c.read.new.self) _ _ (g.S.Source.faults c.read.new.self) _ (before.piece ++ more) p.1 p.2
    (Consumes-trans _ (g.S.Source.left c.reads.source) _ before.piece more before.consumed c.in_ok-read.ensures.bytes.0)
    (omega (arith, before.counted, length-append before.piece more, length-take c.in_ok-read.read c.read.new.buf, c.in_ok-read.ensures.bound))
    (omega (arith, before.later, c.in_ok-read.ensures.cause.later))
    c.in_err-read_rest-in-Bad.ensures.err

pub returns-in-Bad-clause-ok : goal.returns-in-Bad-clause-ok
returns-in-Bad-clause-ok g c =
    let before = c.reads.invariant in
    let more : List ℕ = take c.in_ok-read.read c.read.new.buf in
    let count : c.in_ok-read.read + c.reads.count ≡ length (before.piece ++ more) = omega (arith, before.counted, length-append before.piece more, length-take c.in_ok-read.read c.read.new.buf, c.in_ok-read.ensures.bound) in
    bad_read c.bad_line-line-in-Bad.result _ _ (g.S.Source.left c.read.new.self) _ before.piece more c.in_ok-used.used
    (Consumes-trans _ (g.S.Source.left c.reads.source) _ before.piece more before.consumed c.in_ok-read.ensures.bytes.0)
    (omega (arith, count))
    (λ bytes behind is. c.bad_line-line-in-Bad.ensures.bad (sym c.stage.ensures ∙ c.in-Bad.is) bytes behind (subst (HasRead c.push.new.self) (sym is) (c.in_ok-used.ensures.read before.piece before.read)))
    c.in_ok-read_rest-in-Bad.ensures.ok

pub reads-preserved : goal.reads-preserved
reads-preserved g c =
    let before = c.reads.invariant in
    let more : List ℕ = take c.in_ok-read.read c.read.new.buf in
    let reading = sym c.stage.ensures ∙ c.in-Reading.is in
    record {
      piece = before.piece ++ more;
      consumed = Consumes-trans _ (g.S.Source.left c.reads.source) _ before.piece more before.consumed c.in_ok-read.ensures.bytes.0;
      counted = omega (arith, before.counted, length-append before.piece more, length-take c.in_ok-read.read c.read.new.buf, c.in_ok-read.ensures.bound);
      within = omega arith;
      stage = reading;
      read = all_read c.push.new.self before.piece more c.in_ok-used.used (c.in_ok-used.ensures.all reading) (c.in_ok-used.ensures.read before.piece before.read);
      number = omega (arith, before.number, c.in_ok-used.ensures.number, length-take c.in_ok-read.read c.read.new.buf, c.in_ok-read.ensures.bound);
      feed = before.feed;
      later = omega (arith, before.later, c.in_ok-read.ensures.cause.later);
    }
