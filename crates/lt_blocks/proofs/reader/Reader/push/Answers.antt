use Rattle.std.proofs.Common.{◌+◌, ◌++◌, ℕ, List, take, subst, arith}
use Rattle.lt_blocks.specs.Reading.{HasRead}
use Rattle.lt_blocks.proofs.Inside.{again, one_more}
use Rattle.lt_blocks.proofs.reader.Reader.push.Goals as goal

pub returns-then-not-more-clause-read : goal.returns-then-not-more-clause-read
returns-then-not-more-clause-read c = λ bytes read.
    let piece : List ℕ = c.args.piece.now in
    again c.take_byte.new.self.stage c.take_byte.new.self (bytes ++ take (c.bytes.i + 1) piece)
    (subst (λ (bs : List ℕ). HasRead c.take_byte.new.self bs) (one_more bytes piece c.bytes.i c.bytes-test.true) (c.in_ok-take_byte.ensures.read (bytes ++ take c.bytes.i piece) (c.bytes.invariant.read bytes read)))

pub bytes-preserved : goal.bytes-preserved
bytes-preserved c =
    let piece : List ℕ = c.args.piece.now in
    record {
      stage = c.is_reading-more.ensures.0 c.if-not-more.false;
      number = omega (arith, c.bytes.invariant.number, c.in_ok-take_byte.ensures.number);
      read = λ bytes read. subst (λ (bs : List ℕ). HasRead c.take_byte.new.self bs) (one_more bytes piece c.bytes.i c.bytes-test.true) (c.in_ok-take_byte.ensures.read (bytes ++ take c.bytes.i piece) (c.bytes.invariant.read bytes read));
    }
