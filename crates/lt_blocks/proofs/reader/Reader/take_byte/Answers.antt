use Rattle.std.proofs.Common.{◌++◌, ◌∷◌, [], ℕ, List, sym, subst, arith}
use Rattle.lt_blocks.specs.Reading.{HasRead, IsInside}
use Rattle.lt_blocks.proofs.Inside.{as_reading, inside, next_byte}
use Rattle.lt_blocks.proofs.reader.Reader.take_byte.Goals as goal

pub returns-then-byte-eq10-clause-read : goal.returns-then-byte-eq10-clause-read
returns-then-byte-eq10-clause-read c = λ bytes read.
    subst (λ (b : ℕ). HasRead c.end_line.new.self (bytes ++ b ∷ [])) (sym c.if-byte-eq10.true) (c.in_ok-end_line.ensures.read bytes read)

pub returns-clause-read : goal.returns-clause-read
returns-clause-read c = λ bytes read.
    let r = c.args.self.now in
    as_reading _ (bytes ++ c.args.byte ∷ []) c.requires.stage
    (subst (λ (l : List ℕ). IsInside r.blocks.items r.header r.entries.items r.missing l r.number (bytes ++ c.args.byte ∷ [])) (sym c.in_ok-push.ensures.items)
    (next_byte r.blocks.items r.header r.entries.items r.missing r.line.items r.number bytes (inside r bytes c.requires.stage read) c.args.byte (λ e. absurd (omega (arith, e, c.if-byte-eq10.false)))))
