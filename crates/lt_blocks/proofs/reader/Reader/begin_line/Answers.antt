use Rattle.std.proofs.Common.{◌≡◌, ◌++◌, ◌∷◌, [], ◌∙◌, ℕ, List, ap, arith}
use Rattle.lt_blocks.specs.declared.block.Block.{Block}
use Rattle.lt_batch.specs.declared.replaying.Written.{Written}
use Rattle.lt_blocks.proofs.Inside.{as_reading, stored}
use Rattle.lt_blocks.proofs.reader.Reader.begin_line.Goals as goal

pub returns-clause-read : goal.returns-clause-read
returns-clause-read c = λ bytes more.
    let r = c.args.self.now in
    let none : r.missing ≡ 0 = omega (arith, c.if-self-gt0.false) in
    let same : c.replace-entries.result.items ≡ r.entries.items = ap (λ v. v.items) c.replace-entries.ensures.value in
    let left : c.replace-entries.new.dest.items ≡ [] = ap (λ v. v.items) c.replace-entries.ensures.after ∙ c.new.ensures.items in
    as_reading _ bytes more.0 (stored r.blocks.items c.push.new.self.items r.header r.entries.items c.replace-entries.new.dest.items r.missing c.clear.new.self.items r.number bytes more.1 none
    (c.in_ok-push.ensures.items
    ∙ ap (λ (n : ℕ). let b : Block = record { number = n; programs = r.header.programs; entries = c.from_vec.result } in r.blocks.items ++ b ∷ []) c.from.ensures
    ∙ ap (λ (es : List Written). let b : Block = record { number = r.header.batch; programs = r.header.programs; entries = es } in r.blocks.items ++ b ∷ []) (c.from_vec.ensures ∙ same))
    left c.clear.ensures.items)
