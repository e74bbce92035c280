use Rattle.std.proofs.Common.{◌+◌, ◌++◌, ◌∷◌, ◌∙◌, ℕ, List, drop, ap, sym, subst, arith}
use Rattle.lt_blocks.specs.Lines.{Lacks}
use Rattle.lt_blocks.proofs.Cuts.{cut_nowhere, cut_place}
use Rattle.lt_blocks.proofs.words.split_word.Goals as goal

pub returns-then-not-within-clause-none : goal.returns-then-not-within-clause-none
returns-then-not-within-clause-none c = cut_nowhere 32 c.args.line.now c.word_len-len.result c.word_len-len.ensures.len (omega (arith, c.if-not-within.true))

pub returns-clause-some : goal.returns-clause-some
returns-clause-some c =
    let line : List ℕ = c.args.line.now in
    let k : ℕ = c.word_len-len.result in
    let cut = cut_place 32 line k c.word_len-len.ensures.len c.if-not-within.false in (
      cut.0 ∙ ap (λ (l : List ℕ). l ++ (32 ∷ drop (k + 1) line)) (sym c.split_at.ensures.front) ∙ ap (λ (l : List ℕ). c.split_at.result.0.now ++ (32 ∷ l)) (sym c.split_at-2.ensures.back),
      subst (Lacks 32) (sym c.split_at.ensures.front) cut.1,
    )
