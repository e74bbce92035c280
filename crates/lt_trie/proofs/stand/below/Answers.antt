use Rattle.std.proofs.Common.{sym, ◌∙◌, inl, inr}
use Rattle.lt_trie.proofs.Below.{stand_below}
use Rattle.lt_trie.proofs.stand.below.Goals as goal
use Rattle.lt_trie.proofs.stand.below.Goals.{then-stand, else-stand}

pub returns : goal.returns
returns g c =
    stand_below _ (g.R.RowReads.rows c.args.rows.now) c.args.prefix.now c.args.key c.args.stand.now.run.now c.args.stand.now.end c.args.stand.now.is_whole _ c.width.ensures.is_set c.requires.deep c.requires.stand c.requires.known
    (λ e. elim c.if-stand.branch [ then-stand w ↦ inl w.if-stand.true | else-stand w ↦ inr (sym w.result-is ∙ e) ])
