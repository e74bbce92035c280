use Rattle.std.proofs.Common.{◌≡◌, ◌∙◌, true, []}
use Rattle.lt_query.specs.declared.plans.Guide.{Guide}
use Rattle.lt_join.specs.Walked.{at}
use Rattle.lt_join.proofs.Repair.{All_at}
use Rattle.lt_join.proofs.Roots.{TrieOf-root}
use Rattle.lt_join.proofs.way.Way.iter.Goals as goal

pub unwrap-rows-requires : goal.unwrap-rows-requires
unwrap-rows-requires g c =
    c.index.ensures.there ∙ All_at (λ (guide : Guide). g.I.Indexes.has_index c.self.inside.tables.now guide.relation guide.columns ≡ true) c.self.inside.plan.now.guides c.args.guide.now c.self.invariant.1 (rw (← c.self.view_is) at c.requires)

pub new-requires : goal.new-requires
new-requires g c = let found = rw c.unwrap-rows.ensures at c.index.ensures.rows in found.wide

pub returns : goal.returns
returns g c =
    rw (← c.self.view_is) (
      c.new.ensures.guide,
      TrieOf-root (g.I.Indexes.state c.self.inside.tables.now) (at []) c.args.guide.now c.new.result.trie
          (let found = rw c.unwrap-rows.ensures at c.index.ensures.rows in rw (c.new.ensures.rows, c.new.ensures.width) found) c.new.ensures.is_set c.new.ensures.narrow c.new.ensures.level,
    )
