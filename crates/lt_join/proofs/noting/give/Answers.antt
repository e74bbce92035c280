use Rattle.std.proofs.Common.{◌≡◌, ◌+◌, ◌<◌, ◌++◌, ◌∷◌, [], List, ℕ, length, take, ap, ◌∙◌, sym, arith}
use Rattle.lt_join.specs.Noted.{noted_gaps}
use Rattle.lt_join.proofs.NotedGaps.{added_more, first_at, gap_at_place, noted_at}
use Rattle.lt_join.proofs.noting.give.Goals as goal

pub loop-at-preserved : goal.loop-at-preserved
loop-at-preserved c =
    let indexes = c.args.indexes.now.items in
    let gaps = c.args.gaps.now.items in
    let gap = c.index-gap.result.now in
    let index = c.index-index.result.now in
    let now = c.loop-at.sense.root.gaps in
    let inv = c.loop-at.invariant in
    let n : c.len-at-end.result ≡ length gaps = omega (arith, c.len-at-end.ensures) in
    let lt : c.loop-at.at < length gaps = omega (arith, n, c.loop-at-test.true) in
    let noted = noted_at indexes gaps c.loop-at.at gap c.requires.noted lt c.index-gap.ensures in
    let none : gap.prefix ≡ [] = first_at gaps c.loop-at.at gap c.requires.first lt c.index-gap.ensures in
    let pushed : c.add_root.new.self.root.gaps ≡ now ++ record { relation = index.relation; columns = index.columns; prefix = gap.prefix; lo = gap.lo; hi = gap.hi } ∷ [] =
    c.in_ok-add_root.ensures.kept noted.1 ∙ ap (λ (prefix : List ℕ). now ++ record { relation = index.relation; columns = index.columns; prefix = prefix; lo = gap.lo; hi = gap.hi } ∷ []) (sym none) in
    record {
      gaps = added_more c.args.sense.now.root.gaps (noted_gaps indexes (take c.loop-at.at gaps)) now c.add_root.new.self.root.gaps (noted_gaps indexes (take (c.loop-at.at + 1) gaps))
          (record { relation = index.relation; columns = index.columns; prefix = gap.prefix; lo = gap.lo; hi = gap.hi }) inv.gaps pushed (gap_at_place indexes gaps c.loop-at.at gap index c.requires.noted lt c.index-gap.ensures noted.0 c.index-index.ensures);
      hits = c.add_root.ensures.hits ∙ inv.hits;
      slices = c.add_root.ensures.slices ∙ inv.slices;
    }
