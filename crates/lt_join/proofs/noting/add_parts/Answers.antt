use Rattle.std.proofs.Common.{◌≡◌, ◌+◌, ◌<◌, length, take, refl, sym, ◌∙◌, arith}
use Rattle.std.proofs.lemmas.List.{append-nil}
use Rattle.lt_join.specs.Noted.{noted_gaps}
use Rattle.lt_join.proofs.NotedGaps.{first_at, gap_at_place, narrow_at, noted_at}
use Rattle.lt_join.proofs.PartsAtKey.{parts_more}
use Rattle.lt_join.proofs.noting.add_parts.Goals as goal

pub loop-at-init : goal.loop-at-init
loop-at-init c = record { gaps = sym (append-nil c.args.sense.now.gaps); hits = refl }

pub add_part-requires-clause-narrow : goal.add_part-requires-clause-narrow
add_part-requires-clause-narrow c =
    let gaps = c.args.gaps.now.items in
    let n : c.len-at-end.result ≡ length gaps = omega (arith, c.len-at-end.ensures) in
    let lt : c.loop-at.at < length gaps = omega (arith, n, c.loop-at-test.true) in
    let noted = noted_at c.args.indexes.now.items gaps c.loop-at.at c.index-gap.result.now c.requires.noted lt c.index-gap.ensures in
    narrow_at c.args.indexes.now.items c.index-gap.result.now.index c.index-index.result.now c.requires.noted.narrow noted.0 c.index-index.ensures

pub add_part-requires-clause-first : goal.add_part-requires-clause-first
add_part-requires-clause-first c =
    let gaps = c.args.gaps.now.items in
    let n : c.len-at-end.result ≡ length gaps = omega (arith, c.len-at-end.ensures) in
    let lt : c.loop-at.at < length gaps = omega (arith, n, c.loop-at-test.true) in
    first_at gaps c.loop-at.at c.index-gap.result.now c.requires.first lt c.index-gap.ensures

pub loop-at-preserved : goal.loop-at-preserved
loop-at-preserved c =
    let indexes = c.args.indexes.now.items in
    let gaps = c.args.gaps.now.items in
    let gap = c.index-gap.result.now in
    let index = c.index-index.result.now in
    let inv = c.loop-at.invariant in
    let n : c.len-at-end.result ≡ length gaps = omega (arith, c.len-at-end.ensures) in
    let lt : c.loop-at.at < length gaps = omega (arith, n, c.loop-at-test.true) in
    let noted = noted_at indexes gaps c.loop-at.at gap c.requires.noted lt c.index-gap.ensures in
    record {
      gaps = parts_more c.args.key c.args.sense.now.gaps c.loop-at.sense.gaps c.add_part.new.sense.gaps (noted_gaps indexes (take c.loop-at.at gaps)) (noted_gaps indexes (take (c.loop-at.at + 1) gaps))
          (record { relation = index.relation; columns = index.columns; prefix = gap.prefix; lo = gap.lo; hi = gap.hi }) inv.gaps c.in_ok-add_part.ensures.gaps (gap_at_place indexes gaps c.loop-at.at gap index c.requires.noted lt c.index-gap.ensures noted.0 c.index-index.ensures);
      hits = c.add_part.ensures.hits ∙ inv.hits;
    }
