use Rattle.std.proofs.Common.{◌≡◌, ◌+◌, ◌<◌, ◌++◌, ◌∷◌, [], List, ℕ, length, take, ap, ◌∙◌, arith}
use Rattle.lt_join.specs.Noted.{noted_gaps}
use Rattle.lt_join.proofs.NotedGaps.{added_more, gap_at_place, narrow_at, noted_at}
use Rattle.lt_join.proofs.noting.note_all.Goals as goal

pub note-requires-clause-narrow : goal.note-requires-clause-narrow
note-requires-clause-narrow c =
    let gaps = c.args.other_gaps.now.items in
    let n : c.len-at-end.result ≡ length gaps = omega (arith, c.len-at-end.ensures) in
    let lt : c.loop-at.at < length gaps = omega (arith, n, c.loop-at-test.true) in
    let noted = noted_at c.args.other_indexes.now.items gaps c.loop-at.at c.index-gap.result.now c.requires.others lt c.index-gap.ensures in
    narrow_at c.args.other_indexes.now.items c.index-gap.result.now.index c.index-index.result.now c.requires.others.narrow noted.0 c.index-index.ensures

pub note-requires-clause-some : goal.note-requires-clause-some
note-requires-clause-some c =
    let gaps = c.args.other_gaps.now.items in
    let n : c.len-at-end.result ≡ length gaps = omega (arith, c.len-at-end.ensures) in
    let lt : c.loop-at.at < length gaps = omega (arith, n, c.loop-at-test.true) in
    (noted_at c.args.other_indexes.now.items gaps c.loop-at.at c.index-gap.result.now c.requires.others lt c.index-gap.ensures).1

pub loop-at-preserved : goal.loop-at-preserved
loop-at-preserved c =
    let indexes = c.args.other_indexes.now.items in
    let gaps = c.args.other_gaps.now.items in
    let gap = c.index-gap.result.now in
    let index = c.index-index.result.now in
    let now = noted_gaps c.loop-at.indexes.items c.loop-at.gaps.items in
    let n : c.len-at-end.result ≡ length gaps = omega (arith, c.len-at-end.ensures) in
    let lt : c.loop-at.at < length gaps = omega (arith, n, c.loop-at-test.true) in
    let noted = noted_at indexes gaps c.loop-at.at gap c.requires.others lt c.index-gap.ensures in
    let pushed : noted_gaps c.note.new.indexes.items c.note.new.gaps.items ≡ now ++ record { relation = index.relation; columns = index.columns; prefix = gap.prefix; lo = gap.lo; hi = gap.hi } ∷ [] =
    c.in_ok-note.ensures.kept ∙ ap (λ (prefix : List ℕ). now ++ record { relation = index.relation; columns = index.columns; prefix = prefix; lo = gap.lo; hi = gap.hi } ∷ []) c.as_slice.ensures in
    record {
      noted = c.note.ensures.noted;
      kept = added_more (noted_gaps c.args.indexes.now.items c.args.gaps.now.items) (noted_gaps indexes (take c.loop-at.at gaps)) now (noted_gaps c.note.new.indexes.items c.note.new.gaps.items) (noted_gaps indexes (take (c.loop-at.at + 1) gaps))
          (record { relation = index.relation; columns = index.columns; prefix = gap.prefix; lo = gap.lo; hi = gap.hi }) c.loop-at.invariant.kept pushed (gap_at_place indexes gaps c.loop-at.at gap index c.requires.others lt c.index-gap.ensures noted.0 c.index-index.ensures);
    }
