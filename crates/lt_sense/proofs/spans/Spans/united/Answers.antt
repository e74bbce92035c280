use Rattle.std.proofs.Common.{◌≡◌, length, subst, sym, arith}
use Rattle.std.specs.List.{AllByRecursion}
use Rattle.std.proofs.lemmas.Cmp.{on_total}
use Rattle.lt_face.proofs.RowLemmas.{rows_total}
use Rattle.lt_sense.specs.Sense.{gap_covers}
use Rattle.lt_sense.specs.Apart.{first_of, range_cmp, still_in, stills_in, IsApart, IsKeptSpan}
use Rattle.lt_sense.proofs.Joined.{IsUniting, unite_begun, unite_next, unite_done, sorted_up}
use Rattle.lt_sense.proofs.Lies.{length_map}
use Rattle.lt_sense.proofs.Sorted.{image_at}
use Rattle.lt_sense.proofs.United.{kept_at}
use Rattle.lt_sense.proofs.spans.Spans.united.Goals as goal

pub loop-at-init : goal.loop-at-init
loop-at-init c =
    let s = c.args.self.now in
    record {
      kept = subst (AllByRecursion (IsKeptSpan s)) (sym c.new-out.ensures.items) tt;
      uniting = subst (λ o. IsUniting range_cmp IsApart gap_covers (stills_in s c.args.all.now) (stills_in s o) 0) (sym c.new-out.ensures.items) (unite_begun range_cmp IsApart gap_covers _);
    }

pub put-requires-clause-next : goal.put-requires-clause-next
put-requires-clause-next c = kept_at (IsKeptSpan c.args.self.now) c.args.all.now c.loop-at.at c.span_at-next.result c.requires.kept c.span_at-next.ensures

pub put-requires-clause-up_to : goal.put-requires-clause-up_to
put-requires-clause-up_to c = c.loop-at.invariant.uniting.below c.loop-at.at _ (image_at (still_in c.args.self.now) c.args.all.now c.loop-at.at c.span_at-next.result c.span_at-next.ensures) (omega arith)

pub loop-at-preserved : goal.loop-at-preserved
loop-at-preserved c =
    let entry = still_in c.args.self.now in
    let all = c.args.all.now in
    let next = c.span_at-next.result in
    record {
      kept = c.in_ok-put.ensures.kept;
      uniting = unite_next range_cmp IsApart gap_covers (stills_in c.args.self.now all) _ _ c.loop-at.at (entry next) (image_at entry all c.loop-at.at next c.span_at-next.ensures)
          (sorted_up range_cmp (on_total first_of rows_total) entry all c.loop-at.at next c.requires.sorted c.span_at-next.ensures) c.loop-at.invariant.uniting c.in_ok-put.ensures.put;
    }

pub returns-clause-same : goal.returns-clause-same
returns-clause-same c =
    let s = c.args.self.now in
    let all = c.args.all.now in
    let e : c.loop-at.at ≡ length (stills_in s all) = (let f = length_map (still_in s) all in omega (arith, f, c.loop-at-test.false, c.loop-at.auto.at-end)) in
    unite_done range_cmp IsApart gap_covers (stills_in s all) (stills_in s c.loop-at.out.items) c.loop-at.at e c.loop-at.invariant.uniting
