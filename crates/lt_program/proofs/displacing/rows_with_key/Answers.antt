use Rattle.std.proofs.Common.{◌∙◌, ◌++◌, ◌∷◌, [], List, Option, length, length-append, sym, ap, subst, arith}
use Rattle.std.specs.Option.{option_copied}
use Rattle.lt_face.specs.State.{Row}
use Rattle.lt_program.proofs.KeyWalk.{IsWalkedTo, walk_start, walk_has, walk_fewer, walk_goes_on, walk_stops, walk_ends, none_there, set_wide}
use Rattle.lt_program.proofs.displacing.rows_with_key.Goals as goal

pub loop-next-init : goal.loop-next-init
loop-next-init g c = record {
  walk =
      walk_start c.args.keys c.args.row.now c.front.result (g.R.RowReads.rows c.args.rows.now) c.new-alike.result (option_copied c.row_at_least-next.result) c.width-width.ensures.is_set.rises c.new-alike.ensures c.front.ensures c.row_at_least-next.ensures;
  count = omega (arith, c.tick.ensures, ap length c.new-alike.ensures);
}

pub returns-then-not-has_key-clause-rows : goal.returns-then-not-has_key-clause-rows
returns-then-not-has_key-clause-rows g c =
    walk_stops c.args.keys c.args.row.now (g.R.RowReads.rows c.args.rows.now) c.loop-next.alike c.width-width.ensures.is_set.rises c.in-Some.found.now
    (subst (λ (o : Option Row). IsWalkedTo c.args.keys c.args.row.now (g.R.RowReads.rows c.args.rows.now) c.loop-next.alike o) (ap option_copied c.in-Some.is) c.loop-next.invariant.walk)
    (g.R.RowReads.width_of c.args.rows.now) (set_wide (g.R.RowReads.width_of c.args.rows.now) (g.R.RowReads.rows c.args.rows.now) c.width-width.ensures.is_set) c.requires.within (sym c.has_key.ensures ∙ c.if-not-has_key.true)

pub returns-in_err-push-clause-cost : goal.returns-in_err-push-clause-cost
returns-in_err-push-clause-cost g c =
    let fewer =
    walk_fewer c.args.keys c.args.row.now (g.R.RowReads.rows c.args.rows.now) c.loop-next.alike c.width-width.ensures.is_set.rises c.in-Some.found.now
    (subst (λ (o : Option Row). IsWalkedTo c.args.keys c.args.row.now (g.R.RowReads.rows c.args.rows.now) c.loop-next.alike o) (ap option_copied c.in-Some.is) c.loop-next.invariant.walk) (sym c.has_key.ensures ∙ c.if-not-has_key.false) in
    omega (arith, fewer, c.tick-in-Some.ensures, c.loop-next.invariant.count)

pub row_above-next-requires : goal.row_above-next-requires
row_above-next-requires g c =
    walk_has c.args.keys c.args.row.now (g.R.RowReads.rows c.args.rows.now) c.loop-next.alike c.width-width.ensures.is_set.rises c.in-Some.found.now
    (subst (λ (o : Option Row). IsWalkedTo c.args.keys c.args.row.now (g.R.RowReads.rows c.args.rows.now) c.loop-next.alike o) (ap option_copied c.in-Some.is) c.loop-next.invariant.walk)

pub loop-next-smaller : goal.loop-next-smaller
loop-next-smaller g c =
    let fewer =
    walk_fewer c.args.keys c.args.row.now (g.R.RowReads.rows c.args.rows.now) c.loop-next.alike c.width-width.ensures.is_set.rises c.in-Some.found.now
    (subst (λ (o : Option Row). IsWalkedTo c.args.keys c.args.row.now (g.R.RowReads.rows c.args.rows.now) c.loop-next.alike o) (ap option_copied c.in-Some.is) c.loop-next.invariant.walk) (sym c.has_key.ensures ∙ c.if-not-has_key.false) in
    let longer = ap length c.in_ok-push.ensures.ok ∙ length-append c.loop-next.alike (c.copy_row.result ∷ []) in omega (arith, fewer, longer)

pub loop-next-preserved : goal.loop-next-preserved
loop-next-preserved g c =
    let longer = ap length c.in_ok-push.ensures.ok ∙ length-append c.loop-next.alike (c.copy_row.result ∷ []) in
    record {
      walk =
          subst (λ (rs : List Row). IsWalkedTo c.args.keys c.args.row.now (g.R.RowReads.rows c.args.rows.now) rs (option_copied c.row_above-next.result)) (sym (c.in_ok-push.ensures.ok ∙ ap (λ (r : Row). c.loop-next.alike ++ r ∷ []) c.copy_row.ensures))
          (walk_goes_on c.args.keys c.args.row.now (g.R.RowReads.rows c.args.rows.now) c.loop-next.alike c.width-width.ensures.is_set.rises c.in-Some.found.now
          (subst (λ (o : Option Row). IsWalkedTo c.args.keys c.args.row.now (g.R.RowReads.rows c.args.rows.now) c.loop-next.alike o) (ap option_copied c.in-Some.is) c.loop-next.invariant.walk)
          (option_copied c.row_above-next.result) (sym c.has_key.ensures ∙ c.if-not-has_key.false) c.row_above-next.ensures);
      count = omega (arith, longer, c.tick-in-Some.ensures, c.loop-next.invariant.count);
    }

pub returns-clause-rows : goal.returns-clause-rows
returns-clause-rows g c =
    walk_ends c.args.keys c.args.row.now (g.R.RowReads.rows c.args.rows.now) c.loop-next.alike c.width-width.ensures.is_set.rises
    (subst (λ (o : Option Row). IsWalkedTo c.args.keys c.args.row.now (g.R.RowReads.rows c.args.rows.now) c.loop-next.alike o) (none_there c.loop-next.next c.in_default.not-Some) c.loop-next.invariant.walk)
