use Rattle.std.proofs.Common.{rules, ◌≡◌, ◌++◌, ◌∷◌, [], false, List, ap, ◌∙◌, subst}
use Rattle.std.specs.List.{AllByRecursion}
use Rattle.std.specs.Option.{option_copied}
use Rattle.lt_face.specs.Rows.{IsRow, first_from}
use Rattle.lt_face.specs.State.{Row}
use Rattle.lt_over.specs.Layers.{under}
use Rattle.lt_over.specs.Overlaid.{is_reached}
use Rattle.lt_over.proofs.Firsts.{first-overlaid}
use Rattle.lt_over.proofs.Runs.{run_ascends, run_each, edit_wide, front_ascends, front_each, front_front, run_under, first_under, run_alone}
use Rattle.lt_over.proofs.run.run_under.Goals as goal

pub before-requires-clause-rises : goal.before-requires-clause-rises
before-requires-clause-rises g c = run_ascends (g.B.RowReads.rows c.args.base.now) c.args.run.now c.requires.run c.width-width.ensures.is_set.rises

pub before-requires-clause-wide : goal.before-requires-clause-wide
before-requires-clause-wide g c =
    let w = g.B.RowReads.width_of c.args.base.now in
    let q = c.args.prefix.now ++ c.args.bound ∷ [] in
    edit_wide w c.args.run.now c.args.layer.now.gone q (option_copied c.row_near-gone.result) (c.row_near-gone.ensures ∙ ap (λ (rows : List Row). first_from rows q) c.gone.ensures.rows) c.requires.layer.gone.each
    (run_each (IsRow w) (g.B.RowReads.rows c.args.base.now) c.args.run.now c.requires.run c.width-width.ensures.is_set.each)

pub before-own-requires-clause-rises : goal.before-own-requires-clause-rises
before-own-requires-clause-rises g c =
    front_ascends c.args.run.now c.before-2.result.now c.before-2.ensures.front (run_ascends (g.B.RowReads.rows c.args.base.now) c.args.run.now c.requires.run c.width-width.ensures.is_set.rises)

pub before-own-requires-clause-wide : goal.before-own-requires-clause-wide
before-own-requires-clause-wide g c =
    let w = g.B.RowReads.width_of c.args.base.now in
    let q = c.args.prefix.now ++ c.args.bound ∷ [] in
    edit_wide w c.before-2.result.now c.args.layer.now.come q (option_copied c.row_near-come.result) (c.row_near-come.ensures ∙ ap (λ (rows : List Row). first_from rows q) c.come.ensures.rows) c.requires.layer.come.each
    (front_each (IsRow w) c.args.run.now c.before-2.result.now c.before-2.ensures.front (run_each (IsRow w) (g.B.RowReads.rows c.args.base.now) c.args.run.now c.requires.run c.width-width.ensures.is_set.each))

pub returns-then-not-is_empty-clause-first : goal.returns-then-not-is_empty-clause-first
returns-then-not-is_empty-clause-first g c =
    let q = c.args.prefix.now ++ c.args.bound ∷ [] in
    let layer = c.args.layer.now in
    let gone = c.row_near-gone.ensures ∙ ap (λ (rows : List Row). first_from rows q) c.gone.ensures.rows in
    let come = c.row_near-come.ensures ∙ ap (λ (rows : List Row). first_from rows q) c.come.ensures.rows in
    let front = c.before-own.result.now in
    first_under (g.B.RowReads.rows c.args.base.now) layer.gone layer.come c.args.run.now front q c.width-width.ensures.is_set.rises c.requires.layer.gone.rises c.requires.layer.come.rises c.requires.first c.requires.run
    (front_front c.args.run.now c.before-2.result.now front c.before-2.ensures.front c.before-own.ensures.front)
    (front_each (λ r. is_reached (first_from layer.gone q) r ≡ false) c.before-2.result.now front c.before-own.ensures.front (subst (λ o. AllByRecursion (λ r. is_reached o r ≡ false) c.before-2.result.now) gone c.before-2.ensures.off))
    (subst (λ o. AllByRecursion (λ r. is_reached o r ≡ false) front) come c.before-own.ensures.off)
    (search rules)

pub returns-then-not-is_empty-clause-run : goal.returns-then-not-is_empty-clause-run
returns-then-not-is_empty-clause-run g c =
    let q = c.args.prefix.now ++ c.args.bound ∷ [] in
    let layer = c.args.layer.now in
    let gone = c.row_near-gone.ensures ∙ ap (λ (rows : List Row). first_from rows q) c.gone.ensures.rows in
    let come = c.row_near-come.ensures ∙ ap (λ (rows : List Row). first_from rows q) c.come.ensures.rows in
    let front = c.before-own.result.now in
    run_under (g.B.RowReads.rows c.args.base.now) layer.gone layer.come c.args.run.now front q c.width-width.ensures.is_set.rises c.requires.layer.gone.rises c.requires.layer.come.rises c.requires.first c.requires.run
    (front_front c.args.run.now c.before-2.result.now front c.before-2.ensures.front c.before-own.ensures.front)
    (front_each (λ r. is_reached (first_from layer.gone q) r ≡ false) c.before-2.result.now front c.before-own.ensures.front (subst (λ o. AllByRecursion (λ r. is_reached o r ≡ false) c.before-2.result.now) gone c.before-2.ensures.off))
    (subst (λ o. AllByRecursion (λ r. is_reached o r ≡ false) front) come c.before-own.ensures.off)

pub returns-clause-first : goal.returns-clause-first
returns-clause-first g c =
    let q = c.args.prefix.now ++ c.args.bound ∷ [] in
    let layer = c.args.layer.now in
    let come = c.row_near-come.ensures ∙ ap (λ (rows : List Row). first_from rows q) c.come.ensures.rows in
    c.alone.ensures.first
    ∙ first-overlaid (g.B.RowReads.rows c.args.base.now) layer.gone layer.come q (option_copied c.row_near-come.result) (option_copied c.least_from.result) c.requires.layer.come.rises come
    (c.least_from.ensures q (c.first.ensures.value ∙ c.requires.first))

pub returns-clause-run : goal.returns-clause-run
returns-clause-run g c =
    let q = c.args.prefix.now ++ c.args.bound ∷ [] in
    run_alone (under (g.B.RowReads.rows c.args.base.now) c.args.layer.now) c.alone.result.now q c.alone.ensures.few (returns-clause-first g c)
