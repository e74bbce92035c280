use Rattle.std.proofs.Common.{◌<◌, ◌++◌, ◌∷◌, [], length, take, sym, ◌∙◌, subst, arith}
use mathlib.Core.Bool.{true≢false}
use Rattle.lt_face.specs.Rows.{row_cmp}
use Rattle.lt_shared.specs.Entries.{joined, AreAllBelow}
use Rattle.lt_shared.proofs.Joins.{first-wide, place-low, lt_not_gt, behind-next}
use Rattle.lt_shared.proofs.level.is_behind.Goals as goal

pub is_below-requires : goal.is_below-requires
is_below-requires g c =
    first-wide (λ row. length c.args.prefix.now < length row) (joined g.T.Entry.rows) c.args.entries.now c.args.at c.index-entries-at.result c.first_row.result.now c.requires.wide c.requires.within c.index-entries-at.is c.first_row.ensures

pub returns-then-at-eq0-clause-below : goal.returns-then-at-eq0-clause-below
returns-then-at-eq0-clause-below g c _ =
    subst (λ n. AreAllBelow (c.args.prefix.now ++ c.args.bound ∷ []) (joined (joined g.T.Entry.rows) (take n c.args.entries.now))) (sym c.if-at-eq0.true) tt

pub returns-then-at-eq0-clause-above : goal.returns-then-at-eq0-clause-above
returns-then-at-eq0-clause-above g c never = absurd (true≢false never)

pub returns-clause-below : goal.returns-clause-below
returns-clause-below g c below =
    let q = c.args.prefix.now ++ c.args.bound ∷ [] in
    place-low (joined g.T.Entry.rows) c.args.entries.now c.args.at c.index-entries-at.result c.first_row.result.now q c.requires.rises c.requires.within c.index-entries-at.is c.first_row.ensures
    (lt_not_gt (row_cmp c.first_row.result.now q) (sym c.is_below.ensures ∙ below))

pub returns-clause-above : goal.returns-clause-above
returns-clause-above g c not_below =
    let q = c.args.prefix.now ++ c.args.bound ∷ [] in (
      omega (arith, c.if-at-eq0.false),
      behind-next (joined g.T.Entry.rows) c.args.entries.now q c.first_row.result.now c.args.at c.index-entries-at.result c.requires.rises c.requires.within c.index-entries-at.is c.first_row.ensures
          (sym c.is_below.ensures ∙ not_below),
    )
