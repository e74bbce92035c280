use Rattle.std.proofs.Common.{◌≡◌, ◌+◌, ◌-◌, ◌<◌, length, slice_get, drop, sym, ap, ◌∙◌, arith}
use Rattle.std.specs.Option.{option_copied}
use Rattle.lt_face.proofs.Walked.{is_there, steps, first_dropped, dropped_more}
use Rattle.lt_face.proofs.walk.RowWalk.next_row.Goals as goal

pub row_behind-self-inside-requires : goal.row_behind-self-inside-requires
row_behind-self-inside-requires g c =
    let rows = g.R.RowReads.rows c.self.inside.rows.now in
    is_there rows (length rows - c.self.inside.left) c.self.inside.next c.self.invariant.1

pub invariant_of-self : goal.invariant_of-self
invariant_of-self g c =
    let rows = g.R.RowReads.rows c.self.inside.rows.now in
    let k = length rows - c.self.inside.left in
    let within : k < length rows = omega (arith, c.self.invariant.0, c.if-self-eq0.false) in
    let one : k + 1 ≡ length rows - (c.self.inside.left - 1) = omega (arith, c.self.invariant.0, c.if-self-eq0.false) in (
      omega (arith, c.self.invariant.0),
      steps rows k (option_copied c.self.inside.next) (option_copied c.row_behind-self-inside.result) c.width-width.ensures.is_set.rises within c.self.invariant.1 c.row_behind-self-inside.ensures
          ∙ ap (λ n. slice_get rows n) one,
    )

pub returns-clause-row : goal.returns-clause-row
returns-clause-row g c =
    let rows = g.R.RowReads.rows c.self.inside.rows.now in
    c.self.invariant.1 ∙ sym (first_dropped (length rows - c.self.inside.left) rows) ∙ ap (λ xs. slice_get xs 0) c.self.view_is

pub returns-clause-rest : goal.returns-clause-rest
returns-clause-rest g c =
    let rows = g.R.RowReads.rows c.self.inside.rows.now in
    let k = length rows - c.self.inside.left in
    let one : length rows - (c.self.inside.left - 1) ≡ k + 1 = omega (arith, c.self.invariant.0, c.if-self-eq0.false) in
    ap (λ n. drop n rows) one ∙ sym (dropped_more k rows) ∙ ap (λ xs. drop 1 xs) c.self.view_is
