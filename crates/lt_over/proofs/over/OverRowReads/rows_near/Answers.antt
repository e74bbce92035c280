use Rattle.std.proofs.Common.{ℕ, List, slice_get, sym, subst}
use Rattle.lt_face.specs.Rows.{IsRun}
use Rattle.lt_face.specs.State.{Row}
use Rattle.lt_over.specs.Layers.{IsLayer}
use Rattle.lt_over.proofs.Overlays.{bare_rows}
use Rattle.lt_over.proofs.Firsts.{first-bare}
use Rattle.lt_over.proofs.over.OverRowReads.rows_near.Goals as goal

pub run_under-requires-clause-layer : goal.run_under-requires-clause-layer
run_under-requires-clause-layer g c = subst (λ (w : ℕ). IsLayer w c.self.inside.layer) c.self.invariant.0 c.width-width-2.ensures.is_layer

pub returns-clause-first : goal.returns-clause-first
returns-clause-first g c = rw (← c.self.view_is) c.run_under.ensures.first

pub returns-clause-run : goal.returns-clause-run
returns-clause-run g c = rw (← c.self.view_is) c.run_under.ensures.run

pub returns-then-is_bare-clause-first : goal.returns-then-is_bare-clause-first
returns-then-is_bare-clause-first g c =
    rw (← c.self.view_is)
    (first-bare (g.B.RowReads.rows c.self.inside.base) c.self.inside.layer.gone c.self.inside.layer.come _ (slice_get c.rows_near-run.result.now 0)
    (c.is_bare.ensures.gone c.if-is_bare.true) (c.is_bare.ensures.come c.if-is_bare.true) c.rows_near-run.ensures.first)

pub returns-then-is_bare-clause-run : goal.returns-then-is_bare-clause-run
returns-then-is_bare-clause-run g c =
    rw (← c.self.view_is)
    (subst (λ (rows : List Row). IsRun rows c.rows_near-run.result.now)
    (sym (bare_rows (g.B.RowReads.rows c.self.inside.base) c.self.inside.layer.gone c.self.inside.layer.come (c.is_bare.ensures.gone c.if-is_bare.true) (c.is_bare.ensures.come c.if-is_bare.true)))
    c.rows_near-run.ensures.run)
