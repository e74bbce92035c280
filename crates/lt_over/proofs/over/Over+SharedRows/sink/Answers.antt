use Rattle.std.proofs.Common.{ℕ, List, ap, ◌∙◌}
use Rattle.lt_face.specs.State.{Row}
use Rattle.lt_shared.specs.Shared.{root_rows}
use Rattle.lt_over.specs.Layers.{Edits, under}
use Rattle.lt_over.proofs.Overlays.{bare_rows}
use Rattle.lt_over.proofs.over.Over+SharedRows.sink.Goals as goal

pub returns : goal.returns
returns c =
    let base = root_rows c.in_ok-base.base.nodes in
    let bare = bare_rows base c.in_ok-layer.layer.gone c.in_ok-layer.layer.come (ap (λ (l : Edits). l.gone) c.in_ok-layer.ensures) (ap (λ (l : Edits). l.come) c.in_ok-layer.ensures) in
    ap (λ (n : ℕ). record { width = n; rows = under base c.in_ok-layer.layer }) c.in_ok-base.ensures.width
    ∙ ap (λ (rs : List Row). record { width = c.args.self.now.width; rows = rs }) (bare ∙ c.in_ok-base.ensures.rows)
