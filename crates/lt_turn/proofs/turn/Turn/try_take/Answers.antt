use Rattle.std.proofs.Common.{rules, ℕ, List, ◌∷◌, Option, Some, ap, sym, ◌∙◌, refl}
use Rattle.atomic_table.specs.Table.{Me, rest}
use Rattle.lt_turn.proofs.Steps.{tries, took}
use Rattle.lt_turn.specs.declared.view.View.{View}
use Rattle.lt_turn.proofs.turn.Turn.try_take.Goals as goal

pub compare_exchange-found-requires : goal.compare_exchange-found-requires
compare_exchange-found-requires g c = (
  c.requires.turn.0,
  search rules,
  tries g.T.Story.opening g.T.Story.journal _ _ _ c.peek-word.result _ (search rules) refl c.requires.some_number,
)

pub exchange-requires : goal.exchange-requires
exchange-requires g c =
    let t = took g.T.Story.opening g.T.Story.journal 0 c.args.token.now.me c.compare_exchange-found.new.seat.me c.compare_exchange-found.result c.peek-word.result 0 c.if-found-word.false c.compare_exchange-found.ensures.2 in
    let held = ap (λ (m : Me (Option g.row.T.Denot) (View g.row.T-Opening.Denot)). m.1) t.1.3 in
    (search rules, (Some t.0, held ∙ ap (λ (l : List (ℕ × Option g.row.T.Denot)). (0, Some t.0) ∷ rest l) (sym held)))
