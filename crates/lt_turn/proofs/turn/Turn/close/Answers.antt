use Rattle.std.proofs.Common.{rules, ◌≡◌, Some, ap, ◌∙◌, sym, subst}
use Rattle.lt_turn.specs.Journal.{GoesOn}
use Rattle.lt_turn.specs.declared.view.View.{View}
use Rattle.lt_turn.proofs.Steps.{closes_with}
use Rattle.lt_turn.proofs.turn.Turn.close.Goals as goal

pub unreachable-requires : goal.unreachable-requires
unreachable-requires g c =
    let v = c.into_token.result.me.0 in
    let t = closes_with g.T.Story.opening g.T.Story.journal _ v _ _ c.take-value.result c.close_with-closed.ensures.values.2 c.take-value.ensures.value (search rules) (search rules) (search rules) (search rules) in
    let is = t.1 in cc c.in-None.is

pub returns-clause-opening : goal.returns-clause-opening
returns-clause-opening g c =
    let v = c.into_token.result.me.0 in
    let t = closes_with g.T.Story.opening g.T.Story.journal _ v _ _ c.take-value.result c.close_with-closed.ensures.values.2 c.take-value.ensures.value (search rules) (search rules) (search rules) (search rules) in
    let same : t.0 ≡ c.in-Some.x = let e : Some t.0 ≡ Some c.in-Some.x = sym t.1 ∙ c.in-Some.is in cc in
    let here : c.args.seat.token.me.0.opening ≡ v.opening = search rules in
    here ∙ (t.2 ∙ ap (λ (x : g.row.T.Denot). Some (g.T.Story.opening x)) same)

pub returns-clause-journal : goal.returns-clause-journal
returns-clause-journal g c =
    let v = c.into_token.result.me.0 in
    let t = closes_with g.T.Story.opening g.T.Story.journal _ v _ _ c.take-value.result c.close_with-closed.ensures.values.2 c.take-value.ensures.value (search rules) (search rules) (search rules) (search rules) in
    let same : t.0 ≡ c.in-Some.x = let e : Some t.0 ≡ Some c.in-Some.x = sym t.1 ∙ c.in-Some.is in cc in
    let here : v.seen ≡ c.args.seat.token.me.0.seen = search rules in
    ap g.T.Story.journal (sym same) ∙ (t.3 ∙ here)

pub returns-clause-goes_on : goal.returns-clause-goes_on
returns-clause-goes_on g c =
    let v = c.into_token.result.me.0 in
    let t = closes_with g.T.Story.opening g.T.Story.journal _ v _ _ c.take-value.result c.close_with-closed.ensures.values.2 c.take-value.ensures.value (search rules) (search rules) (search rules) (search rules) in
    let same : v ≡ c.args.seat.token.me.0 = search rules in
    subst (λ (u : View g.row.T-Opening.Denot). GoesOn u.workers u.begun u.seen) same t.4
