use Rattle.std.proofs.Common.{◌≡◌, ◌≤◌, false, List, length, IsTrue, sym, ap, ◌∙◌, subst, arith}
use Rattle.lt_model.specs.declared.normal.Term.{Term}
use Rattle.lt_model.specs.Bound.{are_bound}
use Rattle.lt_join.specs.Way.{AreDecidedBy, WayView}
use Rattle.lt_join.proofs.key_slice.slice_of_key.Goals as goal

pub new-requires-clause-decided : goal.new-requires-clause-decided
new-requires-clause-decided g c =
    let all = c.len-wanted.ensures in
    λ each less. absurd {A = AreDecidedBy c.args.plan.now.levels c.len-wanted.result c.as_slice.result.now} (omega arith)

pub join_key-requires-clause-heads : goal.join_key-requires-clause-heads
join_key-requires-clause-heads g c =
    let is : c.in_ok-way.way ≡ record { state = g.I.Indexes.state c.args.indexes.now; body = c.args.body.now; plan = c.args.plan.now; terms = c.args.terms.now; first = false; wanted = c.len-wanted.result } = c.in_ok-way.ensures ∙ ap (λ (terms : List Term). record { state = g.I.Indexes.state c.args.indexes.now; body = c.args.body.now; plan = c.args.plan.now; terms = terms; first = false; wanted = c.len-wanted.result }) c.as_slice.ensures in
    subst (λ (w : WayView). IsTrue (are_bound w.body w.terms)) (sym is) c.requires.ready.heads

pub join_key-requires-clause-whole : goal.join_key-requires-clause-whole
join_key-requires-clause-whole g c =
    let is : c.in_ok-way.way ≡ record { state = g.I.Indexes.state c.args.indexes.now; body = c.args.body.now; plan = c.args.plan.now; terms = c.args.terms.now; first = false; wanted = c.len-wanted.result } = c.in_ok-way.ensures ∙ ap (λ (terms : List Term). record { state = g.I.Indexes.state c.args.indexes.now; body = c.args.body.now; plan = c.args.plan.now; terms = terms; first = false; wanted = c.len-wanted.result }) c.as_slice.ensures in
    subst (λ (w : WayView). length w.plan.levels ≤ w.wanted) (sym is) (let all = c.len-wanted.ensures in omega arith)
