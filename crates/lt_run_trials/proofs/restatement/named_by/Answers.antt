use Rattle.std.proofs.Common.{ℕ, inl, inr, subst}
use Rattle.lt_face.specs.Lists.{IsIn}
use Rattle.lt_face.specs.State.{Row}
use Rattle.lt_restate.proofs.Named.{mark_there}
use Rattle.lt_run_trials.proofs.restatement.named_by.Goals as goal

pub returns : goal.returns
returns c = λ relation row is.
    let all = c.add_named-2.new.named in
    elim is [
      | inl f ↦
          let m = mark_there c.args.first.now relation row f in
          subst (λ (x : ℕ × Row). IsIn x all) (λ i. (m.2 i, m.3 i)) (c.in_ok-add_named-2.ensures.stay (m.0.relation, m.0.row) (c.in_ok-add_named.ensures.all m.0 m.1))
      | inr s ↦
          let m = mark_there c.args.second.now relation row s in
          subst (λ (x : ℕ × Row). IsIn x all) (λ i. (m.2 i, m.3 i)) (c.in_ok-add_named-2.ensures.all m.0 m.1)
    ]
