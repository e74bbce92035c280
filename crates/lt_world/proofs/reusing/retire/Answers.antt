use Rattle.std.proofs.Common.{List, map, sym, ap, ◌∙◌}
use Rattle.lt_model.specs.declared.syntax.Program.{Program}
use Rattle.lt_model.specs.Check.{checked}
use Rattle.lt_world.specs.Batches.{checked_of}
use Rattle.lt_world.proofs.Keeping.{popped}
use Rattle.lt_world.proofs.reusing.retire.Goals as goal

pub loop-init : goal.loop-init
loop-init c = λ schema same are. (same ∙ ap (λ (ps : List Program). map (λ (p : Program). checked p schema) ps) (sym c.into_vec-left.ensures), are)

pub loop-preserved : goal.loop-preserved
loop-preserved c = λ schema same are.
    let before = c.loop.invariant schema same are in
    let both = popped checked_of (λ (p : Program). checked p schema) c.loop.checks.items c.pop-in-loop.new.self.items c.in-Some-pop.judgement c.loop.left.items c.pop.new.self.items c.in-Some.program
    c.in-Some-pop.ensures.items c.in-Some.ensures.items before.0 in
    (both.0, record { forms = before.1.forms; runs = c.keep_old.ensures schema both.1 before.1.runs })

pub returns-in_default : goal.returns-in_default
returns-in_default c = λ schema same are. (c.loop.invariant schema same are).1

pub returns-in_default-pop : goal.returns-in_default-pop
returns-in_default-pop c = λ schema same are. (c.loop.invariant schema same are).1

pub returns : goal.returns
returns c = λ schema same are. (c.loop.invariant schema same are).1
