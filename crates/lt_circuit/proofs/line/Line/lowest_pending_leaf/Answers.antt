use Rattle.std.proofs.Common.{rules, ◌≡◌, ◌<◌, ◌+◌, ◌*◌, sym, ap, ◌∙◌, arith}
use Rattle.std.specs.Prelude.{if◌then◌else◌}
use Rattle.lt_net.specs.declared.job.JobName.TheVariants.{Leaf}
use Rattle.lt_net.specs.declared.job.JobState.TheVariants.{Clean}
use Rattle.lt_net.specs.Codes.{code_of}
use Rattle.lt_net.specs.LineAlone.{tree_in}
use Rattle.lt_net.specs.Net.{is_pending}
use Rattle.lt_net.proofs.Shape.{lt_true}
use Rattle.lt_circuit.proofs.OnWay.{lowest_here, lowest_next}
use Rattle.lt_circuit.proofs.OneJob.{pending_is}
use Rattle.lt_circuit.specs.Line.{line_state}
use Rattle.lt_circuit.proofs.line.Line.lowest_pending_leaf.Goals as goal

pub loop-leaf-preserved : goal.loop-leaf-preserved
loop-leaf-preserved g c =
    let st = line_state c.args.self.now in
    let low : code_of (Leaf c.loop-leaf.leaf) < 2047 = omega (arith, c.loop-leaf-test.true, c.requires.leaves) in
    let at : (tree_in c.args.s st).status (code_of (Leaf c.loop-leaf.leaf)) ≡ st.status (2048 * c.args.s + c.code.result) =
    ap (λ b. if b then st.status (2048 * c.args.s + code_of (Leaf c.loop-leaf.leaf)) else Clean) (lt_true (code_of (Leaf c.loop-leaf.leaf)) 2047 low) ∙ ap (λ k. st.status (2048 * c.args.s + k)) (sym c.code.ensures) in
    c.loop-leaf.invariant
    ∙ lowest_next (tree_in c.args.s st) c.loop-leaf.leaf c.args.leaves c.loop-leaf-test.true (ap is_pending at ∙ sym (pending_is c.is_pending.result _ c.is_pending.ensures) ∙ c.if-is_pending.false)

pub returns-then-is_pending-clause-lowest : goal.returns-then-is_pending-clause-lowest
returns-then-is_pending-clause-lowest g c =
    let st = line_state c.args.self.now in
    let low : code_of (Leaf c.loop-leaf.leaf) < 2047 = omega (arith, c.loop-leaf-test.true, c.requires.leaves) in
    let at : (tree_in c.args.s st).status (code_of (Leaf c.loop-leaf.leaf)) ≡ st.status (2048 * c.args.s + c.code.result) =
    ap (λ b. if b then st.status (2048 * c.args.s + code_of (Leaf c.loop-leaf.leaf)) else Clean) (lt_true (code_of (Leaf c.loop-leaf.leaf)) 2047 low) ∙ ap (λ k. st.status (2048 * c.args.s + k)) (sym c.code.ensures) in
    sym (c.loop-leaf.invariant ∙ lowest_here (tree_in c.args.s st) c.loop-leaf.leaf c.args.leaves c.loop-leaf-test.true (ap is_pending at ∙ sym (pending_is c.is_pending.result _ c.is_pending.ensures) ∙ c.if-is_pending.true))

pub loop-leaf-init : goal.loop-leaf-init
loop-leaf-init g c = search rules
