use Rattle.std.proofs.Common.{◌≡◌, ◌∙◌, ◌+◌, ◌*◌, ◌/◌, ◌%◌, ap, refl, arith}
use Rattle.lt_net.specs.Codes.{code_of, job_of}
use Rattle.lt_net.specs.Net.{abandoned}
use Rattle.lt_net.proofs.Inside.{job_inside}
use Rattle.lt_net.proofs.Shape.{eq_false}
use Rattle.lt_circuit.specs.Row.{row_of, segment_at}
use Rattle.lt_circuit.proofs.RowReads.{read_inside, tree_some}
use Rattle.lt_circuit.proofs.row.Row.abandon_at.Goals as goal

pub abandon_pass-requires-clause-segment : goal.abandon_pass-requires-clause-segment
abandon_pass-requires-clause-segment c = read_inside c.args.self.now c.args.code c.requires.job

pub returns-then-place-eq-PASS-clause-state : goal.returns-then-place-eq-PASS-clause-state
returns-then-place-eq-PASS-clause-state c = λ claim job.
    let e = c.if-place-eq-PASS.true in
    let whole : 2048 * (c.args.code / 2048) + 2047 ≡ claim.job = omega (arith, e, job) in
    c.abandon_pass.ensures.state (record { job = 2047; inputs = claim.inputs; prior = claim.prior }) refl
    ∙ ap (λ j. abandoned (row_of c.args.self.now) c.args.worker (record { job = j; inputs = claim.inputs; prior = claim.prior })) whole

pub abandon-requires-clause-segment : goal.abandon-requires-clause-segment
abandon-requires-clause-segment c = read_inside c.args.self.now c.args.code c.requires.job

pub abandon-requires-clause-job : goal.abandon-requires-clause-job
abandon-requires-clause-job c =
    let other = eq_false (c.args.code % 2048) 2047 c.if-place-eq-PASS.false in
    let leaves = (segment_at c.args.self.now (c.args.code / 2048)).board.leaves in
    let inside = job_inside leaves (job_of (c.args.code % 2048)) (tree_some c.args.self.now c.args.code other c.requires.job) in
    let name = ap code_of c.of.ensures.name in
    omega (arith, inside, name)

pub returns-clause-state : goal.returns-clause-state
returns-clause-state c = λ claim job.
    let code = c.of.ensures.code in
    let whole : 2048 * (c.args.code / 2048) + code_of c.of.result ≡ claim.job = omega (arith, code, job) in
    c.abandon.ensures.state (record { job = code_of c.of.result; inputs = claim.inputs; prior = claim.prior }) refl
    ∙ ap (λ j. abandoned (row_of c.args.self.now) c.args.worker (record { job = j; inputs = claim.inputs; prior = claim.prior })) whole
