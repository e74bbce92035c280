use Rattle.std.proofs.Common.{◌∙◌, ap, refl, sym, subst, length, None, arith}
use Rattle.lt_net.specs.Net.{State}
use Rattle.lt_net.specs.Row.{HasNoOther}
use Rattle.lt_circuit.specs.Job.{done_name}
use Rattle.lt_circuit.specs.Line.{number_code}
use Rattle.lt_circuit.specs.LineJob.{line_done_claim}
use Rattle.lt_circuit.specs.Row.{HasChangedClaim, parts, row_of}
use Rattle.lt_circuit.proofs.LineSteps.{done_leaf_there, finish_line, held_busy, is_some, line_end_fits, line_own_alone, line_own_inside}
use Rattle.lt_circuit.proofs.LineTables.{kept_line}
use Rattle.lt_circuit.proofs.Numbers.{segment_is}
use Rattle.lt_circuit.proofs.Steps.{other_claim}
use Rattle.lt_circuit.proofs.line.Line.finish.Goals as goal

pub number_code-job-requires : goal.number_code-job-requires
number_code-job-requires g c =
    let cl = rw (← c.self.view_is, ← c.output.view_is) at c.requires.claim in
    let inside = line_own_inside _ _ _ _ _ _ _ _ _ c.self.invariant c.args.worker (line_done_claim c.output.inside.did) cl in
    let code = ap number_code c.name-name.ensures in
    omega (arith, inside, code, c.count-segments.ensures.count, c.count-segments.ensures.few)

pub store_in_line-stood-requires-clause-job : goal.store_in_line-stood-requires-clause-job
store_in_line-stood-requires-clause-job g c =
    let cl = rw (← c.self.view_is, ← c.output.view_is) at c.requires.claim in
    let claim = line_done_claim c.output.inside.did in
    is_some _ _ _ _ _ _ _ _ _ c.self.invariant claim.job (held_busy _ _ _ _ _ _ _ _ _ c.self.invariant c.args.worker claim cl)

pub store_in_line-stood-requires-clause-current : goal.store_in_line-stood-requires-clause-current
store_in_line-stood-requires-clause-current g c = λ running.
    let cl = rw (← c.self.view_is, ← c.output.view_is) at c.requires.claim in
    (kept_line _ _ _ _ _ _ _ _ _ c.self.invariant).current c.args.worker (line_done_claim c.output.inside.did) cl running

pub store_in_line-stood-requires-clause-alone : goal.store_in_line-stood-requires-clause-alone
store_in_line-stood-requires-clause-alone g c =
    let cl = rw (← c.self.view_is, ← c.output.view_is) at c.requires.claim in
    let row = c.self.inside.row in
    let alone = line_own_alone _ _ _ _ _ _ _ _ _ c.self.invariant c.args.worker (line_done_claim c.output.inside.did) cl in
    subst (λ s. HasNoOther (length row) (parts row) s c.args.worker) (segment_is (done_name c.output.inside.did)) alone

pub store_in_line-stood-requires-clause-tallies : goal.store_in_line-stood-requires-clause-tallies
store_in_line-stood-requires-clause-tallies g c = λ leaf e.
    let cl = rw (← c.self.view_is, ← c.output.view_is) at c.requires.claim in
    done_leaf_there _ _ _ _ _ _ _ _ _ c.self.invariant c.args.worker c.output.inside.did cl leaf e

pub push_reserved-requires : goal.push_reserved-requires
push_reserved-requires g c =
    let cl = rw (← c.self.view_is, ← c.output.view_is) at c.requires.claim in
    line_end_fits _ _ _ _ _ _ _ _ _ c.self.invariant c.args.worker (line_done_claim c.output.inside.did) cl

pub invariant_of-self : goal.invariant_of-self
invariant_of-self g c =
    let cl = rw (← c.self.view_is, ← c.output.view_is) at c.requires.claim in
    let w = rw (← c.self.view_is, ← c.output.view_is) at c.requires.work in
    let ok = rw w at c.output.invariant in
    let st = c.store_in_line-stood.ensures.state _ (line_done_claim c.output.inside.did) refl refl ok.gave in
    let changed = subst (λ s. HasChangedClaim s c.args.worker None c.self.inside.row c.store_in_line-stood.new.row) (sym (segment_is (done_name c.output.inside.did))) c.store_in_line-stood.ensures.claims in
    rw (c.push_reserved.ensures.items, c.push_reserved.ensures.len, c.push_reserved.ensures.capacity, c.store_in_line-stood.ensures.tallies, c.number_code-job.ensures, c.name-name.ensures)
    (finish_line _ _ _ _ _ _ _ _ _ c.self.invariant c.args.worker c.output.inside.did c.store_in_line-stood.new.row cl c.store_in_line-stood.ensures.sizes st changed ok)

pub returns-clause-state : goal.returns-clause-state
returns-clause-state g c =
    let w = rw (← c.self.view_is, ← c.output.view_is) at c.requires.work in
    let ok = rw w at c.output.invariant in
    rw (← c.self.view_is, ← c.output.view_is) (c.store_in_line-stood.ensures.state _ (line_done_claim c.output.inside.did) refl refl ok.gave)

pub returns-clause-others : goal.returns-clause-others
returns-clause-others g c =
    let w = rw (← c.self.view_is, ← c.output.view_is) at c.requires.work in
    let ok = rw w at c.output.invariant in
    rw (← c.self.view_is) (λ v ne. ap (λ (s : State). s.claim v) (c.store_in_line-stood.ensures.state _ (line_done_claim c.output.inside.did) refl refl ok.gave)
    ∙ other_claim (row_of c.self.inside.row).claim c.args.worker None v ne)
