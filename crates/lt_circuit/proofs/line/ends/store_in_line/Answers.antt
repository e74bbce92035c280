use Rattle.std.proofs.Common.{rules, ◌≢◌, ◌<◌, ◌/◌, ◌%◌, ◌∙◌, [], ◌∷◌, None, length, ap, refl, sym, subst, arith}
use Rattle.lt_net.specs.declared.job.JobName.TheVariants.{Leaf, Merge, Correct, Pass}
use Rattle.lt_net.specs.Codes.{code_of}
use Rattle.lt_net.specs.Line.{line_inputs, line_job, line_net}
use Rattle.lt_net.specs.Net.{finished, first_of, read}
use Rattle.lt_net.proofs.Inside.{correct_inner, correct_inside, leaf_inside, merge_inner, merge_inside}
use Rattle.lt_circuit.specs.Job.{done_inputs, done_name, Gave}
use Rattle.lt_circuit.specs.Line.{number_code, number_segment}
use Rattle.lt_circuit.specs.Row.{HasChangedClaim, parts, row_of, segment_at, sizes}
use Rattle.lt_net.specs.Row.{HasNoOther}
use Rattle.lt_circuit.proofs.LineClaims.{changed_claim}
use Rattle.lt_circuit.proofs.LineStores.{first_input, pass_hands_on, pass_next, within_row, within_some}
use Rattle.lt_circuit.proofs.Numbers.{leaf_whole}
use Rattle.lt_circuit.proofs.RowReads.{tree_status_at}
use Rattle.lt_circuit.proofs.line.ends.store_in_line.Goals as goal

pub finish_leaf-stood-requires-clause-segment : goal.finish_leaf-stood-requires-clause-segment
finish_leaf-stood-requires-clause-segment g c =
    let row = c.args.row.now in
    let n = c.in-Leaf.leaf in
    let some : line_inputs (sizes row) (line_job (number_code (Leaf n))) ≢ [] = subst (λ d. line_inputs (sizes row) (line_job (number_code (done_name d))) ≢ []) c.in-Leaf.is c.requires.job in
    within_row row (Leaf n) some

pub finish_leaf-stood-requires-clause-leaf : goal.finish_leaf-stood-requires-clause-leaf
finish_leaf-stood-requires-clause-leaf g c =
    let row = c.args.row.now in
    let n = c.in-Leaf.leaf in
    let some : line_inputs (sizes row) (line_job (number_code (Leaf n))) ≢ [] = subst (λ d. line_inputs (sizes row) (line_job (number_code (done_name d))) ≢ []) c.in-Leaf.is c.requires.job in
    leaf_inside (segment_at row (n / 256)).board.leaves (n % 256) (within_some row (Leaf n) some tt)

pub finish_leaf-stood-requires-clause-alone : goal.finish_leaf-stood-requires-clause-alone
finish_leaf-stood-requires-clause-alone g c =
    let row = c.args.row.now in
    subst (λ d. HasNoOther (length row) (parts row) (number_segment (done_name d)) c.args.worker) c.in-Leaf.is c.requires.alone

pub index_mut-requires : goal.index_mut-requires
index_mut-requires g c = omega (arith, c.requires.tallies c.in-Leaf.leaf (ap done_name c.in-Leaf.is))

pub returns-in-Leaf-clause-claims : goal.returns-in-Leaf-clause-claims
returns-in-Leaf-clause-claims g c =
    let row = c.args.row.now in
    let n = c.in-Leaf.leaf in
    let some : line_inputs (sizes row) (line_job (number_code (Leaf n))) ≢ [] = subst (λ d. line_inputs (sizes row) (line_job (number_code (done_name d))) ≢ []) c.in-Leaf.is c.requires.job in
    let k = c.finish_leaf-stood.ensures.changed in
    let inside = within_row row (Leaf n) some in
    subst (λ d. HasChangedClaim (number_segment (done_name d)) c.args.worker None row c.finish_leaf-stood.new.self) (sym c.in-Leaf.is)
    (subst (HasChangedClaim (n / 256) c.args.worker None row) (sym k.1) (changed_claim row (n / 256) c.args.worker None k.0 inside k.2))

pub returns-in-Leaf-clause-state : goal.returns-in-Leaf-clause-state
returns-in-Leaf-clause-state g c = λ does claim job ins gave.
    let row = c.args.row.now in
    let n = c.in-Leaf.leaf in
    let k = subst (Gave does) c.in-Leaf.is gave in
    c.finish_leaf-stood.ensures.state does (record { job = code_of (Leaf (n % 256)); inputs = claim.inputs; prior = claim.prior }) refl
    (ins ∙ ap done_inputs c.in-Leaf.is ∙ ap (λ m. m ∷ []) (sym k.0)) (k.1 ∙ ap (does n) (sym k.0) ∙ ap (λ i. does i c.in-Leaf.kept) (sym (leaf_whole n)))
    ∙ ap (λ j. finished (line_net does (sizes row)) (row_of row) c.args.worker (record { job = j; inputs = claim.inputs; prior = claim.prior })) (sym (job ∙ ap (λ d. number_code (done_name d)) c.in-Leaf.is))

pub finish_merge-stood-requires-clause-segment : goal.finish_merge-stood-requires-clause-segment
finish_merge-stood-requires-clause-segment g c =
    let row = c.args.row.now in
    let n = c.in-Merge.node in
    let some : line_inputs (sizes row) (line_job (number_code (Merge n))) ≢ [] = subst (λ d. line_inputs (sizes row) (line_job (number_code (done_name d))) ≢ []) c.in-Merge.is c.requires.job in
    within_row row (Merge n) some

pub finish_merge-stood-requires-clause-node : goal.finish_merge-stood-requires-clause-node
finish_merge-stood-requires-clause-node g c =
    let row = c.args.row.now in
    let n = c.in-Merge.node in
    let some : line_inputs (sizes row) (line_job (number_code (Merge n))) ≢ [] = subst (λ d. line_inputs (sizes row) (line_job (number_code (done_name d))) ≢ []) c.in-Merge.is c.requires.job in
    merge_inside (segment_at row (n / 512)).board.leaves (n % 512) (within_some row (Merge n) some tt)

pub finish_merge-stood-requires-clause-alone : goal.finish_merge-stood-requires-clause-alone
finish_merge-stood-requires-clause-alone g c =
    let row = c.args.row.now in
    subst (λ d. HasNoOther (length row) (parts row) (number_segment (done_name d)) c.args.worker) c.in-Merge.is c.requires.alone

pub finish_merge-stood-requires-clause-inner : goal.finish_merge-stood-requires-clause-inner
finish_merge-stood-requires-clause-inner g c =
    let row = c.args.row.now in
    let n = c.in-Merge.node in
    let some : line_inputs (sizes row) (line_job (number_code (Merge n))) ≢ [] = subst (λ d. line_inputs (sizes row) (line_job (number_code (done_name d))) ≢ []) c.in-Merge.is c.requires.job in
    merge_inner (segment_at row (n / 512)).board.leaves (n % 512) (within_some row (Merge n) some tt)

pub returns-in-Merge-clause-claims : goal.returns-in-Merge-clause-claims
returns-in-Merge-clause-claims g c =
    let row = c.args.row.now in
    let n = c.in-Merge.node in
    let some : line_inputs (sizes row) (line_job (number_code (Merge n))) ≢ [] = subst (λ d. line_inputs (sizes row) (line_job (number_code (done_name d))) ≢ []) c.in-Merge.is c.requires.job in
    let k = c.finish_merge-stood.ensures.changed in
    let inside = within_row row (Merge n) some in
    subst (λ d. HasChangedClaim (number_segment (done_name d)) c.args.worker None row c.finish_merge-stood.new.self) (sym c.in-Merge.is)
    (subst (HasChangedClaim (n / 512) c.args.worker None row) (sym k.1) (changed_claim row (n / 512) c.args.worker None k.0 inside k.2))

pub returns-in-Merge-clause-state : goal.returns-in-Merge-clause-state
returns-in-Merge-clause-state g c = λ does claim job ins gave.
    let row = c.args.row.now in
    let n = c.in-Merge.node in
    let k = subst (Gave does) c.in-Merge.is gave in
    c.finish_merge-stood.ensures.state does (record { job = code_of (Merge (n % 512)); inputs = claim.inputs; prior = claim.prior }) c.in-Merge.left c.in-Merge.right refl
    (ins ∙ ap done_inputs c.in-Merge.is) k
    ∙ ap (λ j. finished (line_net does (sizes row)) (row_of row) c.args.worker (record { job = j; inputs = claim.inputs; prior = claim.prior })) (sym (job ∙ ap (λ d. number_code (done_name d)) c.in-Merge.is))

pub finish_correct-stood-requires-clause-segment : goal.finish_correct-stood-requires-clause-segment
finish_correct-stood-requires-clause-segment g c =
    let row = c.args.row.now in
    let n = c.in-Correct.node in
    let some : line_inputs (sizes row) (line_job (number_code (Correct n))) ≢ [] = subst (λ d. line_inputs (sizes row) (line_job (number_code (done_name d))) ≢ []) c.in-Correct.is c.requires.job in
    within_row row (Correct n) some

pub finish_correct-stood-requires-clause-node : goal.finish_correct-stood-requires-clause-node
finish_correct-stood-requires-clause-node g c =
    let row = c.args.row.now in
    let n = c.in-Correct.node in
    let some : line_inputs (sizes row) (line_job (number_code (Correct n))) ≢ [] = subst (λ d. line_inputs (sizes row) (line_job (number_code (done_name d))) ≢ []) c.in-Correct.is c.requires.job in
    correct_inside (segment_at row (n / 512)).board.leaves (n % 512) (within_some row (Correct n) some tt)

pub finish_correct-stood-requires-clause-alone : goal.finish_correct-stood-requires-clause-alone
finish_correct-stood-requires-clause-alone g c =
    let row = c.args.row.now in
    subst (λ d. HasNoOther (length row) (parts row) (number_segment (done_name d)) c.args.worker) c.in-Correct.is c.requires.alone

pub finish_correct-stood-requires-clause-inner : goal.finish_correct-stood-requires-clause-inner
finish_correct-stood-requires-clause-inner g c =
    let row = c.args.row.now in
    let n = c.in-Correct.node in
    let some : line_inputs (sizes row) (line_job (number_code (Correct n))) ≢ [] = subst (λ d. line_inputs (sizes row) (line_job (number_code (done_name d))) ≢ []) c.in-Correct.is c.requires.job in
    correct_inner (segment_at row (n / 512)).board.leaves (n % 512) (within_some row (Correct n) some tt)

pub finish_correct-stood-requires-clause-current : goal.finish_correct-stood-requires-clause-current
finish_correct-stood-requires-clause-current g c = λ running.
    let row = c.args.row.now in
    let n = c.in-Correct.node in
    let some : line_inputs (sizes row) (line_job (number_code (Correct n))) ≢ [] = subst (λ d. line_inputs (sizes row) (line_job (number_code (done_name d))) ≢ []) c.in-Correct.is c.requires.job in
    let low : code_of (Correct (n % 512)) < 2047 = omega arith in
    let runs = ap (λ d. (row_of row).status (number_code (done_name d))) c.in-Correct.is ∙ tree_status_at row (n / 512) (code_of (Correct (n % 512))) low ∙ running in
    ap first_of (sym (ap done_inputs c.in-Correct.is) ∙ c.requires.current runs ∙ ap (λ d. read (row_of row).value (line_inputs (sizes row) (line_job (number_code (done_name d))))) c.in-Correct.is)
    ∙ first_input row n some

pub returns-in-Correct-clause-claims : goal.returns-in-Correct-clause-claims
returns-in-Correct-clause-claims g c =
    let row = c.args.row.now in
    let n = c.in-Correct.node in
    let some : line_inputs (sizes row) (line_job (number_code (Correct n))) ≢ [] = subst (λ d. line_inputs (sizes row) (line_job (number_code (done_name d))) ≢ []) c.in-Correct.is c.requires.job in
    let k = c.finish_correct-stood.ensures.changed in
    let inside = within_row row (Correct n) some in
    subst (λ d. HasChangedClaim (number_segment (done_name d)) c.args.worker None row c.finish_correct-stood.new.self) (sym c.in-Correct.is)
    (subst (HasChangedClaim (n / 512) c.args.worker None row) (sym k.1) (changed_claim row (n / 512) c.args.worker None k.0 inside k.2))

pub returns-in-Correct-clause-state : goal.returns-in-Correct-clause-state
returns-in-Correct-clause-state g c = λ does claim job ins gave.
    let row = c.args.row.now in
    let n = c.in-Correct.node in
    let k = subst (Gave does) c.in-Correct.is gave in
    c.finish_correct-stood.ensures.state does (record { job = code_of (Correct (n % 512)); inputs = claim.inputs; prior = claim.prior }) c.in-Correct.left refl
    (ins ∙ ap done_inputs c.in-Correct.is) k
    ∙ ap (λ j. finished (line_net does (sizes row)) (row_of row) c.args.worker (record { job = j; inputs = claim.inputs; prior = claim.prior })) (sym (job ∙ ap (λ d. number_code (done_name d)) c.in-Correct.is))

pub returns-in-Leaf-clause-tallies : goal.returns-in-Leaf-clause-tallies
returns-in-Leaf-clause-tallies g c = search rules

pub finish_pass-stood-requires-clause-small : goal.finish_pass-stood-requires-clause-small
finish_pass-stood-requires-clause-small g c =
    let row = c.args.row.now in
    let some = subst (λ d. line_inputs (sizes row) (line_job (number_code (done_name d))) ≢ []) c.in-Pass.is c.requires.job in
    omega (arith, pass_next row c.in-Pass.segment some, c.count-segments.ensures.count, c.count-segments.ensures.few)

pub finish_pass-stood-requires-clause-segment : goal.finish_pass-stood-requires-clause-segment
finish_pass-stood-requires-clause-segment g c =
    let row = c.args.row.now in
    let some = subst (λ d. line_inputs (sizes row) (line_job (number_code (done_name d))) ≢ []) c.in-Pass.is c.requires.job in
    pass_next row c.in-Pass.segment some

pub finish_pass-stood-requires-clause-on : goal.finish_pass-stood-requires-clause-on
finish_pass-stood-requires-clause-on g c =
    let row = c.args.row.now in
    let some = subst (λ d. line_inputs (sizes row) (line_job (number_code (done_name d))) ≢ []) c.in-Pass.is c.requires.job in
    pass_hands_on row c.in-Pass.segment some

pub finish_pass-stood-requires-clause-alone : goal.finish_pass-stood-requires-clause-alone
finish_pass-stood-requires-clause-alone g c =
    let row = c.args.row.now in
    subst (λ d. HasNoOther (length row) (parts row) (number_segment (done_name d)) c.args.worker) c.in-Pass.is c.requires.alone

pub returns-in-Pass-clause-claims : goal.returns-in-Pass-clause-claims
returns-in-Pass-clause-claims g c =
    subst (λ d. HasChangedClaim (number_segment (done_name d)) c.args.worker None c.args.row.now c.finish_pass-stood.new.self) (sym c.in-Pass.is) c.finish_pass-stood.ensures.claims

pub returns-in-Pass-clause-state : goal.returns-in-Pass-clause-state
returns-in-Pass-clause-state g c = λ does claim job ins gave.
    let row = c.args.row.now in
    let k = subst (Gave does) c.in-Pass.is gave in
    c.finish_pass-stood.ensures.state does (record { job = 2047; inputs = c.in-Pass.correction ∷ c.in-Pass.effect ∷ []; prior = claim.prior }) refl k
    ∙ (λ i. finished (line_net does (sizes row)) (row_of row) c.args.worker
    (record { job = sym (job ∙ ap (λ d. number_code (done_name d)) c.in-Pass.is) i; inputs = sym (ins ∙ ap done_inputs c.in-Pass.is) i; prior = claim.prior }))
