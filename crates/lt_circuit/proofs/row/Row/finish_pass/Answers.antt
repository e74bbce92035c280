use Rattle.std.proofs.Common.{◌≡◌, ◌∙◌, ◌<◌, ◌+◌, ap, subst, length, set, arith}
use Rattle.lt_net.specs.Line.{effect_in}
use Rattle.lt_net.specs.Row.{given_root, passing_net}
use Rattle.lt_circuit.specs.Segment.{SegmentView, segment_state}
use Rattle.lt_circuit.specs.Row.{IsRow, row_of, segment_at, sizes}
use Rattle.lt_circuit.proofs.RowTables.{next_stays, passed_row, sizes_same}
use Rattle.lt_circuit.proofs.LineClaims.{pass_claims_changed}
use Rattle.lt_circuit.proofs.row.Row.finish_pass.Goals as goal

pub overflow_add-s : goal.overflow_add-s
overflow_add-s c = omega (arith, c.requires.small)

pub returns-clause-sizes : goal.returns-clause-sizes
returns-clause-sizes c =
    let vs = c.args.self.now in
    let s = c.args.s in
    let row : IsRow vs = subst IsRow c.self.view_is c.self.invariant in
    let a = c.close_pass-held.ensures.row in
    let b = c.give_root-first.ensures.row in
    let first : s < length vs = omega (arith, c.requires.segment) in
    let next : segment_at c.close_pass-held.new.self (s + 1) ≡ segment_at vs (s + 1) = ap (λ xs. segment_at xs (s + 1)) a.1 ∙ next_stays vs row s a.0 first in
    ap sizes b.1
    ∙ sizes_same c.close_pass-held.new.self (s + 1) b.0 b.2
    ∙ ap sizes a.1 ∙ sizes_same vs s a.0 a.2

pub returns-clause-state : goal.returns-clause-state
returns-clause-state c = λ does claim passing gave.
    let vs = c.args.self.now in
    let s = c.args.s in
    let row : IsRow vs = subst IsRow c.self.view_is c.self.invariant in
    let a = c.close_pass-held.ensures.row in
    let b = c.give_root-first.ensures.row in
    let first : s < length vs = omega (arith, c.requires.segment) in
    let next : segment_at c.close_pass-held.new.self (s + 1) ≡ segment_at vs (s + 1) = ap (λ xs. segment_at xs (s + 1)) a.1 ∙ next_stays vs row s a.0 first in
    let given = b.3 (effect_in does (s + 1)) ∙ ap (λ (v : SegmentView). given_root (passing_net (effect_in does (s + 1)) v.board.leaves v.on) (segment_state v) c.args.correction) next in
    ap row_of (b.1 ∙ ap (λ xs. set xs (s + 1) b.0) a.1)
    ∙ passed_row vs row does s c.args.worker c.requires.segment a.0 b.0 claim c.args.correction passing c.requires.on c.requires.alone gave (a.4 claim passing) given

pub returns-clause-claims : goal.returns-clause-claims
returns-clause-claims c =
    let vs = c.args.self.now in
    let s = c.args.s in
    let a = c.close_pass-held.ensures.row in
    let b = c.give_root-first.ensures.row in
    let first : s < length vs = omega (arith, c.requires.segment) in
    pass_claims_changed vs s c.args.worker first a.0 b.0 c.close_pass-held.new.self a.5 b.4 a.1 c.give_root-first.new.self b.1 c.requires.segment
