use Rattle.std.proofs.Common.{◌-◌, drop, sym, arith}
use Rattle.std.proofs.lemmas.List.{map-id}
use Rattle.std.proofs.lemmas.Result.{err_from_is_err_and}
use Rattle.lt_grammar.specs.Productions.{kind_at, starts_kind}
use Rattle.lt_script.proofs.Listing.{listing_next, listing_ends, listing_fails}
use Rattle.lt_script.proofs.Shrink.{kinds_shrink}
use Rattle.lt_script.proofs.cursor.Cursor.further_kinds.Goals as goal

pub kinds-preserved : goal.kinds-preserved
kinds-preserved c =
    listing_next (λ k. k) starts_kind kind_at (c.args.most - 1) c.args.self.now kinds_shrink c.args.first c.kinds.kinds.items c.push-in-kinds.new.self.items c.kinds.self c.next_kind.new.self c.in_ok-kind.kind (sym c.kinds-test.ensures) c.in_ok-kind.ensures c.in_ok-push-2.ensures.items (omega arith) c.kinds.invariant

pub returns-clause-read : goal.returns-clause-read
returns-clause-read c = let e = listing_ends (λ k. k) starts_kind kind_at (c.args.most - 1) c.args.self.now c.args.first c.kinds.kinds.items c.kinds.self (sym c.kinds-test.ensures) c.kinds.invariant in
    rw (map-id (drop 1 c.kinds.kinds.items)) at e

pub returns-in_err-kind-clause-read : goal.returns-in_err-kind-clause-read
returns-in_err-kind-clause-read c =
    let p = err_from_is_err_and c.from_residual-in_err-kind.result c.from_residual-in_err-kind.ensures.1 in
    rw (p.1, p.2) (listing_fails (λ k. k) starts_kind kind_at (c.args.most - 1) c.args.self.now c.in_err-kind.field-0.0 c.args.first c.kinds.kinds.items c.kinds.self c.next_kind.new.self (sym c.kinds-test.ensures) c.in_err-kind.ensures (omega arith) c.kinds.invariant)
