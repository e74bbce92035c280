use Rattle.std.proofs.Common.{drop, sym, arith, ◌++◌, ◌∷◌, [], ap, ◌∙◌}
use Rattle.std.proofs.lemmas.List.{map-id}
use Rattle.std.proofs.lemmas.Result.{err_from_is_err_and}
use Rattle.lt_grammar.specs.Productions.{starts_literal}
use Rattle.lt_script.specs.Valued.{valued_literal_at}
use Rattle.lt_script.proofs.Listing.{listing_next, listing_ends, listing_fails, listing_begins, listing_exceeds}
use Rattle.lt_script.proofs.Bridges.{literals_shrink}
use Rattle.lt_script.proofs.cursor.Cursor.further_literals.Goals as goal

pub literals-init : goal.literals-init
literals-init c =
    listing_begins (λ x. x) starts_literal valued_literal_at 15 c.args.self.now c.args.first c.push.new.self.items (c.in_ok-push.ensures.items ∙ ap (λ v. v ++ c.args.first ∷ []) c.new-literals.ensures.items)

pub literals-preserved : goal.literals-preserved
literals-preserved c =
    listing_next (λ x. x) starts_literal valued_literal_at 15 c.args.self.now literals_shrink c.args.first c.literals.literals.items c.push-in-literals.new.self.items c.literals.self c.next_literal.new.self c.in_ok-literal.literal (sym c.literals-test.ensures) c.in_ok-literal.ensures c.in_ok-push-2.ensures.items (omega arith) c.literals.invariant

pub returns-clause-read : goal.returns-clause-read
returns-clause-read c = let e = listing_ends (λ x. x) starts_literal valued_literal_at 15 c.args.self.now c.args.first c.literals.literals.items c.literals.self (sym c.literals-test.ensures) c.literals.invariant in
    rw (map-id (drop 1 c.literals.literals.items)) at e

pub returns-in_err-literal-clause-read : goal.returns-in_err-literal-clause-read
returns-in_err-literal-clause-read c =
    let p = err_from_is_err_and c.from_residual-in_err-literal.result c.from_residual-in_err-literal.ensures.1 in
    rw (p.1, p.2) (listing_fails (λ x. x) starts_literal valued_literal_at 15 c.args.self.now c.in_err-literal.field-0.0 c.args.first c.literals.literals.items c.literals.self c.next_literal.new.self (sym c.literals-test.ensures) c.in_err-literal.ensures (omega arith) c.literals.invariant)

pub returns-then-len-eq-MOST_LITERALS-clause-read : goal.returns-then-len-eq-MOST_LITERALS-clause-read
returns-then-len-eq-MOST_LITERALS-clause-read c =
    listing_exceeds (λ x. x) starts_literal valued_literal_at 15 c.args.self.now c.too_many_literals.result c.args.first c.literals.literals.items c.literals.self c.too_many_literals.new.self (sym c.literals-test.ensures) c.too_many_literals.ensures (omega (arith, c.if-len-eq-MOST_LITERALS.true, c.len.ensures)) c.literals.invariant
