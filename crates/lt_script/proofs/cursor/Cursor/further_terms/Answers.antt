use Rattle.std.proofs.Common.{◌∷◌, ◌++◌, [], drop, sym, ap, ◌∙◌, arith}
use Rattle.std.proofs.lemmas.List.{map-id}
use Rattle.std.proofs.lemmas.Result.{err_from_is_err_and}
use Rattle.lt_grammar.specs.Productions.{starts_term}
use Rattle.lt_script.specs.Valued.{valued_term_at}
use Rattle.lt_script.proofs.Listing.{listing_begins, listing_next, listing_ends, listing_fails}
use Rattle.lt_script.proofs.Bridges.{terms_shrink}
use Rattle.lt_script.proofs.cursor.Cursor.further_terms.Goals as goal

pub terms-init : goal.terms-init
terms-init c =
    listing_begins (λ x. x) starts_term valued_term_at 7 c.args.self.now c.args.first c.push.new.self.items
    (c.in_ok-push.ensures.items ∙ ap (λ items. items ++ c.args.first ∷ []) c.in_ok-terms.ensures.items)

pub terms-preserved : goal.terms-preserved
terms-preserved c =
    listing_next (λ x. x) starts_term valued_term_at 7 c.args.self.now terms_shrink c.args.first c.terms.terms.items c.push-in-terms.new.self.items c.terms.self c.next_term.new.self c.in_ok-term.term (sym c.terms-test.ensures) c.in_ok-term.ensures c.in_ok-push-2.ensures.items (omega arith) c.terms.invariant

pub returns-clause-read : goal.returns-clause-read
returns-clause-read c = let e = listing_ends (λ x. x) starts_term valued_term_at 7 c.args.self.now c.args.first c.terms.terms.items c.terms.self (sym c.terms-test.ensures) c.terms.invariant in
    rw (map-id (drop 1 c.terms.terms.items)) at e

pub returns-in_err-term-clause-read : goal.returns-in_err-term-clause-read
returns-in_err-term-clause-read c =
    let p = err_from_is_err_and c.from_residual-in_err-term.result c.from_residual-in_err-term.ensures.1 in
    rw (p.1, p.2) (listing_fails (λ x. x) starts_term valued_term_at 7 c.args.self.now c.in_err-term.field-0.0 c.args.first c.terms.terms.items c.terms.self c.next_term.new.self (sym c.terms-test.ensures) c.in_err-term.ensures (omega arith) c.terms.invariant)
