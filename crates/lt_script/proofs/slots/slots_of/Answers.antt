use Rattle.std.proofs.Common.{ℕ, List, length, refl, ap, arith}
use Rattle.lt_script.proofs.Placing.{at_start, at_constant, at_other, placed_all}
use Rattle.lt_script.proofs.slots.slots_of.Goals as goal
use Rattle.lt_script.proofs.slots.slots_of.Goals.{in-Some+in_ok-push, in_default-slot_of}

pub tokens-init : goal.tokens-init
tokens-init c = record {
  at = at_start c.args.text.now c.new-slots.result.items c.over-lexer.result.rest.now c.new-slots.ensures.items c.over-lexer.ensures.rest;
  fits = c.over-lexer.ensures.fits;
}

pub tokens-preserved : goal.tokens-preserved
tokens-preserved c = elim c.match-slot_of.branch [
  | in-Some+in_ok-push w ↦ record {
    at = at_constant c.in-Token.token w.in-Some.slot c.args.text.now c.tokens.slots.items _ c.tokens.from _ _ _ c.tokens.lexer.rest.now c.next.new.self.rest.now c.tokens.lexer.line c.next.new.self.line c.saturating_sub-to.result c.requires c.tokens.invariant.at c.in-Token.ensures.opened c.in-Token.ensures.down
        w.in-Some.ensures c.saturating_sub-to.ensures c.after-before.ensures (rw w.slots-is w.in_ok-push.ensures.items)
        (λ fits. omega (arith, fits, w.from-is, w.saturating_add.ensures, w.saturating_add-from.ensures, c.over-lexer.ensures.fits, ap (λ (us : List ℕ). length us) c.over-lexer.ensures.rest));
    fits = c.next.ensures.fits;
  }
  | in_default-slot_of w ↦ record {
    at = at_other c.in-Token.token c.args.text.now c.tokens.slots.items _ c.tokens.from _ _ _ c.tokens.lexer.rest.now c.next.new.self.rest.now c.tokens.lexer.line c.next.new.self.line c.requires c.tokens.invariant.at c.in-Token.ensures.opened c.in-Token.ensures.down
        w.in_default-slot_of.ensures c.after-before.ensures (rw w.slots-is refl) w.from-is;
    fits = c.next.ensures.fits;
  }
]

pub returns : goal.returns
returns c = placed_all c.next.result c.args.text.now c.tokens.slots.items c.tokens.from _ c.tokens.lexer.rest.now c.next.new.self.rest.now c.tokens.lexer.line c.next.new.self.line c.in_default.not-Token c.requires c.tokens.invariant.at c.next.ensures.opened c.next.ensures.down
