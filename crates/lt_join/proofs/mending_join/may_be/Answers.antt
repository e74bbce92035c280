use Rattle.std.proofs.Common.{◌<◌, length, get_or, inl, inr, sym, ◌∙◌}
use Rattle.lt_join.proofs.MendJoin.{cell_of_key, key_is, pin_differs}
use Rattle.lt_join.proofs.mending_join.may_be.Goals as goal

pub returns-then-not-may_stand-clause-not_so : goal.returns-then-not-may_stand-clause-not_so
returns-then-not-may_stand-clause-not_so c = λ e. inl (sym c.may_stand.ensures ∙ c.if-not-may_stand.true)

pub returns-then-pin-key-clause-not_so : goal.returns-then-pin-key-clause-not_so
returns-then-pin-key-clause-not_so c = λ e.
    let pins = c.args.level.now.pins in
    let lt : c.loop-pin.pin-index < length pins = rw c.as_slice-pin-items.ensures at c.loop-pin-test.true in
    inr (pin_differs c.args.key pins c.loop-pin.pin-index (get_or pins c.loop-pin.pin-index 0) lt (key_is pins c.loop-pin.pin-index lt) (rw c.as_slice-pin-items.ensures at c.if-pin-key.true))

pub returns-clause-cell : goal.returns-clause-cell
returns-clause-cell c = λ e. cell_of_key c.args.key (sym c.may_stand.ensures ∙ c.if-not-may_stand.false)
