use Rattle.std.proofs.Common.{◌≡◌, Some, length, slice_get}
use Rattle.lt_join.specs.Values.{values_in}
use Rattle.lt_join.proofs.Known.{IsKnown-var, IsKnown-cell}
use Rattle.lt_join.proofs.Steps.{slice_get_is}
use Rattle.lt_join.proofs.walk.give_key.Goals as goal

pub returns-in-Var : goal.returns-in-Var
returns-in-Var c =
    let levels = c.args.levels.now in
    let keys = c.args.keys.now in
    let level = c.index-levels-len.result in
    let here : slice_get levels (length keys) ≡ Some level = slice_get_is levels (length keys) level c.requires.within (rw c.len.ensures at c.index-levels-len.is) in
    rw c.set.ensures (IsKnown-var levels keys (values_in c.args.values.now.cells) level c.args.key c.in-Var.v here c.in-Var.is (c.requires.determined level here) (c.requires.fits level here) c.requires.known)

pub returns-in-Cell : goal.returns-in-Cell
returns-in-Cell c =
    let levels = c.args.levels.now in
    let keys = c.args.keys.now in
    let level = c.index-levels-len.result in
    let here : slice_get levels (length keys) ≡ Some level = slice_get_is levels (length keys) level c.requires.within (rw c.len.ensures at c.index-levels-len.is) in
    IsKnown-cell levels keys (values_in c.args.values.now.cells) level c.args.key c.in-Cell.field-0 here c.in-Cell.is (c.requires.determined level here) (c.requires.fits level here) c.requires.known
