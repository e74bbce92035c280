use Rattle.std.proofs.Common.{◌≤◌, ◌+◌, ◌-◌, ◌/◌, ◌≡◌, ◌++◌, length, take, ap, ◌∙◌, arith}
use Rattle.std.specs.List.{splice}
use Rattle.std.proofs.lemmas.List.{take_rest}
use Rattle.lt_shared.proofs.Parts.{splice-lower, splice-upper}
use Rattle.lt_shared.proofs.copies.parted.Goals as goal

pub returns-then-from-middle-clause-all : goal.returns-then-from-middle-clause-all
returns-then-from-middle-clause-all g c =
    let xs = c.args.entries.now in
    let m = length xs / 2 in
    let within : c.args.to ≤ m = omega (arith, c.requires.short, c.if-from-middle.true) in
    ap (λ t. t ++ c.in_ok-second.second.items) c.in_ok-first.ensures.ok
    ∙ ap (λ t. splice (take m xs) c.args.from c.args.to c.args.others.now ++ t) (c.in_ok-second.ensures.ok ∙ take_rest xs m)
    ∙ splice-lower xs c.args.others.now c.args.from c.args.to m c.requires.order within

pub returns-clause-all : goal.returns-clause-all
returns-clause-all g c =
    let xs = c.args.entries.now in
    let m = length xs / 2 in
    let le : m ≤ c.args.from = c.if-from-middle.false in
    let from : c.args.from ≡ m + (c.args.from - m) = omega (arith, le) in
    let to : c.args.to ≡ m + (c.args.to - m) = omega (arith, le, c.requires.order) in
    ap (λ t. t ++ c.in_ok-second-2.second.items) c.in_ok-first-2.ensures.ok
    ∙ ap (λ t. take m xs ++ t) (rw (take_rest xs m) at c.in_ok-second-2.ensures.ok)
    ∙ splice-upper xs c.args.others.now m c.args.from c.args.to (c.args.from - m) (c.args.to - m) from to
