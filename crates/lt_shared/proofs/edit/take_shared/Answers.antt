use Rattle.std.proofs.Common.{◌≡◌, ◌∙◌, sym, subst, get_or}
use Rattle.std.specs.Arc.{arc_value}
use Rattle.lt_shared.specs.Entries.{joined, IsTaken}
use Rattle.lt_shared.proofs.Joins.{ascending-at}
use Rattle.lt_shared.proofs.Edits.{take-still, take-out, take-entry}
use Rattle.lt_shared.proofs.Parts.{splice-one, splice-none}
use Rattle.lt_shared.proofs.edit.take_shared.Goals as goal

pub take_out-requires : goal.take_out-requires
take_out-requires g c =
    let xs = (arc_value c.args.entries.now).items in
    let is : c.in_ok-entry.entry ≡ get_or xs c.args.at c.in_ok-entry.entry = subst (λ t. t ≡ get_or xs c.args.at t) (sym c.in_ok-entry.ensures) (rw c.deref.ensures at c.index-old.ensures) in
    ascending-at (joined g.T.Entry.rows) xs c.args.at c.in_ok-entry.entry c.requires.rises c.requires.place.within is

pub returns-in-Missing-clause-ok : goal.returns-in-Missing-clause-ok
returns-in-Missing-clause-ok g c =
    let xs = (arc_value c.args.entries.now).items in
    let is : c.in_ok-entry.entry ≡ get_or xs c.args.at c.in_ok-entry.entry = subst (λ t. t ≡ get_or xs c.args.at t) (sym c.in_ok-entry.ensures) (rw c.deref.ensures at c.index-old.ensures) in
    let taken = subst (λ t. IsTaken t ((joined g.T.Entry.rows) c.in_ok-entry.entry) ((joined g.T.Entry.rows) c.take_out.new.self) c.args.row.now) c.in-Missing.is c.in_ok-taken.ensures.ok in
    take-still (joined g.T.Entry.rows) xs c.args.at c.in_ok-entry.entry _ c.args.row.now c.requires.place is taken

pub returns-in_ok-splice_copy-in-Out-clause-ok : goal.returns-in_ok-splice_copy-in-Out-clause-ok
returns-in_ok-splice_copy-in-Out-clause-ok g c =
    let xs = (arc_value c.args.entries.now).items in
    let is : c.in_ok-entry.entry ≡ get_or xs c.args.at c.in_ok-entry.entry = subst (λ t. t ≡ get_or xs c.args.at t) (sym c.in_ok-entry.ensures) (rw c.deref.ensures at c.index-old.ensures) in
    let taken = subst (λ t. IsTaken t ((joined g.T.Entry.rows) c.in_ok-entry.entry) ((joined g.T.Entry.rows) c.take_out.new.self) c.args.row.now) c.in-Out.is c.in_ok-taken.ensures.ok in
    rw (c.in_ok-splice_copy-in-Out.ensures.ok ∙ splice-one xs c.args.at c.take_out.new.self c.requires.place.within)
    (take-out (joined g.T.Entry.rows) xs c.args.at c.in_ok-entry.entry c.take_out.new.self c.args.row.now c.requires.place is taken)

pub returns-in_ok-splice_copy-in-Last-clause-ok : goal.returns-in_ok-splice_copy-in-Last-clause-ok
returns-in_ok-splice_copy-in-Last-clause-ok g c =
    let xs = (arc_value c.args.entries.now).items in
    let is : c.in_ok-entry.entry ≡ get_or xs c.args.at c.in_ok-entry.entry = subst (λ t. t ≡ get_or xs c.args.at t) (sym c.in_ok-entry.ensures) (rw c.deref.ensures at c.index-old.ensures) in
    let taken = subst (λ t. IsTaken t ((joined g.T.Entry.rows) c.in_ok-entry.entry) ((joined g.T.Entry.rows) c.take_out.new.self) c.args.row.now) c.in-Last.is c.in_ok-taken.ensures.ok in
    rw (c.in_ok-splice_copy-in-Last.ensures.ok ∙ splice-none xs c.args.at)
    (take-entry (joined g.T.Entry.rows) xs c.args.at c.in_ok-entry.entry _ c.args.row.now c.requires.place is taken)
