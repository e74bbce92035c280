use Rattle.std.proofs.Common.{subst}
use Rattle.lt_shared.specs.Entries.{joined, IsTaken}
use Rattle.lt_shared.proofs.Joins.{ascending-at}
use Rattle.lt_shared.proofs.Edits.{take-missing, take-out, take-entry-in, joined-same, on_err}
use Rattle.lt_shared.proofs.edit.take_alone.Goals as goal

pub take_out-requires : goal.take_out-requires
take_out-requires g c = ascending-at (joined g.T.Entry.rows) c.args.entries.now.items c.args.at c.index_mut-entry.result.now c.requires.rises c.requires.place.within c.index_mut-entry.ensures.value

pub returns-in_err-taken-clause-err : goal.returns-in_err-taken-clause-err
returns-in_err-taken-clause-err g c =
    on_err c.from_residual.result _ (joined-same (joined g.T.Entry.rows) c.args.entries.now.items c.args.at c.index_mut-entry.result.now c.take_out.new.self c.requires.place.within c.index_mut-entry.ensures.value c.in_err-taken.ensures.err)

pub returns-in-Missing-clause-ok : goal.returns-in-Missing-clause-ok
returns-in-Missing-clause-ok g c =
    let taken = subst (λ t. IsTaken t ((joined g.T.Entry.rows) c.index_mut-entry.result.now) ((joined g.T.Entry.rows) c.take_out.new.self) c.args.row.now) c.in-Missing.is c.in_ok-taken.ensures.ok in
    take-missing (joined g.T.Entry.rows) c.args.entries.now.items c.args.at c.index_mut-entry.result.now c.take_out.new.self c.args.row.now c.requires.place c.index_mut-entry.ensures.value taken

pub returns-in-Out-clause-ok : goal.returns-in-Out-clause-ok
returns-in-Out-clause-ok g c =
    let taken = subst (λ t. IsTaken t ((joined g.T.Entry.rows) c.index_mut-entry.result.now) ((joined g.T.Entry.rows) c.take_out.new.self) c.args.row.now) c.in-Out.is c.in_ok-taken.ensures.ok in
    take-out (joined g.T.Entry.rows) c.args.entries.now.items c.args.at c.index_mut-entry.result.now c.take_out.new.self c.args.row.now c.requires.place c.index_mut-entry.ensures.value taken

pub returns-else-len-eq1-clause-ok : goal.returns-else-len-eq1-clause-ok
returns-else-len-eq1-clause-ok g c =
    let taken = subst (λ t. IsTaken t ((joined g.T.Entry.rows) c.index_mut-entry.result.now) ((joined g.T.Entry.rows) c.take_out.new.self) c.args.row.now) c.in-Last.is c.in_ok-taken.ensures.ok in
    rw c.remove.ensures.items
    (take-entry-in (joined g.T.Entry.rows) c.args.entries.now.items c.args.at c.index_mut-entry.result.now c.take_out.new.self _ c.args.row.now c.requires.place c.index_mut-entry.ensures.value taken)
