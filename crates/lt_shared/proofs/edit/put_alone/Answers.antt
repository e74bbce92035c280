use Rattle.std.proofs.Common.{◌∙◌, subst, ap, refl}
use Rattle.lt_shared.specs.Entries.{joined, IsPut}
use Rattle.lt_shared.proofs.Joins.{ascending-at}
use Rattle.lt_shared.proofs.Edits.{put-was, put-fits, put-two-in, put-halves, joined-same, two_for-set, on_err}
use Rattle.lt_shared.proofs.Parts.{splice-two}
use Rattle.lt_shared.proofs.edit.put_alone.Goals as goal

pub put-requires : goal.put-requires
put-requires g c = ascending-at (joined g.T.Entry.rows) c.args.entries.now.items c.args.at c.index_mut-entry.result.now c.requires.rises c.requires.place.within c.index_mut-entry.ensures.value

pub returns-in_err-put-clause-err : goal.returns-in_err-put-clause-err
returns-in_err-put-clause-err g c =
    on_err c.from_residual.result _ (joined-same (joined g.T.Entry.rows) c.args.entries.now.items c.args.at c.index_mut-entry.result.now c.put.new.self c.requires.place.within c.index_mut-entry.ensures.value c.in_err-put.ensures.err)

pub returns-in_err-set_two-in-Halves-clause-err : goal.returns-in_err-set_two-in-Halves-clause-err
returns-in_err-set_two-in-Halves-clause-err g c =
    let put = subst (λ p. IsPut (joined g.T.Entry.rows) p ((joined g.T.Entry.rows) c.index_mut-entry.result.now) ((joined g.T.Entry.rows) c.put.new.self) c.args.row.now) c.in-Halves.is c.in_ok-put.ensures.ok in
    on_err c.from_residual-in_err-set_two-in-Halves.result _
    (ap (joined (joined g.T.Entry.rows)) c.in_err-set_two-in-Halves.ensures.err
    ∙ joined-same (joined g.T.Entry.rows) c.args.entries.now.items c.args.at c.index_mut-entry.result.now c.put.new.self c.requires.place.within c.index_mut-entry.ensures.value put.kept)

pub returns-then-len-limit-clause-ok : goal.returns-then-len-limit-clause-ok
returns-then-len-limit-clause-ok g c =
    let put = subst (λ p. IsPut (joined g.T.Entry.rows) p ((joined g.T.Entry.rows) c.index_mut-entry.result.now) ((joined g.T.Entry.rows) c.put.new.self) c.args.row.now) c.in-Halves.is c.in_ok-put.ensures.ok in
    rw c.in_ok-set_two-in-Halves.ensures.ok
    (put-two-in (joined g.T.Entry.rows) _ c.args.entries.now.items c.args.at c.index_mut-entry.result.now c.in-Halves.a c.in-Halves.b c.put.new.self _ c.args.row.now c.requires.place c.index_mut-entry.ensures.value put)

pub returns-in_err-first-in-Halves-clause-err : goal.returns-in_err-first-in-Halves-clause-err
returns-in_err-first-in-Halves-clause-err g c =
    let put = subst (λ p. IsPut (joined g.T.Entry.rows) p ((joined g.T.Entry.rows) c.index_mut-entry.result.now) ((joined g.T.Entry.rows) c.put.new.self) c.args.row.now) c.in-Halves.is c.in_ok-put.ensures.ok in
    on_err c.from_residual-in_err-first-in-Halves.result _
    (joined-same (joined g.T.Entry.rows) c.args.entries.now.items c.args.at c.index_mut-entry.result.now c.put.new.self c.requires.place.within c.index_mut-entry.ensures.value put.kept)

pub returns-in-Was-clause-ok : goal.returns-in-Was-clause-ok
returns-in-Was-clause-ok g c =
    let put = subst (λ p. IsPut (joined g.T.Entry.rows) p ((joined g.T.Entry.rows) c.index_mut-entry.result.now) ((joined g.T.Entry.rows) c.put.new.self) c.args.row.now) c.in-Was.is c.in_ok-put.ensures.ok in
    put-was (joined g.T.Entry.rows) _ c.args.entries.now.items c.args.at c.index_mut-entry.result.now c.put.new.self c.args.row.now c.requires.place c.index_mut-entry.ensures.value put

pub returns-in-Fits-clause-ok : goal.returns-in-Fits-clause-ok
returns-in-Fits-clause-ok g c =
    let put = subst (λ p. IsPut (joined g.T.Entry.rows) p ((joined g.T.Entry.rows) c.index_mut-entry.result.now) ((joined g.T.Entry.rows) c.put.new.self) c.args.row.now) c.in-Fits.is c.in_ok-put.ensures.ok in
    put-fits (joined g.T.Entry.rows) _ c.args.entries.now.items c.args.at c.index_mut-entry.result.now c.put.new.self c.args.row.now c.requires.place c.index_mut-entry.ensures.value put

pub returns-in_ok-first-in-Halves-clause-ok : goal.returns-in_ok-first-in-Halves-clause-ok
returns-in_ok-first-in-Halves-clause-ok g c =
    let put = subst (λ p. IsPut (joined g.T.Entry.rows) p ((joined g.T.Entry.rows) c.index_mut-entry.result.now) ((joined g.T.Entry.rows) c.put.new.self) c.args.row.now) c.in-Halves.is c.in_ok-put.ensures.ok in
    put-halves (joined g.T.Entry.rows) _ c.args.entries.now.items c.args.at c.index_mut-entry.result.now c.in-Halves.a c.in-Halves.b _ _ c.in_ok-first-in-Halves.first.items c.in_ok-first-in-Halves.second.items
    c.in_ok-first-in-Halves.first c.in_ok-first-in-Halves.second c.args.row.now c.requires.place c.index_mut-entry.ensures.value put
    (rw c.deref.ensures.value at c.in_ok-first-in-Halves.ensures.all ∙ splice-two _ c.args.at c.in-Halves.a c.in-Halves.b ∙ two_for-set c.args.entries.now.items c.args.at c.in-Halves.a c.in-Halves.b c.put.new.self) refl refl
    (joined-same (joined g.T.Entry.rows) c.args.entries.now.items c.args.at c.index_mut-entry.result.now c.put.new.self c.requires.place.within c.index_mut-entry.ensures.value put.kept)
