use Rattle.std.proofs.Common.{◌≡◌, ◌∙◌, sym, subst, refl, get_or}
use Rattle.std.specs.Arc.{arc_value}
use Rattle.lt_shared.specs.Entries.{joined, IsPut}
use Rattle.lt_shared.proofs.Joins.{ascending-at}
use Rattle.lt_shared.proofs.Edits.{put-still, put-fits, put-two, put-halves}
use Rattle.lt_shared.proofs.Parts.{splice-one, splice-two}
use Rattle.lt_shared.proofs.edit.put_shared.Goals as goal

pub put-requires : goal.put-requires
put-requires g c =
    let xs = (arc_value c.args.entries.now).items in
    let is : c.in_ok-entry.entry ≡ get_or xs c.args.at c.in_ok-entry.entry = subst (λ t. t ≡ get_or xs c.args.at t) (sym c.in_ok-entry.ensures) (rw c.deref.ensures at c.index-old.ensures) in
    ascending-at (joined g.T.Entry.rows) xs c.args.at c.in_ok-entry.entry c.requires.rises c.requires.place.within is

pub returns-then-len-limit-clause-ok : goal.returns-then-len-limit-clause-ok
returns-then-len-limit-clause-ok g c =
    let xs = (arc_value c.args.entries.now).items in
    let is : c.in_ok-entry.entry ≡ get_or xs c.args.at c.in_ok-entry.entry = subst (λ t. t ≡ get_or xs c.args.at t) (sym c.in_ok-entry.ensures) (rw c.deref.ensures at c.index-old.ensures) in
    let put = subst (λ p. IsPut (joined g.T.Entry.rows) p ((joined g.T.Entry.rows) c.in_ok-entry.entry) ((joined g.T.Entry.rows) c.put.new.self) c.args.row.now) c.in-Halves.is c.in_ok-put.ensures.ok in
    rw (c.in_ok-splice_copy-in-Halves.ensures.ok ∙ splice-two xs c.args.at c.in-Halves.a c.in-Halves.b)
    (put-two (joined g.T.Entry.rows) _ xs c.args.at c.in_ok-entry.entry c.in-Halves.a c.in-Halves.b _ c.args.row.now c.requires.place is put)

pub returns-in-Was-clause-ok : goal.returns-in-Was-clause-ok
returns-in-Was-clause-ok g c =
    let xs = (arc_value c.args.entries.now).items in
    let is : c.in_ok-entry.entry ≡ get_or xs c.args.at c.in_ok-entry.entry = subst (λ t. t ≡ get_or xs c.args.at t) (sym c.in_ok-entry.ensures) (rw c.deref.ensures at c.index-old.ensures) in
    let put = subst (λ p. IsPut (joined g.T.Entry.rows) p ((joined g.T.Entry.rows) c.in_ok-entry.entry) ((joined g.T.Entry.rows) c.put.new.self) c.args.row.now) c.in-Was.is c.in_ok-put.ensures.ok in
    put-still (joined g.T.Entry.rows) _ xs c.args.at c.in_ok-entry.entry _ c.args.row.now c.requires.place is put

pub returns-in_ok-splice_copy-in-Fits-clause-ok : goal.returns-in_ok-splice_copy-in-Fits-clause-ok
returns-in_ok-splice_copy-in-Fits-clause-ok g c =
    let xs = (arc_value c.args.entries.now).items in
    let is : c.in_ok-entry.entry ≡ get_or xs c.args.at c.in_ok-entry.entry = subst (λ t. t ≡ get_or xs c.args.at t) (sym c.in_ok-entry.ensures) (rw c.deref.ensures at c.index-old.ensures) in
    let put = subst (λ p. IsPut (joined g.T.Entry.rows) p ((joined g.T.Entry.rows) c.in_ok-entry.entry) ((joined g.T.Entry.rows) c.put.new.self) c.args.row.now) c.in-Fits.is c.in_ok-put.ensures.ok in
    rw (c.in_ok-splice_copy-in-Fits.ensures.ok ∙ splice-one xs c.args.at c.put.new.self c.requires.place.within)
    (put-fits (joined g.T.Entry.rows) _ xs c.args.at c.in_ok-entry.entry c.put.new.self c.args.row.now c.requires.place is put)

pub returns-in_ok-first-in-Halves-clause-ok : goal.returns-in_ok-first-in-Halves-clause-ok
returns-in_ok-first-in-Halves-clause-ok g c =
    let xs = (arc_value c.args.entries.now).items in
    let is : c.in_ok-entry.entry ≡ get_or xs c.args.at c.in_ok-entry.entry = subst (λ t. t ≡ get_or xs c.args.at t) (sym c.in_ok-entry.ensures) (rw c.deref.ensures at c.index-old.ensures) in
    let put = subst (λ p. IsPut (joined g.T.Entry.rows) p ((joined g.T.Entry.rows) c.in_ok-entry.entry) ((joined g.T.Entry.rows) c.put.new.self) c.args.row.now) c.in-Halves.is c.in_ok-put.ensures.ok in
    let all = rw (c.deref-in-Halves-4.ensures.value, c.deref-in-Halves-3.ensures) at c.in_ok-first-in-Halves.ensures.all ∙ splice-two xs c.args.at c.in-Halves.a c.in-Halves.b in
    put-halves (joined g.T.Entry.rows) _ xs c.args.at c.in_ok-entry.entry c.in-Halves.a c.in-Halves.b _ _ c.in_ok-first-in-Halves.first.items c.in_ok-first-in-Halves.second.items
    c.in_ok-first-in-Halves.first c.in_ok-first-in-Halves.second c.args.row.now c.requires.place is put all refl refl refl
