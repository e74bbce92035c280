use Rattle.std.proofs.Common.{◌≡◌, refl, subst}
use Rattle.std.specs.Arc.{arc_value}
use Rattle.lt_face.specs.Rows.{IsAscending}
use Rattle.lt_shared.proofs.Gathered.{joined-rows}
use Rattle.lt_shared.proofs.Parts.{put-found, put-absent, put-parted}
use Rattle.lt_shared.proofs.rows.RowListed.put_among.Goals.{in-Some+else-len-lt-LIMIT, in-None+else-len-lt-SHARED_LIMIT}
use Rattle.lt_shared.proofs.rows.RowListed.put_among.Goals as goal

pub search-requires-clause-rises : goal.search-requires-clause-rises
search-requires-clause-rises g c =
    rw (c.deref-2.ensures.value, c.deref.ensures) (subst IsAscending (joined-rows (arc_value c.args.entries.now).items) c.requires.rises)

pub returns-in-Ok-clause-ok : goal.returns-in-Ok-clause-ok
returns-in-Ok-clause-ok g c =
    put-found _ (arc_value c.args.entries.now).items c.args.row.now c.in-Ok.field-0 (rw (c.deref-2.ensures.value, c.deref.ensures) at c.in-Ok.ensures.found)

pub returns-then-len-lt-LIMIT-clause-ok : goal.returns-then-len-lt-LIMIT-clause-ok
returns-then-len-lt-LIMIT-clause-ok g c =
    put-absent _ (arc_value c.args.entries.now).items c.insert.new.self.items c.args.row.now c.in-Err.at
    (rw (c.deref-2.ensures.value, c.deref.ensures) at c.in-Err.ensures.absent) (rw (c.copy_row.ensures, c.in-Some.ensures.value) at c.in_ok-insert-in-Some.ensures.items)

pub returns-then-len-lt-SHARED_LIMIT-clause-ok : goal.returns-then-len-lt-SHARED_LIMIT-clause-ok
returns-then-len-lt-SHARED_LIMIT-clause-ok g c =
    put-absent _ (arc_value c.args.entries.now).items (arc_value c.splice_copy.new.entries).items c.args.row.now c.in-Err.at
    (rw (c.deref-2.ensures.value, c.deref.ensures) at c.in-Err.ensures.absent) (rw c.from_ref.ensures.value at c.in_ok-splice_copy-in-None.ensures.ok)

pub returns-clause-ok : goal.returns-clause-ok
returns-clause-ok g c =
    let same : (arc_value c.match-get_mut.entries).items ≡ (arc_value c.args.entries.now).items =
    elim c.match-get_mut.branch [
      | in-Some+else-len-lt-LIMIT w ↦ rw w.entries-is (rw w.in-Some.ensures.value refl)
      | in-None+else-len-lt-SHARED_LIMIT w ↦ rw w.entries-is refl
    ] in
    put-parted _ (arc_value c.args.entries.now).items (arc_value c.match-get_mut.entries).items c.in_ok-first.first.items c.in_ok-first.second.items
    c.in_ok-first.first c.in_ok-first.second c.args.row.now c.in-Err.at (rw (c.deref-2.ensures.value, c.deref.ensures) at c.in-Err.ensures.absent)
    (rw (c.from_ref-2.ensures.value, c.deref-5.ensures.value, c.deref-4.ensures, same) at c.in_ok-first.ensures.all) refl refl same
