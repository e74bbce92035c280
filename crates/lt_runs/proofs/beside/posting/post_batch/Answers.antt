use Rattle.std.proofs.Common.{◌∙◌, ap, false, length}
use Rattle.std.proofs.lemmas.List.{length-append}
use Rattle.lt_readers.specs.Boards.{posted}
use Rattle.lt_runs.proofs.Posted.{ends_somewhere, first_stays, posted_more, relations_kept, room_behind, widths_now}
use Rattle.lt_runs.proofs.beside.posting.post_batch.Goals as goal

pub post-requires-clause-room : goal.post-requires-clause-room
post-requires-clause-room g c =
    let w = c.requires.world in
    let p = c.requires.posted in
    room_behind p.0 c.args.come.now.world w.model w.shows (posted c.args.poster.now) p.1 p.2

pub post-requires-clause-relations : goal.post-requires-clause-relations
post-requires-clause-relations g c = λ v ends.
    let w = c.requires.world in
    let p = c.requires.posted in
    let after = c.in_ok-count_batch.ensures.world false w.model w.shows in
    relations_kept p.0 c.args.come.now.world w.model w.shows (posted c.args.poster.now) p.1 v ends _ (widths_now p.0 c.args.come.now.world w.model w.shows (posted c.args.poster.now) p.1 c.count_batch.new.world c.args.programs.now after)

pub returns-clause-posted : goal.returns-clause-posted
returns-clause-posted g c = λ most p.
    let w = c.requires.world in
    let q = c.requires.posted in
    let log = posted c.args.poster.now in
    let e = ends_somewhere log q.1.first q.1.begins in
    let room = room_behind q.0 c.args.come.now.world w.model w.shows log q.1 q.2 e.0 e.1 in
    let after = c.in_ok-count_batch.ensures.world false w.model w.shows in
    let ok = c.in_ok-_number.ensures.ok e.0 e.1 in
    posted_more most c.args.come.now.world w.model w.shows log p c.count_batch.new.world c.args.programs.now after c.in_ok-_number._number e.0 (posted c.post.new.self) e.1 room ok.0 ok.1

pub returns-clause-longer : goal.returns-clause-longer
returns-clause-longer g c =
    let q = c.requires.posted in
    let log = posted c.args.poster.now in
    let e = ends_somewhere log q.1.first q.1.begins in
    let ok = c.in_ok-_number.ensures.ok e.0 e.1 in
    ap length ok.1 ∙ length-append log _

pub returns-clause-first : goal.returns-clause-first
returns-clause-first g c =
    let q = c.requires.posted in
    let log = posted c.args.poster.now in
    let e = ends_somewhere log q.1.first q.1.begins in
    let ok = c.in_ok-_number.ensures.ok e.0 e.1 in
    first_stays log (posted c.post.new.self) _ ok.1
