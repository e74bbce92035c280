use Rattle.std.proofs.Common.{◌∙◌, ◌*◌, length, ap, arith}
use Rattle.std.specs.Arc.{arc_value}
use Rattle.std.proofs.lemmas.Result.{IfOk-weaker}
use Rattle.lt_readers.specs.Boards.{posted}
use Rattle.lt_runs.proofs.Beginning.{come_beside, first_few, first_within, fits_first, most_first, schema_is, to_post}
use Rattle.lt_runs.proofs.beside.run_beside.Goals as goal

pub opened-requires-clause-within : goal.opened-requires-clause-within
opened-requires-clause-within g c = λ lifetimes outlive.
    let asked = c.args.generated in
    first_within asked.seed asked.items asked.programs c.args.script.items c.split_off.new.self.items c.in_ok-batches.batches.items c.requires.script c.in_ok-batches.ensures.items c.in_ok-batches.ensures.tail c.requires.within

pub opened-requires-clause-few : goal.opened-requires-clause-few
opened-requires-clause-few g c = λ lifetimes outlive.
    let asked = c.args.generated in
    first_few asked.seed asked.items asked.programs c.args.script.items c.split_off.new.self.items c.in_ok-batches.batches.items c.requires.script c.in_ok-batches.ensures.items c.in_ok-batches.ensures.tail

pub asked-requires : goal.asked-requires
asked-requires g c =
    let asked = c.args.generated in
    schema_is asked.seed asked.items asked.programs c.args.script.items c.split_off.new.self.items c.in_ok-batches.batches.items c.requires.script c.in_ok-batches.ensures.items c.in_ok-batches.ensures.tail c.in_ok-come.come c.in_ok-come.ensures.run

pub read_beside-read-requires-clause-post : goal.read_beside-read-requires-clause-post
read_beside-read-requires-clause-post g c = λ lifetimes outlive.
    let asked = c.args.generated in
    to_post asked.seed asked.items asked.programs c.args.script.items c.split_off.new.self.items c.in_ok-batches.batches.items c.requires.script c.in_ok-batches.ensures.items c.in_ok-batches.ensures.tail c.in_ok-come.come c.in_ok-come.ensures.run
    c.args.workers _ (posted c.in_ok-board.board.0) c.requires.workers.0 c.requires.workers.1 c.requires.within c.requires.few c.in_ok-board.ensures.posted (omega (arith, c.len.ensures))

pub read_beside-read-requires-clause-most : goal.read_beside-read-requires-clause-most
read_beside-read-requires-clause-most g c = λ lifetimes outlive. most_first _ _ (length c.in_ok-batches.batches.items) (posted c.in_ok-board.board.0) c.in_ok-board.ensures.posted (omega (arith, c.len.ensures))

pub read_beside-read-requires-clause-one : goal.read_beside-read-requires-clause-one
read_beside-read-requires-clause-one g c = λ lifetimes outlive. ap length c.in_ok-board.ensures.posted

pub read_beside-read-requires-clause-few : goal.read_beside-read-requires-clause-few
read_beside-read-requires-clause-few g c = λ lifetimes outlive. omega (arith, c.in_ok-board.ensures.count, c.requires.readers.1)

pub read_beside-read-requires-clause-seen : goal.read_beside-read-requires-clause-seen
read_beside-read-requires-clause-seen g c = λ lifetimes outlive. c.in_ok-board.ensures.seen

pub read_beside-read-requires-clause-fits : goal.read_beside-read-requires-clause-fits
read_beside-read-requires-clause-fits g c = λ lifetimes outlive.
    let asked = c.args.generated in
    fits_first asked.seed asked.items asked.programs c.args.script.items c.split_off.new.self.items c.in_ok-batches.batches.items c.requires.script c.in_ok-batches.ensures.items c.in_ok-batches.ensures.tail c.in_ok-come.come c.in_ok-come.ensures.run
    (arc_value c.in_ok-asked.asked) _ (posted c.in_ok-board.board.0) c.in_ok-board.ensures.posted c.in_ok-asked.ensures

pub returns-clause-come : goal.returns-clause-come
returns-clause-come g c =
    let asked = c.args.generated in
    come_beside asked.seed asked.items asked.programs c.args.script.items c.split_off.new.self.items c.in_ok-batches.batches.items c.requires.script c.in_ok-batches.ensures.items c.in_ok-batches.ensures.tail c.in_ok-come.come c.in_ok-come.ensures.run
    (λ out. out.0) c.read_beside-read.result (c.read_beside-read.ensures.come c.split_off.new.self.items c.in_ok-come.ensures.run)

pub returns-clause-programs : goal.returns-clause-programs
returns-clause-programs g c = IfOk-weaker c.read_beside-read.result _ _ (λ out h. h ∙ c.in_ok-come.ensures.programs) c.read_beside-read.ensures.programs

pub returns-clause-reads : goal.returns-clause-reads
returns-clause-reads g c = IfOk-weaker c.read_beside-read.result _ _ (λ out h. h ∙ ap (λ n. 16 * n) c.in_ok-board.ensures.count) c.read_beside-read.ensures.reads

pub returns-clause-equal : goal.returns-clause-equal
returns-clause-equal g c = IfOk-weaker c.read_beside-read.result _ _ (λ out h. h ∙ ap (λ n. 16 * n) c.in_ok-board.ensures.count) c.read_beside-read.ensures.equal
