use Rattle.std.proofs.Common.{◌∙◌, ℕ, length, sym, ap, subst}
use Rattle.std.specs.Arc.{arc_value}
use Rattle.std.specs.List.{AllByRecursion}
use Rattle.lt_face.proofs.RowLemmas.{each_weaker}
use Rattle.lt_model.specs.declared.reply.Reply.{Reply}
use Rattle.lt_readers.specs.Boards.{posted, seen, told}
use Rattle.lt_runs.specs.Reading.{IsRight, MayCompare}
use Rattle.lt_runs.proofs.Compared.{all_right, may_compare}
use Rattle.lt_runs.proofs.beside.comparing.compare_one.Goals as goal

pub learn-requires : goal.learn-requires
learn-requires g c = record { board = c.in_ok-told.ensures.told.1 ∙ sym c.requires.asked.board_is }

pub equal_of-requires-clause-fits : goal.equal_of-requires-clause-fits
equal_of-requires-clause-fits g c = λ lifetimes outlive.
    let program = arc_value c.args.asked.now in
    let versions = c.args.versions.now in
    let right = all_right program versions (posted c.args.poster.now) (seen c.args.asker.reader) (told c.in_ok-told.told) (seen c.learn.new.self) c.args.asker.answers.items c.requires.posted c.requires.ready
    c.in_ok-told.ensures.told.0 c.learn.ensures.seen c.learn.ensures.history c.requires.asked.each in
    rw c.as_slice-answers.ensures.value (each_weaker (IsRight program versions) (λ (answer : ℕ × Reply). MayCompare program versions answer.0) (may_compare program versions) c.args.asker.answers.items right)

pub returns-clause-reads : goal.returns-clause-reads
returns-clause-reads g c = ap length c.as_slice-answers.ensures.value ∙ c.requires.asked.count_is

pub returns-clause-equal : goal.returns-clause-equal
returns-clause-equal g c =
    let program = arc_value c.args.asked.now in
    let versions = c.args.versions.now in
    let right = all_right program versions (posted c.args.poster.now) (seen c.args.asker.reader) (told c.in_ok-told.told) (seen c.learn.new.self) c.args.asker.answers.items c.requires.posted c.requires.ready
    c.in_ok-told.ensures.told.0 c.learn.ensures.seen c.learn.ensures.history c.requires.asked.each in
    c.in_ok-equal.ensures.all (subst (AllByRecursion (IsRight program versions)) (sym c.as_slice-answers.ensures.value) right) ∙ ap length c.as_slice-answers.ensures.value ∙ c.requires.asked.count_is
