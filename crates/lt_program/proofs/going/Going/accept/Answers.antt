use Rattle.std.proofs.Common.{◌∙◌, sym, ap}
use Rattle.lt_program.specs.declared.going.Going.{Going}
use Rattle.lt_program.specs.Alone.{with_prints}
use Rattle.lt_program.proofs.Firsts.{refusal, acceptance}
use Rattle.lt_program.proofs.going.Going.accept.Goals as goal

pub returns-then-refused_by : goal.returns-then-refused_by
returns-then-refused_by c =
    refusal c.args.number c.args.stmt.now c.args.outcome c.args.keeps c.args.logs c.args.self.now c.args.db.now c.refuse.new.self c.refuse.new.db
    (sym c.refused_by.ensures ∙ c.if-refused_by.true) c.in_ok-refuse.ensures.reply c.in_ok-refuse.ensures.marks c.in_ok-refuse.ensures.state c.in_ok-refuse.ensures.indexes

pub returns : goal.returns
returns c =
    acceptance c.args.number c.args.stmt.now c.args.outcome c.args.keeps c.args.logs c.args.self.now c.args.db.now c.print.new.self c.write.new.db c.write.new.undo.items
    (sym c.refused_by.ensures ∙ c.if-refused_by.false)
    (ap (λ (g : Going). g.reply) c.in_ok-print.ensures ∙ ap (λ (g : Going). with_prints c.args.number c.args.stmt.now c.args.outcome g.reply) c.in_ok-keep.ensures)
    (ap (λ (g : Going). g.marks) c.in_ok-print.ensures ∙ ap (λ (g : Going). g.marks) c.in_ok-keep.ensures)
    (ap (λ (g : Going). g.undo.items) c.in_ok-print.ensures ∙ ap (λ (g : Going). g.undo.items) c.in_ok-keep.ensures)
    c.in_ok-write.ensures
