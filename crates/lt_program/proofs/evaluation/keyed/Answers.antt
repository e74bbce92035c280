use Rattle.std.proofs.Common.{◌∙◌, length, refl, sym}
use Rattle.lt_base.specs.Tables.{state_of}
use Rattle.lt_program.proofs.Parts.{one_width, looked_certified, looked_cost}
use Rattle.lt_program.proofs.evaluation.keyed.Goals as goal

pub clash-requires-clause-wide : goal.clash-requires-clause-wide
clash-requires-clause-wide g c = one_width (length c.args.head.now.terms) c.args.come c.requires.rows

pub returns-clause-keys : goal.returns-clause-keys
returns-clause-keys g c =
    looked_certified c.args.head.now c.args.keys c.args.come (state_of c.args.tables.now) c.displaced_by_all.new.sense c.displaced_by_all.new.sense refl
    c.requires.keyed (sym c.clash.ensures ∙ c.if-clash.false) c.in_ok-displaced.ensures.certified

pub returns-clause-cost : goal.returns-clause-cost
returns-clause-cost g c = looked_cost c.args.head.now c.args.keys c.args.come (state_of c.args.tables.now) c.args.moves.now c.displaced_by_all.new.moves c.requires.keyed (sym c.clash.ensures ∙ c.if-clash.false) c.displaced_by_all.ensures.cost
