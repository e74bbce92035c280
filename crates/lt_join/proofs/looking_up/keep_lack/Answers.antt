use Rattle.std.proofs.Common.{ℕ, Option, List, [], ◌∷◌, ◌++◌, length, sym, ap, ◌∙◌, arith}
use Rattle.std.specs.Option.{option_to_list}
use Rattle.lt_join.proofs.LookingUp.{length_below, gap_kept, popped_none}
use Rattle.lt_join.proofs.looking_up.keep_lack.Goals as goal

pub add_gap-requires-clause-narrow : goal.add_gap-requires-clause-narrow
add_gap-requires-clause-narrow g c = let n = ap length c.requires.columns ∙ length_below (length c.args.row) in omega (arith, n, c.requires.narrow)

pub returns-clause-grows : goal.returns-clause-grows
returns-clause-grows g c =
    (gap_kept (g.I.Indexes.state c.args._tables.now) c.args.sense.now c.add_gap.new.self c.args.relation c.in-Some.cell c.args.columns.now c.cells.result.now c.args.row
    (c.in_ok-add_gap.ensures.kept (omega arith)) c.in_ok-add_gap.ensures.hits c.requires.tight c.requires.columns (c.pop.ensures.cells ∙ (ap (λ (o : Option ℕ). c.pop.new.self ++ option_to_list o) c.in-Some.is ∙ ap (λ (p : List ℕ). p ++ c.in-Some.cell ∷ []) (sym c.cells.ensures.cells))) c.requires.wide c.requires.absent).0

pub returns-clause-tight : goal.returns-clause-tight
returns-clause-tight g c =
    (gap_kept (g.I.Indexes.state c.args._tables.now) c.args.sense.now c.add_gap.new.self c.args.relation c.in-Some.cell c.args.columns.now c.cells.result.now c.args.row
    (c.in_ok-add_gap.ensures.kept (omega arith)) c.in_ok-add_gap.ensures.hits c.requires.tight c.requires.columns (c.pop.ensures.cells ∙ (ap (λ (o : Option ℕ). c.pop.new.self ++ option_to_list o) c.in-Some.is ∙ ap (λ (p : List ℕ). p ++ c.in-Some.cell ∷ []) (sym c.cells.ensures.cells))) c.requires.wide c.requires.absent).1

pub returns-clause-kept : goal.returns-clause-kept
returns-clause-kept g c =
    (gap_kept (g.I.Indexes.state c.args._tables.now) c.args.sense.now c.add_gap.new.self c.args.relation c.in-Some.cell c.args.columns.now c.cells.result.now c.args.row
    (c.in_ok-add_gap.ensures.kept (omega arith)) c.in_ok-add_gap.ensures.hits c.requires.tight c.requires.columns (c.pop.ensures.cells ∙ (ap (λ (o : Option ℕ). c.pop.new.self ++ option_to_list o) c.in-Some.is ∙ ap (λ (p : List ℕ). p ++ c.in-Some.cell ∷ []) (sym c.cells.ensures.cells))) c.requires.wide c.requires.absent).2

pub returns-in_default-clause-kept : goal.returns-in_default-clause-kept
returns-in_default-clause-kept g c = absurd (popped_none c.args.row c.pop.new.self c.pop.result c.in_default.is c.pop.ensures.cells c.pop.ensures.rest c.requires.some)
