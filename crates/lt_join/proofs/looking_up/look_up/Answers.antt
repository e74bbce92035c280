use Rattle.std.proofs.Common.{length, sym, ◌∙◌}
use Rattle.lt_join.proofs.LookingUp.{hit_kept, looked_there, looked_absent, look_up_wide}
use Rattle.lt_join.proofs.looking_up.look_up.Goals as goal

pub returns-then-has-clause-grows : goal.returns-then-has-clause-grows
returns-then-has-clause-grows g c =
    (hit_kept (g.I.Indexes.state c.args.tables.now) c.args.sense.now c.add_hit.new.self (record { relation = c.args.relation; row = c.args.row }) c.in_ok-add_hit.ensures.kept c.in_ok-add_hit.ensures.gaps c.requires.tight
    (looked_there (g.I.Indexes.state c.args.tables.now) c.args.relation c.args.row c.args.look_up.now c.requires.is (sym c.has.ensures ∙ c.if-has.true))).0

pub returns-then-has-clause-tight : goal.returns-then-has-clause-tight
returns-then-has-clause-tight g c =
    (hit_kept (g.I.Indexes.state c.args.tables.now) c.args.sense.now c.add_hit.new.self (record { relation = c.args.relation; row = c.args.row }) c.in_ok-add_hit.ensures.kept c.in_ok-add_hit.ensures.gaps c.requires.tight
    (looked_there (g.I.Indexes.state c.args.tables.now) c.args.relation c.args.row c.args.look_up.now c.requires.is (sym c.has.ensures ∙ c.if-has.true))).1

pub returns-then-has-clause-found : goal.returns-then-has-clause-found
returns-then-has-clause-found g c = λ e.
    (hit_kept (g.I.Indexes.state c.args.tables.now) c.args.sense.now c.add_hit.new.self (record { relation = c.args.relation; row = c.args.row }) c.in_ok-add_hit.ensures.kept c.in_ok-add_hit.ensures.gaps c.requires.tight
    (looked_there (g.I.Indexes.state c.args.tables.now) c.args.relation c.args.row c.args.look_up.now c.requires.is (sym c.has.ensures ∙ c.if-has.true))).2

pub keep_lack-requires-clause-wide : goal.keep_lack-requires-clause-wide
keep_lack-requires-clause-wide g c = look_up_wide (g.I.Indexes.state c.args.tables.now) c.args.relation (length c.args.row) c.args.look_up.now c.requires.is

pub keep_lack-requires-clause-absent : goal.keep_lack-requires-clause-absent
keep_lack-requires-clause-absent g c = looked_absent (g.I.Indexes.state c.args.tables.now) c.args.relation c.args.row c.args.look_up.now c.requires.is (sym c.has.ensures ∙ c.if-has.false)
