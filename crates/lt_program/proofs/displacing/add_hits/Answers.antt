use Rattle.std.proofs.Common.{arith}
use Rattle.lt_program.proofs.KeysLooked.{hits_all}
use Rattle.lt_program.proofs.displacing.add_hits.Goals as goal

pub returns-clause-hits : goal.returns-clause-hits
returns-clause-hits c = hits_all c.args.relation c.args.rows.now c.loop-row.row-index c.args.sense.now.hits c.loop-row.sense.hits (omega (arith, c.loop-row-test.false)) c.loop-row.invariant.hits
