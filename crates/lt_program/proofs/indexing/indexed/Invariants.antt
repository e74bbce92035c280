use Rattle.std.proofs.Common.{◌≡◌, take}
use Rattle.lt_base.specs.Tables.{state_of}
use Rattle.lt_program.proofs.IndexesMade.{AreMade}
use Rattle.lt_program.proofs.indexing.indexed.Given as goal

abbrev pub invariant-loop-name : goal.invariant-loop-name
invariant-loop-name g l = record {
  state : state_of l.db ≡ state_of l.fn.base;
  made : AreMade l.fn.base (take l.name-index l.name-items) l.db;
}
