use Rattle.std.proofs.Common.{◌≡◌, ◌*◌, ◌^◌, ◌≤◌, length, take}
use Rattle.std.specs.Prelude.{sum_by}
use Rattle.lt_model.specs.declared.reply.Printed.{Printed}
use Rattle.lt_gen.proofs.summary.rows_in.Given as goal

abbrev pub invariant-prints : goal.invariant-prints
invariant-prints l = record {
  rows : l.count ≡ sum_by (λ (p : Printed). length p.rows) (take l.printed-index l.prints);
  bound : l.count ≤ 2 ^ 64 * l.printed-index;
}
