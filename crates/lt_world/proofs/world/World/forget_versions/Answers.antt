use Rattle.std.proofs.Common.{List, map, sym, ap}
use Rattle.lt_base.specs.Tables.{Table, state_of}
use Rattle.lt_world.proofs.world.World.forget_versions.Goals as goal

pub returns : goal.returns
returns c = λ m s. record {
  schema = s.schema;
  some = s.some;
  widths = s.widths;
  state = s.state;
  versions = sym (ap (λ (vs : List (List Table)). map state_of vs) c.in_ok-self.ensures);
  older = tt;
}
