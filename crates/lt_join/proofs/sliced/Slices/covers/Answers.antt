use Rattle.std.proofs.Common.{◌≡◌, sym, subst}
use Rattle.lt_sense.specs.Kept.{Sense}
use Rattle.lt_sense.specs.ByKey.{united_by_key}
use Rattle.lt_sense.specs.Gathered.{IsAskable}
use Rattle.lt_sense.specs.Sense.{covers}
use Rattle.lt_join.specs.Sliced.{united}
use Rattle.lt_join.specs.Slices.{SlicesView}
use Rattle.lt_join.proofs.Keyed.{united_is}
use Rattle.lt_join.proofs.sliced.Slices.covers.Goals as goal

pub returns : goal.returns
returns c =
    let s = c.self.inside in
    let is : united c.args.self.now.root c.args.self.now.slices ≡ united_by_key s.sense =
    subst (λ (v : SlicesView). united v.root v.slices ≡ united_by_key s.sense) c.self.view_is (united_is s.sense.root s.rows.items s.sense.slices) in
    subst (λ (all : Sense). IsAskable all c.args.relation c.args.row.now → c.covers.result ≡ covers all c.args.relation c.args.row.now) (sym is) c.covers.ensures
