use Rattle.std.proofs.Common.{◌≡◌, true, subst}
use Rattle.std.specs.Result.{OnOk}
use Rattle.std.proofs.lemmas.Result.{on_ok_weaker}
use Rattle.lt_sense.specs.Kept.{Sense}
use Rattle.lt_sense.specs.ByKey.{GainsJust, touches}
use Rattle.lt_sense.specs.Gathered.{IsAskable}
use Rattle.lt_join.specs.Mended.{Touches}
use Rattle.lt_join.specs.Sliced.{united}
use Rattle.lt_join.specs.Slices.{SlicesView, slices_of}
use Rattle.lt_join.proofs.Keyed.{united_is}
use Rattle.lt_join.proofs.TouchedBy.{gains_alike, touches_from, touches_to}
use Rattle.lt_join.proofs.sliced.Slices.add_touched.Goals as goal

pub returns : goal.returns
returns c =
    let s = c.self.inside in
    let relation = c.args.relation in
    let row = c.args.row.now in
    let old = c.args.keys.now.items in
    let new = c.add_touched.new.keys.items in
    subst (λ (v : SlicesView). IsAskable (united v.root v.slices) relation row → OnOk c.add_touched.result (GainsJust (λ k. Touches v.root v.slices relation row k) old new)) c.self.view_is
    (λ askable.
    on_ok_weaker c.add_touched.result
    (gains_alike (λ k. touches s.sense k relation row ≡ true) (λ k. Touches s.sense.root (slices_of s.rows.items s.sense.slices) relation row k) old new
    (λ k h. touches_to s.sense.root s.rows.items s.sense.slices c.self.invariant.1 k relation row h) (λ k h. touches_from s.sense.root s.rows.items s.sense.slices c.self.invariant.1 k relation row h))
    (c.add_touched.ensures (subst (λ (all : Sense). IsAskable all relation row) (united_is s.sense.root s.rows.items s.sense.slices) askable)))
