use Rattle.std.proofs.Common.{◌≡◌, map, subst}
use Rattle.std.specs.Arc.{arc_value}
use Rattle.lt_model.specs.Marks.{Marks}
use Rattle.lt_delta.specs.Finding.{IsPlaceFor}
use Rattle.lt_delta.proofs.Puts.{before_each, after_each}
use Rattle.lt_delta.proofs.marks.Marks.place_for.Goals as goal

pub returns : goal.returns
returns c =
    let same : map arc_value c.deref-2.result.now ≡ c.args.self.now = rw (c.deref-2.ensures.value, c.deref.ensures) c.self.view_is in
    let place : IsPlaceFor c.args.self.now c.args.relation c.args.row.now c.place_for.result = subst (λ (marks : Marks). IsPlaceFor marks c.args.relation c.args.row.now c.place_for.result) same c.place_for.ensures in
    record {
      within = place.within;
      before = before_each c.args.self.now c.args.relation c.args.row.now c.place_for.result place;
      after = after_each c.args.self.now c.args.relation c.args.row.now c.place_for.result place;
    }
