use Rattle.std.proofs.Common.{List, sym, ap, ◌∙◌, subst}
use Rattle.std.specs.List.{AllByRecursion}
use Rattle.std.proofs.lemmas.Result.{IfOk-weaker}
use Rattle.lt_face.specs.Lists.{IsIn}
use Rattle.lt_face.specs.State.{State}
use Rattle.lt_query.specs.Lists.{IsRising}
use Rattle.lt_sense.specs.Kept.{Sense}
use Rattle.lt_sense.specs.ByKey.{KeySense}
use Rattle.lt_sense.specs.Cut.{cut}
use Rattle.lt_join.specs.Mended.{AreMended, AreSlicesOn, HaveTouched}
use Rattle.lt_join.specs.MendedRows.{AreJoinedIn}
use Rattle.lt_join.specs.OfKey.{AreOfOwnKeys, IsOwnSliceOf}
use Rattle.lt_join.specs.Sliced.{AreRootGaps}
use Rattle.lt_join.specs.Slices.{KeyRows, SlicesView, row_keys, sense_keys, slices_of}
use Rattle.lt_join.proofs.JoinedIn.{others_out, others_rise}
use Rattle.lt_join.proofs.JoinedKeys.{in_order, joined_keyed, joined_mends, joined_new, joined_rise}
use Rattle.lt_join.proofs.MendLaws.{mended_are_slices, root_gaps_cut}
use Rattle.lt_join.proofs.sliced.Slices.mended.Goals as goal

pub without-requires : goal.without-requires
without-requires g c = in_order c.args.keys.now c.requires.keys

pub put_joined-requires-clause-rows : goal.put_joined-requires-clause-rows
put_joined-requires-clause-rows g c = subst (λ (all : List KeyRows). IsRising (row_keys all)) (sym c.deref.ensures.value) c.self.invariant.0.rows_rise

pub put_joined-requires-clause-senses : goal.put_joined-requires-clause-senses
put_joined-requires-clause-senses g c =
    subst (λ (ss : List KeySense). IsRising (sense_keys ss)) (sym c.in_ok-sense.ensures.slices) (others_rise c.args.keys.now c.self.inside.sense.slices c.self.invariant.0.senses_rise)

pub put_joined-requires-clause-others : goal.put_joined-requires-clause-others
put_joined-requires-clause-others g c =
    subst (λ (ss : List KeySense). AllByRecursion (λ k. IsIn k c.args.keys.now → ⊥) (sense_keys ss)) (sym c.in_ok-sense.ensures.slices) (others_out c.args.keys.now c.self.inside.sense.slices)

pub of-requires-clause-keyed : goal.of-requires-clause-keyed
of-requires-clause-keyed g c =
    let s = c.self.inside in
    let found = c.in_ok-found.found in
    let keys = c.args.keys.now in
    let IsNew = IsOwnSliceOf c.args.terms.now c.args.body.now c.args.plan.now (g.I.Indexes.state c.args.indexes.now) in
    let joined : AreJoinedIn IsNew keys c.in_ok-sense.sense.slices s.rows.items found.sense.slices found.rows.items =
    subst (λ (old : List KeyRows). AreJoinedIn IsNew keys c.in_ok-sense.sense.slices old found.sense.slices found.rows.items) c.deref.ensures.value c.in_ok-found.ensures.joined in
    joined_keyed IsNew keys s.sense.slices found.sense.slices s.rows.items found.rows.items c.in_ok-sense.sense.slices c.in_ok-sense.ensures.slices joined c.self.invariant.0

pub of-requires-clause-root_gaps : goal.of-requires-clause-root_gaps
of-requires-clause-root_gaps g c =
    subst AreRootGaps (sym (c.in_ok-found.ensures.root ∙ c.in_ok-sense.ensures.root)) (root_gaps_cut c.args.keys.now c.self.inside.sense.root c.self.invariant.1)

pub returns-clause-root : goal.returns-clause-root
returns-clause-root g c =
    IfOk-weaker c.of.result _ _ (λ made is. ap (λ (v : SlicesView). v.root) is ∙ c.in_ok-found.ensures.root ∙ c.in_ok-sense.ensures.root ∙ ap (λ (v : SlicesView). cut c.args.keys.now v.root) c.self.view_is) c.of.ensures

pub returns-clause-slices : goal.returns-clause-slices
returns-clause-slices g c =
    let s = c.self.inside in
    let found = c.in_ok-found.found in
    let keys = c.args.keys.now in
    let IsNew = IsOwnSliceOf c.args.terms.now c.args.body.now c.args.plan.now (g.I.Indexes.state c.args.indexes.now) in
    let joined : AreJoinedIn IsNew keys c.in_ok-sense.sense.slices s.rows.items found.sense.slices found.rows.items =
    subst (λ (old : List KeyRows). AreJoinedIn IsNew keys c.in_ok-sense.sense.slices old found.sense.slices found.rows.items) c.deref.ensures.value c.in_ok-found.ensures.joined in
    IfOk-weaker c.of.result _ _ (λ made is.
    subst (λ (v : SlicesView). AreMended keys v.slices made.slices) c.self.view_is
    (subst (λ (w : SlicesView). AreMended keys (slices_of s.rows.items s.sense.slices) w.slices) (sym is) (joined_mends IsNew keys s.sense.slices found.sense.slices s.rows.items found.rows.items c.in_ok-sense.sense.slices c.in_ok-sense.ensures.slices joined))) c.of.ensures

pub returns-clause-own : goal.returns-clause-own
returns-clause-own g c =
    let s = c.self.inside in
    let found = c.in_ok-found.found in
    let keys = c.args.keys.now in
    let after = g.I.Indexes.state c.args.indexes.now in
    let IsNew = IsOwnSliceOf c.args.terms.now c.args.body.now c.args.plan.now after in
    let joined : AreJoinedIn IsNew keys c.in_ok-sense.sense.slices s.rows.items found.sense.slices found.rows.items =
    subst (λ (old : List KeyRows). AreJoinedIn IsNew keys c.in_ok-sense.sense.slices old found.sense.slices found.rows.items) c.deref.ensures.value c.in_ok-found.ensures.joined in
    IfOk-weaker c.of.result _ _ (λ made is.
    subst (λ (w : SlicesView). AreOfOwnKeys keys c.args.body.now c.args.plan.now after w.slices) (sym is)
    (λ slice there at. (joined_new IsNew keys s.sense.slices found.sense.slices s.rows.items found.rows.items c.in_ok-sense.sense.slices c.in_ok-sense.ensures.slices joined slice there at).1)) c.of.ensures

pub returns-clause-right : goal.returns-clause-right
returns-clause-right g c =
    let s = c.self.inside in
    let found = c.in_ok-found.found in
    let keys = c.args.keys.now in
    let IsNew = IsOwnSliceOf c.args.terms.now c.args.body.now c.args.plan.now (g.I.Indexes.state c.args.indexes.now) in
    let joined : AreJoinedIn IsNew keys c.in_ok-sense.sense.slices s.rows.items found.sense.slices found.rows.items =
    subst (λ (old : List KeyRows). AreJoinedIn IsNew keys c.in_ok-sense.sense.slices old found.sense.slices found.rows.items) c.deref.ensures.value c.in_ok-found.ensures.joined in
    let terms = c.args.terms.now in
    let body = c.args.body.now in
    let plan = c.args.plan.now in
    let after = g.I.Indexes.state c.args.indexes.now in
    let old = slices_of s.rows.items s.sense.slices in
    IfOk-weaker c.of.result _ _ (λ made is.
    subst (λ (v : SlicesView). (t : State) → AreSlicesOn terms body plan t v.root v.slices → HaveTouched keys v.root v.slices t after → AreSlicesOn terms body plan after made.root made.slices) c.self.view_is
    (λ t were touched.
    subst (λ (w : SlicesView). AreSlicesOn terms body plan after w.root w.slices) (sym is)
    (subst (λ (r : Sense). AreSlicesOn terms body plan after r (slices_of found.rows.items found.sense.slices)) (sym (c.in_ok-found.ensures.root ∙ c.in_ok-sense.ensures.root))
    (mended_are_slices keys terms body plan t after s.sense.root old (slices_of found.rows.items found.sense.slices) were touched (joined_mends IsNew keys s.sense.slices found.sense.slices s.rows.items found.rows.items c.in_ok-sense.sense.slices c.in_ok-sense.ensures.slices joined) (joined_rise IsNew keys s.sense.slices found.sense.slices s.rows.items found.rows.items c.in_ok-sense.sense.slices c.in_ok-sense.ensures.slices joined) (λ slice there at. (joined_new IsNew keys s.sense.slices found.sense.slices s.rows.items found.rows.items c.in_ok-sense.sense.slices c.in_ok-sense.ensures.slices joined slice there at).0))))) c.of.ensures
