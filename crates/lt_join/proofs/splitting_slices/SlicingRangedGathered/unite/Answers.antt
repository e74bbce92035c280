use Rattle.std.proofs.Common.{◌≡◌, ◌+◌, ◌<◌, ◌≤◌, [], List, ◌∙◌, ap, subst, sym}
use Rattle.std.specs.List.{AllByRecursion}
use Rattle.std.proofs.lemmas.List.{map-append}
use Rattle.lt_face.proofs.RowLemmas.{each_weaker}
use Rattle.lt_sense.specs.Kept.{Sense}
use Rattle.lt_sense.specs.ByKey.{KeySense}
use Rattle.lt_join.specs.Parts.{IsAtMost, IsBetween}
use Rattle.lt_join.specs.Sliced.{united}
use Rattle.lt_join.specs.Slices.{KeyRows, sense_keys, slice_of, slices_of}
use Rattle.lt_join.proofs.Keyed.{keyed_both, keys_of_slices, slices_joined, united_is}
use Rattle.lt_join.proofs.RangeLaws.{slices_both, united_both}
use Rattle.lt_join.proofs.splitting_slices.SlicingRangedGathered.unite.Goals as goal

pub returns-clause-found : goal.returns-clause-found
returns-clause-found c =
    let one = c.args.one in
    let next = c.args.next in
    let gained = c.in_ok-add_all.ensures in
    λ terms body plan state lo mid hi le le' a b.
    let below : AllByRecursion (λ k. k < mid) (sense_keys one.sense.slices) =
    each_weaker (IsBetween lo mid) (λ k. k < mid) (λ k within. within.1) (sense_keys one.sense.slices) (subst (AllByRecursion (IsBetween lo mid)) (keys_of_slices one.rows.items one.sense.slices) a.0.between) in
    let from : AllByRecursion (λ k. mid ≤ k) (sense_keys next.sense.slices) =
    each_weaker (IsBetween mid hi) (λ k. mid ≤ k) (λ k within. within.0) (sense_keys next.sense.slices) (subst (AllByRecursion (IsBetween mid hi)) (keys_of_slices next.rows.items next.sense.slices) b.0.between) in (
      slices_both terms body plan state lo mid hi (slices_of one.rows.items one.sense.slices) (slices_of next.rows.items next.sense.slices) (slices_of c.append.new.self.items c.add_all.new.self.slices) one.sense.root next.sense.root c.add_all.new.self.root
          (slices_joined mid one.sense.slices next.sense.slices one.rows.items next.rows.items a.1 b.1 below from c.add_all.new.self.slices c.append.new.self.items gained.slices c.in_ok-append.ensures.items) gained.gaps gained.hits le le' a.0 b.0,
      keyed_both mid one.sense.slices next.sense.slices one.rows.items next.rows.items a.1 b.1 below from c.add_all.new.self.slices c.append.new.self.items gained.slices c.in_ok-append.ensures.items,
    )

-- the rows don't count
bare : (root : Sense) (rows : List KeyRows) (senses : List KeySense) → united root (slices_of rows senses) ≡ united root (slices_of [] senses)
bare root rows senses = united_is root rows senses ∙ sym (united_is root [] senses)

pub returns-clause-paid : goal.returns-clause-paid
returns-clause-paid c =
    let one = c.args.one in
    let next = c.args.next in
    let gained = c.in_ok-add_all.ensures in
    λ m n a b.
    subst (λ (s : Sense). IsAtMost s (m + n)) (sym (bare c.add_all.new.self.root c.append.new.self.items c.add_all.new.self.slices))
    (united_both (slices_of [] one.sense.slices) (slices_of [] next.sense.slices) (slices_of [] c.add_all.new.self.slices) one.sense.root next.sense.root c.add_all.new.self.root m n (ap (slices_of []) gained.slices ∙ map-append (slice_of []) one.sense.slices next.sense.slices) gained.gaps gained.hits
    (subst (λ (s : Sense). IsAtMost s m) (bare one.sense.root one.rows.items one.sense.slices) a) (subst (λ (s : Sense). IsAtMost s n) (bare next.sense.root next.rows.items next.sense.slices) b))
