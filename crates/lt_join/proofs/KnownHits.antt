-- A walk makes hits of the atoms that end at a key, one after another.
use Rattle.std.specs.Prelude.{◌≡◌, ℕ, ◌+◌, ◌-◌, ◌<◌, ◌≤◌, ◌==◌, true, false, List, [], ◌∷◌, ◌++◌, map, length, take}
use Rattle.std.specs.List.{AllByRecursion}
use Rattle.std.proofs.Common.{sym, ap, ◌∙◌, subst, arith, get_or}
use Rattle.std.proofs.lemmas.Bool.{eqb-true, eq-eqb, true≢false}
use Rattle.lt_face.proofs.RowLemmas.{each_weaker}
use Rattle.lt_face.specs.State.{Row}
use Rattle.lt_model.specs.Answers.{Values, cell_of}
use Rattle.lt_query.specs.declared.plans.Guide.{Guide}
use Rattle.lt_query.specs.declared.plans.Level.{Level}
use Rattle.lt_query.specs.Holding.{guide_at, atoms_at_level}
use Rattle.lt_query.specs.Plan.{term_at}
use Rattle.lt_query.specs.Runnable.{IsWidth}
use Rattle.lt_query.proofs.LevelParts.{atoms_within}
use Rattle.lt_sense.specs.declared.covering.Hit.{Hit}
use Rattle.lt_sense.specs.Kept.{Sense}
use Rattle.lt_join.specs.AtomIter.{AtomView}
use Rattle.lt_join.specs.Explored.{hit_of}
use Rattle.lt_join.specs.Holders.{IsWalkable, atoms_at}
use Rattle.lt_join.specs.Known.{IsKnown}
use Rattle.lt_join.specs.Level.{AreAtomsAt, IsAtomAt}
use Rattle.lt_join.specs.Values.{assigned}
use Rattle.lt_join.specs.Walked.{at}
use Rattle.lt_join.specs.Way.{WayView, IsWay}
use Rattle.lt_join.proofs.Hitting.{AreHit, hit_more, hit_skip, places_above}
use Rattle.lt_join.proofs.Known.{known_row}
use Rattle.lt_join.proofs.KnownLists.{zip_at, zip_long, take_more, take_all, all_get, get_same, guide_is, walkable_all, places_count}

module _ (way : WayView) (is_way : IsWay way) (keys : List ℕ) (iters : List AtomView) (items : List ℕ) (are_at : AreAtomsAt way.plan way.state keys iters) (items_are : items ≡ atoms_at_level way.plan.guides (length keys - 1)) where
  place_of_atom : (j : ℕ) → j < length items → get_or items j 0 < length way.plan.guides
  place_of_atom j lt =
      all_get (λ i. i < length way.plan.guides) items j (get_or items j 0)
      (subst (AllByRecursion (λ i. i < length way.plan.guides)) (sym items_are) (atoms_within way.plan.guides (length keys - 1))) lt (get_same items j 0 (get_or items j 0) lt)

  pub place_within : (j : ℕ) → j < length items → get_or items j 0 < length iters
  place_within j lt =
      let long = zip_long (IsAtomAt way.state (length keys) (at keys)) way.plan.guides iters are_at in
      let p = place_of_atom j lt in omega (arith, long, p)

  pub hits_few : (j : ℕ) → length items ≤ j → (old new : Sense) → AreHit way.state keys old new way.plan.guides (take j (atoms_at_level way.plan.guides (length keys - 1))) → length new.hits ≤ length old.hits + length (atoms_at way.plan.guides (length keys - 1))
  hits_few j le old new so =
      let n = ap (λ (xs : List ℕ). length xs) items_are in
      let all = ap (λ (xs : List ℕ). length xs) (take_all (atoms_at_level way.plan.guides (length keys - 1)) j (omega (arith, le, n))) in
      let count = places_count way.plan.guides (length keys - 1) (walkable_all way.body way.plan is_way.of_body) in
      omega (arith, so.few, all, count)

  pub hits_whole : (j : ℕ) → length items ≤ j → (old new : Sense) → AreHit way.state keys old new way.plan.guides (take j (atoms_at_level way.plan.guides (length keys - 1))) → AreHit way.state keys old new way.plan.guides (atoms_at_level way.plan.guides (length keys - 1))
  hits_whole j le old new so =
      let n = ap (λ (xs : List ℕ). length xs) items_are in
      subst (AreHit way.state keys old new way.plan.guides) (take_all (atoms_at_level way.plan.guides (length keys - 1)) j (omega (arith, le, n))) so

  module _ (j : ℕ) (iter : AtomView) (lt : j < length items) (iter_is : iter ≡ get_or iters (get_or items j 0) iter) where
    here : IsAtomAt way.state (length keys) (at keys) (guide_at way.plan.guides (get_or items j 0)) iter
    here =
        zip_at (IsAtomAt way.state (length keys) (at keys)) way.plan.guides iters (get_or items j 0) (guide_at way.plan.guides (get_or items j 0)) iter are_at (place_of_atom j lt) (guide_is way.plan.guides (get_or items j 0) (place_of_atom j lt)) iter_is

    walks : IsWalkable (guide_at way.plan.guides (get_or items j 0))
    walks =
        all_get IsWalkable way.plan.guides (get_or items j 0) (guide_at way.plan.guides (get_or items j 0)) (walkable_all way.body way.plan is_way.of_body) (place_of_atom j lt) (guide_is way.plan.guides (get_or items j 0) (place_of_atom j lt))

    wide : IsWidth (length (guide_at way.plan.guides (get_or items j 0)).places)
    wide =
        all_get (λ (guide : Guide). IsWidth (length guide.places)) way.plan.guides (get_or items j 0) (guide_at way.plan.guides (get_or items j 0)) is_way.prepared.runnable.widths (place_of_atom j lt) (guide_is way.plan.guides (get_or items j 0) (place_of_atom j lt))

    more : take (j + 1) (atoms_at_level way.plan.guides (length keys - 1)) ≡ take j (atoms_at_level way.plan.guides (length keys - 1)) ++ get_or items j 0 ∷ []
    more = subst (λ xs. take (j + 1) xs ≡ take j xs ++ get_or items j 0 ∷ []) items_are (take_more items j (get_or items j 0) lt (get_same items j 0 (get_or items j 0) lt))

    full_of : (iter.trie.level == length iter.guide.columns) ≡ true → iter.trie.level ≡ length (guide_at way.plan.guides (get_or items j 0)).columns
    full_of last = eqb-true iter.trie.level (length iter.guide.columns) last ∙ ap (λ (guide : Guide). length guide.columns) here.0

    above : (iter.trie.level == length iter.guide.columns) ≡ true → AllByRecursion (λ l. l < length keys) (guide_at way.plan.guides (get_or items j 0)).places
    above last = places_above way.state (length keys) (at keys) (guide_at way.plan.guides (get_or items j 0)) iter.trie walks here.1 (full_of last)

    pub places_narrow : (guide : Guide) (places : List ℕ) → guide ≡ iter.guide → places ≡ guide.places → length places ≤ 8
    places_narrow guide places guide_same places_are =
        subst (λ (ps : List ℕ). length ps ≤ 8) (sym (places_are ∙ (ap (λ (g : Guide). g.places) guide_same ∙ ap (λ (g : Guide). g.places) here.0))) (let w = wide.1 in omega (arith, w))

    pub places_there : (guide : Guide) (places : List ℕ) (n : ℕ) → guide ≡ iter.guide → places ≡ guide.places → length keys ≤ n → (iter.trie.level == length iter.guide.columns) ≡ true → AllByRecursion (λ l. l < n) places
    places_there guide places n guide_same places_are le last =
        subst (AllByRecursion (λ l. l < n)) (sym (places_are ∙ (ap (λ (g : Guide). g.places) guide_same ∙ ap (λ (g : Guide). g.places) here.0)))
        (each_weaker (λ l. l < length keys) (λ l. l < n) (λ l h. omega (arith, h, le)) (guide_at way.plan.guides (get_or items j 0)).places (above last))

    -- it is at its last column, and its row becomes a hit
    pub hits_more : (old mid new : Sense) (values : Values) (levels : List Level) (guide : Guide) (places : List ℕ) → (iter.trie.level == length iter.guide.columns) ≡ true → IsKnown way.plan.levels keys values → levels ≡ way.plan.levels → guide ≡ iter.guide → places ≡ guide.places
        → new.hits ≡ mid.hits ++ record { relation = guide.relation; row = map (λ l. cell_of (assigned values) (term_at levels l)) places } ∷ [] → new.gaps ≡ mid.gaps → AreHit way.state keys old mid way.plan.guides (take j (atoms_at_level way.plan.guides (length keys - 1)))
        → AreHit way.state keys old new way.plan.guides (take (j + 1) (atoms_at_level way.plan.guides (length keys - 1)))
    hits_more old mid new values levels guide places last known levels_are guide_same places_are hits gaps so =
        let own : guide ≡ guide_at way.plan.guides (get_or items j 0) = guide_same ∙ here.0 in
        let places_own : places ≡ (guide_at way.plan.guides (get_or items j 0)).places = places_are ∙ ap (λ (g : Guide). g.places) own in
        let row : map (λ l. cell_of (assigned values) (term_at levels l)) places ≡ map (at keys) (guide_at way.plan.guides (get_or items j 0)).places =
        ap (λ (ls : List Level). map (λ l. cell_of (assigned values) (term_at ls l)) places) levels_are
        ∙ (ap (λ (ps : List ℕ). map (λ l. cell_of (assigned values) (term_at way.plan.levels l)) ps) places_own
        ∙ known_row way.plan.levels keys values (guide_at way.plan.guides (get_or items j 0)).places known (above last)) in
        let hit : Hit = record { relation = guide.relation; row = map (λ l. cell_of (assigned values) (term_at levels l)) places } in
        let same : hit ≡ hit_of (at keys) (guide_at way.plan.guides (get_or items j 0)) =
        ap (λ (r : ℕ). record { relation = r; row = map (λ l. cell_of (assigned values) (term_at levels l)) places }) (ap (λ (g : Guide). g.relation) own)
        ∙ ap (λ (r : Row). record { relation = (guide_at way.plan.guides (get_or items j 0)).relation; row = r }) row in
        let full = full_of last in
        let long = walks.as_long in
        let some = wide.0 in
        subst (AreHit way.state keys old new way.plan.guides) (sym more)
        (hit_more way.state keys old mid new way.plan.guides (take j (atoms_at_level way.plan.guides (length keys - 1))) (get_or items j 0) iter.trie hit walks here.1 full (omega (arith, full, long, some)) so same hits gaps)

    -- it isn't
    pub hits_skipped : (old mid : Sense) → (iter.trie.level == length iter.guide.columns) ≡ false → AreHit way.state keys old mid way.plan.guides (take j (atoms_at_level way.plan.guides (length keys - 1))) → AreHit way.state keys old mid way.plan.guides (take (j + 1) (atoms_at_level way.plan.guides (length keys - 1)))
    hits_skipped old mid apart so =
        subst (AreHit way.state keys old mid way.plan.guides) (sym more)
        (hit_skip way.state keys old mid way.plan.guides (take j (atoms_at_level way.plan.guides (length keys - 1))) (get_or items j 0) iter.trie walks here.1
        (λ full. true≢false (sym (eq-eqb iter.trie.level (length iter.guide.columns) (full ∙ sym (ap (λ (guide : Guide). length guide.columns) here.0))) ∙ apart)) so)
