-- A walk over the levels of a plan certifies the body.
use Rattle.std.specs.Prelude.{◌≡◌, ℕ, zero, suc, ◌+◌, ◌<◌, ◌≤◌, true, false, nat_lt, List, [], ◌∷◌, map, length, slice_index, ◌⊎◌}
use Rattle.std.specs.List.{AllByRecursion, AllZip, list_all}
use Rattle.std.proofs.Common.{refl, sym, ap, ◌∙◌, subst, inl, inr, arith, cond}
use Rattle.std.proofs.lemmas.Bool.{and_parts, and_from, eq-eqb, lt-ltb, ltb-true, ltb-false, le-leb, true≢false}
use Rattle.lt_model.specs.declared.normal.Atom.{Atom}
use Rattle.lt_model.specs.declared.normal.Body.{Body}
use Rattle.lt_face.specs.Lists.{IsIn}
use Rattle.lt_face.specs.State.{Row, State}
use Rattle.lt_model.specs.Answers.{rows_under, Assignment, cells_of, holds, passes}
use Rattle.lt_model.specs.Cells.{is_cell}
use Rattle.lt_sense.specs.Kept.{Sense}
use Rattle.lt_sense.specs.declared.covering.Hit.{Hit}
use Rattle.lt_sense.specs.Sense.{covers, lies_in, IsTight}
use Rattle.lt_face.specs.State.{permuted, Has}
use Rattle.lt_join.specs.Certify.{IsMet, IsMissed}
use Rattle.lt_face.specs.Lists.{AnyByRecursion}
use Rattle.lt_query.specs.declared.plans.Level.{Level}
use Rattle.lt_query.specs.declared.plans.Guide.{Guide}
use Rattle.lt_query.specs.declared.plans.Plan.{Plan}
use Rattle.lt_query.specs.Plan.{Keys, term_at, keys_under, levels_of, IsGuideOf, IsPlanOf}
use Rattle.lt_query.specs.Lists.{IsRising}
use Rattle.lt_join.specs.Explored.{AgreeBelow, before, IsPassed, with_key, Explored, hit_of, AreHits}
use Rattle.lt_join.proofs.Hopeless.{with_key_agrees}
use Rattle.lt_join.proofs.Repair.{All_at, gap_row_covered, hit_row_covered, GapIsTight}

pub lies_at : (l lo hi : ℕ) (x y : Keys) (ls : List ℕ) → AgreeBelow l x y → IsRising ls → IsIn l ls → lo ≤ y l → y l < hi → lies_in (map x (before l ls)) lo hi (map y ls) ≡ true
lies_at l lo hi x y [] agree rising at from below = absurd at
lies_at l lo hi x y (m ∷ ms) agree rising at from below =
    elim (nat_lt m l) as (λ b. nat_lt m l ≡ b → lies_in (map x (cond b (m ∷ before l ms) [])) lo hi (map y (m ∷ ms)) ≡ true) [
      | true ↦ λ less.
          let lt : m < l = ltb-true m l less in
          let later : IsIn l ms = elim at [ inl e ↦ let bad : l < l = subst (λ w. w < l) e lt in absurd (omega arith) | inr r ↦ r ] in
          and_from _ _ (eq-eqb (x m) (y m) (agree m lt)) (lies_at l lo hi x y ms agree rising.1 later from below)
      | false ↦ λ more.
          let le : l ≤ m = ltb-false m l more in
          let same : m ≡ l = elim at [ inl e ↦ e | inr r ↦ let lt : m < l = All_at (λ y. m < y) ms l rising.0 r in absurd (omega arith) ] in
          rw same (and_from _ _ (le-leb lo (y l) from) (lt-ltb (y l) hi below))
    ] refl

index_map : (x : Keys) (places : List ℕ) (c : ℕ) → c < length places → slice_index (map x places) c ≡ x (slice_index places c)
index_map x [] c h = absurd (omega arith)
index_map x (p ∷ places) zero h = refl
index_map x (p ∷ places) (suc c) h = index_map x places c (omega arith)

permuted-map : (x : Keys) (places columns : List ℕ) → AllByRecursion (λ c. c < length places) columns → permuted columns (map x places) ≡ map x (permuted columns places)
permuted-map x places [] h = refl
permuted-map x places (c ∷ columns) h =
    let head = index_map x places c h.0 in
    let tail = permuted-map x places columns h.1 in cc

map_keys : (a : Assignment) (levels : List Level) (places : List ℕ) → cells_of a (map (term_at levels) places) ≡ map (keys_under a levels) places
map_keys a levels [] = refl
map_keys a levels (l ∷ places) = ap (λ row. keys_under a levels l ∷ row) (map_keys a levels places)

-- an atom's row under an assignment, by the keys
pub row_by_keys : (a : Assignment) (levels : List Level) (atom : Atom) (guide : Guide) → IsGuideOf levels atom guide → cells_of a atom.terms ≡ map (keys_under a levels) guide.places
row_by_keys a levels atom guide g = ap (cells_of a) g.terms ∙ map_keys a levels guide.places

map_agree : (l : ℕ) (x y : Keys) (places : List ℕ) → AgreeBelow l x y → AllByRecursion (λ m. m < l) places → map x places ≡ map y places
map_agree l x y [] agree h = refl
map_agree l x y (m ∷ places) agree h =
    let head = agree m h.0 in
    let tail = map_agree l x y places agree h.1 in cc

module _ (body : Body) (plan : Plan) (sense : Sense) (state : State) (tight : IsTight sense state) (a : Assignment) (held : holds a body ≡ true) where
  missed_one : (l : ℕ) (keys : Keys) → AgreeBelow l keys (keys_under a plan.levels) → (atom : Atom) (guide : Guide) → IsGuideOf plan.levels atom guide → IsPassed sense l keys (keys_under a plan.levels l) guide → IsMissed sense state a atom
  missed_one l keys agree atom guide g p =
      let row : Row = cells_of a atom.terms in
      let cells : permuted p.gap.columns row ≡ map (keys_under a plan.levels) (levels_of guide) =
      ap (λ cs. permuted cs row) p.columns ∙ (ap (permuted guide.columns) (row_by_keys a plan.levels atom guide g) ∙ permuted-map (keys_under a plan.levels) guide.places guide.columns g.columns) in
      let inside : lies_in p.gap.prefix p.gap.lo p.gap.hi (permuted p.gap.columns row) ≡ true =
      rw (cells, p.prefix) (lies_at l p.gap.lo p.gap.hi keys (keys_under a plan.levels) (levels_of guide) agree g.rising p.at p.from p.below) in
      let relation : p.gap.relation ≡ atom.relation = p.relation ∙ g.relation in (
        (λ there. let no = All_at (GapIsTight state) sense.gaps p.gap tight.gaps p.kept row (subst (λ r. Has state r row) (sym relation) there) in true≢false (sym inside ∙ no)),
        subst (λ r. covers sense r row ≡ true) relation (gap_row_covered sense p.gap row p.kept inside),
      )

  missed_some : (l : ℕ) (keys : Keys) → AgreeBelow l keys (keys_under a plan.levels) → (atoms : List Atom) (guides : List Guide) → AllZip (IsGuideOf plan.levels) atoms guides → AnyByRecursion (IsPassed sense l keys (keys_under a plan.levels l)) guides → AnyByRecursion (IsMissed sense state a) atoms
  missed_some l keys agree [] [] z p = p
  missed_some l keys agree [] (guide ∷ guides) z p = absurd z
  missed_some l keys agree (atom ∷ atoms) [] z p = absurd z
  missed_some l keys agree (atom ∷ atoms) (guide ∷ guides) z p =
      elim p [ inl h ↦ inl (missed_one l keys agree atom guide z.0 h) | inr r ↦ inr (missed_some l keys agree atoms guides z.1 r) ]

  pub all_met : (keys : Keys) → AgreeBelow (length plan.levels) keys (keys_under a plan.levels) → (atoms : List Atom) (guides : List Guide) → AllZip (IsGuideOf plan.levels) atoms guides → AreHits sense guides keys → AllByRecursion (IsMet sense state a) atoms
  all_met keys agree [] [] z h = tt
  all_met keys agree [] (guide ∷ guides) z h = absurd z
  all_met keys agree (atom ∷ atoms) [] z h = absurd z
  all_met keys agree (atom ∷ atoms) (guide ∷ guides) z h =
      let row : map keys guide.places ≡ cells_of a atom.terms = map_agree (length plan.levels) keys (keys_under a plan.levels) guide.places agree z.0.places ∙ sym (row_by_keys a plan.levels atom guide z.0) in
      let has : Has state guide.relation (map keys guide.places) = All_at (λ (hit : Hit). Has state hit.relation hit.row) sense.hits (hit_of keys guide) tight.hits h.0 in
      let covered : covers sense guide.relation (map keys guide.places) ≡ true = hit_row_covered sense (hit_of keys guide) h.0 in (
        (
          subst (λ r. Has state r (cells_of a atom.terms)) z.0.relation (subst (Has state guide.relation) row has),
          subst (λ r. covers sense r (cells_of a atom.terms) ≡ true) z.0.relation (subst (λ r. covers sense guide.relation r ≡ true) row covered),
        ),
        all_met keys agree atoms guides z.1 h.1,
      )

  cell_in : (cells : Row) (x : ℕ) → list_all is_cell cells ≡ true → IsIn x cells → is_cell x ≡ true
  cell_in [] x h at = absurd at
  cell_in (y ∷ cells) x h at =
      let both = and_parts (is_cell y) (list_all is_cell cells) h in
      elim at [ inl e ↦ subst (λ u. is_cell u ≡ true) e both.0 | inr r ↦ cell_in cells x both.1 r ]

  key_in : (places : List ℕ) (l : ℕ) → IsIn l places → IsIn (keys_under a plan.levels l) (map (keys_under a plan.levels) places)
  key_in [] l at = absurd at
  key_in (m ∷ places) l at = elim at [ inl e ↦ inl (ap (keys_under a plan.levels) e) | inr r ↦ inr (key_in places l r) ]

  pub key_is_cell : (l : ℕ) (guide : Guide) → IsIn l guide.places → (atoms : List Atom) (guides : List Guide) → AllZip (IsGuideOf plan.levels) atoms guides → list_all (λ row. list_all is_cell row) (rows_under a atoms) ≡ true → IsIn guide guides → is_cell (keys_under a plan.levels l) ≡ true
  key_is_cell l guide at [] [] z h in_guides = absurd in_guides
  key_is_cell l guide at [] (g ∷ guides) z h in_guides = absurd z
  key_is_cell l guide at (atom ∷ atoms) [] z h in_guides = absurd z
  key_is_cell l guide at (atom ∷ atoms) (g ∷ guides) z h in_guides =
      let both = and_parts (list_all is_cell (cells_of a atom.terms)) (list_all (λ row. list_all is_cell row) (rows_under a atoms)) h in
      elim in_guides [
        | inl e ↦ cell_in (cells_of a atom.terms) (keys_under a plan.levels l) both.0 (subst (IsIn (keys_under a plan.levels l)) (sym (row_by_keys a plan.levels atom g z.0)) (key_in g.places l (subst (λ (w : Guide). IsIn l w.places) (sym e) at)))
        | inr r ↦ key_is_cell l guide at atoms guides z.1 both.1 r
      ]

  -- where one level went for this assignment: past some atom's gap, or on under its key
  pub followed_at : (of_body : IsPlanOf body plan) (l : ℕ) (keys : Keys) → l < length plan.levels → AgreeBelow l keys (keys_under a plan.levels)
      → (On : ℕ → Type 0) → ((k : ℕ) → is_cell k ≡ true → AnyByRecursion (IsPassed sense l keys k) plan.guides ⊎ On k) → AnyByRecursion (IsMissed sense state a) body.atoms ⊎ On (keys_under a plan.levels l)
  followed_at of_body l keys in_range agree On each =
      let holder = of_body.held l in_range in
      let cell : is_cell (keys_under a plan.levels l) ≡ true = key_is_cell l holder.0 holder.2 body.atoms plan.guides of_body.guides (and_parts (list_all (λ row. list_all is_cell row) (rows_under a body.atoms)) (list_all (passes a) body.tests) held).0 holder.1 in
      elim (each (keys_under a plan.levels l) cell) [
        | inl passed ↦ inl (missed_some l keys agree body.atoms plan.guides of_body.guides passed)
        | inr on ↦ inr on
      ]

  module _ (of_body : IsPlanOf body plan) (Out : ℕ → Keys → Type 0) (Leaf : Keys → Type 0) where
    -- where the walk went for this assignment: past some atom's gap, or to keys that it left out, or to a leaf
    pub followed : (levels : List Level) (l : ℕ) (keys : Keys) → Explored sense plan.guides Out Leaf levels l keys → AgreeBelow l keys (keys_under a plan.levels) → l + length levels ≡ length plan.levels
        → AnyByRecursion (IsMissed sense state a) body.atoms
        ⊎ (((m : ℕ) × (out : Keys) × Out m out × AgreeBelow m out (keys_under a plan.levels)) ⊎ ((leaf : Keys) × Leaf leaf × AgreeBelow (length plan.levels) leaf (keys_under a plan.levels)))
    followed [] l keys explored agree e = inr (inr (keys, explored, subst (λ n. AgreeBelow n keys (keys_under a plan.levels)) (let k : l ≡ length plan.levels = omega arith in k) agree))
    followed (level ∷ levels) l keys explored agree e =
        let under : AgreeBelow (l + 1) (with_key keys l (keys_under a plan.levels l)) (keys_under a plan.levels) = with_key_agrees plan.levels a l keys (keys_under a plan.levels l) agree refl in
        elim (followed_at of_body l keys (omega arith) agree (λ k. Out (l + 1) (with_key keys l k) ⊎ Explored sense plan.guides Out Leaf levels (l + 1) (with_key keys l k)) explored) [
          | inl missed ↦ inl missed
          | inr went ↦ elim went [
            | inl out ↦ inr (inl (l + 1, with_key keys l (keys_under a plan.levels l), out, under))
            | inr deeper ↦ followed levels (l + 1) (with_key keys l (keys_under a plan.levels l)) deeper under (omega arith)
          ]
        ]
