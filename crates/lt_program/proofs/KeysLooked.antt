-- What the look-up of a row's key gives.
use Rattle.std.proofs.Common.{◌≡◌, ℕ, zero, suc, ◌+◌, ◌-◌, ◌≤◌, ◌<◌, true, false, cond, List, [], ◌∷◌, ◌++◌, map, length, get_or, refl, sym, ap, subst, ◌∙◌, arith, inl, inr}
use Rattle.std.specs.Prelude.{take, filter, not, ◌^◌, nat_lt, ◌⊎◌}
use Rattle.std.specs.List.{AllByRecursion, list_all}
use Rattle.std.proofs.lemmas.Bool.{and_parts, ltb-true, true≢false}
use Rattle.std.proofs.lemmas.List.{map-append, length-append, length-take-le, take_more, take_all, append_assoc}
use Rattle.std.proofs.lemmas.List.Elements.{filter-append}
use Rattle.std.proofs.Math.Seq.{take-append_seam}
use Rattle.lt_face.specs.Lists.{IsIn}
use Rattle.lt_face.specs.Rows.{IsCell, IsRow, IsAscending, has_row}
use Rattle.lt_face.specs.State.{Row, State, Has, rows_in}
use Rattle.lt_face.proofs.RowLemmas.{ascending-filter, each_weaker}
use Rattle.lt_model.specs.declared.normal.Term.TheVariants.{Cell}
use Rattle.lt_model.specs.Answers.{Assignment, cell_of, cells_of, rows_under, passes}
use Rattle.lt_model.specs.Cells.{is_cell}
use Rattle.lt_model.specs.Effect.{same_row, fresh, key_terms, key_body}
use Rattle.lt_model.specs.Fits.{IsWide}
use Rattle.lt_model.specs.State.{IsState}
use Rattle.lt_model.proofs.Laws.{same_is, itself}
use Rattle.lt_query.proofs.Ascending.{has_row-true, has_row_is}
use Rattle.lt_query.proofs.Distinct.{IsIn-filter, IsIn-filter_from}
use Rattle.lt_query.proofs.Wide.{state_row, state_rises}
use Rattle.lt_sense.specs.declared.covering.Hit.{Hit}
use Rattle.lt_sense.specs.Kept.{Sense}
use Rattle.lt_sense.specs.Sense.{covers, IsTight}
use Rattle.lt_join.specs.Certify.{Certifies}
use Rattle.lt_join.specs.Walked.{Grows}
use Rattle.lt_join.proofs.Repair.{All_of, GapIsTight, hit_row_covered}
use Rattle.lt_join.proofs.Steps.{covers_grows}
use Rattle.lt_face.proofs.Membership.{IsIn-append_left, IsIn-append_right, IsIn-map}
use Rattle.lt_program.specs.Displacing.{IsBeside, Notes, Lacking, has_key_of, with_key}

-- ---- lists made by loops

abbrev pub hit_at : ℕ → Row → Hit
hit_at relation row = record { relation = relation; row = row }

abbrev pub others_of : Row → List Row → List Row
others_of row rows = filter (λ other. not (same_row other row)) rows

pub hits_more : (relation : ℕ) (rows : List Row) (i : ℕ) (row : Row) (old mid new : List Hit) → i < length rows → row ≡ get_or rows i row → mid ≡ old ++ map (hit_at relation) (take i rows) → new ≡ mid ++ hit_at relation row ∷ [] → new ≡ old ++ map (hit_at relation) (take (i + 1) rows)
hits_more relation rows i row old mid new lt is so more =
    let one : take (i + 1) rows ≡ take i rows ++ row ∷ [] = take_more rows i row lt ∙ ap (λ (r : Row). take i rows ++ r ∷ []) (sym is) in
    more
    ∙ (ap (λ (hs : List Hit). hs ++ hit_at relation row ∷ []) so ∙ (append_assoc old (map (hit_at relation) (take i rows)) (hit_at relation row ∷ [])
    ∙ ap (λ (hs : List Hit). old ++ hs) (sym (ap (map (hit_at relation)) one ∙ map-append (hit_at relation) (take i rows) (row ∷ [])))))

pub hits_all : (relation : ℕ) (rows : List Row) (i : ℕ) (old new : List Hit) → length rows ≤ i → new ≡ old ++ map (hit_at relation) (take i rows) → new ≡ old ++ map (hit_at relation) rows
hits_all relation rows i old new le so = so ∙ ap (λ (rs : List Row). old ++ map (hit_at relation) rs) (take_all i rows le)

pub others_more : (row : Row) (rows : List Row) (i : ℕ) (other : Row) (old mid : List Row) → i < length rows → other ≡ get_or rows i other → mid ≡ old ++ others_of row (take i rows) → mid ++ cond (not (same_row other row)) (other ∷ []) [] ≡ old ++ others_of row (take (i + 1) rows)
others_more row rows i other old mid lt is so =
    let one : take (i + 1) rows ≡ take i rows ++ other ∷ [] = take_more rows i other lt ∙ ap (λ (r : Row). take i rows ++ r ∷ []) (sym is) in
    ap (λ (rs : List Row). rs ++ cond (not (same_row other row)) (other ∷ []) []) so
    ∙ (append_assoc old (others_of row (take i rows)) (cond (not (same_row other row)) (other ∷ []) [])
    ∙ ap (λ (rs : List Row). old ++ rs) (sym (ap (others_of row) one ∙ filter-append (λ r. not (same_row r row)) (take i rows) (other ∷ []))))

pub others_all : (row : Row) (rows : List Row) (i : ℕ) (old new : List Row) → length rows ≤ i → new ≡ old ++ others_of row (take i rows) → new ≡ old ++ others_of row rows
others_all row rows i old new le so = so ∙ ap (λ (rs : List Row). old ++ others_of row rs) (take_all i rows le)

-- ---- the rows with the key

module _ (state : State) (is : IsState state) (relation width keys : ℕ) (wide : IsWide state relation width) (row : Row) (alike : List Row) (found : alike ≡ with_key keys row (rows_in state relation)) where
  pub alike_there : (other : Row) → IsIn other alike → Has state relation other × (take keys other ≡ take keys row)
  alike_there other there =
      let k = IsIn-filter_from (has_key_of keys row) other (rows_in state relation) (subst (λ (rs : List Row). IsIn other rs) found there) in
      (k.0, same_is (take keys other) (take keys row) k.1)

  pub alike_has : (other : Row) → Has state relation other → take keys other ≡ take keys row → IsIn other alike
  alike_has other has key =
      subst (λ (rs : List Row). IsIn other rs) (sym found) (IsIn-filter (has_key_of keys row) other (rows_in state relation) has (subst (λ (r : Row). same_row (take keys other) r ≡ true) key (itself (take keys other))))

  pub alike_rise : IsAscending alike
  alike_rise = subst IsAscending (sym found) (ascending-filter (has_key_of keys row) (rows_in state relation) (state_rises state relation is))

  pub beside_row : (other : Row) → Has state relation other → IsBeside width other
  beside_row other has = let r = state_row state relation width other is wide has in (r.is_wide, each_weaker IsCell (λ c. c < 2 ^ 120) (λ c h. h.1) other r.has_cells)

  pub alike_beside : AllByRecursion (IsBeside width) alike
  alike_beside = All_of (IsBeside width) alike (λ other there. beside_row other (alike_there other there).0)

  pub alike_key : AllByRecursion (λ (other : Row). take keys other ≡ take keys row) alike
  alike_key = All_of (λ (other : Row). take keys other ≡ take keys row) alike (λ other there. (alike_there other there).1)

pub small_row : (width : ℕ) (row : Row) → IsRow width row → IsBeside width row
small_row width row r = (r.is_wide, each_weaker IsCell (λ c. c < 2 ^ 120) (λ c h. h.1) row r.has_cells)

-- ---- an assignment's row

fresh_long : (a : Assignment) (v n : ℕ) → length (map (cell_of a) (fresh v n)) ≡ n
fresh_long a v zero = refl
fresh_long a v (suc n) = ap suc (fresh_long a (suc v) n)

constants : (a : Assignment) (xs : Row) → map (cell_of a) (map Cell xs) ≡ xs
constants a [] = refl
constants a (x ∷ xs) = ap (λ (ys : Row). x ∷ ys) (constants a xs)

key_cells : (a : Assignment) (keys : ℕ) (row : Row) → cells_of a (key_terms keys row) ≡ take keys row ++ map (cell_of a) (fresh 0 (length row - keys))
key_cells a keys row = map-append (cell_of a) (map Cell (take keys row)) (fresh 0 (length row - keys)) ∙ ap (λ (xs : Row). xs ++ map (cell_of a) (fresh 0 (length row - keys))) (constants a (take keys row))

key_of_cells : (a : Assignment) (keys : ℕ) (row : Row) → keys ≤ length row → take keys (cells_of a (key_terms keys row)) ≡ take keys row
key_of_cells a keys row le =
    let behind : Row = map (cell_of a) (fresh 0 (length row - keys)) in
    let size : length (take keys row) ≡ keys = length-take-le keys row le in
    ap (take keys) (key_cells a keys row) ∙ (ap (λ n. take n (take keys row ++ behind)) (sym size) ∙ take-append_seam (take keys row) behind)

long_cells : (a : Assignment) (keys : ℕ) (row : Row) → keys ≤ length row → length (cells_of a (key_terms keys row)) ≡ length row
long_cells a keys row le =
    let n = ap length (key_cells a keys row) ∙ length-append (take keys row) (map (cell_of a) (fresh 0 (length row - keys))) in
    let size : length (take keys row) ≡ keys = length-take-le keys row le in
    let rest = fresh_long a 0 (length row - keys) in omega (arith, n, size, rest, le)

small_cells : (row : Row) → list_all is_cell row ≡ true → AllByRecursion (λ c. c < 2 ^ 120) row
small_cells [] h = tt
small_cells (x ∷ row) h =
    let p = and_parts (is_cell x) (list_all is_cell row) h in
    (ltb-true x (2 ^ 120) (and_parts (nat_lt 0 x) (nat_lt x (2 ^ 120)) p.0).1, small_cells row p.1)

-- ---- what a sense gains by the look-up

pub hits_grow : (relation : ℕ) (alike : List Row) (mid new : Sense) → new.gaps ≡ mid.gaps → new.hits ≡ mid.hits ++ map (hit_at relation) alike → Grows mid new
hits_grow relation alike mid new gaps hits = record { gaps = λ g h. subst (IsIn g) (sym gaps) h; hits = λ x h. subst (IsIn x) (sym hits) (IsIn-append_left x mid.hits (map (hit_at relation) alike) h) }

pub looked_certified : (relation keys width : ℕ) (row : Row) (alike : List Row) (old mid new : Sense) → width ≡ length row → keys ≤ length row → Notes (Lacking keys row alike) relation width old mid → new.gaps ≡ mid.gaps → new.hits ≡ mid.hits ++ map (hit_at relation) alike
    → (state : State) → alike ≡ with_key keys row (rows_in state relation) → Certifies new (key_body relation keys row) state
looked_certified relation keys width row alike old mid new as_wide le notes gaps hits state found a holding =
    let key : take keys (cells_of a (key_terms keys row)) ≡ take keys row = key_of_cells a keys row le in
    let under = and_parts (list_all (λ x. list_all is_cell x) (rows_under a (key_body relation keys row).atoms)) (list_all (passes a) (key_body relation keys row).tests) holding in
    let small : AllByRecursion (λ c. c < 2 ^ 120) (cells_of a (key_terms keys row)) = small_cells (cells_of a (key_terms keys row)) (and_parts (list_all is_cell (cells_of a (key_terms keys row))) true under.0).0 in
    elim (looked (cells_of a (key_terms keys row)) key (long_cells a keys row le ∙ sym as_wide, small)) [
      | inl met ↦ inl ((met, tt), tt)
      | inr missed ↦ inr (inl (inl missed))
    ]
  where
    looked : (r : Row) → take keys r ≡ take keys row → IsBeside width r → (Has state relation r × (covers new relation r ≡ true)) ⊎ ((Has state relation r → ⊥) × (covers new relation r ≡ true))
    looked r key beside =
        elim (has_row alike r) as (λ b. has_row alike r ≡ b → (Has state relation r × (covers new relation r ≡ true)) ⊎ ((Has state relation r → ⊥) × (covers new relation r ≡ true))) [
          | true ↦ λ e.
              let there : IsIn r alike = has_row-true alike r e in
              let k = IsIn-filter_from (has_key_of keys row) r (rows_in state relation) (subst (λ (rs : List Row). IsIn r rs) found there) in
              let hit : IsIn (hit_at relation r) new.hits = subst (IsIn (hit_at relation r)) (sym hits) (IsIn-append_right (hit_at relation r) mid.hits (map (hit_at relation) alike) (IsIn-map (hit_at relation) r alike there)) in
              inl (k.0, hit_row_covered new (hit_at relation r) hit)
          | false ↦ λ e.
              let lacks : IsIn r alike → ⊥ = λ there. true≢false (sym (has_row_is alike r there) ∙ e) in
              let absent : Has state relation r → ⊥ = λ has.
              lacks (subst (λ (rs : List Row). IsIn r rs) (sym found) (IsIn-filter (has_key_of keys row) r (rows_in state relation) has (subst (λ (q : Row). same_row (take keys r) q ≡ true) key (itself (take keys r))))) in
              inr (absent, covers_grows mid new (hits_grow relation alike mid new gaps hits) relation r (notes.covered r beside (key, lacks)))
        ] refl

pub looked_tight : (relation keys width : ℕ) (row : Row) (alike : List Row) (old mid new : Sense) → Notes (Lacking keys row alike) relation width old mid → new.gaps ≡ mid.gaps → new.hits ≡ mid.hits ++ map (hit_at relation) alike
    → (state : State) → IsState state → IsWide state relation width → alike ≡ with_key keys row (rows_in state relation) → IsTight old state → IsTight new state
looked_tight relation keys width row alike old mid new notes gaps hits state is wide found h =
    let m : IsTight mid state = notes.tight state (λ other has. (beside_row state is relation width keys wide row alike found other has, λ lacking. lacking.1 (alike_has state is relation width keys wide row alike found other has lacking.0))) h in
    record {
      gaps = subst (AllByRecursion (GapIsTight state)) (sym gaps) m.gaps;
      hits = subst (AllByRecursion (λ (x : Hit). Has state x.relation x.row)) (sym hits)
          (both mid.hits (map (hit_at relation) alike) m.hits (each alike (λ other there. (alike_there state is relation width keys wide row alike found other there).0)));
    }
  where
    both : (xs ys : List Hit) → AllByRecursion (λ (x : Hit). Has state x.relation x.row) xs → AllByRecursion (λ (x : Hit). Has state x.relation x.row) ys → AllByRecursion (λ (x : Hit). Has state x.relation x.row) (xs ++ ys)
    both [] ys p q = q
    both (x ∷ xs) ys p q = (p.0, both xs ys p.1 q)

    each : (rows : List Row) → ((other : Row) → IsIn other rows → Has state relation other) → AllByRecursion (λ (x : Hit). Has state x.relation x.row) (map (hit_at relation) rows)
    each [] k = tt
    each (r ∷ rows) k = (k r (inl refl), each rows (λ other there. k other (inr there)))
