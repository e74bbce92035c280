-- What is known below some keys bounds the key of an assignment at the level there.
use Rattle.std.specs.Prelude.{◌≡◌, ℕ, zero, suc, ◌-◌, ◌^◌, ◌<◌, ◌≤◌, ◌⊎◌, true, false, ◌==◌, nat_lt, List, [], ◌∷◌, length, map, take, Some, None, unwrap_or}
use Rattle.std.specs.List.{AllZip, list_all}
use Rattle.std.proofs.Common.{refl, sym, ap, ◌∙◌, subst, arith, inl, inr, cond, get_or}
use Rattle.std.proofs.lemmas.Bool.{and_parts, cases_Bool, eqb-true, ltb-true, or_cases, true≢false}
use Rattle.std.proofs.lemmas.List.Folds.{list_all_at}
use Rattle.lt_face.specs.Lists.{IsIn}
use Rattle.lt_model.specs.declared.normal.Term.TheVariants.{Var}
use Rattle.lt_model.specs.declared.normal.Atom.{Atom}
use Rattle.lt_model.specs.declared.normal.Test.{Test}
use Rattle.lt_model.specs.declared.normal.Body.{Body}
use Rattle.lt_model.specs.Answers.{Assignment, Values, cell_of, cells_of, give_all, holds, passes, rows_under, term_value}
use Rattle.lt_model.specs.Bound.{is_var}
use Rattle.lt_model.specs.Cells.{is_cell}
use Rattle.lt_query.specs.declared.plans.Guide.{Guide}
use Rattle.lt_query.specs.declared.plans.Level.{Level}
use Rattle.lt_query.specs.declared.plans.Plan.{Plan}
use Rattle.lt_query.specs.Plan.{IsGuideOf, IsPlanOf, Keys, keys_under, term_at}
use Rattle.lt_query.proofs.Given.{Agrees as Agreeing, given_all}
use Rattle.lt_query.proofs.Standing.{is_var-true}
use Rattle.lt_join.specs.declared.narrowing.KeyRange.{KeyRange}
use Rattle.lt_join.specs.Explored.{AgreeBelow, IsHopeless}
use Rattle.lt_join.specs.Known.{IsKnown}
use Rattle.lt_join.specs.Narrowed.{Agrees, IsInRange, Leaves, has_var}
use Rattle.lt_join.specs.Values.{assigned, with_value}
use Rattle.lt_join.specs.Walked.{at}
use Rattle.lt_join.specs.Way.{WayView, IsWay}
use Rattle.lt_join.proofs.Hopeless.{agrees_at, agrees_before}

pub some_same : (x y : ℕ) → Some x ≡ Some y → x ≡ y
some_same x y e = let k = e in cc

-- ---- values

-- what literals with `=` give is so of each assignment for which they hold
pub given_agrees : (values : Values) (a : Assignment) (tests : List Test) → Agrees values a → list_all (passes a) tests ≡ true → Agrees (give_all values tests) a
given_agrees values a tests agrees hold v x e =
    let begun : Agreeing (λ u. false) values a = record { sound = λ u y is. sym (agrees u y is); told = λ u h. absurd (true≢false (sym h)) } in
    sym ((given_all (λ u. false) values a tests begun hold).sound v x e)

-- the variable of a level above has the value of each assignment with these keys
pub known_value : (levels : List Level) (keys : List ℕ) (values : Values) (a : Assignment) (l v : ℕ) → IsKnown levels keys values → AgreeBelow (length keys) (at keys) (keys_under a levels) → l < length keys → term_at levels l ≡ Var v → values v ≡ Some (a v)
known_value levels keys values a l v known agree lt term =
    let here : at keys l ≡ a v = agree l lt ∙ ap (cell_of a) term in
    sym (ap (term_value values) term) ∙ (known.given l lt ∙ ap Some here)

-- where a variable stands among the first levels
pub level_above : (levels : List Level) (n v : ℕ) → has_var (take n levels) v ≡ true → (l : ℕ) × (l < n) × (term_at levels l ≡ Var v)
level_above [] zero v h = absurd (true≢false (sym h))
level_above [] (suc n) v h = absurd (true≢false (sym h))
level_above (level ∷ levels) zero v h = absurd (true≢false (sym h))
level_above (level ∷ levels) (suc n) v h =
    elim (or_cases (is_var v level.term) (has_var (take n levels) v) h) [
      | inl is ↦ (0, omega arith, is_var-true v level.term is)
      | inr later ↦ let found = level_above levels n v later in (suc found.0, (let lt = found.1 in omega (arith, lt)), found.2)
    ]

-- values that are known by the levels above
pub above_agrees : (levels : List Level) (keys : List ℕ) (values : Values) (a : Assignment) (n : ℕ) → IsKnown levels keys values → AgreeBelow (length keys) (at keys) (keys_under a levels) → n ≡ length keys → (v x : ℕ) → values v ≡ Some x → (false ≡ true) ⊎ (has_var (take n levels) v ≡ true) → a v ≡ x
above_agrees levels keys values a n known agree whole v x e either =
    elim either [
      | inl none ↦ absurd (true≢false (sym none))
      | inr stands ↦
          let found = level_above levels n v stands in
          let lt : found.0 < length keys = subst (λ m. found.0 < m) whole found.1 in
          some_same (a v) x (sym (known_value levels keys values a found.0 v known agree lt found.2) ∙ e)
    ]

pub none_agrees : (a : Assignment) → Agrees (λ v. None) a
none_agrees a v x e = let k = e in cc

-- one more value, of a level above
pub value_agrees : (levels : List Level) (keys : List ℕ) (values some : Values) (a : Assignment) (l v : ℕ) → IsKnown levels keys values → AgreeBelow (length keys) (at keys) (keys_under a levels) → l < length keys → term_at levels l ≡ Var v → Agrees some a → Agrees (with_value some v (cell_of (assigned values) (Var v))) a
value_agrees levels keys values some a l v known agree lt term agrees u x e =
    let cell : cell_of (assigned values) (Var v) ≡ a v = ap (λ o. unwrap_or o 0) (known_value levels keys values a l v known agree lt term) in
    elim (u == v) as (λ b. (u == v) ≡ b → cond b (Some (cell_of (assigned values) (Var v))) (some u) ≡ Some x → a u ≡ x) [
      | true ↦ λ same is. ap a (eqb-true u v same) ∙ (sym cell ∙ some_same (cell_of (assigned values) (Var v)) x is)
      | false ↦ λ other is. agrees u x is
    ] refl e

-- each test passes where all do
pub passes_at : (a : Assignment) (tests : List Test) (i : ℕ) (d : Test) → i < length tests → list_all (passes a) tests ≡ true → passes a (get_or tests i d) ≡ true
passes_at a tests i d lt hold =
    elim (cases_Bool (passes a (get_or tests i d))) [
      | inl is ↦ is
      | inr fails ↦ absurd (true≢false (sym hold ∙ list_all_at (passes a) tests i d lt fails))
    ]

-- the term of the level at a place
pub term_got : (levels : List Level) (i : ℕ) (d : Level) → i < length levels → term_at levels i ≡ (get_or levels i d).term
term_got [] i d lt = absurd (omega (arith, lt))
term_got (x ∷ levels) zero d lt = refl
term_got (x ∷ levels) (suc i) d lt = term_got levels i d (omega (arith, lt))

-- ---- keys

place_cell : (a : Assignment) (levels : List Level) (places : List ℕ) (l : ℕ) → IsIn l places → list_all is_cell (cells_of a (map (term_at levels) places)) ≡ true → is_cell (keys_under a levels l) ≡ true
place_cell a levels [] l at h = absurd at
place_cell a levels (m ∷ places) l at h =
    let both = and_parts (is_cell (keys_under a levels m)) (list_all is_cell (cells_of a (map (term_at levels) places))) h in
    elim at [ inl e ↦ subst (λ i. is_cell (keys_under a levels i) ≡ true) e both.0 | inr r ↦ place_cell a levels places l r both.1 ]

guide_cell : (a : Assignment) (levels : List Level) (l : ℕ) (guide : Guide) → IsIn l guide.places → (atoms : List Atom) (guides : List Guide) → AllZip (IsGuideOf levels) atoms guides → list_all (λ row. list_all is_cell row) (rows_under a atoms) ≡ true → IsIn guide guides → is_cell (keys_under a levels l) ≡ true
guide_cell a levels l guide at [] [] z h there = absurd there
guide_cell a levels l guide at [] (g ∷ guides) z h there = absurd z
guide_cell a levels l guide at (atom ∷ atoms) [] z h there = absurd z
guide_cell a levels l guide at (atom ∷ atoms) (g ∷ guides) z h there =
    let both = and_parts (list_all is_cell (cells_of a atom.terms)) (list_all (λ row. list_all is_cell row) (rows_under a atoms)) h in
    elim there [
      | inl e ↦ place_cell a levels g.places l (subst (λ (w : Guide). IsIn l w.places) (sym e) at) (subst (λ ts. list_all is_cell (cells_of a ts) ≡ true) z.0.terms both.0)
      | inr r ↦ guide_cell a levels l guide at atoms guides z.1 both.1 r
    ]

-- the key of each level is a cell
key_cell : (body : Body) (plan : Plan) (a : Assignment) (l : ℕ) → IsPlanOf body plan → l < length plan.levels → holds a body ≡ true → keys_under a plan.levels l < 2 ^ 120
key_cell body plan a l of_body lt held =
    let holder = of_body.held l lt in
    let rows = (and_parts (list_all (λ row. list_all is_cell row) (rows_under a body.atoms)) (list_all (passes a) body.tests) held).0 in
    let cell : is_cell (keys_under a plan.levels l) ≡ true = guide_cell a plan.levels l holder.0 holder.2 body.atoms plan.guides of_body.guides rows holder.1 in
    ltb-true (keys_under a plan.levels l) (2 ^ 120) (and_parts (nat_lt 0 (keys_under a plan.levels l)) (nat_lt (keys_under a plan.levels l) (2 ^ 120)) cell).1

tests_hold : (body : Body) (a : Assignment) → holds a body ≡ true → list_all (passes a) body.tests ≡ true
tests_hold body a held = (and_parts (list_all (λ row. list_all is_cell row) (rows_under a body.atoms)) (list_all (passes a) body.tests) held).1

-- the key of a level in a range, by its term
pub range_here : (levels : List Level) (n l : ℕ) (level : Level) (a : Assignment) (range : KeyRange) → l < length levels → n ≡ l → level ≡ get_or levels n level
    → (cell_of a level.term < 2 ^ 128 - 1 → IsInRange range (cell_of a level.term)) → keys_under a levels l < 2 ^ 128 - 1 → IsInRange range (keys_under a levels l)
range_here levels n l level a range lt same is inside =
    let here : level ≡ get_or levels l level = subst (λ i. level ≡ get_or levels i level) same is in
    let term : term_at levels l ≡ level.term = term_got levels l level lt ∙ ap (λ (y : Level). y.term) (sym here) in
    subst (λ t. cell_of a t < 2 ^ 128 - 1 → IsInRange range (cell_of a t)) (sym term) inside

-- a range that has the key of each assignment for which the tests hold: what has a key outside of it is hopeless
pub way_leaves : (way : WayView) (levels : List Level) (tests : List Test) (keys : List ℕ) (range : KeyRange) → IsWay way → levels ≡ way.plan.levels → tests ≡ way.body.tests → length keys < length way.plan.levels
    → ((a : Assignment) → AgreeBelow (length keys) (at keys) (keys_under a levels) → list_all (passes a) tests ≡ true → keys_under a levels (length keys) < 2 ^ 128 - 1 → IsInRange range (keys_under a levels (length keys)))
    → Leaves way.body way.plan.levels keys range
way_leaves way levels tests keys range is_way same_levels same_tests lt inside k out a agree held =
    let l : ℕ = length keys in
    let there : keys_under a levels ≡ keys_under a way.plan.levels = ap (keys_under a) same_levels in
    let low : keys_under a way.plan.levels l < 2 ^ 120 = key_cell way.body way.plan a l is_way.of_body lt held in
    let all : list_all (passes a) tests ≡ true = ap (list_all (passes a)) same_tests ∙ tests_hold way.body a held in
    let before : AgreeBelow l (at keys) (keys_under a levels) = subst (λ (ks : Keys). AgreeBelow l (at keys) ks) (sym there) (agrees_before way.plan.levels a l (at keys) k agree) in
    let key : keys_under a levels l ≡ keys_under a way.plan.levels l = ap (λ (ks : Keys). ks l) there in
    let is = inside a before all (omega (arith, low, key)) in
    let from : range.lo ≤ keys_under a levels l = is.0 in
    let to : keys_under a levels l < range.hi = is.1 in
    let same : k ≡ keys_under a way.plan.levels l = agrees_at way.plan.levels a l (at keys) k agree in
    elim out [ inl below ↦ omega (arith, same, key, from, below) | inr above ↦ omega (arith, same, key, to, above) ]

-- keys under which some test fails
pub way_hopeless : (way : WayView) (levels : List Level) (tests : List Test) (keys : List ℕ) → levels ≡ way.plan.levels → tests ≡ way.body.tests
    → ((a : Assignment) → AgreeBelow (length keys) (at keys) (keys_under a levels) → list_all (passes a) tests ≡ true → ⊥)
    → IsHopeless way.body way.plan.levels (length keys) (at keys)
way_hopeless way levels tests keys same_levels same_tests fails a agree held =
    fails a (subst (λ (ls : List Level). AgreeBelow (length keys) (at keys) (keys_under a ls)) (sym same_levels) agree) (ap (list_all (passes a)) same_tests ∙ tests_hold way.body a held)
