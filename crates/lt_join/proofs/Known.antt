-- What a walk knows of the variables, as it goes down a key and comes back.
use Rattle.std.specs.Prelude.{◌≡◌, ℕ, zero, suc, ◌+◌, ◌<◌, true, false, ◌==◌, List, [], ◌∷◌, ◌++◌, map, length, slice_get, Some, None, unwrap_or, ◌⊎◌}
use Rattle.std.specs.List.{AllByRecursion}
use Rattle.std.proofs.Common.{refl, sym, ap, ◌∙◌, subst, inl, inr, cond, arith}
use Rattle.std.proofs.lemmas.Bool.{cases_eq, cases_Bool, eqb-true, eq-eqb, true≢false}
use Rattle.lt_model.specs.declared.normal.Term.{Term}
use Rattle.lt_model.specs.declared.normal.Term.TheVariants.{Var, Cell}
use Rattle.lt_model.specs.declared.normal.Body.{Body}
use Rattle.lt_model.specs.Answers.{Values, cell_of, give_all, term_value}
use Rattle.lt_model.specs.Bound.{is_var}
use Rattle.lt_query.specs.declared.plans.Level.{Level}
use Rattle.lt_query.specs.declared.plans.Plan.{Plan}
use Rattle.lt_query.specs.Plan.{Keys, term_at, IsDetermined, IsFirstLevel, IsPlanOf}
use Rattle.lt_query.proofs.Standing.{is_var-true, is_var_itself}
use Rattle.lt_join.specs.Explored.{Fits}
use Rattle.lt_join.specs.Known.{IsKnown}
use Rattle.lt_join.specs.Values.{assigned, with_value}
use Rattle.lt_join.specs.Walked.{at, value_from, leaf_assignment}
use Rattle.lt_join.proofs.Repair.{All_at}
use Rattle.lt_join.proofs.Steps.{at_push_below, at_push_last, length_push, level_at}

some_same : (x y : ℕ) → Some x ≡ Some y → x ≡ y
some_same x y e = let k = e in cc

-- ---- above

pub IsKnown-root : (levels : List Level) → IsKnown levels [] (λ v. None)
IsKnown-root levels = record { given = λ l lt. absurd (omega (arith, lt)); others = λ v none. refl }

-- what is known below a key says all that is known above it
pub IsKnown-above : (levels : List Level) (keys : List ℕ) (key : ℕ) (values : Values) → IsKnown levels (keys ++ key ∷ []) values → IsKnown levels keys values
IsKnown-above levels keys key values known = record {
  given = λ l lt. let n = length_push keys key in known.given l (omega (arith, lt, n)) ∙ ap Some (at_push_below keys key l lt);
  others = known.others;
}

-- ---- below

-- a variable's first level among so many, if it has one there
first_below : (levels : List Level) (v n : ℕ) → ((m : ℕ) × (m < n) × IsFirstLevel levels v m) ⊎ ((m : ℕ) → m < n → term_at levels m ≡ Var v → ⊥)
first_below levels v zero = inr (λ m lt e. absurd (omega (arith, lt)))
first_below levels v (suc n) =
    elim (first_below levels v n) [
      | inl found ↦ inl (found.0, omega (arith, found.1), found.2)
      | inr none ↦ elim (cases_Bool (is_var v (term_at levels n))) [
        | inl is ↦ inl (n, omega arith, (is_var-true v (term_at levels n) is, none))
        | inr other ↦ inr (λ m lt e. elim (cases_eq m n) [
          | inl same ↦ absurd (true≢false (sym (is_var_itself v) ∙ (ap (is_var v) (sym e) ∙ (ap (λ i. is_var v (term_at levels i)) same ∙ other))))
          | inr apart ↦ none m (omega (arith, lt, apart)) e
        ])
      ]
    ]

-- the key that fits a variable's next level is that of each level before
earlier_key : (levels : List Level) (keys : List ℕ) (values : Values) (level : Level) (key v l : ℕ) → IsKnown levels keys values → IsDetermined levels (length keys) level (Var v) → Fits level (at keys) key → l < length keys → term_at levels l ≡ Var v → at keys l ≡ key
earlier_key levels keys values level key v l known determined fits lt term =
    elim (first_below levels v (length keys)) [
      | inl first ↦
          let tied : at keys first.0 ≡ key = All_at (λ m. at keys m ≡ key) level.ties first.0 fits.1 (determined first.0 first.1 first.2) in
          let here : values v ≡ Some (at keys l) = sym (ap (term_value values) term) ∙ known.given l lt in
          let there : values v ≡ Some (at keys first.0) = sym (ap (term_value values) first.2.0) ∙ known.given first.0 first.1 in
          some_same (at keys l) (at keys first.0) (sym here ∙ there) ∙ tied
      | inr none ↦ absurd (none l lt term)
    ]

term_there : (levels : List Level) (n : ℕ) (level : Level) → slice_get levels n ≡ Some level → term_at levels n ≡ level.term
term_there [] n level e = cc
term_there (x ∷ levels) zero level e = ap (λ (y : Level). y.term) (let k = e in let same : x ≡ level = cc in same)
term_there (x ∷ levels) (suc n) level e = term_there levels n level e

all_there : (P : Level → Type 0) (levels : List Level) (n : ℕ) (level : Level) → AllByRecursion P levels → slice_get levels n ≡ Some level → P level
all_there P [] n level h e = cc
all_there P (x ∷ levels) zero level h e = subst P (let k = e in let same : x ≡ level = cc in same) h.0
all_there P (x ∷ levels) (suc n) level h e = all_there P levels n level h.1 e

value_apart : (values : Values) (v key : ℕ) (t : Term) → is_var v t ≡ false → term_value (with_value values v key) t ≡ term_value values t
value_apart values v key (Var u) h = ap (λ b. cond b (Some key) (values u)) h
value_apart values v key (Cell c) h = refl

value_itself : (values : Values) (v key : ℕ) → with_value values v key v ≡ Some key
value_itself values v key = ap (λ b. cond b (Some key) (values v)) (eq-eqb v v refl)

-- the level's variable is given the key
pub IsKnown-var : (levels : List Level) (keys : List ℕ) (values : Values) (level : Level) (key v : ℕ) → slice_get levels (length keys) ≡ Some level → level.term ≡ Var v → IsDetermined levels (length keys) level level.term → Fits level (at keys) key → IsKnown levels keys values → IsKnown levels (keys ++ key ∷ []) (with_value values v key)
IsKnown-var levels keys values level key v here term determined fits known =
    let first : IsDetermined levels (length keys) level (Var v) = subst (IsDetermined levels (length keys) level) term determined in
    let last : term_at levels (length keys) ≡ Var v = term_there levels (length keys) level here ∙ term in
    record {
      given = λ l lt. elim (cases_eq l (length keys)) [
        | inl same ↦
            let value : term_value (with_value values v key) (term_at levels l) ≡ Some key = ap (λ i. term_value (with_value values v key) (term_at levels i)) same ∙ (ap (term_value (with_value values v key)) last ∙ value_itself values v key) in
            value ∙ ap Some (sym (ap (at (keys ++ key ∷ [])) same ∙ at_push_last keys key))
        | inr apart ↦
            let n = length_push keys key in
            let above : l < length keys = omega (arith, lt, n, apart) in
            elim (cases_Bool (is_var v (term_at levels l))) [
              | inl is ↦
                  let own : term_at levels l ≡ Var v = is_var-true v (term_at levels l) is in
                  ap (term_value (with_value values v key)) own ∙ (value_itself values v key
                  ∙ ap Some (sym (at_push_below keys key l above ∙ earlier_key levels keys values level key v l known first fits above own)))
              | inr other ↦ value_apart values v key (term_at levels l) other ∙ (known.given l above ∙ ap Some (sym (at_push_below keys key l above)))
            ]
      ];
      others = λ u none. elim (cases_Bool (u == v)) [
        | inl same ↦
            let is : is_var u level.term ≡ true = ap (is_var u) (term ∙ ap Var (sym (eqb-true u v same))) ∙ is_var_itself u in
            absurd (true≢false (sym is ∙ all_there (λ (lv : Level). is_var u lv.term ≡ false) levels (length keys) level none here))
        | inr other ↦ ap (λ b. cond b (Some key) (values u)) other ∙ known.others u none
      ];
    }

-- the level's term is the key itself
pub IsKnown-cell : (levels : List Level) (keys : List ℕ) (values : Values) (level : Level) (key c : ℕ) → slice_get levels (length keys) ≡ Some level → level.term ≡ Cell c → IsDetermined levels (length keys) level level.term → Fits level (at keys) key → IsKnown levels keys values → IsKnown levels (keys ++ key ∷ []) values
IsKnown-cell levels keys values level key c here term determined fits known =
    let pinned : IsDetermined levels (length keys) level (Cell c) = subst (IsDetermined levels (length keys) level) term determined in
    let is : c ≡ key = All_at (λ pin. pin ≡ key) level.pins c fits.0 pinned in
    let last : term_at levels (length keys) ≡ Cell c = term_there levels (length keys) level here ∙ term in
    record {
      given = λ l lt. elim (cases_eq l (length keys)) [
        | inl same ↦ ap (λ i. term_value values (term_at levels i)) same ∙ (ap (term_value values) last ∙ ap Some (is ∙ sym (ap (at (keys ++ key ∷ [])) same ∙ at_push_last keys key)))
        | inr apart ↦
            let n = length_push keys key in
            let above : l < length keys = omega (arith, lt, n, apart) in
            known.given l above ∙ ap Some (sym (at_push_below keys key l above))
      ];
      others = known.others;
    }

-- a level of a body's plan is determined
pub determined_at : (body : Body) (plan : Plan) → IsPlanOf body plan → (levels : List Level) → levels ≡ plan.levels → (n : ℕ) (level : Level) → slice_get levels n ≡ Some level → IsDetermined levels n level level.term
determined_at body plan of_body levels same n level here =
    let first : 0 + n ≡ n = omega arith in
    let there : slice_get plan.levels n ≡ Some level = subst (λ (ls : List Level). slice_get ls n ≡ Some level) same here in
    let is_level = level_at body plan.levels plan.levels 0 n level of_body.levels there in
    subst (λ (ls : List Level). IsDetermined ls n level level.term) (sym same) (subst (λ m. IsDetermined plan.levels m level level.term) first is_level.determined)

pub level_there : (levels : List Level) (n : ℕ) → n < length levels → (level : Level) × (slice_get levels n ≡ Some level)
level_there [] n lt = absurd (omega (arith, lt))
level_there (x ∷ levels) zero lt = (x, refl)
level_there (x ∷ levels) (suc n) lt = level_there levels n (omega (arith, lt))

-- ---- what the values give

cell_known : (values : Values) (t : Term) (key : ℕ) → term_value values t ≡ Some key → cell_of (assigned values) t ≡ key
cell_known values (Var v) key e = ap (λ o. unwrap_or o 0) e
cell_known values (Cell c) key e = some_same c key e

pub known_row : (levels : List Level) (keys : List ℕ) (values : Values) (places : List ℕ) → IsKnown levels keys values → AllByRecursion (λ l. l < length keys) places → map (λ l. cell_of (assigned values) (term_at levels l)) places ≡ map (at keys) places
known_row levels keys values [] known h = refl
known_row levels keys values (l ∷ places) known h =
    let head = cell_known values (term_at levels l) (at keys l) (known.given l h.0) in
    let tail = known_row levels keys values places known h.1 in cc

known_from : (values : Values) (v : ℕ) (keys : Keys) (levels : List Level) (l : ℕ) → ((m : ℕ) → m < length levels → term_value values (term_at levels m) ≡ Some (keys (l + m))) → (AllByRecursion (λ (level : Level). is_var v level.term ≡ false) levels → values v ≡ None) → values v ≡ value_from levels l keys v
known_from values v keys [] l given none = none tt
known_from values v keys (level ∷ levels) l given none =
    elim (is_var v level.term) as (λ b. is_var v level.term ≡ b → values v ≡ cond b (Some (keys l)) (value_from levels (l + 1) keys v)) [
      | true ↦ λ is.
          let n : l + 0 ≡ l = omega arith in
          sym (ap (term_value values) (is_var-true v level.term is)) ∙ (given 0 (omega arith) ∙ ap (λ i. Some (keys i)) n)
      | false ↦ λ other.
          known_from values v keys levels (l + 1)
          (λ m lt. let n : l + suc m ≡ l + 1 + m = omega arith in given (suc m) (omega (arith, lt)) ∙ ap (λ i. Some (keys i)) n)
          (λ rest. none (other, rest))
    ] refl

-- with keys of all levels the values are those of the keys
pub known_all : (levels : List Level) (keys : List ℕ) (values : Values) → length keys ≡ length levels → IsKnown levels keys values → values ≡ value_from levels 0 (at keys)
known_all levels keys values full known = λ i. λ v. each v i
  where
    each : (v : ℕ) → values v ≡ value_from levels 0 (at keys) v
    each v = known_from values v (at keys) levels 0 (λ m lt. let n : m ≡ 0 + m = omega arith in known.given m (omega (arith, lt, full)) ∙ ap (λ i. Some (at keys i)) n) (known.others v)

-- and with the tests' values they give the leaf's assignment
pub known_leaf : (body : Body) (levels : List Level) (keys : List ℕ) (values all : Values) → length keys ≡ length levels → IsKnown levels keys values → all ≡ give_all values body.tests → assigned all ≡ leaf_assignment body levels (at keys)
known_leaf body levels keys values all full known given = ap assigned (given ∙ ap (λ vs. give_all vs body.tests) (known_all levels keys values full known))
