-- A level's moves and its children's.
use Rattle.std.specs.Prelude.{◌≡◌, ℕ, ◌+◌, ◌-◌, ◌^◌, ◌<◌, ◌≤◌, true, false, nat_lt, List, [], ◌∷◌, ◌++◌, length, slice_get, drop, Some, if◌then◌else◌}
use Rattle.std.specs.List.{sum_by}
use Rattle.std.proofs.Common.{refl, ap, ◌∙◌, inl, inr, cond, arith}
use Rattle.std.proofs.lemmas.Bool.{lt-ltb, ltb-true, le-ltb}
use Rattle.std.proofs.lemmas.List.Sums.{sum_by-cons}
use Rattle.lt_join.specs.Walked.{at, CostsAt}
use Rattle.lt_join.proofs.Steps.{at_push, length_push, drop_at}
use Rattle.lt_query.specs.declared.plans.Level.{Level}
use Rattle.lt_query.specs.declared.plans.Plan.{Plan}
use Rattle.lt_sense.specs.Kept.{Sense}
use Rattle.lt_face.specs.Lists.{IsIn}
use Rattle.lt_face.specs.State.{State}
use Rattle.lt_join.specs.Explored.{with_key}
use Rattle.lt_leap.specs.Common.{common_keys}
use Rattle.lt_leap.specs.Potential.{join_cost}
use Rattle.lt_join.specs.Cost.{iterators_at, cost_from, GainsFewer, LevelGains}

-- the share of the keys below
abbrev pub sum_below : ℕ → (ℕ → ℕ) → List ℕ → ℕ
sum_below key f [] = 0
sum_below key f (x ∷ xs) = (if nat_lt x key then f x else 0) + sum_below key f xs

sum_below_rises : (key key' : ℕ) (f : ℕ → ℕ) (xs : List ℕ) → key ≤ key' → sum_below key f xs ≤ sum_below key' f xs
sum_below_rises key key' f [] le = omega arith
sum_below_rises key key' f (x ∷ xs) le =
    let rest = sum_below_rises key key' f xs le in
    elim (nat_lt x key) as (λ b. nat_lt x key ≡ b → cond b (f x) 0 + sum_below key f xs ≤ cond (nat_lt x key') (f x) 0 + sum_below key' f xs) [
      | true ↦ λ e. let lt : nat_lt x key' ≡ true = lt-ltb x key' (let h = ltb-true x key e in omega arith) in rw lt (omega arith)
      | false ↦ λ e. omega arith
    ] refl

-- one more key was done
pub sum_below_more : (key key' : ℕ) (f : ℕ → ℕ) (xs : List ℕ) → IsIn key xs → key < key' → sum_below key f xs + f key ≤ sum_below key' f xs
sum_below_more key key' f [] h lt = absurd h
sum_below_more key key' f (x ∷ xs) h lt =
    let rest = sum_below_rises key key' f xs (omega arith) in
    elim h [
      | inl e ↦
          let no_x : nat_lt x key ≡ false = le-ltb x key (omega arith) in
          let now_x : nat_lt x key' ≡ true = lt-ltb x key' (omega arith) in
          let same : f x ≡ f key = ap f e in
          rw (no_x, now_x) (omega arith)
      | inr r ↦
          let more = sum_below_more key key' f xs r lt in
          elim (nat_lt x key) as (λ b. nat_lt x key ≡ b → (cond b (f x) 0 + sum_below key f xs) + f key ≤ cond (nat_lt x key') (f x) 0 + sum_below key' f xs) [
            | true ↦ λ e. let now_x : nat_lt x key' ≡ true = lt-ltb x key' (let k = ltb-true x key e in omega arith) in rw now_x (omega arith)
            | false ↦ λ e. omega arith
          ] refl
    ]

-- never more than all
pub sum_below-le : (key : ℕ) (f : ℕ → ℕ) (xs : List ℕ) → sum_below key f xs ≤ sum_by f xs
sum_below-le key f [] = omega arith
sum_below-le key f (x ∷ xs) =
    let rest = sum_below-le key f xs in
    rw (sum_by-cons f x xs) (elim (nat_lt x key) as (λ b. cond b (f x) 0 + sum_below key f xs ≤ f x + sum_by f xs) [ true ↦ omega arith | false ↦ omega arith ])

-- what the levels below a key cost
abbrev pub child_cost : ℕ → Plan → State → List ℕ → ℕ → ℕ
child_cost absents plan state keys k = cost_from absents state plan.guides (drop (length keys + 1) plan.levels) (length keys + 1) (with_key (at keys) (length keys) k)

-- the moves so far are those of the level and of the keys below this one
pub record IsPaid (absents : ℕ) (plan : Plan) (state : State) (keys : List ℕ) (level : Level) (begun now left key : ℕ) : Type 0 where
  pub paid : now + left ≤ begun + join_cost (iterators_at state plan.guides level (length keys) (at keys)) + sum_below key (child_cost absents plan state keys) (common_keys (iterators_at state plan.guides level (length keys) (at keys)))
  pub is_common : key < 2 ^ 128 - 1 → IsIn key (common_keys (iterators_at state plan.guides level (length keys) (at keys)))

pub IsPaid-begun : (absents : ℕ) (plan : Plan) (state : State) (keys : List ℕ) (level : Level) (begun now left key : ℕ) → CostsAt plan state keys level (begun + join_cost (iterators_at state plan.guides level (length keys) (at keys))) now left key → IsPaid absents plan state keys level begun now left key
IsPaid-begun absents plan state keys level begun now left key c = record { paid = let k = c.kept in omega arith; is_common = c.is_common }

-- a child's cost, by the keys with this one
child_is : (absents : ℕ) (plan : Plan) (state : State) (keys : List ℕ) (key : ℕ) → cost_from absents state plan.guides (drop (length (keys ++ key ∷ [])) plan.levels) (length (keys ++ key ∷ [])) (at (keys ++ key ∷ [])) ≡ child_cost absents plan state keys key
child_is absents plan state keys key =
    ap (λ n. cost_from absents state plan.guides (drop n plan.levels) n (at (keys ++ key ∷ []))) (length_push keys key)
    ∙ ap (cost_from absents state plan.guides (drop (length keys + 1) plan.levels) (length keys + 1)) (at_push keys key)

-- a child was paid, and the level went on
pub IsPaid-more : (absents : ℕ) (plan : Plan) (state : State) (keys0 keys : List ℕ) (level : Level) (begun now left key back now' left' key' : ℕ) → key < 2 ^ 128 - 1 → key < key' → IsPaid absents plan state keys0 level begun now left key → back ≤ now + cost_from absents state plan.guides (drop (length (keys0 ++ key ∷ [])) plan.levels) (length (keys0 ++ key ∷ [])) (at (keys0 ++ key ∷ [])) → CostsAt plan state keys0 level (back + left) now' left' key' → IsPaid absents plan state keys0 level begun now' left' key'
IsPaid-more absents plan state keys0 keys level begun now left key back now' left' key' at_key rises paid child c =
    let cost : cost_from absents state plan.guides (drop (length (keys0 ++ key ∷ [])) plan.levels) (length (keys0 ++ key ∷ [])) (at (keys0 ++ key ∷ [])) ≡ child_cost absents plan state keys0 key =
    ap (λ n. cost_from absents state plan.guides (drop n plan.levels) n (at (keys0 ++ key ∷ []))) (length_push keys0 key)
    ∙ ap (cost_from absents state plan.guides (drop (length keys0 + 1) plan.levels) (length keys0 + 1)) (at_push keys0 key) in
    let more = sum_below_more key key' (child_cost absents plan state keys0) (common_keys (iterators_at state plan.guides level (length keys0) (at keys0))) (paid.is_common at_key) rises in
    record { paid = let p = paid.paid in let k = c.kept in omega arith; is_common = c.is_common }

-- the whole level was paid
pub cost-all : (absents : ℕ) (plan : Plan) (state : State) (keys : List ℕ) (level : Level) (begun now left key : ℕ) → slice_get plan.levels (length keys) ≡ Some level → IsPaid absents plan state keys level begun now left key → now ≤ begun + cost_from absents state plan.guides (drop (length keys) plan.levels) (length keys) (at keys)
cost-all absents plan state keys level begun now left key here paid =
    let most = sum_below-le key (child_cost absents plan state keys) (common_keys (iterators_at state plan.guides level (length keys) (at keys))) in
    rw (drop_at plan.levels (length keys) level here) (let p = paid.paid in omega arith)

-- a walk that stops below a key, or on the way to the level's next one
pub cost-stopped : (absents : ℕ) (plan : Plan) (state : State) (keys : List ℕ) (level : Level) (begun now left key end : ℕ) → slice_get plan.levels (length keys) ≡ Some level → key < 2 ^ 128 - 1 → IsPaid absents plan state keys level begun now left key → end ≤ now + cost_from absents state plan.guides (drop (length (keys ++ key ∷ [])) plan.levels) (length (keys ++ key ∷ [])) (at (keys ++ key ∷ [])) + left → end ≤ begun + cost_from absents state plan.guides (drop (length keys) plan.levels) (length keys) (at keys)
cost-stopped absents plan state keys level begun now left key end here at_key paid child =
    let cost = child_is absents plan state keys key in
    let more = sum_below_more key (key + 1) (child_cost absents plan state keys) (common_keys (iterators_at state plan.guides level (length keys) (at keys))) (paid.is_common at_key) (omega arith) in
    let most = sum_below-le (key + 1) (child_cost absents plan state keys) (common_keys (iterators_at state plan.guides level (length keys) (at keys))) in
    rw (drop_at plan.levels (length keys) level here) (let p = paid.paid in omega arith)

-- a walk that stops where a level is opened
pub cost-opened : (absents : ℕ) (plan : Plan) (state : State) (keys : List ℕ) (level : Level) (begun now : ℕ) → slice_get plan.levels (length keys) ≡ Some level → now ≤ begun + join_cost (iterators_at state plan.guides level (length keys) (at keys)) → now ≤ begun + cost_from absents state plan.guides (drop (length keys) plan.levels) (length keys) (at keys)
cost-opened absents plan state keys level begun now here within = rw (drop_at plan.levels (length keys) level here) (omega arith)

-- ---- what the sense gains

-- no more gaps and no more hits than moves so far, and at a key its hits are paid too
pub record IsCredited (atoms : ℕ) (begun_sense sense : Sense) (begun now key : ℕ) : Type 0 where
  pub gains : GainsFewer begun_sense sense begun now
  pub credit : key < 2 ^ 128 - 1 → length sense.hits + begun + atoms ≤ length begun_sense.hits + now

pub IsCredited-begun : (atoms : ℕ) (old new : Sense) (begun now key : ℕ) → LevelGains atoms old new begun now key → IsCredited atoms old new begun now key
IsCredited-begun atoms old new begun now key level =
    let e = ap length level.hits in
    let r = level.rises in
    record {
      gains = record { gaps = level.gaps; hits = omega arith };
      credit = λ at_key. (let p = level.paid at_key in omega arith);
    }

-- a key's hits and the walk below it
pub GainsFewer-below : (atoms : ℕ) (begun_sense s h t : Sense) (begun now after key : ℕ) → IsCredited atoms begun_sense s begun now key → key < 2 ^ 128 - 1 → h.gaps ≡ s.gaps → length h.hits ≤ length s.hits + atoms → GainsFewer h t now after → GainsFewer begun_sense t begun after
GainsFewer-below atoms begun_sense s h t begun now after key so at_key gaps few below =
    let e = ap length gaps in
    let c = so.credit at_key in
    let g = so.gains.gaps in
    let a = below.gaps in
    let b = below.hits in
    record { gaps = omega arith; hits = omega arith }

-- a key's hits and the walk below it, and then the level went on
pub credited_key : (atoms : ℕ) (begun_sense s t u : Sense) (begun now after end key key' : ℕ) → IsCredited atoms begun_sense s begun now key → key < 2 ^ 128 - 1 → length t.gaps + now ≤ length s.gaps + after → length t.hits + now ≤ length s.hits + after + atoms → LevelGains atoms t u after end key' → IsCredited atoms begun_sense u begun end key'
credited_key atoms begun_sense s t u begun now after end key key' so at_key gaps hits level =
    let e = ap length level.hits in
    let r = level.rises in
    let c = so.credit at_key in
    let g = so.gains.gaps in
    let h = level.gaps in
    record {
      gains = record { gaps = omega arith; hits = omega arith };
      credit = λ at_key'. (let p = level.paid at_key' in omega arith);
    }
