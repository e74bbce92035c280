-- How many moves a join may take.
use Rattle.std.specs.Prelude.{◌≡◌, ◌<◌, ◌≤◌, ◌-◌, ◌^◌, ℕ, ◌+◌, List, [], ◌∷◌, ◌++◌, map, filter, length, if◌then◌else◌}
use Rattle.std.specs.List.{filter_map, sum_by}
use Rattle.lt_leap.specs.Common.{has_key, common_keys}
use Rattle.lt_leap.specs.Potential.{join_cost}
use Rattle.lt_trie.specs.Under.{next_cell}
use Rattle.lt_model.specs.declared.normal.Body.{Body}
use Rattle.lt_query.specs.declared.plans.Level.{Level}
use Rattle.lt_query.specs.declared.plans.Guide.{Guide}
use Rattle.lt_query.specs.declared.plans.Plan.{Plan}
use Rattle.lt_sense.specs.Kept.{Sense}
use Rattle.lt_face.specs.State.{State, rows_in, permuted}
use Rattle.lt_query.specs.Plan.{Keys, levels_of}
use Rattle.lt_join.specs.Explored.{prefix_at, with_key}

-- each number once
abbrev pub distinct : List ℕ → List ℕ
distinct [] = []
distinct (x ∷ xs) = if has_key xs x then distinct xs else x ∷ distinct xs

-- the keys of an atom's iterator at a level
abbrev pub iterator_keys : State → ℕ → Keys → Guide → List ℕ
iterator_keys state l keys guide = distinct (filter_map (λ row. next_cell (prefix_at guide l keys) (permuted guide.columns row)) (rows_in state guide.relation))

-- the keys of the iterators at a level: an atom's, or the one key of a pin or a tie
abbrev pub iterators_at : State → List Guide → Level → ℕ → Keys → List (List ℕ)
iterators_at state guides level l keys =
    map (iterator_keys state l keys) (filter (λ guide. has_key (levels_of guide) l) guides) ++ (map (λ pin. pin ∷ []) level.pins ++ map (λ m. keys m ∷ []) level.ties)

-- the moves of the levels from this one on, and below them one for each negated atom, of which there are so many
abbrev pub cost_from : ℕ → State → List Guide → List Level → ℕ → Keys → ℕ
cost_from absents state guides [] l keys = absents
cost_from absents state guides (level ∷ levels) l keys =
    let iterators = iterators_at state guides level l keys in
    join_cost iterators + sum_by (λ k. cost_from absents state guides levels (l + 1) (with_key keys l k)) (common_keys iterators)

-- the moves of a whole join
abbrev pub bound : Body → Plan → State → ℕ
bound body plan state = cost_from (length body.absents) state plan.guides plan.levels 0 (λ l. 0)

-- ---- what a sense may gain

-- the sense has gained no more gaps, and no more hits, than moves were made
pub record GainsFewer (old new : Sense) (begun now : ℕ) : Type 0 where
  pub gaps : length new.gaps + begun ≤ length old.gaps + now
  pub hits : length new.hits + begun ≤ length old.hits + now

-- Of one level that goes to its first or its next key: so many atoms hold the level, and where it stands at a key each of
-- their iterators has moved. So the hits that the key may make are paid.
pub record LevelGains (atoms : ℕ) (old new : Sense) (begun now key : ℕ) : Type 0 where
  pub gaps : length new.gaps + begun ≤ length old.gaps + now
  pub hits : new.hits ≡ old.hits
  pub rises : begun ≤ now
  pub paid : key < 2 ^ 128 - 1 → begun + atoms ≤ now
