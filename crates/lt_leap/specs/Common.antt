-- The keys that several lists of keys have in common.
use Rattle.std.specs.Prelude.{ℕ, ◌==◌, Bool, List, [], ◌∷◌, filter}
use Rattle.std.specs.List.{list_any, list_all}

-- whether a list has the key
abbrev pub has_key : List ℕ → ℕ → Bool
has_key keys k = list_any (λ l. l == k) keys

-- the keys that every list has, ascending as they stand in the first
abbrev pub common_keys : List (List ℕ) → List ℕ
common_keys [] = []
common_keys (keys ∷ rest) = filter (λ k. list_all (λ other. has_key other k) rest) keys
