-- Which guides hold a level.
use Rattle.std.specs.Prelude.{◌≡◌, ℕ, ◌+◌, ◌<◌, ◌==◌, Bool, List, [], map, filter, length, slice_index_or}
use Rattle.std.specs.List.{AllByRecursion, flat_map, list_any}
use Rattle.lt_query.specs.declared.plans.Guide.{Guide}
use Rattle.lt_query.specs.declared.holders.Part.{Part}
use Rattle.lt_query.specs.Lists.{below}

-- one of the columns is at the level
abbrev pub holds_level : ℕ → Guide → Bool
holds_level level guide = list_any (λ l. l == level) guide.places

abbrev pub guide_at : List Guide → ℕ → Guide
guide_at guides i = slice_index_or guides i (record { relation = 0; places = []; columns = [] })

-- the places, ascending, of the guides that hold the level
abbrev pub atoms_at_level : List Guide → ℕ → List ℕ
atoms_at_level guides level = filter (λ i. holds_level level (guide_at guides i)) (below (length guides))

-- ---- kept for each level

-- those of the first n levels, one level after another
abbrev pub atoms_below : List Guide → ℕ → List ℕ
atoms_below guides n = flat_map (atoms_at_level guides) (below n)

-- where those of a level begin and end among those of all levels
abbrev pub part_of : List Guide → ℕ → Part
part_of guides level = record { from = length (atoms_below guides level); to = length (atoms_below guides (level + 1)) }

abbrev pub parts_below : List Guide → ℕ → List Part
parts_below guides n = map (part_of guides) (below n)

-- all levels of the guides are below n
abbrev pub AreBelow : ℕ → List Guide → Type 0
AreBelow n guides = AllByRecursion (λ (guide : Guide). AllByRecursion (λ l. l < n) guide.places) guides

-- each level of the guides has its part, with the places of those that hold it
pub record AreKept (guides : List Guide) (parts : List Part) (places : List ℕ) : Type 0 where
  pub parts_are : parts ≡ parts_below guides (length parts)
  pub places_are : places ≡ atoms_below guides (length parts)
  pub all : AreBelow (length parts) guides
