-- Where parts of a list stand in it.
use Rattle.std.specs.Prelude.{ℕ, ◌+◌, ◌≤◌, List, map, take, drop}
use Rattle.std.specs.List.{AllByRecursion}
use Rattle.lt_batch.specs.declared.spans.Span.{Span}

-- what stands for a part behind the last
abbrev pub no_span : Span
no_span = record { start = 0; count = 0 }

-- the parts
abbrev pub parted : {X : Type 0} → List Span → List X → List (List X)
parted spans xs = map (λ (span : Span). take span.count (drop span.start xs)) spans

-- no part goes past the first n elements
abbrev pub AreWithin : List Span → ℕ → Type 0
AreWithin spans n = AllByRecursion (λ (span : Span). span.start + span.count ≤ n) spans
