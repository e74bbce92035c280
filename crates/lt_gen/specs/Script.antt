-- The generated script, as the list of its items.
use Rattle.std.specs.Prelude.{ℕ, ◌+◌, ◌-◌, ◌*◌, ◌/◌, List, [], ◌∷◌, length, map, codes, take, drop}
use Rattle.std.specs.List.{range_with_len}
use Rattle.lt_model.specs.declared.kind.Kind.TheVariants.{Int}
use Rattle.lt_model.specs.declared.syntax.Statement.{Statement}
use Rattle.lt_model.specs.declared.syntax.Program.{Program}
use Rattle.lt_model.specs.declared.syntax.Item.{Item}
use Rattle.lt_model.specs.declared.syntax.Item.TheVariants.{Relation, Batch}
use Rattle.lt_model.specs.Schema.{Schema}
use Rattle.lt_gen.specs.Draws.{draw}
use Rattle.lt_gen.specs.Programs.{stocks, load, buy}

-- 1, 2 and so on: so many numbers
abbrev pub numbers : ℕ → List ℕ
numbers count = range_with_len 1 count

-- group j of 64, from 0 on
abbrev pub group_at : {X : Type 0} → List X → ℕ → List X
group_at xs j = take 64 (drop (64 * j) xs)

-- the elements in groups of 64 but the last, which has what is left
abbrev pub groups : {X : Type 0} → List X → List (List X)
groups xs = map (group_at xs) (range_with_len 0 ((length xs + 63) / 64))

-- the row of item i: 5 of it, and as many more as draw number i below 20
abbrev pub stock_of : ℕ → ℕ → Statement
stock_of seed i = stocks i (5 + draw seed i 20)

-- Program p. Each program takes three draws, after one for each item: for how many it buys, for the item that it buys, and
-- for the item of which it asks.
abbrev pub buyer : ℕ → ℕ → ℕ → Program
buyer seed items p =
    let before = items + 3 * (p - 1) in
    buy p (1 + draw seed (before + 1) 5) (1 + draw seed (before + 2) items) (1 + draw seed (before + 3) items)

abbrev pub stock_item : Item
stock_item = Relation (codes "stock") (Int ∷ Int ∷ []) 2

abbrev pub sale_item : Item
sale_item = Relation (codes "sale") (Int ∷ Int ∷ Int ∷ []) 3

-- the relations of the script, by name
abbrev pub bench_schema : Schema
bench_schema = (codes "stock", Int ∷ Int ∷ [], 2) ∷ (codes "sale", Int ∷ Int ∷ Int ∷ [], 3) ∷ []

-- one batch, whose programs insert a row for each item
abbrev pub load_item : ℕ → ℕ → Item
load_item seed items = Batch (map load (groups (map (stock_of seed) (numbers items))))

-- batches of programs that buy
abbrev pub buy_items : ℕ → ℕ → ℕ → List Item
buy_items seed items programs = map Batch (groups (map (buyer seed items) (numbers programs)))

-- the items of the script
abbrev pub bench_items : ℕ → ℕ → ℕ → List Item
bench_items seed items programs = stock_item ∷ sale_item ∷ load_item seed items ∷ buy_items seed items programs
