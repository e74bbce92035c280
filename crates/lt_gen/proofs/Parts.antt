-- The parts of the script.
use Rattle.std.proofs.Common.{◌≡◌, ℕ, List, [], ◌∷◌, ◌++◌, refl}
use Rattle.std.specs.Prelude.{map}
use Rattle.lt_model.specs.declared.syntax.Program.{Program}
use Rattle.lt_model.specs.declared.syntax.Item.{Item}
use Rattle.lt_model.specs.declared.syntax.Item.TheVariants.{Batch}
use Rattle.lt_gen.specs.Programs.{load}
use Rattle.lt_gen.specs.Script.{bench_items, buy_items, groups, numbers, sale_item, stock_item, stock_of}

-- s and t are the seed
pub parts_make : (seed items programs s t : ℕ) (relations loaded all : List Item) (loads : List Program) → s ≡ seed → t ≡ s
    → relations ≡ stock_item ∷ sale_item ∷ [] → loads ≡ map load (groups (map (stock_of s) (numbers items))) → loaded ≡ relations ++ Batch loads ∷ [] → all ≡ loaded ++ buy_items t items programs
    → all ≡ bench_items seed items programs
parts_make seed items programs s t relations loaded all loads es et r l b a = rw (a, et, b, l, r, es) refl
