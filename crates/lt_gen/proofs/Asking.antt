-- The script's relations are there behind its first three items.
use Rattle.std.proofs.Common.{◌≡◌, [], ◌∷◌, refl}
use Rattle.std.specs.Prelude.{ℕ, fold, false}
use Rattle.lt_model.specs.Report.{opening, step}
use Rattle.lt_gen.specs.Script.{bench_schema, load_item, sale_item, stock_item}

pub schema_opened : (seed items : ℕ) → (fold (step false) opening (stock_item ∷ sale_item ∷ load_item seed items ∷ [])).schema ≡ bench_schema
schema_opened seed items = refl
