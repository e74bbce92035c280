-- The generated script is within the limits.
use Rattle.std.proofs.Common.{◌≡◌, ◌∙◌, ℕ, zero, suc, ◌+◌, ◌-◌, ◌*◌, ◌/◌, ◌%◌, ◌^◌, ◌<◌, ◌≤◌, min, List, [], ◌∷◌, length, take, drop, ap, lit≤, mod-lt, arith}
use Rattle.std.specs.Prelude.{map}
use Rattle.std.specs.List.{AllByRecursion, range_with_len}
use Rattle.std.proofs.lemmas.List.{length-map, length-take}
use Rattle.std.proofs.lemmas.List.FromFn.{length-map-range_with_len}
use Rattle.lt_face.specs.Rows.{IsCell}
use Rattle.lt_model.specs.declared.syntax.Statement.{Statement}
use Rattle.lt_model.specs.declared.syntax.Item.TheVariants.{Batch}
use Rattle.lt_model.specs.Cells.{zero_cell}
use Rattle.lt_model.specs.Limits.{IsStatementWithin, IsProgramWithin, IsWithinLimits}
use Rattle.lt_gen.specs.Limits.{most_items, most_buyers}
use Rattle.lt_gen.specs.Draws.{draw, x_after}
use Rattle.lt_gen.specs.Programs.{stocks, load, buy, requires_stock, stock_query, takes_stock, sells, prints_sales}
use Rattle.lt_gen.specs.Script.{bench_items, buy_items, buyer, group_at, groups, numbers, stock_of}

-- ---- lists

all_range : {X : Type 0} (P : X → Type 0) (f : ℕ → X) (a n : ℕ) → ((k : ℕ) → a ≤ k → k < a + n → P (f k)) → AllByRecursion P (map f (range_with_len a n))
all_range P f a zero each = tt
all_range P f a (suc n) each =
    let first : P (f a) = each a (omega arith) (omega arith) in
    let rest : (k : ℕ) → a + 1 ≤ k → k < (a + 1) + n → P (f k) = λ k lo hi. each k (omega (arith, lo)) (omega (arith, hi)) in
    (first, all_range P f (a + 1) n rest)

all_take : {X : Type 0} (P : X → Type 0) (n : ℕ) (xs : List X) → AllByRecursion P xs → AllByRecursion P (take n xs)
all_take P zero xs all = tt
all_take P (suc n) [] all = tt
all_take P (suc n) (x ∷ xs) all = (all.0, all_take P n xs all.1)

all_drop : {X : Type 0} (P : X → Type 0) (n : ℕ) (xs : List X) → AllByRecursion P xs → AllByRecursion P (drop n xs)
all_drop P zero xs all = all
all_drop P (suc n) [] all = tt
all_drop P (suc n) (x ∷ xs) all = all_drop P n xs all.1

all_mapped : {X Y Z : Type 0} (P : Z → Type 0) (g : Y → Z) (h : X → Y) (xs : List X) → ((x : X) → P (g (h x))) → AllByRecursion P (map g (map h xs))
all_mapped P g h [] each = tt
all_mapped P g h (x ∷ xs) each = (each x, all_mapped P g h xs each)

-- a group has the elements' property, and at most 64
all_group : {X : Type 0} (P : X → Type 0) (xs : List X) (j : ℕ) → AllByRecursion P xs → AllByRecursion P (group_at xs j)
all_group P xs j all = all_take P 64 (drop (64 * j) xs) (all_drop P (64 * j) xs all)

few_in_group : {X : Type 0} (xs : List X) (j : ℕ) → length (group_at xs j) ≤ 64
few_in_group xs j = let e : length (group_at xs j) ≡ min 64 (length (drop (64 * j) xs)) = length-take 64 (drop (64 * j) xs) in omega (arith, e)

group_total : {X Y : Type 0} (g : List X → Y) (f : ℕ → X) (n : ℕ) → length (map g (groups (map f (numbers n)))) ≡ (n + 63) / 64
group_total g f n =
    length-map (groups (map f (numbers n))) g
    ∙ length-map-range_with_len (group_at (map f (numbers n))) 0 ((length (map f (numbers n)) + 63) / 64)
    ∙ ap (λ k. (k + 63) / 64) (length-map-range_with_len f 1 n)

-- ---- statements

int_within : (n : ℕ) → n < 2 ^ 64 → IsCell (zero_cell + n)
int_within n h = (omega (arith, h), omega (arith, h))

stocks_within : (i q : ℕ) → i < 2 ^ 64 → q < 2 ^ 64 → IsStatementWithin (stocks i q)
stocks_within i q hi hq = record {
  heads = (record { some = lit≤ tt; few = lit≤ tt; cells = (int_within i hi, (int_within q hq, tt)) }, tt);
  printed = tt;
  literals = tt;
  few_literals = lit≤ tt;
  few_variables = lit≤ tt;
}

requires_within : (i c : ℕ) → i < 2 ^ 64 → c < 2 ^ 64 → IsStatementWithin (requires_stock i c)
requires_within i c hi hc = record {
  heads = tt;
  printed = tt;
  literals = (record { some = lit≤ tt; few = lit≤ tt; cells = (int_within i hi, (tt, tt)) }, ((tt, int_within c hc), tt));
  few_literals = lit≤ tt;
  few_variables = lit≤ tt;
}

takes_within : (i c : ℕ) → i < 2 ^ 64 → c < 2 ^ 64 → IsStatementWithin (takes_stock i c)
takes_within i c hi hc = record {
  heads = (record { some = lit≤ tt; few = lit≤ tt; cells = (int_within i hi, (tt, tt)) }, (record { some = lit≤ tt; few = lit≤ tt; cells = (int_within i hi, (tt, tt)) }, tt));
  printed = tt;
  literals = (record { some = lit≤ tt; few = lit≤ tt; cells = (int_within i hi, (tt, tt)) }, ((tt, int_within c hc), tt));
  few_literals = lit≤ tt;
  few_variables = lit≤ tt;
}

sells_within : (p i c : ℕ) → p < 2 ^ 64 → i < 2 ^ 64 → c < 2 ^ 64 → IsStatementWithin (sells p i c)
sells_within p i c hp hi hc = record {
  heads = (record { some = lit≤ tt; few = lit≤ tt; cells = (int_within p hp, (int_within i hi, (int_within c hc, tt))) }, tt);
  printed = tt;
  literals = tt;
  few_literals = lit≤ tt;
  few_variables = lit≤ tt;
}

prints_within : (k : ℕ) → k < 2 ^ 64 → IsStatementWithin (prints_sales k)
prints_within k hk = record {
  heads = tt;
  printed = record { some = lit≤ tt; few = lit≤ tt; cells = (tt, (tt, tt)) };
  literals = (record { some = lit≤ tt; few = lit≤ tt; cells = (tt, (int_within k hk, (tt, tt))) }, (record { some = lit≤ tt; few = lit≤ tt; cells = (int_within k hk, (tt, tt)) }, tt));
  few_literals = lit≤ tt;
  few_variables = lit≤ tt;
}

-- ---- programs

load_within : (xs : List Statement) → AllByRecursion IsStatementWithin xs → (j : ℕ) → IsProgramWithin (load (group_at xs j))
load_within xs all j = record { statements = all_group IsStatementWithin xs j all; few = few_in_group xs j }

buy_within : (p c i k : ℕ) → p < 2 ^ 64 → c < 2 ^ 64 → i < 2 ^ 64 → k < 2 ^ 64 → IsProgramWithin (buy p c i k)
buy_within p c i k hp hc hi hk = record {
  statements = (requires_within i c hi hc, (takes_within i c hi hc, (sells_within p i c hp hi hc, (prints_within k hk, tt))));
  few = lit≤ tt;
}

pub query_within : IsProgramWithin stock_query
query_within = record {
  statements = (
    record {
      heads = tt;
      printed = record { some = lit≤ tt; few = lit≤ tt; cells = (tt, (tt, tt)) };
      literals = (record { some = lit≤ tt; few = lit≤ tt; cells = (tt, (tt, tt)) }, tt);
      few_literals = lit≤ tt;
      few_variables = lit≤ tt;
    },
    tt,
  );
  few = lit≤ tt;
}

draw_below : (seed number n : ℕ) → 0 < n → draw seed number n < n
draw_below seed number n some = let x = x_after seed number / 2 ^ 33 in let h : x % n < n = mod-lt x some in h

stock_of_within : (seed i : ℕ) → i < 2 ^ 32 → IsStatementWithin (stock_of seed i)
stock_of_within seed i hi =
    let below : draw seed i 20 < 20 = draw_below seed i 20 (omega arith) in
    let few : 5 + draw seed i 20 < 2 ^ 64 = omega (arith, below) in
    let small : i < 2 ^ 64 = omega (arith, hi) in
    stocks_within i (5 + draw seed i 20) small few

buyer_within : (seed items p : ℕ) → 1 ≤ items → items < 2 ^ 32 → p < 2 ^ 32 → IsProgramWithin (buyer seed items p)
buyer_within seed items p some few hp =
    let before = items + 3 * (p - 1) in
    let there : 0 < items = omega (arith, some) in
    let c : draw seed (before + 1) 5 < 5 = draw_below seed (before + 1) 5 (omega arith) in
    let i : draw seed (before + 2) items < items = draw_below seed (before + 2) items there in
    let k : draw seed (before + 3) items < items = draw_below seed (before + 3) items there in
    let pp : p < 2 ^ 64 = omega (arith, hp) in
    let cc_ : 1 + draw seed (before + 1) 5 < 2 ^ 64 = omega (arith, c) in
    let ii : 1 + draw seed (before + 2) items < 2 ^ 64 = omega (arith, i, few) in
    let kk : 1 + draw seed (before + 3) items < 2 ^ 64 = omega (arith, k, few) in
    buy_within p (1 + draw seed (before + 1) 5) (1 + draw seed (before + 2) items) (1 + draw seed (before + 3) items) pp cc_ ii kk

-- ---- the script

pub bench_within : (seed items programs : ℕ) → 1 ≤ items → items ≤ most_items → programs ≤ most_buyers → AllByRecursion IsWithinLimits (bench_items seed items programs)
bench_within seed items programs some few few_programs =
    let rows = map (stock_of seed) (numbers items) in
    let buyers = map (buyer seed items) (numbers programs) in
    let each_row : AllByRecursion IsStatementWithin rows = all_range IsStatementWithin (stock_of seed) 1 items (λ k lo hi. let h : k < 2 ^ 32 = omega (arith, hi, few) in stock_of_within seed k h) in
    let each_buyer : AllByRecursion IsProgramWithin buyers = all_range IsProgramWithin (buyer seed items) 1 programs (λ k lo hi. let h : k < 2 ^ 32 = omega (arith, hi, few_programs) in let n : items < 2 ^ 32 = omega (arith, few) in buyer_within seed items k some n h) in
    let loads : length (map load (groups rows)) ≡ (items + 63) / 64 = group_total load (stock_of seed) items in
    let few_loads : length (map load (groups rows)) ≤ 256 = omega (arith, loads, few) in
    let load_batch : IsWithinLimits (Batch (map load (groups rows))) = (all_mapped IsProgramWithin load (group_at rows) (range_with_len 0 ((length rows + 63) / 64)) (load_within rows each_row), few_loads) in
    let buy_batch : (j : ℕ) → IsWithinLimits (Batch (group_at buyers j)) = λ j. let h : length (group_at buyers j) ≤ 256 = omega (arith, few_in_group buyers j) in (all_group IsProgramWithin buyers j each_buyer, h) in
    ((lit≤ tt, lit≤ tt, lit≤ tt, lit≤ tt), ((lit≤ tt, lit≤ tt, lit≤ tt, lit≤ tt), (load_batch, all_mapped IsWithinLimits Batch (group_at buyers) (range_with_len 0 ((length buyers + 63) / 64)) buy_batch)))

pub bench_count : (seed items programs : ℕ) → programs ≤ most_buyers → length (bench_items seed items programs) ≤ 1027
bench_count seed items programs few =
    let e : length (buy_items seed items programs) ≡ (programs + 63) / 64 = group_total Batch (buyer seed items) programs in
    omega (arith, e, few)
