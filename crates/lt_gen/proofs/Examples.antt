-- Worked examples of draws, scripts and summaries, computed.
use Rattle.std.proofs.Common.{refl}
use Rattle.std.specs.Prelude.{◌≡◌, ◌^◌, ◌/◌, [], ◌∷◌, codes, length, map}
use Rattle.std.specs.Fmt.{digits}
use Rattle.lt_model.specs.declared.kind.Kind.TheVariants.{Int}
use Rattle.lt_model.specs.declared.syntax.Item.TheVariants.{Relation, Batch}
use Rattle.lt_gen.specs.Draws.{x_after, draw}
use Rattle.lt_gen.specs.Programs.{stocks, load, buy}
use Rattle.lt_gen.specs.Script.{numbers, groups, bench_items}
use Rattle.lt_gen.specs.Summaries.{summary_of, summary_text}

-- ---- the first draws from 1

first_x : x_after 1 1 ≡ 7806831264735756412
first_x = refl

first_quotient : x_after 1 1 / 2 ^ 33 ≡ 908834774
first_quotient = refl

first_draw : draw 1 1 20 ≡ 14
first_draw = refl

second_x : x_after 1 2 ≡ 9396908728118811419
second_x = refl

second_quotient : x_after 1 2 / 2 ^ 33 ≡ 1093944153
second_quotient = refl

second_draw : draw 1 2 5 ≡ 3
second_draw = refl

-- ---- scripts

-- 130 elements are two groups of 64, and one of the two that are left
group_sizes : map length (groups (numbers 130)) ≡ 64 ∷ 64 ∷ 2 ∷ []
group_sizes = refl

-- no group is empty
whole_groups : map length (groups (numbers 128)) ≡ 64 ∷ 64 ∷ []
whole_groups = refl

one_of_each : bench_items 1 1 1 ≡ Relation (codes "stock") (Int ∷ Int ∷ []) 2 ∷ Relation (codes "sale") (Int ∷ Int ∷ Int ∷ []) 3 ∷ Batch (load (stocks 1 19 ∷ []) ∷ []) ∷ Batch (buy 1 4 1 1 ∷ []) ∷ []
one_of_each = refl

-- ---- summaries

summary_of_one : summary_text (summary_of 1 1 1 0) ≡ codes "programs 1\ndone 1\nrefused 0\nprinted 1\nleft 15\nsold 4\n"
unfolding digits
summary_of_one = refl

read_by_two : summary_text (summary_of 1 1 1 2) ≡ codes "programs 1\ndone 1\nrefused 0\nprinted 1\nleft 15\nsold 4\nreads 32\nequal 32\n"
unfolding digits
read_by_two = refl
