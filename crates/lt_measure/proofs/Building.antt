-- A row above all others goes to the end.
use Rattle.std.proofs.Common.{◌≡◌, ℕ, ◌+◌, ◌<◌, ◌^◌, List, [], ◌∷◌, ◌++◌, refl, arith}
use Rattle.std.specs.declared.cmp.Ordering.TheVariants.{Less, Equal}
use Rattle.std.specs.Ordering.{nat_cmp}
use Rattle.std.proofs.lemmas.Bool.Decides.{nat_tests}
use Rattle.lt_face.specs.Rows.{row_cmp, IsRow}
use Rattle.lt_face.proofs.AboveLast.{each-append, ascending-append}
use Rattle.lt_face.proofs.RowLemmas.{rows_total, each_weaker}
use Rattle.lt_measure.specs.Built.{IsBuilt}

cmp_equal : (a : ℕ) → nat_cmp a a ≡ Equal
cmp_equal a = grind (arith, nat_tests)

cmp_less : (a b : ℕ) → a < b → nat_cmp a b ≡ Less
cmp_less a b h = grind (arith, nat_tests)

in_key : (a b : ℕ) → row_cmp ((a + 1) ∷ (b + 1) ∷ []) ((a + 1) ∷ (b + 1 + 1) ∷ []) ≡ Less
in_key a b = rw (cmp_equal (a + 1), cmp_less (b + 1) (b + 1 + 1) (omega arith)) refl

to_next_key : (a b : ℕ) → row_cmp ((a + 1) ∷ (b + 1) ∷ []) ((a + 1 + 1) ∷ (0 + 1) ∷ []) ≡ Less
to_next_key a b = rw (cmp_less (a + 1) (a + 1 + 1) (omega arith)) refl

pub IsBuilt-empty : IsBuilt [] 0 0
IsBuilt-empty = record { is_set = record { rises = tt; each = tt }; below = tt }

pub IsBuilt-append : (rows : List (List ℕ)) (a b : ℕ) → a < 2 ^ 32 → b < 2 ^ 32 → IsBuilt rows a b → IsBuilt (rows ++ ((a + 1) ∷ (b + 1) ∷ []) ∷ []) a (b + 1)
IsBuilt-append rows a b low_a low_b built =
    let row : List ℕ = (a + 1) ∷ (b + 1) ∷ [] in
    let next : List ℕ = (a + 1) ∷ (b + 1 + 1) ∷ [] in
    record {
      is_set = record {
        rises = ascending-append rows row built.is_set.rises built.below;
        each = each-append (IsRow 2) rows row built.is_set.each (record {
          is_wide = refl;
          has_cells = ((omega arith, omega arith), ((omega arith, omega arith), tt));
        });
      };
      below = each-append (λ r. row_cmp r next ≡ Less) rows row
          (each_weaker (λ r. row_cmp r row ≡ Less) (λ r. row_cmp r next ≡ Less) (λ r h. rows_total.trans r row next h (in_key a b)) rows built.below)
          (in_key a b);
    }

pub IsBuilt-next_key : (rows : List (List ℕ)) (a b : ℕ) → IsBuilt rows a b → IsBuilt rows (a + 1) 0
IsBuilt-next_key rows a b built =
    let row : List ℕ = (a + 1) ∷ (b + 1) ∷ [] in
    let next : List ℕ = (a + 1 + 1) ∷ (0 + 1) ∷ [] in
    record {
      is_set = built.is_set;
      below = each_weaker (λ r. row_cmp r row ≡ Less) (λ r. row_cmp r next ≡ Less) (λ r h. rows_total.trans r row next h (to_next_key a b)) rows built.below;
    }
