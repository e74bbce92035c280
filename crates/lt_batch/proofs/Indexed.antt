-- A database that has more indexes has those that programs need.
use Rattle.std.proofs.Common.{◌≡◌, ℕ, zero, suc, ◌+◌, ◌<◌, true, List, [], ◌∷◌, length, map, take, get_or, add-one, sym, subst, arith}
use Rattle.std.specs.List.{AllByRecursion}
use Rattle.lt_face.proofs.RowLemmas.{each_weaker}
use Rattle.lt_model.specs.declared.normal.Stmt.{Stmt}
use Rattle.lt_base.specs.Tables.{Table, has_index}
use Rattle.lt_query.specs.declared.plans.Guide.{Guide}
use Rattle.lt_model.specs.declared.normal.Atom.{Atom}
use Rattle.lt_query.specs.Lists.{below}
use Rattle.lt_query.specs.Needs.{body_of}
use Rattle.lt_query.specs.Stated.{stated_plan}
use Rattle.lt_program.specs.Tally.{HasIndexes, HasIndexesOf}
use Rattle.lt_batch.specs.Folding.{HasAll}

-- a fact of each element, at one of them
pub each_item : {X Y : Type 0} (P : Y → Type 0) (f : X → Y) (xs : List X) (i : ℕ) (x : X) → i < length xs → x ≡ get_or xs i x → AllByRecursion P (map f xs) → P (f x)
each_item P f [] i x lt is all = absurd (omega arith)
each_item P f (y ∷ xs) zero x lt is all = subst (λ z. P (f z)) (sym is) all.0
each_item P f (y ∷ xs) (suc i) x lt is all = each_item P f xs i x (omega arith) is all.1

-- a fact of the first i elements and of the next
pub each_more : {X Y : Type 0} (P : Y → Type 0) (f : X → Y) (xs : List X) (i : ℕ) (x : X) → i < length xs → x ≡ get_or xs i x → AllByRecursion P (map f (take i xs)) → P (f x) → AllByRecursion P (map f (take (i + 1) xs))
each_more {X = X} P f xs i x lt is all h = rw add-one (go xs i lt is all)
  where
    go : (ys : List X) (j : ℕ) → j < length ys → x ≡ get_or ys j x → AllByRecursion P (map f (take j ys)) → AllByRecursion P (map f (take (suc j) ys))
    go [] j below at each = absurd (omega arith)
    go (y ∷ ys) zero below at each = (subst (λ z. P (f z)) at h, tt)
    go (y ∷ ys) (suc j) below at each = (each.0, go ys j (omega arith) at each.1)

pub stays : (old new : List Table) (program : List Stmt) → HasAll old new → HasIndexes old program → HasIndexes new program
stays old new program kept has =
    each_weaker (λ stmt. HasIndexesOf old (body_of stmt)) (λ stmt. HasIndexesOf new (body_of stmt))
    (λ stmt h. (
      each_weaker (λ (guide : Guide). has_index old guide.relation guide.columns ≡ true) (λ (guide : Guide). has_index new guide.relation guide.columns ≡ true) (λ guide. kept guide.relation guide.columns) (stated_plan (body_of stmt)).guides h.0,
      each_weaker (λ (atom : Atom). has_index old atom.relation (below (length atom.terms)) ≡ true) (λ (atom : Atom). has_index new atom.relation (below (length atom.terms)) ≡ true) (λ atom. kept atom.relation (below (length atom.terms))) (body_of stmt).absents h.1,
    ))
    program has

pub all_stay : (old new : List Table) (programs : List (List Stmt)) → HasAll old new → AllByRecursion (HasIndexes old) programs → AllByRecursion (HasIndexes new) programs
all_stay old new programs kept has = each_weaker (HasIndexes old) (HasIndexes new) (λ program. stays old new program kept) programs has
