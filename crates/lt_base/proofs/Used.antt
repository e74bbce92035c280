-- Indexes whose use is noted, and lists without those that go.
use Rattle.std.proofs.Common.{◌≡◌, ℕ, zero, suc, List, [], ◌∷◌, ◌++◌, length, map, take, drop, get_or, set, refl, sym, ap, ◌∙◌, subst, drop_of_length-le, arith}
use Rattle.std.proofs.lemmas.List.{append-nil, length-map, take_all}
use Rattle.std.specs.List.{AllByRecursion, remove}
use Rattle.lt_face.specs.State.{Row}
use Rattle.lt_base.specs.declared.index.Index.{Index}
use Rattle.lt_base.specs.Indexed.{IsIndexed}

-- for how long an index was idle says nothing of its rows
pub noted : (width : ℕ) (rows : List Row) (index : Index) (idle : ℕ) → IsIndexed width rows index → IsIndexed width rows (record { columns = index.columns; rows = index.rows; idle = idle })
noted width rows index idle is = record { wide = is.wide; same = is.same }

module _ {X : Type 0} (P : X → Type 0) where
  pub each_set : (xs : List X) (i : ℕ) (x y : X) → x ≡ get_or xs i x → (P x → P y) → AllByRecursion P xs → AllByRecursion P (set xs i y)
  each_set [] zero x y at here all = tt
  each_set [] (suc i) x y at here all = tt
  each_set (z ∷ xs) zero x y at here all = (here (subst P (sym at) all.0), all.1)
  each_set (z ∷ xs) (suc i) x y at here all = (all.0, each_set xs i x y at here all.1)

  pub each_left : (xs : List X) (i : ℕ) → AllByRecursion P xs → AllByRecursion P (remove xs i)
  each_left [] zero all = tt
  each_left [] (suc i) all = tt
  each_left (z ∷ xs) zero all = all.1
  each_left (z ∷ xs) (suc i) all = (all.0, each_left xs i all.1)

-- one of a list in place of another, of which the same is seen
pub seen_same : {X Y : Type 0} (f : X → Y) (xs : List X) (i : ℕ) (x y : X) → x ≡ get_or xs i x → f y ≡ f x → map f (set xs i y) ≡ map f xs
seen_same f [] zero x y at same = refl
seen_same f [] (suc i) x y at same = refl
seen_same f (z ∷ xs) zero x y at same = ap (λ w. w ∷ map f xs) (same ∙ ap f at)
seen_same f (z ∷ xs) (suc i) x y at same = ap (λ (l : List _). f z ∷ l) (seen_same f xs i x y at same)

-- one of several indexes that was idle for as long
module _ (others : List Index) (i : ℕ) (index : Index) (idle : ℕ) (at : index ≡ get_or others i index) where
  abbrev there : Index
  there = get_or others i index

  abbrev new : Index
  new = record { columns = there.columns; rows = there.rows; idle = idle }

  pub noted_all : (width : ℕ) (rows : List Row) → AllByRecursion (IsIndexed width rows) others → AllByRecursion (IsIndexed width rows) (set others i new)
  noted_all width rows all = each_set (IsIndexed width rows) others i index new at (λ is. noted width rows there idle (subst (IsIndexed width rows) at is)) all

  pub noted_columns : map (λ (o : Index). o.columns) (set others i new) ≡ map (λ (o : Index). o.columns) others
  noted_columns = seen_same (λ (o : Index). o.columns) others i index new at (ap (λ (o : Index). o.columns) (sym at))

-- lists of which the same is seen are as long as one another
pub as_many : {X Y : Type 0} (f : X → Y) (xs ys : List X) → map f xs ≡ map f ys → length xs ≡ length ys
as_many f xs ys same = sym (length-map xs f) ∙ ap length same ∙ length-map ys f

-- a slice of a whole list that was written back
pub written_back : {X : Type 0} (n : ℕ) (new old : List X) → length new ≡ length old → n ≡ length old → take n (new ++ drop (length new) old) ≡ new
written_back n new old long all =
    let none : drop (length new) old ≡ [] = drop_of_length-le old (omega arith) in
    ap (λ (l : List _). take n (new ++ l)) none ∙ ap (take n) (append-nil new) ∙ take_all n new (omega arith)
