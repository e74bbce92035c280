-- Marks after marks, where the first ones are told apart by their order.
use Rattle.std.proofs.Common.{◌≡◌, ℕ, zero, suc, ◌+◌, ◌<◌, [], ◌∷◌, length, drop, get_or, refl, sym, ap, ◌∙◌, subst, arith, ◌++◌, take, ◌-◌, length-drop, append_assoc, append-nil, ◌≤◌, ◌⊎◌, inl, inr, drop_of_length-le, List, map}
use Rattle.std.proofs.lemmas.List.{drop-map, length-map}
use Rattle.std.specs.List.{AllByRecursion}
use Rattle.std.specs.declared.cmp.Ordering.{Ordering}
use Rattle.std.specs.declared.cmp.Ordering.TheVariants.{Less, Equal, Greater}
use Rattle.std.proofs.Math.Seq.{drop-cons, take-length}
use Rattle.lt_face.proofs.RowLemmas.{each_weaker}
use Rattle.lt_model.specs.declared.mark.Mark.{Mark}
use Rattle.lt_model.specs.Marks.{Marks, AreMarks, mark_cmp, with_mark, and_then}
use Rattle.lt_delta.proofs.MarkOrder.{mark_total}
use Rattle.lt_delta.proofs.Owners.{pushed, owned_at, owned_within}

-- what is above a mark is above one below it
pub above_lower : (a b : Mark) (marks : Marks) → mark_cmp a b ≡ Less → AllByRecursion (λ n. mark_cmp b n ≡ Less) marks → AllByRecursion (λ n. mark_cmp a n ≡ Less) marks
above_lower a b marks less above = each_weaker (λ n. mark_cmp b n ≡ Less) (λ n. mark_cmp a n ≡ Less) (λ n h. mark_total.trans a b n less h) marks above

-- a mark that is below all later ones stays in front
pub front_stays : (x : Mark) (xs ys : Marks) → AllByRecursion (λ y. mark_cmp x y ≡ Less) ys → and_then (x ∷ xs) ys ≡ x ∷ and_then xs ys
front_stays x xs [] above = refl
front_stays x xs (y ∷ ys) above = rw above.0 (front_stays x (with_mark xs y) ys above.1)

pub after_none : (ys : Marks) → AreMarks ys → and_then [] ys ≡ ys
after_none [] up = refl
after_none (y ∷ ys) up = front_stays y [] ys up.0 ∙ ap (λ (zs : Marks). y ∷ zs) (after_none ys up.1)

pub after_empty : (a b : Marks) → length a ≡ 0 → AreMarks b → and_then a b ≡ b
after_empty [] b none up = after_none b up
after_empty (x ∷ a) b none up = absurd (omega arith)

pub merge_less : (x y : Mark) (xs ys : Marks) → AreMarks (y ∷ ys) → mark_cmp x y ≡ Less → and_then (x ∷ xs) (y ∷ ys) ≡ x ∷ and_then xs (y ∷ ys)
merge_less x y xs ys up less = front_stays x xs (y ∷ ys) (less, above_lower x y ys less up.0)

pub merge_equal : (x y : Mark) (xs ys : Marks) → AreMarks (y ∷ ys) → mark_cmp x y ≡ Equal → and_then (x ∷ xs) (y ∷ ys) ≡ y ∷ and_then xs ys
merge_equal x y xs ys up equal = rw equal (front_stays y xs ys up.0)

pub merge_greater : (x y : Mark) (xs ys : Marks) → AreMarks (y ∷ ys) → mark_cmp x y ≡ Greater → and_then (x ∷ xs) (y ∷ ys) ≡ y ∷ and_then (x ∷ xs) ys
merge_greater x y xs ys up greater = rw greater (front_stays y (x ∷ xs) ys up.0)

pub rest_ascends : (xs : Marks) (i : ℕ) → AreMarks xs → AreMarks (drop i xs)
rest_ascends xs zero up = up
rest_ascends [] (suc i) up = tt
rest_ascends (x ∷ xs) (suc i) up = rest_ascends xs i up.1

pub next : (xs : Marks) (i : ℕ) (d : Mark) → i < length xs → drop i xs ≡ get_or xs i d ∷ drop (i + 1) xs
next xs i d lt = let e : suc i ≡ i + 1 = omega arith in drop-cons xs i d lt ∙ ap (λ n. get_or xs i d ∷ drop n xs) e

module _ (a b : Marks) (i j : ℕ) (x y : Mark) (in_a : i < length a) (in_b : j < length b) (is_x : x ≡ get_or a i x) (is_y : y ≡ get_or b j y) (up : AreMarks b) where
  at_a : drop i a ≡ x ∷ drop (i + 1) a
  at_a = next a i x in_a ∙ ap (λ (m : Mark). m ∷ drop (i + 1) a) (sym is_x)

  at_b : drop j b ≡ y ∷ drop (j + 1) b
  at_b = next b j y in_b ∙ ap (λ (m : Mark). m ∷ drop (j + 1) b) (sym is_y)

  up_b : AreMarks (y ∷ drop (j + 1) b)
  up_b = subst (λ (t : Marks). AreMarks t) at_b (rest_ascends b j up)

  step_less : mark_cmp x y ≡ Less → and_then (drop i a) (drop j b) ≡ x ∷ and_then (drop (i + 1) a) (drop j b)
  step_less h = rw (at_a, at_b) (merge_less x y (drop (i + 1) a) (drop (j + 1) b) up_b h)

  step_equal : mark_cmp x y ≡ Equal → and_then (drop i a) (drop j b) ≡ y ∷ and_then (drop (i + 1) a) (drop (j + 1) b)
  step_equal h = rw (at_a, at_b) (merge_equal x y (drop (i + 1) a) (drop (j + 1) b) up_b h)

  step_greater : mark_cmp x y ≡ Greater → and_then (drop i a) (drop j b) ≡ y ∷ and_then (drop i a) (drop (j + 1) b)
  step_greater h = rw (at_a, at_b) (merge_greater x y (drop (i + 1) a) (drop (j + 1) b) up_b h)

-- one more mark moved from what is left to what is done
moved : (out new : Marks) (x : Mark) (left rest whole : Marks) → new ≡ out ++ x ∷ [] → left ≡ x ∷ rest → out ++ left ≡ whole → new ++ rest ≡ whole
moved out new x left rest whole is step before =
    ap (λ (l : Marks). l ++ rest) is ∙ append_assoc out (x ∷ []) rest ∙ ap (λ (l : Marks). out ++ l) (sym step) ∙ before

-- where one of the lists is used up, the rest of the other follows
pub one_left : (a b : Marks) (i j : ℕ) → AreMarks b → (length a ≤ i) ⊎ (length b ≤ j) → and_then (drop i a) (drop j b) ≡ drop i a ++ drop j b
one_left a b i j up (inl h) =
    let e : drop i a ≡ [] = drop_of_length-le a h in
    rw e (after_none (drop j b) (rest_ascends b j up))
one_left a b i j up (inr h) =
    let e : drop j b ≡ [] = drop_of_length-le b h in
    rw e (sym (append-nil (drop i a)))

tail : {X : Type 0} (xs : List X) (i : ℕ) → take (length xs - i) (drop i xs) ≡ drop i xs
tail xs i = ap (λ n. take n (drop i xs)) (sym (length-drop i xs)) ∙ take-length (drop i xs)

-- so the two rests, one after the other, end the merge
finished : (out mid new a b whole : Marks) (i j : ℕ) → AreMarks b → (length a ≤ i) ⊎ (length b ≤ j) → out ++ and_then (drop i a) (drop j b) ≡ whole
    → mid ≡ out ++ drop i a → new ≡ mid ++ drop j b → new ≡ whole
finished out mid new a b whole i j up over before first second =
    second
    ∙ ap (λ (l : Marks). l ++ drop j b) first
    ∙ append_assoc out (drop i a) (drop j b)
    ∙ ap (λ (l : Marks). out ++ l) (sym (one_left a b i j up over))
    ∙ before

-- ---- the same of owners of marks, p and q, of which out has those that are merged

compared : (a b m n : Mark) (o : Ordering) → m ≡ a → n ≡ b → o ≡ mark_cmp m n → mark_cmp a b ≡ o
compared a b m n o is_m is_n is = ap (λ (k : Mark). mark_cmp k b) (sym is_m) ∙ ap (λ (k : Mark). mark_cmp m k) (sym is_n) ∙ sym is

longer : {X : Type 0} (f : X → Mark) (p q : List X) (i j : ℕ) → (length p ≤ i) ⊎ (length q ≤ j) → (length (map f p) ≤ i) ⊎ (length (map f q) ≤ j)
longer f p q i j (inl h) = inl (subst (λ (n : ℕ). n ≤ i) (sym (length-map p f)) h)
longer f p q i j (inr h) = inr (subst (λ (n : ℕ). n ≤ j) (sym (length-map q f)) h)

module _ {X : Type 0} (f : X → Mark) (p q out : List X) (i j : ℕ) (up : AreMarks (map f q)) (before : map f out ++ and_then (drop i (map f p)) (drop j (map f q)) ≡ and_then (map f p) (map f q)) where
  rest : (xs : List X) (k : ℕ) → map f (take (length xs - k) (drop k xs)) ≡ drop k (map f xs)
  rest xs k = ap (map f) (tail xs k) ∙ sym (drop-map f k xs)

  pub owners_finished : (mid new : List X) → (length p ≤ i) ⊎ (length q ≤ j)
      → map f mid ≡ map f out ++ map f (take (length p - i) (drop i p)) → map f new ≡ map f mid ++ map f (take (length q - j) (drop j q)) → map f new ≡ and_then (map f p) (map f q)
  owners_finished mid new over first second =
      finished (map f out) (map f mid) (map f new) (map f p) (map f q) (and_then (map f p) (map f q)) i j up (longer f p q i j over) before
      (first ∙ ap (λ (l : Marks). map f out ++ l) (rest p i))
      (second ∙ ap (λ (l : Marks). map f mid ++ l) (rest q j))

  module _ (x y z : X) (m n : Mark) (new : List X) (in_p : i < length p) (in_q : j < length q) (is_x : x ≡ get_or p i x) (is_y : y ≡ get_or q j y) (is_m : m ≡ f x) (is_n : n ≡ f y) (is : new ≡ out ++ z ∷ []) where
    at_p : f x ≡ get_or (map f p) i (f x)
    at_p = owned_at f p i x (f x) in_p is_x

    at_q : f y ≡ get_or (map f q) j (f y)
    at_q = owned_at f q j y (f y) in_q is_y

    pub owner_less : f z ≡ f x → Less ≡ mark_cmp m n → map f new ++ and_then (drop (i + 1) (map f p)) (drop j (map f q)) ≡ and_then (map f p) (map f q)
    owner_less same h =
        moved (map f out) (map f new) (f x) _ _ _ (pushed f out new z (f x) is same)
        (step_less (map f p) (map f q) i j (f x) (f y) (owned_within f p i in_p) (owned_within f q j in_q) at_p at_q up (compared (f x) (f y) m n Less is_m is_n h)) before

    pub owner_equal : f z ≡ f y → Equal ≡ mark_cmp m n → map f new ++ and_then (drop (i + 1) (map f p)) (drop (j + 1) (map f q)) ≡ and_then (map f p) (map f q)
    owner_equal same h =
        moved (map f out) (map f new) (f y) _ _ _ (pushed f out new z (f y) is same)
        (step_equal (map f p) (map f q) i j (f x) (f y) (owned_within f p i in_p) (owned_within f q j in_q) at_p at_q up (compared (f x) (f y) m n Equal is_m is_n h)) before

    pub owner_greater : f z ≡ f y → Greater ≡ mark_cmp m n → map f new ++ and_then (drop i (map f p)) (drop (j + 1) (map f q)) ≡ and_then (map f p) (map f q)
    owner_greater same h =
        moved (map f out) (map f new) (f y) _ _ _ (pushed f out new z (f y) is same)
        (step_greater (map f p) (map f q) i j (f x) (f y) (owned_within f p i in_p) (owned_within f q j in_q) at_p at_q up (compared (f x) (f y) m n Greater is_m is_n h)) before
