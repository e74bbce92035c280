-- Lists that a loop makes, one element for each of another list.
use Rattle.std.specs.Prelude.{◌≡◌, ℕ, zero, suc, ◌+◌, ◌<◌, ◌≤◌, List, [], ◌∷◌, ◌++◌, length, map, take, Some, None, slice_get}
use Rattle.std.specs.List.{AllByRecursion}
use Rattle.std.proofs.Common.{refl, sym, ap, ◌∙◌, subst, arith, get_or}
use Rattle.std.proofs.lemmas.List.{map-append}

pub taken_more : {X : Type 0} (xs : List X) (i : ℕ) (x : X) → i < length xs → x ≡ get_or xs i x → take (i + 1) xs ≡ take i xs ++ x ∷ []
taken_more [] i x lt is = absurd (omega arith)
taken_more (y ∷ xs) zero x lt is = ap (λ z. z ∷ []) (sym is)
taken_more (y ∷ xs) (suc i) x lt is =
    let e : suc i + 1 ≡ suc (i + 1) = omega arith in
    ap (λ n. take n (y ∷ xs)) e ∙ ap (λ (l : List _). y ∷ l) (taken_more xs i x (omega arith) is)

pub grown : {Y Z : Type 0} (g : Y → Z) (out : List Z) (ys : List Y) (i : ℕ) (new : Z) (y : Y) → i < length ys → y ≡ get_or ys i y → new ≡ g y → out ≡ map g (take i ys) → out ++ new ∷ [] ≡ map g (take (i + 1) ys)
grown g out ys i new y lt is one before =
    ap (λ (l : List _). l ++ new ∷ []) before
    ∙ ap (λ z. map g (take i ys) ++ z ∷ []) one
    ∙ sym (map-append g (take i ys) (y ∷ []))
    ∙ ap (map g) (sym (taken_more ys i y lt is))

pub grown_map : {X Y Z : Type 0} (f : X → Z) (g : Y → Z) (out : List X) (ys : List Y) (i : ℕ) (new : X) (y : Y) → i < length ys → y ≡ get_or ys i y → f new ≡ g y → map f out ≡ map g (take i ys) → map f (out ++ new ∷ []) ≡ map g (take (i + 1) ys)
grown_map f g out ys i new y lt is one before = map-append f out (new ∷ []) ∙ grown g (map f out) ys i (f new) y lt is one before

pub map_at : {X Y : Type 0} (f : X → Y) (xs : List X) (i : ℕ) (x : X) → i < length xs → x ≡ get_or xs i x → slice_get (map f xs) i ≡ Some (f x)
map_at f [] i x lt is = absurd (omega arith)
map_at f (y ∷ xs) zero x lt is = ap (λ z. Some (f z)) (sym is)
map_at f (y ∷ xs) (suc i) x lt is = map_at f xs i x (omega arith) is

pub map_past : {X Y : Type 0} (f : X → Y) (xs : List X) (i : ℕ) → length xs ≤ i → slice_get (map f xs) i ≡ None
map_past f [] i le = refl
map_past f (y ∷ xs) zero le = absurd (omega arith)
map_past f (y ∷ xs) (suc i) le = map_past f xs i (omega arith)

-- what holds of each element before a place, and of the one there
pub each_more : {X : Type 0} (P : X → Type 0) (xs : List X) (i : ℕ) (x : X) → slice_get xs i ≡ Some x → AllByRecursion P (take i xs) → P x → AllByRecursion P (take (i + 1) xs)
each_more P [] i x at all here = absurd cc
each_more P (y ∷ xs) zero x at all here = let e : x ≡ y = cc in (subst P e here, tt)
each_more P (y ∷ xs) (suc i) x at all here =
    let e : suc (i + 1) ≡ suc i + 1 = omega arith in
    subst (λ n. AllByRecursion P (take n (y ∷ xs))) e (all.0, each_more P xs i x at all.1 here)
