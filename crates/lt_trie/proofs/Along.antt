-- The places on the levels above.
use Rattle.std.proofs.Common.{◌≡◌, ℕ, zero, suc, ◌+◌, ◌<◌, Bool, true, false, length, get_or, set, take, List, [], ◌∷◌, ◌++◌, Some, None, refl, sym, ap, ◌∙◌, subst, arith, slice_index, ◌==◌, cond, append_assoc, append-nil, length-take-le}
use Rattle.std.proofs.lemmas.Bool.Decides.{nat_tests}
use Rattle.lt_face.proofs.RowLemmas.{each_at}
use Rattle.lt_trie.specs.Under.{next_cell}
use Rattle.lt_trie.specs.Stand.{IsUnder, IsStand, AreAlong}

pub along_more : {X : Type 0} (P : List ℕ → ℕ → X → Type 0) (front ks : List ℕ) (k : ℕ) (xs : List X) (x : X) → AreAlong P front ks xs → P (front ++ ks) k x → length ks < length xs → AreAlong P front (ks ++ k ∷ []) (set xs (length ks) x)
along_more P front [] k [] x along here lt = absurd (omega arith)
along_more P front [] k (y ∷ xs) x along here lt = (subst (λ f. P f k x) (append-nil front) here, tt)
along_more P front (j ∷ ks) k [] x along here lt = absurd (omega arith)
along_more P front (j ∷ ks) k (y ∷ xs) x along here lt =
    (along.0, along_more P (front ++ j ∷ []) ks k xs x along.1 (subst (λ f. P f k x) (sym (append_assoc front (j ∷ []) ks)) here) (omega arith))

along_last : {X : Type 0} (P : List ℕ → ℕ → X → Type 0) (front ks : List ℕ) (k : ℕ) (xs : List X) (x : X) → AreAlong P front (ks ++ k ∷ []) xs → x ≡ get_or xs (length ks) x → AreAlong P front ks xs × P (front ++ ks) k x
along_last P front [] k [] x along is = absurd along
along_last P front [] k (y ∷ xs) x along is = (tt, subst (λ f. P f k x) (sym (append-nil front)) (subst (λ z. P front k z) (sym is) along.0))
along_last P front (j ∷ ks) k [] x along is = absurd along
along_last P front (j ∷ ks) k (y ∷ xs) x along is =
    let rest = along_last P (front ++ j ∷ []) ks k xs x along.1 is in
    ((along.0, rest.0), subst (λ f. P f k x) (append_assoc front (j ∷ []) ks) rest.1)

pub last_split : (p : List ℕ) (n : ℕ) → length p ≡ suc n → p ≡ take n p ++ get_or p n 0 ∷ []
last_split [] n long = absurd (omega arith)
last_split (x ∷ []) zero long = refl
last_split (x ∷ (y ∷ p)) zero long = absurd (omega arith)
last_split (x ∷ p) (suc n) long = ap (λ t. x ∷ t) (last_split p n (omega arith))

-- the place of the parent, and those above it
pub parent : {X : Type 0} (P : List ℕ → ℕ → X → Type 0) (p : List ℕ) (n : ℕ) (xs : List X) (x : X) → length p ≡ suc n → AreAlong P [] p xs → x ≡ get_or xs n x → AreAlong P [] (take n p) xs × P (take n p) (get_or p n 0) x
parent P p n xs x long along is =
    let len : length (take n p) ≡ n = length-take-le n p (omega arith) in
    along_last P [] (take n p) (get_or p n 0) xs x (subst (λ q. AreAlong P [] q xs) (last_split p n long) along) (subst (λ m. x ≡ get_or xs m x) (sym len) is)

-- the prefix and the key are the first cells of the row at the place
under_takes : (p r : List ℕ) → IsUnder p r → take (length p) r ≡ p
under_takes [] r under = refl
under_takes (q ∷ ps) [] under = absurd (let e : ⊥ = cc in e)
under_takes (q ∷ ps) (x ∷ xs) under =
    elim (q == x) as (λ t. (q == x) ≡ t → cond t (next_cell ps xs) None ≡ Some (slice_index xs (length ps)) → x ∷ take (length ps) xs ≡ q ∷ ps) [
      | true ↦ λ e h. let same : x ≡ q = grind (arith, nat_tests) in rw (same, under_takes ps xs h) refl
      | false ↦ λ e h. absurd (let f : ⊥ = cc in f)
    ] refl under

takes_more : (p r : List ℕ) (n : ℕ) → IsUnder p r → n ≡ suc (length p) → take n r ≡ p ++ slice_index r (length p) ∷ []
takes_more p r zero under long = absurd (omega arith)
takes_more [] [] (suc n) under long = absurd (let e : ⊥ = cc in e)
takes_more [] (x ∷ xs) (suc n) under long = let none : n ≡ 0 = omega arith in rw none refl
takes_more (q ∷ ps) [] (suc n) under long = absurd (let e : ⊥ = cc in e)
takes_more (q ∷ ps) (x ∷ xs) (suc n) under long =
    elim (q == x) as (λ t. (q == x) ≡ t → cond t (next_cell ps xs) None ≡ Some (slice_index xs (length ps)) → x ∷ take n xs ≡ q ∷ (ps ++ slice_index xs (length ps) ∷ [])) [
      | true ↦ λ e h. let same : x ≡ q = grind (arith, nat_tests) in rw (same, takes_more ps xs n h (omega arith)) refl
      | false ↦ λ e h. absurd (let f : ⊥ = cc in f)
    ] refl under

pub prefix_is : (rows : List (List ℕ)) (p : List ℕ) (k : ℕ) (run : List (List ℕ)) (end : ℕ) (whole : Bool) (n : ℕ) → IsStand rows p k run end whole → n ≡ length p → take n (get_or run 0 []) ≡ p
prefix_is rows p k run end whole n s is = ap (λ m. take m (get_or run 0 [])) is ∙ under_takes p (get_or run 0 []) (each_at (IsUnder p) run 0 [] s.under s.some)

pub prefix_more : (rows : List (List ℕ)) (p : List ℕ) (k : ℕ) (run : List (List ℕ)) (end : ℕ) (whole : Bool) (n : ℕ) → IsStand rows p k run end whole → n ≡ length p + 1 → take n (get_or run 0 []) ≡ p ++ k ∷ []
prefix_more rows p k run end whole n s is =
    takes_more p (get_or run 0 []) n (each_at (IsUnder p) run 0 [] s.under s.some) (omega arith) ∙ ap (λ c. p ++ c ∷ []) s.at_key
