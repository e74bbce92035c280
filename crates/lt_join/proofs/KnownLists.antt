-- Lists that are gone through together, and which atoms hold a level.
use Rattle.std.specs.Prelude.{◌≡◌, ℕ, zero, suc, ◌+◌, ◌<◌, ◌≤◌, Bool, true, false, ◌==◌, slice_index, take, List, [], ◌∷◌, ◌++◌, filter, length}
use Rattle.std.specs.List.{AllByRecursion, AllZip}
use Rattle.std.proofs.Common.{refl, sym, ap, ◌∙◌, subst, inl, inr, cond, arith, get_or}
use Rattle.std.proofs.lemmas.Bool.{eqb-true, eq-eqb, or_cases, or_left, or_right}
use Rattle.std.proofs.lemmas.List.{length-map}
use Rattle.lt_face.specs.Lists.{IsIn}
use Rattle.lt_face.specs.State.{permuted}
use Rattle.lt_leap.specs.Common.{has_key}
use Rattle.lt_model.specs.declared.normal.Atom.{Atom}
use Rattle.lt_model.specs.declared.normal.Body.{Body}
use Rattle.lt_query.specs.declared.plans.Guide.{Guide}
use Rattle.lt_query.specs.declared.plans.Level.{Level}
use Rattle.lt_query.specs.declared.plans.Plan.{Plan}
use Rattle.lt_query.specs.Holding.{holds_level, guide_at, atoms_at_level}
use Rattle.lt_query.specs.Plan.{levels_of, IsGuideOf, IsPlanOf}
use Rattle.lt_query.proofs.LevelParts.{guides_there}
use Rattle.lt_join.specs.Holders.{IsWalkable, atoms_at}

-- ---- lists

pub zip_at : {X Y : Type 0} (R : X → Y → Type 0) (xs : List X) (ys : List Y) (i : ℕ) (x : X) (y : Y) → AllZip R xs ys → i < length xs → x ≡ get_or xs i x → y ≡ get_or ys i y → R x y
zip_at R [] ys i x y h lt ex ey = absurd (omega (arith, lt))
zip_at R (v ∷ xs) [] i x y h lt ex ey = absurd h
zip_at R (v ∷ xs) (w ∷ ys) zero x y h lt ex ey = subst (λ p. R p y) (sym ex) (subst (R v) (sym ey) h.0)
zip_at R (v ∷ xs) (w ∷ ys) (suc i) x y h lt ex ey = zip_at R xs ys i x y h.1 (omega (arith, lt)) ex ey

pub zip_long : {X Y : Type 0} (R : X → Y → Type 0) (xs : List X) (ys : List Y) → AllZip R xs ys → length xs ≡ length ys
zip_long R [] [] h = refl
zip_long R [] (y ∷ ys) h = absurd h
zip_long R (x ∷ xs) [] h = absurd h
zip_long R (x ∷ xs) (y ∷ ys) h = let e = zip_long R xs ys h.1 in omega (arith, e)

pub AllZip-more : {X Y : Type 0} (R : X → Y → Type 0) (xs : List X) (ys : List Y) (x : X) (y : Y) → AllZip R xs ys → R x y → AllZip R (xs ++ x ∷ []) (ys ++ y ∷ [])
AllZip-more R [] [] x y h r = (r, tt)
AllZip-more R [] (z ∷ ys) x y h r = absurd h
AllZip-more R (w ∷ xs) [] x y h r = absurd h
AllZip-more R (w ∷ xs) (z ∷ ys) x y h r = (h.0, AllZip-more R xs ys x y h.1 r)

pub All_more : {X : Type 0} (P : X → Type 0) (xs : List X) (x : X) → AllByRecursion P xs → P x → AllByRecursion P (xs ++ x ∷ [])
All_more P [] x h p = (p, tt)
All_more P (y ∷ xs) x h p = (h.0, All_more P xs x h.1 p)

pub take_more : {X : Type 0} (xs : List X) (i : ℕ) (x : X) → i < length xs → x ≡ get_or xs i x → take (i + 1) xs ≡ take i xs ++ x ∷ []
take_more [] i x lt e = absurd (omega (arith, lt))
take_more (y ∷ xs) zero x lt e = ap (λ z. z ∷ []) (sym e)
take_more (y ∷ xs) (suc i) x lt e = (let n : suc i + 1 ≡ suc (i + 1) = omega arith in ap (λ m. take m (y ∷ xs)) n) ∙ ap (λ zs. y ∷ zs) (take_more xs i x (omega (arith, lt)) e)

pub take_all : {X : Type 0} (xs : List X) (i : ℕ) → length xs ≤ i → take i xs ≡ xs
take_all [] zero le = refl
take_all [] (suc i) le = refl
take_all (y ∷ xs) zero le = absurd (omega (arith, le))
take_all (y ∷ xs) (suc i) le = ap (λ zs. y ∷ zs) (take_all xs i (omega (arith, le)))

pub all_get : {X : Type 0} (P : X → Type 0) (xs : List X) (i : ℕ) (x : X) → AllByRecursion P xs → i < length xs → x ≡ get_or xs i x → P x
all_get P [] i x h lt e = absurd (omega (arith, lt))
all_get P (y ∷ xs) zero x h lt e = subst P (sym e) h.0
all_get P (y ∷ xs) (suc i) x h lt e = all_get P xs i x h.1 (omega (arith, lt)) e

pub get_same : {X : Type 0} (xs : List X) (i : ℕ) (d e : X) → i < length xs → get_or xs i d ≡ get_or xs i e
get_same [] i d e lt = absurd (omega (arith, lt))
get_same (y ∷ xs) zero d e lt = refl
get_same (y ∷ xs) (suc i) d e lt = get_same xs i d e (omega (arith, lt))

pub get_in : {X : Type 0} (xs : List X) (i : ℕ) (x : X) → i < length xs → x ≡ get_or xs i x → IsIn x xs
get_in [] i x lt e = absurd (omega (arith, lt))
get_in (y ∷ xs) zero x lt e = inl (sym e)
get_in (y ∷ xs) (suc i) x lt e = inr (get_in xs i x (omega (arith, lt)) e)

-- ---- guides by their places

pub guide_is : (guides : List Guide) (i : ℕ) → i < length guides → guide_at guides i ≡ get_or guides i (guide_at guides i)
guide_is [] i lt = absurd (omega (arith, lt))
guide_is (g ∷ guides) zero lt = refl
guide_is (g ∷ guides) (suc i) lt = guide_is guides i (omega (arith, lt))

pub all_guides : (P : Guide → Type 0) (guides : List Guide) → ((i : ℕ) → i < length guides → P (guide_at guides i)) → AllByRecursion P guides
all_guides P [] f = tt
all_guides P (g ∷ guides) f = (f 0 (omega arith), all_guides P guides (λ i lt. f (suc i) (omega (arith, lt))))

walkable_each : (levels : List Level) (atoms : List Atom) (guides : List Guide) → AllZip (IsGuideOf levels) atoms guides → AllByRecursion IsWalkable guides
walkable_each levels [] [] h = tt
walkable_each levels [] (guide ∷ guides) h = absurd h
walkable_each levels (atom ∷ atoms) [] h = absurd h
walkable_each levels (atom ∷ atoms) (guide ∷ guides) h = (record { columns = h.0.columns; each = h.0.each; as_long = h.0.as_long; rising = h.0.rising }, walkable_each levels atoms guides h.1)

pub walkable_all : (body : Body) (plan : Plan) → IsPlanOf body plan → AllByRecursion IsWalkable plan.guides
walkable_all body plan of_body = walkable_each plan.levels body.atoms plan.guides of_body.guides

-- ---- which atoms hold a level

at_place : (places columns : List ℕ) (l : ℕ) → has_key (permuted columns places) l ≡ true → AllByRecursion (λ c. c < length places) columns → has_key places l ≡ true
at_place places [] l h within = cc
at_place places (c ∷ columns) l h within =
    elim (or_cases (slice_index places c == l) (has_key (permuted columns places) l) h) [
      | inl e ↦ subst (λ k. has_key places k ≡ true) (eqb-true (slice_index places c) l e) (has_at places c within.0)
      | inr r ↦ at_place places columns l r within.1
    ]
  where
    has_at : (xs : List ℕ) (i : ℕ) → i < length xs → has_key xs (slice_index xs i) ≡ true
    has_at [] i lt = absurd (omega arith)
    has_at (x ∷ xs) zero lt = or_left (x == x) (has_key xs x) (eq-eqb x x refl)
    has_at (x ∷ xs) (suc i) lt = or_right (x == slice_index xs i) (has_key xs (slice_index xs i)) (has_at xs i (omega arith))

place_of : (xs : List ℕ) (l : ℕ) → has_key xs l ≡ true → (i : ℕ) × (i < length xs) × (slice_index xs i ≡ l)
place_of [] l h = cc
place_of (x ∷ xs) l h =
    elim (or_cases (x == l) (has_key xs l) h) [ inl e ↦ (0, omega arith, eqb-true x l e) | inr r ↦ (let p = place_of xs l r in (suc p.0, (let q = p.1 in omega arith), p.2)) ]

column_at : (places columns : List ℕ) (i l : ℕ) → IsIn i columns → slice_index places i ≡ l → has_key (permuted columns places) l ≡ true
column_at places [] i l h e = absurd h
column_at places (c ∷ columns) i l h e =
    elim h [
      | inl s ↦ or_left (slice_index places c == l) (has_key (permuted columns places) l) (eq-eqb (slice_index places c) l (ap (slice_index places) s ∙ e))
      | inr r ↦ or_right (slice_index places c == l) (has_key (permuted columns places) l) (column_at places columns i l r e)
    ]

same_bool : (x y : Bool) → (x ≡ true → y ≡ true) → (y ≡ true → x ≡ true) → x ≡ y
same_bool true y f g = sym (f refl)
same_bool false true f g = g refl
same_bool false false f g = refl

-- a level is one of the places exactly where it is a level of the columns in their order
pub holds_same : (guide : Guide) (l : ℕ) → IsWalkable guide → has_key (levels_of guide) l ≡ has_key guide.places l
holds_same guide l walkable =
    same_bool (has_key (levels_of guide) l) (has_key guide.places l) (λ h. at_place guide.places guide.columns l h walkable.columns)
    (λ h. let p = place_of guide.places l h in column_at guide.places guide.columns p.0 l (walkable.each p.0 p.1) p.2)

filter_same : (guides : List Guide) (l : ℕ) → AllByRecursion IsWalkable guides → filter (holds_level l) guides ≡ atoms_at guides l
filter_same [] l h = refl
filter_same (g ∷ guides) l h =
    let same : holds_level l g ≡ has_key (levels_of g) l = sym (holds_same g l h.0) in
    let rest = filter_same guides l h.1 in
    ap (λ b. cond b (g ∷ filter (holds_level l) guides) (filter (holds_level l) guides)) same
    ∙ ap (λ (gs : List Guide). cond (has_key (levels_of g) l) (g ∷ gs) gs) rest

-- as many places as atoms
pub places_count : (guides : List Guide) (l : ℕ) → AllByRecursion IsWalkable guides → length (atoms_at_level guides l) ≡ length (atoms_at guides l)
places_count guides l walkable =
    sym (length-map (atoms_at_level guides l) (guide_at guides)) ∙ (ap (λ (gs : List Guide). length gs) (guides_there guides l) ∙ ap (λ (gs : List Guide). length gs) (filter_same guides l walkable))
