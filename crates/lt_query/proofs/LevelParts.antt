-- The places of the guides that hold each level, kept one level after another.
use Rattle.std.specs.Prelude.{◌≡◌, ℕ, zero, suc, ◌+◌, ◌-◌, ◌<◌, ◌≤◌, ◌==◌, ◌||◌, Bool, true, false, List, [], ◌∷◌, ◌++◌, map, filter, length}
use Rattle.std.specs.List.{AllByRecursion, flat_map, list_any, slice_range}
use Rattle.std.proofs.Common.{refl, sym, ap, ◌∙◌, subst, cond, arith, add-one, take, drop, get_or, length-append}
use Rattle.std.proofs.Math.Seq.{take-append_seam, drop-append_seam}
use Rattle.std.proofs.lemmas.Bool.{eqb-true, eqb-false}
use Rattle.std.proofs.lemmas.Grind.{flat_map-append}
use Rattle.std.proofs.lemmas.List.{take_more, append-nil, append_assoc, get_or-map, get_or_append_left, get_or_at, length-map, map-append, take_all}
use Rattle.std.proofs.lemmas.List.Elements.{filter-append}
use Rattle.lt_face.proofs.RowLemmas.{each_weaker}
use Rattle.lt_query.specs.declared.plans.Guide.{Guide}
use Rattle.lt_query.specs.declared.holders.Part.{Part}
use Rattle.lt_query.specs.Lists.{below, IsRising}
use Rattle.lt_query.specs.Holding.{holds_level, guide_at, atoms_at_level, atoms_below, part_of, parts_below, AreBelow, AreKept}
use Rattle.lt_query.proofs.Distinct.{length-below, IsIn-filter_from, IsIn-below_from}
use Rattle.lt_query.proofs.Elements.{All_from}
use Rattle.lt_query.proofs.Precedence.{ordered-below, ordered-filter}

-- ---- how many levels there are

each_push : {X : Type 0} (P : X → Type 0) (xs : List X) (x : X) → AllByRecursion P xs → P x → AllByRecursion P (xs ++ x ∷ [])
each_push P [] x all one = (one, tt)
each_push P (y ∷ xs) x all one = (all.0, each_push P xs x all.1 one)

each_more : {X : Type 0} (P : X → Type 0) (xs : List X) (i : ℕ) (d : X) → i < length xs → AllByRecursion P (take i xs) → P (get_or xs i d) → AllByRecursion P (take (i + 1) xs)
each_more P xs i d lt all one = subst (AllByRecursion P) (sym (take_more xs i d lt)) (each_push P (take i xs) (get_or xs i d) all one)

under : (n m : ℕ) → n ≤ m → (levels : List ℕ) → AllByRecursion (λ l. l < n) levels → AllByRecursion (λ l. l < m) levels
under n m le levels = each_weaker (λ l. l < n) (λ l. l < m) (λ l h. omega (arith, h, le)) levels

pub level_more : (levels : List ℕ) (i d n m : ℕ) → i < length levels → n ≤ m → get_or levels i d < m → AllByRecursion (λ l. l < n) (take i levels) → AllByRecursion (λ l. l < m) (take (i + 1) levels)
level_more levels i d n m lt le one all = each_more (λ l. l < m) levels i d lt (under n m le (take i levels) all) one

pub guide_more : (guides : List Guide) (i : ℕ) (guide : Guide) (n m : ℕ) → i < length guides → guide ≡ get_or guides i guide → n ≤ m → AllByRecursion (λ l. l < m) guide.places → AreBelow n (take i guides) → AreBelow m (take (i + 1) guides)
guide_more guides i guide n m lt is le one all =
    each_more (λ (g : Guide). AllByRecursion (λ l. l < m) g.places) guides i guide lt
    (each_weaker (λ (g : Guide). AllByRecursion (λ l. l < n) g.places) (λ (g : Guide). AllByRecursion (λ l. l < m) g.places) (λ (g : Guide) h. under n m le g.places h) (take i guides) all)
    (subst (λ (g : Guide). AllByRecursion (λ l. l < m) g.places) is one)

-- ---- what is kept

pub are_kept : (guides : List Guide) (n : ℕ) (parts : List Part) (places : List ℕ) → parts ≡ parts_below guides n → places ≡ atoms_below guides n → AreBelow n guides → AreKept guides parts places
are_kept guides n parts places parts_are places_are all =
    let count : n ≡ length parts = sym (ap (λ (ps : List Part). length ps) parts_are ∙ (length-map (below n) (part_of guides) ∙ length-below n)) in
    subst (λ m. parts ≡ parts_below guides m → places ≡ atoms_below guides m → AreBelow m guides → AreKept guides parts places) (sym count)
    (λ p q r. record { parts_are = p; places_are = q; all = r }) parts_are places_are all

-- ---- a level's part

flat_next : (f : ℕ → List ℕ) (n : ℕ) → flat_map f (below (suc n)) ≡ flat_map f (below n) ++ f n
flat_next f n = flat_map-append f (below n) (n ∷ []) ∙ ap (λ w. flat_map f (below n) ++ w) (append-nil (f n))

flat_split : (f : ℕ → List ℕ) (n l : ℕ) → l < n → (rest : List ℕ) × (flat_map f (below n) ≡ flat_map f (below l) ++ (f l ++ rest))
flat_split f zero l lt = absurd (omega arith)
flat_split f (suc n) l lt =
    elim (l == n) as (λ b. (l == n) ≡ b → (rest : List ℕ) × (flat_map f (below (suc n)) ≡ flat_map f (below l) ++ (f l ++ rest))) [
      | true ↦ λ e. ([], flat_next f n ∙ (ap (λ k. flat_map f (below k) ++ f k) (sym (eqb-true l n e)) ∙ ap (λ w. flat_map f (below l) ++ w) (sym (append-nil (f l)))))
      | false ↦ λ e.
          let ne = eqb-false l n e in
          let before = flat_split f n l (omega arith) in (
            before.0 ++ f n,
            flat_next f n ∙ (ap (λ w. w ++ f n) before.1 ∙ (append_assoc (flat_map f (below l)) (f l ++ before.0) (f n) ∙ ap (λ w. flat_map f (below l) ++ w) (append_assoc (f l) before.0 (f n)))),
          )
    ] refl

get_below : (n l d : ℕ) → l < n → get_or (below n) l d ≡ l
get_below zero l d lt = absurd (omega arith)
get_below (suc n) l d lt =
    elim (l == n) as (λ b. (l == n) ≡ b → get_or (below n ++ n ∷ []) l d ≡ l) [
      | true ↦ λ e. get_or_at (below n) n [] d l (length-below n ∙ sym (eqb-true l n e)) ∙ sym (eqb-true l n e)
      | false ↦ λ e.
          let ne = eqb-false l n e in
          let long = length-below n in get_or_append_left (below n) (n ∷ []) d l (omega arith) ∙ get_below n l d (omega arith)
    ] refl

-- the middle of three lists
middle : (xs ys zs : List ℕ) → slice_range (xs ++ (ys ++ zs)) (length xs) (length (xs ++ ys)) ≡ ys
middle xs ys zs =
    let long = length-append xs ys in
    let count : length (xs ++ ys) - length xs ≡ length ys = omega arith in
    ap (λ n. take n (drop (length xs) (xs ++ (ys ++ zs)))) count ∙ (ap (take (length ys)) (drop-append_seam xs (ys ++ zs)) ∙ take-append_seam ys zs)

part_is : (guides : List Guide) (parts : List Part) (level : ℕ) (part : Part) → parts ≡ parts_below guides (length parts) → level < length parts → part ≡ get_or parts level part → part ≡ part_of guides level
part_is guides parts level part are lt is =
    let n = length parts in
    let long = length-below n in
    is ∙ (ap (λ (ps : List Part). get_or ps level part) are ∙ (get_or-map (part_of guides) (below n) level 0 part (omega arith) ∙ ap (part_of guides) (get_below n level 0 lt)))

-- ends within the places
within_all : (guides : List Guide) (n level : ℕ) → level < n → ((part_of guides level).from ≤ (part_of guides level).to) × ((part_of guides level).to ≤ length (atoms_below guides n))
within_all guides n level lt =
    let f = atoms_at_level guides in
    let split = flat_split f n level lt in
    let next = ap (λ (w : List ℕ). length w) (flat_next f level) in
    let all = ap (λ (w : List ℕ). length w) split.1 in
    let a = length-append (atoms_below guides level) (f level) in
    let b = length-append (atoms_below guides level) (f level ++ split.0) in
    let c = length-append (f level) split.0 in
    rw add-one (omega arith, omega arith)

pub part_within : (guides : List Guide) (parts : List Part) (places : List ℕ) (level : ℕ) (part : Part) → parts ≡ parts_below guides (length parts) → places ≡ atoms_below guides (length parts) → level < length parts → part ≡ get_or parts level part → (part.from ≤ part.to) × (part.to ≤ length places)
part_within guides parts places level part are places_are lt is =
    subst (λ (p : Part). (p.from ≤ p.to) × (p.to ≤ length places)) (sym (part_is guides parts level part are lt is))
    (subst (λ (w : List ℕ). ((part_of guides level).from ≤ (part_of guides level).to) × ((part_of guides level).to ≤ length w)) (sym places_are) (within_all guides (length parts) level lt))

pub part_holds : (guides : List Guide) (parts : List Part) (places : List ℕ) (level : ℕ) (part : Part) → parts ≡ parts_below guides (length parts) → places ≡ atoms_below guides (length parts) → level < length parts → part ≡ get_or parts level part → slice_range places part.from part.to ≡ atoms_at_level guides level
part_holds guides parts places level part are places_are lt is =
    let f = atoms_at_level guides in
    let split = flat_split f (length parts) level lt in
    let before = atoms_below guides level in
    ap (λ (p : Part). slice_range places p.from p.to) (part_is guides parts level part are lt is)
    ∙ (ap (λ w. slice_range w (length before) (length (atoms_below guides (level + 1)))) (places_are ∙ split.1)
    ∙ (ap (λ (w : List ℕ). slice_range (before ++ (f level ++ split.0)) (length before) (length w)) (rw add-one (flat_next f level))
    ∙ middle before (f level) split.0))

-- ---- beyond all levels

not_at : (n level : ℕ) → n ≤ level → (places : List ℕ) → AllByRecursion (λ l. l < n) places → list_any (λ l. l == level) places ≡ false
not_at n level le [] h = refl
not_at n level le (l ∷ places) h =
    elim (l == level) as (λ b. (l == level) ≡ b → b || list_any (λ l. l == level) places ≡ false) [
      | true ↦ λ e. let same = eqb-true l level e in let lt = h.0 in absurd (omega arith)
      | false ↦ λ e. not_at n level le places h.1
    ] refl

at_any : (P : Guide → Type 0) (guides : List Guide) (i : ℕ) (d : Guide) → P d → AllByRecursion P guides → P (get_or guides i d)
at_any P [] i d none all = none
at_any P (guide ∷ guides) zero d none all = all.0
at_any P (guide ∷ guides) (suc i) d none all = at_any P guides i d none all.1

no_pass : (p : ℕ → Bool) (xs : List ℕ) → ((x : ℕ) → p x ≡ false) → filter p xs ≡ []
no_pass p [] h = refl
no_pass p (x ∷ xs) h = subst (λ b. cond b (x ∷ filter p xs) (filter p xs) ≡ []) (sym (h x)) (no_pass p xs h)

pub none_beyond : (guides : List Guide) (n level : ℕ) → n ≤ level → AreBelow n guides → [] ≡ atoms_at_level guides level
none_beyond guides n level le all =
    sym (no_pass (λ i. holds_level level (guide_at guides i)) (below (length guides)) (λ i.
    not_at n level le (guide_at guides i).places (at_any (λ (g : Guide). AllByRecursion (λ l. l < n) g.places) guides i (record { relation = 0; places = []; columns = [] }) tt all)))

-- ---- what the places are

pub atoms_within : (guides : List Guide) (level : ℕ) → AllByRecursion (λ i. i < length guides) (atoms_at_level guides level)
atoms_within guides level =
    All_from (λ i. i < length guides) (atoms_at_level guides level)
    (λ i h. IsIn-below_from (length guides) i (IsIn-filter_from (λ i. holds_level level (guide_at guides i)) i (below (length guides)) h).0)

pub atoms_rising : (guides : List Guide) (level : ℕ) → IsRising (atoms_at_level guides level)
atoms_rising guides level =
    ordered-filter (λ x y. x < y) (λ i. holds_level level (guide_at guides i)) (below (length guides)) (ordered-below (length guides))

at_passing : {X : Type 0} (p : X → Bool) (d : X) (xs : List X) (n : ℕ) → n ≤ length xs → map (λ i. get_or xs i d) (filter (λ i. p (get_or xs i d)) (below n)) ≡ filter p (take n xs)
at_passing {X = X} p d xs zero le = refl
at_passing {X = X} p d xs (suc n) le =
    let more = take_more xs n d (omega (arith, le)) in
    ap (map (λ i. get_or xs i d)) (filter-append (λ i. p (get_or xs i d)) (below n) (n ∷ []))
    ∙ (map-append (λ i. get_or xs i d) (filter (λ i. p (get_or xs i d)) (below n)) (filter (λ i. p (get_or xs i d)) (n ∷ []))
    ∙ (ap (λ w. w ++ map (λ i. get_or xs i d) (filter (λ i. p (get_or xs i d)) (n ∷ []))) (at_passing p d xs n (omega arith))
    ∙ (ap (λ w. filter p (take n xs) ++ w) (one (get_or xs n d) refl)
    ∙ (sym (filter-append p (take n xs) (get_or xs n d ∷ [])) ∙ ap (filter p) (sym (rw add-one at more))))))
  where
    one : (x : X) → get_or xs n d ≡ x → map (λ i. get_or xs i d) (cond (p x) (n ∷ []) []) ≡ cond (p x) (x ∷ []) []
    one x e = elim (p x) as (λ b. map (λ i. get_or xs i d) (cond b (n ∷ []) []) ≡ cond b (x ∷ []) []) [ true ↦ ap (λ y. y ∷ []) e | false ↦ refl ]

-- the guides at the places are those that hold the level
pub guides_there : (guides : List Guide) (level : ℕ) → map (guide_at guides) (atoms_at_level guides level) ≡ filter (holds_level level) guides
guides_there guides level =
    at_passing (holds_level level) (record { relation = 0; places = []; columns = [] }) guides (length guides) (omega arith)
    ∙ ap (filter (holds_level level)) (take_all (length guides) guides (omega arith))
