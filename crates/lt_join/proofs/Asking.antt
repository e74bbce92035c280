-- What the pins and ties of a level leave.
use Rattle.std.specs.Prelude.{◌≡◌, ℕ, zero, suc, ◌+◌, ◌<◌, List, [], ◌∷◌, ◌++◌, map, length, unwrap_or, Some}
use Rattle.std.specs.List.{AllByRecursion}
use Rattle.std.proofs.Common.{refl, sym, ap, ◌∙◌, subst, arith, get_or, take, append_assoc}
use Rattle.std.proofs.lemmas.List.{take_more}
use Rattle.lt_query.specs.declared.plans.Level.{Level}
use Rattle.lt_query.specs.Plan.{Keys, term_at}
use Rattle.lt_model.specs.declared.normal.Term.{Term}
use Rattle.lt_model.specs.declared.normal.Term.TheVariants.{Var, Cell}
use Rattle.lt_model.specs.Answers.{Values, cell_of, term_value}
use Rattle.lt_join.specs.Known.{IsKnown}
use Rattle.lt_join.specs.Values.{assigned}
use Rattle.lt_join.specs.Walked.{at}
use Rattle.lt_join.specs.declared.level.Asked.{Asked}
use Rattle.lt_join.specs.declared.level.Asked.TheVariants.{Any, One, None}
use Rattle.lt_join.specs.Explored.{Fits}
use Rattle.lt_join.specs.Lone.{IsAsked, IsLeftBy}

same_pushed : (P : ℕ → Type 0) (xs : List ℕ) (x : ℕ) → AllByRecursion P (xs ++ x ∷ []) → AllByRecursion P xs × P x
same_pushed P [] x all = (tt, all.0)
same_pushed P (y ∷ xs) x all = let r = same_pushed P xs x all.1 in ((all.0, r.0), r.1)

more : (xs : List ℕ) (x : ℕ) → 0 < length (xs ++ x ∷ [])
more [] x = omega arith
more (y ∷ xs) x = omega arith

-- all are one key, and all are another: so they are the same
pub one_key : (xs : List ℕ) (a b : ℕ) → 0 < length xs → AllByRecursion (λ k. k ≡ a) xs → AllByRecursion (λ k. k ≡ b) xs → a ≡ b
one_key [] a b some all other = absurd (omega (arith, some))
one_key (x ∷ xs) a b some all other = sym all.0 ∙ other.0

pub left_differs : (before : List ℕ) (other key : ℕ) → (other ≡ key → ⊥) → IsLeftBy before (One other) → IsLeftBy (before ++ key ∷ []) None
left_differs before other key differs h = (more before key, λ k all. (let r = same_pushed (λ x. x ≡ k) before key all in differs (one_key before other k h.0 h.1 r.0 ∙ sym r.1)))

pub left_none : (before : List ℕ) (key : ℕ) → IsLeftBy before None → IsLeftBy (before ++ key ∷ []) None
left_none before key h = (more before key, λ k all. h.1 k (same_pushed (λ x. x ≡ k) before key all).0)

-- ---- one after another

-- the next one is asked for, too
pub left_next : (keys : List ℕ) (i key : ℕ) (asked next : Asked) → i < length keys → key ≡ get_or keys i 0 → IsLeftBy (take i keys) asked → ((before : List ℕ) → IsLeftBy before asked → IsLeftBy (before ++ key ∷ []) next) → IsLeftBy (take (i + 1) keys) next
left_next keys i key asked next lt is h goes_on =
    subst (λ ks. IsLeftBy ks next) (ap (λ k. take i keys ++ k ∷ []) is ∙ sym (take_more keys i 0 lt)) (goes_on (take i keys) h)

map_push : (f : ℕ → ℕ) (xs : List ℕ) (x : ℕ) → map f (xs ++ x ∷ []) ≡ map f xs ++ f x ∷ []
map_push f [] x = refl
map_push f (y ∷ xs) x = ap (λ ys. f y ∷ ys) (map_push f xs x)

-- the next tied level's key is asked for, too
pub tied_next : (f : ℕ → ℕ) (ties : List ℕ) (i key : ℕ) (before : List ℕ) (asked next : Asked) → i < length ties → key ≡ f (get_or ties i 0) → IsLeftBy (before ++ map f (take i ties)) asked → ((keys : List ℕ) → IsLeftBy keys asked → IsLeftBy (keys ++ key ∷ []) next)
    → IsLeftBy (before ++ map f (take (i + 1) ties)) next
tied_next f ties i key before asked next lt is h goes_on =
    let whole : (before ++ map f (take i ties)) ++ key ∷ [] ≡ before ++ map f (take (i + 1) ties) =
    append_assoc before (map f (take i ties)) (key ∷ [])
    ∙ ap (λ ks. before ++ ks) (ap (λ k. map f (take i ties) ++ k ∷ []) is ∙ sym (map_push f (take i ties) (get_or ties i 0)) ∙ ap (map f) (sym (take_more ties i 0 lt))) in
    subst (λ ks. IsLeftBy ks next) whole (goes_on (before ++ map f (take i ties)) h)

-- ---- pins and ties

all_parts : (P : ℕ → Type 0) (xs ys : List ℕ) → AllByRecursion P (xs ++ ys) → AllByRecursion P xs × AllByRecursion P ys
all_parts P [] ys all = (tt, all)
all_parts P (x ∷ xs) ys all = let r = all_parts P xs ys all.1 in ((all.0, r.0), r.1)

all_joined : (P : ℕ → Type 0) (xs ys : List ℕ) → AllByRecursion P xs → AllByRecursion P ys → AllByRecursion P (xs ++ ys)
all_joined P [] ys all other = other
all_joined P (x ∷ xs) ys all other = (all.0, all_joined P xs ys all.1 other)

all_mapped : (P : ℕ → Type 0) (f : ℕ → ℕ) (xs : List ℕ) → AllByRecursion P (map f xs) → AllByRecursion (λ x. P (f x)) xs
all_mapped P f [] all = tt
all_mapped P f (x ∷ xs) all = (all.0, all_mapped P f xs all.1)

all_to_map : (P : ℕ → Type 0) (f : ℕ → ℕ) (xs : List ℕ) → AllByRecursion (λ x. P (f x)) xs → AllByRecursion P (map f xs)
all_to_map P f [] all = tt
all_to_map P f (x ∷ xs) all = (all.0, all_to_map P f xs all.1)

long : (f : ℕ → ℕ) (xs ys : List ℕ) → length (xs ++ map f ys) ≡ length xs + length ys
long f [] [] = refl
long f [] (y ∷ ys) = let e = long f [] ys in omega (arith, e)
long f (x ∷ xs) ys = let e = long f xs ys in omega (arith, e)

fits_all : (level : Level) (keys : Keys) (k : ℕ) → Fits level keys k → AllByRecursion (λ x. x ≡ k) (level.pins ++ map keys level.ties)
fits_all level keys k fits = all_joined (λ x. x ≡ k) level.pins (map keys level.ties) fits.0 (all_to_map (λ x. x ≡ k) keys level.ties fits.1)

pub asked_is : (level : Level) (keys : Keys) (asked : Asked) → IsLeftBy (level.pins ++ map keys level.ties) asked → IsAsked level keys asked
asked_is level keys Any h = sym (long keys level.pins level.ties) ∙ h
asked_is level keys (One key) h =
    let n = long keys level.pins level.ties in
    let some = h.0 in
    let parts = all_parts (λ k. k ≡ key) level.pins (map keys level.ties) h.1 in
    (omega (arith, n, some), (parts.0, all_mapped (λ k. k ≡ key) keys level.ties parts.1), λ k fits. sym (one_key (level.pins ++ map keys level.ties) key k some h.1 (fits_all level keys k fits)))
asked_is level keys None h =
    let n = long keys level.pins level.ties in
    let some = h.0 in
    (omega (arith, n, some), λ k fits. h.1 k (fits_all level keys k fits))

-- ---- the key of a tied level

level_at : (levels : List Level) (i : ℕ) (level d : Level) → i < length levels → level ≡ get_or levels i level → get_or levels i d ≡ level
level_at [] i level d lt is = absurd (omega (arith, lt))
level_at (x ∷ levels) zero level d lt is = sym is
level_at (x ∷ levels) (suc i) level d lt is = level_at levels i level d (omega (arith, lt)) is

same_some : (x y : ℕ) → Some x ≡ Some y → x ≡ y
same_some x y e = cc

cell_known : (values : Values) (term : Term) (k : ℕ) → term_value values term ≡ Some k → cell_of (assigned values) term ≡ k
cell_known values (Var v) k e = ap (λ o. unwrap_or o 0) e
cell_known values (Cell c) k e = same_some c k e

pub tied_key : (levels : List Level) (keys : List ℕ) (values : Values) (i : ℕ) (level : Level) → IsKnown levels keys values → i < length keys → i < length levels → level ≡ get_or levels i level → cell_of (assigned values) level.term ≡ at keys i
tied_key levels keys values i level known lt within is =
    let term : term_at levels i ≡ level.term = ap (λ (w : Level). w.term) (level_at levels i level (record { term = Cell 0; pins = []; ties = [] }) within is) in
    cell_known values level.term (at keys i) (ap (term_value values) (sym term) ∙ known.given i lt)

pub tie_below : (P : ℕ → Type 0) (ties : List ℕ) (i : ℕ) → AllByRecursion P ties → i < length ties → P (get_or ties i 0)
tie_below P [] i all lt = absurd (omega (arith, lt))
tie_below P (x ∷ ties) zero all lt = all.0
tie_below P (x ∷ ties) (suc i) all lt = tie_below P ties i all.1 (omega (arith, lt))
