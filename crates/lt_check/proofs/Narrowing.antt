-- What follows from a look at one condition, and from looks at several.
use Rattle.std.proofs.Common.{◌≡◌, ◌≢◌, ℕ, zero, suc, ◌+◌, ◌<◌, Bool, true, false, ◌&&◌, List, [], ◌∷◌, map, length, take, get_or, set, Option, Some, None, refl, sym, ap, subst, ◌∙◌, arith}
use mathlib.Core.Bool.{true≢false}
use Rattle.std.specs.Prelude.{unwrap_or, slice_index_or}
use Rattle.std.specs.List.{list_all}
use Rattle.std.proofs.Math.ListN.{length-set}
use Rattle.std.proofs.Common.{add-one}
use Rattle.std.proofs.lemmas.List.{take_more, map-append, length-map}
use Rattle.std.proofs.lemmas.List.Folds.{list_all-append, list_all_more}
use Rattle.std.specs.Borrow.{Bor}
use Rattle.lt_check.specs.Seen.{seen}
use Rattle.lt_model.specs.declared.kind.Kind.{Kind}
use Rattle.lt_model.specs.declared.kind.Kind.TheVariants.{Int, Sym}
use Rattle.lt_model.specs.declared.syntax.Term.{Term}
use Rattle.lt_model.specs.declared.syntax.Term.TheVariants.{Name, Cell}
use Rattle.lt_model.specs.declared.syntax.Head.{Head}
use Rattle.lt_model.specs.declared.syntax.Literal.{Literal}
use Rattle.lt_model.specs.Schema.{Schema, columns_of}
use Rattle.lt_model.specs.Variables.{place_of}
use Rattle.lt_model.specs.Check.{Choice, kind_of, same_kind, same_kinds, atom_fits, literal_fits}
use Rattle.lt_check.specs.declared.kinds.Told.{Told}
use Rattle.lt_check.specs.declared.kinds.Told.TheVariants.{Nothing, More, Conflict}
use Rattle.lt_check.specs.Narrowing.{Known, known_at, known_of, Suits, Admits, completed, unknowns, Narrows, agreement, joined}

pub same_kind_is : (a b : Kind) → same_kind a b ≡ true → a ≡ b
same_kind_is Int Int h = refl
same_kind_is Sym Sym h = refl
same_kind_is Int Sym h = absurd cc
same_kind_is Sym Int h = absurd cc

pub same_kind_itself : (a : Kind) → same_kind a a ≡ true
same_kind_itself Int = refl
same_kind_itself Sym = refl

pub both : (a b : Bool) → (a && b) ≡ true → (a ≡ true) × (b ≡ true)
both true b h = (refl, h)
both false b h = absurd cc

pub both_are : (a b : Bool) → a ≡ true → b ≡ true → (a && b) ≡ true
both_are a b e f = ap (λ x. x && b) e ∙ f

length_completed : (known : Known) → length (completed known) ≡ length known
length_completed [] = refl
length_completed (k ∷ known) = omega (arith, length_completed known)

Suits_completed : (known : Known) (v : ℕ) → Suits (known_at known v) (slice_index_or (completed known) v Int)
Suits_completed [] v = refl
Suits_completed (None ∷ known) zero = tt
Suits_completed (Some kind ∷ known) zero = refl
Suits_completed (k ∷ known) (suc v) = Suits_completed known v

-- the completed choice has what is known
pub Admits_completed : (known : Known) → Admits known (completed known)
Admits_completed known = Suits_completed known

-- a term of a known kind has it in each choice
pub kind_known : (names : List (List ℕ)) (known : Known) (t : Term) (kind : Kind) (choice : Choice) → known_of names known t ≡ Some kind → Admits known choice → kind_of names choice t ≡ kind
kind_known names known (Name name) kind choice e a =
    let P : Option Kind → Type 0 = λ k. Suits k (slice_index_or choice (place_of names name) Int) in
    sym (subst P e (a (place_of names name)))
kind_known names known (Cell given cell) kind choice e a = cc

completed_at : (known : Known) (v : ℕ) → known_at known v ≡ None → slice_index_or (completed known) v Int ≡ Int
completed_at [] v e = refl
completed_at (k ∷ known) zero e = ap (λ o. unwrap_or o Int) e
completed_at (k ∷ known) (suc v) e = completed_at known v e

-- a term of no known kind has Int in the completed choice
pub kind_unknown : (names : List (List ℕ)) (known : Known) (t : Term) → known_of names known t ≡ None → kind_of names (completed known) t ≡ Int
kind_unknown names known (Name name) e = completed_at known (place_of names name) e
kind_unknown names known (Cell given cell) e = absurd cc

pub completed_is : (known : Known) (v : ℕ) → slice_index_or (completed known) v Int ≡ unwrap_or (known_at known v) Int
completed_is [] v = refl
completed_is (k ∷ known) zero = refl
completed_is (k ∷ known) (suc v) = completed_is known v

-- ---- one look

-- two kinds are compared
pub Narrows_agreed : (meets : Choice → Bool) (known : Known) (same : Bool) → ((choice : Choice) → Admits known choice → meets choice ≡ same) → Narrows meets known (agreement same) known
Narrows_agreed meets known true h = record {
  keeps = λ choice a e. (λ w. absurd cc, a);
  nothing = λ w. (refl, h (completed known) (Admits_completed known));
  long = refl;
  more = λ w. absurd cc;
}
Narrows_agreed meets known false h = record {
  keeps = λ choice a e. absurd (true≢false (sym e ∙ h choice a));
  nothing = λ w. absurd cc;
  long = refl;
  more = λ w. absurd cc;
}

-- nothing is to be learned
pub Narrows_still : (meets : Choice → Bool) (known : Known) → meets (completed known) ≡ true → Narrows meets known Nothing known
Narrows_still meets known h = record {
  keeps = λ choice a e. (λ w. absurd cc, a);
  nothing = λ w. (refl, h);
  long = refl;
  more = λ w. absurd cc;
}

-- a condition that none meets
pub Narrows_never : (meets : Choice → Bool) (known : Known) → ((choice : Choice) → meets choice ≡ false) → Narrows meets known Conflict known
Narrows_never meets known h = record {
  keeps = λ choice a e. absurd (true≢false (sym e ∙ h choice));
  nothing = λ w. absurd cc;
  long = refl;
  more = λ w. absurd cc;
}

Suits_set : (known : Known) (v u : ℕ) (kind : Kind) (kinds : ℕ → Kind) → kinds v ≡ kind → Suits (known_at known u) (kinds u) → Suits (known_at (set known v (Some kind)) u) (kinds u)
Suits_set [] v u kind kinds e s = s
Suits_set (k ∷ known) zero zero kind kinds e s = sym e
Suits_set (k ∷ known) zero (suc u) kind kinds e s = s
Suits_set (k ∷ known) (suc v) zero kind kinds e s = s
Suits_set (k ∷ known) (suc v) (suc u) kind kinds e s = Suits_set known v u kind (λ n. kinds (suc n)) e s

unknowns_set : (known : Known) (v : ℕ) (kind : Kind) → known_at known v ≡ None → unknowns (set known v (Some kind)) < unknowns known
unknowns_set [] v kind e = absurd cc
unknowns_set (None ∷ known) zero kind e = omega arith
unknowns_set (Some k ∷ known) zero kind e = absurd cc
unknowns_set (None ∷ known) (suc v) kind e = let below = unknowns_set known v kind e in omega arith
unknowns_set (Some k ∷ known) (suc v) kind e = unknowns_set known v kind e

-- a variable that had no kind gets one
pub Narrows_set : (known : Known) (v : ℕ) (kind : Kind) → known_at known v ≡ None → Narrows (λ choice. same_kind (slice_index_or choice v Int) kind) known More (set known v (Some kind))
Narrows_set known v kind e = record {
  keeps = λ choice a h. (λ w. absurd cc, λ u. Suits_set known v u kind (λ n. slice_index_or choice n Int) (same_kind_is (slice_index_or choice v Int) kind h) (a u));
  nothing = λ w. absurd cc;
  long = length-set known v (Some kind);
  more = λ w. unknowns_set known v kind e;
}

-- a condition that the choices at hand meet alike
pub Narrows_as : (f g : Choice → Bool) (was : Known) (told : Told) (is : Known) → ((choice : Choice) → Admits was choice → f choice ≡ g choice) → Narrows f was told is → Narrows g was told is
Narrows_as f g was told is h n = record {
  keeps = λ choice a e. n.keeps choice a (h choice a ∙ e);
  nothing = λ w.
      let p = n.nothing w in
      (p.0, ap (λ known. g (completed known)) p.0 ∙ sym (h (completed was) (Admits_completed was)) ∙ ap (λ known. f (completed known)) (sym p.0) ∙ p.1);
  long = n.long;
  more = n.more;
}

pub same_kind_turned : (a b : Kind) → same_kind a b ≡ same_kind b a
same_kind_turned Int Int = refl
same_kind_turned Sym Sym = refl
same_kind_turned Int Sym = refl
same_kind_turned Sym Int = refl

-- the kind of the left term goes to the right one
pub Narrows_left : (names : List (List ℕ)) (left right : Term) (kind : Kind) (was : Known) (told : Told) (is : Known) → known_of names was left ≡ Some kind → Narrows (λ choice. same_kind (kind_of names choice right) kind) was told is → Narrows (λ choice. same_kind (kind_of names choice left) (kind_of names choice right)) was told is
Narrows_left names left right kind was told is e n =
    Narrows_as _ (λ choice. same_kind (kind_of names choice left) (kind_of names choice right)) was told is
    (λ choice a. same_kind_turned (kind_of names choice right) kind ∙ ap (λ k. same_kind k (kind_of names choice right)) (sym (kind_known names was left kind choice e a))) n

-- the kind of the right term goes to the left one
pub Narrows_right : (names : List (List ℕ)) (left right : Term) (kind : Kind) (was : Known) (told : Told) (is : Known) → known_of names was right ≡ Some kind → Narrows (λ choice. same_kind (kind_of names choice left) kind) was told is → Narrows (λ choice. same_kind (kind_of names choice left) (kind_of names choice right)) was told is
Narrows_right names left right kind was told is e n =
    Narrows_as _ (λ choice. same_kind (kind_of names choice left) (kind_of names choice right)) was told is
    (λ choice a. ap (λ k. same_kind (kind_of names choice left) k) (sym (kind_known names was right kind choice e a))) n

-- neither term has a known kind
pub Narrows_neither : (names : List (List ℕ)) (left right : Term) (known : Known) → known_of names known left ≡ None → known_of names known right ≡ None → Narrows (λ choice. same_kind (kind_of names choice left) (kind_of names choice right)) known Nothing known
Narrows_neither names left right known e f =
    Narrows_still _ known (ap (λ k. same_kind k (kind_of names (completed known) right)) (kind_unknown names known left e) ∙ ap (same_kind Int) (kind_unknown names known right f))

-- ---- several looks

joined_good : (s t : Told) → s ≢ Conflict → t ≢ Conflict → joined s t ≢ Conflict
joined_good Nothing t g h = h
joined_good Conflict t g h = g
joined_good More Nothing g h = g
joined_good More More g h = g
joined_good More Conflict g h = h

joined_nothing : (s t : Told) → joined s t ≡ Nothing → (s ≡ Nothing) × (t ≡ Nothing)
joined_nothing Nothing t h = (refl, h)
joined_nothing Conflict t h = absurd cc
joined_nothing More Nothing h = absurd cc
joined_nothing More More h = absurd cc
joined_nothing More Conflict h = absurd cc

joined_more : (s t : Told) (a b c : ℕ) → joined s t ≡ More → (s ≡ Nothing → b ≡ a) → (s ≡ More → b < a) → (t ≡ Nothing → c ≡ b) → (t ≡ More → c < b) → c < a
joined_more Nothing t a b c h n m k l = let e = n refl in let f = l h in omega (arith, e, f)
joined_more Conflict t a b c h n m k l = absurd cc
joined_more More Nothing a b c h n m k l = let e = m refl in let f = k refl in omega (arith, e, f)
joined_more More More a b c h n m k l = let e = m refl in let f = l refl in omega (arith, e, f)
joined_more More Conflict a b c h n m k l = absurd cc

-- one look after another
pub Narrows_and : (f g meets : Choice → Bool) (was : Known) (s : Told) (between : Known) (t : Told) (is : Known) → ((choice : Choice) → meets choice ≡ (f choice && g choice)) → Narrows f was s between → Narrows g between t is → Narrows meets was (joined s t) is
Narrows_and f g meets was s between t is e m n = record {
  keeps = λ choice a h.
      let p = both (f choice) (g choice) (sym (e choice) ∙ h) in
      let q = m.keeps choice a p.0 in
      let r = n.keeps choice q.1 p.1 in
      (joined_good s t q.0 r.0, r.1);
  nothing = λ w.
      let p = joined_nothing s t w in
      let q = m.nothing p.0 in
      let r = n.nothing p.1 in
      (r.0 ∙ q.0, e (completed is) ∙ both_are (f (completed is)) (g (completed is)) (ap (λ known. f (completed known)) r.0 ∙ q.1) r.1);
  long = n.long ∙ m.long;
  more = λ w. joined_more s t (unknowns was) (unknowns between) (unknowns is) w (λ k. ap unknowns (m.nothing k).0) m.more (λ k. ap unknowns (n.nothing k).0) n.more;
}

-- ---- rows

no_more : (a b : Bool) → b ≡ false → (a && b) ≡ false
no_more true b h = h
no_more false b h = refl

with_true : (a : Bool) → (a && true) ≡ (true && a)
with_true true = refl
with_true false = refl

pub and_true : (a : Bool) → (a && true) ≡ a
and_true true = refl
and_true false = refl

grouped : (a b c : Bool) → (a && (b && c)) ≡ ((a && b) && c)
grouped true b c = refl
grouped false b c = refl

pub same_kinds_lengths : (as_ bs : List Kind) → length as_ ≢ length bs → same_kinds as_ bs ≡ false
same_kinds_lengths [] [] h = absurd (h refl)
same_kinds_lengths [] (b ∷ bs) h = refl
same_kinds_lengths (a ∷ as_) [] h = refl
same_kinds_lengths (a ∷ as_) (b ∷ bs) h = no_more (same_kind a b) (same_kinds as_ bs) (same_kinds_lengths as_ bs (λ e. h (ap suc e)))

-- a row of another length
pub Narrows_misfit : (names : List (List ℕ)) (terms : List Term) (columns : List Kind) (known : Known) → length terms ≢ length columns → Narrows (λ choice. same_kinds (map (kind_of names choice) terms) columns) known Conflict known
Narrows_misfit names terms columns known h =
    Narrows_never (λ choice. same_kinds (map (kind_of names choice) terms) columns) known
    (λ choice. same_kinds_lengths (map (kind_of names choice) terms) columns (λ e. h (sym (length-map terms (kind_of names choice)) ∙ e)))

same_kinds_next : (kind : Term → Kind) (terms : List Term) (columns : List Kind) (i : ℕ) (t : Term) (k : Kind) → i < length terms → i < length columns → same_kinds (map kind (take (suc i) terms)) (take (suc i) columns) ≡ (same_kinds (map kind (take i terms)) (take i columns) && same_kind (kind (get_or terms i t)) (get_or columns i k))
same_kinds_next kind [] columns i t k h g = absurd (omega arith)
same_kinds_next kind (x ∷ terms) [] i t k h g = absurd (omega arith)
same_kinds_next kind (x ∷ terms) (y ∷ columns) zero t k h g = with_true (same_kind (kind x) y)
same_kinds_next kind (x ∷ terms) (y ∷ columns) (suc i) t k h g =
    ap (λ b. same_kind (kind x) y && b) (same_kinds_next kind terms columns i t k (omega arith) (omega arith))
    ∙ grouped (same_kind (kind x) y) (same_kinds (map kind (take i terms)) (take i columns)) (same_kind (kind (get_or terms i t)) (get_or columns i k))

-- one more argument
pub same_kinds_more : (kind : Term → Kind) (terms : List Term) (columns : List Kind) (i : ℕ) (t : Term) (k : Kind) → i < length terms → i < length columns → same_kinds (map kind (take (i + 1) terms)) (take (i + 1) columns) ≡ (same_kinds (map kind (take i terms)) (take i columns) && same_kind (kind (get_or terms i t)) (get_or columns i k))
same_kinds_more kind terms columns i t k h g = ap (λ n. same_kinds (map kind (take n terms)) (take n columns)) (add-one i) ∙ same_kinds_next kind terms columns i t k h g

-- one more atom
pub all_seen_more : {X : Type 0} (p : X → Bool) (xs : List (Bor X)) (i : ℕ) (d : Bor X) → i < length xs → list_all p (seen (take (i + 1) xs)) ≡ (list_all p (seen (take i xs)) && p (get_or xs i d).now)
all_seen_more p xs i d h =
    ap (λ ys. list_all p (seen ys)) (take_more xs i d h)
    ∙ ap (list_all p) (map-append (λ x. x.now) (take i xs) (get_or xs i d ∷ []))
    ∙ list_all-append p (seen (take i xs)) ((get_or xs i d).now ∷ [])
    ∙ ap (λ b. list_all p (seen (take i xs)) && b) (and_true (p (get_or xs i d).now))

-- ---- steps of loops

-- the next argument
pub Narrows_argument : (names : List (List ℕ)) (terms : List Term) (columns : List Kind) (i : ℕ) (t : Term) (was : Known) (s : Told) (between : Known) (u : Told) (is : Known) → i < length terms → length terms ≡ length columns → t ≡ get_or terms i t → Narrows (λ choice. same_kinds (map (kind_of names choice) (take i terms)) (take i columns)) was s between → Narrows (λ choice. same_kind (kind_of names choice t) (get_or columns i Int)) between u is → Narrows (λ choice. same_kinds (map (kind_of names choice) (take (i + 1) terms)) (take (i + 1) columns)) was (joined s u) is
Narrows_argument names terms columns i t was s between u is h l e m n =
    Narrows_and _ _ (λ choice. same_kinds (map (kind_of names choice) (take (i + 1) terms)) (take (i + 1) columns)) was s between u is
    (λ choice.
    same_kinds_more (kind_of names choice) terms columns i t Int h (omega arith)
    ∙ ap (λ x. same_kinds (map (kind_of names choice) (take i terms)) (take i columns) && same_kind (kind_of names choice x) (get_or columns i Int)) (sym e))
    m n

-- the next atom
pub Narrows_atom : (schema : Schema) (names : List (List ℕ)) (atoms : List (Bor Head)) (i : ℕ) (x : Bor Head) (terms : List Term) (columns : List Kind) (was : Known) (s : Told) (between : Known) (u : Told) (is : Known) → i < length atoms → x ≡ get_or atoms i x → terms ≡ x.now.terms → columns ≡ columns_of schema x.now.relation → Narrows (λ choice. list_all (atom_fits schema (kind_of names choice)) (seen (take i atoms))) was s between → Narrows (λ choice. same_kinds (map (kind_of names choice) terms) columns) between u is → Narrows (λ choice. list_all (atom_fits schema (kind_of names choice)) (seen (take (i + 1) atoms))) was (joined s u) is
Narrows_atom schema names atoms i x terms columns was s between u is h e f g m n =
    Narrows_and _ _ (λ choice. list_all (atom_fits schema (kind_of names choice)) (seen (take (i + 1) atoms))) was s between u is
    (λ choice.
    let before = list_all (atom_fits schema (kind_of names choice)) (seen (take i atoms)) in
    all_seen_more (atom_fits schema (kind_of names choice)) atoms i x h
    ∙ ap (λ (y : Bor Head). before && atom_fits schema (kind_of names choice) y.now) (sym e)
    ∙ ap (λ ts. before && same_kinds (map (kind_of names choice) ts) (columns_of schema x.now.relation)) (sym f)
    ∙ ap (λ ks. before && same_kinds (map (kind_of names choice) terms) ks) (sym g))
    m n

-- the next literal
pub Narrows_literal : (names : List (List ℕ)) (body : List Literal) (i : ℕ) (x : Literal) (was : Known) (s : Told) (between : Known) (u : Told) (is : Known) → i < length body → x ≡ get_or body i x → Narrows (λ choice. list_all (literal_fits (kind_of names choice)) (take i body)) was s between → Narrows (λ choice. literal_fits (kind_of names choice) x) between u is → Narrows (λ choice. list_all (literal_fits (kind_of names choice)) (take (i + 1) body)) was (joined s u) is
Narrows_literal names body i x was s between u is h e m n =
    Narrows_and _ _ (λ choice. list_all (literal_fits (kind_of names choice)) (take (i + 1) body)) was s between u is
    (λ choice.
    list_all_more (literal_fits (kind_of names choice)) body i x h
    ∙ ap (λ y. list_all (literal_fits (kind_of names choice)) (take i body) && literal_fits (kind_of names choice) y) (sym e))
    m n

pub not_true : (b : Bool) → (b ≡ true → ⊥) → b ≡ false
not_true true h = absurd (h refl)
not_true false h = refl
