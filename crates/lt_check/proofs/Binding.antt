-- Steps of the search for bound variables.
use Rattle.std.proofs.Common.{◌≡◌, ◌≢◌, ℕ, ◌+◌, ◌<◌, Bool, true, false, ◌&&◌, ◌||◌, List, [], ◌∷◌, ◌++◌, map, length, take, drop, get_or, refl, sym, ap, ◌∙◌}
use Rattle.std.specs.Prelude.{filter_map}
use Rattle.std.specs.Borrow.{Bor}
use Rattle.std.specs.List.{list_any, list_all}
use Rattle.std.proofs.lemmas.List.{take_more, drop_more, append-nil}
use Rattle.std.proofs.lemmas.List.Folds.{list_any_more, list_any-append}
use Rattle.std.proofs.lemmas.List.Concat.{flat_map-cons}
use Rattle.std.proofs.lemmas.Grind.{flat_map-append}
use Rattle.lt_model.specs.declared.syntax.Op.{Op}
use Rattle.lt_model.specs.declared.syntax.Op.TheVariants.{Eq, Ne, Lt, Le, Gt, Ge}
use Rattle.lt_model.specs.declared.syntax.Term as syntax
use Rattle.lt_model.specs.declared.syntax.Term.TheVariants as given
use Rattle.lt_model.specs.declared.normal.Term.{Term}
use Rattle.lt_model.specs.declared.normal.Term.TheVariants.{Var, Cell}
use Rattle.lt_model.specs.declared.normal.Atom.{Atom}
use Rattle.lt_model.specs.declared.normal.Test.{Test}
use Rattle.lt_model.specs.declared.normal.Test.TheVariants.{Cmp}
use Rattle.lt_model.specs.Answers.{terms_of}
use Rattle.lt_model.specs.Bound.{is_var, stands, is_known, know, know_all}
use Rattle.lt_model.specs.Check.{term}
use Rattle.lt_model.specs.Variables.{variable_of, place_of}
use Rattle.lt_check.specs.Binding.{Alike}
use Rattle.lt_check.specs.Seen.{seen}

same_tests : (f g : ℕ → Bool) → Alike f g → f ≡ g
same_tests f g h = λ i. λ v. h v i

or_grouped : (a b c : Bool) → ((a || b) || c) ≡ (a || (b || c))
or_grouped true b c = refl
or_grouped false b c = refl

or_none : (a : Bool) → (a || false) ≡ a
or_none true = refl
or_none false = refl

-- only a literal with `=` binds
pub know_other : (known : ℕ → Bool) (left : Term) (op : Op) (right : Term) → op ≢ Eq → Alike known (know known (Cmp left op right))
know_other known (Var u) Eq right h v = absurd (h refl)
know_other known (Var u) Ne right h v = refl
know_other known (Var u) Lt right h v = refl
know_other known (Var u) Le right h v = refl
know_other known (Var u) Gt right h v = refl
know_other known (Var u) Ge right h v = refl
know_other known (Cell c) Eq right h v = refl
know_other known (Cell c) Ne right h v = refl
know_other known (Cell c) Lt right h v = refl
know_other known (Cell c) Le right h v = refl
know_other known (Cell c) Gt right h v = refl
know_other known (Cell c) Ge right h v = refl

-- one more term of an atom
pub Alike_term : (terms : List Term) (i : ℕ) (t : Term) (was now next : ℕ → Bool) → i < length terms → t ≡ get_or terms i t → Alike now (λ v. was v || list_any (is_var v) (take i terms)) → Alike next (λ v. now v || is_var v t) → Alike next (λ v. was v || list_any (is_var v) (take (i + 1) terms))
Alike_term terms i t was now next h e f g v =
    g v
    ∙ ap (λ b. b || is_var v t) (f v)
    ∙ or_grouped (was v) (list_any (is_var v) (take i terms)) (is_var v t)
    ∙ ap (λ x. was v || (list_any (is_var v) (take i terms) || is_var v x)) e
    ∙ ap (λ b. was v || b) (sym (list_any_more (is_var v) terms i t h))

-- one more atom
pub Alike_atom : (atoms : List Atom) (i : ℕ) (x : Atom) (terms : List Term) (was now next : ℕ → Bool) → i < length atoms → x ≡ get_or atoms i x → terms ≡ x.terms → Alike now (λ v. was v || stands (terms_of (take i atoms)) v) → Alike next (λ v. now v || list_any (is_var v) terms) → Alike next (λ v. was v || stands (terms_of (take (i + 1) atoms)) v)
Alike_atom atoms i x terms was now next h e k f g v =
    let before = terms_of (take i atoms) in
    g v
    ∙ ap (λ b. b || list_any (is_var v) terms) (f v)
    ∙ or_grouped (was v) (stands before v) (list_any (is_var v) terms)
    ∙ ap (λ ts. was v || (stands before v || list_any (is_var v) ts)) k
    ∙ ap (λ (y : Atom). was v || (stands before v || list_any (is_var v) y.terms)) e
    ∙ ap (λ b. was v || b) (sym (list_any-append (is_var v) before (get_or atoms i x).terms))
    ∙ ap (λ ts. was v || list_any (is_var v) ts)
    (sym (ap terms_of (take_more atoms i x h) ∙ flat_map-append (λ (a : Atom). a.terms) (take i atoms) (get_or atoms i x ∷ []) ∙ ap (λ ts. before ++ ts) (flat_map-cons (λ (a : Atom). a.terms) (get_or atoms i x) [] ∙ append-nil (get_or atoms i x).terms)))

-- one more literal that is no atom
pub Alike_test : (tests : List Test) (i : ℕ) (d : Test) (was now next : ℕ → Bool) → i < length tests → Alike (know_all now (drop i tests)) (know_all was tests) → Alike next (know now (get_or tests i d)) → Alike (know_all next (drop (i + 1) tests)) (know_all was tests)
Alike_test tests i d was now next h f g v =
    ap (λ known. know_all known (drop (i + 1) tests) v) (same_tests next (know now (get_or tests i d)) g)
    ∙ ap (λ ts. know_all now ts v) (sym (drop_more tests i d h))
    ∙ f v

pub know_all_alike : (f g : ℕ → Bool) (tests : List Test) → Alike f g → Alike (know_all f tests) (know_all g tests)
know_all_alike f g tests h v = ap (λ known. know_all known tests v) (same_tests f g h)

-- constants are bound
pub known_places : (f : ℕ → Bool) (names : List (List ℕ)) (terms : List syntax.Term) → list_all (is_known f) (map (term names) terms) ≡ list_all (λ name. f (place_of names name)) (filter_map variable_of terms)
known_places f names [] = refl
known_places f names (given.Name name ∷ terms) = ap (λ b. f (place_of names name) && b) (known_places f names terms)
known_places f names (given.Cell kind cell ∷ terms) = known_places f names terms

-- a body binds what is found
pub all_alike : (f g : ℕ → Bool) (names places : List (List ℕ)) → Alike f g → list_all (λ name. f (place_of names name)) places ≡ list_all (λ name. g (place_of names name)) places
all_alike f g names places h = ap (λ known. list_all (λ name. known (place_of names name)) places) (same_tests f g h)

-- one name and the others behind it
pub bound_more : (f : ℕ → Bool) (names : List (List ℕ)) (each : List (Bor (List ℕ))) (i : ℕ) (d : Bor (List ℕ)) (place : ℕ) (b : Bool) → i < length each → place ≡ place_of names (get_or each i d).now → b ≡ f place → list_all (λ name. f (place_of names name)) (seen (drop i each)) ≡ (b && list_all (λ name. f (place_of names name)) (seen (drop (i + 1) each)))
bound_more f names each i d place b lt e g =
    let others = list_all (λ name. f (place_of names name)) (seen (drop (i + 1) each)) in
    ap (λ (xs : List (Bor (List ℕ))). list_all (λ name. f (place_of names name)) (seen xs)) (drop_more each i d lt)
    ∙ ap (λ v. f v && others) (sym e)
    ∙ ap (λ c. c && others) (sym g)
