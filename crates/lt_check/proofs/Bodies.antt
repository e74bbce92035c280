-- From the terms of a literal to those of a statement.
use Rattle.std.proofs.Common.{◌≡◌, ℕ, zero, suc, ◌+◌, ◌<◌, ◌≤◌, Bool, true, false, ◌&&◌, List, [], ◌∷◌, ◌++◌, map, length, take, get_or, Option, Some, None, refl, sym, ap, subst, ◌∙◌}
use mathlib.Core.Bool.{true≢false}
use Rattle.std.specs.Prelude.{slice_index_or, flat_map, filter_map}
use Rattle.std.specs.List.{list_all}
use Rattle.std.proofs.Math.Bool.{and_assoc}
use Rattle.std.proofs.lemmas.List.{take_more, take_all, append_assoc, append-nil, map-append}
use Rattle.std.proofs.lemmas.List.Concat.{flat_map-cons}
use Rattle.std.proofs.lemmas.List.Elements.{filter_map-append}
use Rattle.std.proofs.lemmas.List.Folds.{list_all-append}
use Rattle.std.proofs.lemmas.Grind.{flat_map-append}
use Rattle.lt_face.specs.Limits.{most_variables}
use Rattle.lt_model.specs.declared.kind.Kind.{Kind}
use Rattle.lt_model.specs.declared.kind.Kind.TheVariants.{Int}
use Rattle.lt_model.specs.declared.syntax.Term.{Term}
use Rattle.lt_model.specs.declared.syntax.Term.TheVariants.{Name}
use Rattle.lt_model.specs.declared.syntax.Head.{Head}
use Rattle.lt_model.specs.declared.syntax.Literal.{Literal}
use Rattle.lt_model.specs.declared.syntax.Literal.TheVariants as literals
use Rattle.lt_model.specs.declared.syntax.Statement.{Statement}
use Rattle.lt_model.specs.declared.normal.Term as normal_term
use Rattle.lt_model.specs.declared.normal.Test.TheVariants as tests
use Rattle.lt_model.specs.declared.normal.Body.{Body}
use Rattle.lt_model.specs.Schema.{Schema, columns_of}
use Rattle.lt_model.specs.Variables.{place_of, atom_of, absent_of, named_of, heads_of, body_of, front_terms, literal_terms, terms_of, variables}
use Rattle.lt_model.specs.Check.{Choice, kind_of, same_kind, same_kinds, atom_fits, literal_fits, choice_fits, atom, term, test_of, normal_body}
use Rattle.lt_check.specs.Narrowing.{Known, Suits, Settles, completed}
use Rattle.lt_check.specs.Seen.{with_variables}
use Rattle.lt_check.specs.Taking.{IsFront, IsWhole, Allows, Condition, Takes, IsTaken, Adds, says}
use Rattle.lt_check.specs.declared.notes.Notes.{Notes}
use Rattle.lt_check.proofs.Fronts.{front_itself, IsWhole_before}
use Rattle.lt_check.proofs.Looks.{Takes_both}
use Rattle.lt_check.proofs.Narrowing.{and_true, not_true}

-- a row that fits its relation
pub Takes_atom : (schema : Schema) (head : Head) (terms : List Term) (columns : List Kind) (was is : Notes) → terms ≡ head.terms → columns ≡ columns_of schema head.relation → Takes terms (λ whole choice. same_kinds (map (kind_of whole choice) terms) columns) was is → Takes head.terms (λ whole choice. atom_fits schema (kind_of whole choice) head) was is
Takes_atom schema head terms columns was is e f t =
    let P : List Term → List Kind → Type 0 = λ ts ks. Takes ts (λ whole choice. same_kinds (map (kind_of whole choice) ts) ks) was is in
    subst (λ ks. P head.terms ks) f (subst (λ ts. P ts columns) e t)

-- three ints
pub Takes_sum : (var : List ℕ) (a b : Term) (minus : Bool) (was n m is : Notes) → Takes (Name var ∷ []) (λ whole choice. same_kind (slice_index_or choice (place_of whole var) Int) Int) was n → Takes (a ∷ []) (λ whole choice. same_kind (kind_of whole choice a) Int) n m → Takes (b ∷ []) (λ whole choice. same_kind (kind_of whole choice b) Int) m is → Takes (Name var ∷ a ∷ b ∷ []) (λ whole choice. literal_fits (kind_of whole choice) (literals.Sum var a minus b)) was is
Takes_sum var a b minus was n m is x y z =
    let f : Condition = λ whole choice. same_kind (slice_index_or choice (place_of whole var) Int) Int in
    let g : Condition = λ whole choice. same_kind (kind_of whole choice a) Int in
    let h : Condition = λ whole choice. same_kind (kind_of whole choice b) Int in
    let gh : Condition = λ whole choice. g whole choice && h whole choice in
    let last : Takes (a ∷ b ∷ []) gh n is = Takes_both (a ∷ []) (b ∷ []) (a ∷ b ∷ []) g h gh n m is refl (λ whole choice w. refl) y z in
    Takes_both (Name var ∷ []) (a ∷ b ∷ []) (Name var ∷ a ∷ b ∷ []) f gh (λ whole choice. literal_fits (kind_of whole choice) (literals.Sum var a minus b)) was n is refl
    (λ whole choice w. ap (λ c. f whole choice && (g whole choice && c)) (and_true (h whole choice))) x last

-- a sum with numbers for its variables
pub sum_is : (var : List ℕ) (a b : Term) (minus : Bool) (v : ℕ) (x y : normal_term.Term) (n m is : Notes) (f g : Condition) → ((whole : List (List ℕ)) → IsWhole n.names whole → v ≡ place_of whole var) → Takes (a ∷ []) f n m → ((whole : List (List ℕ)) → IsWhole m.names whole → x ≡ term whole a) → Takes (b ∷ []) g m is → ((whole : List (List ℕ)) → IsWhole is.names whole → y ≡ term whole b) → (whole : List (List ℕ)) → IsWhole is.names whole → tests.Sum v x minus y ≡ tests.Sum (place_of whole var) (term whole a) minus (term whole b)
sum_is var a b minus v x y n m is f g p t q u r whole w =
    let before = IsWhole_before m.names is.names whole (b ∷ []) u.names w in
    let first = p whole (IsWhole_before n.names m.names whole (a ∷ []) t.names before) in
    ap (λ k. tests.Sum k x minus y) first
    ∙ ap (λ k. tests.Sum (place_of whole var) k minus y) (q whole before)
    ∙ ap (λ k. tests.Sum (place_of whole var) (term whole a) minus k) (r whole w)

-- ---- literals

-- a literal that is this one
pub Takes_said : (schema : Schema) (l x : Literal) (was is : Notes) → l ≡ x → Takes (literal_terms x) (λ whole choice. says schema (kind_of whole choice) x) was is → Takes (literal_terms l) (λ whole choice. says schema (kind_of whole choice) l) was is
Takes_said schema l x was is e t = subst (λ k. Takes (literal_terms k) (λ whole choice. says schema (kind_of whole choice) k) was is) (sym e) t

-- nothing is added yet
pub Adds_none : (schema : Schema) (whole : List (List ℕ)) (was : Body) → Adds schema whole [] was was
Adds_none schema whole was = record { atoms = sym (append-nil was.atoms); absents = sym (append-nil was.absents); tests = sym (append-nil was.tests) }

more_of : {X Y Z : Type 0} (f : Y → Z) (g : X → Option Y) (xs ys : List X) (was between is : List Z) → between ≡ was ++ map f (filter_map g xs) → is ≡ between ++ map f (filter_map g ys) → is ≡ was ++ map f (filter_map g (xs ++ ys))
more_of f g xs ys was between is e h =
    h
    ∙ ap (λ zs. zs ++ map f (filter_map g ys)) e
    ∙ append_assoc was (map f (filter_map g xs)) (map f (filter_map g ys))
    ∙ ap (λ zs. was ++ zs) (sym (map-append f (filter_map g xs) (filter_map g ys)) ∙ ap (map f) (sym (filter_map-append g xs ys)))

more_tests : {X Y : Type 0} (g : X → Option Y) (xs ys : List X) (was between is : List Y) → between ≡ was ++ filter_map g xs → is ≡ between ++ filter_map g ys → is ≡ was ++ filter_map g (xs ++ ys)
more_tests g xs ys was between is e h =
    h ∙ ap (λ zs. zs ++ filter_map g ys) e ∙ append_assoc was (filter_map g xs) (filter_map g ys) ∙ ap (λ zs. was ++ zs) (sym (filter_map-append g xs ys))

-- literals and then others
pub Adds_both : (schema : Schema) (whole : List (List ℕ)) (xs ys : List Literal) (was between is : Body) → Adds schema whole xs was between → Adds schema whole ys between is → Adds schema whole (xs ++ ys) was is
Adds_both schema whole xs ys was between is m n = record {
  atoms = more_of (atom schema whole) atom_of xs ys was.atoms between.atoms is.atoms m.atoms n.atoms;
  absents = more_of (atom schema whole) absent_of xs ys was.absents between.absents is.absents m.absents n.absents;
  tests = more_tests (test_of whole) xs ys was.tests between.tests is.tests m.tests n.tests;
}

next_literal : (body : List Literal) (i : ℕ) (x : Literal) → i < length body → x ≡ get_or body i x → take (i + 1) body ≡ take i body ++ x ∷ []
next_literal body i x h e = take_more body i x h ∙ ap (λ y. take i body ++ y ∷ []) (sym e)

-- the next literal
pub Adds_literal : (schema : Schema) (whole : List (List ℕ)) (body : List Literal) (i : ℕ) (x : Literal) (was between is : Body) → i < length body → x ≡ get_or body i x → Adds schema whole (take i body) was between → Adds schema whole (x ∷ []) between is → Adds schema whole (take (i + 1) body) was is
Adds_literal schema whole body i x was between is h e m n =
    subst (λ ls. Adds schema whole ls was is) (sym (next_literal body i x h e)) (Adds_both schema whole (take i body) (x ∷ []) was between is m n)

abbrev pub all_say : Schema → List Literal → Condition
all_say schema body whole choice = list_all (says schema (kind_of whole choice)) body

pub Takes_literal : (schema : Schema) (body : List Literal) (i : ℕ) (x : Literal) (was between is : Notes) → i < length body → x ≡ get_or body i x → Takes (flat_map literal_terms (take i body)) (all_say schema (take i body)) was between → Takes (literal_terms x) (λ whole choice. says schema (kind_of whole choice) x) between is → Takes (flat_map literal_terms (take (i + 1) body)) (all_say schema (take (i + 1) body)) was is
Takes_literal schema body i x was between is h e m n =
    Takes_both (flat_map literal_terms (take i body)) (literal_terms x) (flat_map literal_terms (take (i + 1) body)) (all_say schema (take i body)) (λ whole choice. says schema (kind_of whole choice) x) (all_say schema (take (i + 1) body)) was between is
    (ap (flat_map literal_terms) (next_literal body i x h e)
    ∙ flat_map-append literal_terms (take i body) (x ∷ [])
    ∙ ap (λ ts. flat_map literal_terms (take i body) ++ ts) (flat_map-cons literal_terms x [] ∙ append-nil (literal_terms x)))
    (λ whole choice w.
    ap (list_all (says schema (kind_of whole choice))) (next_literal body i x h e)
    ∙ list_all-append (says schema (kind_of whole choice)) (take i body) (x ∷ [])
    ∙ ap (λ b. list_all (says schema (kind_of whole choice)) (take i body) && b) (and_true (says schema (kind_of whole choice) x)))
    m n

pub Takes_literals : (schema : Schema) (body : List Literal) (i : ℕ) (was is : Notes) → length body ≤ i → Takes (flat_map literal_terms (take i body)) (all_say schema (take i body)) was is → Takes (flat_map literal_terms body) (all_say schema body) was is
Takes_literals schema body i was is h t = subst (λ ls. Takes (flat_map literal_terms ls) (all_say schema ls) was is) (take_all i body h) t

pub Adds_literals : (schema : Schema) (whole : List (List ℕ)) (body : List Literal) (i : ℕ) (was is : Body) → length body ≤ i → Adds schema whole (take i body) was is → Adds schema whole body was is
Adds_literals schema whole body i was is h t = subst (λ ls. Adds schema whole ls was is) (take_all i body h) t

-- literals that are these ones
pub Takes_body : (schema : Schema) (body all : List Literal) (was is : Notes) → body ≡ all → Takes (flat_map literal_terms body) (all_say schema body) was is → Takes (flat_map literal_terms all) (all_say schema all) was is
Takes_body schema body all was is e t = subst (λ ls. Takes (flat_map literal_terms ls) (all_say schema ls) was is) e t

-- ---- statements

swapped : (a b c : Bool) → (a && (b && c)) ≡ (b && (a && c))
swapped true b c = refl
swapped false true c = refl
swapped false false c = refl

-- what the literals say is what their atoms say, and what the others do
says_all : (schema : Schema) (kind : Term → Kind) (body : List Literal) → list_all (says schema kind) body ≡ (list_all (atom_fits schema kind) (filter_map named_of body) && list_all (literal_fits kind) body)
says_all schema kind [] = refl
says_all schema kind (literals.Atom head ∷ body) = ap (λ b. atom_fits schema kind head && b) (says_all schema kind body) ∙ sym (and_assoc (atom_fits schema kind head) (list_all (atom_fits schema kind) (filter_map named_of body)) (list_all (literal_fits kind) body))
says_all schema kind (literals.Absent head ∷ body) = ap (λ b. atom_fits schema kind head && b) (says_all schema kind body) ∙ sym (and_assoc (atom_fits schema kind head) (list_all (atom_fits schema kind) (filter_map named_of body)) (list_all (literal_fits kind) body))
says_all schema kind (literals.Cmp left op right ∷ body) =
    ap (λ b. literal_fits kind (literals.Cmp left op right) && b) (says_all schema kind body)
    ∙ swapped (literal_fits kind (literals.Cmp left op right)) (list_all (atom_fits schema kind) (filter_map named_of body)) (list_all (literal_fits kind) body)
says_all schema kind (literals.Sum var a minus b ∷ body) =
    ap (λ c. literal_fits kind (literals.Sum var a minus b) && c) (says_all schema kind body)
    ∙ swapped (literal_fits kind (literals.Sum var a minus b)) (list_all (atom_fits schema kind) (filter_map named_of body)) (list_all (literal_fits kind) body)

heads_say : (schema : Schema) (s : Statement) (choice : Choice) → (list_all (atom_fits schema (kind_of (variables s) choice)) (heads_of s) && list_all (says schema (kind_of (variables s) choice)) (body_of s)) ≡ choice_fits schema s choice
heads_say schema s choice =
    let kind = kind_of (variables s) choice in
    let heads = list_all (atom_fits schema kind) (heads_of s) in
    let atoms = list_all (atom_fits schema kind) (filter_map named_of (body_of s)) in
    let others = list_all (literal_fits kind) (body_of s) in
    ap (λ b. heads && b) (says_all schema kind (body_of s))
    ∙ sym (and_assoc heads atoms others)
    ∙ ap (λ b. b && others) (sym (list_all-append (atom_fits schema kind) (heads_of s) (filter_map named_of (body_of s))))

Suits_completed : (known : Known) (v : ℕ) → Suits (slice_index_or known v None) (slice_index_or (completed known) v Int)
Suits_completed [] v = tt
Suits_completed (None ∷ known) zero = tt
Suits_completed (Some kind ∷ known) zero = refl
Suits_completed (k ∷ known) (suc v) = Suits_completed known v

-- the names of a statement whose front and body were taken
pub names_taken : (s : Statement) (was between is : Notes) (f g : Condition) → was.names ≡ [] → Takes (front_terms s) f was between → Takes (flat_map literal_terms (body_of s)) g between is → is.names ≡ variables s
names_taken s was between is f g e m n =
    let t : Takes (terms_of s) (λ whole choice. f whole choice && g whole choice) was is = Takes_both (front_terms s) (flat_map literal_terms (body_of s)) (terms_of s) f g (λ whole choice. f whole choice && g whole choice) was between is refl (λ whole choice w. refl) m n in
    t.names ∙ ap (λ ns. with_variables ns (terms_of s)) e

-- and what is known then
pub statement_taken : (schema : Schema) (s : Statement) (was between is : Notes) → was.names ≡ [] → was.known ≡ [] → was.conflict ≡ false → length (variables s) ≤ most_variables → Takes (front_terms s) (λ whole choice. list_all (atom_fits schema (kind_of whole choice)) (heads_of s)) was between → Takes (flat_map literal_terms (body_of s)) (all_say schema (body_of s)) between is → IsTaken (choice_fits schema s) is
statement_taken schema s was between is e f g few m n =
    let front : Condition = λ whole choice. list_all (atom_fits schema (kind_of whole choice)) (heads_of s) in
    let all : Condition = λ whole choice. front whole choice && all_say schema (body_of s) whole choice in
    let t : Takes (terms_of s) all was is = Takes_both (front_terms s) (flat_map literal_terms (body_of s)) (terms_of s) front (all_say schema (body_of s)) all was between is refl (λ whole choice w. refl) m n in
    let names : is.names ≡ variables s = t.names ∙ ap (λ ns. with_variables ns (terms_of s)) e in
    let whole : IsWhole is.names (variables s) = record { front = subst (λ ns. IsFront ns (variables s)) (sym names) (front_itself (variables s)); few = few } in
    record {
      long = t.long (ap length f ∙ sym (ap length e));
      keeps = λ choice h. t.keeps (variables s) choice whole (record { calm = g; kinds = subst (λ known. Allows known choice) (sym f) (λ v. tt) }) (heads_say schema s choice ∙ h);
      met = λ o choice a. sym (heads_say schema s choice) ∙ t.met (variables s) choice whole o a;
    }

-- a conflict says that no kinds fit
pub taken_none : (meets : Choice → Bool) (notes : Notes) (count : ℕ) → IsTaken meets notes → notes.conflict ≡ true → Settles meets count None
taken_none meets notes count t e choice l = not_true (meets choice) (λ h. absurd (true≢false (sym e ∙ (t.keeps choice h).calm)))

-- where there is none, and nothing is open, the known kinds fit
pub taken_some : (meets : Choice → Bool) (notes : Notes) → IsTaken meets notes → notes.conflict ≡ false → notes.open ≡ false → Settles meets (length notes.names) (Some notes.known)
taken_some meets notes t e o = (t.long, t.met o (completed notes.known) (record { calm = e; kinds = Suits_completed notes.known }))

-- the body of all literals
pub body_taken : (schema : Schema) (names : List (List ℕ)) (body : List Literal) (was is all : Body) → was.atoms ≡ [] → was.absents ≡ [] → was.tests ≡ [] → length names ≤ most_variables → ((whole : List (List ℕ)) → IsWhole names whole → Adds schema whole body was is) → all.atoms ≡ is.atoms → all.absents ≡ is.absents → all.tests ≡ is.tests → all.vars ≡ length names → all ≡ normal_body schema names body
body_taken schema names body was is all a b c few adds d e f v =
    let added = adds names (record { front = front_itself names; few = few }) in
    same all (normal_body schema names body) (d ∙ added.atoms ∙ ap (λ xs. xs ++ map (atom schema names) (filter_map atom_of body)) a) (e ∙ added.absents ∙ ap (λ xs. xs ++ map (atom schema names) (filter_map absent_of body)) b) (f ∙ added.tests ∙ ap (λ xs. xs ++ filter_map (test_of names) body) c) v
  where
    same : (x y : Body) → x.atoms ≡ y.atoms → x.absents ≡ y.absents → x.tests ≡ y.tests → x.vars ≡ y.vars → x ≡ y
    same x y p q r t = λ i. record { atoms = p i; absents = q i; tests = r i; vars = t i }

-- the same body with the names and the literals called otherwise
pub body_same : (schema : Schema) (names all : List (List ℕ)) (taken body : List Literal) (is : Body) → length names ≤ most_variables → (length names ≤ most_variables → is ≡ normal_body schema names taken) → all ≡ names → taken ≡ body → is ≡ normal_body schema all body
body_same schema names all taken body is few h e f = h few ∙ ap (λ ns. normal_body schema ns taken) (sym e) ∙ ap (normal_body schema all) f
