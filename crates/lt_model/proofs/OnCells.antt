-- What the check makes of a statement doesn't hang on the cells of its constants.
use Rattle.std.proofs.Common.{◌≡◌, ℕ, Bool, not, ◌&&◌, ◌||◌, List, [], ◌∷◌, ◌++◌, map, length, Option, Some, None, refl, sym, ap, ◌∙◌}
use Rattle.std.specs.Prelude.{◌==◌, find, fold, flat_map, filter_map, is_none, option_map, unwrap_or, if◌then◌else◌}
use Rattle.std.specs.List.{list_all, list_any, cons_option}
use Rattle.std.proofs.lemmas.List.{length-map, map-append}
use Rattle.lt_model.specs.declared.kind.Kind.TheVariants.{Int}
use Rattle.lt_model.specs.declared.syntax.Op.TheVariants.{Eq}
use Rattle.lt_model.specs.declared.syntax.Term.{Term}
use Rattle.lt_model.specs.declared.syntax.Term.TheVariants.{Name, Cell}
use Rattle.lt_model.specs.declared.syntax.Head.{Head}
use Rattle.lt_model.specs.declared.syntax.Literal.{Literal}
use Rattle.lt_model.specs.declared.syntax.Literal.TheVariants.{Atom, Absent, Cmp, Sum}
use Rattle.lt_model.specs.declared.syntax.Statement.{Statement}
use Rattle.lt_model.specs.declared.syntax.Statement.TheVariants.{Insert, Delete, Replace, Require, Print}
use Rattle.lt_model.specs.declared.normal.Term as normal_term
use Rattle.lt_model.specs.declared.normal.Term.TheVariants as normal_terms
use Rattle.lt_model.specs.declared.normal.Atom as normal_atom
use Rattle.lt_model.specs.declared.normal.Test.{Test}
use Rattle.lt_model.specs.declared.normal.Test.TheVariants as tests
use Rattle.lt_model.specs.declared.normal.Body.{Body}
use Rattle.lt_model.specs.declared.normal.Stmt.TheVariants as stmts
use Rattle.lt_model.specs.Answers as meant
use Rattle.lt_model.specs.Bound.{is_var, stands, is_known, know, know_all, is_bound, are_bound}
use Rattle.lt_model.specs.Check.{Choice, choices, term, atom, test_of, normal_body, kind_of, same_kind, same_kinds, atom_fits, literal_fits, choice_fits, choice_for, is_unknown, is_misfit, all_bound, normal_with}
use Rattle.lt_model.specs.Forms.{on_term, on_head, on_literal, on_statement, on_normal, on_atom, on_test, on_body, on_stmt, put}
use Rattle.lt_model.specs.Laws.{CodeStays, NormalFollows, FormsStayGood}
use Rattle.lt_model.specs.Schema.{Schema, columns_of, keys_of}
use Rattle.lt_model.specs.Variables.{body_of, heads_of, atom_of, absent_of, named_of, atoms_of, literal_terms, front_terms, terms_of, variable_of, with_name, variables, place_of}

-- ---- lists

map_through : {A B C : Type 0} (p : B → C) (q : A → C) (g : A → B) → ((x : A) → p (g x) ≡ q x) → (xs : List A) → map p (map g xs) ≡ map q xs
map_through p q g e [] = refl
map_through p q g e (x ∷ xs) = ap (λ y. y ∷ map p (map g xs)) (e x) ∙ ap (λ w. q x ∷ w) (map_through p q g e xs)

-- two ways round
map_both : {A B C D : Type 0} (p : B → D) (g : A → B) (k : C → D) (q : A → C) → ((x : A) → p (g x) ≡ k (q x)) → (xs : List A) → map p (map g xs) ≡ map k (map q xs)
map_both p g k q e [] = refl
map_both p g k q e (x ∷ xs) = ap (λ y. y ∷ map p (map g xs)) (e x) ∙ ap (λ w. k (q x) ∷ w) (map_both p g k q e xs)

any_through : {A B : Type 0} (p : B → Bool) (q : A → Bool) (g : A → B) → ((x : A) → p (g x) ≡ q x) → (xs : List A) → list_any p (map g xs) ≡ list_any q xs
any_through p q g e [] = refl
any_through p q g e (x ∷ xs) = ap (λ b. b || list_any p (map g xs)) (e x) ∙ ap (λ b. q x || b) (any_through p q g e xs)

all_through : {A B : Type 0} (p : B → Bool) (q : A → Bool) (g : A → B) → ((x : A) → p (g x) ≡ q x) → (xs : List A) → list_all p (map g xs) ≡ list_all q xs
all_through p q g e [] = refl
all_through p q g e (x ∷ xs) = ap (λ b. b && list_all p (map g xs)) (e x) ∙ ap (λ b. q x && b) (all_through p q g e xs)

-- what is chosen doesn't change
chosen_stays : {A B C : Type 0} (h : B → Option C) (i : A → Option C) (g : A → B) → ((x : A) → h (g x) ≡ i x) → (xs : List A) → filter_map h (map g xs) ≡ filter_map i xs
chosen_stays h i g e [] = refl
chosen_stays h i g e (x ∷ xs) = ap (λ o. cons_option o (filter_map h (map g xs))) (e x) ∙ ap (cons_option (i x)) (chosen_stays h i g e xs)

cons_through : {C D : Type 0} (k : C → D) (o : Option C) (ys : List C) → cons_option (option_map k o) (map k ys) ≡ map k (cons_option o ys)
cons_through k None ys = refl
cons_through k (Some y) ys = refl

-- what is chosen changes as what it is chosen of
chosen_through : {A B C D : Type 0} (h : B → Option D) (i : A → Option C) (g : A → B) (k : C → D) → ((x : A) → h (g x) ≡ option_map k (i x)) → (xs : List A) → filter_map h (map g xs) ≡ map k (filter_map i xs)
chosen_through h i g k e [] = refl
chosen_through h i g k e (x ∷ xs) =
    ap (λ o. cons_option o (filter_map h (map g xs))) (e x) ∙ (ap (cons_option (option_map k (i x))) (chosen_through h i g k e xs) ∙ cons_through k (i x) (filter_map i xs))

flat_through : {A B C D : Type 0} (h : B → List D) (i : A → List C) (g : A → B) (k : C → D) → ((x : A) → h (g x) ≡ map k (i x)) → (xs : List A) → flat_map h (map g xs) ≡ map k (flat_map i xs)
flat_through h i g k e [] = refl
flat_through h i g k e (x ∷ xs) =
    ap (λ w. w ++ flat_map h (map g xs)) (e x) ∙ (ap (λ w. map k (i x) ++ w) (flat_through h i g k e xs) ∙ sym (map-append k (i x) (flat_map i xs)))

-- ---- atoms, terms and variables as they are written

body_of-on : (f : ℕ → ℕ) (s : Statement) → body_of (on_statement f s) ≡ map (on_literal f) (body_of s)
body_of-on f (Insert head body) = refl
body_of-on f (Delete head body) = refl
body_of-on f (Replace gone come body) = refl
body_of-on f (Require some body) = refl
body_of-on f (Print terms body) = refl

heads_of-on : (f : ℕ → ℕ) (s : Statement) → heads_of (on_statement f s) ≡ map (on_head f) (heads_of s)
heads_of-on f (Insert head body) = refl
heads_of-on f (Delete head body) = refl
heads_of-on f (Replace gone come body) = refl
heads_of-on f (Require some body) = refl
heads_of-on f (Print terms body) = refl

atom_of-on : (f : ℕ → ℕ) (l : Literal) → atom_of (on_literal f l) ≡ option_map (on_head f) (atom_of l)
atom_of-on f (Atom head) = refl
atom_of-on f (Absent head) = refl
atom_of-on f (Cmp left op right) = refl
atom_of-on f (Sum var a minus b) = refl

absent_of-on : (f : ℕ → ℕ) (l : Literal) → absent_of (on_literal f l) ≡ option_map (on_head f) (absent_of l)
absent_of-on f (Atom head) = refl
absent_of-on f (Absent head) = refl
absent_of-on f (Cmp left op right) = refl
absent_of-on f (Sum var a minus b) = refl

named_of-on : (f : ℕ → ℕ) (l : Literal) → named_of (on_literal f l) ≡ option_map (on_head f) (named_of l)
named_of-on f (Atom head) = refl
named_of-on f (Absent head) = refl
named_of-on f (Cmp left op right) = refl
named_of-on f (Sum var a minus b) = refl

pub atoms_of-on : (f : ℕ → ℕ) (s : Statement) → atoms_of (on_statement f s) ≡ map (on_head f) (atoms_of s)
atoms_of-on f s =
    ap (λ hs. hs ++ filter_map named_of (body_of (on_statement f s))) (heads_of-on f s)
    ∙ (ap (λ b. map (on_head f) (heads_of s) ++ filter_map named_of b) (body_of-on f s)
    ∙ (ap (λ w. map (on_head f) (heads_of s) ++ w) (chosen_through named_of named_of (on_literal f) (on_head f) (named_of-on f) (body_of s))
    ∙ sym (map-append (on_head f) (heads_of s) (filter_map named_of (body_of s)))))

literal_terms-on : (f : ℕ → ℕ) (l : Literal) → literal_terms (on_literal f l) ≡ map (on_term f) (literal_terms l)
literal_terms-on f (Atom head) = refl
literal_terms-on f (Absent head) = refl
literal_terms-on f (Cmp left op right) = refl
literal_terms-on f (Sum var a minus b) = refl

front_terms-on : (f : ℕ → ℕ) (s : Statement) → front_terms (on_statement f s) ≡ map (on_term f) (front_terms s)
front_terms-on f (Insert head body) = flat_through (λ (h : Head). h.terms) (λ (h : Head). h.terms) (on_head f) (on_term f) (λ h. refl) (head ∷ [])
front_terms-on f (Delete head body) = flat_through (λ (h : Head). h.terms) (λ (h : Head). h.terms) (on_head f) (on_term f) (λ h. refl) (head ∷ [])
front_terms-on f (Replace gone come body) = flat_through (λ (h : Head). h.terms) (λ (h : Head). h.terms) (on_head f) (on_term f) (λ h. refl) (gone ∷ come ∷ [])
front_terms-on f (Require some body) = refl
front_terms-on f (Print terms body) = refl

pub terms_of-on : (f : ℕ → ℕ) (s : Statement) → terms_of (on_statement f s) ≡ map (on_term f) (terms_of s)
terms_of-on f s =
    ap (λ w. w ++ flat_map literal_terms (body_of (on_statement f s))) (front_terms-on f s)
    ∙ (ap (λ b. map (on_term f) (front_terms s) ++ flat_map literal_terms b) (body_of-on f s)
    ∙ (ap (λ w. map (on_term f) (front_terms s) ++ w) (flat_through literal_terms literal_terms (on_literal f) (on_term f) (literal_terms-on f) (body_of s))
    ∙ sym (map-append (on_term f) (front_terms s) (flat_map literal_terms (body_of s)))))

variable_of-on : (f : ℕ → ℕ) (t : Term) → variable_of (on_term f t) ≡ variable_of t
variable_of-on f (Name name) = refl
variable_of-on f (Cell kind cell) = refl

pub variables-on : (f : ℕ → ℕ) (s : Statement) → variables (on_statement f s) ≡ variables s
variables-on f s =
    ap (λ ts. fold with_name [] (filter_map variable_of ts)) (terms_of-on f s) ∙ ap (fold with_name []) (chosen_stays variable_of variable_of (on_term f) (variable_of-on f) (terms_of s))

-- ---- kinds

kind_of-on : (f : ℕ → ℕ) (names : List (List ℕ)) (choice : Choice) (t : Term) → kind_of names choice (on_term f t) ≡ kind_of names choice t
kind_of-on f names choice (Name name) = refl
kind_of-on f names choice (Cell kind cell) = refl

atom_fits-on : (f : ℕ → ℕ) (schema : Schema) (names : List (List ℕ)) (choice : Choice) (head : Head) → atom_fits schema (kind_of names choice) (on_head f head) ≡ atom_fits schema (kind_of names choice) head
atom_fits-on f schema names choice head =
    ap (λ kinds. same_kinds kinds (columns_of schema head.relation)) (map_through (kind_of names choice) (kind_of names choice) (on_term f) (kind_of-on f names choice) head.terms)

literal_fits-on : (f : ℕ → ℕ) (names : List (List ℕ)) (choice : Choice) (l : Literal) → literal_fits (kind_of names choice) (on_literal f l) ≡ literal_fits (kind_of names choice) l
literal_fits-on f names choice (Atom head) = refl
literal_fits-on f names choice (Absent head) = refl
literal_fits-on f names choice (Cmp left op right) =
    ap (λ k. same_kind k (kind_of names choice (on_term f right))) (kind_of-on f names choice left) ∙ ap (same_kind (kind_of names choice left)) (kind_of-on f names choice right)
literal_fits-on f names choice (Sum var a minus b) =
    ap (λ k. same_kinds (kind_of names choice (Name var) ∷ k ∷ kind_of names choice (on_term f b) ∷ []) (Int ∷ Int ∷ Int ∷ [])) (kind_of-on f names choice a)
    ∙ ap (λ k. same_kinds (kind_of names choice (Name var) ∷ kind_of names choice a ∷ k ∷ []) (Int ∷ Int ∷ Int ∷ [])) (kind_of-on f names choice b)

-- whether a choice fits these atoms and this body
abbrev fits_by : Schema → Choice → List (List ℕ) → List Head → List Literal → Bool
fits_by schema choice names atoms body = list_all (atom_fits schema (kind_of names choice)) atoms && list_all (literal_fits (kind_of names choice)) body

pub choice_fits-on : (f : ℕ → ℕ) (schema : Schema) (s : Statement) (choice : Choice) → choice_fits schema (on_statement f s) choice ≡ choice_fits schema s choice
choice_fits-on f schema s choice =
    let names = variables s in
    ap (λ n. fits_by schema choice n (atoms_of (on_statement f s)) (body_of (on_statement f s))) (variables-on f s)
    ∙ (ap (λ atoms. fits_by schema choice names atoms (body_of (on_statement f s))) (atoms_of-on f s)
    ∙ (ap (fits_by schema choice names (map (on_head f) (atoms_of s))) (body_of-on f s)
    ∙ (ap (λ b. b && list_all (literal_fits (kind_of names choice)) (map (on_literal f) (body_of s))) (all_through (atom_fits schema (kind_of names choice)) (atom_fits schema (kind_of names choice)) (on_head f) (atom_fits-on f schema names choice) (atoms_of s))
    ∙ ap (λ b. list_all (atom_fits schema (kind_of names choice)) (atoms_of s) && b) (all_through (literal_fits (kind_of names choice)) (literal_fits (kind_of names choice)) (on_literal f) (literal_fits-on f names choice) (body_of s)))))

pub choice_for-on : (f : ℕ → ℕ) (schema : Schema) (s : Statement) → choice_for schema (on_statement f s) ≡ choice_for schema s
choice_for-on f schema s =
    ap (λ (names : List (List ℕ)). find (choice_fits schema (on_statement f s)) (choices (length names))) (variables-on f s)
    ∙ ap (λ (fits : Choice → Bool). find fits (choices (length (variables s)))) (λ i. λ choice. choice_fits-on f schema s choice i)

-- ---- the normal form

term-on : (f : ℕ → ℕ) (names : List (List ℕ)) (t : Term) → term names (on_term f t) ≡ on_normal f (term names t)
term-on f names (Name name) = refl
term-on f names (Cell kind cell) = refl

terms-on : (f : ℕ → ℕ) (names : List (List ℕ)) (ts : List Term) → map (term names) (map (on_term f) ts) ≡ map (on_normal f) (map (term names) ts)
terms-on f names ts = map_both (term names) (on_term f) (on_normal f) (term names) (term-on f names) ts

pub atom-on : (f : ℕ → ℕ) (schema : Schema) (names : List (List ℕ)) (head : Head) → atom schema names (on_head f head) ≡ on_atom f (atom schema names head)
atom-on f schema names head = ap (λ (ts : List normal_term.Term). record { relation = (atom schema names head).relation; terms = ts }) (terms-on f names head.terms)

atoms-on : (f : ℕ → ℕ) (schema : Schema) (names : List (List ℕ)) (heads : List Head) → map (atom schema names) (map (on_head f) heads) ≡ map (on_atom f) (map (atom schema names) heads)
atoms-on f schema names heads = map_both (atom schema names) (on_head f) (on_atom f) (atom schema names) (atom-on f schema names) heads

test_of-on : (f : ℕ → ℕ) (names : List (List ℕ)) (l : Literal) → test_of names (on_literal f l) ≡ option_map (on_test f) (test_of names l)
test_of-on f names (Atom head) = refl
test_of-on f names (Absent head) = refl
test_of-on f names (Cmp left op right) =
    ap (λ t. Some (tests.Cmp t op (term names (on_term f right)))) (term-on f names left) ∙ ap (λ t. Some (tests.Cmp (on_normal f (term names left)) op t)) (term-on f names right)
test_of-on f names (Sum var a minus b) =
    ap (λ t. Some (tests.Sum (place_of names var) t minus (term names (on_term f b)))) (term-on f names a) ∙ ap (λ t. Some (tests.Sum (place_of names var) (on_normal f (term names a)) minus t)) (term-on f names b)

abbrev body_by : List normal_atom.Atom → List normal_atom.Atom → List Test → ℕ → Body
body_by atoms absents tests vars = record { atoms = atoms; absents = absents; tests = tests; vars = vars }

pub normal_body-on : (f : ℕ → ℕ) (schema : Schema) (names : List (List ℕ)) (body : List Literal) → normal_body schema names (map (on_literal f) body) ≡ on_body f (normal_body schema names body)
normal_body-on f schema names body =
    let vars = length names in
    let atoms = map (on_atom f) (map (atom schema names) (filter_map atom_of body)) in
    let absents = map (on_atom f) (map (atom schema names) (filter_map absent_of body)) in
    let changed = map (on_literal f) body in
    ap (λ as_. body_by as_ (map (atom schema names) (filter_map absent_of changed)) (filter_map (test_of names) changed) vars)
    (ap (map (atom schema names)) (chosen_through atom_of atom_of (on_literal f) (on_head f) (atom_of-on f) body) ∙ atoms-on f schema names (filter_map atom_of body))
    ∙ (ap (λ as_. body_by atoms as_ (filter_map (test_of names) changed) vars)
    (ap (map (atom schema names)) (chosen_through absent_of absent_of (on_literal f) (on_head f) (absent_of-on f) body) ∙ atoms-on f schema names (filter_map absent_of body))
    ∙ ap (λ ts. body_by atoms absents ts vars) (chosen_through (test_of names) (test_of names) (on_literal f) (on_test f) (test_of-on f names) body))

-- ---- which variables are bound

is_known-on : (f : ℕ → ℕ) (known : ℕ → Bool) (t : normal_term.Term) → is_known known (on_normal f t) ≡ is_known known t
is_known-on f known (normal_terms.Var v) = refl
is_known-on f known (normal_terms.Cell c) = refl

is_var-on : (f : ℕ → ℕ) (v : ℕ) (t : normal_term.Term) → is_var v (on_normal f t) ≡ is_var v t
is_var-on f v (normal_terms.Var u) = refl
is_var-on f v (normal_terms.Cell c) = refl

pub stands-on : (f : ℕ → ℕ) (ts : List normal_term.Term) (v : ℕ) → stands (map (on_normal f) ts) v ≡ stands ts v
stands-on f ts v = any_through (is_var v) (is_var v) (on_normal f) (is_var-on f v) ts

know-on : (f : ℕ → ℕ) (known : ℕ → Bool) (test : Test) (u : ℕ) → know known (on_test f test) u ≡ know known test u
know-on f known (tests.Cmp (normal_terms.Var v) Eq right) u = ap (λ b. known u || (u == v && b)) (is_known-on f known right)
know-on f known (tests.Sum v a minus b) u =
    ap (λ c. known u || (u == v && (c && is_known known (on_normal f b)))) (is_known-on f known a) ∙ ap (λ c. known u || (u == v && (is_known known a && c))) (is_known-on f known b)
know-on f known test u = refl

know_all-on : (f : ℕ → ℕ) (known : ℕ → Bool) (ts : List Test) → know_all known (map (on_test f) ts) ≡ know_all known ts
know_all-on f known [] = refl
know_all-on f known (test ∷ ts) = ap (λ (k : ℕ → Bool). know_all k (map (on_test f) ts)) (λ i. λ u. know-on f known test u i) ∙ know_all-on f (know known test) ts

atom_terms-on : (f : ℕ → ℕ) (atoms : List normal_atom.Atom) → meant.terms_of (map (on_atom f) atoms) ≡ map (on_normal f) (meant.terms_of atoms)
atom_terms-on f atoms = flat_through (λ (a : normal_atom.Atom). a.terms) (λ (a : normal_atom.Atom). a.terms) (on_atom f) (on_normal f) (λ a. refl) atoms

pub is_bound-on : (f : ℕ → ℕ) (body : Body) → is_bound (on_body f body) ≡ is_bound body
is_bound-on f body =
    ap (λ ts. know_all (stands ts) (map (on_test f) body.tests)) (atom_terms-on f body.atoms)
    ∙ (ap (λ (k : ℕ → Bool). know_all k (map (on_test f) body.tests)) (λ i. λ v. stands-on f (meant.terms_of body.atoms) v i) ∙ know_all-on f (stands (meant.terms_of body.atoms)) body.tests)

pub are_bound-on : (f : ℕ → ℕ) (body : Body) (ts : List normal_term.Term) → are_bound (on_body f body) (map (on_normal f) ts) ≡ are_bound body ts
are_bound-on f body ts =
    ap (λ (known : ℕ → Bool). list_all (is_known known) (map (on_normal f) ts)) (is_bound-on f body) ∙ all_through (is_known (is_bound body)) (is_known (is_bound body)) (on_normal f) (is_known-on f (is_bound body)) ts

pub all_bound-on : (f : ℕ → ℕ) (schema : Schema) (s : Statement) → all_bound schema (on_statement f s) ≡ all_bound schema s
all_bound-on f schema s =
    let names = variables s in
    let changed = on_statement f s in
    ap (λ n. are_bound (normal_body schema n (body_of changed)) (map (term n) (terms_of changed))) (variables-on f s)
    ∙ (ap (λ b. are_bound (normal_body schema names b) (map (term names) (terms_of changed))) (body_of-on f s)
    ∙ (ap (λ ts. are_bound (normal_body schema names (map (on_literal f) (body_of s))) (map (term names) ts)) (terms_of-on f s)
    ∙ (ap (λ b. are_bound b (map (term names) (map (on_term f) (terms_of s)))) (normal_body-on f schema names (body_of s))
    ∙ (ap (are_bound (on_body f (normal_body schema names (body_of s)))) (terms-on f names (terms_of s))
    ∙ are_bound-on f (normal_body schema names (body_of s)) (map (term names) (terms_of s))))))

-- ---- the code

is_misfit-on : (f : ℕ → ℕ) (schema : Schema) (head : Head) → is_misfit schema (on_head f head) ≡ is_misfit schema head
is_misfit-on f schema head = ap (λ n. not (n == length (columns_of schema head.relation))) (length-map head.terms (on_term f))

-- the code, by what it is found from
abbrev code_by : Bool → Bool → Bool → Bool → Option ℕ
code_by unknown misfit none bound = if unknown then Some 20 else (if misfit then Some 21 else (if none then Some 22 else (if not bound then Some 23 else None)))

pub code_stays : CodeStays
code_stays schema s f =
    let changed = on_statement f s in
    let unknown : list_any (is_unknown schema) (atoms_of changed) ≡ list_any (is_unknown schema) (atoms_of s) =
    ap (list_any (is_unknown schema)) (atoms_of-on f s) ∙ any_through (is_unknown schema) (is_unknown schema) (on_head f) (λ h. refl) (atoms_of s) in
    let misfit : list_any (is_misfit schema) (atoms_of changed) ≡ list_any (is_misfit schema) (atoms_of s) =
    ap (list_any (is_misfit schema)) (atoms_of-on f s) ∙ any_through (is_misfit schema) (is_misfit schema) (on_head f) (is_misfit-on f schema) (atoms_of s) in
    ap (λ b. code_by b (list_any (is_misfit schema) (atoms_of changed)) (is_none (choice_for schema changed)) (all_bound schema changed)) unknown
    ∙ (ap (λ b. code_by (list_any (is_unknown schema) (atoms_of s)) b (is_none (choice_for schema changed)) (all_bound schema changed)) misfit
    ∙ (ap (λ (c : Option Choice). code_by (list_any (is_unknown schema) (atoms_of s)) (list_any (is_misfit schema) (atoms_of s)) (is_none c) (all_bound schema changed)) (choice_for-on f schema s)
    ∙ ap (code_by (list_any (is_unknown schema) (atoms_of s)) (list_any (is_misfit schema) (atoms_of s)) (is_none (choice_for schema s))) (all_bound-on f schema s)))

-- ---- statements in normal form

normal_with-on : (f : ℕ → ℕ) (schema : Schema) (names : List (List ℕ)) (body : Body) (choice : Choice) (s : Statement) → normal_with schema names (on_body f body) (kind_of names choice) (on_statement f s) ≡ on_stmt f (normal_with schema names body (kind_of names choice) s)
normal_with-on f schema names body choice (Insert head literals) = ap (λ h. stmts.Insert h (keys_of schema head.relation) (on_body f body)) (atom-on f schema names head)
normal_with-on f schema names body choice (Delete head literals) = ap (λ h. stmts.Delete h (on_body f body)) (atom-on f schema names head)
normal_with-on f schema names body choice (Replace gone come literals) =
    ap (λ h. stmts.Replace h (atom schema names (on_head f come)) (keys_of schema come.relation) (on_body f body)) (atom-on f schema names gone)
    ∙ ap (λ h. stmts.Replace (on_atom f (atom schema names gone)) h (keys_of schema come.relation) (on_body f body)) (atom-on f schema names come)
normal_with-on f schema names body choice (Require some literals) = refl
normal_with-on f schema names body choice (Print terms literals) =
    ap (λ ts. stmts.Print ts (map (kind_of names choice) (map (on_term f) terms)) (on_body f body)) (terms-on f names terms)
    ∙ ap (λ ks. stmts.Print (map (on_normal f) (map (term names) terms)) ks (on_body f body)) (map_through (kind_of names choice) (kind_of names choice) (on_term f) (kind_of-on f names choice) terms)

pub normal_follows : NormalFollows
normal_follows schema s f =
    let names = variables s in
    let changed = on_statement f s in
    ap (λ n. normal_with schema n (normal_body schema n (body_of changed)) (kind_of n (unwrap_or (choice_for schema changed) [])) changed) (variables-on f s)
    ∙ (ap (λ (c : Option Choice). normal_with schema names (normal_body schema names (body_of changed)) (kind_of names (unwrap_or c [])) changed) (choice_for-on f schema s)
    ∙ (ap (λ b. normal_with schema names b (kind_of names (unwrap_or (choice_for schema s) [])) changed) (ap (normal_body schema names) (body_of-on f s) ∙ normal_body-on f schema names (body_of s))
    ∙ normal_with-on f schema names (normal_body schema names (body_of s)) (unwrap_or (choice_for schema s) []) s))

pub forms_stay_good : FormsStayGood
forms_stay_good schema s cells good = (code_stays schema s (put cells) ∙ good, normal_follows schema s (put cells))
