-- From one statement to a program, and from its parts to a statement.
use Rattle.std.proofs.Common.{◌≡◌, ℕ, zero, suc, ◌+◌, ◌<◌, Bool, true, false, not, ◌&&◌, ◌||◌, List, [], ◌∷◌, ◌++◌, map, length, drop, get_or, Option, Some, None, cond, refl, sym, ap, subst, ◌∙◌, arith}
use mathlib.Core.Bool.{true≢false}
use Rattle.std.specs.Prelude.{find, flat_map, filter_map, fold, is_none, unwrap_or, if◌then◌else◌}
use Rattle.std.specs.Str.{bytes_eq}
use Rattle.std.specs.List.{AllByRecursion, list_all, list_any}
use Rattle.std.proofs.Math.Bool.{and-true, and_assoc}
use Rattle.std.proofs.lemmas.List.{drop_more, map-append}
use Rattle.std.proofs.lemmas.List.Folds.{list_all-append}
use Rattle.std.proofs.lemmas.Slice.Eq.{bytes_eq-Decides}
use Rattle.lt_model.specs.declared.kind.Kind.TheVariants.{Int, Sym}
use Rattle.lt_model.specs.declared.syntax.Head.{Head}
use Rattle.lt_model.specs.declared.syntax.Literal.{Literal}
use Rattle.lt_model.specs.declared.syntax.Term as given
use Rattle.lt_model.specs.declared.syntax.Statement.TheVariants as statements
use Rattle.lt_model.specs.declared.normal.Body.{Body}
use Rattle.lt_model.specs.declared.normal.Stmt.TheVariants as stmts
use Rattle.lt_model.specs.declared.syntax.Statement.{Statement}
use Rattle.lt_model.specs.declared.normal.Stmt.{Stmt}
use Rattle.lt_model.specs.Schema.{Schema}
use Rattle.lt_model.specs.Variables.{atoms_of, body_of, terms_of, variables, variable_of, place_of, with_name, literal_terms}
use Rattle.lt_model.specs.Bound.{is_known, is_bound}
use Rattle.lt_model.specs.Check.{Checked, Good, Bad, after_good, or_bad, code_of, normal, checked_from, Choice, choices, choice_fits, choice_for, is_unknown, is_misfit, all_bound, kind_of, term, normal_body, normal_with}
use Rattle.lt_model.proofs.Laws.{found_choice, some_choice}
use Rattle.lt_model.proofs.Choices.{kinds_determined}
use Rattle.lt_check.specs.Narrowing.{Known, Settles, completed, all_fit}
use Rattle.lt_check.proofs.Binding.{known_places}
use Rattle.lt_model.specs.declared.syntax.Program.{Program}
use Rattle.lt_model.specs.Check.{checked}
use Rattle.lt_check.specs.declared.check.CheckFault.{CheckFault}
use Rattle.lt_check.specs.declared.check.CheckFault.TheVariants as faults
use Rattle.lt_check.specs.Outcome.{IsCode, IsFault}
use Rattle.lt_check.specs.Taking.{IsFormed}

-- ---- programs

-- these statements, and then what is left gives
abbrev pub after_all : List Stmt → Checked → Checked
after_all [] rest = rest
after_all (s ∷ program) rest = after_good s (after_all program rest)

pub after_all_good : (program : List Stmt) → after_all program (Good []) ≡ Good program
after_all_good [] = refl
after_all_good (s ∷ program) = ap (after_good s) (after_all_good program)

pub after_all_bad : (program : List Stmt) (code j : ℕ) → after_all program (Bad code j) ≡ Bad code j
after_all_bad [] code j = refl
after_all_bad (s ∷ program) code j = ap (after_good s) (after_all_bad program code j)

after_all_one : (program : List Stmt) (s : Stmt) (rest : Checked) → after_all (program ++ s ∷ []) rest ≡ after_all program (after_good s rest)
after_all_one [] s rest = refl
after_all_one (x ∷ program) s rest = ap (after_good x) (after_all_one program s rest)

at_statement : (schema : Schema) (statements : List Statement) (i : ℕ) (s : Statement) → i < length statements → s ≡ get_or statements i s → checked_from schema (i + 1) (drop i statements) ≡ or_bad (i + 1) (code_of schema s) (after_good (normal schema s) (checked_from schema (i + 1 + 1) (drop (i + 1) statements)))
at_statement schema statements i s h e =
    ap (checked_from schema (i + 1)) (drop_more statements i s h)
    ∙ ap (λ x. or_bad (i + 1) (code_of schema x) (after_good (normal schema x) (checked_from schema (i + 1 + 1) (drop (i + 1) statements)))) (sym e)

-- the next statement is good
pub checked_more : (schema : Schema) (statements : List Statement) (program : List Stmt) (i : ℕ) (s : Statement) (stmt : Stmt) → i < length statements → s ≡ get_or statements i s → checked_from schema 1 statements ≡ after_all program (checked_from schema (i + 1) (drop i statements)) → code_of schema s ≡ None → stmt ≡ normal schema s → checked_from schema 1 statements ≡ after_all (program ++ stmt ∷ []) (checked_from schema (i + 1 + 1) (drop (i + 1) statements))
checked_more schema statements program i s stmt h e before good is =
    let rest = checked_from schema (i + 1 + 1) (drop (i + 1) statements) in
    before
    ∙ ap (after_all program) (at_statement schema statements i s h e ∙ ap (λ o. or_bad (i + 1) o (after_good (normal schema s) rest)) good ∙ ap (λ x. after_good x rest) (sym is))
    ∙ sym (after_all_one program stmt rest)

-- the next statement has a code
pub checked_bad : (schema : Schema) (statements : List Statement) (program : List Stmt) (i : ℕ) (s : Statement) (code : ℕ) → i < length statements → s ≡ get_or statements i s → checked_from schema 1 statements ≡ after_all program (checked_from schema (i + 1) (drop i statements)) → code_of schema s ≡ Some code → checked_from schema 1 statements ≡ Bad code (i + 1)
checked_bad schema statements program i s code h e before bad =
    let rest = checked_from schema (i + 1 + 1) (drop (i + 1) statements) in
    before
    ∙ ap (after_all program) (at_statement schema statements i s h e ∙ ap (λ o. or_bad (i + 1) o (after_good (normal schema s) rest)) bad)
    ∙ after_all_bad program code (i + 1)

-- ---- the choice of kinds

-- what all have, one that is found has
found_has : {A : Type 0} (P : A → Type 0) (test : A → Bool) (xs : List A) (x : A) → AllByRecursion P xs → find test xs ≡ Some x → P x
found_has P test [] x all e = absurd cc
found_has P test (y ∷ ys) x all e = go (test y) e (found_has P test ys x all.1)
  where
    go : (b : Bool) → cond b (Some y) (find test ys) ≡ Some x → (find test ys ≡ Some x → P x) → P x
    go true e more = let same : y ≡ x = cc in subst P same all.0
    go false e more = more e

both_long : (n : ℕ) (all : List Choice) → AllByRecursion (λ c. length c ≡ n) all → AllByRecursion (λ c. length c ≡ suc n) (flat_map (λ c. (Int ∷ c) ∷ (Sym ∷ c) ∷ []) all)
both_long n [] h = tt
both_long n (c ∷ all) h = let e = h.0 in (omega (arith, e), (omega (arith, e), both_long n all h.1))

choices_long : (n : ℕ) → AllByRecursion (λ (c : Choice). length c ≡ n) (choices n)
choices_long zero = (refl, tt)
choices_long (suc n) = both_long n (choices n) (choices_long n)

-- where no choice fits, there is none
choice_none : (schema : Schema) (s : Statement) → Settles (choice_fits schema s) (length (variables s)) None → is_none (choice_for schema s) ≡ true
choice_none schema s h = go (choice_for schema s) refl
  where
    go : (o : Option Choice) → choice_for schema s ≡ o → is_none o ≡ true
    go None e = refl
    go (Some c) e =
        let long = found_has (λ (c : Choice). length c ≡ length (variables s)) (choice_fits schema s) (choices (length (variables s))) c (choices_long (length (variables s))) e in
        absurd (true≢false (sym (found_choice schema s c e) ∙ h c long))

length_completed : (known : Known) → length (completed known) ≡ length known
length_completed [] = refl
length_completed (k ∷ known) = omega (arith, length_completed known)

-- where one fits, one is found
choice_some : (schema : Schema) (s : Statement) (known : Known) → Settles (choice_fits schema s) (length (variables s)) (Some known) → (c : Choice) × (choice_for schema s ≡ Some c)
choice_some schema s known h = go (choice_for schema s) refl
  where
    go : (o : Option Choice) → choice_for schema s ≡ o → (c : Choice) × (choice_for schema s ≡ Some c)
    go None e = absurd (some_choice schema s (completed known) (length_completed known ∙ h.0) h.1 e)
    go (Some c) e = (c, e)

-- ---- codes

-- the first of the four that a statement has
abbrev pub chosen : (a b c d : Bool) → Option ℕ
chosen a b c d = if a then Some 20 else (if b then Some 21 else (if c then Some 22 else (if d then Some 23 else None)))

code_chosen : (schema : Schema) (s : Statement) (a b c d : Bool) → list_any (is_unknown schema) (atoms_of s) ≡ a → list_any (is_misfit schema) (atoms_of s) ≡ b → is_none (choice_for schema s) ≡ c → not (all_bound schema s) ≡ d → code_of schema s ≡ chosen a b c d
code_chosen schema s a b c d p q r t =
    ap (λ x. chosen x (list_any (is_misfit schema) (atoms_of s)) (is_none (choice_for schema s)) (not (all_bound schema s))) p
    ∙ ap (λ x. chosen a x (is_none (choice_for schema s)) (not (all_bound schema s))) q
    ∙ ap (λ x. chosen a b x (not (all_bound schema s))) r
    ∙ ap (chosen a b c) t

pub IsFormed_by : (schema : Schema) (s : Statement) (xs ys : List Head) → xs ≡ atoms_of s → ys ≡ atoms_of s → list_any (is_unknown schema) xs ≡ false → list_any (is_misfit schema) ys ≡ false → IsFormed schema s
IsFormed_by schema s xs ys e f p q = record {
  known = ap (list_any (is_unknown schema)) (sym e) ∙ p;
  fit = ap (list_any (is_misfit schema)) (sym f) ∙ q;
}

-- the same condition, the same number and the same kinds
pub settles_at : (schema : Schema) (s : Statement) (names : List (List ℕ)) (found kinds : Option Known) → names ≡ variables s → found ≡ kinds → Settles (choice_fits schema s) (length names) found → Settles (choice_fits schema s) (length (variables s)) kinds
settles_at schema s names found kinds e f h =
    let P : List (List ℕ) → Type 0 = λ ns. Settles (choice_fits schema s) (length ns) kinds in
    let Q : Option Known → Type 0 = λ o. Settles (choice_fits schema s) (length names) o in
    subst P e (subst Q f h)

pub fits_same : (schema : Schema) (s : Statement) (names : List (List ℕ)) (atoms : List Head) (body : List Literal) → names ≡ variables s → atoms ≡ atoms_of s → body ≡ body_of s → all_fit schema names atoms body ≡ choice_fits schema s
fits_same schema s names atoms body e f g =
    ap (λ ns. all_fit schema ns atoms body) e
    ∙ ap (λ hs. all_fit schema (variables s) hs body) f
    ∙ ap (λ ls. all_fit schema (variables s) (atoms_of s) ls) g

pub code_22 : (schema : Schema) (s : Statement) → IsFormed schema s → Settles (choice_fits schema s) (length (variables s)) None → code_of schema s ≡ Some 22
code_22 schema s f h = code_chosen schema s false false true (not (all_bound schema s)) f.known f.fit (choice_none schema s h) refl

none_is : {A : Type 0} (o : Option A) (x : A) → o ≡ Some x → is_none o ≡ false
none_is o x e = ap is_none e

pub code_23 : (schema : Schema) (s : Statement) (known : Known) → IsFormed schema s → Settles (choice_fits schema s) (length (variables s)) (Some known) → all_bound schema s ≡ false → code_of schema s ≡ Some 23
code_23 schema s known f h b = let found = choice_some schema s known h in code_chosen schema s false false false true f.known f.fit (none_is (choice_for schema s) found.0 found.1) (ap not b)

pub no_code : (schema : Schema) (s : Statement) (known : Known) → IsFormed schema s → Settles (choice_fits schema s) (length (variables s)) (Some known) → all_bound schema s ≡ true → code_of schema s ≡ None
no_code schema s known f h b = let found = choice_some schema s known h in code_chosen schema s false false false false f.known f.fit (none_is (choice_for schema s) found.0 found.1) (ap not b)

first_again : (a b : Bool) → (a && b) ≡ ((a && b) && a)
first_again true b = sym (and-true b)
first_again false b = refl

-- a name that is there is one of them
one_of : (p : List ℕ → Bool) (names : List (List ℕ)) (name : List ℕ) → list_any (bytes_eq name) names ≡ true → list_all p names ≡ (list_all p names && p name)
one_of p [] name h = absurd cc
one_of p (x ∷ names) name h = by_first (bytes_eq name x) refl h (one_of p names name)
  where
    by_first : (b : Bool) → bytes_eq name x ≡ b → (b || list_any (bytes_eq name) names) ≡ true → (list_any (bytes_eq name) names ≡ true → list_all p names ≡ (list_all p names && p name)) → (p x && list_all p names) ≡ ((p x && list_all p names) && p name)
    by_first true e h more = subst (λ y. (p x && list_all p names) ≡ ((p x && list_all p names) && p y)) (sym ((bytes_eq-Decides name x).0 e)) (first_again (p x) (list_all p names))
    by_first false e h more = ap (λ b. p x && b) (more h) ∙ sym (and_assoc (p x) (list_all p names) (p name))

-- a test of all names, and of those without repeats
all_with : (p : List ℕ → Bool) (names : List (List ℕ)) (name : List ℕ) → list_all p (with_name names name) ≡ (list_all p names && p name)
all_with p names name = by_case (list_any (bytes_eq name) names) refl
  where
    by_case : (b : Bool) → list_any (bytes_eq name) names ≡ b → list_all p (if b then names else names ++ name ∷ []) ≡ (list_all p names && p name)
    by_case true e = one_of p names name e
    by_case false e = list_all-append p names (name ∷ []) ∙ ap (λ b. list_all p names && b) (and-true (p name))

all_different : (p : List ℕ → Bool) (names more : List (List ℕ)) → list_all p (fold with_name names more) ≡ (list_all p names && list_all p more)
all_different p names [] = sym (and-true (list_all p names))
all_different p names (name ∷ more) =
    all_different p (with_name names name) more ∙ ap (λ b. b && list_all p more) (all_with p names name) ∙ and_assoc (list_all p names) (p name) (list_all p more)

-- the variables are bound exactly where all terms are
pub bound_by_names : (schema : Schema) (s : Statement) (names : List (List ℕ)) (body : Body) → names ≡ variables s → body ≡ normal_body schema names (body_of s) → list_all (λ name. is_bound body (place_of names name)) names ≡ all_bound schema s
bound_by_names schema s names body e g =
    let test : List (List ℕ) → List ℕ → Bool = λ ns name. is_bound (normal_body schema ns (body_of s)) (place_of ns name) in
    ap (λ (b : Body). list_all (λ name. is_bound b (place_of names name)) names) g
    ∙ ap (λ ns. list_all (test ns) ns) e
    ∙ all_different (test (variables s)) [] (filter_map variable_of (terms_of s))
    ∙ sym (known_places (is_bound (normal_body schema (variables s) (body_of s))) (variables s) (terms_of s))

-- ---- the kinds of printed terms

first_of_both : (a b : Bool) → (a && b) ≡ true → (a ≡ true) × (b ≡ true)
first_of_both true b h = (refl, h)
first_of_both false b h = absurd cc

all_of_first : {A : Type 0} (p : A → Bool) (xs ys : List A) → list_all p (xs ++ ys) ≡ true → list_all p xs ≡ true
all_of_first p [] ys h = refl
all_of_first p (x ∷ xs) ys h = let e = first_of_both (p x) (list_all p (xs ++ ys)) h in ap (λ b. b && list_all p xs) e.0 ∙ all_of_first p xs ys e.1

same_printed : (schema : Schema) (s : Statement) (c d : Choice) (terms : List given.Term) → choice_fits schema s c ≡ true → choice_fits schema s d ≡ true → list_all (is_known (is_bound (normal_body schema (variables s) (body_of s)))) (map (term (variables s)) terms) ≡ true → map (kind_of (variables s) d) terms ≡ map (kind_of (variables s) c) terms
same_printed schema s c d [] h g b = refl
same_printed schema s c d (t ∷ terms) h g b =
    let known = is_known (is_bound (normal_body schema (variables s) (body_of s))) in
    let e = first_of_both (known (term (variables s) t)) (list_all known (map (term (variables s)) terms)) b in
    ap (λ k. k ∷ map (kind_of (variables s) d) terms) (sym (kinds_determined schema s c d t h g e.0))
    ∙ ap (λ ks. kind_of (variables s) c t ∷ ks) (same_printed schema s c d terms h g e.1)

-- the kinds of another choice that fits give the same statement
same_normal : (schema : Schema) (s : Statement) (c d : Choice) → choice_fits schema s c ≡ true → choice_fits schema s d ≡ true → all_bound schema s ≡ true → normal_with schema (variables s) (normal_body schema (variables s) (body_of s)) (kind_of (variables s) d) s ≡ normal_with schema (variables s) (normal_body schema (variables s) (body_of s)) (kind_of (variables s) c) s
same_normal schema (statements.Insert head body) c d h g b = refl
same_normal schema (statements.Delete head body) c d h g b = refl
same_normal schema (statements.Replace gone come body) c d h g b = refl
same_normal schema (statements.Require some body) c d h g b = refl
same_normal schema (statements.Print terms body) c d h g b =
    let s = statements.Print terms body in
    let names = variables s in
    let known = is_known (is_bound (normal_body schema names body)) in
    let split = map-append (term names) terms (flat_map literal_terms body) in
    let front = all_of_first known (map (term names) terms) (map (term names) (flat_map literal_terms body)) (ap (list_all known) (sym split) ∙ b) in
    ap (λ kinds. stmts.Print (map (term names) terms) kinds (normal_body schema names body)) (same_printed schema s c d terms h g front)

-- the statement that is built is the normal form
pub normal_is : (schema : Schema) (s : Statement) (known : Known) (names : List (List ℕ)) (body : Body) (stmt : Stmt) → Settles (choice_fits schema s) (length (variables s)) (Some known) → all_bound schema s ≡ true → names ≡ variables s → body ≡ normal_body schema names (body_of s) → stmt ≡ normal_with schema names body (kind_of names (completed known)) s → stmt ≡ normal schema s
normal_is schema s known names body stmt h b e f g =
    let found = choice_some schema s known h in
    g
    ∙ ap (λ (x : Body). normal_with schema names x (kind_of names (completed known)) s) f
    ∙ ap (λ ns. normal_with schema ns (normal_body schema ns (body_of s)) (kind_of ns (completed known)) s) e
    ∙ same_normal schema s found.0 (completed known) (found_choice schema s found.0 found.1) h.1 b
    ∙ ap (λ o. normal_with schema (variables s) (normal_body schema (variables s) (body_of s)) (kind_of (variables s) (unwrap_or o [])) s) (sym found.1)

-- the fault of the next statement is the program's
pub fault_of : (schema : Schema) (program : Program) (statements : List Statement) (good : List Stmt) (i : ℕ) (s : Statement) (fault : CheckFault) → statements ≡ program.statements → i < length statements → s ≡ get_or statements i s → checked_from schema 1 statements ≡ after_all good (checked_from schema (i + 1) (drop i statements)) → IsCode (code_of schema s) (i + 1) fault → IsFault (checked program schema) fault
fault_of schema program statements good i s (faults.Bad code j) same h e before is =
    ap (checked_from schema 1) (sym same) ∙ checked_bad schema statements good i s code h e before is.0 ∙ ap (Bad code) (sym is.1)
fault_of schema program statements good i s faults.NoMemory same h e before is = tt
