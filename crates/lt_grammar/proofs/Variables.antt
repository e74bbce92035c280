-- The names in a statement of the tree are the variables of what it stands for, in text order.
use Rattle.std.proofs.Common.{◌≡◌, ◌≤◌, true, List, [], ◌∷◌, ◌++◌, length, fold, refl, sym as turned, ap, subst, ◌∙◌, append_assoc}
use Rattle.std.specs.Prelude.{map, flat_map, filter_map}
use Rattle.std.proofs.lemmas.List.{append-nil}
use Rattle.std.proofs.lemmas.List.Elements.{filter_map-append}
use Rattle.std.proofs.lemmas.Bool.{leb-true, le-leb}
use Rattle.lt_reading.specs.Language.{Level, formed, few, fine, full, AtClose}
use Rattle.lt_model.specs.declared.syntax.Term.{Term as TermValue}
use Rattle.lt_model.specs.Grammar.{HasFewVariables}
use Rattle.lt_model.specs.Variables.{literal_terms, terms_of, variable_of, variables, with_name}
use Rattle.lt_grammar.specs.Tokens.{Text}
use Rattle.lt_grammar.specs.Grammar.{Term, name, numeral, quoted, Head, Literal, atom, absent, compare, sum, Statement, insert, delete, replace, require, print, term_names, terms_names, head_names, literal_names, body_names, statement_names, few_names}
use Rattle.lt_grammar.specs.Meaning.{level_of, term_value, terms_value, literal_value, body_value, statement_value}

abbrev names_of : List TermValue → List Text
names_of ts = filter_map variable_of ts

joined : (xs ys : List TermValue) → names_of (xs ++ ys) ≡ names_of xs ++ names_of ys
joined xs ys = filter_map-append variable_of xs ys

term : (t : Term) (ts : List TermValue) → names_of (term_value t ∷ ts) ≡ term_names t ++ names_of ts
term (name text) ts = refl
term (numeral m digits) ts = refl
term (quoted text) ts = refl

terms : (ts : List Term) → names_of (map term_value ts) ≡ flat_map term_names ts
terms [] = refl
terms (t ∷ ts) = term t (map term_value ts) ∙ ap (λ (s : List Text). term_names t ++ s) (terms ts)

arguments : (t : Term) (ts : List Term) → names_of (terms_value t ts) ≡ terms_names t ts
arguments t ts = terms (t ∷ ts)

-- two terms alone
two : (a b : Term) → names_of (term_value a ∷ term_value b ∷ []) ≡ term_names a ++ term_names b
two a b = term a (term_value b ∷ []) ∙ ap (λ (s : List Text). term_names a ++ s) (term b [] ∙ append-nil (term_names b))

literal : (l : Literal) → names_of (literal_terms (literal_value l)) ≡ literal_names l
literal (atom h) = arguments h.first h.others
literal (absent h) = arguments h.first h.others
literal (compare left op right) = two left right
literal (sum v a m b) = ap (λ (s : List Text). v ∷ s) (two a b)

body : (ls : List Literal) → names_of (flat_map literal_terms (map literal_value ls)) ≡ body_names ls
body [] = refl
body (l ∷ ls) =
    joined (literal_terms (literal_value l)) (flat_map literal_terms (map literal_value ls)) ∙ ap (λ (s : List Text). s ++ names_of (flat_map literal_terms (map literal_value ls))) (literal l) ∙ ap (λ (s : List Text). literal_names l ++ s) (body ls)

-- a head, and what stands behind it
head : (h : Head) (ts : List TermValue) (names : List Text) → names_of ts ≡ names → names_of (terms_value h.first h.others ++ ts) ≡ head_names h ++ names
head h ts names e = joined (terms_value h.first h.others) ts ∙ ap (λ (s : List Text). s ++ names_of ts) (arguments h.first h.others) ∙ ap (λ (s : List Text). head_names h ++ s) e

-- a head and a body, and two heads and a body
ruled : (h : Head) (ls : List Literal) → names_of ((terms_value h.first h.others ++ []) ++ flat_map literal_terms (map literal_value ls)) ≡ head_names h ++ body_names ls
ruled h ls =
    let behind : List TermValue = flat_map literal_terms (map literal_value ls) in
    ap (λ (s : List TermValue). names_of (s ++ behind)) (append-nil (terms_value h.first h.others)) ∙ head h behind (body_names ls) (body ls)

ruled_twice : (g h : Head) (ls : List Literal) → names_of ((terms_value g.first g.others ++ (terms_value h.first h.others ++ [])) ++ flat_map literal_terms (map literal_value ls)) ≡ head_names g ++ (head_names h ++ body_names ls)
ruled_twice g h ls =
    let behind : List TermValue = flat_map literal_terms (map literal_value ls) in
    ap names_of (append_assoc (terms_value g.first g.others) (terms_value h.first h.others ++ []) behind) ∙ head g ((terms_value h.first h.others ++ []) ++ behind) (head_names h ++ body_names ls) (ruled h ls)

pub names_same : (s : Statement) → names_of (terms_of (statement_value s)) ≡ statement_names s
names_same (insert h ls) = ruled h ls
names_same (delete h ls) = ruled h ls
names_same (replace gone come ls) = ruled_twice gone come ls
names_same (require some l ls) = body (l ∷ ls)
names_same (print t ts l ls) =
    joined (terms_value t ts) (flat_map literal_terms (body_value l ls)) ∙ ap (λ (s : List Text). s ++ names_of (flat_map literal_terms (body_value l ls))) (arguments t ts) ∙ ap (λ (s : List Text). terms_names t ts ++ s) (body (l ∷ ls))

-- ---- at most sixteen

count_same : (s : Statement) → length (variables (statement_value s)) ≡ length (fold with_name [] (statement_names s))
count_same s = ap (λ (names : List Text). length (fold with_name [] names)) (names_same s)

few_to : (s : Statement) → few_names s ≡ true → length (variables (statement_value s)) ≤ 16
unfolding few_names
few_to s h = subst (λ n. n ≤ 16) (turned (count_same s)) (leb-true (length (fold with_name [] (statement_names s))) 16 h)

few_from : (s : Statement) → length (variables (statement_value s)) ≤ 16 → few_names s ≡ true
unfolding few_names
few_from s h = le-leb (length (fold with_name [] (statement_names s))) 16 (subst (λ n. n ≤ 16) (count_same s) h)

pub to_few : (level : Level) (s : Statement) → AtClose level (few_names s ≡ true) → HasFewVariables (level_of level) (statement_value s)
to_few formed s h = tt
to_few few s h = tt
to_few fine s h = tt
to_few full s h = few_to s h

pub from_few : (level : Level) (s : Statement) → HasFewVariables (level_of level) (statement_value s) → AtClose level (few_names s ≡ true)
from_few formed s h = tt
from_few few s h = tt
from_few fine s h = tt
from_few full s h = few_from s h
