-- Statements are their forms filled with their constants, and texts have one form.
use Rattle.std.proofs.Common.{◌≡◌, ℕ, zero, suc, ◌+◌, ◌-◌, List, [], ◌∷◌, ◌++◌, map, length, drop, Option, Some, refl, sym, ap, subst, ◌∙◌, append_assoc, arith}
use Rattle.std.specs.Prelude.{flat_map, option_map, unwrap_or, slice_index_or}
use Rattle.std.proofs.lemmas.List.{append-nil}
use Rattle.lt_model.specs.declared.syntax.Term.{Term}
use Rattle.lt_model.specs.declared.syntax.Term.TheVariants.{Name, Cell}
use Rattle.lt_model.specs.declared.syntax.Head.{Head}
use Rattle.lt_model.specs.declared.syntax.Literal.{Literal}
use Rattle.lt_model.specs.declared.syntax.Literal.TheVariants.{Atom, Absent, Cmp, Sum}
use Rattle.lt_model.specs.declared.syntax.Statement.{Statement}
use Rattle.lt_model.specs.declared.syntax.Statement.TheVariants.{Insert, Delete, Replace, Require, Print}
use Rattle.lt_model.specs.Forms.{put, on_term, on_head, on_literal, on_statement, cells_in, cells_of, numbered_term, past_terms, numbered_terms, numbered_head, numbered_literal, numbered_body, numbered}
use Rattle.lt_model.specs.Grammar.{formed, SpellsForm}
use Rattle.lt_model.specs.Laws.{FormsFill, OneForm}
use Rattle.lt_model.specs.Script.{shapes}
use Rattle.lt_model.specs.Tokens.{Shape, Token, Read, finished}
use Rattle.lt_model.specs.Variables.{literal_terms, terms_of}
use Rattle.lt_model.proofs.ItemReader.{read_form, form_again}

-- ---- a statement is its form with its constants

-- the cells from place n on are these, and then others
abbrev Stand : List ℕ → ℕ → List ℕ → List ℕ → Type 0
Stand cells n these rest = drop n cells ≡ these ++ rest

first_there : (cells : List ℕ) (n c d : ℕ) (rest : List ℕ) → drop n cells ≡ c ∷ rest → (slice_index_or cells n d ≡ c) × (drop (suc n) cells ≡ rest)
first_there [] zero c d rest e = absurd cc
first_there [] (suc n) c d rest e = absurd cc
first_there (x ∷ cells) zero c d rest e = (cc, cc)
first_there (x ∷ cells) (suc n) c d rest e = first_there cells n c d rest e

put_there : (cells : List ℕ) (n c : ℕ) (rest : List ℕ) → drop n cells ≡ c ∷ rest → put cells (n + 1) ≡ c
put_there cells n c rest e =
    let back : n + 1 - 1 ≡ n = omega arith in
    ap (λ m. slice_index_or cells m (n + 1)) back ∙ (first_there cells n c (n + 1) rest e).0

pub cells_append : (a b : List Term) → cells_in (a ++ b) ≡ cells_in a ++ cells_in b
cells_append [] b = refl
cells_append (Name name ∷ a) b = cells_append a b
cells_append (Cell kind cell ∷ a) b = ap (λ w. cell ∷ w) (cells_append a b)

-- those of the first terms, and those behind them
stand_front : (cells : List ℕ) (n : ℕ) (a b : List Term) (rest : List ℕ) → Stand cells n (cells_in (a ++ b)) rest → Stand cells n (cells_in a) (cells_in b ++ rest)
stand_front cells n a b rest e = e ∙ ap (λ w. w ++ rest) (cells_append a b) ∙ append_assoc (cells_in a) (cells_in b) rest

stand_back : (cells : List ℕ) (n : ℕ) (these rest : List ℕ) → Stand cells n these rest → drop (n + length these) cells ≡ rest
stand_back cells n [] rest e = let on : n + 0 ≡ n = omega arith in ap (λ m. drop m cells) on ∙ e
stand_back cells n (c ∷ these) rest e =
    let on : n + suc (length these) ≡ suc n + length these = omega arith in
    ap (λ m. drop m cells) on ∙ stand_back cells (suc n) these rest (first_there cells n c 0 (these ++ rest) e).1

term_fills : (cells : List ℕ) (n : ℕ) (t : Term) (rest : List ℕ) → Stand cells n (cells_in (t ∷ [])) rest → on_term (put cells) (numbered_term n t) ≡ t
term_fills cells n (Name name) rest e = refl
term_fills cells n (Cell kind cell) rest e = ap (Cell kind) (put_there cells n cell rest e)

terms_fill : (cells : List ℕ) (n : ℕ) (ts : List Term) (rest : List ℕ) → Stand cells n (cells_in ts) rest → map (on_term (put cells)) (numbered_terms n ts) ≡ ts
terms_fill cells n [] rest e = refl
terms_fill cells n (t ∷ ts) rest e =
    let here = stand_front cells n (t ∷ []) ts rest e in
    ap (λ x. x ∷ map (on_term (put cells)) (numbered_terms (past_terms n (t ∷ [])) ts)) (term_fills cells n t (cells_in ts ++ rest) here)
    ∙ ap (λ w. t ∷ w) (terms_fill cells (past_terms n (t ∷ [])) ts rest (stand_back cells n (cells_in (t ∷ [])) (cells_in ts ++ rest) here))

head_fills : (cells : List ℕ) (n : ℕ) (head : Head) (rest : List ℕ) → Stand cells n (cells_in head.terms) rest → on_head (put cells) (numbered_head n head) ≡ head
head_fills cells n head rest e = ap (λ (ts : List Term). record { relation = head.relation; terms = ts }) (terms_fill cells n head.terms rest e)

literal_fills : (cells : List ℕ) (n : ℕ) (l : Literal) (rest : List ℕ) → Stand cells n (cells_in (literal_terms l)) rest → on_literal (put cells) (numbered_literal n l) ≡ l
literal_fills cells n (Atom head) rest e = ap Atom (head_fills cells n head rest e)
literal_fills cells n (Absent head) rest e = ap Absent (head_fills cells n head rest e)
literal_fills cells n (Cmp left op right) rest e =
    let here = stand_front cells n (left ∷ []) (right ∷ []) rest e in
    ap (λ t. Cmp t op (on_term (put cells) (numbered_term (past_terms n (left ∷ [])) right))) (term_fills cells n left (cells_in (right ∷ []) ++ rest) here)
    ∙ ap (Cmp left op) (term_fills cells (past_terms n (left ∷ [])) right rest (stand_back cells n (cells_in (left ∷ [])) (cells_in (right ∷ []) ++ rest) here))
literal_fills cells n (Sum var a minus b) rest e =
    let here = stand_front cells n (a ∷ []) (b ∷ []) rest e in
    ap (λ t. Sum var t minus (on_term (put cells) (numbered_term (past_terms n (a ∷ [])) b))) (term_fills cells n a (cells_in (b ∷ []) ++ rest) here)
    ∙ ap (Sum var a minus) (term_fills cells (past_terms n (a ∷ [])) b rest (stand_back cells n (cells_in (a ∷ [])) (cells_in (b ∷ []) ++ rest) here))

body_fills : (cells : List ℕ) (n : ℕ) (body : List Literal) (rest : List ℕ) → Stand cells n (cells_in (flat_map literal_terms body)) rest → map (on_literal (put cells)) (numbered_body n body) ≡ body
body_fills cells n [] rest e = refl
body_fills cells n (l ∷ ls) rest e =
    let terms = flat_map literal_terms ls in
    let here = stand_front cells n (literal_terms l) terms rest e in
    ap (λ x. x ∷ map (on_literal (put cells)) (numbered_body (past_terms n (literal_terms l)) ls)) (literal_fills cells n l (cells_in terms ++ rest) here)
    ∙ ap (λ w. l ∷ w) (body_fills cells (past_terms n (literal_terms l)) ls rest (stand_back cells n (cells_in (literal_terms l)) (cells_in terms ++ rest) here))

-- all cells from the first on
all_stand : (ts : List Term) → Stand (cells_in ts) 0 (cells_in ts) []
all_stand ts = sym (append-nil (cells_in ts))

-- terms, and then a body
both_fill : {A : Type 0} (make : List Term → List Literal → A) (ts : List Term) (body : List Literal) (cells : List ℕ) → Stand cells 0 (cells_in (ts ++ flat_map literal_terms body)) [] →
    make (map (on_term (put cells)) (numbered_terms 0 ts)) (map (on_literal (put cells)) (numbered_body (past_terms 0 ts) body)) ≡ make ts body
both_fill make ts body cells e =
    let terms = flat_map literal_terms body in
    let here = stand_front cells 0 ts terms [] e in
    ap (λ w. make w (map (on_literal (put cells)) (numbered_body (past_terms 0 ts) body))) (terms_fill cells 0 ts (cells_in terms ++ []) here)
    ∙ ap (make ts) (body_fills cells (past_terms 0 ts) body [] (stand_back cells 0 (cells_in ts) (cells_in terms ++ []) here))

replace_fills : (gone come : Head) (body : List Literal) (cells : List ℕ) → Stand cells 0 (cells_in ((gone.terms ++ come.terms) ++ flat_map literal_terms body)) [] → on_statement (put cells) (numbered (Replace gone come body)) ≡ Replace gone come body
replace_fills gone come body cells e =
    let terms = flat_map literal_terms body in
    let all : Stand cells 0 (cells_in (gone.terms ++ (come.terms ++ terms))) [] = e ∙ ap (λ (ts : List Term). cells_in ts ++ []) (append_assoc gone.terms come.terms terms) in
    let first = stand_front cells 0 gone.terms (come.terms ++ terms) [] all in
    let n = past_terms 0 gone.terms in
    let behind : Stand cells n (cells_in (come.terms ++ terms)) [] = stand_back cells 0 (cells_in gone.terms) (cells_in (come.terms ++ terms) ++ []) first in
    let second = stand_front cells n come.terms terms [] behind in
    ap (λ (h : Head). Replace h (on_head (put cells) (numbered_head n come)) (map (on_literal (put cells)) (numbered_body (past_terms n come.terms) body))) (head_fills cells 0 gone (cells_in (come.terms ++ terms) ++ []) first)
    ∙ ap (λ (h : Head). Replace gone h (map (on_literal (put cells)) (numbered_body (past_terms n come.terms) body))) (head_fills cells n come (cells_in terms ++ []) second)
    ∙ ap (Replace gone come) (body_fills cells (past_terms n come.terms) body [] (stand_back cells n (cells_in come.terms) (cells_in terms ++ []) second))

-- a head alone is all of the terms before the body
one_head : (head : Head) (body : List Literal) → (head.terms ++ []) ++ flat_map literal_terms body ≡ head.terms ++ flat_map literal_terms body
one_head head body = ap (λ w. w ++ flat_map literal_terms body) (append-nil head.terms)

stand_head : (head : Head) (body : List Literal) → let ts : List Term = (head.terms ++ []) ++ flat_map literal_terms body in Stand (cells_in ts) 0 (cells_in (head.terms ++ flat_map literal_terms body)) []
stand_head head body = all_stand ((head.terms ++ []) ++ flat_map literal_terms body) ∙ ap (λ (ts : List Term). cells_in ts ++ []) (one_head head body)

pub forms_fill : FormsFill
forms_fill (Insert head body) = both_fill (λ ts b. Insert (record { relation = head.relation; terms = ts }) b) head.terms body (cells_of (Insert head body)) (stand_head head body)
forms_fill (Delete head body) = both_fill (λ ts b. Delete (record { relation = head.relation; terms = ts }) b) head.terms body (cells_of (Delete head body)) (stand_head head body)
forms_fill (Replace gone come body) =
    let same : (gone.terms ++ (come.terms ++ [])) ++ flat_map literal_terms body ≡ (gone.terms ++ come.terms) ++ flat_map literal_terms body = ap (λ w. (gone.terms ++ w) ++ flat_map literal_terms body) (append-nil come.terms) in
    replace_fills gone come body (cells_of (Replace gone come body)) (all_stand (terms_of (Replace gone come body)) ∙ ap (λ (ts : List Term). cells_in ts ++ []) same)
forms_fill (Require some body) = both_fill (λ ts b. Require some b) [] body (cells_of (Require some body)) (all_stand (flat_map literal_terms body))
forms_fill (Print terms body) = both_fill Print terms body (cells_of (Print terms body)) (all_stand (terms ++ flat_map literal_terms body))

-- ---- a text has one form

one_read : (o : Option (Statement × List Shape)) (a b : Statement) → o ≡ Some (a, []) → o ≡ Some (b, []) → a ≡ b
one_read o a b first second = ap (λ (x : Option (Statement × List Shape)). unwrap_or (option_map (λ (y : Statement × List Shape). y.0) x) a) (sym first ∙ second)

spelled_once : (us : List Shape) (a b : Statement) → SpellsForm formed a us → SpellsForm formed b us → a ≡ b
spelled_once us a b h k =
    let n : ℕ = suc (length us) in
    one_read (read_form n formed (us ++ [])) a b (form_again n formed a us [] (omega arith) h) (form_again n formed b us [] (omega arith) k)

pub one_form : OneForm
one_form text a b h k =
    let read : (h.ts, finished h.line) ≡ (k.ts, finished k.line) = sym h.divides ∙ k.divides in
    let same : h.ts ≡ k.ts = ap (λ (r : Read). r.0) read in
    let whole : h.whole ≡ k.whole = spelled_once (shapes k.ts) h.whole k.whole (subst (λ (ts : List Token). SpellsForm formed h.whole (shapes ts)) same h.spells) k.spells in
    sym h.is ∙ (ap numbered whole ∙ k.is)
