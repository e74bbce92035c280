-- The constants of a body and of a statement, from the left.
use Rattle.std.proofs.Common.{◌≡◌, ℕ, ◌+◌, List, [], ◌∷◌, ◌++◌, length, sym, ap, ◌∙◌, append_assoc, arith, length-append}
use Rattle.std.specs.Prelude.{flat_map}
use Rattle.std.proofs.lemmas.List.{append-nil}
use Rattle.std.proofs.lemmas.List.Concat.{flat_map-append}
use Rattle.lt_model.specs.declared.syntax.Term.{Term}
use Rattle.lt_model.specs.declared.syntax.Head.{Head}
use Rattle.lt_model.specs.declared.syntax.Literal.{Literal}
use Rattle.lt_model.specs.declared.syntax.Statement.{Statement}
use Rattle.lt_model.specs.declared.syntax.Statement.TheVariants.{Insert, Delete, Replace, Print}
use Rattle.lt_model.specs.Forms.{cells_in, cells_of, numbered_literal, numbered_body, past_terms}
use Rattle.lt_model.specs.Variables.{literal_terms}
use Rattle.lt_model.proofs.Filled.{cells_append}

-- the constants of literals
abbrev pub cells_of_all : List Literal → List ℕ
cells_of_all ls = cells_in (flat_map literal_terms ls)

cells_of_more : (x : Literal) (ls : List Literal) → cells_of_all (x ∷ ls) ≡ cells_in (literal_terms x) ++ cells_of_all ls
cells_of_more x ls = cells_append (literal_terms x) (flat_map literal_terms ls)

cells_of_last : (ls : List Literal) (l : Literal) → cells_of_all (ls ++ l ∷ []) ≡ cells_of_all ls ++ cells_in (literal_terms l)
cells_of_last ls l =
    ap cells_in (flat_map-append literal_terms ls (l ∷ []) ∙ ap (λ w. flat_map literal_terms ls ++ w) (append-nil (literal_terms l)))
    ∙ cells_append (flat_map literal_terms ls) (literal_terms l)

numbered_last : (n : ℕ) (ls : List Literal) (l : Literal) → numbered_body n (ls ++ l ∷ []) ≡ numbered_body n ls ++ numbered_literal (n + length (cells_of_all ls)) l ∷ []
numbered_last n [] l = let same : n ≡ n + 0 = omega arith in ap (λ m. numbered_literal m l ∷ []) same
numbered_last n (x ∷ ls) l =
    let here : ℕ = past_terms n (literal_terms x) in
    let long : length (cells_of_all (x ∷ ls)) ≡ length (cells_in (literal_terms x)) + length (cells_of_all ls) = ap length (cells_of_more x ls) ∙ length-append (cells_in (literal_terms x)) (cells_of_all ls) in
    let same : here + length (cells_of_all ls) ≡ n + length (cells_of_all (x ∷ ls)) = omega (arith, long) in
    ap (λ w. numbered_literal n x ∷ w) (numbered_last here ls l ∙ ap (λ m. numbered_body here ls ++ numbered_literal m l ∷ []) same)

-- the literals that are done, numbered behind the first cells
pub record NumbersBody (first : List ℕ) (done new : List Literal) (cells : List ℕ) : Type 0 where
  pub body : new ≡ numbered_body (length first) done
  pub cells_are : cells ≡ first ++ cells_in (flat_map literal_terms done)

pub numbers_literal : (first : List ℕ) (done new now : List Literal) (cells more : List ℕ) (l made : Literal) → made ≡ numbered_literal (length cells) l → more ≡ cells ++ cells_in (literal_terms l) → now ≡ new ++ made ∷ [] → NumbersBody first done new cells → NumbersBody first (done ++ l ∷ []) now more
numbers_literal first done new now cells more l made is are pushed before =
    let long : length cells ≡ length first + length (cells_of_all done) = ap length before.cells_are ∙ length-append first (cells_of_all done) in
    record {
      body = pushed ∙ (ap (λ w. w ++ made ∷ []) before.body ∙ (ap (λ x. numbered_body (length first) done ++ x ∷ []) (is ∙ ap (λ m. numbered_literal m l) long) ∙ sym (numbered_last (length first) done l)));
      cells_are = are ∙ (ap (λ w. w ++ cells_in (literal_terms l)) before.cells_are ∙ (append_assoc first (cells_of_all done) (cells_in (literal_terms l)) ∙ ap (λ w. first ++ w) (sym (cells_of_last done l))));
    }

-- ---- statements

-- those of terms, and then those of a body
cells_both : (ts : List Term) (body : List Literal) (old here all : List ℕ) → old ≡ [] → here ≡ old ++ cells_in ts → all ≡ here ++ cells_of_all body → all ≡ cells_in (ts ++ flat_map literal_terms body)
cells_both ts body old here all none first e =
    e ∙ (ap (λ w. w ++ cells_of_all body) (first ∙ ap (λ w. w ++ cells_in ts) none) ∙ sym (cells_append ts (flat_map literal_terms body)))

pub cells_insert : (s : Statement) (head : Head) (body : List Literal) (old here all : List ℕ) → s ≡ Insert head body → old ≡ [] → here ≡ old ++ cells_in head.terms → all ≡ here ++ cells_of_all body → all ≡ cells_of s
cells_insert s head body old here all is none first e =
    cells_both head.terms body old here all none first e ∙ (ap (λ (w : List Term). cells_in (w ++ flat_map literal_terms body)) (sym (append-nil head.terms)) ∙ ap cells_of (sym is))

pub cells_delete : (s : Statement) (head : Head) (body : List Literal) (old here all : List ℕ) → s ≡ Delete head body → old ≡ [] → here ≡ old ++ cells_in head.terms → all ≡ here ++ cells_of_all body → all ≡ cells_of s
cells_delete s head body old here all is none first e =
    cells_both head.terms body old here all none first e ∙ (ap (λ (w : List Term). cells_in (w ++ flat_map literal_terms body)) (sym (append-nil head.terms)) ∙ ap cells_of (sym is))

pub cells_replace : (s : Statement) (gone come : Head) (body : List Literal) (old one two all : List ℕ) → s ≡ Replace gone come body → old ≡ [] → one ≡ old ++ cells_in gone.terms → two ≡ one ++ cells_in come.terms → all ≡ two ++ cells_of_all body → all ≡ cells_of s
cells_replace s gone come body old one two all is none first second e =
    let both : two ≡ old ++ cells_in (gone.terms ++ come.terms) =
    second ∙ (ap (λ w. w ++ cells_in come.terms) first ∙ (append_assoc old (cells_in gone.terms) (cells_in come.terms) ∙ ap (λ w. old ++ w) (sym (cells_append gone.terms come.terms)))) in
    cells_both (gone.terms ++ come.terms) body old two all none both e
    ∙ (ap (λ (w : List Term). cells_in ((gone.terms ++ w) ++ flat_map literal_terms body)) (sym (append-nil come.terms)) ∙ ap cells_of (sym is))

pub cells_print : (s : Statement) (terms : List Term) (body : List Literal) (old here all : List ℕ) → s ≡ Print terms body → old ≡ [] → here ≡ old ++ cells_in terms → all ≡ here ++ cells_of_all body → all ≡ cells_of s
cells_print s terms body old here all is none first e = cells_both terms body old here all none first e ∙ ap cells_of (sym is)
