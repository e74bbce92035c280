-- The form of a statement within the limits is within them.
use Rattle.std.proofs.Common.{◌≡◌, ℕ, suc, ◌+◌, ◌<◌, ◌≤◌, List, [], ◌∷◌, ◌++◌, length, refl, sym, ap, subst, ◌∙◌, arith, length-append}
use Rattle.std.specs.Prelude.{flat_map, ◌^◌}
use Rattle.std.specs.List.{AllByRecursion}
use Rattle.std.proofs.lemmas.List.{append-nil}
use Rattle.lt_face.specs.Limits.{most_columns, most_literals, most_variables}
use Rattle.lt_model.specs.declared.syntax.Term.{Term}
use Rattle.lt_model.specs.declared.syntax.Term.TheVariants.{Name, Cell}
use Rattle.lt_model.specs.declared.syntax.Head.{Head}
use Rattle.lt_model.specs.declared.syntax.Literal.{Literal}
use Rattle.lt_model.specs.declared.syntax.Literal.TheVariants.{Atom, Absent, Cmp, Sum}
use Rattle.lt_model.specs.declared.syntax.Statement.{Statement}
use Rattle.lt_model.specs.declared.syntax.Statement.TheVariants.{Insert, Delete, Replace, Require, Print}
use Rattle.lt_model.specs.Forms.{put, cells_in, cells_of, numbered_term, past_terms, numbered_terms, numbered_literal, numbered_body, numbered}
use Rattle.lt_model.specs.Laws.{NumbersWithin}
use Rattle.lt_model.specs.Variables.{literal_terms, variables}
use Rattle.lt_model.specs.Within.{HasCell, AreTermsWithin, IsLiteralWithin, IsStatementWithin}
use Rattle.lt_model.proofs.Filled.{cells_append, forms_fill}
use Rattle.lt_model.proofs.OnCells.{variables-on}

-- fewer constants than cells stand before and among these terms
abbrev FewTo : ℕ → List Term → Type 0
FewTo n ts = n + length (cells_in ts) < 2 ^ 120

few_both : (n : ℕ) (a b : List Term) → FewTo n (a ++ b) → FewTo n a × FewTo (past_terms n a) b
few_both n a b few =
    let long : length (cells_in (a ++ b)) ≡ length (cells_in a) + length (cells_in b) = ap length (cells_append a b) ∙ length-append (cells_in a) (cells_in b) in
    (omega (arith, few, long), omega (arith, few, long))

term_cell : (n : ℕ) (t : Term) → FewTo n (t ∷ []) → HasCell (numbered_term n t)
term_cell n (Name name) few = tt
term_cell n (Cell kind cell) few = (omega arith, omega (arith, few))

terms_cells : (n : ℕ) (ts : List Term) → FewTo n ts → AllByRecursion HasCell (numbered_terms n ts)
terms_cells n [] few = tt
terms_cells n (t ∷ ts) few = let both = few_both n (t ∷ []) ts few in (term_cell n t both.0, terms_cells (past_terms n (t ∷ [])) ts both.1)

terms_long : (n : ℕ) (ts : List Term) → length (numbered_terms n ts) ≡ length ts
terms_long n [] = refl
terms_long n (t ∷ ts) = ap suc (terms_long (past_terms n (t ∷ [])) ts)

terms_within : (n : ℕ) (ts : List Term) → AreTermsWithin ts → FewTo n ts → AreTermsWithin (numbered_terms n ts)
terms_within n ts within few =
    record {
      some = subst (λ m. 1 ≤ m) (sym (terms_long n ts)) within.some;
      few = subst (λ m. m ≤ most_columns) (sym (terms_long n ts)) within.few;
      cells = terms_cells n ts few;
    }

literal_within : (n : ℕ) (l : Literal) → IsLiteralWithin l → FewTo n (literal_terms l) → IsLiteralWithin (numbered_literal n l)
literal_within n (Atom head) within few = terms_within n head.terms within few
literal_within n (Absent head) within few = terms_within n head.terms within few
literal_within n (Cmp left op right) within few = let both = few_both n (left ∷ []) (right ∷ []) few in (term_cell n left both.0, term_cell (past_terms n (left ∷ [])) right both.1)
literal_within n (Sum var a minus b) within few = let both = few_both n (a ∷ []) (b ∷ []) few in (term_cell n a both.0, term_cell (past_terms n (a ∷ [])) b both.1)

body_within : (n : ℕ) (body : List Literal) → AllByRecursion IsLiteralWithin body → FewTo n (flat_map literal_terms body) → AllByRecursion IsLiteralWithin (numbered_body n body)
body_within n [] within few = tt
body_within n (l ∷ ls) within few =
    let both = few_both n (literal_terms l) (flat_map literal_terms ls) few in
    (literal_within n l within.0 both.0, body_within (past_terms n (literal_terms l)) ls within.1 both.1)

body_long : (n : ℕ) (body : List Literal) → length (numbered_body n body) ≡ length body
body_long n [] = refl
body_long n (l ∷ ls) = ap suc (body_long (past_terms n (literal_terms l)) ls)

variables-numbered : (s : Statement) → variables (numbered s) ≡ variables s
variables-numbered s = sym (variables-on (put (cells_of s)) (numbered s)) ∙ ap variables (forms_fill s)

few_variables : (s : Statement) → length (variables s) ≤ most_variables → length (variables (numbered s)) ≤ most_variables
few_variables s few = subst (λ (names : List (List ℕ)). length names ≤ most_variables) (sym (variables-numbered s)) few

few_literals : (n : ℕ) (body : List Literal) → length body ≤ most_literals → length (numbered_body n body) ≤ most_literals
few_literals n body few = subst (λ m. m ≤ most_literals) (sym (body_long n body)) few

-- without the nothing behind a head's terms
few_head : (head : Head) (terms : List Term) → FewTo 0 ((head.terms ++ []) ++ terms) → FewTo 0 (head.terms ++ terms)
few_head head terms few = subst (λ (ts : List Term). FewTo 0 (ts ++ terms)) (append-nil head.terms) few

form_within : (s : Statement) → IsStatementWithin s → 0 + length (cells_of s) < 2 ^ 120 → IsStatementWithin (numbered s)
form_within (Insert head body) within few =
    let both = few_both 0 head.terms (flat_map literal_terms body) (few_head head (flat_map literal_terms body) few) in
    record {
      heads = (terms_within 0 head.terms within.heads.0 both.0, tt);
      printed = tt;
      literals = body_within (past_terms 0 head.terms) body within.literals both.1;
      few_literals = few_literals (past_terms 0 head.terms) body within.few_literals;
      few_variables = few_variables (Insert head body) within.few_variables;
    }
form_within (Delete head body) within few =
    let both = few_both 0 head.terms (flat_map literal_terms body) (few_head head (flat_map literal_terms body) few) in
    record {
      heads = (terms_within 0 head.terms within.heads.0 both.0, tt);
      printed = tt;
      literals = body_within (past_terms 0 head.terms) body within.literals both.1;
      few_literals = few_literals (past_terms 0 head.terms) body within.few_literals;
      few_variables = few_variables (Delete head body) within.few_variables;
    }
form_within (Replace gone come body) within few =
    let terms = flat_map literal_terms body in
    let both = few_both 0 (gone.terms ++ (come.terms ++ [])) terms few in
    let heads = few_both 0 gone.terms (come.terms ++ []) both.0 in
    let n = past_terms 0 gone.terms in
    let second : FewTo n come.terms = subst (λ (ts : List Term). FewTo n ts) (append-nil come.terms) heads.1 in
    let long : length (cells_in (gone.terms ++ (come.terms ++ []))) ≡ length (cells_in gone.terms) + length (cells_in come.terms) =
    ap length (cells_append gone.terms (come.terms ++ [])) ∙ (length-append (cells_in gone.terms) (cells_in (come.terms ++ [])) ∙ ap (λ (ts : List Term). length (cells_in gone.terms) + length (cells_in ts)) (append-nil come.terms)) in
    let last : FewTo (past_terms n come.terms) terms = omega (arith, both.1, long) in
    record {
      heads = (terms_within 0 gone.terms within.heads.0 heads.0, (terms_within n come.terms within.heads.1.0 second, tt));
      printed = tt;
      literals = body_within (past_terms n come.terms) body within.literals last;
      few_literals = few_literals (past_terms n come.terms) body within.few_literals;
      few_variables = few_variables (Replace gone come body) within.few_variables;
    }
form_within (Require some body) within few =
    record {
      heads = tt;
      printed = tt;
      literals = body_within 0 body within.literals few;
      few_literals = few_literals 0 body within.few_literals;
      few_variables = few_variables (Require some body) within.few_variables;
    }
form_within (Print terms body) within few =
    let both = few_both 0 terms (flat_map literal_terms body) few in
    record {
      heads = tt;
      printed = terms_within 0 terms within.printed both.0;
      literals = body_within (past_terms 0 terms) body within.literals both.1;
      few_literals = few_literals (past_terms 0 terms) body within.few_literals;
      few_variables = few_variables (Print terms body) within.few_variables;
    }

pub numbers_within : NumbersWithin
numbers_within s within few = form_within s within (omega (arith, few))
