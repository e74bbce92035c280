-- Programs whose statements have no code, and statements' widths.
use Rattle.std.proofs.Common.{◌≡◌, ℕ, ◌+◌, List, [], ◌∷◌, map, length, Option, Some, None, refl, sym, ap, subst, ◌∙◌}
use Rattle.std.specs.Prelude.{filter_map}
use Rattle.std.specs.List.{AllByRecursion}
use Rattle.std.proofs.lemmas.List.{length-map}
use Rattle.lt_model.specs.declared.syntax.Head.{Head}
use Rattle.lt_model.specs.declared.syntax.Literal.{Literal}
use Rattle.lt_model.specs.declared.syntax.Literal.TheVariants.{Atom, Absent, Cmp, Sum}
use Rattle.lt_model.specs.declared.syntax.Statement.{Statement}
use Rattle.lt_model.specs.declared.syntax.Statement.TheVariants as statements
use Rattle.lt_model.specs.declared.normal.Stmt.{Stmt}
use Rattle.lt_model.specs.Check.{Checked, Good, Bad, after_good, atom, checked_from, code_of, normal, or_bad, term}
use Rattle.lt_model.specs.Schema.{Schema}
use Rattle.lt_model.specs.Variables.{absent_of, atom_of, variables}
use Rattle.lt_model.specs.Within.{AreTermsWithin, IsLiteralWithin, IsStatementWithin}
use Rattle.lt_query.specs.Needs.{body_of}
use Rattle.lt_query.specs.Runnable.{AreAtomsWide, HasWidths, IsWidth}

-- ---- programs

-- no statement has a code
abbrev pub AreGood : Schema → List Statement → Type 0
AreGood schema statements = AllByRecursion (λ (s : Statement). code_of schema s ≡ None) statements

-- the normal form of a program is that of each of its statements
pub all_good : (schema : Schema) (statements : List Statement) (j : ℕ) → AreGood schema statements → checked_from schema j statements ≡ Good (map (normal schema) statements)
all_good schema [] j good = refl
all_good schema (s ∷ statements) j good =
    ap (λ o. or_bad j o (after_good (normal schema s) (checked_from schema (j + 1) statements))) good.0
    ∙ ap (after_good (normal schema s)) (all_good schema statements (j + 1) good.1)

pub good_all : (schema : Schema) (statements : List Statement) (j : ℕ) (program : List Stmt) → checked_from schema j statements ≡ Good program → program ≡ map (normal schema) statements
good_all schema [] j [] is = refl
good_all schema [] j (x ∷ program) is = absurd cc
good_all schema (s ∷ statements) j program is =
    go (code_of schema s) (checked_from schema (j + 1) statements) refl program is (λ more. good_all schema statements (j + 1) more)
  where
    go : (o : Option ℕ) (rest : Checked) → checked_from schema (j + 1) statements ≡ rest → (program : List Stmt) → or_bad j o (after_good (normal schema s) rest) ≡ Good program → ((more : List Stmt) → checked_from schema (j + 1) statements ≡ Good more → more ≡ map (normal schema) statements) → program ≡ map (normal schema) (s ∷ statements)
    go (Some code) rest e program h more = absurd cc
    go None (Bad code k) e program h more = absurd cc
    go None (Good good) e program h more =
        let same : program ≡ normal schema s ∷ good = cc in
        same ∙ ap (λ (p : List Stmt). normal schema s ∷ p) (more good e)

-- ---- widths

one_wide : (schema : Schema) (names : List (List ℕ)) (head : Head) → AreTermsWithin head.terms → IsWidth (length (atom schema names head).terms)
one_wide schema names head within = subst IsWidth (sym (length-map head.terms (term names))) (within.some, within.few)

atoms_wide : (schema : Schema) (names : List (List ℕ)) (literals : List Literal) → AllByRecursion IsLiteralWithin literals → AreAtomsWide (map (atom schema names) (filter_map atom_of literals))
atoms_wide schema names [] within = tt
atoms_wide schema names (Atom head ∷ literals) within = (one_wide schema names head within.0, atoms_wide schema names literals within.1)
atoms_wide schema names (Absent head ∷ literals) within = atoms_wide schema names literals within.1
atoms_wide schema names (Cmp left op right ∷ literals) within = atoms_wide schema names literals within.1
atoms_wide schema names (Sum var a minus b ∷ literals) within = atoms_wide schema names literals within.1

absents_wide : (schema : Schema) (names : List (List ℕ)) (literals : List Literal) → AllByRecursion IsLiteralWithin literals → AreAtomsWide (map (atom schema names) (filter_map absent_of literals))
absents_wide schema names [] within = tt
absents_wide schema names (Atom head ∷ literals) within = absents_wide schema names literals within.1
absents_wide schema names (Absent head ∷ literals) within = (one_wide schema names head within.0, absents_wide schema names literals within.1)
absents_wide schema names (Cmp left op right ∷ literals) within = absents_wide schema names literals within.1
absents_wide schema names (Sum var a minus b ∷ literals) within = absents_wide schema names literals within.1

-- the atoms of a statement within the limits have 1 to 8 columns
pub normal_wide : (schema : Schema) (s : Statement) → IsStatementWithin s → HasWidths (body_of (normal schema s))
normal_wide schema (statements.Insert head literals) within = let names = variables (statements.Insert head literals) in (atoms_wide schema names literals within.literals, absents_wide schema names literals within.literals)
normal_wide schema (statements.Delete head literals) within = let names = variables (statements.Delete head literals) in (atoms_wide schema names literals within.literals, absents_wide schema names literals within.literals)
normal_wide schema (statements.Replace gone come literals) within = let names = variables (statements.Replace gone come literals) in (atoms_wide schema names literals within.literals, absents_wide schema names literals within.literals)
normal_wide schema (statements.Require some literals) within = let names = variables (statements.Require some literals) in (atoms_wide schema names literals within.literals, absents_wide schema names literals within.literals)
normal_wide schema (statements.Print terms literals) within = let names = variables (statements.Print terms literals) in (atoms_wide schema names literals within.literals, absents_wide schema names literals within.literals)

-- so has one that was found good
pub good_wide : (schema : Schema) (given form : Statement) (stmt : Stmt) → given ≡ form → IsStatementWithin form → stmt ≡ normal schema given → HasWidths (body_of stmt)
good_wide schema given form stmt same within is =
    subst (λ (s : Stmt). HasWidths (body_of s)) (sym (is ∙ ap (normal schema) same)) (normal_wide schema form within)
