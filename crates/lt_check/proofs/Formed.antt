-- A statement whose kinds fit has relations that are there, and rows of the right length.
use Rattle.std.proofs.Common.{◌≡◌, ℕ, suc, ◌==◌, true, false, not, ◌||◌, List, [], ◌∷◌, map, length, Option, Some, None, refl, sym, ap, ◌∙◌, arith}
use Rattle.std.specs.Prelude.{filter_map, is_none}
use Rattle.std.specs.List.{AllByRecursion, list_all, list_any}
use Rattle.std.proofs.lemmas.Bool.{eq-eqb}
use Rattle.std.proofs.lemmas.List.{length-map}
use Rattle.lt_model.specs.declared.kind.Kind.{Kind}
use Rattle.lt_model.specs.declared.syntax.Term.{Term}
use Rattle.lt_model.specs.declared.syntax.Head.{Head}
use Rattle.lt_model.specs.declared.syntax.Literal.{Literal}
use Rattle.lt_model.specs.declared.syntax.Literal.TheVariants as literals
use Rattle.lt_model.specs.declared.syntax.Statement.{Statement}
use Rattle.lt_model.specs.Schema.{Schema, number_of, columns_of}
use Rattle.lt_model.specs.Variables.{named_of, heads_of, atoms_of, body_of, variables}
use Rattle.lt_model.specs.Limits.{AreTermsWithin, IsLiteralWithin, IsStatementWithin}
use Rattle.lt_model.specs.Check.{Choice, kind_of, same_kind, same_kinds, atom_fits, literal_fits, choice_fits, is_unknown, is_misfit}
use Rattle.lt_check.specs.Narrowing.{completed, Settles}
use Rattle.lt_check.specs.Taking.{IsTaken, IsFormed}
use Rattle.lt_check.specs.declared.notes.Notes.{Notes}
use Rattle.lt_check.proofs.Bodies.{taken_some}
use Rattle.lt_check.proofs.Limits.{All_both}
use Rattle.lt_check.proofs.Narrowing.{both}

same_kinds_long : (as_ bs : List Kind) → same_kinds as_ bs ≡ true → length as_ ≡ length bs
same_kinds_long [] [] h = refl
same_kinds_long [] (b ∷ bs) h = absurd cc
same_kinds_long (a ∷ as_) [] h = absurd cc
same_kinds_long (a ∷ as_) (b ∷ bs) h = ap suc (same_kinds_long as_ bs (both (same_kind a b) (same_kinds as_ bs) h).1)

-- the atoms of a body have terms
body_terms : (body : List Literal) → AllByRecursion IsLiteralWithin body → AllByRecursion (λ (h : Head). AreTermsWithin h.terms) (filter_map named_of body)
body_terms [] h = tt
body_terms (literals.Atom head ∷ body) h = (h.0, body_terms body h.1)
body_terms (literals.Absent head ∷ body) h = (h.0, body_terms body h.1)
body_terms (literals.Cmp left op right ∷ body) h = body_terms body h.1
body_terms (literals.Sum var a minus b ∷ body) h = body_terms body h.1

fit_there : (schema : Schema) (head : Head) → AreTermsWithin head.terms → length head.terms ≡ length (columns_of schema head.relation) → is_unknown schema head ≡ false
fit_there schema head w e = by_number (number_of schema head.relation) refl
  where
    by_number : (o : Option ℕ) → number_of schema head.relation ≡ o → is_none o ≡ false
    by_number None f =
        let none : columns_of schema head.relation ≡ [] = rw f refl in
        let some = w.some in
        let long : length (columns_of schema head.relation) ≡ 0 = ap length none in
        absurd (omega (arith, some, e, long))
    by_number (Some n) f = refl

same_length : (n m : ℕ) → n ≡ m → not (n == m) ≡ false
same_length n m e = ap not (eq-eqb n m e)

formed : (schema : Schema) (kind : Term → Kind) (atoms : List Head) → AllByRecursion (λ (h : Head). AreTermsWithin h.terms) atoms → list_all (atom_fits schema kind) atoms ≡ true → (list_any (is_unknown schema) atoms ≡ false) × (list_any (is_misfit schema) atoms ≡ false)
formed schema kind [] w h = (refl, refl)
formed schema kind (head ∷ atoms) w h =
    let p = both (atom_fits schema kind head) (list_all (atom_fits schema kind) atoms) h in
    let long : length head.terms ≡ length (columns_of schema head.relation) = sym (length-map head.terms kind) ∙ same_kinds_long (map kind head.terms) (columns_of schema head.relation) p.0 in
    let rest = formed schema kind atoms w.1 p.1 in
    (ap (λ b. b || list_any (is_unknown schema) atoms) (fit_there schema head w.0 long) ∙ rest.0, ap (λ b. b || list_any (is_misfit schema) atoms) (same_length (length head.terms) (length (columns_of schema head.relation)) long) ∙ rest.1)

-- where some choice fits
pub formed_by : (schema : Schema) (s : Statement) (choice : Choice) → IsStatementWithin s → choice_fits schema s choice ≡ true → IsFormed schema s
formed_by schema s choice w h =
    let kind = kind_of (variables s) choice in
    let p = both (list_all (atom_fits schema kind) (atoms_of s)) (list_all (literal_fits kind) (body_of s)) h in
    let q = formed schema kind (atoms_of s) (All_both (λ (head : Head). AreTermsWithin head.terms) (heads_of s) (filter_map named_of (body_of s)) w.heads (body_terms (body_of s) w.literals)) p.0 in
    record { known = q.0; fit = q.1 }

-- no conflict, and nothing left open
pub looked_well : (schema : Schema) (s : Statement) (notes : Notes) → IsStatementWithin s → IsTaken (choice_fits schema s) notes → notes.conflict ≡ false → notes.open ≡ false → IsFormed schema s
looked_well schema s notes w t g o = formed_by schema s (completed notes.known) w (taken_some (choice_fits schema s) notes t g o).1

pub kinds_well : (schema : Schema) (s : Statement) (notes : Notes) → notes.names ≡ variables s → IsTaken (choice_fits schema s) notes → notes.conflict ≡ false → notes.open ≡ false → Settles (choice_fits schema s) (length (variables s)) (Some notes.known)
kinds_well schema s notes e t g o =
    let found = taken_some (choice_fits schema s) notes t g o in
    (found.0 ∙ ap length e, found.1)
