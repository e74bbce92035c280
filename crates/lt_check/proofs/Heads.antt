-- From the heads of a statement to what it has before its body.
use Rattle.std.proofs.Common.{◌≡◌, ℕ, ◌≤◌, true, ◌&&◌, List, [], ◌∷◌, length, sym, ap, subst, ◌∙◌}
use Rattle.std.specs.Prelude.{flat_map}
use Rattle.std.specs.List.{list_all}
use Rattle.std.proofs.lemmas.List.{append-nil}
use Rattle.std.proofs.lemmas.List.Concat.{flat_map-cons}
use Rattle.lt_face.specs.Limits.{most_variables}
use Rattle.lt_model.specs.declared.syntax.Term.{Term}
use Rattle.lt_model.specs.declared.syntax.Head.{Head}
use Rattle.lt_model.specs.declared.syntax.Literal.{Literal}
use Rattle.lt_model.specs.declared.syntax.Statement.{Statement}
use Rattle.lt_model.specs.declared.syntax.Statement.TheVariants as statements
use Rattle.lt_model.specs.declared.normal.Atom as normal_atom
use Rattle.lt_model.specs.Schema.{Schema, keys_of}
use Rattle.lt_model.specs.Variables.{heads_of, front_terms}
use Rattle.lt_model.specs.Check.{kind_of, atom_fits, atom}
use Rattle.lt_check.specs.Taking.{IsWhole, Condition, Takes, front_of}
use Rattle.lt_check.specs.declared.notes.Notes.{Notes}
use Rattle.lt_check.specs.declared.taken.Front.{Front}
use Rattle.lt_check.specs.declared.taken.Front.TheVariants as fronts
use Rattle.lt_check.proofs.Fronts.{front_itself, IsWhole_before}
use Rattle.lt_check.proofs.Looks.{Takes_as, Takes_both, stays}
use Rattle.lt_check.proofs.Narrowing.{and_true}
use Rattle.lt_check.proofs.Steps.{terms_of_two}

-- the heads fit
abbrev pub heads_fit : Schema → Statement → Condition
heads_fit schema s whole choice = list_all (atom_fits schema (kind_of whole choice)) (heads_of s)

abbrev pub head_fits : Schema → Head → Condition
head_fits schema head whole choice = atom_fits schema (kind_of whole choice) head

-- one head, which is all that there is
one_head : (schema : Schema) (head : Head) (was is : Notes) → Takes head.terms (head_fits schema head) was is → Takes (flat_map (λ (h : Head). h.terms) (head ∷ [])) (λ whole choice. list_all (atom_fits schema (kind_of whole choice)) (head ∷ [])) was is
one_head schema head was is t =
    let terms : flat_map (λ (h : Head). h.terms) (head ∷ []) ≡ head.terms = flat_map-cons (λ (h : Head). h.terms) head [] ∙ append-nil head.terms in
    Takes_as (flat_map (λ (h : Head). h.terms) (head ∷ [])) (head_fits schema head) (λ whole choice. list_all (atom_fits schema (kind_of whole choice)) (head ∷ [])) was is
    (λ whole choice w a. sym (and_true (atom_fits schema (kind_of whole choice) head)))
    (subst (λ ts. Takes ts (head_fits schema head) was is) (sym terms) t)

-- a statement that is this one
Takes_heads : (schema : Schema) (s t : Statement) (was is : Notes) → s ≡ t → Takes (front_terms t) (heads_fit schema t) was is → Takes (front_terms s) (heads_fit schema s) was is
Takes_heads schema s t was is e taken = subst (λ u. Takes (front_terms u) (heads_fit schema u) was is) (sym e) taken

pub Takes_insert : (schema : Schema) (s : Statement) (head : Head) (body : List Literal) (was is : Notes) → s ≡ statements.Insert head body → Takes head.terms (head_fits schema head) was is → Takes (front_terms s) (heads_fit schema s) was is
Takes_insert schema s head body was is e t = Takes_heads schema s (statements.Insert head body) was is e (one_head schema head was is t)

pub Takes_delete : (schema : Schema) (s : Statement) (head : Head) (body : List Literal) (was is : Notes) → s ≡ statements.Delete head body → Takes head.terms (head_fits schema head) was is → Takes (front_terms s) (heads_fit schema s) was is
Takes_delete schema s head body was is e t = Takes_heads schema s (statements.Delete head body) was is e (one_head schema head was is t)

pub Takes_replace : (schema : Schema) (s : Statement) (gone come : Head) (body : List Literal) (was between is : Notes) → s ≡ statements.Replace gone come body → Takes gone.terms (head_fits schema gone) was between → Takes come.terms (head_fits schema come) between is → Takes (front_terms s) (heads_fit schema s) was is
Takes_replace schema s gone come body was between is e m n =
    let t = statements.Replace gone come body in
    Takes_heads schema s t was is e
    (Takes_both gone.terms come.terms (front_terms t) (head_fits schema gone) (head_fits schema come) (heads_fit schema t) was between is (terms_of_two gone come body)
    (λ whole choice w. ap (λ b. atom_fits schema (kind_of whole choice) gone && b) (and_true (atom_fits schema (kind_of whole choice) come)))
    m n)

pub Takes_print : (schema : Schema) (s : Statement) (terms listed : List Term) (body : List Literal) (was is : Notes) → s ≡ statements.Print terms body → listed ≡ terms → Takes listed (λ whole choice. true) was is → Takes (front_terms s) (heads_fit schema s) was is
Takes_print schema s terms listed body was is e f t = Takes_heads schema s (statements.Print terms body) was is e (subst (λ ts. Takes ts (λ whole choice. true) was is) f t)

-- ---- the front

pub front_replace : (schema : Schema) (s : Statement) (gone come : Head) (body : List Literal) (x y : normal_atom.Atom) (keys : ℕ) (between is : Notes) → s ≡ statements.Replace gone come body → ((whole : List (List ℕ)) → IsWhole between.names whole → x ≡ atom schema whole gone) → Takes come.terms (head_fits schema come) between is → ((whole : List (List ℕ)) → IsWhole is.names whole → y ≡ atom schema whole come) → keys ≡ keys_of schema come.relation → (whole : List (List ℕ)) → IsWhole is.names whole → fronts.Replace x y keys ≡ front_of schema whole s
front_replace schema s gone come body x y keys between is e f t g k whole w =
    ap (λ a. fronts.Replace a y keys) (stays x (λ ns. atom schema ns gone) between is come.terms (head_fits schema come) f t whole w)
    ∙ ap (λ a. fronts.Replace (atom schema whole gone) a keys) (g whole w)
    ∙ ap (fronts.Replace (atom schema whole gone) (atom schema whole come)) k
    ∙ ap (front_of schema whole) (sym e)

-- with the numbers of all variables
pub front_of_all : (schema : Schema) (s : Statement) (front : Front) (terms : List Term) (meets : Condition) (between is : Notes) (names : List (List ℕ)) → names ≡ is.names → length is.names ≤ most_variables → ((whole : List (List ℕ)) → IsWhole between.names whole → front ≡ front_of schema whole s) → Takes terms meets between is → front ≡ front_of schema names s
front_of_all schema s front terms meets between is names e few f t =
    let all : IsWhole is.names is.names = record { front = front_itself is.names; few = few } in
    f is.names (IsWhole_before between.names is.names is.names terms t.names all) ∙ ap (λ ns. front_of schema ns s) (sym e)
