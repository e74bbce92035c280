-- The columns of relations, in a schema and in the states that have its relations.
use Rattle.std.proofs.Common.{◌≡◌, ℕ, zero, suc, ◌<◌, List, [], ◌∷◌, ◌++◌, length, get_or, map, Some, None, refl, sym, ap, ◌∙◌, ◌≤◌, subst}
use Rattle.std.specs.Prelude.{Option, unwrap_or, option_map, option_and_then, slice_get, slice_index_or, IfSome}
use Rattle.std.specs.Borrow.{Bor}
use Rattle.std.specs.List.{AllByRecursion}
use Rattle.std.specs.Option.{option_copied}
use Rattle.std.specs.Str.{bytes_eq}
use Rattle.std.proofs.lemmas.List.{map-append}
use Rattle.std.proofs.lemmas.List.Quantifiers.{position-Some}
use Rattle.std.proofs.lemmas.Option.{slice_get-get_or}
use Rattle.lt_face.specs.State.{Row, Relation, State, rows_in, rows_of}
use Rattle.lt_face.proofs.RowLemmas.{each_at, each_weaker}
use Rattle.lt_model.specs.declared.kind.Kind.{Kind}
use Rattle.lt_model.specs.Schema.{Schema, number_of, columns_of}
use Rattle.lt_model.specs.Report.{World, at_version}
use Rattle.lt_model.specs.Marks.{Marks, change, lay, laid, write}
use Rattle.lt_check.specs.States.{IsStateOf}
use Rattle.lt_report.specs.Texts.{held}
use Rattle.lt_world.specs.Versions.{IsFront}

abbrev Heading : Type 0
Heading = List ℕ × List Kind × ℕ

-- ---- the columns of a relation that is there

found_heading : (schema : Schema) (name : List ℕ) (n : ℕ) → number_of schema name ≡ Some n → n < length schema
found_heading schema name n e = (position-Some (λ heading. bytes_eq heading.0 name) schema n ([], [], 0) e).0

columns_found : (schema : Schema) (name : List ℕ) (n : ℕ) → number_of schema name ≡ Some n → columns_of schema name ≡ (get_or schema n ([], [], 0)).1
columns_found schema name n found =
    ap (λ o. unwrap_or (option_map (λ heading. heading.1) (option_and_then (slice_get schema) o)) []) found
    ∙ ap (λ o. unwrap_or (option_map (λ heading. heading.1) o) []) (slice_get-get_or schema n ([], [], 0) (found_heading schema name n found))

pub some_columns : (schema : Schema) (name : List ℕ) (n : ℕ) → AllByRecursion (λ (heading : Heading). 1 ≤ length heading.1) schema → number_of schema name ≡ Some n → 1 ≤ length (columns_of schema name)
some_columns schema name n some found =
    subst (λ (ks : List Kind). 1 ≤ length ks) (sym (columns_found schema name n found))
    (each_at (λ (heading : Heading). 1 ≤ length heading.1) schema n ([], [], 0) some (found_heading schema name n found))

-- ---- the relations of a state in front of a schema

pub IsFront-now : (schema : Schema) (state : State) → IsStateOf schema state → IsFront schema state
IsFront-now schema [] h = tt
IsFront-now [] (r ∷ state) h = absurd cc
IsFront-now (heading ∷ schema) (r ∷ state) h =
    let first : r.width ≡ length heading.1 = cc in
    let rest : IsStateOf schema state = cc in
    (first, IsFront-now schema state rest)

IsFront-push : (schema : Schema) (heading : Heading) (state : State) → IsFront schema state → IsFront (schema ++ heading ∷ []) state
IsFront-push schema heading [] h = tt
IsFront-push [] heading (r ∷ state) h = absurd h
IsFront-push (k ∷ schema) heading (r ∷ state) h = (h.0, IsFront-push schema heading state h.1)

pub fronts-push : (schema : Schema) (heading : Heading) (states : List State) → AllByRecursion (IsFront schema) states → AllByRecursion (IsFront (schema ++ heading ∷ [])) states
fronts-push schema heading states h = each_weaker (IsFront schema) (IsFront (schema ++ heading ∷ [])) (IsFront-push schema heading) states h

front_at : (schema : Schema) (states : List State) (i : ℕ) → AllByRecursion (IsFront schema) states → IsFront schema (slice_index_or states i [])
front_at schema [] i h = tt
front_at schema (s ∷ states) zero h = h.0
front_at schema (s ∷ states) (suc i) h = front_at schema states i h.1

-- those of the state now, or at a version
pub front_then : (m : World) (at : Option ℕ) → IsStateOf m.schema m.state → AllByRecursion (IsFront m.schema) m.versions → IsFront m.schema (at_version m at)
front_then m None widths older = IsFront-now m.schema m.state widths
front_then m (Some v) widths older = front_at m.schema ([] ∷ m.versions) v (tt, older)

front_width : (schema : Schema) (state : State) (n : ℕ) (r : Relation) → IsFront schema state → Some r ≡ slice_get state n → r.width ≡ length (get_or schema n ([], [], 0)).1
front_width schema [] n r h e = absurd cc
front_width [] (x ∷ state) n r h e = absurd h
front_width (heading ∷ schema) (x ∷ state) zero r h e = let same : r ≡ x = cc in ap (λ (y : Relation). y.width) same ∙ h.0
front_width (heading ∷ schema) (x ∷ state) (suc n) r h e = front_width schema state n r h.1 e

-- ---- a set of rows read from a database

-- it is as wide as its relation has columns
pub set_wide : (rows : Option (Bor Relation)) (schema : Schema) (state : State) (name : List ℕ) (n : ℕ) → number_of schema name ≡ Some n → IsFront schema state → option_copied rows ≡ slice_get state n
    → IfSome rows (λ set. set.now.width ≡ length (columns_of schema name))
set_wide None schema state name n found front e = tt
set_wide (Some set) schema state name n found front e =
    front_width schema state n set.now front e ∙ ap (λ (ks : List Kind). length ks) (sym (columns_found schema name n found))

pub set_held : (rows : Option (Bor Relation)) (state : State) (n : ℕ) → option_copied rows ≡ slice_get state n → held (λ (set : Relation). set.rows) rows ≡ rows_in state n
set_held None state n e = ap rows_of e
set_held (Some set) state n e = ap rows_of e

-- ---- one relation more

pub AllByRecursion-push : {X : Type 0} (P : X → Type 0) (xs : List X) (x : X) → AllByRecursion P xs → P x → AllByRecursion P (xs ++ x ∷ [])
AllByRecursion-push P [] x h p = (p, tt)
AllByRecursion-push P (y ∷ xs) x h p = (h.0, AllByRecursion-push P xs x h.1 p)

pub IsStateOf-push : (schema : Schema) (state : State) (heading : Heading) (relation : Relation) → IsStateOf schema state → relation.width ≡ length heading.1 → IsStateOf (schema ++ heading ∷ []) (state ++ relation ∷ [])
IsStateOf-push schema state heading relation h e =
    map-append (λ (r : Relation). r.width) state (relation ∷ [])
    ∙ ap (λ (ws : List ℕ). ws ++ relation.width ∷ []) h ∙ ap (λ w. map (λ (k : Heading). length k.1) schema ++ w ∷ []) e
    ∙ sym (map-append (λ (k : Heading). length k.1) schema (heading ∷ []))

-- ---- marks laid

widths-change : (n : ℕ) (f : List Row → List Row) (state : State) → map (λ (r : Relation). r.width) (change n f state) ≡ map (λ (r : Relation). r.width) state
widths-change n f [] = refl
widths-change zero f (r ∷ state) = refl
widths-change (suc n) f (r ∷ state) = ap (λ (ws : List ℕ). r.width ∷ ws) (widths-change n f state)

pub widths-laid : (state : State) (marks : Marks) → map (λ (r : Relation). r.width) (laid state marks) ≡ map (λ (r : Relation). r.width) state
widths-laid state [] = refl
widths-laid state (m ∷ marks) = widths-laid (lay state m) marks ∙ widths-change m.relation (write m) state
