-- Steps of the fold over the items, where they have no code, and where a version isn't there.
use Rattle.std.proofs.Common.{◌≡◌, ℕ, Bool, ◌<◌, List, [], ◌∷◌, ◌++◌, length, Some, None, refl, ap, ◌∙◌, arith, true, false}
use Rattle.std.specs.Prelude.{nat_le, nat_lt, unwrap_or, Option, IsSome}
use Rattle.std.proofs.lemmas.Bool.Decides.{nat_tests}
use Rattle.lt_face.specs.State.{rows_in}
use Rattle.lt_model.specs.declared.kind.Kind.{Kind}
use Rattle.lt_model.specs.Schema.{number_of, columns_of}
use Rattle.lt_model.specs.declared.syntax.Item.TheVariants.{Relation, Show}
use Rattle.lt_model.specs.Report.{World, says, at_version, with_relation, shown, show_text, bad_text}
use Rattle.lt_world.specs.World.{said, unwritten}

pub not_found : {A : Type 0} (o : Option A) → (IsSome o → ⊥) → o ≡ None
not_found None h = refl
not_found (Some x) h = absurd (h refl)

-- a new name, and room for it
pub declares : (m : World) (name : List ℕ) (kinds : List Kind) (keys : ℕ) → number_of m.schema name ≡ None → length m.schema < 64
    → with_relation m name kinds keys (number_of m.schema name) ≡ record m { schema = m.schema ++ (name, kinds, keys) ∷ []; state = m.state ++ record { width = length kinds; rows = [] } ∷ [] }
declares m name kinds keys none room =
    let few : nat_le 64 (length m.schema) ≡ false = grind (arith, nat_tests, room) in
    ap (λ o. with_relation m name kinds keys o) none ∙ rw few refl

-- a relation that is there, now or at a version that is there
pub shows : (m : World) (name : List ℕ) (n : ℕ) (at : Option ℕ) → number_of m.schema name ≡ Some n → nat_lt (length m.versions) (unwrap_or at 0) ≡ false
    → shown m name at (number_of m.schema name) ≡ says m (show_text name at (columns_of m.schema name) (rows_in (at_version m at) n))
shows m name n at e made = ap (λ o. shown m name at o) e ∙ rw made refl

-- at a version that isn't there
pub shows_none : (m : World) (name : List ℕ) (n : ℕ) (at : Option ℕ) → number_of m.schema name ≡ Some n → nat_lt (length m.versions) (unwrap_or at 0) ≡ true
    → shown m name at (number_of m.schema name) ≡ says m (bad_text 26)
shows_none m name n at e later = ap (λ o. shown m name at o) e ∙ rw later refl

-- a name that is there, or no room for it
taken_with : (m : World) (name : List ℕ) (kinds : List Kind) (keys : ℕ) (o : Option ℕ) → IsSome o → with_relation m name kinds keys o ≡ says m (bad_text 24)
taken_with m name kinds keys None h = absurd cc
taken_with m name kinds keys (Some n) h = refl

pub taken : (m : World) (name : List ℕ) (kinds : List Kind) (keys : ℕ) → IsSome (number_of m.schema name) → with_relation m name kinds keys (number_of m.schema name) ≡ says m (bad_text 24)
taken m name kinds keys h = taken_with m name kinds keys (number_of m.schema name) h

pub full : (m : World) (name : List ℕ) (kinds : List Kind) (keys : ℕ) → number_of m.schema name ≡ None → length m.schema ≡ 64 → with_relation m name kinds keys (number_of m.schema name) ≡ says m (bad_text 25)
full m name kinds keys none room =
    let many : nat_le 64 (length m.schema) ≡ true = grind (arith, nat_tests, room) in
    ap (λ o. with_relation m name kinds keys o) none ∙ rw many refl

-- ---- what is written of them

pub taken_said : (marks : Bool) (m : World) (name : List ℕ) (kinds : List Kind) (keys : ℕ) → IsSome (number_of m.schema name) → said marks m (Relation name kinds keys) ≡ bad_text 24
taken_said marks m name kinds keys h = ap (λ (v : World). v.text) (taken (unwritten m) name kinds keys h)

pub full_said : (marks : Bool) (m : World) (name : List ℕ) (kinds : List Kind) (keys : ℕ) → number_of m.schema name ≡ None → length m.schema ≡ 64 → said marks m (Relation name kinds keys) ≡ bad_text 25
full_said marks m name kinds keys none room = ap (λ (v : World). v.text) (full (unwritten m) name kinds keys none room)

pub declared_said : (marks : Bool) (m : World) (name : List ℕ) (kinds : List Kind) (keys : ℕ) → number_of m.schema name ≡ None → length m.schema < 64 → said marks m (Relation name kinds keys) ≡ []
declared_said marks m name kinds keys none room = ap (λ (v : World). v.text) (declares (unwritten m) name kinds keys none room)

pub unknown_said : (marks : Bool) (m : World) (name : List ℕ) (at : Option ℕ) → number_of m.schema name ≡ None → said marks m (Show name at) ≡ bad_text 20
unknown_said marks m name at none = ap (λ (o : Option ℕ). (shown (unwritten m) name at o).text) none

pub later_said : (marks : Bool) (m : World) (name : List ℕ) (n : ℕ) (at : Option ℕ) → number_of m.schema name ≡ Some n → nat_lt (length m.versions) (unwrap_or at 0) ≡ true → said marks m (Show name at) ≡ bad_text 26
later_said marks m name n at e later = ap (λ (v : World). v.text) (shows_none (unwritten m) name n at e later)
