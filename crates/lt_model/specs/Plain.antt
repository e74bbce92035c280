-- Plain scripts: relations of ints, batches of programs that insert numbers, and what is there.
use Rattle.std.specs.Prelude.{◌≡◌, false, ℕ, ◌<◌, ◌≤◌, List, [], ◌∷◌, length, Some, None, IsSome, IsNone, unwrap_or}
use Rattle.std.specs.List.{AllByRecursion}
use Rattle.lt_face.specs.Limits.{most_relations}
use Rattle.lt_model.specs.declared.kind.Kind.TheVariants.{Int}
use Rattle.lt_model.specs.declared.syntax.Term.{Term}
use Rattle.lt_model.specs.declared.syntax.Term.TheVariants.{Name, Cell}
use Rattle.lt_model.specs.declared.syntax.Statement.{Statement}
use Rattle.lt_model.specs.declared.syntax.Statement.TheVariants.{Insert}
use Rattle.lt_model.specs.declared.syntax.Program.{Program}
use Rattle.lt_model.specs.declared.syntax.Item.{Item}
use Rattle.lt_model.specs.declared.syntax.Item.TheVariants.{Relation, Batch, Show}
use Rattle.lt_model.specs.Schema.{number_of}
use Rattle.lt_model.specs.Check.{Checked, Good, Bad, checked}
use Rattle.lt_model.specs.Script.{Script, End}
use Rattle.lt_model.specs.Report.{World, opening, step}

abbrev pub IsPlainTerm : Term → Type 0
IsPlainTerm (Name name) = ⊥
IsPlainTerm (Cell kind cell) = kind ≡ Int

-- an insert of numbers
abbrev pub IsPlainStatement : Statement → Type 0
IsPlainStatement (Insert head []) = AllByRecursion IsPlainTerm head.terms
IsPlainStatement s = ⊥

abbrev pub IsPlain : Item → Type 0
IsPlain (Relation name kinds keys) = AllByRecursion (λ kind. kind ≡ Int) kinds × (keys ≡ length kinds)
IsPlain (Batch programs) = AllByRecursion (λ (p : Program). AllByRecursion IsPlainStatement p.statements) programs
IsPlain (Show name None) = Unit {0}
IsPlain (Show name (Some version)) = ⊥

abbrev pub IsGood : Checked → Type 0
IsGood (Good program) = Unit {0}
IsGood (Bad code j) = ⊥

-- the item has no code, and no program of it has one
abbrev pub IsAccepted : World → Item → Type 0
IsAccepted w (Relation name kinds keys) = IsNone (number_of w.schema name) × (length w.schema < most_relations)
IsAccepted w (Batch programs) = AllByRecursion (λ (p : Program). IsGood (checked p w.schema)) programs
IsAccepted w (Show name version) = IsSome (number_of w.schema name) × (unwrap_or version 0 ≤ length w.versions)

-- the same of each item, after those before it
abbrev pub AreAccepted : World → List Item → Type 0
AreAccepted w [] = Unit {0}
AreAccepted w (item ∷ items) = IsAccepted w item × AreAccepted (step false w item) items

-- the bytes are a plain script without a fault and without a code, and these are its items
pub record IsPlainScript (bytes : List ℕ) (items : List Item) : Type 0 where
  pub read : Script bytes items End
  pub plain : AllByRecursion IsPlain items
  pub accepted : AreAccepted opening items
