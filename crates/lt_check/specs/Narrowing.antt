-- What is known of the kinds of a statement's variables, and what a condition on kinds adds to it.
use Rattle.std.specs.Prelude.{◌≡◌, ◌≢◌, ℕ, ◌+◌, ◌<◌, Bool, true, false, ◌&&◌, List, [], ◌∷◌, map, length, Option, Some, None, unwrap_or, slice_index_or}
use Rattle.std.specs.List.{list_all}
use Rattle.lt_model.specs.declared.kind.Kind.{Kind}
use Rattle.lt_model.specs.declared.kind.Kind.TheVariants.{Int}
use Rattle.lt_model.specs.declared.syntax.Term.{Term}
use Rattle.lt_model.specs.declared.syntax.Term.TheVariants.{Name, Cell}
use Rattle.lt_model.specs.declared.syntax.Head.{Head}
use Rattle.lt_model.specs.declared.syntax.Literal.{Literal}
use Rattle.lt_model.specs.Schema.{Schema}
use Rattle.lt_model.specs.Variables.{place_of}
use Rattle.lt_model.specs.Check.{Choice, kind_of, atom_fits, literal_fits}
use Rattle.lt_check.specs.declared.kinds.Told.{Told}
use Rattle.lt_check.specs.declared.kinds.Told.TheVariants.{Nothing, More, Conflict}

-- for each variable its kind, where that is known
abbrev pub Known : Type 0
Known = List (Option Kind)

-- what is known of a variable. A number past the last is no variable's, and counts as an int
abbrev pub known_at : Known → ℕ → Option Kind
known_at known v = slice_index_or known v (Some Int)

-- what is known of a term
abbrev pub known_of : List (List ℕ) → Known → Term → Option Kind
known_of names known (Name name) = known_at known (place_of names name)
known_of names known (Cell kind cell) = Some kind

abbrev pub Suits : Option Kind → Kind → Type 0
Suits None kind = Unit {0}
Suits (Some known) kind = known ≡ kind

-- a choice that has the kinds that are known
abbrev pub Admits : Known → Choice → Type 0
Admits known choice = (v : ℕ) → Suits (known_at known v) (slice_index_or choice v Int)

-- the choice that takes Int where nothing is known
abbrev pub completed : Known → Choice
completed known = map (λ kind. unwrap_or kind Int) known

-- how many variables have no known kind
abbrev pub unknowns : Known → ℕ
unknowns [] = 0
unknowns (None ∷ known) = 1 + unknowns known
unknowns (Some kind ∷ known) = unknowns known

-- Looking at a condition on choices has led from what was known to what is known. No choice that meets the condition is
-- lost, so a conflict says that there is none. Where nothing was learned, the completed choice meets the condition.
pub record Narrows (meets : Choice → Bool) (was : Known) (told : Told) (is : Known) : Type 0 where
  pub keeps : (choice : Choice) → Admits was choice → meets choice ≡ true → (told ≢ Conflict) × Admits is choice
  pub nothing : told ≡ Nothing → (is ≡ was) × (meets (completed is) ≡ true)
  pub long : length is ≡ length was
  pub more : told ≡ More → unknowns is < unknowns was

-- what a look at two kinds told
abbrev pub agreement : Bool → Told
agreement true = Nothing
agreement false = Conflict

-- what two looks told
abbrev pub joined : Told → Told → Told
joined Nothing b = b
joined Conflict b = Conflict
joined More Nothing = More
joined More More = More
joined More Conflict = Conflict

-- every argument has its column's kind, and every literal fits
abbrev pub all_fit : Schema → List (List ℕ) → List Head → List Literal → Choice → Bool
all_fit schema names atoms body choice = list_all (atom_fits schema (kind_of names choice)) atoms && list_all (literal_fits (kind_of names choice)) body

-- so many kinds that meet the condition, or none where no so many do
abbrev pub Settles : (Choice → Bool) → ℕ → Option Known → Type 0
Settles meets count (Some known) = (length known ≡ count) × (meets (completed known) ≡ true)
Settles meets count None = (choice : Choice) → length choice ≡ count → meets choice ≡ false
