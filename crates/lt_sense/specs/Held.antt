-- How many ranges lists have, and which lists there are.
use Rattle.std.specs.Prelude.{◌≡◌, ◌≢◌, ◌≤◌, ◌+◌, ℕ, zero, suc, nat_lt, ◌==◌, if◌then◌else◌, List, [], ◌∷◌, ◌++◌, ◌⊎◌, length, map}
use Rattle.std.specs.List.{AllByRecursion}
use Rattle.lt_face.specs.Lists.{IsIn, AnyByRecursion, AreInOrder}
use Rattle.lt_face.specs.declared.key.Gap.{Gap}
use Rattle.lt_sense.specs.declared.covering.KeptGap.{KeptGap}
use Rattle.lt_sense.specs.declared.covering.Hit.{Hit}
use Rattle.lt_sense.specs.declared.spans.Spans.{Spans}
use Rattle.lt_sense.specs.Kept.{Sense}

-- how many of them aren't empty
abbrev pub open_count : List Gap → ℕ
open_count [] = 0
open_count (gap ∷ gaps) = (if nat_lt gap.lo gap.hi then 1 else 0) + open_count gaps

-- how many ranges an index has, those that grow too
abbrev pub held : Spans → ℕ
held s = length s.ranges.items + (open_count s.above.items + (if nat_lt s.lo s.hi then 1 else 0))

abbrev pub held_in : List Spans → ℕ
held_in [] = 0
held_in (s ∷ lists) = held s + held_in lists

-- ---- which lists there are

-- a relation with its columns in an order
abbrev pub Index : Type 0
Index = ℕ × List ℕ

abbrev pub index_of : Spans → Index
index_of s = (s.relation, s.columns)

abbrev pub indexes : List Spans → List Index
indexes lists = map index_of lists

abbrev pub AreDistinct : List Index → Type 0
AreDistinct all = AreInOrder (λ a b. a ≢ b) all

-- they are the same, or this one came, which wasn't among them
abbrev pub MoreIndexes : List Index → List Index → Index → Type 0
MoreIndexes old new index = (new ≡ old) ⊎ ((new ≡ old ++ index ∷ []) × AllByRecursion (λ i. i ≢ index) old)

-- they stay distinct, and each is one of the old ones or of those that came
pub record AreMoreIndexes (old new more : List Index) : Type 0 where
  pub distinct : AreDistinct old → AreDistinct new
  pub from : AllByRecursion (λ i. IsIn i old ⊎ IsIn i more) new

-- the columns of a row of this width, one after another
abbrev pub first_columns : ℕ → List ℕ
first_columns zero = []
first_columns (suc n) = first_columns n ++ n ∷ []

-- the index is that of a gap, or was made for a row that was met
abbrev pub IsFrom : Sense → Index → Type 0
IsFrom sense index =
    AnyByRecursion (λ (gap : KeptGap). (gap.relation, gap.columns) ≡ index) sense.gaps ⊎ AnyByRecursion (λ (hit : Hit). (hit.relation, first_columns (length hit.row)) ≡ index) sense.hits

-- how many of them are of the relation
abbrev pub indexes_of : ℕ → List Index → ℕ
indexes_of relation [] = 0
indexes_of relation (index ∷ all) = (if index.0 == relation then 1 else 0) + indexes_of relation all

-- no more ranges than gaps and hits, and no list that neither asked for
pub record IsCounted (sense : Sense) (lists : List Spans) : Type 0 where
  pub few : held_in lists ≤ length sense.gaps + length sense.hits
  pub distinct : AreDistinct (indexes lists)
  pub from : AllByRecursion (IsFrom sense) (indexes lists)
