-- What every relation of a database keeps.
use Rattle.std.proofs.Common.{◌≡◌, ℕ, zero, suc, ◌+◌, ◌<◌, ◌≤◌, List, [], ◌∷◌, length, map, take, get_or, add-one, subst, arith}
use Rattle.std.specs.List.{AllByRecursion}
use Rattle.lt_face.specs.Rows.{IsRowSet}
use Rattle.lt_face.specs.State.{Relation}
use Rattle.lt_face.specs.State.{Relation}
use Rattle.lt_model.specs.State.{IsState}
use Rattle.lt_base.specs.Tables.{Table, IsTable, state_of}

pub tables_more : {X : Type 0} (f : X → Table) (xs : List X) (i : ℕ) (x : X) → i < length xs → x ≡ get_or xs i x → IsTable (f x) → AllByRecursion IsTable (map f (take i xs)) → AllByRecursion IsTable (map f (take (i + 1) xs))
tables_more f [] i x lt is here all = absurd (omega arith)
tables_more f (y ∷ xs) zero x lt is here all = (subst (λ z. IsTable (f z)) is here, tt)
tables_more f (y ∷ xs) (suc i) x lt is here all = rw add-one (all.0, (let more = tables_more f xs i x (omega arith) is here all.1 in rw add-one at more))

pub state_known : (tables : List Table) → AllByRecursion IsTable tables → IsState (state_of tables)
state_known [] all = tt
state_known (t ∷ tables) all = (all.0.is_set, state_known tables all.1)

pub widths_known : (tables : List Table) → AllByRecursion IsTable tables → AllByRecursion (λ (relation : Relation). (1 ≤ relation.width) × (relation.width ≤ 8)) (state_of tables)
widths_known [] all = tt
widths_known (t ∷ tables) all = ((all.0.some, all.0.few), widths_known tables all.1)

-- a relation whose rows were looked at
pub table_seen : (t d : Table) (seen : Relation) (w : ℕ) → d ≡ t → seen.width ≡ d.width → seen.rows ≡ d.rows → 1 ≤ d.width → w ≡ seen.width → w ≤ 8 → IsRowSet seen.width seen.rows → IsTable t
table_seen t d seen w is width rows some value few set =
    subst IsTable is (record {
      is_set = subst (λ n. IsRowSet n d.rows) width (subst (IsRowSet seen.width) rows set);
      some = some;
      few = omega (arith, width, value, few);
    })
