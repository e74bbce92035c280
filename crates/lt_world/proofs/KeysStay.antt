-- An item leaves one row for a key where there was one.
use Rattle.std.proofs.Common.{◌≡◌, ℕ, zero, suc, Bool, true, false, List, [], ◌∷◌, ◌++◌, length, map, Option, Some, None, refl, sym, subst, ◌∙◌}
use Rattle.std.specs.Prelude.{if◌then◌else◌, filter_map, fold, nat_le, nat_lt, unwrap_or}
use Rattle.std.specs.List.{AllByRecursion}
use Rattle.lt_face.specs.Limits.{most_relations}
use Rattle.lt_face.specs.Rows.{IsRowSet}
use Rattle.lt_face.specs.State.{Relation, State, rows_in}
use Rattle.lt_face.proofs.RowLemmas.{each_weaker}
use Rattle.lt_model.specs.declared.kind.Kind.{Kind}
use Rattle.lt_model.specs.declared.normal.Stmt.{Stmt}
use Rattle.lt_model.specs.declared.syntax.Item.{Item}
use Rattle.lt_model.specs.declared.syntax.Item.TheVariants.{Relation as Declares, Batch, Show}
use Rattle.lt_model.specs.declared.syntax.Program.{Program}
use Rattle.lt_model.specs.Check.{Checked, Good, Bad, checked}
use Rattle.lt_model.specs.Fits.{Fits}
use Rattle.lt_model.specs.Keyed.{keys_in, HasOneForKey, IsKeyed, InsertsBy}
use Rattle.lt_model.specs.Limits.{IsProgramWithin, IsWithinLimits}
use Rattle.lt_model.specs.Marks.{Marks, laid}
use Rattle.lt_model.specs.Report.{World, Text, opening, says, step, bad_text, good_of, shown, with_batch, with_relation}
use Rattle.lt_model.specs.Run.{run}
use Rattle.lt_model.specs.Schema.{Schema, number_of}
use Rattle.lt_model.specs.Serial.{serial}
use Rattle.lt_model.specs.State.{IsState}
use Rattle.lt_check.specs.States.{IsStateOf, HasKeyColumns, HaveKeyColumns}
use Rattle.lt_check.proofs.Fitting.{good_fits, good_inserts}
use Rattle.lt_delta.proofs.Kept.{IsState-laid}
use Rattle.lt_program.specs.Keyed.{SerialStaysKeyed}
use Rattle.lt_program.proofs.FittingRuns.{run_fits}
use Rattle.lt_batch.proofs.Widths.{as_wide-laid, program_fits}
use Rattle.lt_world.specs.Keyed.{HasOneForEachKey, ScriptsStayKeyed}
use Rattle.lt_world.specs.Versions.{IsFront}
use Rattle.lt_world.proofs.Batches.{widths-serial}
use Rattle.lt_world.proofs.Columns.{AllByRecursion-push, IsFront-now, IsStateOf-push, fronts-push}

abbrev Heading : Type 0
Heading = List ℕ × List Kind × ℕ

-- what holds behind each item
record IsSound (m : World) : Type 0 where
  pub widths : IsStateOf m.schema m.state
  pub columns : HaveKeyColumns m.schema
  pub state : IsState m.state
  pub older : AllByRecursion (IsFront m.schema) m.versions
  pub keyed : HasOneForEachKey m

sound-says : (m : World) (text : Text) → IsSound m → IsSound (says m text)
sound-says m text s = record {
  widths = s.widths;
  columns = s.columns;
  state = s.state;
  older = s.older;
  keyed = record { now = s.keyed.now; versions = s.keyed.versions };
}

-- ---- one relation more

-- the keys of the relations that a state has are as they were
front_keyed : (schema : Schema) (heading : Heading) (state : State) (relation : ℕ) → IsFront schema state → HasOneForKey (keys_in schema relation) (rows_in state relation)
    → HasOneForKey (keys_in (schema ++ heading ∷ []) relation) (rows_in state relation)
front_keyed schema heading [] relation front h = λ a b there. absurd there
front_keyed [] heading (r ∷ state) relation front h = absurd front
front_keyed (k ∷ schema) heading (r ∷ state) zero front h = h
front_keyed (k ∷ schema) heading (r ∷ state) (suc n) front h = front_keyed schema heading state n front.1 h

-- a relation without rows
rows_push : (state : State) (width relation : ℕ) → rows_in (state ++ record { width = width; rows = [] } ∷ []) relation ≡ rows_in state relation
rows_push [] width zero = refl
rows_push [] width (suc n) = refl
rows_push (r ∷ state) width zero = refl
rows_push (r ∷ state) width (suc n) = rows_push state width n

all_keyed : (schema : Schema) (heading : Heading) (states : List State) → AllByRecursion (IsFront schema) states → AllByRecursion (IsKeyed (keys_in schema)) states → AllByRecursion (IsKeyed (keys_in (schema ++ heading ∷ []))) states
all_keyed schema heading [] fronts keyed = tt
all_keyed schema heading (state ∷ states) fronts keyed =
    ((λ relation. front_keyed schema heading state relation fronts.0 (keyed.0 relation)), all_keyed schema heading states fronts.1 keyed.1)

module _ (m : World) (s : IsSound m) (name : List ℕ) (kinds : List Kind) (keys : ℕ) (within : IsWithinLimits (Declares name kinds keys)) where
  sound-declared : IsSound (record m { schema = m.schema ++ (name, kinds, keys) ∷ []; state = m.state ++ record { width = length kinds; rows = [] } ∷ [] })
  sound-declared =
      let heading : Heading = (name, kinds, keys) in
      let keyed : IsKeyed (keys_in (m.schema ++ heading ∷ [])) (m.state ++ record { width = length kinds; rows = [] } ∷ []) =
      λ relation. subst (HasOneForKey (keys_in (m.schema ++ heading ∷ []) relation)) (sym (rows_push m.state (length kinds) relation))
      (front_keyed m.schema heading m.state relation (IsFront-now m.schema m.state s.widths) (s.keyed.now relation)) in
      record {
        widths = IsStateOf-push m.schema m.state heading (record { width = length kinds; rows = [] }) s.widths refl;
        columns = AllByRecursion-push HasKeyColumns m.schema heading s.columns (within.2, within.3);
        state = AllByRecursion-push (λ (r : Relation). IsRowSet r.width r.rows) m.state (record { width = length kinds; rows = [] }) s.state (record { rises = tt; each = tt });
        older = fronts-push m.schema heading m.versions s.older;
        keyed = record { now = keyed; versions = all_keyed m.schema heading m.versions s.older s.keyed.versions };
      }

  sound-relation : (o : Option ℕ) → IsSound (with_relation m name kinds keys o)
  sound-relation (Some relation) = sound-says m (bad_text 24) s
  sound-relation None = elim (nat_le most_relations (length m.schema)) as (λ b. IsSound (if b then says m (bad_text 25) else record m { schema = m.schema ++ (name, kinds, keys) ∷ []; state = m.state ++ record { width = length kinds; rows = [] } ∷ [] })) [
    | true ↦ sound-says m (bad_text 25) s
    | false ↦ sound-declared
  ]

-- ---- a batch

abbrev goods : List (Text × Checked) → List (List Stmt)
goods checks = filter_map (λ (check : Text × Checked). good_of check.1) checks

module _ (P : List Stmt → Type 0) (schema : Schema) (holds : (p : Program) (good : List Stmt) → IsProgramWithin p → checked p schema ≡ Good good → P good) where
  one_good : (p : Program) (c : Checked) (rest : List (Text × Checked)) → IsProgramWithin p → checked p schema ≡ c → AllByRecursion P (goods rest) → AllByRecursion P (goods ((p.name, c) ∷ rest))
  one_good p (Good good) rest within is all = (holds p good within is, all)
  one_good p (Bad code j) rest within is all = all

  each_good : (programs : List Program) → AllByRecursion IsProgramWithin programs → AllByRecursion P (goods (map (λ (p : Program). (p.name, checked p schema)) programs))
  each_good [] within = tt
  each_good (p ∷ programs) within = one_good p (checked p schema) (map (λ (q : Program). (q.name, checked q schema)) programs) within.0 refl (each_good programs within.1)

IsState-serial : (state : State) (programs : List (List Stmt)) → IsState state → AllByRecursion (Fits state) programs → IsState (serial programs state).1
IsState-serial state [] is fits = is
IsState-serial state (program ∷ programs) is fits =
    let marks : Marks = (run program state).1 in
    IsState-serial (laid state marks) programs (IsState-laid state marks is (run_fits state program is fits.0).0)
    (each_weaker (Fits state) (Fits (laid state marks)) (program_fits state (laid state marks) (λ r. sym (as_wide-laid state marks r))) programs fits.1)

module _ (stay : SerialStaysKeyed) where
  sound-batch : (marks : Bool) (m : World) (programs : List Program) → IsSound m → AllByRecursion IsProgramWithin programs → IsSound (with_batch marks m programs)
  sound-batch marks m programs s within =
      let gs : List (List Stmt) = goods (map (λ (p : Program). (p.name, checked p m.schema)) programs) in
      let fits : AllByRecursion (Fits m.state) gs = each_good (Fits m.state) m.schema (λ p good is h. good_fits m.schema m.state p good is s.widths s.columns h) programs within in
      let own : AllByRecursion (AllByRecursion (InsertsBy (keys_in m.schema))) gs = each_good (AllByRecursion (InsertsBy (keys_in m.schema))) m.schema (λ p good is h. good_inserts m.schema p good is h) programs within in
      let keyed : IsKeyed (keys_in m.schema) (serial gs m.state).1 = stay (keys_in m.schema) m.state gs s.state fits own s.keyed.now in
      let widths : IsStateOf m.schema (serial gs m.state).1 = widths-serial gs m.state ∙ s.widths in
      record {
        widths = widths;
        columns = s.columns;
        state = IsState-serial m.state gs s.state fits;
        older = AllByRecursion-push (IsFront m.schema) m.versions (serial gs m.state).1 s.older (IsFront-now m.schema (serial gs m.state).1 widths);
        keyed = record { now = keyed; versions = AllByRecursion-push (IsKeyed (keys_in m.schema)) m.versions (serial gs m.state).1 s.keyed.versions keyed };
      }

  -- ---- items

  sound-either : (m : World) (b : Bool) (t u : Text) → IsSound m → IsSound (if b then says m t else says m u)
  sound-either m true t u s = sound-says m t s
  sound-either m false t u s = sound-says m u s

  sound-shown : (m : World) (name : Text) (at o : Option ℕ) → IsSound m → IsSound (shown m name at o)
  sound-shown m name at None s = sound-says m (bad_text 20) s
  sound-shown m name at (Some n) s = sound-either m (nat_lt (length m.versions) (unwrap_or at 0)) (bad_text 26) _ s

  sound-step : (marks : Bool) (m : World) (item : Item) → IsSound m → IsWithinLimits item → IsSound (step marks m item)
  sound-step marks m (Declares name kinds keys) s within = sound-relation m s name kinds keys within (number_of m.schema name)
  sound-step marks m (Batch programs) s within = sound-batch marks m programs s within.0
  sound-step marks m (Show name at) s within = sound-shown m name at (number_of m.schema name) s

  sound-fold : (marks : Bool) (items : List Item) (m : World) → IsSound m → AllByRecursion IsWithinLimits items → IsSound (fold (step marks) m items)
  sound-fold marks [] m s within = s
  sound-fold marks (item ∷ items) m s within = sound-fold marks items (step marks m item) (sound-step marks m item s within.0) within.1

  pub scripts_stay_keyed : ScriptsStayKeyed
  scripts_stay_keyed marks items within =
      (sound-fold marks items opening (record { widths = refl; columns = tt; state = tt; older = tt; keyed = record { now = λ relation a b there. absurd there; versions = tt } }) within).keyed
