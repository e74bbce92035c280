-- The database of a version has the state of that version.
use Rattle.std.proofs.Common.{◌≡◌, ℕ, zero, suc, ◌+◌, ◌<◌, ◌≤◌, List, [], ◌∷◌, length, map, Some, None, sym, ap, ◌∙◌, arith, true, false}
use Rattle.std.specs.Prelude.{Option, nat_lt, slice_get, slice_index_or, unwrap_or}
use Rattle.std.proofs.lemmas.Bool.Decides.{nat_tests}
use Rattle.std.proofs.lemmas.List.{length-map}
use Rattle.lt_model.specs.Report.{World, at_version}
use Rattle.lt_face.specs.State.{State}
use Rattle.lt_base.specs.Tables.{Table, state_of}
use Rattle.lt_world.specs.Versions.{database_of}

one_mapped : (versions : List (List Table)) (v : ℕ) (db : List Table) → slice_get versions v ≡ Some db → slice_index_or (map state_of versions) v [] ≡ state_of db
one_mapped [] v db e = absurd cc
one_mapped (x ∷ versions) zero db e = let same : x ≡ db = cc in ap state_of same
one_mapped (x ∷ versions) (suc v) db e = one_mapped versions v db e

within : (versions : List (List Table)) (v : ℕ) (db : List Table) → slice_get versions v ≡ Some db → v < length versions
within [] v db e = absurd cc
within (x ∷ versions) zero db e = omega arith
within (x ∷ versions) (suc v) db e = let rest : v < length versions = within versions v db e in omega (arith, rest)

past : (versions : List (List Table)) (v : ℕ) → slice_get versions v ≡ None → length versions ≤ v
past [] v e = omega arith
past (x ∷ versions) zero e = absurd cc
past (x ∷ versions) (suc v) e = let rest : length versions ≤ v = past versions v e in omega (arith, rest)

pub count : (m : World) (versions : List (List Table)) → [] ∷ m.versions ≡ map state_of versions → length versions ≡ length m.versions + 1
count m versions all = sym (length-map versions state_of) ∙ sym (ap (λ (ss : List State). length ss) all) ∙ omega arith

module _ (m : World) (now : List Table) (versions : List (List Table)) (state : m.state ≡ state_of now) (all : [] ∷ m.versions ≡ map state_of versions) where
  pub state_at : (at : Option ℕ) (db : List Table) → database_of now versions at ≡ Some db → at_version m at ≡ state_of db
  state_at None db e = let same : now ≡ db = cc in state ∙ ap state_of same
  state_at (Some v) db e = ap (λ (ss : List State). slice_index_or ss v []) all ∙ one_mapped versions v db e

  pub made : (at : Option ℕ) (db : List Table) → database_of now versions at ≡ Some db → nat_lt (length m.versions) (unwrap_or at 0) ≡ false
  made None db e = grind (arith, nat_tests)
  made (Some v) db e =
      let lt : v < length versions = within versions v db e in
      let le : v ≤ length m.versions = omega (arith, lt, count m versions all) in
      grind (arith, nat_tests, le)

  pub not_made : (at : Option ℕ) → database_of now versions at ≡ None → nat_lt (length m.versions) (unwrap_or at 0) ≡ true
  not_made None e = absurd cc
  not_made (Some v) e =
      let le : length versions ≤ v = past versions v e in
      let lt : length m.versions < v = omega (arith, le, count m versions all) in
      grind (arith, nat_tests, lt)
