-- What a statement writes leaves one row for a key.
use Rattle.std.proofs.Common.{◌≡◌, ℕ, zero, suc, ◌≤◌, ◌<◌, Bool, true, false, cond, ◌&&◌, List, [], ◌∷◌, length, Option, Some, None, refl, sym, ap, subst, ◌∙◌, arith, inl, inr, ◌⊎◌}
use Rattle.std.specs.List.{AllByRecursion, list_any}
use Rattle.std.specs.Prelude.{◌==◌, not, take, flat_map, filter_map, unwrap_or}
use Rattle.std.specs.declared.cmp.Ordering.TheVariants.{Less, Greater}
use Rattle.std.specs.Cmp.{tied_itself}
use Rattle.std.proofs.lemmas.Cmp.{nat_cmp_total}
use Rattle.std.proofs.lemmas.List.{length-map}
use Rattle.std.proofs.lemmas.Bool.{and_parts, and_from, eqb-true, eq-eqb, true≢false}
use Rattle.std.proofs.Math.Seq.{take-length}
use Rattle.lt_face.specs.Lists.{IsIn}
use Rattle.lt_face.specs.Rows.{row_cmp, by_order, has_row, IsAscending}
use Rattle.lt_face.specs.State.{Row, Relation, State, Has, rows_in}
use Rattle.lt_model.specs.declared.normal.Atom.{Atom}
use Rattle.lt_model.specs.declared.normal.Body.{Body}
use Rattle.lt_model.specs.declared.normal.Stmt.TheVariants.{Insert, Delete, Replace, Require, Print}
use Rattle.lt_model.specs.declared.normal.Term.{Term}
use Rattle.lt_model.specs.Answers.{answers, answer_of, picks}
use Rattle.lt_model.specs.Effect.{Effect, Writes, Requires, Prints, Clashes, same_row, contend, has_clash, displaced_by, displaced, marks_on, is_plain, displacing, coming, behind}
use Rattle.lt_model.specs.Fits.{IsWide, AreKeysOf}
use Rattle.lt_model.specs.Laws.{later, mark_on}
use Rattle.lt_model.specs.Marks.{Marks, AreMarks, mark_cmp, and_then, laid}
use Rattle.lt_model.specs.State.{IsState}
use Rattle.lt_model.proofs.Laws.{same_is, itself, laid_has}
use Rattle.lt_model.proofs.Composition.{mark_on-and_then, same_widths}
use Rattle.lt_model.specs.Keyed.{Keys, HasOneForKey, IsKeyed}
use Rattle.lt_query.specs.Keyed.{WritesStayKeyed}
use Rattle.lt_query.proofs.Ascending.{IsAscending-ascending, has_row-true, has_row_is}
use Rattle.lt_query.proofs.Displaced.{is_displaced}
use Rattle.lt_query.proofs.Picks.{any_is}
use Rattle.lt_query.proofs.Wide.{answers_wide, each_in, state_row}

-- ---- marks of rows

test_parts : (R relation : ℕ) (r row : Row) → (R == relation && same_row r row) ≡ true → (relation ≡ R) × (r ≡ row)
test_parts R relation r row h = let p = and_parts (R == relation) (same_row r row) h in (sym (eqb-true R relation p.0), same_is r row p.1)

test_of : (R relation : ℕ) (r row : Row) → relation ≡ R → r ≡ row → (R == relation && same_row r row) ≡ true
test_of R relation r row e same =
    and_from (R == relation) (same_row r row) (eq-eqb R relation (sym e)) (subst (λ (q : Row). same_row r q ≡ true) same (itself r))

-- such marks have a sign on the rows alone
abbrev Signs : ℕ → Bool → List Row → ℕ → Row → Option Bool → Type 0
Signs R plus rows relation row sign = ((sign ≡ Some plus) × (relation ≡ R) × IsIn row rows) ⊎ ((sign ≡ None) × ((relation ≡ R) → IsIn row rows → ⊥))

sign_first : (R : ℕ) (plus : Bool) (r : Row) (rows : List Row) (relation : ℕ) (row : Row) (rest : Option Bool) (b : Bool) → (R == relation && same_row r row) ≡ b → Signs R plus rows relation row rest → Signs R plus (r ∷ rows) relation row (later rest (cond b (Some plus) None))
sign_first R plus r rows relation row rest true e (inl h) = inl (ap (λ o. later o (Some plus)) h.0, h.1, inr h.2)
sign_first R plus r rows relation row rest false e (inl h) = inl (ap (λ o. later o None) h.0, h.1, inr h.2)
sign_first R plus r rows relation row rest true e (inr h) = let p = test_parts R relation r row e in inl (ap (λ o. later o (Some plus)) h.0, p.0, inl p.1)
sign_first R plus r rows relation row rest false e (inr h) = inr (ap (λ o. later o None) h.0, λ is there. elim there [ inl same ↦ true≢false (sym (test_of R relation r row is same) ∙ e) | inr k ↦ h.1 is k ])

signs : (R : ℕ) (plus : Bool) (rows : List Row) (relation : ℕ) (row : Row) → Signs R plus rows relation row (mark_on (marks_on R plus rows) relation row)
signs R plus [] relation row = inr (refl, λ is there. there)
signs R plus (r ∷ rows) relation row = sign_first R plus r rows relation row (mark_on (marks_on R plus rows) relation row) (R == relation && same_row r row) refl (signs R plus rows relation row)

-- ---- what marks say of a row

-- it comes, and is one of these; or it goes; or there is no mark on it, and it isn't displaced
pub data Says (R : ℕ) (rows gone : List Row) (relation : ℕ) (row : Row) : Option Bool → Type 0 where
  comes : relation ≡ R → IsIn row rows → Says R rows gone relation row (Some true)
  goes : Says R rows gone relation row (Some false)
  stays : (relation ≡ R → IsIn row gone → ⊥) → Says R rows gone relation row None

abbrev AllSay : ℕ → List Row → List Row → Marks → Type 0
AllSay R rows gone marks = (relation : ℕ) (row : Row) → Says R rows gone relation row (mark_on marks relation row)

come_alone : (R : ℕ) (rows : List Row) → AllSay R rows [] (marks_on R true rows)
come_alone R rows relation row =
    elim (signs R true rows relation row) [
      | inl h ↦ subst (Says R rows [] relation row) (sym h.0) (comes h.1 h.2)
      | inr h ↦ subst (Says R rows [] relation row) (sym h.0) (stays (λ e k. k))
    ]

go_alone : (G : ℕ) (gone : List Row) (R : ℕ) → AllSay R [] [] (marks_on G false gone)
go_alone G gone R relation row =
    elim (signs G false gone relation row) [
      | inl h ↦ subst (Says R [] [] relation row) (sym h.0) goes
      | inr h ↦ subst (Says R [] [] relation row) (sym h.0) (stays (λ e k. k))
    ]

go_and_come : (R : ℕ) (gone rows : List Row) → AreMarks (marks_on R false gone) → AllSay R rows gone (displacing R gone rows)
go_and_come R gone rows up relation row =
    subst (Says R rows gone relation row) (sym (mark_on-and_then (marks_on R false gone) (marks_on R true rows) relation row up))
    (
    elim (signs R true rows relation row) [
      | inl h ↦ subst (λ o. Says R rows gone relation row (later o (mark_on (marks_on R false gone) relation row))) (sym h.0) (comes h.1 h.2)
      | inr h ↦
          subst (λ o. Says R rows gone relation row (later o (mark_on (marks_on R false gone) relation row))) (sym h.0)
          (
          elim (signs R false gone relation row) [
            | inl k ↦ subst (Says R rows gone relation row) (sym k.0) goes
            | inr k ↦ subst (Says R rows gone relation row) (sym k.0) (stays k.1)
          ]
          )
    ]
    )

-- others that go before
after_going : (G R : ℕ) (left rows gone : List Row) (marks : Marks) → AreMarks (marks_on G false left) → AllSay R rows gone marks → AllSay R rows gone (and_then (marks_on G false left) marks)
after_going G R left rows gone marks up say relation row =
    subst (Says R rows gone relation row) (sym (mark_on-and_then (marks_on G false left) marks relation row up)) (over (mark_on marks relation row) (say relation row))
  where
    over : (o : Option Bool) → Says R rows gone relation row o → Says R rows gone relation row (later o (mark_on (marks_on G false left) relation row))
    over _ (comes e k) = comes e k
    over _ goes = goes
    over _ (stays k) =
        elim (signs G false left relation row) [
          | inl h ↦ subst (Says R rows gone relation row) (sym h.0) goes
          | inr h ↦ subst (Says R rows gone relation row) (sym h.0) (stays k)
        ]

-- ---- what is laid

-- a row of the laid state is one of those that come, or it was there and isn't displaced
laid_row : (state : State) (R : ℕ) (rows gone : List Row) (marks : Marks) (relation : ℕ) (row : Row) → relation < length state → AllSay R rows gone marks → Has (laid state marks) relation row
    → ((relation ≡ R) × IsIn row rows) ⊎ (Has state relation row × (relation ≡ R → IsIn row gone → ⊥))
laid_row state R rows gone marks relation row less say there =
    told (mark_on marks relation row) (say relation row) (sym (laid_has state marks relation row less) ∙ has_row_is (rows_in (laid state marks) relation) row there)
  where
    told : (o : Option Bool) → Says R rows gone relation row o → unwrap_or o (has_row (rows_in state relation) row) ≡ true → ((relation ≡ R) × IsIn row rows) ⊎ (Has state relation row × (relation ≡ R → IsIn row gone → ⊥))
    told _ (comes e k) h = inl (e, k)
    told _ goes h = absurd (true≢false (sym h))
    told _ (stays k) h = inr (has_row-true (rows_in state relation) row h, k)

length-laid : (state : State) (marks : Marks) → length (laid state marks) ≡ length state
length-laid state marks =
    sym (length-map (laid state marks) (λ (r : Relation). r.width)) ∙ ap (λ (ns : List ℕ). length ns) (same_widths state marks) ∙ length-map state (λ (r : Relation). r.width)

-- a relation that isn't there has no rows
no_rows : (state : State) (relation : ℕ) (row : Row) → Has state relation row → relation < length state
no_rows [] relation row h = absurd h
no_rows (r ∷ state) zero row h = omega arith
no_rows (r ∷ state) (suc relation) row h = omega (arith, no_rows state relation row h)

-- Of rows that come no two have one key, and a row that was there with the key of one of them is displaced or is that one.
pub record Agree (keys : ℕ) (state : State) (R : ℕ) (rows gone : List Row) : Type 0 where
  pub among : HasOneForKey keys rows
  pub with_old : (a b : Row) → IsIn a rows → Has state R b → (IsIn b gone → ⊥) → take keys a ≡ take keys b → a ≡ b

keyed_after : (keys : Keys) (state : State) (R : ℕ) (rows gone : List Row) (marks : Marks) → AllSay R rows gone marks → Agree (keys R) state R rows gone → IsKeyed keys state → IsKeyed keys (laid state marks)
keyed_after keys state R rows gone marks say agree keyed relation a b in_a in_b same =
    let less : relation < length state = subst (λ n. relation < n) (length-laid state marks) (no_rows (laid state marks) relation a in_a) in
    elim (laid_row state R rows gone marks relation a less say in_a) [
      | inl h ↦
          let here : take (keys R) a ≡ take (keys R) b = subst (λ r. take (keys r) a ≡ take (keys r) b) h.0 same in
          elim (laid_row state R rows gone marks relation b less say in_b) [
            | inl k ↦ agree.among a b h.1 k.1 here
            | inr k ↦ agree.with_old a b h.1 (subst (λ r. Has state r b) h.0 k.0) (k.1 h.0) here
          ]
      | inr h ↦
          elim (laid_row state R rows gone marks relation b less say in_b) [
            | inl k ↦
                let here : take (keys R) b ≡ take (keys R) a = subst (λ r. take (keys r) b ≡ take (keys r) a) k.0 (sym same) in
                sym (agree.with_old b a k.1 (subst (λ r. Has state r a) k.0 h.0) (h.1 k.0) here)
            | inr k ↦ keyed relation a b h.0 k.0 same
          ]
    ]

-- ---- marks of rows ascend

row_marks_before : (R : ℕ) (plus : Bool) (r : Row) (rows : List Row) → AllByRecursion (λ s. row_cmp r s ≡ Less) rows → AllByRecursion (λ n. mark_cmp (record { relation = R; row = r; plus = plus }) n ≡ Less) (marks_on R plus rows)
row_marks_before R plus r [] h = tt
row_marks_before R plus r (s ∷ rows) h = (ap (λ o. by_order o Less (row_cmp r s) Greater) (tied_itself nat_cmp_total R) ∙ h.0, row_marks_before R plus r rows h.1)

row_marks : (R : ℕ) (plus : Bool) (rows : List Row) → IsAscending rows → AreMarks (marks_on R plus rows)
row_marks R plus [] h = tt
row_marks R plus (r ∷ rows) h = (row_marks_before R plus r rows h.0, row_marks R plus rows h.1)

answers_ascend : (terms : List Term) (body : Body) (state : State) → IsAscending (answers terms body state)
answers_ascend terms body state = IsAscending-ascending (filter_map (answer_of terms body state) (picks body.atoms state))

-- ---- the statements

-- no rows come
nothing_comes : (keys : ℕ) (state : State) (R : ℕ) → Agree keys state R [] []
nothing_comes keys state R = record { among = λ a b h. absurd h; with_old = λ a b h. absurd h }

-- where a key has all columns, rows with one key are the same
whole : (keys : ℕ) (row : Row) → length row ≡ keys → take keys row ≡ row
whole keys row e = subst (λ n. take n row ≡ row) e (take-length row)

plain_agree : (keys : ℕ) (state : State) (R : ℕ) (rows : List Row) → IsState state → IsWide state R keys → AllByRecursion (λ row. length row ≡ keys) rows → Agree keys state R rows []
plain_agree keys state R rows is wide widths = record {
  among = λ a b in_a in_b same. sym (whole keys a (long a in_a)) ∙ same ∙ whole keys b (long b in_b);
  with_old = λ a b in_a in_b gone same. sym (whole keys a (long a in_a)) ∙ same ∙ whole keys b (state_row state R keys b is wide in_b).is_wide;
}
  where
    long : (row : Row) → IsIn row rows → length row ≡ keys
    long row h = each_in (λ r. length r ≡ keys) row rows widths h

-- without a clash rows with one key are the same
no_clash : (keys : ℕ) (rows : List Row) → has_clash keys rows ≡ false → HasOneForKey keys rows
no_clash keys rows free a b in_a in_b same =
    elim (same_row a b) as (λ t. same_row a b ≡ t → a ≡ b) [
      | true ↦ λ e. same_is a b e
      | false ↦ λ e.
          let one : same_row (take keys a) (take keys b) ≡ true = subst (λ (r : Row). same_row (take keys a) r ≡ true) same (itself (take keys a)) in
          let clash : contend keys a b ≡ true = and_from (same_row (take keys a) (take keys b)) (not (same_row a b)) one (ap not e) in
          absurd (true≢false (sym (any_is (λ x. list_any (contend keys x) rows) a rows in_a (any_is (contend keys a) b rows in_b clash)) ∙ free))
    ] refl

keyed_agree : (keys width : ℕ) (state : State) (R : ℕ) (rows : List Row) → IsState state → IsWide state R width → keys ≤ width → AllByRecursion (λ row. length row ≡ width) rows → has_clash keys rows ≡ false → Agree keys state R rows (displaced R keys state rows)
keyed_agree keys width state R rows is wide less widths free = record {
  among = no_clash keys rows free;
  with_old = λ a b in_a in_b stays same.
      elim (same_row b a) as (λ t. same_row b a ≡ t → a ≡ b) [
        | true ↦ λ e. sym (same_is b a e)
        | false ↦ λ e.
            let row = state_row state R width b is wide in_b in
            let long : length a ≡ width = each_in (λ r. length r ≡ width) a rows widths in_a in
            absurd (stays (is_displaced R keys state rows a b in_a (subst (λ n. keys ≤ n) (sym long) less) (row.is_wide ∙ sym long) (sym same) row.has_cells in_b e))
      ] refl;
}

-- rows that come into a head's relation, with what is written beside them
module _ (keys : Keys) (state : State) (head : Atom) (count : ℕ) (rows : List Row) (is : IsState state) (wide : IsWide state head.relation (length head.terms)) (fits : AreKeysOf head count) (own : count ≡ keys head.relation) (widths : AllByRecursion (λ row. length row ≡ length head.terms) rows) (keyed : IsKeyed keys state) (wrap : Marks → Marks) (over : (come gone : List Row) (more : Marks) → AllSay head.relation come gone more → AllSay head.relation come gone (wrap more)) where
  written : (x y : Marks) → Writes x ≡ Writes y → x ≡ y
  written x y e = cc

  no_marks : (y : Marks) → Clashes ≡ Writes y → ⊥
  no_marks y e = cc

  all_keys : (marks : Marks) → count ≡ length head.terms → Writes (marks_on head.relation true rows) ≡ Writes marks → IsKeyed keys (laid state (wrap marks))
  all_keys marks full k =
      let many : keys head.relation ≡ length head.terms = sym own ∙ full in
      let say : AllSay head.relation rows [] marks = subst (AllSay head.relation rows []) (written (marks_on head.relation true rows) marks k) (come_alone head.relation rows) in
      keyed_after keys state head.relation rows [] (wrap marks) (over rows [] marks say)
      (plain_agree (keys head.relation) state head.relation rows is (subst (IsWide state head.relation) (sym many) wide) (subst (λ n. AllByRecursion (λ row. length row ≡ n) rows) (sym many) widths)) keyed

  some_keys : (marks : Marks) (b : Bool) → has_clash count rows ≡ b → cond b Clashes (Writes (displacing head.relation (displaced head.relation count state rows) rows)) ≡ Writes marks → IsKeyed keys (laid state (wrap marks))
  some_keys marks true free k = absurd (no_marks marks k)
  some_keys marks false free k =
      let gone : List Row = displaced head.relation count state rows in
      let up : AreMarks (marks_on head.relation false gone) = row_marks head.relation false gone (IsAscending-ascending (flat_map (displaced_by head.relation count state) rows)) in
      let say : AllSay head.relation rows gone marks = subst (AllSay head.relation rows gone) (written (displacing head.relation gone rows) marks k) (go_and_come head.relation gone rows up) in
      keyed_after keys state head.relation rows gone (wrap marks) (over rows gone marks say)
      (subst (λ n. Agree n state head.relation rows gone) own (keyed_agree count (length head.terms) state head.relation rows is wide fits.1 widths free)) keyed

  by_plain : (marks : Marks) (b : Bool) → is_plain head count ≡ b → cond b (Writes (marks_on head.relation true rows)) (cond (has_clash count rows) Clashes (Writes (displacing head.relation (displaced head.relation count state rows) rows))) ≡ Writes marks → IsKeyed keys (laid state (wrap marks))
  by_plain marks true p k = all_keys marks (eqb-true count (length head.terms) p) k
  by_plain marks false p k = some_keys marks (has_clash count rows) refl k

  coming_stays : (marks : Marks) → coming head count rows state ≡ Writes marks → IsKeyed keys (laid state (wrap marks))
  coming_stays marks e = by_plain marks (is_plain head count) refl e

behind_writes : (before : Marks) (e : Effect) (marks : Marks) → behind before e ≡ Writes marks → (more : Marks) × (e ≡ Writes more) × (and_then before more ≡ marks)
behind_writes before (Writes more) marks h = (more, refl, cc)
behind_writes before (Requires truth) marks h = absurd (cc)
behind_writes before (Prints kinds rows) marks h = absurd (cc)
behind_writes before Clashes marks h = absurd (cc)

pub writes_stay_keyed : WritesStayKeyed
writes_stay_keyed keys state (Insert head count body) marks is fits own keyed e =
    coming_stays keys state head count (answers head.terms body state) is fits.1.fits.is_wide fits.2 own (answers_wide head.terms body state) keyed (λ m. m) (λ come gone more say. say) marks e
writes_stay_keyed keys state (Delete head body) marks is fits own keyed e =
    let gone : List Row = answers head.terms body state in
    let same : marks_on head.relation false gone ≡ marks = cc in
    subst (λ (m : Marks). IsKeyed keys (laid state m)) same
    (keyed_after keys state head.relation [] [] (marks_on head.relation false gone) (go_alone head.relation gone head.relation) (nothing_comes (keys head.relation) state head.relation) keyed)
writes_stay_keyed keys state (Replace gone come count body) marks is fits own keyed e =
    let left : List Row = answers gone.terms body state in
    let before : Marks = marks_on gone.relation false left in
    let w = behind_writes before (coming come count (answers come.terms body state) state) marks e in
    let up : AreMarks before = row_marks gone.relation false left (answers_ascend gone.terms body state) in
    subst (λ (m : Marks). IsKeyed keys (laid state m)) w.2
    (coming_stays keys state come count (answers come.terms body state) is fits.2.fits.is_wide fits.3 own (answers_wide come.terms body state) keyed (and_then before) (λ rows lost more say. after_going gone.relation come.relation left rows lost more up say) w.0 w.1)
writes_stay_keyed keys state (Require true body) marks is fits own keyed e = absurd (cc)
writes_stay_keyed keys state (Require false body) marks is fits own keyed e = absurd (cc)
writes_stay_keyed keys state (Print terms kinds body) marks is fits own keyed e = absurd (cc)
