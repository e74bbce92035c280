-- The parts of statements that aren't kept by slices.
use Rattle.std.proofs.Common.{◌≡◌, ℕ, ◌+◌, ◌≤◌, true, false, cond, List, [], length, sym, ap, subst, ◌∙◌}
use Rattle.std.specs.List.{AllByRecursion, sum_by}
use Rattle.lt_face.specs.Rows.{IsRow}
use Rattle.lt_face.proofs.RowLemmas.{each_weaker}
use Rattle.lt_face.specs.State.{Row, State}
use Rattle.lt_model.specs.declared.normal.Atom.{Atom}
use Rattle.lt_model.specs.declared.normal.Body.{Body}
use Rattle.lt_model.specs.declared.normal.Stmt.TheVariants.{Insert, Replace}
use Rattle.lt_model.specs.Answers.{answers}
use Rattle.lt_model.specs.Effect.{has_clash, key_terms, key_body, is_plain}
use Rattle.lt_model.specs.Fits.{IsBodyOf, IsHeadOf}
use Rattle.lt_model.specs.State.{IsState}
use Rattle.lt_sense.specs.Kept.{Sense}
use Rattle.lt_sense.specs.Sense.{IsTight}
use Rattle.lt_join.specs.Certify.{Certifies}
use Rattle.lt_program.specs.Displacing.{HaveOneWidth}
use Rattle.lt_program.specs.declared.part.Found.TheVariants.{Rows, Both}
use Rattle.lt_program.specs.Part.{Part}
use Rattle.lt_program.specs.Tally.{IsPartOn, IsWhole, CertifiesKeys, looked_up, keyed_on, keys_cost, is_sliced, sense_of}
use Rattle.lt_program.proofs.FittingRuns.{head_rows}
use Rattle.lt_program.proofs.KeptSlices.{kept_whole}

-- ---- what is looked up

looked_plain : (head : Atom) (keys : ℕ) (rows : List Row) → is_plain head keys ≡ true → looked_up head keys rows ≡ []
looked_plain head keys rows plain = ap (λ b. cond b [] (cond (has_clash keys rows) [] rows)) plain

pub looked_none : (head : Atom) (keys : ℕ) (rows : List Row) → is_plain head keys ≡ false → has_clash keys rows ≡ true → looked_up head keys rows ≡ []
looked_none head keys rows keyed clash = ap (λ b. cond b [] (cond (has_clash keys rows) [] rows)) keyed ∙ ap (λ b. cond b [] rows) clash

pub looked_all : (head : Atom) (keys : ℕ) (rows : List Row) → is_plain head keys ≡ false → has_clash keys rows ≡ false → looked_up head keys rows ≡ rows
looked_all head keys rows keyed apart = ap (λ b. cond b [] (cond (has_clash keys rows) [] rows)) keyed ∙ ap (λ b. cond b [] rows) apart

-- ---- parts

module _ (state : State) (part : Part) (one : IsWhole part) (tight : IsTight (sense_of part) state) where
  plain_keys : (head : Atom) (keys : ℕ) (rows : List Row) → is_plain head keys ≡ true → CertifiesKeys (sense_of part) head keys rows state
  plain_keys head keys rows plain = subst (AllByRecursion (λ row. Certifies (sense_of part) (key_body head.relation keys row) state)) (sym (looked_plain head keys rows plain)) tt

  pub plain_insert : (head : Atom) (keys : ℕ) (body : Body) → is_plain head keys ≡ true → is_sliced (Insert head keys body) ≡ false → part.outcome ≡ Rows (answers head.terms body state) → Certifies (sense_of part) body state → IsPartOn (Insert head keys body) state part
  plain_insert head keys body plain whole outcome certified = record {
    outcome = outcome ∙ sym (ap (λ b. cond b (Rows (answers head.terms body state)) (keyed_on head keys [] (answers head.terms body state) state)) plain);
    vouches = (certified, plain_keys head keys (answers head.terms body state) plain);
    tight = tight;
    sliced = kept_whole (Insert head keys body) state part whole one;
  }

  pub keyed_insert : (head : Atom) (keys : ℕ) (body : Body) → is_plain head keys ≡ false → is_sliced (Insert head keys body) ≡ false → part.outcome ≡ keyed_on head keys [] (answers head.terms body state) state → Certifies (sense_of part) body state
      → CertifiesKeys (sense_of part) head keys (answers head.terms body state) state → IsPartOn (Insert head keys body) state part
  keyed_insert head keys body keyed whole outcome certified looked = record {
    outcome = outcome ∙ sym (ap (λ b. cond b (Rows (answers head.terms body state)) (keyed_on head keys [] (answers head.terms body state) state)) keyed);
    vouches = (certified, looked);
    tight = tight;
    sliced = kept_whole (Insert head keys body) state part whole one;
  }

  pub plain_replace : (gone come : Atom) (keys : ℕ) (body : Body) → is_plain come keys ≡ true → is_sliced (Replace gone come keys body) ≡ false → part.outcome ≡ Both (answers gone.terms body state) (answers come.terms body state) → Certifies (sense_of part) body state
      → IsPartOn (Replace gone come keys body) state part
  plain_replace gone come keys body plain whole outcome certified = record {
    outcome = outcome ∙ sym (ap (λ b. cond b (Both (answers gone.terms body state) (answers come.terms body state)) (keyed_on come keys (answers gone.terms body state) (answers come.terms body state) state)) plain);
    vouches = (certified, plain_keys come keys (answers come.terms body state) plain);
    tight = tight;
    sliced = kept_whole (Replace gone come keys body) state part whole one;
  }

  pub keyed_replace : (gone come : Atom) (keys : ℕ) (body : Body) → is_plain come keys ≡ false → is_sliced (Replace gone come keys body) ≡ false → part.outcome ≡ keyed_on come keys (answers gone.terms body state) (answers come.terms body state) state
      → Certifies (sense_of part) body state → CertifiesKeys (sense_of part) come keys (answers come.terms body state) state → IsPartOn (Replace gone come keys body) state part
  keyed_replace gone come keys body keyed whole outcome certified looked = record {
    outcome = outcome ∙ sym (ap (λ b. cond b (Both (answers gone.terms body state) (answers come.terms body state)) (keyed_on come keys (answers gone.terms body state) (answers come.terms body state) state)) keyed);
    vouches = (certified, looked);
    tight = tight;
    sliced = kept_whole (Replace gone come keys body) state part whole one;
  }

-- ---- the look-ups by the keys of rows

pub looked_certified : (head : Atom) (keys : ℕ) (rows : List Row) (state : State) (sense own : Sense) → own ≡ sense → is_plain head keys ≡ false → has_clash keys rows ≡ false
    → AllByRecursion (λ row. Certifies sense (key_body head.relation keys row) state) rows → CertifiesKeys own head keys rows state
looked_certified head keys rows state sense own is keyed apart h =
    subst (AllByRecursion (λ row. Certifies own (key_body head.relation keys row) state)) (sym (looked_all head keys rows keyed apart))
    (subst (λ (s : Sense). AllByRecursion (λ row. Certifies s (key_body head.relation keys row) state) rows) (sym is) h)

pub looked_cost : (head : Atom) (keys : ℕ) (rows : List Row) (state : State) (old new : ℕ) → is_plain head keys ≡ false → has_clash keys rows ≡ false
    → new ≤ old + sum_by (λ row. 1 + length (answers (key_terms keys row) (key_body head.relation keys row) state)) rows → new ≤ old + keys_cost head keys rows state
looked_cost head keys rows state old new keyed apart h =
    subst (λ (rs : List Row). new ≤ old + sum_by (λ row. 1 + length (answers (key_terms keys row) (key_body head.relation keys row) state)) rs) (sym (looked_all head keys rows keyed apart)) h

pub one_width : (width : ℕ) (rows : List Row) → AllByRecursion (IsRow width) rows → HaveOneWidth rows
one_width width rows h = record { width = width; each = each_weaker (IsRow width) (λ row. length row ≡ width) (λ row r. r.is_wide) rows h }

-- the rows that a head's terms answer
pub head_wide : (state : State) (head : Atom) (body : Body) (rows : List Row) → IsState state → IsBodyOf state body → IsHeadOf state body head → rows ≡ answers head.terms body state → AllByRecursion (IsRow (length head.terms)) rows
head_wide state head body rows is fits h made = subst (AllByRecursion (IsRow (length head.terms))) (sym made) (head_rows state state is (λ r n w. w) head body fits h)
