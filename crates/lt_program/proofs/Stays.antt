-- A part of a statement stays its part where no covered row differs.
use Rattle.std.proofs.Common.{◌≡◌, ℕ, List, [], ◌∷◌, ◌++◌, refl, ap, ◌∙◌, subst}
use Rattle.std.specs.List.{AllByRecursion}
use Rattle.std.specs.Prelude.{filter, flat_map, not, if◌then◌else◌}
use Rattle.lt_face.specs.State.{Row, State}
use Rattle.lt_face.proofs.RowLemmas.{each_weaker}
use Rattle.lt_model.specs.declared.normal.Atom.{Atom}
use Rattle.lt_model.specs.declared.normal.Stmt.{Stmt}
use Rattle.lt_model.specs.declared.normal.Stmt.TheVariants.{Insert, Delete, Replace, Require, Print}
use Rattle.lt_model.specs.Answers.{answers, ascending}
use Rattle.lt_model.specs.Effect.{same_row, key_terms, key_body, displaced_by, is_plain}
use Rattle.lt_model.specs.Fits.{FitsStatement}
use Rattle.lt_query.specs.Needs.{body_of}
use Rattle.lt_query.specs.Stated.{stated_plan}
use Rattle.lt_sense.specs.Kept.{Sense}
use Rattle.lt_sense.specs.Sense.{AgreeWhereCovered}
use Rattle.lt_join.specs.Certify.{Certifies}
use Rattle.lt_join.proofs.Kept.{some_answer_kept}
use Rattle.lt_join.proofs.MendLaws.{stay_slices}
use Rattle.lt_join.proofs.Repair.{answers_same, Certifies-moved, IsTight-moved}
use Rattle.lt_program.specs.declared.part.Found.TheVariants.{Rows, Both, Keyed, Truth}
use Rattle.lt_program.specs.Part.{Part}
use Rattle.lt_program.specs.Tally.{IsPartOn, IsKeptAs, CertifiesKeys, looked_up, keyed_on, sense_of, slice_terms}

-- its slices stay its slices
kept_stays : (s t : State) (stmt : Stmt) (part : Part) → AgreeWhereCovered (sense_of part) s t → IsKeptAs stmt s part → IsKeptAs stmt t part
kept_stays s t stmt part agree is = record {
  by_key = is.by_key;
  by_slices = λ sliced. stay_slices (slice_terms stmt) (body_of stmt) (stated_plan (body_of stmt)) s t part.sense part.slices (is.by_slices sliced) agree;
  whole = is.whole;
}

-- what was looked up by the keys of rows is the same
module _ (sense : Sense) (s t : State) (agree : AgreeWhereCovered sense s t) where
  keys_stay : (head : Atom) (keys : ℕ) (rows : List Row) → CertifiesKeys sense head keys rows s → CertifiesKeys sense head keys rows t
  keys_stay head keys rows h =
      each_weaker (λ row. Certifies sense (key_body head.relation keys row) s) (λ row. Certifies sense (key_body head.relation keys row) t) (λ row k. Certifies-moved sense s t agree (key_body head.relation keys row) k) (looked_up head keys rows) h

  displaced_each : (relation keys : ℕ) (rows : List Row) → AllByRecursion (λ row. Certifies sense (key_body relation keys row) s) rows → flat_map (displaced_by relation keys s) rows ≡ flat_map (displaced_by relation keys t) rows
  displaced_each relation keys [] h = refl
  displaced_each relation keys (row ∷ rows) h =
      ap (λ found. filter (λ other. not (same_row other row)) found ++ flat_map (displaced_by relation keys s) rows) (answers_same sense (key_terms keys row) (key_body relation keys row) s t agree h.0)
      ∙ ap (λ more. displaced_by relation keys t row ++ more) (displaced_each relation keys rows h.1)

  keyed_stays : (head : Atom) (keys : ℕ) (gone come : List Row) → CertifiesKeys sense head keys come s → keyed_on head keys gone come s ≡ keyed_on head keys gone come t
  keyed_stays head keys gone come h = ap (λ found. Keyed gone come (ascending found)) (displaced_each head.relation keys (looked_up head keys come) h)

pub part_stays : (base s t : State) (stmt : Stmt) (part : Part) → FitsStatement base stmt → AgreeWhereCovered (sense_of part) s t → IsPartOn stmt s part → IsPartOn stmt t part
part_stays base s t (Insert head keys body) part fits agree is =
    let come = answers_same (sense_of part) head.terms body s t agree is.vouches.0 in
    record {
      outcome = is.outcome
          ∙ ap (λ outcome. if is_plain head keys then Rows (answers head.terms body s) else outcome) (keyed_stays (sense_of part) s t agree head keys [] (answers head.terms body s) is.vouches.1)
          ∙ ap (λ rows. if is_plain head keys then Rows rows else keyed_on head keys [] rows t) come;
      vouches = (Certifies-moved (sense_of part) s t agree body is.vouches.0, subst (λ rows. CertifiesKeys (sense_of part) head keys rows t) come (keys_stay (sense_of part) s t agree head keys (answers head.terms body s) is.vouches.1));
      tight = IsTight-moved (sense_of part) s t agree is.tight;
      sliced = kept_stays s t (Insert head keys body) part agree is.sliced;
    }
part_stays base s t (Delete head body) part fits agree is = record {
  outcome = is.outcome ∙ ap Rows (answers_same (sense_of part) head.terms body s t agree is.vouches);
  vouches = Certifies-moved (sense_of part) s t agree body is.vouches;
  tight = IsTight-moved (sense_of part) s t agree is.tight;
  sliced = kept_stays s t (Delete head body) part agree is.sliced;
}
part_stays base s t (Replace gone come keys body) part fits agree is =
    let left = answers_same (sense_of part) gone.terms body s t agree is.vouches.0 in
    let rows = answers_same (sense_of part) come.terms body s t agree is.vouches.0 in
    record {
      outcome = is.outcome
          ∙ ap (λ outcome. if is_plain come keys then Both (answers gone.terms body s) (answers come.terms body s) else outcome)
          (keyed_stays (sense_of part) s t agree come keys (answers gone.terms body s) (answers come.terms body s) is.vouches.1)
          ∙ ap (λ x. if is_plain come keys then Both x (answers come.terms body s) else keyed_on come keys x (answers come.terms body s) t) left
          ∙ ap (λ x. if is_plain come keys then Both (answers gone.terms body t) x else keyed_on come keys (answers gone.terms body t) x t) rows;
      vouches = (Certifies-moved (sense_of part) s t agree body is.vouches.0, subst (λ x. CertifiesKeys (sense_of part) come keys x t) rows (keys_stay (sense_of part) s t agree come keys (answers come.terms body s) is.vouches.1));
      tight = IsTight-moved (sense_of part) s t agree is.tight;
      sliced = kept_stays s t (Replace gone come keys body) part agree is.sliced;
    }
part_stays base s t (Require some body) part fits agree is =
    let kept = some_answer_kept (sense_of part) body s t (fits.is_bound, fits.are_absents_bound) agree is.vouches in
    record {
      outcome = is.outcome ∙ ap Truth kept.0;
      vouches = kept.1;
      tight = IsTight-moved (sense_of part) s t agree is.tight;
      sliced = kept_stays s t (Require some body) part agree is.sliced;
    }
part_stays base s t (Print terms kinds body) part fits agree is = record {
  outcome = is.outcome ∙ ap Rows (answers_same (sense_of part) terms body s t agree is.vouches);
  vouches = Certifies-moved (sense_of part) s t agree body is.vouches;
  tight = IsTight-moved (sense_of part) s t agree is.tight;
  sliced = kept_stays s t (Print terms kinds body) part agree is.sliced;
}
