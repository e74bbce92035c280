-- What was read and what was written, as a run ends.
use Rattle.std.proofs.Common.{◌≡◌, ◌≤◌, ◌++◌, Bool, List, [], ℕ, length, refl, sym, ap, subst, ◌∙◌, arith}
use Rattle.std.specs.Prelude.{Option, Result, Err, IfErr}
use Rattle.std.proofs.lemmas.List.{length-append}
use Rattle.std.proofs.KnownBytes.{Appends-nil, Consumes-nil, Consumes-trans}
use Rattle.std.specs.Io.KnownBytes.{Consumes}
use Rattle.lt_edges.specs.Causes.{Rose}
use Rattle.lt_model.specs.Report.{report}
use Rattle.lt_script.proofs.Totality.{some_reading}
use Rattle.lt_runs.specs.Reports.{IsFrontOf}
use Rattle.lt_runs.specs.Ends.{IsLongPart, IsPart, StopsAs}
use Rattle.lt_runs.specs.Reads.{StopsGoing, StopsReading, TakesBeyond, TakesWithin}
use Rattle.lt_runs.specs.Stops.{halted, unread}
use Rattle.lt_runs.specs.declared.stop.Stop.{Stop}
use Rattle.lt_runs.specs.declared.stop.Stop.TheVariants as stops
use Rattle.lt_world.specs.declared.halt.Halt.{Halt}
use Rattle.lt_world.specs.declared.halt.Halt.TheVariants as halts
use Rattle.lt_runs.specs.declared.input.InputError.{InputError}
use Rattle.lt_runs.specs.declared.input.InputError.TheVariants as errors

abbrev Bytes : Type 0
Bytes = Option (List ℕ)

-- nothing was read and nothing was written
pub none_taken : (marks : Bool) (l h : Bytes) → IsPart marks l l h h
none_taken marks l h =
    let x = some_reading [] in
    record {
      bytes = [];
      taken = Consumes-nil l;
      within = omega arith;
      front = record { items = x.0; close = x.1; script = x.2; written = ([], report marks x.0 x.1, refl, Appends-nil h) };
    }

-- ---- why a script stops

module _ (marks : Bool) (l m : Bytes) (r s : ℕ) (h i : Bytes) (w x : ℕ) where
  -- an item wasn't taken
  pub by_halt : (halt : Halt) → IsPart marks l m h i → (halt ≡ halts.Failed → Rose w x) → StopsAs marks (halted halt) l m r s h i w x
  by_halt halts.NoMemory part rose = part
  by_halt halts.Failed part rose = (rose refl, part)

  -- it wasn't gone on, from where these bytes were taken
  pub by_going : (stop : Stop) (k : Bytes) (q v count : ℕ) (bytes : List ℕ) → Consumes l k bytes → count ≡ length bytes → r ≤ q → w ≤ v → ((piece : List ℕ) → IsFrontOf marks (bytes ++ piece) h i) → StopsGoing stop count k m q s v x
      → StopsAs marks stop l m r s h i w x
  by_going stop k q v count bytes taken is later sink_later front = go stop
    where
      within : TakesWithin count k m → IsPart marks l m h i
      within p = record {
        bytes = bytes ++ p.0;
        taken = Consumes-trans l k m bytes p.0 taken p.1;
        within = omega (arith, p.2, is, length-append bytes p.0);
        front = front p.0;
      }

      beyond : TakesBeyond count k m → IsLongPart marks l m h i
      beyond p = record {
        bytes = bytes ++ p.0;
        taken = Consumes-trans l k m bytes p.0 taken p.1;
        beyond = omega (arith, p.2, is, length-append bytes p.0);
        front = front p.0;
      }

      go : (e : Stop) → StopsGoing e count k m q s v x → StopsAs marks e l m r s h i w x
      go stops.NoMemory p = within p
      go stops.ReadFailed p = (omega (arith, later, p.0), within p.1)
      go stops.WriteFailed p = (omega (arith, sink_later, p.0), within p.1)
      go stops.TooLong p = beyond p

-- where the source wasn't read on
pub going_unread : (error : InputError) (count : ℕ) (l m : Bytes) (r s w x : ℕ) → StopsReading error count l m r s → StopsGoing (unread error) count l m r s w x
going_unread errors.NoMemory count l m r s w x p = p
going_unread errors.Failed count l m r s w x p = p
going_unread errors.TooLong count l m r s w x p = p

-- so it stops where an error is passed on
module _ {T : Type 0} (result : Result T Stop) (e stop : Stop) (is : result ≡ Err e) (same : e ≡ stop) where
  at_error : (P : Stop → Type 0) → P stop → IfErr result P
  at_error P p = subst (λ (q : Result T Stop). IfErr q P) (sym (is ∙ ap (λ (q : Stop). let w : Result T Stop = Err q in w) same)) p

  pub stopped : (marks : Bool) (l m : Bytes) (r s : ℕ) (h i : Bytes) (w x : ℕ) → StopsAs marks stop l m r s h i w x → IfErr result (λ q. StopsAs marks q l m r s h i w x)
  stopped marks l m r s h i w x p = at_error (λ q. StopsAs marks q l m r s h i w x) p

  pub stopped_going : (count : ℕ) (l m : Bytes) (r s w x : ℕ) → StopsGoing stop count l m r s w x → IfErr result (λ q. StopsGoing q count l m r s w x)
  stopped_going count l m r s w x p = at_error (λ q. StopsGoing q count l m r s w x) p
