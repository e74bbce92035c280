-- Where a state has one row for a key, so it has after a run.
use Rattle.std.proofs.Common.{◌≡◌, ℕ, ◌+◌, true, false, List, [], ◌∷◌, ◌++◌, refl, subst}
use Rattle.std.specs.List.{AllByRecursion}
use Rattle.lt_face.proofs.RowLemmas.{each_weaker}
use Rattle.lt_face.specs.State.{State}
use Rattle.lt_delta.proofs.Composes.{each_after}
use Rattle.lt_delta.proofs.Kept.{IsState-laid}
use Rattle.lt_model.specs.declared.normal.Stmt.{Stmt}
use Rattle.lt_model.specs.declared.reply.Reply.{Reply}
use Rattle.lt_model.specs.Effect.{Effect, Writes, Requires, Prints, Clashes, effect}
use Rattle.lt_model.specs.Fits.{FitsStatement, Fits, IsMarkOf, FitMarks}
use Rattle.lt_model.specs.Marks.{Marks, AreMarks, and_then, laid}
use Rattle.lt_model.specs.Run.{Progress, run_on, run_from, run}
use Rattle.lt_model.specs.State.{IsState}
use Rattle.lt_model.proofs.Composition.{AreMarks-and_then, laid_twice}
use Rattle.lt_model.specs.Keyed.{Keys, IsKeyed, InsertsBy}
use Rattle.lt_query.proofs.KeysStay.{writes_stay_keyed}
use Rattle.lt_program.specs.Keyed.{RunsStayKeyed, SerialStaysKeyed}
use Rattle.lt_program.proofs.FittingRuns.{FitsEffect, fits_on, run_fits}
use Rattle.lt_program.proofs.LaterMarks.{rises}
use Rattle.lt_program.proofs.Widths.{FitsStatement-laid}

module _ (keys : Keys) (state : State) (is : IsState state) (keyed : IsKeyed keys state) where
  -- what a run has written until now
  record IsSoFar (marks : Marks) : Type 0 where
    pub fit : FitMarks state marks
    pub up : AreMarks marks
    pub one : IsKeyed keys (laid state marks)

  more : (s : Stmt) (before marks : Marks) → FitsStatement state s → InsertsBy keys s → IsSoFar before → effect s (laid state before) ≡ Writes marks → IsSoFar (and_then before marks)
  more s before marks fits own far e =
      let now : State = laid state before in
      let all : FitMarks state marks = subst (FitsEffect state) e (fits_on state before s is far.fit fits) in
      let stays : IsKeyed keys (laid now marks) = writes_stay_keyed keys now s marks (IsState-laid state before is far.fit) (FitsStatement-laid state before s fits) own far.one e in
      record {
        fit = each_after (IsMarkOf state) before marks far.fit all;
        up = AreMarks-and_then before marks far.up;
        one = subst (IsKeyed keys) (laid_twice state before marks (rises state is) far.up) stays;
      }

  goes_on : (j : ℕ) (p : Progress) (s : Stmt) (e : Effect) (rest : Progress → Reply × Marks) → FitsStatement state s → InsertsBy keys s → IsSoFar p.marks → effect s (laid state p.marks) ≡ e → ((q : Progress) → IsSoFar q.marks → IsKeyed keys (laid state (rest q).1))
      → IsKeyed keys (laid state (run_on j p e rest).1)
  goes_on j p s (Writes marks) rest fits own far same on = on (record p { marks = and_then p.marks marks }) (more s p.marks marks fits own far same)
  goes_on j p s (Requires true) rest fits own far same on = on p far
  goes_on j p s (Requires false) rest fits own far same on = keyed
  goes_on j p s (Prints kinds rows) rest fits own far same on = on (record p { prints = p.prints ++ record { statement = j; kinds = kinds; rows = rows } ∷ [] }) far
  goes_on j p s Clashes rest fits own far same on = keyed

  from_keyed : (j : ℕ) (program : List Stmt) (p : Progress) → AllByRecursion (FitsStatement state) program → AllByRecursion (InsertsBy keys) program → IsSoFar p.marks → IsKeyed keys (laid state (run_from j program state p).1)
  from_keyed j [] p fits own far = far.one
  from_keyed j (s ∷ program) p fits own far =
      goes_on j p s (effect s (laid state p.marks)) (run_from (j + 1) program state) fits.0 own.0 far refl (λ q k. from_keyed (j + 1) program q fits.1 own.1 k)

pub runs_stay_keyed : RunsStayKeyed
runs_stay_keyed keys state program is fits own keyed =
    from_keyed keys state is keyed 1 program (record { marks = []; prints = [] }) fits.each own (record { fit = tt; up = tt; one = keyed })

fits_laid : (state : State) (marks : Marks) (program : List Stmt) → Fits state program → Fits (laid state marks) program
fits_laid state marks program h = record { each = each_weaker (FitsStatement state) (FitsStatement (laid state marks)) (λ s k. FitsStatement-laid state marks s k) program h.each; has_few = h.has_few }

pub serial_stays_keyed : SerialStaysKeyed
serial_stays_keyed keys state [] is fits own keyed = keyed
serial_stays_keyed keys state (program ∷ programs) is fits own keyed =
    let marks : Marks = (run program state).1 in
    serial_stays_keyed keys (laid state marks) programs (IsState-laid state marks is (run_fits state program is fits.0).0)
    (each_weaker (Fits state) (Fits (laid state marks)) (λ other k. fits_laid state marks other k) programs fits.1)
    own.1 (runs_stay_keyed keys state program is fits.0 own.0 keyed)
