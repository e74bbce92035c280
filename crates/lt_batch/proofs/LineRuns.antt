-- What is known of the segments of a line that the front has passed.
use Rattle.std.proofs.Common.{◌≡◌, ℕ, suc, ◌+◌, ◌*◌, ◌<◌, ◌≤◌, List, [], ◌∷◌, ◌++◌, length, take, get_or, sym, ap, subst, ◌∙◌, arith}
use Rattle.std.proofs.Math.Seq.{take-length}
use Rattle.std.proofs.lemmas.List.{append-nil, length-map}
use Rattle.std.specs.List.{AllByRecursion}
use Rattle.lt_face.specs.State.{State}
use Rattle.lt_face.proofs.RowLemmas.{each_weaker}
use Rattle.lt_model.specs.declared.reply.Reply.{Reply}
use Rattle.lt_model.specs.Fits.{FitMarks}
use Rattle.lt_model.specs.Marks.{Marks, laid}
use Rattle.lt_model.specs.Run.{run}
use Rattle.lt_base.specs.Tables.{state_of}
use Rattle.lt_model.specs.declared.mark.Mark.{Mark}
use Rattle.lt_net.specs.Net.{Event, State as NetState, IsReached, IsSettled}
use Rattle.lt_net.specs.Line.{before_segment, part, size_in, line_net, AreSizes, GiveMarksIn, IsPast, IsSerialBelow}
use Rattle.lt_net.specs.Tree.{leaf_value, then_all}
use Rattle.lt_circuit.specs.Line.{LineView, line_state}
use Rattle.lt_circuit.specs.Row.{sizes}
use Rattle.lt_circuit.specs.Segment.{SegmentView}
use Rattle.lt_workers.specs.Given.{roots, GaveSome}
use Rattle.lt_batch.specs.declared.leaf.LeafTally.{LeafTally}
use Rattle.lt_batch.specs.Batch.{serial_effects, serial_replies, run_at}
use Rattle.lt_batch.specs.Line.{batch_at, line_effects, line_marks, state_before, HasGivenFront}
use Rattle.lt_batch.specs.LineRun.{IsOverBatches, IsRunBelow}
use Rattle.lt_batch.specs.LeafRun.{StandsFor}
use Rattle.lt_batch.specs.Work.{AreRunnable, BatchView, batch_does, leaf_program}
use Rattle.lt_program.proofs.FittingRuns.{run_ascends}
use Rattle.lt_batch.proofs.InOrder.{ran_all, ran_more, RanFirst}
use Rattle.lt_batch.proofs.LineInOrder.{can_before, did_in, is_before, leads, leaf_is, roots_are, run_in, IsBefore}
use Rattle.lt_batch.proofs.LineLists.{batch_small, marks_long, program_in, size_at, sizes_few, state_more}
use Rattle.lt_batch.proofs.Widths.{as_wide-laid, marks_fit}

pub past_below : (f g : ℕ) (s : NetState) → g ≤ f → IsPast f s → IsPast g s
past_below f g s le past = λ code below. past code (omega (arith, le, below))

module _ {T : Type 0} (line : LineView BatchView T) where
  abbrev pub snapshot_in : State
  snapshot_in = state_of line.work.snapshot

  -- the effects of all leaves before segment s, and those of its own leaves
  abbrev pub before_in : ℕ → Marks
  before_in s = before_segment (sizes line.row) (line_state line) s

  abbrev pub leaves_in : ℕ → ℕ → Marks
  leaves_in s = leaf_value (size_in (sizes line.row) s) (part s (line_state line))

  -- the state that batch s ran on
  abbrev pub base_in : ℕ → State
  base_in s = laid snapshot_in (before_in s)

  module _ (f : ℕ) (h : IsRunBelow f line) where
    pub size_is : (s : ℕ) → size_in (sizes line.row) s ≡ length (batch_at line.work.batches s)
    size_is s = ap (λ zs. size_in zs s) h.over.segments ∙ size_at line.work.batches s

    pub before_is : (s : ℕ) → s ≤ f → IsBefore line.work.batches snapshot_in s (before_in s)
    before_is = is_before line.work.batches snapshot_in h.over.runnable h.over.few (sizes line.row) size_is (line_state line) f h.short h.serial

    pub can_run : (s : ℕ) → s ≤ f → AreRunnable (base_in s) (batch_at line.work.batches s)
    can_run s below = can_before line.work.batches snapshot_in h.over.runnable h.over.few (sizes line.row) size_is (line_state line) f h.short h.serial s (before_is s below)

    -- marks that fit the snapshot fit what batch s ran on, and the other way
    pub fits_base : (s : ℕ) (marks : Marks) → s ≤ f → FitMarks snapshot_in marks → FitMarks (state_before line.work.batches snapshot_in s) marks
    fits_base s marks below fit =
        subst (λ t. FitMarks t marks) (sym (before_is s below).state) (marks_fit snapshot_in (base_in s) (λ r. sym (as_wide-laid snapshot_in (before_in s) r)) marks fit)

    pub fit_snapshot : (s : ℕ) (effects : List Marks) → AllByRecursion (FitMarks (base_in s)) effects → AllByRecursion (FitMarks snapshot_in) effects
    fit_snapshot s effects fits = each_weaker (FitMarks (base_in s)) (FitMarks snapshot_in) (marks_fit (base_in s) snapshot_in (as_wide-laid snapshot_in (before_in s))) effects fits

    -- what a leaf's tally tells is its program's reply
    pub replied_in : (s i : ℕ) (tally : LeafTally) → s < f → i < size_in (sizes line.row) s → StandsFor line.work tally (256 * s + i) (then_all (leaves_in s) (before_in s) i)
        → tally.run.reply ≡ (run_at (batch_at line.work.batches s) (base_in s) i (then_all (leaves_in s) [] i)).0
    replied_in s i tally below inside stands =
        stands.reply
        ∙ ap (λ p. (run p (laid snapshot_in (then_all (leaves_in s) (before_in s) i))).0) (program_in line.work.batches s i (batch_small line.work.batches s i h.over.few (subst (λ n. i < n) (size_is s) inside)))
        ∙ ap (λ (out : Reply × Marks). out.0) (run_in line.work.batches snapshot_in h.over.runnable h.over.few (sizes line.row) size_is (line_state line) f h.short h.serial s i (before_is s (omega arith)))

    -- one leaf more of segment s
    pub gathers_more : (s i : ℕ) (replies : List Reply) (effects : List Marks) (tally : LeafTally) (reply : Reply) (effect : Marks) → s < f → i < size_in (sizes line.row) s
        → RanFirst (batch_at line.work.batches s) (base_in s) (leaves_in s) i replies effects
        → StandsFor line.work tally (256 * s + i) (then_all (leaves_in s) (before_in s) i) → reply ≡ tally.run.reply → effect ≡ leaves_in s i
        → RanFirst (batch_at line.work.batches s) (base_in s) (leaves_in s) (suc i) (replies ++ reply ∷ []) (effects ++ effect ∷ [])
    gathers_more s i replies effects tally reply effect below inside ran stands told same =
        let is = size_is s in
        ran_more (batch_at line.work.batches s) (base_in s) (can_run s (omega arith)) (leaves_in s) i replies effects reply effect (omega (arith, inside, is)) ran
        (did_in line.work.batches snapshot_in h.over.runnable h.over.few (sizes line.row) size_is (line_state line) f h.short h.serial s i below inside (before_is s (omega arith)))
        (told ∙ replied_in s i tally below inside stands) same

    -- all of them
    pub gathered_all : (s n : ℕ) (replies : List Reply) (effects : List Marks) → s < f → n ≡ length (batch_at line.work.batches s)
        → RanFirst (batch_at line.work.batches s) (base_in s) (leaves_in s) n replies effects
        → (replies ≡ serial_replies (batch_at line.work.batches s) (state_before line.work.batches snapshot_in s))
        × (effects ≡ serial_effects (batch_at line.work.batches s) (state_before line.work.batches snapshot_in s))
    gathered_all s n replies effects below is ran =
        let all = ran_all (batch_at line.work.batches s) (base_in s) (leaves_in s) n replies effects is ran in
        let there = sym (before_is s (omega arith)).state in (
          all.are_replies ∙ ap (serial_replies (batch_at line.work.batches s)) there,
          all.are_effects ∙ ap (serial_effects (batch_at line.work.batches s)) there,
        )

    -- the root's effect leads on to the state before the next batch
    pub leads_on : (s : ℕ) (root : Marks) → s < f → root ≡ then_all (leaves_in s) [] (size_in (sizes line.row) s)
        → laid (state_before line.work.batches snapshot_in s) root ≡ state_before line.work.batches snapshot_in (suc s)
    leads_on s root below is =
        let short = h.short in
        ap (laid (state_before line.work.batches snapshot_in s)) is
        ∙ sym (leads line.work.batches snapshot_in h.over.runnable h.over.few (sizes line.row) size_is (line_state line) f h.short h.serial s below (before_is s (omega arith)))
        ∙ sym (state_more line.work.batches snapshot_in s (omega (arith, below, short)))

    pub leaf_was : (s i : ℕ) → s < f → i < size_in (sizes line.row) s → leaves_in s i ≡ get_or (get_or (line_effects line.work.batches snapshot_in) s []) i []
    leaf_was = leaf_is line.work.batches snapshot_in h.over.runnable h.over.few (sizes line.row) size_is (line_state line) f h.short h.serial

    -- a root's effect in a line whose front has passed its segment
    pub past_at : (s : ℕ) → s < f → IsPast (s + 1) (line_state line)
    past_at s below = past_below f (s + 1) (line_state line) (omega arith) h.past

    pub segment_at : (s : ℕ) → s < f → s < length line.row
    segment_at s below =
        let short = h.short in
        let long : length line.row ≡ length line.work.batches = sym (length-map line.row (λ (v : SegmentView). v.board.leaves)) ∙ ap length h.over.segments ∙ length-map line.work.batches length in
        omega (arith, below, short, long)

pub run_below : {T : Type 0} (f g : ℕ) (line : LineView BatchView T) → g ≤ f → IsRunBelow f line → IsRunBelow g line
run_below f g line le h =
    let short = h.short in
    record { over = h.over; short = omega (arith, le, short); past = past_below f g (line_state line) le h.past; serial = λ s below. h.serial s (omega (arith, le, below)) }

-- what each leaf writes ascends
pub gives_marks : (work : BatchView) (leaves : List ℕ) → GiveMarksIn (batch_does work) leaves
gives_marks work leaves = λ s i on below ascend.
    run_ascends (leaf_program work (256 * s + i)) (laid (state_of work.snapshot) on)

-- the law that what the front has passed is serial
abbrev pub IsFrontSerial : Type 0
IsFrontSerial = (effect : ℕ → List Mark → List Mark) (leaves : List ℕ) (events : List Event) (f : ℕ) (s : NetState) → AreSizes leaves → GiveMarksIn effect leaves
    → IsReached (line_net effect leaves) events s → f ≤ length leaves → IsPast f s → IsSerialBelow effect leaves f s

module _ (law : IsFrontSerial) (work : BatchView) (leaves : List ℕ) (over : IsOverBatches work leaves) where
  serial_of : (events : List Event) (f : ℕ) (s : NetState) → IsReached (line_net (batch_does work) leaves) events s → f ≤ length leaves → IsPast f s → IsSerialBelow (batch_does work) leaves f s
  serial_of events f s = law (batch_does work) leaves events f s (sizes_few work.batches leaves over.segments over.few) (gives_marks work leaves)

  roots_of : (events : List Event) (f : ℕ) (s : NetState) → IsReached (line_net (batch_does work) leaves) events s → f ≤ length leaves → IsPast f s
      → roots s f ≡ take f (line_marks work.batches (state_of work.snapshot))
  roots_of events f s reached below past =
      let short : f ≤ length work.batches = omega (arith, below, ap length over.segments, length-map work.batches length) in
      roots_are work.batches (state_of work.snapshot) over.runnable over.few leaves (λ k. ap (λ zs. size_in zs k) over.segments ∙ size_at work.batches k) s f short (serial_of events f s reached below past) f (omega arith)

  -- what was handed on in any state of the line is the first part of what the batches wrote
  pub gave_front : (old new : List Marks) → GaveSome (batch_does work) leaves old new → HasGivenFront old new (line_marks work.batches (state_of work.snapshot))
  gave_front old new some =
      let within = some.gave.within in (
        some.count,
        omega (arith, within, ap length over.segments, length-map work.batches length, marks_long work.batches (state_of work.snapshot)),
        some.gave.given ∙ ap (λ ms. old ++ ms) (roots_of some.events some.count some.state some.reached some.gave.within some.gave.past),
      )

  -- of a settled line all was
  pub gave_all : (old new : List Marks) (events : List Event) (s : NetState) → IsReached (line_net (batch_does work) leaves) events s → IsSettled s → new ≡ old ++ roots s (length leaves)
      → new ≡ old ++ line_marks work.batches (state_of work.snapshot)
  gave_all old new events s reached settled given =
      let long : length leaves ≡ length (line_marks work.batches (state_of work.snapshot)) = omega (arith, ap length over.segments, length-map work.batches length, marks_long work.batches (state_of work.snapshot)) in
      given
      ∙ ap (λ ms. old ++ ms) (roots_of events (length leaves) s reached (omega arith) (λ code below. settled code))
      ∙ ap (λ k. old ++ take k (line_marks work.batches (state_of work.snapshot))) long
      ∙ ap (λ ms. old ++ ms) (take-length (line_marks work.batches (state_of work.snapshot)))

-- a settled line has run whole
pub run_settled : {T : Type 0} → IsFrontSerial → (line : LineView BatchView T) → IsOverBatches line.work (sizes line.row) → (events : List Event) → IsReached (line_net (batch_does line.work) (sizes line.row)) events (line_state line)
    → IsSettled (line_state line) → IsRunBelow (length line.work.batches) line
run_settled law line over events reached settled = record {
  over = over;
  short = omega arith;
  past = λ code below. settled code;
  serial =
      law (batch_does line.work) (sizes line.row) events (length line.work.batches) (line_state line) (sizes_few line.work.batches (sizes line.row) over.segments over.few) (gives_marks line.work (sizes line.row)) reached
      (omega (arith, ap length over.segments, length-map line.work.batches length)) (λ code below. settled code);
}

-- nothing was handed on, or all
pub no_front : (old marks : List Marks) → HasGivenFront old old marks
no_front old marks = (0, omega arith, sym (append-nil old))

pub whole_front : (old new marks : List Marks) → new ≡ old ++ marks → HasGivenFront old new marks
whole_front old new marks is = (length marks, omega arith, is ∙ ap (λ ms. old ++ ms) (sym (take-length marks)))
