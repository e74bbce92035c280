-- A line at its opening over batches.
use Rattle.std.proofs.Common.{◌≡◌, ℕ, zero, suc, ◌<◌, ◌≤◌, List, [], ◌∷◌, length, map, sym, ap, subst, ◌∙◌, arith}
use Rattle.std.proofs.lemmas.List.{length-map}
use Rattle.std.specs.List.{AllByRecursion}
use Rattle.std.specs.Global.{Vec}
use Rattle.std.specs.declared.sync.Arc.{Arc}
use Rattle.lt_face.specs.State.{State}
use Rattle.lt_model.specs.declared.normal.Stmt.{Stmt}
use Rattle.lt_model.specs.Fits.{Fits}
use Rattle.lt_base.specs.Tables.{state_of}
use Rattle.lt_net.specs.Line.{line_net, size_in}
use Rattle.lt_net.specs.Net.{Event, IsReached, State as NetState}
use Rattle.lt_batch.specs.Line.{programs_of}
use Rattle.lt_batch.specs.LineRun.{IsOverBatches}
use Rattle.lt_batch.specs.Work.{BatchView, IsSnapshot, batch_does}
use Rattle.lt_batch.proofs.SpanLists.{batches_long}

pub sizes_short : {Z : Type 0} (batches : List (Vec (Arc (List Stmt) Z))) (leaves : List ℕ) → leaves ≡ map length (programs_of batches) → length batches ≤ 8 → length leaves ≤ 8
sizes_short batches leaves are short = omega (arith, ap length are, length-map (programs_of batches) length, batches_long batches, short)

pub over_batches : (work : BatchView) (leaves : List ℕ) (state : State) (batches : List (List (List Stmt))) → state_of work.snapshot ≡ state → work.batches ≡ batches → IsSnapshot state
    → AllByRecursion (AllByRecursion (Fits state)) batches → AllByRecursion (λ (programs : List (List Stmt)). length programs ≤ 256) batches → leaves ≡ map length batches → length batches ≤ 8 → IsOverBatches work leaves
over_batches work leaves state batches on are is fits few sizes short = record {
  runnable = record {
    snapshot = subst IsSnapshot (sym on) is;
    fit = subst (λ s. AllByRecursion (AllByRecursion (Fits s)) work.batches) (sym on) (subst (AllByRecursion (AllByRecursion (Fits state))) (sym are) fits);
  };
  few = subst (AllByRecursion (λ (programs : List (List Stmt)). length programs ≤ 256)) (sym are) few;
  segments = sizes ∙ ap (map length) (sym are);
  short = omega (arith, ap length are, short);
}

-- a segment that has a leaf is one of the batches
pub segment_below : (work : BatchView) (leaves : List ℕ) (s i : ℕ) → IsOverBatches work leaves → i < size_in leaves s → s < length work.batches
segment_below work leaves s i over inside =
    let long : length leaves ≡ length work.batches = ap length over.segments ∙ length-map work.batches length in
    omega (arith, long, there leaves s inside)
  where
    there : (ls : List ℕ) (k : ℕ) → i < size_in ls k → k < length ls
    there [] k below = absurd (omega arith)
    there (l ∷ ls) zero below = omega arith
    there (l ∷ ls) (suc k) below = omega (arith, there ls k below)

pub over_same : {v w : BatchView} {ls ks : List ℕ} → w ≡ v → ks ≡ ls → IsOverBatches v ls → IsOverBatches w ks
over_same {w = w} {ls = ls} work leaves h = subst (IsOverBatches w) (sym leaves) (subst (λ (u : BatchView). IsOverBatches u ls) (sym work) h)

pub replay_same : {v w : BatchView} {ls ks : List ℕ} (events : List Event) (s : NetState) → w ≡ v → ks ≡ ls → IsReached (line_net (batch_does w) ks) events s → IsReached (line_net (batch_does v) ls) events s
replay_same {v = v} {ks = ks} events s work leaves h =
    subst (λ ns. IsReached (line_net (batch_does v) ns) events s) leaves (subst (λ (u : BatchView). IsReached (line_net (batch_does u) ks) events s) work h)

pub by_both : {X : Type 0} (f : List (List (List Stmt)) → State → X) {batches others : List (List (List Stmt))} {state other : State} → batches ≡ others → state ≡ other → f batches state ≡ f others other
by_both f {others = others} {state = state} are on = ap (λ bs. f bs state) are ∙ ap (f others) on
