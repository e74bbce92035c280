-- On the way through a list of jobs: what is left to be run.
use Rattle.std.proofs.Common.{◌≡◌, ℕ, suc, ◌+◌, ◌-◌, ◌<◌, ◌≤◌, Bool, true, false, List, [], ◌∷◌, ◌++◌, length, length-append, Some, None, refl, sym, ap, ◌∙◌, subst, arith, append_assoc}
use Rattle.std.specs.List.{AllByRecursion}
use Rattle.lt_net.specs.declared.job.JobName.TheVariants.{Leaf, Merge, Correct}
use Rattle.lt_net.specs.Net.{Net, State, Event, is_pending}
use Rattle.lt_net.specs.Codes.{code_of}
use Rattle.lt_net.specs.Alone.{IsUnclaimed, run_if_pending, run_events, run_all, all_events, merges_down, corrects_up, lowest_pending}
use Rattle.lt_net.proofs.Counts.{events_append}
use Rattle.lt_net.proofs.Runs.{run_append}
use Rattle.lt_circuit.specs.Shape.{worker_of, IsLaterBy}

pub later_same : (es : List Event) → IsLaterBy 0 es es
later_same es = record { more = []; is = end es; by = tt }
  where
    end : (xs : List Event) → xs ≡ xs ++ []
    end [] = refl
    end (x ∷ xs) = ap (λ (ys : List Event). x ∷ ys) (end xs)

all_of : (a b : List Event) → AllByRecursion (λ e. worker_of e ≡ 0) a → AllByRecursion (λ e. worker_of e ≡ 0) b → AllByRecursion (λ e. worker_of e ≡ 0) (a ++ b)
all_of [] b first second = second
all_of (e ∷ a) b first second = (first.0, all_of a b first.1 second)

pub later_then : (a b c : List Event) → IsLaterBy 0 a b → IsLaterBy 0 b c → IsLaterBy 0 a c
later_then a b c h k = record {
  more = h.more ++ k.more;
  is = k.is ∙ ap (λ (x : List Event). x ++ k.more) h.is ∙ append_assoc a h.more k.more;
  by = all_of h.more k.more h.by k.by;
}

-- ---- the first job of a list

pub merges_first : (k v : ℕ) → k ≡ v + 1 → merges_down k ≡ code_of (Merge v) ∷ merges_down v
merges_first k v e = let n : k ≡ suc v = omega (arith, e) in ap merges_down n

pub corrects_first : (n v : ℕ) → v < n → corrects_up v (n - v) ≡ code_of (Correct v) ∷ corrects_up (v + 1) (n - (v + 1))
corrects_first n v h =
    let next : n - v ≡ suc (n - (v + 1)) = omega (arith, h) in
    let up : suc v ≡ v + 1 = omega arith in
    ap (corrects_up v) next ∙ ap (λ w. code_of (Correct v) ∷ corrects_up w (n - (v + 1))) up

-- ---- on the way through a list of jobs

-- From (shape0, s0, journal0) on through all the jobs: at (sh, s, j) these are left. No claim stands.
pub record IsOnWay {S : Type 0} (net_of : S → Net) (shape0 : S) (s0 : State) (journal0 : List Event) (all : List ℕ) (sh : S) (s : State) (j : List Event) (left : List ℕ) : Type 0 where
  pub ran : run_all (net_of shape0) s left ≡ run_all (net_of shape0) s0 all
  pub free : IsUnclaimed s
  pub shape : sh ≡ shape0
  pub later : IsLaterBy 0 journal0 j
  pub few : length j + length (all_events (net_of shape0) s left) ≤ length journal0 + length (all_events (net_of shape0) s0 all)

pub way_start : {S : Type 0} (net_of : S → Net) (shape : S) (s : State) (journal : List Event) (all : List ℕ) → IsUnclaimed s → IsOnWay net_of shape s journal all shape s journal all
way_start net_of shape s journal all free = record { ran = refl; free = free; shape = refl; later = later_same journal; few = omega arith }

-- the events of a job are those of the list of it alone
pub alone_events_few : (net : Net) (s : State) (code j k : ℕ) → k ≤ j + length (run_events net s code) → k ≤ j + length (all_events net s (code ∷ []))
alone_events_few net s code j k few = let same = length-append (run_events net s code) [] in omega (arith, few, same)

module _ {S : Type 0} {net_of : S → Net} {shape0 sh : S} {s0 s : State} {journal0 j : List Event} {all left : List ℕ} (jobs rest : List ℕ)
    (h : IsOnWay net_of shape0 s0 journal0 all sh s j left) (e : left ≡ jobs ++ rest) where
  more_few : (k : ℕ) → k ≤ length j + length (all_events (net_of sh) s jobs) → k ≤ length j + length (all_events (net_of shape0) s jobs)
  more_few k f = subst (λ x. k ≤ length j + length (all_events (net_of x) s jobs)) h.shape f

  left_events : length (all_events (net_of shape0) s left) ≡ length (all_events (net_of shape0) s jobs) + length (all_events (net_of shape0) (run_all (net_of shape0) s jobs) rest)
  left_events = ap (λ (l : List ℕ). length (all_events (net_of shape0) s l)) e ∙ events_append (net_of shape0) jobs rest s

  -- the next jobs ran
  pub way_more : {sh' : S} {s' : State} {j' : List Event} → s' ≡ run_all (net_of sh) s jobs → IsUnclaimed s' → sh' ≡ sh → IsLaterBy 0 j j'
      → length j' ≤ length j + length (all_events (net_of sh) s jobs) → IsOnWay net_of shape0 s0 journal0 all sh' s' j' rest
  way_more {sh'} {s'} {j'} ran free shape later few =
      let step : s' ≡ run_all (net_of shape0) s jobs = ran ∙ ap (λ x. run_all (net_of x) s jobs) h.shape in
      let behind : length (all_events (net_of shape0) s' rest) ≡ length (all_events (net_of shape0) (run_all (net_of shape0) s jobs) rest) =
      ap (λ (u : State). length (all_events (net_of shape0) u rest)) step in
      record {
        ran = ap (λ (u : State). run_all (net_of shape0) u rest) step ∙ sym (run_append (net_of shape0) jobs rest s) ∙ sym (ap (run_all (net_of shape0) s) e) ∙ h.ran;
        free = free;
        shape = shape ∙ h.shape;
        later = later_then journal0 j j' h.later later;
        few = omega (arith, more_few (length j') few, h.few, left_events, behind);
      }

  -- whatever came of the next jobs, there are no more events than all the jobs need
  pub way_within : (k : ℕ) → k ≤ length j + length (all_events (net_of sh) s jobs) → k ≤ length journal0 + length (all_events (net_of shape0) s0 all)
  way_within k few = omega (arith, more_few k few, h.few, left_events)

module _ {S : Type 0} {net_of : S → Net} {shape0 sh : S} {s0 s : State} {journal0 j : List Event} {all left : List ℕ} (code : ℕ) (rest : List ℕ)
    (h : IsOnWay net_of shape0 s0 journal0 all sh s j left) (e : left ≡ code ∷ rest) where
  -- the next job ran
  pub way_next : {sh' : S} {s' : State} {j' : List Event} → s' ≡ run_if_pending (net_of sh) s code → IsUnclaimed s' → sh' ≡ sh → IsLaterBy 0 j j'
      → length j' ≤ length j + length (run_events (net_of sh) s code) → IsOnWay net_of shape0 s0 journal0 all sh' s' j' rest
  way_next {sh'} {s'} {j'} ran free shape later few = way_more (code ∷ []) rest h e ran free shape later (alone_events_few (net_of sh) s code (length j) (length j') few)

  -- whatever came of it
  pub way_few : (k : ℕ) → k ≤ length j + length (run_events (net_of sh) s code) → k ≤ length journal0 + length (all_events (net_of shape0) s0 all)
  way_few k few = way_within (code ∷ []) rest h e k (alone_events_few (net_of sh) s code (length j) k few)

-- after all the jobs there are some more to be run
pub way_longer : {S : Type 0} {net_of : S → Net} {shape0 sh : S} {s0 s : State} {journal0 j : List Event} {all : List ℕ} (more : List ℕ)
    → IsOnWay net_of shape0 s0 journal0 all sh s j [] → IsOnWay net_of shape0 s0 journal0 (all ++ more) sh s j more
way_longer {net_of = net_of} {shape0} {s0 = s0} {s} {journal0} {j} {all} more h =
    let joined = events_append (net_of shape0) all more s0 in
    let behind : length (all_events (net_of shape0) s more) ≡ length (all_events (net_of shape0) (run_all (net_of shape0) s0 all) more) =
    ap (λ (u : State). length (all_events (net_of shape0) u more)) h.ran in
    record {
      ran = ap (λ (u : State). run_all (net_of shape0) u more) h.ran ∙ sym (run_append (net_of shape0) all more s0);
      free = h.free;
      shape = h.shape;
      later = h.later;
      few = omega (arith, h.few, joined, behind);
    }

-- ---- the lowest Pending leaf

next_leaf : (s : State) (i count : ℕ) (b : Bool) → is_pending (s.status (code_of (Leaf i))) ≡ b
    → lowest_pending s i (suc count) ≡ elim b [ true ↦ Some i | false ↦ lowest_pending s (suc i) count ]
next_leaf s i count b e = ap (λ c. elim c [ true ↦ Some i | false ↦ lowest_pending s (suc i) count ]) e

pub lowest_next : (s : State) (i n : ℕ) → i < n → is_pending (s.status (code_of (Leaf i))) ≡ false
    → lowest_pending s i (n - i) ≡ lowest_pending s (i + 1) (n - (i + 1))
lowest_next s i n h e =
    let more : n - i ≡ suc (n - (i + 1)) = omega (arith, h) in
    let up : suc i ≡ i + 1 = omega arith in
    ap (lowest_pending s i) more ∙ next_leaf s i (n - (i + 1)) false e ∙ ap (λ k. lowest_pending s k (n - (i + 1))) up

pub lowest_here : (s : State) (i n : ℕ) → i < n → is_pending (s.status (code_of (Leaf i))) ≡ true → lowest_pending s i (n - i) ≡ Some i
lowest_here s i n h e =
    let more : n - i ≡ suc (n - (i + 1)) = omega (arith, h) in
    ap (lowest_pending s i) more ∙ next_leaf s i (n - (i + 1)) true e

pub lowest_none : (s : State) (n : ℕ) → lowest_pending s n (n - n) ≡ None
lowest_none s n = let none : n - n ≡ 0 = omega arith in ap (lowest_pending s n) none
