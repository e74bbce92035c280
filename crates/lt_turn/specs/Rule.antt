-- The rule of the turn, over one word and one slot, and what each step tells.
-- The word is twice the number of entries, and 1 more while a seat holds the turn.
use Rattle.std.specs.Prelude.{◌≡◌, ◌≢◌, ℕ, ◌+◌, ◌*◌, ◌<◌, ◌≤◌, ◌==◌, ◌⊎◌, List, [], ◌∷◌, ◌++◌, length, Option, Some, None, MatchBool, cond, ltb}
use mathlib.Core.Option.{some}
use lib.ListN.{get_elem?}
use Rattle.atomic_table.specs.Table.{State, Me, Step}
use Rattle.lt_turn.specs.declared.view.View.{View}
use Rattle.lt_turn.specs.Journal.{Entry, Extends, GoesOn}

-- the longer of two journals
abbrev pub longer : List Entry → List Entry → List Entry
longer xs ys = cond (ltb (length xs) (length ys)) ys xs

-- the journals that two seats had seen are beginnings of the longer one, in which no entry of theirs follows them
abbrev pub Compares : ℕ → ℕ → List Entry → Option (ℕ × List Entry × List Entry) → Type 0
Compares first end seen None = Unit {0}
Compares first end seen (Some m) = Extends first m.0 m.1 seen × Extends m.0 end m.2 seen

module _ {O : Type 0} where
  -- the view of the first seat
  abbrev pub opening_view : O → List Entry → ℕ → View O
  opening_view x log workers = record { opening = Some x; begun = log; workers = workers; first = 0; end = workers; seen = log; taken = None; met = None }

  -- the view while the seat holds the turn
  abbrev pub holding : View O → List Entry → View O
  holding v log = record { opening = v.opening; begun = v.begun; workers = v.workers; first = v.first; end = v.end; seen = v.seen; taken = Some log; met = v.met }

  -- the view after the seat gave a value with this journal back
  abbrev pub caught_up : View O → List Entry → View O
  caught_up v log = record { opening = v.opening; begun = v.begun; workers = v.workers; first = v.first; end = v.end; seen = log; taken = None; met = None }

  -- the numbers below at, and those from it on
  abbrev pub below : ℕ → View O → View O
  below at v = record { opening = v.opening; begun = v.begun; workers = v.workers; first = v.first; end = at; seen = v.seen; taken = v.taken; met = None }

  abbrev pub above : ℕ → View O → View O
  above at v = record { opening = v.opening; begun = v.begun; workers = v.workers; first = at; end = v.end; seen = v.seen; taken = None; met = None }

  -- the view with another's numbers behind its own
  abbrev pub joined : View O → View O → View O
  joined v w = record { opening = v.opening; begun = v.begun; workers = v.workers; first = v.first; end = w.end; seen = longer v.seen w.seen; taken = None; met = None }

  -- the same until the two journals were compared
  abbrev pub meeting : View O → View O → View O
  meeting v w = record { opening = v.opening; begun = v.begun; workers = v.workers; first = v.first; end = w.end; seen = longer v.seen w.seen; taken = None; met = Some (v.end, v.seen, w.seen) }

  abbrev pub calm : View O → View O
  calm v = record { opening = v.opening; begun = v.begun; workers = v.workers; first = v.first; end = v.end; seen = v.seen; taken = v.taken; met = None }

  -- a seat that has no number any more
  abbrev pub spent : View O
  spent = record { opening = None; begun = []; workers = 0; first = 0; end = 0; seen = []; taken = None; met = None }

  abbrev pub AreApart : View O → View O → Type 0
  AreApart v w = (v.end ≤ w.first) ⊎ (w.end ≤ v.first)

  pub record Fits (base : O) (begun : List Entry) (workers : ℕ) (log : List Entry) (bit holder j : ℕ) (v : View O) : Type 0 where
    pub opening_is : v.opening ≡ Some base
    pub begun_is : v.begun ≡ begun
    pub workers_is : v.workers ≡ workers
    pub within : v.end ≤ workers
    pub since : (rest : List Entry) × (v.seen ≡ begun ++ rest)
    pub extends : Extends v.first v.end v.seen log
    pub compares : Compares v.first v.end v.seen v.met
    pub holds : (v.taken ≡ None) ⊎ ((bit ≡ 1) × (holder ≡ j) × (v.taken ≡ Some log))

module _ {T O : Type 0} (opening : T → O) (journal : T → List Entry) where
  pub record Passed (s : State (Option T) (View O)) : Type 0 where
    pub base : O
    pub begun : List Entry
    pub workers : ℕ
    pub log : List Entry
    pub bit : ℕ
    pub holder : ℕ
    pub words : s.words ≡ (2 * length log + bit) ∷ []
    pub flag : bit ≤ 1
    pub free : bit ≡ 0 → (x : T) × (s.homes ≡ some (Some x) ∷ []) × (opening x ≡ base) × (journal x ≡ log)
    pub held : bit ≡ 1 → (v : View O) × (get_elem? s.views holder ≡ some v) × (v.first < v.end) × (v.taken ≡ Some log)
    pub goes_on : GoesOn workers begun log
    pub seats : (j : ℕ) (v : View O) → get_elem? s.views j ≡ some v → v.first < v.end → Fits base begun workers log bit holder j v
    pub apart : (i j : ℕ) (v w : View O) → i ≢ j → get_elem? s.views i ≡ some v → get_elem? s.views j ≡ some w → v.first < v.end → w.first < w.end → AreApart v w

  -- the turn was taken, with this value
  abbrev pub Takes : T → Me (Option T) (View O) → Me (Option T) (View O) → Type 0
  Takes x m r = (m.0.opening ≡ Some (opening x)) × Extends m.0.first m.0.end m.0.seen (journal x) × GoesOn m.0.workers m.0.begun (journal x) × (r ≡ (holding m.0 (journal x), (0, Some x) ∷ m.1))

  abbrev pub tried : Step (Option T) → Me (Option T) (View O) → ℕ → Me (Option T) (View O) → Type 0
  tried s m n r = MatchBool (n == s.first) ((x : T) × Takes x m r) (r ≡ m)

module _ {T O : Type 0} (journal : T → List Entry) where
  -- the value that the seat had in its slot is back
  abbrev pub freed : Step (Option T) → Me (Option T) (View O) → ℕ → Me (Option T) (View O) → Type 0
  freed s m n r = (y : T) → m.1 ≡ (0, Some y) ∷ [] → r ≡ (caught_up m.0 (journal y), [])

-- the journals that were seen are compared
abbrev pub compared : {T O : Type 0} → Step (Option T) → Me (Option T) (View O) → ℕ → Me (Option T) (View O) → Type 0
compared s m n r = (r ≡ (calm m.0, m.1)) × Compares m.0.first m.0.end m.0.seen m.0.met
