-- The rule of the two copies.
use Rattle.std.specs.Prelude.{◌≡◌, ◌≢◌, ℕ, List, Some, None}
use mathlib.Core.Option.{some}
use lib.ListN.{get_elem?}
use Rattle.logbook.specs.Pages.{Book}
use Rattle.lt_readers.specs.declared.front.Front.{Front}
use Rattle.lt_readers.specs.declared.pass.View.{View}

-- who knows nothing yet
abbrev pub unknowing : View
unknowing = record { of = None }

-- the history that is known, if one is, is this one
abbrev pub Tells : View → Book → Type 0
Tells v book = (s : _) → v.of ≡ Some s → s.book ≡ book

-- a history is known, and it is this one
abbrev pub Knows : View → Book → Type 0
Knows v book = (v.of ≢ None) × Tells v book

abbrev pub Kept : Front → List View → Type 0
Kept front views = (i : ℕ) (v : View) → get_elem? views i ≡ some v → Tells v front.seen.book

abbrev pub Met : View → Front → Front → View → Type 0
Met v x y w = (w ≡ v) × Tells v y.seen.book

abbrev pub Shown : View → Front → Front → View → Type 0
Shown v x y w = w ≡ record { of = Some y.seen }
