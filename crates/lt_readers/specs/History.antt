-- The rule of the history, and what its step tells.
use Rattle.std.specs.Prelude.{ℕ, ◌≡◌, ◌==◌, suc, true, List, [], ◌∷◌, ◌++◌, length, MatchBool}
use Rattle.logbook.specs.Pages.{Cell, Step, View, Book, Named}
use Rattle.lt_readers.specs.declared.version.Version.{Version}
use Rattle.lt_readers.specs.Lists.{IsHistory}

-- the word is the number of versions behind the first
pub record IsKept (cells : List Cell) (log : List Version) : Type 0 where
  pub posts : ℕ
  pub words : cells ≡ (posts, true) ∷ []
  pub count : length log ≡ suc posts
  pub legal : IsHistory log

abbrev pub head_of : Book → Named
head_of b = record { tracked = true; key = 0; book = b }

-- the version was added to all that had been seen; or the history was longer
abbrev pub Adds : Step Version → View Version ℕ → ℕ → View Version ℕ → Type 0
Adds s v found w = MatchBool (found == s.old) (w.0 ≡ v.0 ++ s.ask ∷ []) (Unit {0})
