-- What a poster, a reader and what is told have seen, and of which board they are.
use Rattle.std.specs.Prelude.{◌≡◌, List, slice_get, Some}
use Rattle.logbook.specs.Pages.{Book}
use Rattle.lt_model.specs.declared.normal.Stmt.{Stmt}
use Rattle.lt_model.specs.Fits.{Fits}
use Rattle.lt_base.specs.Tables.{state_of}
use Rattle.lt_readers.specs.declared.poster.Poster.{Poster}
use Rattle.lt_readers.specs.declared.reader.Reader.{Reader}
use Rattle.lt_readers.specs.declared.told.Told.{Told}
use Rattle.lt_readers.specs.declared.version.Version.{Version}

abbrev pub posted : Poster → List Version
posted p = p.front.seen.log

abbrev pub seen : Reader → List Version
seen r = r.front.seen.log

abbrev pub told : Told → List Version
told t = t.front.seen.log

abbrev pub poster_board : Poster → Book
poster_board p = p.front.seen.book

abbrev pub reader_board : Reader → Book
reader_board r = r.front.seen.book

abbrev pub told_board : Told → Book
told_board t = t.front.seen.book

-- the program fits the first version
abbrev pub FitsFirst : List Version → List Stmt → Type 0
FitsFirst log program = (v : Version) → slice_get log 0 ≡ Some v → Fits (state_of v.db) program
