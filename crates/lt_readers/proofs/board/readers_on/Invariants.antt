use Rattle.std.proofs.Common.{◌≡◌, length}
use Rattle.std.specs.List.{AllByRecursion}
use Rattle.left_right.specs.Sides.{view}
use Rattle.lt_readers.specs.declared.reader.Reader.{Reader}
use Rattle.lt_readers.specs.Boards.{seen, reader_board}
use Rattle.lt_readers.proofs.board.readers_on.Given as goal

abbrev pub invariant-loop-place : goal.invariant-loop-place
invariant-loop-place l =
    (l.desk.desk.shown ≡ l.initial.desk.desk.shown)
    × (view l.desk.desk.place ≡ view l.initial.desk.desk.place)
    × (length l.all.items ≡ l._place)
    × AllByRecursion (λ (r : Reader). (seen r ≡ l.front.seen.log) × (reader_board r ≡ l.front.seen.book)) l.all.items
