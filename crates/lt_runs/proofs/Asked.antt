-- Readers ask one after another.
use Rattle.std.proofs.Common.{◌≡◌, ℕ, ◌+◌, ◌<◌, List, [], ◌∷◌, ◌++◌, length, map, refl, sym, ap, subst, ◌∙◌, arith}
use Rattle.std.specs.List.{AllByRecursion}
use Rattle.std.proofs.lemmas.List.{length-append}
use mathlib.Core.List.{IsPrefix}
use Rattle.logbook.specs.Pages.{Book}
use Rattle.lt_face.proofs.RowLemmas.{each_weaker}
use Rattle.lt_model.specs.declared.normal.Stmt.{Stmt}
use Rattle.lt_model.specs.declared.reply.Reply.{Reply}
use Rattle.lt_model.specs.Fits.{Fits}
use Rattle.lt_model.specs.Run.{run}
use Rattle.lt_base.specs.Tables.{state_of}
use Rattle.lt_readers.specs.declared.reader.Reader.{Reader}
use Rattle.lt_readers.specs.declared.version.Version.{Version}
use Rattle.lt_readers.specs.Boards.{FitsFirst, reader_board, seen}
use Rattle.lt_readers.specs.Lists.{EndsIn}
use Rattle.lt_readers.proofs.Beginnings.{last_get, prefix_get, some_same}
use Rattle.lt_runs.specs.declared.beside.asking.Asker.{Asker}
use Rattle.lt_runs.specs.Asking.{IsToAsk}
use Rattle.lt_runs.specs.Reading.{HasAsked, IsAnswer, IsReady}

pub ready_fits : (program : List Stmt) (log : List Version) → IsReady program log → FitsFirst log program
ready_fits program log r v is = subst (λ (w : Version). Fits (state_of w.db) program) (some_same r.first v (sym r.begins ∙ is)) r.fits

pub ready_later : (program : List Stmt) (xs ys : List Version) → IsReady program xs → IsPrefix xs ys → IsReady program ys
ready_later program xs ys r pre = record { first = r.first; begins = prefix_get xs ys 0 r.first pre r.begins; fits = r.fits }

answer_later : (program : List Stmt) (xs ys : List Version) → IsPrefix xs ys → (answer : ℕ × Reply) → IsAnswer program xs answer → IsAnswer program ys answer
answer_later program xs ys pre answer a = record { place = a.place; version = a.version; there = prefix_get xs ys a.place a.version pre a.there; number = a.number; reply = a.reply }

pub answers_later : (program : List Stmt) (xs ys : List Version) (answers : List (ℕ × Reply)) → IsPrefix xs ys → AllByRecursion (IsAnswer program xs) answers → AllByRecursion (IsAnswer program ys) answers
answers_later program xs ys answers pre all = each_weaker (IsAnswer program xs) (IsAnswer program ys) (answer_later program xs ys pre) answers all

pub each_push : {X : Type 0} (P : X → Type 0) (xs : List X) (x : X) → AllByRecursion P xs → P x → AllByRecursion P (xs ++ x ∷ [])
each_push P [] x all p = (p, tt)
each_push P (y ∷ xs) x all p = (all.0, each_push P xs x all.1 p)

-- a reply on the last version of the list
pub last_answer : (program : List Stmt) (log : List Version) (answer : ℕ × Reply) → ((v : Version) × EndsIn log v × (answer.0 ≡ v.number) × (answer.1 ≡ (run program (state_of v.db)).0)) → IsAnswer program log answer
last_answer program log answer e = let l = last_get log e.0 e.1 in record { place = l.0; version = e.0; there = l.2; number = e.2; reply = e.3 }

-- once more
pub asked_more : (program : List Stmt) (board : Book) (old new : Reader) (answers : List (ℕ × Reply)) (count : ℕ) (answer : ℕ × Reply) → HasAsked program board old answers count
    → IsAnswer program (seen new) answer → IsPrefix (seen old) (seen new) → reader_board new ≡ reader_board old → HasAsked program board new (answers ++ answer ∷ []) (count + 1)
asked_more program board old new answers count answer h a pre same = record {
  ready = ready_later program (seen old) (seen new) h.ready pre;
  board_is = same ∙ h.board_is;
  count_is = let n = length-append answers (answer ∷ []) in omega (arith, n, h.count_is);
  each = each_push (IsAnswer program (seen new)) answers answer (answers_later program (seen old) (seen new) answers pre h.each) a;
}

-- before the first query
pub none_asked : (program : List Stmt) (asker : Asker) → IsToAsk program asker → HasAsked program (reader_board asker.reader) asker.reader asker.answers.items 0
none_asked program asker a = record {
  ready = a.ready;
  board_is = refl;
  count_is = ap length a.new;
  each = subst (AllByRecursion (IsAnswer program (seen asker.reader))) (sym a.new) tt;
}

-- ---- readers that are numbered

mapped_back : {X Y : Type 0} (f : X → Y) (P : Y → Type 0) (xs : List X) → AllByRecursion P (map f xs) → AllByRecursion (λ x. P (f x)) xs
mapped_back f P [] all = tt
mapped_back f P (x ∷ xs) all = (all.0, mapped_back f P xs all.1)

-- what holds of each that they are mapped to
of_mapped : {X Y : Type 0} (f : X → Y) (P : Y → Type 0) (xs : List X) (ys : List Y) → map f xs ≡ ys → AllByRecursion P ys → AllByRecursion (λ x. P (f x)) xs
of_mapped f P xs ys is all = mapped_back f P xs (subst (AllByRecursion P) (sym is) all)

all_three : {X : Type 0} (P Q R S : X → Type 0) → ((x : X) → P x → Q x → R x → S x) → (xs : List X) → AllByRecursion P xs → AllByRecursion Q xs → AllByRecursion R xs → AllByRecursion S xs
all_three P Q R S go [] p q r = tt
all_three P Q R S go (x ∷ xs) p q r = (go x p.0 q.0 r.0, all_three P Q R S go xs p.1 q.1 r.1)

pub all_to_ask : (program : List Stmt) (askers : List Asker) (readers : List Reader) → map (λ (a : Asker). a.reader) askers ≡ readers → AllByRecursion (λ (a : Asker). a.number < 8) askers
    → AllByRecursion (λ (a : Asker). a.answers.items ≡ []) askers → AllByRecursion (λ (r : Reader). IsReady program (seen r)) readers → AllByRecursion (IsToAsk program) askers
all_to_ask program askers readers is few new ready =
    all_three (λ (a : Asker). a.number < 8) (λ (a : Asker). a.answers.items ≡ []) (λ (a : Asker). IsReady program (seen a.reader)) (IsToAsk program)
    (λ a f n r. record { few = f; ready = r; new = n }) askers few new (of_mapped (λ (a : Asker). a.reader) (λ (r : Reader). IsReady program (seen r)) askers readers is ready)

pub boards_of : (board : Book) (askers : List Asker) (readers : List Reader) → map (λ (a : Asker). a.reader) askers ≡ readers → AllByRecursion (λ (r : Reader). reader_board r ≡ board) readers
    → AllByRecursion (λ (a : Asker). reader_board a.reader ≡ board) askers
boards_of board askers readers is all = of_mapped (λ (a : Asker). a.reader) (λ (r : Reader). reader_board r ≡ board) askers readers is all
