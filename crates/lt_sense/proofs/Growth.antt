-- Cells and places in lists that grow at their ends.
use Rattle.std.proofs.Common.{◌≡◌, ℕ, zero, suc, ◌+◌, ◌-◌, ◌<◌, ◌≤◌, Bool, true, false, ◌||◌, List, [], ◌∷◌, ◌++◌, map, length, drop, take, get_or, slice_get, Some, Result, Ok, Err, OnErr, refl, sym, ap, ◌∙◌, subst, arith, append-nil}
use Rattle.std.specs.List.{list_any}
use Rattle.std.proofs.lemmas.List.{length-drop, take-append-le, take_at, drop_at}
use Rattle.lt_sense.specs.declared.pieces.Piece.{Piece}
use Rattle.lt_sense.specs.Pieces.{piece_of, IsPiece}

pub get_before : {X : Type 0} (xs more : List X) (i : ℕ) → i < length xs → slice_get (xs ++ more) i ≡ slice_get xs i
get_before [] more i lt = absurd (omega arith)
get_before (x ∷ xs) more zero lt = refl
get_before (x ∷ xs) more (suc i) lt = get_before xs more i (omega arith)

pub get_next : {X : Type 0} (xs : List X) (x : X) → slice_get (xs ++ x ∷ []) (length xs) ≡ Some x
get_next [] x = refl
get_next (y ∷ xs) x = get_next xs x

drop_before : {X : Type 0} (n : ℕ) (xs more : List X) → n ≤ length xs → drop n (xs ++ more) ≡ drop n xs ++ more
drop_before zero xs more le = refl
drop_before (suc n) [] more le = absurd (omega arith)
drop_before (suc n) (x ∷ xs) more le = drop_before n xs more (omega arith)

pub piece_before : (cells more : List ℕ) (piece : Piece) → IsPiece cells piece → piece_of (cells ++ more) piece ≡ piece_of cells piece
piece_before cells more piece is =
    let n = length-drop piece.start cells in
    let within = is.0 in
    rw (drop_before piece.start cells more (omega arith))
    (take-append-le (piece.start + piece.width - piece.start) (drop piece.start cells) more (omega arith))

pub piece_next : (cells row : List ℕ) → piece_of (cells ++ row) (record { start = length cells; width = length row }) ≡ row
piece_next cells row =
    rw (drop_at cells row (length cells) refl)
    (let n : length cells + length row - length cells ≡ length row = omega arith in ap (λ k. take k row) n ∙ ap (λ r. take (length row) r) (sym (append-nil row)) ∙ take_at row [] (length row) refl)

pub still_piece : (cells more : List ℕ) (piece : Piece) → IsPiece cells piece → IsPiece (cells ++ more) piece
still_piece cells more piece is = (longer cells more (piece.start + piece.width) is.0, is.1)
  where
    longer : (xs ys : List ℕ) (n : ℕ) → n ≤ length xs → n ≤ length (xs ++ ys)
    longer [] ys n le = omega arith
    longer (x ∷ xs) ys zero le = omega arith
    longer (x ∷ xs) ys (suc n) le = (let e = longer xs ys n (omega arith) in omega arith)

pub longer : {X : Type 0} (xs ys : List X) (n : ℕ) → n < length xs → n < length (xs ++ ys)
longer [] ys n lt = absurd (omega arith)
longer (x ∷ xs) ys zero lt = omega arith
longer (x ∷ xs) ys (suc n) lt = (let e = longer xs ys n (omega arith) in omega arith)

pub any_there : {X Y : Type 0} (p : Y → Bool) (f : X → Y) (xs : List X) (i : ℕ) (x : X) → i < length xs → x ≡ get_or xs i x → p (f x) ≡ true → list_any p (map f xs) ≡ true
any_there p f [] i x lt at good = absurd (omega arith)
any_there p f (y ∷ xs) zero x lt at good = subst (λ z. (p (f z) || list_any p (map f xs)) ≡ true) at (rw good refl)
any_there p f (y ∷ xs) (suc i) x lt at good = by (p (f y)) (any_there p f xs i x (omega arith) at good)
  where
    by : (b : Bool) → list_any p (map f xs) ≡ true → (b || list_any p (map f xs)) ≡ true
    by true h = refl
    by false h = h

pub on_err : {T E P : Type 0} (result : Result T E) → P → OnErr result P
on_err (Ok value) p = tt
on_err (Err error) p = p
