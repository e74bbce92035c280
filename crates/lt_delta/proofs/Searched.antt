-- Few marks after many, where the place of each is searched for.
use Rattle.std.proofs.Common.{◌≡◌, ℕ, zero, suc, ◌+◌, ◌<◌, true, false, [], ◌∷◌, ◌++◌, length, take, drop, get_or, refl, sym, ap, ◌∙◌, subst, append_assoc}
use mathlib.Core.Bool.{true≢false}
use Rattle.std.specs.List.{AllByRecursion}
use Rattle.lt_model.specs.declared.mark.Mark.{Mark}
use Rattle.lt_model.specs.Marks.{Marks, AreMarks, mark_cmp, and_then}
use Rattle.lt_delta.specs.Finding.{is_before, IsPlaceFor, tied_at}
use Rattle.lt_delta.proofs.Finds.{less_is}
use Rattle.lt_delta.proofs.Merges.{front_stays, merge_less, merge_equal, merge_greater, rest_ascends, next}
use Rattle.lt_delta.proofs.Puts.{equal_is, above_is}

parted : (xs : Marks) (i : ℕ) → take i xs ++ drop i xs ≡ xs
parted xs zero = refl
parted [] (suc i) = refl
parted (x ∷ xs) (suc i) = ap (λ (l : Marks). x ∷ l) (parted xs i)

-- marks that all come before another stay in front of it
fronts_stay : (before behind : Marks) (y : Mark) (ys : Marks) → AreMarks (y ∷ ys) → AllByRecursion (λ m. is_before y.relation y.row m ≡ true) before → and_then (before ++ behind) (y ∷ ys) ≡ before ++ and_then behind (y ∷ ys)
fronts_stay [] behind y ys up all = refl
fronts_stay (x ∷ before) behind y ys up all = merge_less x y (before ++ behind) ys up (less_is (mark_cmp x y) all.0) ∙ ap (λ (zs : Marks). x ∷ zs) (fronts_stay before behind y ys up all.1)

-- the mark on the row is dropped
pub behind_tied : (marks : Marks) (m : Mark) → tied_at marks 0 m ≡ true → (later : Marks) → AreMarks (m ∷ later) → and_then marks (m ∷ later) ≡ m ∷ and_then (drop 1 marks) later
behind_tied [] m tied later up = absurd (true≢false (sym tied))
behind_tied (x ∷ rest) m tied later up = merge_equal x m rest later up (equal_is (mark_cmp x m) tied)

pub behind_apart : (marks : Marks) (m : Mark) → tied_at marks 0 m ≡ false → AllByRecursion (λ n. is_before m.relation m.row n ≡ false) marks → (later : Marks) → AreMarks (m ∷ later) → and_then marks (m ∷ later) ≡ m ∷ and_then marks later
behind_apart [] m apart after later up = front_stays m [] later up.0
behind_apart (x ∷ rest) m apart after later up = merge_greater x m rest later up (above_is (mark_cmp x m) after.0 apart)

-- one more mark of the second list, and those before it of the first
pub searched : (out mid new left before behind rest second whole : Marks) (j p : ℕ) (y : Mark) → j < length second → y ≡ get_or second j y → AreMarks second → IsPlaceFor left y.relation y.row p
    → before ≡ take p left → behind ≡ drop p left → mid ≡ out ++ before → new ≡ mid ++ y ∷ []
    → ((later : Marks) → AreMarks (y ∷ later) → and_then behind (y ∷ later) ≡ y ∷ and_then rest later)
    → out ++ and_then left (drop j second) ≡ whole → new ++ and_then rest (drop (j + 1) second) ≡ whole
searched out mid new left before behind rest second whole j p y lt is_y up place is_front is_behind is_mid is_new goes done =
    let at : drop j second ≡ y ∷ drop (j + 1) second = next second j y lt ∙ ap (λ (m : Mark). m ∷ drop (j + 1) second) (sym is_y) in
    let rises : AreMarks (y ∷ drop (j + 1) second) = subst (λ (t : Marks). AreMarks t) at (rest_ascends second j up) in
    let cut : left ≡ before ++ behind = sym (ap (λ (l : Marks). l ++ behind) is_front ∙ ap (λ (l : Marks). take p left ++ l) is_behind ∙ parted left p) in
    let first : AllByRecursion (λ m. is_before y.relation y.row m ≡ true) before = subst (AllByRecursion (λ m. is_before y.relation y.row m ≡ true)) (sym is_front) place.before in
    let step : and_then left (drop j second) ≡ before ++ (y ∷ and_then rest (drop (j + 1) second)) =
    ap (and_then left) at ∙ ap (λ (l : Marks). and_then l (y ∷ drop (j + 1) second)) cut ∙ fronts_stay before behind y (drop (j + 1) second) rises first ∙ ap (λ (l : Marks). before ++ l) (goes (drop (j + 1) second) rises) in
    ap (λ (l : Marks). l ++ and_then rest (drop (j + 1) second)) (is_new ∙ ap (λ (l : Marks). l ++ y ∷ []) is_mid)
    ∙ append_assoc (out ++ before) (y ∷ []) (and_then rest (drop (j + 1) second))
    ∙ append_assoc out before (y ∷ and_then rest (drop (j + 1) second))
    ∙ ap (λ (l : Marks). out ++ l) (sym step)
    ∙ done
