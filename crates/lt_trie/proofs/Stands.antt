-- What a place in a set of rows says of the keys around it, and what moves keep of it.
use Rattle.std.proofs.Common.{◌≡◌, ℕ, zero, suc, ◌-◌, ◌<◌, ◌≤◌, Bool, true, false, not, length, get_or, take, drop, List, [], ◌∷◌, ◌++◌, Some, None, refl, sym, ap, ◌∙◌, subst, arith, slice_index, slice_get, is_some, cond, nat_lt, inl, inr, length-drop, take_all, append_assoc}
use Rattle.std.specs.Prelude.{unwrap_or}
use mathlib.Core.Bool.{true≢false}
use Rattle.std.specs.List.{AllByRecursion}
use Rattle.std.specs.declared.cmp.Ordering.TheVariants.{Less}
use Rattle.std.specs.Ordering.{is_lt}
use Rattle.std.proofs.lemmas.Bool.{cases_lt}
use Rattle.std.proofs.lemmas.Bool.Decides.{nat_tests}
use Rattle.lt_face.specs.Keys.{end_key}
use Rattle.lt_face.specs.Rows.{row_cmp, IsRow, IsAscending, IsRowSet, IsRun, first_from}
use Rattle.lt_face.proofs.RowLemmas.{each_weaker, each_at, ascending_at}
use Rattle.lt_trie.specs.Under.{next_cell, key_of}
use Rattle.lt_trie.specs.Stand.{cell_at, ComeFirst, IsUnder, IsRising, IsCut, IsStand, IsLanded}
use Rattle.lt_trie.proofs.Cells.{lt-next_cell, none_after, cells_rise, lands}
use Rattle.lt_trie.proofs.Runs.{none_of}
use Rattle.lt_trie.proofs.Firsts.{each_left, each_right, each_both, each_drop, ascending_left, ascending_right, cut_again, below_more, under_below, under_not_below, not_below_after, none_from, first_past, first_here, first_is}

-- ---- the rows at hand

pub run_each : (P : List ℕ → Type 0) (rows front run back : List (List ℕ)) → rows ≡ front ++ (run ++ back) → AllByRecursion P rows → AllByRecursion P run
run_each P rows front run back split all = each_left P run back (each_right P front (run ++ back) (subst (AllByRecursion P) split all))

run_ascends : (rows front run back : List (List ℕ)) → rows ≡ front ++ (run ++ back) → IsAscending rows → IsAscending run
run_ascends rows front run back split up = ascending_left run back (ascending_right front (run ++ back) (subst IsAscending split up))

all_wide : (width n : ℕ) (rows : List (List ℕ)) → n < width → AllByRecursion (IsRow width) rows → AllByRecursion (λ row. n < length row) rows
all_wide width n rows lt all = each_weaker (IsRow width) (λ row. n < length row) (λ row is. let e = is.is_wide in omega arith) rows all

pub run_wide : (width n : ℕ) (rows run : List (List ℕ)) → n < width → IsRowSet width rows → IsRun rows run → AllByRecursion (λ row. n < length row) run
run_wide width n rows run lt set is = all_wide width n run lt (run_each (IsRow width) rows is.before run is.after is.whole set.each)

pub wide_at : (n : ℕ) (run : List (List ℕ)) (i : ℕ) (r : List ℕ) → AllByRecursion (λ row. n < length row) run → i < length run → r ≡ get_or run i r → n < length r
wide_at n run i r wide lt is = subst (λ row. n < length row) (sym is) (each_at (λ row. n < length row) run i r wide lt)

pub stand_wide_at : (width n : ℕ) (rows : List (List ℕ)) (p : List ℕ) (k : ℕ) (run : List (List ℕ)) (end : ℕ) (whole : Bool) → n < width → IsRowSet width rows → IsStand rows p k run end whole → AllByRecursion (λ row. n < length row) run
stand_wide_at width n rows p k run end whole lt set s = all_wide width n run lt (run_each (IsRow width) rows s.front run s.back s.split set.each)

pub stand_wide : (width : ℕ) (rows : List (List ℕ)) (p : List ℕ) (k : ℕ) (run : List (List ℕ)) (end : ℕ) (whole : Bool) → length p < width → IsRowSet width rows → IsStand rows p k run end whole → AllByRecursion (λ row. length p < length row) run
stand_wide width rows p k run end whole lt set s = stand_wide_at width (length p) rows p k run end whole lt set s

pub first_wide : (width n : ℕ) (rows : List (List ℕ)) (p : List ℕ) (k : ℕ) (run : List (List ℕ)) (end : ℕ) (whole : Bool) → n < width → IsRowSet width rows → IsStand rows p k run end whole → n < length (get_or run 0 [])
first_wide width n rows p k run end whole lt set s = each_at (λ row. n < length row) run 0 [] (stand_wide_at width n rows p k run end whole lt set s) s.some

rising : (p : List ℕ) (run : List (List ℕ)) → IsAscending run → AllByRecursion (IsUnder p) run → IsRising run (length p)
rising p run up under i j le lt =
    elim (cases_lt i j) [
      | inl before ↦ cells_rise p (get_or run i []) (get_or run j []) _ _ (ascending_at run i j [] up before lt) (each_at (IsUnder p) run i [] under (omega arith)) (each_at (IsUnder p) run j [] under lt)
      | inr after ↦ let same : i ≡ j = omega arith in subst (λ n. cell_at run i (length p) ≤ cell_at run n (length p)) same (omega arith)
    ]

pub stand_rising : (rows : List (List ℕ)) (p : List ℕ) (k : ℕ) (run : List (List ℕ)) (end : ℕ) (whole : Bool) → IsAscending rows → IsStand rows p k run end whole → IsRising run (length p)
stand_rising rows p k run end whole up s = rising p run (run_ascends rows s.front run s.back s.split up) s.under

-- rows below a bound by their cells
low_below : (p : List ℕ) (b : ℕ) (run : List (List ℕ)) (n : ℕ) → AllByRecursion (IsUnder p) run → n ≤ length run → ((i : ℕ) → i < n → cell_at run i (length p) < b) → AllByRecursion (λ r. row_cmp r (p ++ b ∷ []) ≡ Less) (take n run)
low_below p b run zero under le low = tt
low_below p b [] (suc n) under le low = tt
low_below p b (r ∷ run) (suc n) under le low = (under_below p r b under.0 (low 0 (omega arith)), low_below p b run n under.1 (omega arith) (λ i lt. low (suc i) (omega arith)))

-- ---- a search of the set

-- what was found isn't below the bound, nor what follows it
found_past : (q : List ℕ) (rows before run after : List (List ℕ)) → IsAscending rows → rows ≡ before ++ (run ++ after) → slice_get run 0 ≡ first_from rows q → AllByRecursion (λ s. is_lt (row_cmp s q) ≡ false) run
found_past q rows before [] after up whole first = tt
found_past q rows before (r ∷ rest) after up whole first =
    let found = first_is before (rest ++ after) r q (subst IsAscending whole up) (ap (λ t. first_from t q) (sym whole) ∙ sym first) in
    let above = run_ascends rows before (r ∷ rest) after whole up in
    (found.1, each_weaker (λ s. row_cmp r s ≡ Less) (λ s. is_lt (row_cmp s q) ≡ false) (λ s lt. not_below_after q r s found.1 lt) rest above.0)

pub come_first : (p : List ℕ) (b : ℕ) (rows run : List (List ℕ)) → IsAscending rows → IsRun rows run → slice_get run 0 ≡ first_from rows (p ++ b ∷ []) → ComeFirst p run
come_first p b rows run up is first i j le lt some =
    elim (cases_lt i j) [
      | inl before ↦ by (is_some (next_cell p (get_or run i []))) refl before
      | inr after ↦ let same : j ≡ i = omega arith in subst (λ n. is_some (next_cell p (get_or run n [])) ≡ true) same some
    ]
  where
    by : (t : Bool) → is_some (next_cell p (get_or run i [])) ≡ t → i < j → t ≡ true
    by true e before = refl
    by false e before =
        let past = each_at (λ s. is_lt (row_cmp s (p ++ b ∷ [])) ≡ false) run i [] (found_past (p ++ b ∷ []) rows is.before run is.after up is.whole first) (omega arith) in
        let below = ascending_at run i j [] (run_ascends rows is.before run is.after is.whole up) before lt in
        let none = none_after p (get_or run i []) (get_or run j []) b (none_of (next_cell p (get_or run i [])) e) past below in
        absurd (true≢false (sym some ∙ ap is_some none))

key_none : (p q : List ℕ) (xs : List (List ℕ)) → AllByRecursion (λ r. next_cell p r ≡ None) xs → key_of p (first_from xs q) ≡ end_key
key_none p q [] none = refl
key_none p q (r ∷ xs) none =
    elim (is_lt (row_cmp r q)) as (λ t. key_of p (cond (not t) (Some r) (first_from xs q)) ≡ end_key) [
      | true ↦ key_none p q xs none.1
      | false ↦ ap (λ o. unwrap_or o end_key) none.0
    ]

key_none_first : (p : List ℕ) (xs : List (List ℕ)) → AllByRecursion (λ r. next_cell p r ≡ None) xs → key_of p (slice_get xs 0) ≡ end_key
key_none_first p [] none = refl
key_none_first p (r ∷ xs) none = ap (λ o. unwrap_or o end_key) none.0

pub landed_none : (rows : List (List ℕ)) (p : List ℕ) (b : ℕ) (found run : List (List ℕ)) (end : ℕ) (whole : Bool) → IsAscending rows → slice_get found 0 ≡ first_from rows (p ++ b ∷ []) → AllByRecursion (λ r. next_cell p r ≡ None) found
    → IsLanded rows p b end_key run end whole
landed_none rows p b found run end whole up first none = record {
  least = sym (key_none_first p found none) ∙ ap (key_of p) first ∙ lands p rows b up;
  stand = λ differs. absurd (differs refl);
}

pub none_past : (p : List ℕ) (b : ℕ) (xs after : List (List ℕ)) → 0 < length xs → AllByRecursion (λ r. next_cell p r ≡ None) xs → AllByRecursion (λ s. is_lt (row_cmp s (p ++ b ∷ [])) ≡ false) xs → IsAscending (xs ++ after)
    → AllByRecursion (λ r. next_cell p r ≡ None) (xs ++ after)
none_past p b [] after some none past up = absurd (omega arith)
none_past p b (s ∷ xs) after some none past up = (none.0, none_from p s (xs ++ after) b none.0 past.0 up.0)

pub cut_ascends : (rows before run after : List (List ℕ)) (n : ℕ) → IsAscending rows → rows ≡ before ++ (run ++ after) → IsAscending (drop n run ++ after)
cut_ascends rows before run after n up whole =
    ascending_right (take n run) (drop n run ++ after) (ascending_right before (take n run ++ (drop n run ++ after)) (subst IsAscending (whole ∙ ap (λ t. before ++ t) (cut_again run after n)) up))

le_of_not_lt : (c b : ℕ) → nat_lt c b ≡ false → b ≤ c
le_of_not_lt c b h = grind (arith, nat_tests)

lt_of : (c b : ℕ) → nat_lt c b ≡ true → c < b
lt_of c b h = grind (arith, nat_tests)

pub landed_found : (rows : List (List ℕ)) (p : List ℕ) (b : ℕ) (run : List (List ℕ)) (n key : ℕ) → IsAscending rows → IsRun rows run → slice_get run 0 ≡ first_from rows (p ++ b ∷ []) → 0 < n → n ≤ length run
    → AllByRecursion (IsUnder p) (take n run) → AllByRecursion (λ r. next_cell p r ≡ None) (drop n run) → cell_at run 0 (length p) ≡ key
    → IsLanded rows p b key (take n run) 0 (nat_lt n (length run))
landed_found rows p b run zero key up is first some within under others at = absurd (omega arith)
landed_found rows p b [] (suc n) key up is first some within under others at = absurd (omega arith)
landed_found rows p b (r ∷ rest) (suc n) key up is first some within under others at =
    let run = r ∷ rest in
    let found = first_is is.before (rest ++ is.after) r (p ++ b ∷ []) (subst IsAscending is.whole up) (ap (λ t. first_from t (p ++ b ∷ [])) (sym is.whole) ∙ sym first) in
    let le : b ≤ slice_index r (length p) = le_of_not_lt (slice_index r (length p)) b (sym (lt-next_cell p r b (slice_index r (length p)) under.0) ∙ found.1) in
    let le_key : b ≤ key = omega (arith, le, at) in
    record {
      least = sym at ∙ ap (λ o. unwrap_or o end_key) (sym under.0) ∙ ap (key_of p) first ∙ lands p rows b up;
      stand = λ _. record {
        front = is.before;
        back = drop (suc n) run ++ is.after;
        split = is.whole ∙ ap (λ t. is.before ++ t) (cut_again run is.after (suc n));
        some = omega arith;
        at_key = at;
        passed = each_weaker (λ s. row_cmp s (p ++ b ∷ []) ≡ Less) (λ s. row_cmp s (p ++ key ∷ []) ≡ Less) (λ s lt. below_more p s b key le_key lt) is.before found.0;
        under = under;
        ended = λ lt. absurd (omega arith);
        last = λ e.
            let short : suc n < length run = lt_of (suc n) (length run) e in
            let long : 0 < length (drop (suc n) run) = (let d = length-drop (suc n) run in omega (arith, d, short)) in
            none_past p b (drop (suc n) run) is.after long others
            (each_drop (λ s. is_lt (row_cmp s (p ++ b ∷ [])) ≡ false) (suc n) run (found_past (p ++ b ∷ []) rows is.before run is.after up is.whole first))
            (cut_ascends rows is.before run is.after (suc n) up is.whole);
      };
    }

-- ---- moves past the rows at hand and among them

front_below : (rows : List (List ℕ)) (p : List ℕ) (k b : ℕ) (run : List (List ℕ)) (end : ℕ) (whole : Bool) → k ≤ b → (s : IsStand rows p k run end whole) → AllByRecursion (λ r. row_cmp r (p ++ b ∷ []) ≡ Less) s.front
front_below rows p k b run end whole le s = each_weaker (λ r. row_cmp r (p ++ k ∷ []) ≡ Less) (λ r. row_cmp r (p ++ b ∷ []) ≡ Less) (λ r lt. below_more p r k b le lt) s.front s.passed

pub landed_past : (rows : List (List ℕ)) (p : List ℕ) (k b : ℕ) (run : List (List ℕ)) (end : ℕ) (whole : Bool) → IsAscending rows → IsStand rows p k run end whole → k < b → IsCut run (length p) b (length run) → whole ≡ true
    → IsLanded rows p b end_key run end whole
landed_past rows p k b run end whole up s lt cut last =
    let q = p ++ b ∷ [] in
    let below : AllByRecursion (λ r. row_cmp r q ≡ Less) run = subst (AllByRecursion (λ (r : List ℕ). row_cmp r q ≡ Less)) (take_all (length run) run (omega arith)) (low_below p b run (length run) s.under (omega arith) cut.low) in
    record {
      least = sym (key_none p q s.back (s.last last)) ∙ ap (key_of p) (sym (first_past s.front (run ++ s.back) q (front_below rows p k b run end whole (omega arith) s) ∙ first_past run s.back q below)) ∙ ap (λ t. key_of p (first_from t q)) (sym s.split) ∙ lands p rows b up;
      stand = λ differs. absurd (differs refl);
    }

pub drop_here : (xs : List (List ℕ)) (n : ℕ) → n < length xs → drop n xs ≡ get_or xs n [] ∷ drop (suc n) xs
drop_here [] n lt = absurd (omega arith)
drop_here (x ∷ xs) zero lt = refl
drop_here (x ∷ xs) (suc n) lt = drop_here xs n (omega arith)

drop_first : (xs : List (List ℕ)) (n column : ℕ) → n < length xs → cell_at (drop n xs) 0 column ≡ cell_at xs n column
drop_first xs n column lt = rw (drop_here xs n lt) refl

take_rest : (xs : List (List ℕ)) (n : ℕ) → take (length xs - n) (drop n xs) ≡ drop n xs
take_rest xs n = subst (λ m. take m (drop n xs) ≡ drop n xs) (length-drop n xs) (take_all (length (drop n xs)) (drop n xs) (omega arith))

pub moved : (rows : List (List ℕ)) (p : List ℕ) (k b : ℕ) (run : List (List ℕ)) (end : ℕ) (whole : Bool) (n key : ℕ) → IsAscending rows → IsStand rows p k run end whole → k < b → n < length run
    → ((i : ℕ) → i < n → cell_at run i (length p) < b) → cell_at run n (length p) ≡ key → b ≤ key
    → IsLanded rows p b key (take (length run - n) (drop n run)) 0 whole
moved rows p k b run end whole n key up s lt within low at high =
    let q = p ++ b ∷ [] in
    let r = get_or run n [] in
    let under_here : IsUnder p r = each_at (IsUnder p) run n [] s.under within in
    let past : is_lt (row_cmp r q) ≡ false = under_not_below p r b under_here (omega (arith, at, high)) in
    let split = s.split ∙ ap (λ t. s.front ++ t) (cut_again run s.back n) in
    let found : first_from rows q ≡ Some r =
    ap (λ t. first_from t q) split
    ∙ first_past s.front (take n run ++ (drop n run ++ s.back)) q (front_below rows p k b run end whole (omega arith) s)
    ∙ first_past (take n run) (drop n run ++ s.back) q (low_below p b run n s.under (omega arith) low)
    ∙ ap (λ t. first_from (t ++ s.back) q) (drop_here run n within)
    ∙ first_here r (drop (suc n) run ++ s.back) q past in
    subst (λ t. IsLanded rows p b key t 0 whole) (sym (take_rest run n)) (record {
      least = sym at ∙ ap (λ o. unwrap_or o end_key) (sym under_here) ∙ ap (key_of p) (sym found) ∙ lands p rows b up;
      stand = λ _. record {
        front = s.front ++ take n run;
        back = s.back;
        split = split ∙ sym (append_assoc s.front (take n run) (drop n run ++ s.back));
        some = (let d = length-drop n run in omega (arith, d, within));
        at_key = drop_first run n (length p) within ∙ at;
        passed = each_both (λ t. row_cmp t (p ++ key ∷ []) ≡ Less) s.front (take n run)
            (front_below rows p k key run end whole (omega arith) s)
            (low_below p key run n s.under (omega arith) (λ i before. let l = low i before in omega (arith, l, high)));
        under = each_drop (IsUnder p) n run s.under;
        ended = λ le. absurd (omega arith);
        last = s.last;
      };
    })

-- no key up to the next place is at the bound
pub next_low : (rows : List (List ℕ)) (p : List ℕ) (k b : ℕ) (run : List (List ℕ)) (end : ℕ) (whole : Bool) (next : ℕ) → IsStand rows p k run end whole → k < b → (end ≡ 0 → next ≡ 1) → (0 < end → next ≡ end)
    → (i : ℕ) → i < next → cell_at run i (length p) < b
next_low rows p k b run end whole next s lt one far i before =
    elim (cases_lt 0 end) [
      | inl known ↦ (let cut = s.ended known in let is = far known in let l = cut.low i (omega (arith, is, before)) in omega (arith, l, lt))
      | inr none ↦
          let is = one (omega (arith, none)) in
          let first : 0 ≡ i = omega (arith, is, before) in
          let key = s.at_key in
          subst (λ j. cell_at run j (length p) < b) first (omega (arith, key, lt))
    ]
