-- Over white space and comments, whatever comes behind the bytes.
use Rattle.std.proofs.Common.{◌≡◌, ℕ, ◌+◌, ◌==◌, Bool, true, false, ◌&&◌, List, [], ◌∷◌, ◌++◌, length, take, drop, refl, sym, ap, subst, ◌∙◌, arith}
use Rattle.std.specs.Prelude.{not}
use Rattle.std.specs.List.{prefix_len, list_all}
use Rattle.std.proofs.lemmas.List.{length-drop, take-append-drop}
use Rattle.std.proofs.Transfers.{drop-appended}
use Rattle.lt_model.specs.Tokens.{class_of, white, is_digit, tokens_at}
use Rattle.lt_script.specs.Pieces.{IsBack, Passes, goes_on, Skipped}
use Rattle.lt_script.proofs.Pieces.{run_ends}
use Rattle.lt_script.proofs.Backs.{back_same, back_on, back_tail}
use Rattle.lt_script.proofs.Passing.{passes_none, passes_on, cut_there}
use Rattle.lt_script.proofs.Gaps.{over_white, over_feed, over_comment}

reach : (first line : ℕ) (all bytes : List ℕ) (back : IsBack bytes all) → Passes first back.front [] line bytes → Skipped first all line bytes
reach first line all bytes back h = record { tail = bytes; back = back; passes = h; same = λ some. refl; ends = λ none. subst (λ (us : List ℕ). goes_on us ≡ true) (sym none) refl }

pub skip_none : (line : ℕ) (bytes : List ℕ) → Skipped line bytes line bytes
skip_none line bytes = reach line line bytes bytes (back_same bytes) (passes_none line bytes)

-- the way to the first byte of some
abbrev pub Arrived : ℕ → ℕ → List ℕ → List ℕ → Type 0
Arrived first line all left = (back : IsBack left all) × Passes first back.front [] line left

pub arrives : (first line b : ℕ) (all bytes : List ℕ) → Skipped first all line (b ∷ bytes) → Arrived first line all (b ∷ bytes)
arrives first line b all bytes h = subst (Arrived first line all) (h.same (λ e. absurd cc)) (h.back, h.passes)

-- from there over some bytes more
over : (first line after b : ℕ) (all bytes left : List ℕ) → Skipped first all line (b ∷ bytes) → (back : IsBack left (b ∷ bytes)) → Passes line back.front [] after left → Skipped first all after left
over first line after b all bytes left h back k =
    let way : Arrived first line all (b ∷ bytes) = arrives first line b all bytes h in
    reach first after all left (back_on left (b ∷ bytes) all back way.0) (passes_on first line after left (b ∷ bytes) all [] [] back way.0 way.1 k)

pub skip_white : (first line b : ℕ) (all bytes : List ℕ) → class_of b ≡ white → Skipped first all line (b ∷ bytes) → Skipped first all line bytes
unfolding Passes
skip_white first line b all bytes is h = over first line line b all bytes bytes h (back_tail b bytes) (λ more begins. over_white line b more is)

pub skip_feed : (first line : ℕ) (all bytes : List ℕ) → Skipped first all line (10 ∷ bytes) → Skipped first all (line + 1) bytes
unfolding Passes
skip_feed first line all bytes h = over first line (line + 1) 10 all bytes bytes h (back_tail 10 bytes) (λ more begins. over_feed line more)

abbrev in_line : ℕ → Bool
in_line c = not (c == 10)

digit_in_line : (b : ℕ) → is_digit b ≡ true → in_line b ≡ true
digit_in_line b h = Prim.grind arith

len_case : (p : ℕ → Bool) (x : ℕ) (xs : List ℕ) (b : Bool) → p x ≡ b → (list_all p xs ≡ true → prefix_len p xs ≡ length xs) → list_all p (x ∷ xs) ≡ true → prefix_len p (x ∷ xs) ≡ length (x ∷ xs)
len_case p x xs true e same h = let rest : list_all p xs ≡ true = subst (λ (c : Bool). (c && list_all p xs) ≡ true) e h in rw e (omega (arith, same rest))
len_case p x xs false e same h = let no_run : (false && list_all p xs) ≡ true = subst (λ (c : Bool). (c && list_all p xs) ≡ true) e h in absurd cc

pub run_whole : (p : ℕ → Bool) (xs : List ℕ) → list_all p xs ≡ true → prefix_len p xs ≡ length xs
run_whole p [] h = refl
run_whole p (x ∷ xs) h = len_case p x xs (p x) refl (run_whole p xs) h

pub is_empty : (xs : List ℕ) → length xs ≡ 0 → xs ≡ []
is_empty [] h = refl
is_empty (x ∷ xs) h = absurd (omega (arith, h))

pub skip_comment : (first line : ℕ) (all bytes : List ℕ) → Skipped first all line (35 ∷ bytes) → Skipped first all line (drop (prefix_len in_line bytes) bytes)
unfolding Passes
skip_comment first line all bytes h = go (list_all in_line bytes) refl
  where
    n : ℕ
    n = prefix_len in_line bytes

    go : (b : Bool) → list_all in_line bytes ≡ b → Skipped first all line (drop n bytes)
    go true e = record {
      tail = 35 ∷ bytes;
      back = (arrives first line 35 all bytes h).0;
      passes = (arrives first line 35 all bytes h).1;
      same = λ some. absurd (some (is_empty (drop n bytes) (omega (arith, length-drop n bytes, run_whole in_line bytes e))));
      ends = λ none. e;
    }
    go false e = over first line line 35 all bytes (drop n bytes) h (record { front = 35 ∷ take n bytes; parts = ap (λ (us : List ℕ). 35 ∷ us) (sym (take-append-drop n bytes)) })
        (λ more begins. over_comment line (take n bytes ++ more) ∙ ap (λ k. tokens_at line (drop k (take n bytes ++ more))) (cut_there in_line bytes more digit_in_line (run_ends in_line bytes e) begins)
        ∙ ap (tokens_at line) (drop-appended (take n bytes) (take n bytes ++ more) more refl))
