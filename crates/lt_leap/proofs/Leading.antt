-- Moves one after another, and what the notes gain of them.
use Rattle.std.proofs.Common.{◌≡◌, ℕ, ◌+◌, ◌≤◌, List, [], ◌∷◌, ◌++◌, length, set, Option, Result, Ok, Err, refl, sym, ap, subst, ◌∙◌, inl, inr, arith}
use Rattle.std.specs.Prelude.{OnErr}
use Rattle.std.proofs.lemmas.Grind.{common_steps}
use Rattle.lt_face.specs.declared.key.Gap.{Gap}
use Rattle.lt_leap.specs.Noted.{gained, Gains}
use Rattle.lt_leap.specs.Moves.{IsMove, Leads, AreGapsOf, AreMade, IsGivenUp}
use Rattle.lt_leap.proofs.Gaps.{gained-none, gained-more}

pub leads-more : (lists : List (List ℕ)) (from to : List ℕ) (moves : List (ℕ × Gap)) (move : ℕ × Gap) → Leads lists from moves to → IsMove lists to move → Leads lists from (moves ++ move ∷ []) (set to move.0 move.1.hi)
leads-more lists from to [] move leads is = (subst (λ heres. IsMove lists heres move) leads is, ap (λ heres. set heres move.0 move.1.hi) leads)
leads-more lists from to (first ∷ moves) move leads is = (leads.0, leads-more lists (set from first.0 first.1.hi) to moves move leads.1 is)

-- a last gap that is kept, or an empty one that is left out
gaps-more : (moves gaps : List (ℕ × Gap)) (move : ℕ × Gap) → AreGapsOf moves gaps → AreGapsOf (moves ++ move ∷ []) (gaps ++ move ∷ [])
gaps-more [] [] move are = inl (refl, tt)
gaps-more [] (gap ∷ gaps) move are = absurd are
gaps-more (first ∷ moves) [] move are = inr (are.0, gaps-more moves [] move are.1)
gaps-more (first ∷ moves) (gap ∷ gaps) move are =
    elim are [ inl kept ↦ inl (kept.0, gaps-more moves gaps move kept.1) | inr out ↦ inr (out.0, gaps-more moves (gap ∷ gaps) move out.1) ]

gaps-empty : (moves gaps : List (ℕ × Gap)) (move : ℕ × Gap) → move.1.hi ≤ move.1.lo → AreGapsOf moves gaps → AreGapsOf (moves ++ move ∷ []) gaps
gaps-empty [] [] move empty are = (empty, tt)
gaps-empty [] (gap ∷ gaps) move empty are = absurd are
gaps-empty (first ∷ moves) [] move empty are = (are.0, gaps-empty moves [] move empty are.1)
gaps-empty (first ∷ moves) (gap ∷ gaps) move empty are =
    elim are [ inl kept ↦ inl (kept.0, gaps-empty moves gaps move empty kept.1) | inr out ↦ inr (out.0, gaps-empty moves (gap ∷ gaps) move empty out.1) ]

gaps-first_empty : (moves gaps : List (ℕ × Gap)) (move : ℕ × Gap) → move.1.hi ≤ move.1.lo → AreGapsOf moves gaps → AreGapsOf (move ∷ moves) gaps
gaps-first_empty moves [] move empty are = (empty, are)
gaps-first_empty moves (gap ∷ gaps) move empty are = inr (empty, are)

-- no move
pub made-none : (lists : List (List ℕ)) (heres : List ℕ) (old : Option (List (ℕ × Gap))) (now : ℕ) → AreMade lists heres heres old old now now
made-none lists heres old now = record { moves = []; leads = refl; counted = omega arith; gaps = []; is = gained-none old; are_gaps = tt }

-- a last move
pub made-more : (lists : List (List ℕ)) (from to : List ℕ) (old mid new : Option (List (ℕ × Gap))) (begun now i : ℕ) (gap : Gap)
    → AreMade lists from to old mid begun now → IsMove lists to (i, gap) → Gains mid i gap new → AreMade lists from (set to i gap.hi) old new begun (now + 1)
made-more lists from to old mid new begun now i gap made is (inl kept) = record {
  moves = made.moves ++ (i, gap) ∷ [];
  leads = leads-more lists from to made.moves (i, gap) made.leads is;
  counted = (let counted = made.counted in let long : length (made.moves ++ (i, gap) ∷ []) ≡ length made.moves + 1 = grind (arith, common_steps) in omega arith);
  gaps = made.gaps ++ (i, gap) ∷ [];
  is = kept ∙ ap (λ o. gained o ((i, gap) ∷ [])) made.is ∙ gained-more old made.gaps ((i, gap) ∷ []);
  are_gaps = gaps-more made.moves made.gaps (i, gap) made.are_gaps;
}
made-more lists from to old mid new begun now i gap made is (inr out) = record {
  moves = made.moves ++ (i, gap) ∷ [];
  leads = leads-more lists from to made.moves (i, gap) made.leads is;
  counted = (let counted = made.counted in let long : length (made.moves ++ (i, gap) ∷ []) ≡ length made.moves + 1 = grind (arith, common_steps) in omega arith);
  gaps = made.gaps;
  is = out.1 ∙ made.is;
  are_gaps = gaps-empty made.moves made.gaps (i, gap) out.0 made.are_gaps;
}

-- a first move, and then the others
pub made-first : (lists : List (List ℕ)) (from to : List ℕ) (old mid new : Option (List (ℕ × Gap))) (begun now i : ℕ) (gap : Gap)
    → IsMove lists from (i, gap) → Gains old i gap mid → AreMade lists (set from i gap.hi) to mid new (begun + 1) now → AreMade lists from to old new begun now
made-first lists from to old mid new begun now i gap is (inl kept) made = record {
  moves = (i, gap) ∷ made.moves;
  leads = (is, made.leads);
  counted = (let counted = made.counted in omega arith);
  gaps = (i, gap) ∷ made.gaps;
  is = made.is ∙ ap (λ o. gained o made.gaps) kept ∙ gained-more old ((i, gap) ∷ []) made.gaps;
  are_gaps = inl (refl, made.are_gaps);
}
made-first lists from to old mid new begun now i gap is (inr out) made = record {
  moves = (i, gap) ∷ made.moves;
  leads = (is, made.leads);
  counted = (let counted = made.counted in omega arith);
  gaps = made.gaps;
  is = made.is ∙ ap (λ o. gained o made.gaps) out.1;
  are_gaps = gaps-first_empty made.moves made.gaps (i, gap) out.0 made.are_gaps;
}

-- the same by what a turn of the ring leaves
pub made-turned : (lists lists' : List (List ℕ)) (from mid to : List ℕ) (old told new : Option (List (ℕ × Gap))) (begun turned now i landed : ℕ) (gap : Gap)
    → lists' ≡ lists → mid ≡ set from i landed → gap.hi ≡ landed → turned ≡ begun + 1
    → IsMove lists from (i, gap) → Gains old i gap told → AreMade lists' mid to told new turned now → AreMade lists from to old new begun now
made-turned lists lists' from mid to old told new begun turned now i landed gap keys moved hi one is gains made =
    made-first lists from to old told new begun now i gap is gains (rw (keys, moved ∙ ap (set from i) (sym hi), one) at made)

-- ---- a call that gives up

pub on_err : {T E P : Type 0} (result : Result T E) → P → OnErr result P
on_err (Ok value) holds = tt
on_err (Err error) holds = holds

-- before any move
pub given_up-none : (lists : List (List ℕ)) (heres : List ℕ) (old : Option (List (ℕ × Gap))) (now : ℕ) → IsGivenUp lists heres heres old old now now
given_up-none lists heres old now = record { mid = heres; told = now; made = made-none lists heres old now; last = []; at_most_one = omega arith; leads = refl; counted = omega arith }

-- after a move whose gap could not be kept
pub given_up-last : (lists : List (List ℕ)) (from mid to : List ℕ) (old kept new : Option (List (ℕ × Gap))) (begun told now i landed : ℕ) (gap : Gap)
    → AreMade lists from mid old kept begun told → IsMove lists mid (i, gap) → new ≡ kept → to ≡ set mid i landed → gap.hi ≡ landed → now ≡ told + 1 → IsGivenUp lists from to old new begun now
given_up-last lists from mid to old kept new begun told now i landed gap made is same moved hi one = record {
  mid = mid;
  told = told;
  made = rw same made;
  last = (i, gap) ∷ [];
  at_most_one = omega arith;
  leads = (is, moved ∙ ap (set mid i) (sym hi));
  counted = one;
}

-- after a first move and others
pub given_up-turned : (lists lists' : List (List ℕ)) (from mid to : List ℕ) (old told new : Option (List (ℕ × Gap))) (begun turned now i landed : ℕ) (gap : Gap)
    → lists' ≡ lists → mid ≡ set from i landed → gap.hi ≡ landed → turned ≡ begun + 1
    → IsMove lists from (i, gap) → Gains old i gap told → IsGivenUp lists' mid to told new turned now → IsGivenUp lists from to old new begun now
given_up-turned lists lists' from mid to old told new begun turned now i landed gap keys moved hi one is gains given_up = record {
  mid = given_up.mid;
  told = given_up.told;
  made = made-turned lists lists' from mid given_up.mid old told new begun turned given_up.told i landed gap keys moved hi one is gains given_up.made;
  last = given_up.last;
  at_most_one = given_up.at_most_one;
  leads = rw keys at given_up.leads;
  counted = given_up.counted;
}

-- wherever the iterators were left
pub on_err-given_up : {T E : Type 0} (result : Result T E) (lists : List (List ℕ)) (from to : List ℕ) (old new : Option (List (ℕ × Gap))) (begun now : ℕ) → IsGivenUp lists from to old new begun now
    → OnErr result ((to : List ℕ) × IsGivenUp lists from to old new begun now)
on_err-given_up result lists from to old new begun now given_up =
    let somewhere : (to : List ℕ) × IsGivenUp lists from to old new begun now = (to, given_up) in
    on_err result somewhere
