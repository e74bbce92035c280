-- The gaps of a search, one after another.
use Rattle.std.proofs.Common.{◌≡◌, ℕ, ◌+◌, ◌<◌, ◌≤◌, Bool, true, false, List, [], ◌∷◌, ◌++◌, length, Option, Some, None, refl, sym, ap, ◌∙◌, inl, inr, arith, append_assoc, append-nil, ◌||◌}
use Rattle.std.specs.List.{AllByRecursion, list_any}
use Rattle.std.proofs.lemmas.Bool.{cases_lt}
use Rattle.std.proofs.lemmas.Bool.Decides.{nat_tests}
use Rattle.std.proofs.lemmas.Grind.{common_steps}
use Rattle.lt_face.specs.declared.key.Gap.{Gap}
use Rattle.lt_leap.specs.Noted.{gained, Gains}
use Rattle.lt_leap.specs.Search.{lies_in, IsGapOf, Notes}

pub gained-none : (old : Option (List (ℕ × Gap))) → old ≡ gained old []
gained-none None = refl
gained-none (Some kept) = ap Some (sym (append-nil kept))

pub gained-more : (old : Option (List (ℕ × Gap))) (a b : List (ℕ × Gap)) → gained (gained old a) b ≡ gained old (a ++ b)
gained-more None a b = refl
gained-more (Some kept) a b = ap Some (append_assoc kept a b)

-- no gap yet
pub notes-none : (lists : List (List ℕ)) (start : ℕ) (old : Option (List (ℕ × Gap))) → Notes lists start start old old 0
notes-none lists start old = record { gaps = []; is = gained-none old; true_gaps = tt; covers = λ k le lt. absurd (omega arith); few = omega arith }

pub any_left : (k : ℕ) (a b : List (ℕ × Gap)) → list_any (lies_in k) a ≡ true → list_any (lies_in k) (a ++ b) ≡ true
any_left k (g ∷ a) b h = elim (lies_in k g) as (λ t. (t || list_any (lies_in k) a) ≡ true → (t || list_any (lies_in k) (a ++ b)) ≡ true) [ true ↦ λ e. refl | false ↦ λ e. any_left k a b e ] h
any_left k [] b h = absurd (let f : true ≡ false = sym h in let g : ⊥ = cc in g)

pub any_last : (k : ℕ) (a : List (ℕ × Gap)) (g : ℕ × Gap) → lies_in k g ≡ true → list_any (lies_in k) (a ++ g ∷ []) ≡ true
any_last k [] g h = rw h refl
any_last k (f ∷ a) g h = elim (lies_in k f) as (λ t. (t || list_any (lies_in k) (a ++ g ∷ [])) ≡ true) [ true ↦ refl | false ↦ any_last k a g h ]

pub each_last : (P : ℕ × Gap → Type 0) (a : List (ℕ × Gap)) (g : ℕ × Gap) → AllByRecursion P a → P g → AllByRecursion P (a ++ g ∷ [])
each_last P [] g all one = (one, tt)
each_last P (f ∷ a) g all one = (all.0, each_last P a g all.1 one)

-- one more gap, which begins where the others end
pub notes-more : (lists : List (List ℕ)) (start mid stop : ℕ) (old now new : Option (List (ℕ × Gap))) (count i : ℕ) (gap : Gap) → Notes lists start mid old now count
    → gap.lo ≡ mid → gap.hi ≡ stop → IsGapOf lists (i, gap) → Gains now i gap new → Notes lists start stop old new (count + 1)
notes-more lists start mid stop old now new count i gap notes lo hi none (inl is) = record {
  gaps = notes.gaps ++ (i, gap) ∷ [];
  is = is ∙ ap (λ o. gained o ((i, gap) ∷ [])) notes.is ∙ gained-more old notes.gaps ((i, gap) ∷ []);
  true_gaps = each_last (IsGapOf lists) notes.gaps (i, gap) notes.true_gaps none;
  covers = λ k le lt. elim (cases_lt k mid) [
    | inl early ↦ any_left k notes.gaps ((i, gap) ∷ []) (notes.covers k le early)
    | inr late ↦ any_last k notes.gaps (i, gap) (let a : gap.lo ≤ k = omega arith in let b : k < gap.hi = omega arith in let e : lies_in k (i, gap) ≡ true = grind (arith, nat_tests) in e)
  ];
  few = (let few = notes.few in let len : length (notes.gaps ++ (i, gap) ∷ []) ≡ length notes.gaps + 1 = grind (arith, common_steps) in omega arith);
}
notes-more lists start mid stop old now new count i gap notes lo hi none (inr same) = record {
  gaps = notes.gaps;
  is = same.1 ∙ notes.is;
  true_gaps = notes.true_gaps;
  covers = λ k le lt. notes.covers k le (let empty = same.0 in omega arith);
  few = (let few = notes.few in omega arith);
}

-- a first gap, and then the others
pub notes-first : (lists : List (List ℕ)) (start mid stop : ℕ) (old now new : Option (List (ℕ × Gap))) (count i : ℕ) (gap : Gap) → gap.lo ≡ start → gap.hi ≡ mid → IsGapOf lists (i, gap) → Gains old i gap now
    → Notes lists mid stop now new count → Notes lists start stop old new (count + 1)
notes-first lists start mid stop old now new count i gap lo hi none (inl is) notes = record {
  gaps = (i, gap) ∷ notes.gaps;
  is = notes.is ∙ ap (λ o. gained o notes.gaps) is ∙ gained-more old ((i, gap) ∷ []) notes.gaps;
  true_gaps = (none, notes.true_gaps);
  covers = λ k le lt. elim (cases_lt k mid) [
    | inl early ↦ (let a : gap.lo ≤ k = omega arith in let b : k < gap.hi = omega arith in let e : lies_in k (i, gap) ≡ true = grind (arith, nat_tests) in rw e refl)
    | inr late ↦ (let rest = notes.covers k late lt in or_right (lies_in k (i, gap)) (list_any (lies_in k) notes.gaps) rest)
  ];
  few = (let few = notes.few in omega arith);
}
  where
    or_right : (s t : Bool) → t ≡ true → (s || t) ≡ true
    or_right true t h = refl
    or_right false t h = h
notes-first lists start mid stop old now new count i gap lo hi none (inr same) notes = record {
  gaps = notes.gaps;
  is = notes.is ∙ ap (λ o. gained o notes.gaps) same.1;
  true_gaps = notes.true_gaps;
  covers = λ k le lt. notes.covers k (let empty = same.0 in omega arith) lt;
  few = (let few = notes.few in omega arith);
}
