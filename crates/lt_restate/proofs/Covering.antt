-- The changed rows that a sense covers, as they are gathered.
use Rattle.std.proofs.Common.{◌≡◌, ℕ, zero, suc, ◌+◌, ◌≤◌, true, List, [], ◌∷◌, ◌++◌, length, take, Some, refl, sym, ap, ◌∙◌, inl, inr, subst, arith}
use Rattle.std.specs.Prelude.{slice_get}
use Rattle.lt_face.specs.Lists.{IsIn}
use Rattle.lt_face.specs.State.{Row, State}
use Rattle.lt_face.proofs.Membership.{IsIn-append_left, IsIn-append_right, IsIn-append_cases}
use Rattle.lt_model.specs.declared.mark.Mark.{Mark}
use Rattle.lt_model.specs.Marks.{Marks}
use Rattle.lt_base.specs.Changed.{differ_on}
use Rattle.lt_sense.specs.Kept.{Sense}
use Rattle.lt_sense.specs.Sense.{covers}
use Rattle.lt_join.proofs.Repair.{list_any_from}
use Rattle.lt_restate.specs.Bases.{IsRowOf, AreRowsOf}
use Rattle.lt_restate.specs.Covered.{GainsOnly, HasAll, IsCoveredChange, AreCoveredChanges}
use Rattle.lt_restate.specs.Walked.{is_named, is_among}
use Rattle.lt_restate.proofs.Named.{mark_there}

-- ---- lists that gain

abbrev Change : Type 0
Change = ℕ × Row

pub gains_none : {X : Type 0} (tells : X → Type 0) (old : List X) → GainsOnly tells old old
gains_none tells old = record { stay = λ x h. h; only = λ x h. inl h }

pub gains_one : {X : Type 0} (tells : X → Type 0) (old now : List X) (x : X) → tells x → now ≡ old ++ x ∷ [] → GainsOnly tells old now
gains_one tells old now x told made = subst (GainsOnly tells old) (sym made) (record {
  stay = λ y h. IsIn-append_left y old (x ∷ []) h;
  only = λ y h. elim (IsIn-append_cases y old (x ∷ []) h) [ inl a ↦ inl a | inr b ↦ elim b [ inl e ↦ inr (subst tells e told) | inr r ↦ absurd r ] ];
})

pub gains_then : {X : Type 0} (tells : X → Type 0) (old mid now : List X) → GainsOnly tells old mid → GainsOnly tells mid now → GainsOnly tells old now
gains_then tells old mid now h k = record {
  stay = λ x there. k.stay x (h.stay x there);
  only = λ x there. elim (k.only x there) [ inl was ↦ h.only x was | inr told ↦ inr told ];
}

pub there_last : {X : Type 0} (old now : List X) (x : X) → now ≡ old ++ x ∷ [] → IsIn x now
there_last old now x made = subst (IsIn x) (sym made) (IsIn-append_right x old (x ∷ []) (inl refl))

pub all_taken : {X : Type 0} (xs : List X) (i : ℕ) → length xs ≤ i → take i xs ≡ xs
all_taken [] zero le = refl
all_taken [] (suc i) le = refl
all_taken (x ∷ xs) zero le = absurd (omega arith)
all_taken (x ∷ xs) (suc i) le = ap (λ ys. x ∷ ys) (all_taken xs i (omega arith))

-- ---- a mark's row

module _ (sense : Sense) (s t : State) (m : Mark) (row : Row) (same : row ≡ m.row) (old now : List Change) (made : now ≡ old ++ (m.relation, row) ∷ []) where
  change_made : now ≡ old ++ (m.relation, m.row) ∷ []
  change_made = made ∙ ap (λ (r : Row). old ++ (m.relation, r) ∷ []) same

  pub change_gains : covers sense m.relation m.row ≡ true → differ_on s t m.relation m.row ≡ true → GainsOnly (IsCoveredChange sense s t) old now
  change_gains covered differs = gains_one (IsCoveredChange sense s t) old now (m.relation, m.row) (record { covered = covered; differs = differs }) change_made

  pub change_added : IsIn (m.relation, m.row) now
  change_added = there_last old now (m.relation, m.row) change_made

-- what the first i marks tell was gathered
pub record Marked (tells : Change → Type 0) (marks : Marks) (i : ℕ) (old now : List Change) : Type 0 where
  pub gains : GainsOnly tells old now
  pub all : (m : Mark) → IsIn m (take i marks) → tells (m.relation, m.row) → IsIn (m.relation, m.row) now

mark_taken : (marks : Marks) (i : ℕ) (m : Mark) → slice_get marks i ≡ Some m → take (i + 1) marks ≡ take i marks ++ m ∷ []
mark_taken [] i m h = absurd cc
mark_taken (n ∷ marks) zero m h = (let e : n ≡ m = cc in ap (λ (x : Mark). x ∷ []) e)
mark_taken (n ∷ marks) (suc i) m h =
    let e : suc i + 1 ≡ suc (i + 1) = omega arith in
    ap (λ k. take k (n ∷ marks)) e ∙ ap (λ (l : Marks). n ∷ l) (mark_taken marks i m h)

module _ (tells : Change → Type 0) (marks : Marks) where
  pub marked_more : (i : ℕ) (m : Mark) → slice_get marks i ≡ Some m → (old mid now : List Change) → Marked tells marks i old mid → GainsOnly tells mid now → (tells (m.relation, m.row) → IsIn (m.relation, m.row) now) → Marked tells marks (i + 1) old now
  marked_more i m at old mid now h gains there = record {
    gains = gains_then tells old mid now h.gains gains;
    all = λ n in_taken told. elim (IsIn-append_cases n (take i marks) (m ∷ []) (subst (IsIn n) (mark_taken marks i m at) in_taken)) [
      | inl before ↦ gains.stay (n.relation, n.row) (h.all n before told)
      | inr last ↦ elim last [ inl e ↦ subst (λ (k : Mark). tells (k.relation, k.row) → IsIn (k.relation, k.row) now) e there told | inr r ↦ absurd r ]
    ];
  }

  pub marked_whole : (i : ℕ) (old now : List Change) → length marks ≤ i → Marked tells marks i old now → (m : Mark) → IsIn m marks → tells (m.relation, m.row) → IsIn (m.relation, m.row) now
  marked_whole i old now le h m there = h.all m (subst (IsIn m) (sym (all_taken marks i le)) there)

-- ---- lists of marks

abbrev pub Told : (Change → Type 0) → Marks → List Change → Type 0
Told tells marks now = (m : Mark) → IsIn m marks → tells (m.relation, m.row) → IsIn (m.relation, m.row) now

told_stays : (tells : Change → Type 0) (marks : Marks) (old now : List Change) → GainsOnly tells old now → Told tells marks old → Told tells marks now
told_stays tells marks old now gains told m h is = gains.stay (m.relation, m.row) (told m h is)

module _ (sense : Sense) (s t : State) (a b c d : Marks) (none one two three four : List Change) (begun : none ≡ []) where
  abbrev is_told : Change → Type 0
  is_told = IsCoveredChange sense s t

  pub four_lists : GainsOnly is_told none one → Told is_told a one → GainsOnly is_told one two → Told is_told b two → GainsOnly is_told two three → Told is_told c three → GainsOnly is_told three four → Told is_told d four
      → ((relation : ℕ) (row : Row) → differ_on s t relation row ≡ true → is_among (a ∷ b ∷ c ∷ d ∷ []) relation row ≡ true) → AreCoveredChanges sense s t four
  four_lists g1 t1 g2 t2 g3 t3 g4 t4 named = record { each = each; all = all }
    where
      chain : {x y z : List Change} → GainsOnly is_told x y → GainsOnly is_told y z → GainsOnly is_told x z
      chain {x = x} {y = y} {z = z} f g = gains_then is_told x y z f g

      two_four : GainsOnly is_told two four
      two_four = chain g3 g4

      each : (change : Change) → IsIn change four → IsCoveredChange sense s t change
      each change h = elim ((chain (chain g1 g2) two_four).only change h) [ inl was ↦ absurd (subst (λ (l : List Change). IsIn change l) begun was) | inr told ↦ told ]

      of_list : (marks : Marks) → IsIn marks (a ∷ b ∷ c ∷ d ∷ []) → Told is_told marks four
      of_list marks h = elim h [
        | inl e ↦ subst (λ (m : Marks). Told is_told m four) e (told_stays is_told a one four (chain g2 two_four) t1)
        | inr r ↦ elim r [
          | inl e ↦ subst (λ (m : Marks). Told is_told m four) e (told_stays is_told b two four two_four t2)
          | inr q ↦ elim q [
            | inl e ↦ subst (λ (m : Marks). Told is_told m four) e (told_stays is_told c three four g4 t3)
            | inr k ↦ elim k [ inl e ↦ subst (λ (m : Marks). Told is_told m four) e t4 | inr z ↦ absurd z ]
          ]
        ]
      ]

      all : HasAll (IsCoveredChange sense s t) four
      all change is =
          let found = list_any_from (λ (marks : Marks). is_named marks change.0 change.1) (a ∷ b ∷ c ∷ d ∷ []) (named change.0 change.1 is.differs) in
          let mark = mark_there found.0 change.0 change.1 found.2 in
          let pair : (mark.0.relation, mark.0.row) ≡ change = (λ i. (mark.2 i, mark.3 i)) in
          subst (λ (z : Change). IsIn z four) pair (of_list found.0 found.1 mark.0 mark.1 (subst (IsCoveredChange sense s t) (sym pair) is))

-- ---- rows that their relations can have

pub each_row : (base : State) (changes : List Change) → ((change : Change) → IsIn change changes → IsRowOf base change.0 change.1) → AreRowsOf base changes
each_row base [] f = tt
each_row base (z ∷ changes) f = (f z (inl refl), each_row base changes (λ change h. f change (inr h)))
