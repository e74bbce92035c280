-- Absent rows that lie in gaps, or are hits.
use Rattle.std.specs.Prelude.{◌≡◌, ℕ, Bool, true, ◌==◌, List, [], ◌∷◌}
use Rattle.std.specs.List.{AllByRecursion, list_all, list_any}
use Rattle.std.proofs.Common.{sym, ◌∙◌, subst, inl, inr}
use Rattle.std.proofs.lemmas.Bool.{and_parts, eqb-true, or_left, true≢false}
use Rattle.lt_face.specs.Lists.{AnyByRecursion}
use Rattle.lt_face.specs.State.{Row, State, Has, permuted}
use Rattle.lt_model.specs.declared.normal.Atom.{Atom}
use Rattle.lt_model.specs.Answers.{Assignment, cells_of}
use Rattle.lt_model.specs.Bound.{is_known}
use Rattle.lt_query.proofs.Given.{cells_same}
use Rattle.lt_sense.specs.Kept.{Sense}
use Rattle.lt_sense.specs.Sense.{IsTight, covers, gap_covers, hit_covers, lies_in}
use Rattle.lt_sense.specs.declared.covering.KeptGap.{KeptGap}
use Rattle.lt_sense.specs.declared.covering.Hit.{Hit}
use Rattle.lt_join.specs.Certify.{IsMet, IsMissed, IsGapped, IsHitOf}
use Rattle.lt_join.specs.Walked.{Grows}
use Rattle.lt_join.proofs.Repair.{All_at, GapIsTight, list_any_of, hit_row_covered}

-- ---- what a sense says of them

gap_missed : (sense : Sense) (state : State) → IsTight sense state → (a : Assignment) (atom : Atom) → IsGapped sense a atom → IsMissed sense state a atom
gap_missed sense state tight a atom h =
    let row : Row = cells_of a atom.terms in
    let gap : KeptGap = h.0 in
    let both = and_parts (gap.relation == atom.relation) (lies_in gap.prefix gap.lo gap.hi (permuted gap.columns row)) h.2 in
    let relation : gap.relation ≡ atom.relation = eqb-true gap.relation atom.relation both.0 in (
      λ there. true≢false (sym both.1 ∙ All_at (GapIsTight state) sense.gaps gap tight.gaps h.1 row (subst (λ r. Has state r row) (sym relation) there)),
      or_left _ (list_any (λ hit. hit_covers hit atom.relation row) sense.hits) (list_any_of (λ (other : KeptGap). gap_covers other atom.relation row) gap sense.gaps h.1 h.2),
    )

pub gaps_missed : (sense : Sense) (state : State) → IsTight sense state → (a : Assignment) (atoms : List Atom) → AllByRecursion (IsGapped sense a) atoms → AllByRecursion (IsMissed sense state a) atoms
gaps_missed sense state tight a [] h = tt
gaps_missed sense state tight a (atom ∷ atoms) h = (gap_missed sense state tight a atom h.0, gaps_missed sense state tight a atoms h.1)

hit_met : (sense : Sense) (state : State) → IsTight sense state → (a : Assignment) (atom : Atom) → IsHitOf sense a atom → IsMet sense state a atom
hit_met sense state tight a atom h =
    let hit : Hit = h.0 in
    let has : Has state hit.relation hit.row = All_at (λ (x : Hit). Has state x.relation x.row) sense.hits hit tight.hits h.1 in
    let covered : covers sense hit.relation hit.row ≡ true = hit_row_covered sense hit h.1 in (
      subst (λ r. Has state atom.relation r) h.3 (subst (λ r. Has state r hit.row) h.2 has),
      subst (λ r. covers sense atom.relation r ≡ true) h.3 (subst (λ r. covers sense r hit.row ≡ true) h.2 covered),
    )

pub hits_met : (sense : Sense) (state : State) → IsTight sense state → (a : Assignment) (atoms : List Atom) → AnyByRecursion (IsHitOf sense a) atoms → AnyByRecursion (IsMet sense state a) atoms
hits_met sense state tight a [] h = h
hits_met sense state tight a (atom ∷ atoms) h = elim h [ inl m ↦ inl (hit_met sense state tight a atom m) | inr r ↦ inr (hits_met sense state tight a atoms r) ]

-- ---- for assignments that are alike where the atoms' variables are known

pub gaps_same : (sense : Sense) (known : ℕ → Bool) (a b : Assignment) → ((v : ℕ) → known v ≡ true → b v ≡ a v) → (atoms : List Atom) → AllByRecursion (λ (atom : Atom). list_all (is_known known) atom.terms ≡ true) atoms → AllByRecursion (IsGapped sense b) atoms → AllByRecursion (IsGapped sense a) atoms
gaps_same sense known a b same [] whole h = tt
gaps_same sense known a b same (atom ∷ atoms) whole h =
    ((h.0.0, h.0.1, subst (λ row. gap_covers h.0.0 atom.relation row ≡ true) (cells_same known a b same atom.terms whole.0) h.0.2), gaps_same sense known a b same atoms whole.1 h.1)

pub hits_same : (sense : Sense) (known : ℕ → Bool) (a b : Assignment) → ((v : ℕ) → known v ≡ true → b v ≡ a v) → (atoms : List Atom) → AllByRecursion (λ (atom : Atom). list_all (is_known known) atom.terms ≡ true) atoms → AnyByRecursion (IsHitOf sense b) atoms → AnyByRecursion (IsHitOf sense a) atoms
hits_same sense known a b same [] whole h = h
hits_same sense known a b same (atom ∷ atoms) whole h =
    elim h [
      | inl m ↦ inl (m.0, m.1, m.2, m.3 ∙ cells_same known a b same atom.terms whole.0)
      | inr r ↦ inr (hits_same sense known a b same atoms whole.1 r)
    ]

-- ---- of a sense that grows

pub gaps_grow : (s t : Sense) → Grows s t → (a : Assignment) (atoms : List Atom) → AllByRecursion (IsGapped s a) atoms → AllByRecursion (IsGapped t a) atoms
gaps_grow s t grows a [] h = tt
gaps_grow s t grows a (atom ∷ atoms) h = ((h.0.0, grows.gaps h.0.0 h.0.1, h.0.2), gaps_grow s t grows a atoms h.1)

pub hit_grows : (s t : Sense) → Grows s t → (a : Assignment) (atoms : List Atom) → AnyByRecursion (IsHitOf s a) atoms → AnyByRecursion (IsHitOf t a) atoms
hit_grows s t grows a [] h = h
hit_grows s t grows a (atom ∷ atoms) h = elim h [ inl m ↦ inl (m.0, grows.hits m.0 m.1, m.2, m.3) | inr r ↦ inr (hit_grows s t grows a atoms r) ]
