-- A body and a plan copied, with one condition more.
use Rattle.std.specs.Prelude.{◌≡◌, ℕ, zero, suc, ◌+◌, ◌<◌, false, ◌==◌, List, [], ◌∷◌, ◌++◌, length, take}
use Rattle.std.proofs.Common.{refl, sym, ap, ◌∙◌, arith, cond, get_or}
use Rattle.std.proofs.lemmas.Bool.{ne_eqb}
use Rattle.lt_model.specs.declared.normal.Atom.{Atom}
use Rattle.lt_model.specs.declared.normal.Term.{Term}
use Rattle.lt_query.specs.declared.plans.Level.{Level}
use Rattle.lt_join.specs.MendedPlan.{pinned_levels}
use Rattle.lt_join.proofs.Lists.{take_more}

-- one atom more
pub atoms_more : (atoms : List Atom) (i : ℕ) (atom : Atom) (copy more : List Atom) (terms : List Term) → i < length atoms → atom ≡ get_or atoms i atom → terms ≡ atom.terms → more ≡ copy ++ record { relation = atom.relation; terms = terms } ∷ [] → copy ≡ take i atoms → more ≡ take (i + 1) atoms
atoms_more atoms i atom copy more terms lt is same pushed so =
    pushed ∙ ap (λ (ts : List Term). copy ++ record { relation = atom.relation; terms = ts } ∷ []) same ∙ ap (λ (rest : List Atom). rest ++ atom ∷ []) so ∙ sym (take_more atoms i atom lt is)

length-take : {X : Type 0} (xs : List X) (i : ℕ) → i < length xs → length (take i xs) ≡ i
length-take [] i lt = absurd (omega arith)
length-take (x ∷ xs) zero lt = refl
length-take (x ∷ xs) (suc i) lt = let e = length-take xs i (omega arith) in omega arith

-- one level more, and with it its pins
abbrev make : Level → List ℕ → List ℕ → Level
make level pins ties = record { term = level.term; pins = pins; ties = ties }

pinned-push : (key : ℕ) (levels : List Level) (level : Level) → pinned_levels key (levels ++ level ∷ []) ≡ pinned_levels key levels ++ make level (cond (length levels == 0) (key ∷ []) level.pins) level.ties ∷ []
pinned-push key [] level = refl
pinned-push key (first ∷ levels) level =
    let later : (length (first ∷ levels) == 0) ≡ false = ne_eqb (length (first ∷ levels)) 0 (λ e. omega arith) in
    ap (λ b. pinned_levels key (first ∷ levels) ++ make level (cond b (key ∷ []) level.pins) level.ties ∷ []) (sym later)

pub pinned_more : (key : ℕ) (levels : List Level) (i : ℕ) (level : Level) (copy more : List Level) (pins ties : List ℕ) → i < length levels → level ≡ get_or levels i level → pins ≡ cond (i == 0) (key ∷ []) level.pins → ties ≡ level.ties → more ≡ copy ++ record { term = level.term; pins = pins; ties = ties } ∷ [] → copy ≡ pinned_levels key (take i levels) → more ≡ pinned_levels key (take (i + 1) levels)
pinned_more key levels i level copy more pins ties lt is pinned same pushed so =
    let count : cond (i == 0) (key ∷ []) level.pins ≡ cond (length (take i levels) == 0) (key ∷ []) level.pins = ap (λ n. cond (n == 0) (key ∷ []) level.pins) (sym (length-take levels i lt)) in
    pushed
    ∙ ap (λ (ps : List ℕ). copy ++ make level ps ties ∷ []) (pinned ∙ count)
    ∙ ap (λ (ts : List ℕ). copy ++ make level (cond (length (take i levels) == 0) (key ∷ []) level.pins) ts ∷ []) same
    ∙ ap (λ ls. ls ++ make level (cond (length (take i levels) == 0) (key ∷ []) level.pins) level.ties ∷ []) so
    ∙ sym (pinned-push key (take i levels) level)
    ∙ ap (pinned_levels key) (sym (take_more levels i level lt is))
