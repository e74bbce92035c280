-- Keys that nothing has which holds.
use Rattle.std.specs.Prelude.{◌≡◌, ℕ, ◌+◌, ◌<◌, true, false, ◌==◌, List, [], ◌∷◌}
use Rattle.std.specs.List.{AllByRecursion, list_all}
use Rattle.std.proofs.Common.{refl, sym, ap, ◌∙◌, subst, inl, inr, arith, cond}
use Rattle.std.proofs.lemmas.Bool.{and_parts, eqb-true, eqb-false, eq-eqb}
use Rattle.lt_model.specs.declared.normal.Term.{Term}
use Rattle.lt_model.specs.declared.normal.Term.TheVariants.{Var, Cell}
use Rattle.lt_model.specs.declared.syntax.Op.TheVariants.{Eq}
use Rattle.lt_model.specs.declared.normal.Test.{Test}
use Rattle.lt_model.specs.declared.normal.Test.TheVariants.{Cmp}
use Rattle.lt_model.specs.declared.normal.Body.{Body}
use Rattle.lt_model.specs.Answers.{Assignment, cell_of, holds, passes}
use Rattle.lt_face.specs.Lists.{IsIn}
use Rattle.lt_query.specs.declared.plans.Level.{Level}
use Rattle.lt_query.specs.Plan.{Keys, term_at, keys_under, IsPinOf, IsLevelOf}
use Rattle.lt_join.specs.Explored.{AgreeBelow, Fits, IsHopeless, with_key}

-- the key at the level is the one that was put there
pub with_key_at : (keys : Keys) (l k : ℕ) → with_key keys l k l ≡ k
with_key_at keys l k =
    let same : (l == l) ≡ true = eq-eqb l l refl in
    ap (λ b. cond b k (keys l)) same

-- and those before it are what they were
pub with_key_before : (keys : Keys) (l k m : ℕ) → m < l → with_key keys l k m ≡ keys m
with_key_before keys l k m lt =
    elim (m == l) as (λ b. (m == l) ≡ b → cond b k (keys m) ≡ keys m) [
      | true ↦ λ same. let e : m ≡ l = eqb-true m l same in absurd (omega arith)
      | false ↦ λ other. refl
    ] refl

-- keys of an assignment with its key of the next level are its keys
pub with_key_agrees : (levels : List Level) (a : Assignment) (l : ℕ) (keys : Keys) (k : ℕ) → AgreeBelow l keys (keys_under a levels) → k ≡ keys_under a levels l → AgreeBelow (l + 1) (with_key keys l k) (keys_under a levels)
with_key_agrees levels a l keys k agree here m lt =
    elim (m == l) as (λ b. (m == l) ≡ b → cond b k (keys m) ≡ keys_under a levels m) [
      | true ↦ λ same. here ∙ ap (keys_under a levels) (sym (eqb-true m l same))
      | false ↦ λ other. let ne : m ≡ l → ⊥ = eqb-false m l other in agree m (omega arith)
    ] refl

-- and the other way round
pub agrees_before : (levels : List Level) (a : Assignment) (l : ℕ) (keys : Keys) (k : ℕ) → AgreeBelow (l + 1) (with_key keys l k) (keys_under a levels) → AgreeBelow l keys (keys_under a levels)
agrees_before levels a l keys k agree m lt = sym (with_key_before keys l k m lt) ∙ agree m (omega arith)

pub agrees_at : (levels : List Level) (a : Assignment) (l : ℕ) (keys : Keys) (k : ℕ) → AgreeBelow (l + 1) (with_key keys l k) (keys_under a levels) → k ≡ keys_under a levels l
agrees_at levels a l keys k agree = sym (with_key_at keys l k) ∙ agree l (omega arith)

-- hopeless keys stay so with one more
pub hopeless_under : (body : Body) (levels : List Level) (l : ℕ) (keys : Keys) (k : ℕ) → IsHopeless body levels l keys → IsHopeless body levels (l + 1) (with_key keys l k)
hopeless_under body levels l keys k none a agree held = none a (agrees_before levels a l keys k agree) held

-- it hangs on the keys at the levels before this one alone
pub hopeless_same : (body : Body) (levels : List Level) (l : ℕ) (x y : Keys) → AgreeBelow l x y → IsHopeless body levels l x → IsHopeless body levels l y
hopeless_same body levels l x y same none a agree held = none a (λ m lt. same m lt ∙ agree m lt) held

module _ (body : Body) (a : Assignment) (held : holds a body ≡ true) where
  all_tests : (tests : List Test) (test : Test) → list_all (passes a) tests ≡ true → IsIn test tests → passes a test ≡ true
  all_tests [] test h at = absurd at
  all_tests (t ∷ tests) test h at =
      let both = and_parts (passes a t) (list_all (passes a) tests) h in
      elim at [ inl e ↦ subst (λ u. passes a u ≡ true) e both.0 | inr r ↦ all_tests tests test both.1 r ]

  pin_holds : (term : Term) (pin : ℕ) → IsPinOf body.tests term pin → pin ≡ cell_of a term
  pin_holds (Cell c) pin h = sym h
  pin_holds (Var v) pin h =
      let tests_hold : list_all (passes a) body.tests ≡ true = (and_parts _ (list_all (passes a) body.tests) held).1 in
      sym (eqb-true (a v) pin (all_tests body.tests (Cmp (Var v) Eq (Cell pin)) tests_hold h))

  pub pins_fit : (term : Term) (pins : List ℕ) (k : ℕ) → cell_of a term ≡ k → AllByRecursion (IsPinOf body.tests term) pins → AllByRecursion (λ pin. pin ≡ k) pins
  pins_fit term [] k e h = tt
  pins_fit term (pin ∷ pins) k e h = (pin_holds term pin h.0 ∙ e, pins_fit term pins k e h.1)

  pub ties_fit : (levels : List Level) (l : ℕ) (keys : Keys) (term : Term) (ties : List ℕ) (k : ℕ) → AgreeBelow l keys (keys_under a levels) → cell_of a term ≡ k → AllByRecursion (λ m. (m < l) × (term_at levels m ≡ term)) ties → AllByRecursion (λ m. keys m ≡ k) ties
  ties_fit levels l keys term [] k agree e h = tt
  ties_fit levels l keys term (m ∷ ties) k agree e h =
      (agree m h.0.0 ∙ (ap (cell_of a) h.0.1 ∙ e), ties_fit levels l keys term ties k agree e h.1)

-- a key that isn't what the pins and ties of a level ask for
pub unfit_hopeless : (body : Body) (levels : List Level) (l : ℕ) (level : Level) (keys : Keys) (k : ℕ) → IsLevelOf body levels l level → (Fits level keys k → ⊥) → IsHopeless body levels (l + 1) (with_key keys l k)
unfit_hopeless body levels l level keys k is unfit a agree held =
    let term : cell_of a level.term ≡ k = ap (cell_of a) (sym is.term) ∙ sym (agrees_at levels a l keys k agree) in
    unfit (pins_fit body a held level.term level.pins k term is.pins, ties_fit body a held levels l keys level.term level.ties k (agrees_before levels a l keys k agree) term is.ties)
