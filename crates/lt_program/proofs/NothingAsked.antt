-- The answer of a body that asks nothing.
use Rattle.std.proofs.Common.{◌≡◌, ℕ, List, [], ◌∷◌, length, refl, sym, subst, inl, arith}
use Rattle.std.specs.List.{AllByRecursion}
use Rattle.lt_face.specs.State.{State}
use Rattle.lt_model.specs.declared.normal.Atom.{Atom}
use Rattle.lt_model.specs.declared.normal.Body.{Body}
use Rattle.lt_model.specs.declared.normal.Term.{Term}
use Rattle.lt_model.specs.declared.normal.Test.{Test}
use Rattle.lt_model.specs.Answers.{answers, cells_of}
use Rattle.lt_sense.specs.Kept.{Sense}
use Rattle.lt_sense.specs.Sense.{IsTight}
use Rattle.lt_join.specs.Certify.{IsMet, IsMissed, Certifies}
use Rattle.lt_program.specs.Planned.{IsEmpty}

answer_alone : (terms : List Term) (atoms absents : List Atom) (tests : List Test) (vars : ℕ) (state : State) → length atoms ≡ 0 → length absents ≡ 0 → length tests ≡ 0
    → answers terms (record { atoms = atoms; absents = absents; tests = tests; vars = vars }) state ≡ cells_of (λ v. 0) terms ∷ []
answer_alone terms [] [] [] vars state a b c = refl
answer_alone terms (x ∷ xs) absents tests vars state a b c = absurd (omega (arith, a))
answer_alone terms [] (x ∷ xs) tests vars state a b c = absurd (omega (arith, b))
answer_alone terms [] [] (x ∷ xs) vars state a b c = absurd (omega (arith, c))

-- it is the terms' row, whatever the state
pub nothing_asked : (terms : List Term) (body : Body) (state : State) → IsEmpty body → answers terms body state ≡ cells_of (λ v. 0) terms ∷ []
nothing_asked terms body state is = answer_alone terms body.atoms body.absents body.tests body.vars state is.atoms is.absents is.tests

none_there : {X : Type 0} (xs : List X) → length xs ≡ 0 → xs ≡ []
none_there [] e = refl
none_there (x ∷ xs) e = absurd (omega (arith, e))

-- any sense certifies it
pub nothing_needed : (sense : Sense) (body : Body) (state : State) → IsEmpty body → Certifies sense body state
nothing_needed sense body state is = λ a holds.
    inl (subst (AllByRecursion (IsMet sense state a)) (sym (none_there body.atoms is.atoms)) tt, subst (AllByRecursion (IsMissed sense state a)) (sym (none_there body.absents is.absents)) tt)

pub nothing_tight : (sense : Sense) (state : State) → sense ≡ record { gaps = []; hits = [] } → IsTight sense state
nothing_tight sense state is = subst (λ (s : Sense). IsTight s state) (sym is) (record { gaps = tt; hits = tt })
