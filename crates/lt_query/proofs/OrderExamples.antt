-- The stated order on worked bodies, computed.
use Rattle.std.specs.Prelude.{◌≡◌, ℕ, false, List, [], ◌∷◌}
use Rattle.std.proofs.Common.{refl}
use Rattle.lt_model.specs.declared.normal.Term.{Term}
use Rattle.lt_model.specs.declared.normal.Term.TheVariants.{Var, Cell}
use Rattle.lt_model.specs.declared.normal.Atom.{Atom}
use Rattle.lt_model.specs.declared.syntax.Op.TheVariants.{Eq, Gt}
use Rattle.lt_model.specs.declared.normal.Test.TheVariants.{Cmp, Sum}
use Rattle.lt_query.specs.declared.plans.Level.{Level}
use Rattle.lt_query.specs.declared.plans.Guide.{Guide}
use Rattle.lt_query.specs.Order.{stated_terms}
use Rattle.lt_query.specs.Stated.{stated_plan}

atom : ℕ → List Term → Atom
atom r ts = record { relation = r; terms = ts }

level : Term → List ℕ → List ℕ → Level
level t ps ms = record { term = t; pins = ps; ties = ms }

guide : ℕ → List ℕ → List ℕ → Guide
guide r ls cs = record { relation = r; places = ls; columns = cs }

-- r(x), x > 3: a test that is no `v = c` pins nothing
above : stated_plan (record { atoms = atom 0 (Var 0 ∷ []) ∷ []; absents = []; tests = Cmp (Var 0) Gt (Cell 3) ∷ []; vars = 1 })
    ≡ record { levels = level (Var 0) [] [] ∷ []; guides = guide 0 (0 ∷ []) (0 ∷ []) ∷ [] }
unfolding atom level guide
above = refl

-- r(x), x = 1
pinned : stated_plan (record { atoms = atom 0 (Var 0 ∷ []) ∷ []; absents = []; tests = Cmp (Var 0) Eq (Cell 1) ∷ []; vars = 1 })
    ≡ record { levels = level (Var 0) (1 ∷ []) [] ∷ []; guides = guide 0 (0 ∷ []) (0 ∷ []) ∷ [] }
unfolding atom level guide
pinned = refl

-- e(a, b), e(b, c), e(a, c)
triangle : stated_plan (record { atoms = atom 0 (Var 0 ∷ Var 1 ∷ []) ∷ atom 0 (Var 1 ∷ Var 2 ∷ []) ∷ atom 0 (Var 0 ∷ Var 2 ∷ []) ∷ []; absents = []; tests = []; vars = 3 })
    ≡ record { levels = level (Var 0) [] [] ∷ level (Var 1) [] [] ∷ level (Var 2) [] [] ∷ []; guides = guide 0 (0 ∷ 1 ∷ []) (0 ∷ 1 ∷ []) ∷ guide 0 (1 ∷ 2 ∷ []) (0 ∷ 1 ∷ []) ∷ guide 0 (0 ∷ 2 ∷ []) (0 ∷ 1 ∷ []) ∷ [] }
unfolding atom level guide
triangle = refl

-- e(x, x)
loops : stated_plan (record { atoms = atom 0 (Var 0 ∷ Var 0 ∷ []) ∷ []; absents = []; tests = []; vars = 1 })
    ≡ record { levels = level (Var 0) [] [] ∷ level (Var 0) [] (0 ∷ []) ∷ []; guides = guide 0 (0 ∷ 1 ∷ []) (0 ∷ 1 ∷ []) ∷ [] }
unfolding atom level guide
loops = refl

-- r(n), m = n + 1: a variable of no atom has no level
summed : stated_terms (record { atoms = atom 0 (Var 0 ∷ []) ∷ []; absents = []; tests = Sum 1 (Var 0) false (Cell 7) ∷ []; vars = 2 }) ≡ Var 0 ∷ []
unfolding atom
summed = refl

-- e(x, y), with y printed
pair : stated_terms (record { atoms = atom 0 (Var 0 ∷ Var 1 ∷ []) ∷ []; absents = []; tests = []; vars = 2 }) ≡ Var 0 ∷ Var 1 ∷ []
unfolding atom
pair = refl

-- e(x, y), f(5, y, x, y), y = 3, y = 4: the pinned ones first, and a tied one after its original
mixed : stated_plan (record {
  atoms = atom 0 (Var 0 ∷ Var 1 ∷ []) ∷ atom 1 (Cell 5 ∷ Var 1 ∷ Var 0 ∷ Var 1 ∷ []) ∷ [];
  absents = [];
  tests = Cmp (Var 1) Eq (Cell 3) ∷ Cmp (Var 1) Eq (Cell 4) ∷ [];
  vars = 2;
})
    ≡ record {
      levels = level (Var 1) (3 ∷ 4 ∷ []) [] ∷ level (Var 1) [] (0 ∷ []) ∷ level (Cell 5) (5 ∷ []) [] ∷ level (Var 0) [] [] ∷ [];
      guides = guide 0 (3 ∷ 0 ∷ []) (1 ∷ 0 ∷ []) ∷ guide 1 (2 ∷ 0 ∷ 3 ∷ 1 ∷ []) (1 ∷ 3 ∷ 0 ∷ 2 ∷ []) ∷ [];
    }
unfolding atom level guide
mixed = refl

-- the same constant twice is two variables, and two atoms tie a variable of their own each
twice : stated_plan (record { atoms = atom 0 (Cell 5 ∷ Cell 5 ∷ []) ∷ atom 1 (Var 0 ∷ Var 0 ∷ []) ∷ atom 1 (Var 0 ∷ Var 0 ∷ []) ∷ []; absents = []; tests = []; vars = 1 })
    ≡ record {
      levels = level (Cell 5) (5 ∷ []) [] ∷ level (Cell 5) (5 ∷ []) [] ∷ level (Var 0) [] [] ∷ level (Var 0) [] (2 ∷ []) ∷ level (Var 0) [] (2 ∷ []) ∷ [];
      guides = guide 0 (0 ∷ 1 ∷ []) (0 ∷ 1 ∷ []) ∷ guide 1 (2 ∷ 3 ∷ []) (0 ∷ 1 ∷ []) ∷ guide 1 (2 ∷ 4 ∷ []) (0 ∷ 1 ∷ []) ∷ [];
    }
unfolding atom level guide
twice = refl

-- r(x), 1 = x: only a variable on the left is pinned
on_the_left : stated_plan (record { atoms = atom 0 (Var 0 ∷ []) ∷ []; absents = []; tests = Cmp (Cell 1) Eq (Var 0) ∷ []; vars = 1 })
    ≡ record { levels = level (Var 0) [] [] ∷ []; guides = guide 0 (0 ∷ []) (0 ∷ []) ∷ [] }
unfolding atom level guide
on_the_left = refl

-- x = 1 alone: no atom, no level
alone : stated_plan (record { atoms = []; absents = []; tests = Cmp (Var 0) Eq (Cell 1) ∷ []; vars = 1 }) ≡ record { levels = []; guides = [] }
alone = refl
