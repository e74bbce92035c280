-- The indexes that worked programs need, computed.
use Rattle.std.specs.Prelude.{◌≡◌, ℕ, true, false, [], ◌∷◌, ◌++◌}
use Rattle.std.proofs.Common.{refl}
use Rattle.lt_model.specs.declared.normal.Term.TheVariants.{Var, Cell}
use Rattle.lt_model.specs.declared.normal.Atom.{Atom}
use Rattle.lt_model.specs.declared.normal.Body.{Body}
use Rattle.lt_model.specs.declared.kind.Kind.TheVariants.{Int}
use Rattle.lt_model.specs.declared.syntax.Op.TheVariants.{Eq}
use Rattle.lt_model.specs.declared.normal.Test.TheVariants.{Cmp}
use Rattle.lt_model.specs.declared.normal.Stmt.TheVariants.{Require, Replace, Print}
use Rattle.lt_query.specs.Needs.{with_names, names_of, firsts_of}

-- e(a, b), e(b, c), e(a, c)
abbrev triangle : Body
triangle = record { atoms = record { relation = 0; terms = Var 0 ∷ Var 1 ∷ [] } ∷ record { relation = 0; terms = Var 1 ∷ Var 2 ∷ [] } ∷ record { relation = 0; terms = Var 0 ∷ Var 2 ∷ [] } ∷ []; absents = []; tests = []; vars = 3 }

-- e(x, y), y = 3
abbrev second_pinned : Body
second_pinned = record { atoms = record { relation = 0; terms = Var 0 ∷ Var 1 ∷ [] } ∷ []; absents = []; tests = Cmp (Var 1) Eq (Cell 3) ∷ []; vars = 2 }

both : with_names [] (names_of (Require true triangle ∷ Require false second_pinned ∷ Require true triangle ∷ [])) ≡ record { relation = 0; columns = 0 ∷ 1 ∷ [] } ∷ record { relation = 0; columns = 1 ∷ 0 ∷ [] } ∷ []
both = refl

-- a head needs no index: replace e(x, y) by f(x, y) where e(x, y), y = 3
abbrev head : ℕ → Atom
head r = record { relation = r; terms = Var 0 ∷ Var 1 ∷ [] }

replaced : with_names [] (names_of (Replace (head 0) (head 1) 2 second_pinned ∷ [])) ≡ record { relation = 0; columns = 1 ∷ 0 ∷ [] } ∷ []
replaced = refl

-- a body without atoms needs none: print (3)
constant : with_names [] (names_of (Print (Cell 3 ∷ []) (Int ∷ []) (record { atoms = []; absents = []; tests = []; vars = 0 }) ∷ [])) ≡ []
constant = refl

-- a negated atom is looked up in the first index: require some e(x, y), not f(y, x)
abbrev negated : Body
negated = record { atoms = record { relation = 0; terms = Var 0 ∷ Var 1 ∷ [] } ∷ []; absents = record { relation = 1; terms = Var 1 ∷ Var 0 ∷ [] } ∷ []; tests = []; vars = 2 }

looked_up : with_names [] (names_of (Require true negated ∷ []) ++ firsts_of (Require true negated ∷ [])) ≡ record { relation = 0; columns = 0 ∷ 1 ∷ [] } ∷ record { relation = 1; columns = 0 ∷ 1 ∷ [] } ∷ []
looked_up = refl
