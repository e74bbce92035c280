-- A database that has the indexes of a program's routes has those that the program needs: a relation always has the one in its own order.
use Rattle.std.proofs.Common.{◌≡◌, ℕ, zero, suc, ◌+◌, ◌<◌, true, List, [], ◌∷◌, ◌++◌, map, length, take, get_or, Some, refl, sym, ap, ◌∙◌, subst, arith}
use Rattle.std.specs.List.{AllByRecursion, list_any}
use Rattle.std.proofs.lemmas.Bool.{or_left}
use Rattle.std.proofs.Math.Seq.{take-suc}
use Rattle.lt_face.specs.State.{row_eq}
use Rattle.lt_face.proofs.RowLemmas.{each_weaker}
use Rattle.lt_model.specs.declared.normal.Atom.{Atom}
use Rattle.lt_model.specs.declared.normal.Stmt.{Stmt}
use Rattle.lt_model.specs.Fits.{IsWide, IsAtomOf, FitsStatement, Fits}
use Rattle.lt_delta.specs.Columns.{numbers}
use Rattle.lt_base.specs.Tables.{Table, state_of, has_index}
use Rattle.lt_base.proofs.OwnOrder.{row_eq-itself}
use Rattle.lt_query.specs.Lists.{below}
use Rattle.lt_query.specs.Needs.{body_of}
use Rattle.lt_query.specs.Planned.{routes_of}
use Rattle.lt_query.specs.declared.plans.Guide.{Guide}
use Rattle.lt_query.specs.declared.plans.Route.{Route}
use Rattle.lt_query.proofs.SameShape.{guides_of-shape}
use Rattle.lt_program.specs.Tally.{HasIndexes}
use Rattle.lt_program.proofs.IndexesMade.{body_fits}

-- the database has the indexes of these guides
abbrev pub HasGuides : List Table → List Guide → Type 0
HasGuides base guides = AllByRecursion (λ (guide : Guide). has_index base guide.relation guide.columns ≡ true) guides

-- those of each of these routes
abbrev pub AreInUse : {X : Type 0} → (X → Route) → List Table → List X → Type 0
AreInUse f base routes = AllByRecursion (λ x. HasGuides base (f x).guides) routes

-- ---- one more element

each_pushed : {X : Type 0} (P : X → Type 0) (xs : List X) (x : X) → AllByRecursion P xs → P x → AllByRecursion P (xs ++ x ∷ [])
each_pushed P [] x all one = (one, tt)
each_pushed P (y ∷ xs) x all one = (all.0, each_pushed P xs x all.1 one)

each_more : {X : Type 0} (P : X → Type 0) (xs : List X) (i : ℕ) (x : X) → i < length xs → x ≡ get_or xs i x → P x → AllByRecursion P (take i xs) → AllByRecursion P (take (i + 1) xs)
each_more P xs i x lt is one all =
    let next : i + 1 ≡ suc i = omega arith in
    subst (AllByRecursion P) (sym (ap (λ n. take n xs) next ∙ take-suc xs i x lt ∙ ap (λ y. take i xs ++ y ∷ []) (sym is))) (each_pushed P (take i xs) x all one)

pub guide_more : (base : List Table) (guides : List Guide) (i : ℕ) (guide : Guide) → i < length guides → guide ≡ get_or guides i guide → has_index base guide.relation guide.columns ≡ true → HasGuides base (take i guides) → HasGuides base (take (i + 1) guides)
guide_more base guides i guide lt is one all = each_more (λ (g : Guide). has_index base g.relation g.columns ≡ true) guides i guide lt is one all

pub route_more : {X : Type 0} (f : X → Route) (base : List Table) (routes : List X) (i : ℕ) (route : X) → i < length routes → route ≡ get_or routes i route → HasGuides base (f route).guides → AreInUse f base (take i routes) → AreInUse f base (take (i + 1) routes)
route_more f base routes i route lt is one all = each_more (λ x. HasGuides base (f x).guides) routes i route lt is one all

-- ---- the index in a relation's own order

numbers_end : (a n : ℕ) → numbers a (suc n) ≡ numbers a n ++ (a + n) ∷ []
numbers_end a zero = let same : a ≡ a + 0 = omega arith in ap (λ k. k ∷ []) same
numbers_end a (suc n) = let same : (a + 1) + n ≡ a + suc n = omega arith in ap (λ ks. a ∷ ks) (numbers_end (a + 1) n ∙ ap (λ k. numbers (a + 1) n ++ k ∷ []) same)

below_numbers : (n : ℕ) → below n ≡ numbers 0 n
below_numbers zero = refl
below_numbers (suc n) = let same : n ≡ 0 + n = omega arith in ap (λ ks. ks ++ n ∷ []) (below_numbers n) ∙ ap (λ k. numbers 0 n ++ k ∷ []) same ∙ sym (numbers_end 0 n)

some_is : (x y : ℕ) → Some x ≡ Some y → x ≡ y
some_is x y e = cc

own_there : (tables : List Table) (relation w : ℕ) → IsWide (state_of tables) relation w → has_index tables relation (below w) ≡ true
own_there [] zero w wide = cc
own_there [] (suc relation) w wide = cc
own_there (table ∷ tables) zero w wide =
    let same : table.width ≡ w = some_is table.width w wide in
    or_left (row_eq (below w) (numbers 0 table.width)) (list_any (row_eq (below w)) table.others)
    (ap (λ n. row_eq (below w) (numbers 0 n)) same ∙ ap (row_eq (below w)) (sym (below_numbers w)) ∙ row_eq-itself (below w))
own_there (table ∷ tables) (suc relation) w wide = own_there tables relation w wide

-- ---- a program's indexes

module _ (base : List Table) where
  of_map : {X : Type 0} (f : X → Route) (routes : List X) → AreInUse f base routes → AllByRecursion (λ (r : Route). HasGuides base r.guides) (map f routes)
  of_map f [] all = tt
  of_map f (x ∷ routes) all = (all.0, of_map f routes all.1)

  of_routes : (program : List Stmt) → AllByRecursion (FitsStatement (state_of base)) program → AllByRecursion (λ (r : Route). HasGuides base r.guides) (routes_of program) → HasIndexes base program
  of_routes [] fits all = tt
  of_routes (stmt ∷ program) fits all = (
    (
      subst (HasGuides base) (guides_of-shape (body_of stmt)) all.0,
      each_weaker (IsAtomOf (state_of base) (body_of stmt).vars) (λ (atom : Atom). has_index base atom.relation (below (length atom.terms)) ≡ true) (λ atom h. own_there base atom.relation (length atom.terms) h.is_wide) (body_of stmt).absents
          (body_fits (state_of base) stmt fits.0).absents,
    ),
    of_routes program fits.1 all.1,
  )

  pub all_in_use : {X : Type 0} (f : X → Route) (program : List Stmt) (routes : List X) → map f routes ≡ routes_of program → Fits (state_of base) program → AreInUse f base routes → HasIndexes base program
  all_in_use f program routes are fits all = of_routes program fits.each (subst (AllByRecursion (λ (r : Route). HasGuides base r.guides)) are (of_map f routes all))
