-- The plan of a body with the term of its first level pinned.
use Rattle.std.specs.Prelude.{◌≡◌, ℕ, zero, suc, ◌+◌, ◌<◌, ◌≤◌, ◌^◌, List, [], ◌∷◌, map, length}
use Rattle.std.specs.List.{AllByRecursion, AllZip}
use Rattle.std.proofs.Common.{refl, sym, ◌∙◌, subst, inl, inr, arith}
use Rattle.lt_face.specs.Rows.{IsCell}
use Rattle.lt_face.specs.State.{State}
use Rattle.lt_face.proofs.RowLemmas.{each_weaker}
use Rattle.lt_model.specs.declared.normal.Term.{Term}
use Rattle.lt_model.specs.declared.normal.Term.TheVariants.{Var, Cell}
use Rattle.lt_model.specs.declared.normal.Atom.{Atom}
use Rattle.lt_model.specs.declared.normal.Test.{Test}
use Rattle.lt_model.specs.declared.normal.Test.TheVariants.{Cmp}
use Rattle.lt_model.specs.declared.normal.Body.{Body}
use Rattle.lt_model.specs.declared.syntax.Op.TheVariants.{Eq}
use Rattle.lt_model.specs.Fits.{IsTermOf, IsBodyOf}
use Rattle.lt_query.specs.declared.plans.Level.{Level}
use Rattle.lt_query.specs.declared.plans.Guide.{Guide}
use Rattle.lt_query.specs.declared.plans.Plan.{Plan}
use Rattle.lt_query.specs.Plan.{term_at, IsGuideOf, IsPinOf, IsFirstLevel, IsDetermined, IsLevelOf, AreLevelsFrom, IsPlanOf}
use Rattle.lt_query.specs.Runnable.{IsRunnable}
use Rattle.lt_join.specs.Sliced.{pinned}
use Rattle.lt_join.specs.MendedPlan.{pinned_levels, pinned_plan, MayPin}

-- ---- the terms stay

pub term_same : (key : ℕ) (levels : List Level) (l : ℕ) → term_at (pinned_levels key levels) l ≡ term_at levels l
term_same key [] l = refl
term_same key (level ∷ levels) zero = refl
term_same key (level ∷ levels) (suc l) = refl

pub length_same : (key : ℕ) (levels : List Level) → length (pinned_levels key levels) ≡ length levels
length_same key [] = refl
length_same key (level ∷ levels) = refl

map_same : (key : ℕ) (levels : List Level) (places : List ℕ) → map (term_at (pinned_levels key levels)) places ≡ map (term_at levels) places
map_same key levels [] = refl
map_same key levels (l ∷ places) = let e = term_same key levels l in let r = map_same key levels places in cc

guide_same : (key : ℕ) (levels : List Level) (atom : Atom) (guide : Guide) → IsGuideOf levels atom guide → IsGuideOf (pinned_levels key levels) atom guide
guide_same key levels atom guide h = record {
  relation = h.relation;
  terms = h.terms ∙ sym (map_same key levels guide.places);
  places = each_weaker (λ l. l < length levels) (λ l. l < length (pinned_levels key levels)) (λ l lt. subst (λ n. l < n) (sym (length_same key levels)) lt) guide.places h.places;
  columns = h.columns;
  each = h.each;
  as_long = h.as_long;
  rising = h.rising;
}

guides_same : (key : ℕ) (levels : List Level) (atoms : List Atom) (guides : List Guide) → AllZip (IsGuideOf levels) atoms guides → AllZip (IsGuideOf (pinned_levels key levels)) atoms guides
guides_same key levels [] [] h = h
guides_same key levels [] (guide ∷ guides) h = absurd h
guides_same key levels (atom ∷ atoms) [] h = absurd h
guides_same key levels (atom ∷ atoms) (guide ∷ guides) h = (guide_same key levels atom guide h.0, guides_same key levels atoms guides h.1)

-- ---- the pins

pin_more : (term : Term) (key : ℕ) (tests : List Test) (t : Term) (pin : ℕ) → IsPinOf tests t pin → IsPinOf (Cmp term Eq (Cell key) ∷ tests) t pin
pin_more term key tests (Cell c) pin h = h
pin_more term key tests (Var v) pin h = inr h

pin_first : (term : Term) (key : ℕ) (tests : List Test) → MayPin term key → IsPinOf (Cmp term Eq (Cell key) ∷ tests) term key
pin_first (Cell c) key tests may = may
pin_first (Var v) key tests may = inl refl

first_level_same : (key : ℕ) (levels : List Level) (v l : ℕ) → IsFirstLevel (pinned_levels key levels) v l → IsFirstLevel levels v l
first_level_same key levels v l h = (sym (term_same key levels l) ∙ h.0, λ m lt e. h.1 m lt (term_same key levels m ∙ e))

determined_same : (key : ℕ) (levels : List Level) (l : ℕ) (level : Level) (t : Term) → IsDetermined levels l level t → IsDetermined (pinned_levels key levels) l level t
determined_same key levels l level (Cell c) h = h
determined_same key levels l level (Var v) h = λ m lt first. h m lt (first_level_same key levels v m first)

determined_pinned : (key : ℕ) (levels : List Level) (l : ℕ) (level : Level) (t : Term) → MayPin t key → IsDetermined levels l level t → IsDetermined (pinned_levels key levels) l (record level { pins = key ∷ [] }) t
determined_pinned key levels l level (Cell c) may h = inl (sym may)
determined_pinned key levels l level (Var v) may h = λ m lt first. h m lt (first_level_same key levels v m first)

level_same : (term : Term) (key : ℕ) (body : Body) (levels : List Level) (l : ℕ) (level : Level) → IsLevelOf body levels l level → IsLevelOf (pinned term key body) (pinned_levels key levels) l level
level_same term key body levels l level h = record {
  term = term_same key levels l ∙ h.term;
  pins = each_weaker (IsPinOf body.tests level.term) (IsPinOf (pinned term key body).tests level.term) (pin_more term key body.tests level.term) level.pins h.pins;
  ties = each_weaker (λ m. (m < l) × (term_at levels m ≡ level.term)) (λ m. (m < l) × (term_at (pinned_levels key levels) m ≡ level.term)) (λ m t. (t.0, term_same key levels m ∙ t.1)) level.ties h.ties;
  determined = determined_same key levels l level level.term h.determined;
}

levels_same : (term : Term) (key : ℕ) (body : Body) (levels : List Level) (l : ℕ) (rest : List Level) → AreLevelsFrom body levels l rest → AreLevelsFrom (pinned term key body) (pinned_levels key levels) l rest
levels_same term key body levels l [] h = tt
levels_same term key body levels l (level ∷ rest) h = (level_same term key body levels l level h.0, levels_same term key body levels (l + 1) rest h.1)

-- the first level, whose term is the pinned one
level_first : (key : ℕ) (body : Body) (levels : List Level) (level : Level) → MayPin level.term key → IsLevelOf body levels 0 level → IsLevelOf (pinned level.term key body) (pinned_levels key levels) 0 (record level { pins = key ∷ [] })
level_first key body levels level may h = record {
  term = term_same key levels 0 ∙ h.term;
  pins = (pin_first level.term key body.tests may, tt);
  ties = each_weaker (λ m. (m < 0) × (term_at levels m ≡ level.term)) (λ m. (m < 0) × (term_at (pinned_levels key levels) m ≡ level.term)) (λ m t. (t.0, term_same key levels m ∙ t.1)) level.ties h.ties;
  determined = determined_pinned key levels 0 level level.term may h.determined;
}

levels_pinned : (key : ℕ) (body : Body) (levels : List Level) → MayPin (term_at levels 0) key → AreLevelsFrom body levels 0 levels → AreLevelsFrom (pinned (term_at levels 0) key body) (pinned_levels key levels) 0 (pinned_levels key levels)
levels_pinned key body [] may h = tt
levels_pinned key body (level ∷ rest) may h = (level_first key body (level ∷ rest) level may h.0, levels_same level.term key body (level ∷ rest) 1 rest h.1)

-- ---- the plan

-- the plan whose first level has the key as its one pin is one of the body with that level's term pinned
pub IsPlanOf-pinned : (key : ℕ) (body : Body) (plan : Plan) → MayPin (term_at plan.levels 0) key → IsPlanOf body plan → IsPlanOf (pinned (term_at plan.levels 0) key body) (pinned_plan key plan)
IsPlanOf-pinned key body plan may of_body = record {
  guides = guides_same key plan.levels body.atoms plan.guides of_body.guides;
  levels = levels_pinned key body plan.levels may of_body.levels;
  held = λ l lt. of_body.held l (subst (λ n. l < n) (length_same key plan.levels) lt);
}

-- ---- the plan can be walked

zip_length : {X Y : Type 0} (R : X → Y → Type 0) (xs : List X) (ys : List Y) → AllZip R xs ys → length xs ≡ length ys
zip_length R [] [] h = refl
zip_length R [] (y ∷ ys) h = absurd h
zip_length R (x ∷ xs) [] h = absurd h
zip_length R (x ∷ xs) (y ∷ ys) h = let e = zip_length R xs ys h.1 in omega arith

no_ties : (body : Body) (levels : List Level) (level : Level) → IsLevelOf body levels 0 level → length level.ties ≡ 0
no_ties body levels level h = none level.ties h.ties where
  none : (ties : List ℕ) → AllByRecursion (λ m. (m < 0) × (term_at levels m ≡ level.term)) ties → length ties ≡ 0
  none [] h = refl
  none (m ∷ ties) h = absurd (let lt = h.0.0 in omega arith)

pins_pinned : (key : ℕ) (levels : List Level) → IsCell key → AllByRecursion (λ (level : Level). AllByRecursion IsCell level.pins) levels → AllByRecursion (λ (level : Level). AllByRecursion IsCell level.pins) (pinned_levels key levels)
pins_pinned key [] cell h = tt
pins_pinned key (level ∷ levels) cell h = ((cell, tt), h.1)

pub variables_pinned : (key vars : ℕ) (levels : List Level) → AllByRecursion (λ (level : Level). IsTermOf vars level.term) levels → AllByRecursion (λ (level : Level). IsTermOf vars level.term) (pinned_levels key levels)
variables_pinned key vars [] h = tt
variables_pinned key vars (level ∷ levels) h = (h.0, h.1)

few_pinned : (key guides : ℕ) (body : Body) (all levels : List Level) → guides ≤ 16 → AreLevelsFrom body all 0 levels → AllByRecursion (λ (level : Level). guides + (length level.pins + length level.ties) < 2 ^ 32) levels → AllByRecursion (λ (level : Level). guides + (length level.pins + length level.ties) < 2 ^ 32) (pinned_levels key levels)
few_pinned key guides body all [] few are h = tt
few_pinned key guides body all (level ∷ levels) few are h = (
  (let e = no_ties body all level are.0 in let small : guides + (1 + length level.ties) < 2 ^ 32 = omega arith in small),
  h.1,
)

pub IsRunnable-pinned : (state : State) (key : ℕ) (body : Body) (plan : Plan) → IsCell key → IsBodyOf state body → IsPlanOf body plan → IsRunnable body plan → IsRunnable (pinned (term_at plan.levels 0) key body) (pinned_plan key plan)
IsRunnable-pinned state key body plan cell fits of_body runnable =
    let as_many : length body.atoms ≡ length plan.guides = zip_length (IsGuideOf plan.levels) body.atoms plan.guides of_body.guides in
    let few = fits.has_few_literals in
    record {
      pins = pins_pinned key plan.levels cell runnable.pins;
      variables = variables_pinned key body.vars plan.levels runnable.variables;
      widths = runnable.widths;
      absents = runnable.absents;
      held = λ v stands.
          let at = runnable.held v stands in
          (at.0, subst (λ n. at.0 < n) (sym (length_same key plan.levels)) at.1, term_same key plan.levels at.0 ∙ at.2);
      few = few_pinned key (length plan.guides) body plan.levels plan.levels (omega arith) of_body.levels runnable.few;
    }
