-- Statements kept by slices, and their parts.
use Rattle.std.proofs.Common.{◌≡◌, ℕ, ◌+◌, ◌<◌, ◌≤◌, Bool, true, false, cond, List, [], ◌∷◌, ◌++◌, map, take, drop, length, refl, sym, ap, ◌∙◌, subst, inl, inr, arith}
use Rattle.std.specs.Prelude.{nat_lt, nat_le, ◌&&◌}
use Rattle.std.specs.List.{AllByRecursion, AllZip, flat_map}
use Rattle.std.proofs.lemmas.Bool.{and_parts, true≢false, cases_lt, lt-ltb, le-ltb, ltb-true, leb-true}
use Rattle.std.proofs.lemmas.List.{length-map, append-nil}
use Rattle.lt_face.specs.State.{Row, State, Has}
use Rattle.lt_model.specs.declared.normal.Term.{Term}
use Rattle.lt_model.specs.declared.normal.Atom.{Atom}
use Rattle.lt_model.specs.declared.normal.Body.{Body}
use Rattle.lt_model.specs.declared.normal.Stmt.{Stmt}
use Rattle.lt_model.specs.declared.normal.Stmt.TheVariants.{Insert, Delete, Replace, Require, Print}
use Rattle.lt_model.specs.Answers.{answers, ascending}
use Rattle.lt_model.specs.Effect.{is_plain, has_clash, key_body}
use Rattle.lt_model.specs.Fits.{FitsStatement}
use Rattle.lt_base.specs.Tables.{Table, state_of, has_index}
use Rattle.lt_query.specs.declared.plans.Guide.{Guide}
use Rattle.lt_query.specs.declared.plans.Level.{Level}
use Rattle.lt_query.specs.declared.plans.Plan.{Plan}
use Rattle.lt_query.specs.Lists.{IsRising}
use Rattle.lt_query.specs.Needs.{body_of}
use Rattle.lt_query.specs.Plan.{term_at, IsGuideOf}
use Rattle.lt_query.specs.Runnable.{IsWidth, HasWidths, AreWide}
use Rattle.lt_query.specs.Stated.{stated_plan}
use Rattle.lt_query.proofs.Running.{widths_of}
use Rattle.lt_query.proofs.StatedPlan.{IsPlanOf-stated}
use Rattle.lt_sense.specs.declared.covering.Hit.{Hit}
use Rattle.lt_sense.specs.declared.covering.KeptGap.{KeptGap}
use Rattle.lt_sense.specs.Kept.{Sense}
use Rattle.lt_sense.specs.Sense.{IsTight}
use Rattle.lt_join.specs.Slices.{Slice, SlicesView}
use Rattle.lt_join.specs.Certify.{Certifies}
use Rattle.lt_join.specs.Cost.{bound}
use Rattle.lt_sense.specs.Cut.{cut}
use Rattle.lt_join.specs.Mended.{AreSlicesOn, HaveTouched, AreMended}
use Rattle.lt_join.specs.MendedPlan.{mending_cost}
use Rattle.lt_join.specs.Sliced.{slice_keys, united, sliced_rows, IsSliceOf, AreRooted, AreRootGaps}
use Rattle.lt_join.proofs.MendLaws.{certified_of, tight_of, answers_of}
use Rattle.lt_join.proofs.Repair.{GapIsTight}
use Rattle.lt_program.specs.declared.part.Certificate.{Certificate}
use Rattle.lt_program.specs.declared.part.Certificate.TheVariants.{Whole, ByKey}
use Rattle.lt_program.specs.declared.part.Found.{Found}
use Rattle.lt_program.specs.declared.part.Found.TheVariants.{Both}
use Rattle.lt_program.specs.Part.{Part, kept_by, part_of}
use Rattle.lt_program.specs.Planned.{IsPlanned, ArePicked}
use Rattle.lt_join.specs.Asked.{CanJoin, AreAnswerable}
use Rattle.lt_program.specs.Asked.{CanFollow, CanEvaluate}
use Rattle.lt_program.specs.Tally.{IsPartOn, IsKeptAs, IsMendedPart, IsWhole, CertifiesKeys, VouchesFor, keyed_on, outcome_on, has_level, is_sliced, sense_of, slice_terms}
use Rattle.lt_program.proofs.IndexesMade.{body_fits}
use Rattle.lt_program.proofs.Picked.{head_picked, print_picked}
use Rattle.lt_program.proofs.TwoHeads.{both_picked, first_answers, second_answers}

-- ---- levels

some_level : (n : ℕ) (places : List ℕ) → AllByRecursion (λ l. l < n) places → 0 < length places → 0 < n
some_level n [] h lt = absurd (omega arith)
some_level n (p ∷ ps) h lt = omega (arith, h.0)

level_of_atoms : (levels : List Level) (atoms : List Atom) (guides : List Guide) → AllZip (IsGuideOf levels) atoms guides → AllByRecursion (λ (atom : Atom). IsWidth (length atom.terms)) atoms → 0 < length atoms → 0 < length levels
level_of_atoms levels [] guides z w lt = absurd (omega arith)
level_of_atoms levels (atom ∷ atoms) [] z w lt = absurd z
level_of_atoms levels (atom ∷ atoms) (guide ∷ guides) z w lt =
    let first : IsGuideOf levels atom guide = z.0 in
    let long : length atom.terms ≡ length guide.places = ap length first.terms ∙ length-map guide.places (term_at levels) in
    some_level (length levels) guide.places first.places (omega (arith, long, w.0.0))

none_of : {X : Type 0} (xs : List X) → length xs ≤ 0 → xs ≡ []
none_of [] le = refl
none_of (x ∷ xs) le = absurd (omega arith)

pub no_level : (body : Body) → body.atoms ≡ [] → has_level body ≡ false
no_level body e = ap (λ (atoms : List Atom). has_level (record { atoms = atoms; absents = body.absents; tests = body.tests; vars = body.vars })) e

-- the plan of a body has a level exactly where the body has an atom
pub level_there : (body : Body) (n : ℕ) → HasWidths body → n ≡ length body.atoms → nat_lt 0 n ≡ has_level body
level_there body n widths is =
    elim (cases_lt 0 (length body.atoms)) [
      | inl lt ↦
          let some : 0 < length (stated_plan body).levels = level_of_atoms (stated_plan body).levels body.atoms (stated_plan body).guides (IsPlanOf-stated body).guides widths.0 lt in
          ap (nat_lt 0) is ∙ (lt-ltb 0 (length body.atoms) lt ∙ sym (lt-ltb 0 (length (stated_plan body).levels) some))
      | inr le ↦ ap (nat_lt 0) is ∙ (le-ltb 0 (length body.atoms) le ∙ sym (no_level body (none_of body.atoms le)))
    ]

none_and : (a b : Bool) → b ≡ false → (a && b) ≡ false
none_and true b e = e
none_and false b e = refl

-- a statement that reads no relation isn't kept by slices
pub not_sliced : (stmt : Stmt) → (body_of stmt).atoms ≡ [] → is_sliced stmt ≡ false
not_sliced (Insert head keys body) e = none_and (is_plain head keys) (has_level body) (no_level body e)
not_sliced (Delete head body) e = no_level body e
not_sliced (Replace gone come keys body) e = none_and (is_plain come keys) (has_level body && nat_le (length gone.terms + length come.terms) 8) (ap (λ b. b && nat_le (length gone.terms + length come.terms) 8) (no_level body e))
not_sliced (Require some body) e = refl
not_sliced (Print terms kinds body) e = no_level body e

pub sliced_level : (stmt : Stmt) → is_sliced stmt ≡ true → has_level (body_of stmt) ≡ true
sliced_level (Insert head keys body) h = (and_parts (is_plain head keys) (has_level body) h).1
sliced_level (Delete head body) h = h
sliced_level (Replace gone come keys body) h = (and_parts (has_level body) (nat_le (length gone.terms + length come.terms) 8) (and_parts (is_plain come keys) _ h).1).0
sliced_level (Require some body) h = absurd (true≢false (sym h))
sliced_level (Print terms kinds body) h = h

pub sliced_levels : (stmt : Stmt) → is_sliced stmt ≡ true → 0 < length (stated_plan (body_of stmt)).levels
sliced_levels stmt h = ltb-true 0 (length (stated_plan (body_of stmt)).levels) (sliced_level stmt h)

pub body_widths : (state : State) (stmt : Stmt) → AreWide state → FitsStatement state stmt → HasWidths (body_of stmt)
body_widths state stmt wide fits = widths_of state (body_of stmt) wide (body_fits state stmt fits)

-- ---- terms

-- the terms that the slices of a statement answer
pub terms_picked : (state : State) (stmt : Stmt) → AreWide state → FitsStatement state stmt → is_sliced stmt ≡ true → ArePicked (body_of stmt) (slice_terms stmt)
terms_picked state (Insert head keys body) wide fits sliced = head_picked state body head wide fits.0 fits.1
terms_picked state (Delete head body) wide fits sliced = head_picked state body head wide fits.0 fits.1
terms_picked state (Replace gone come keys body) wide fits sliced =
    both_picked body gone.terms come.terms (head_picked state body gone wide fits.0 fits.1) (head_picked state body come wide fits.0 fits.2)
    (leb-true (length gone.terms + length come.terms) 8 (and_parts (has_level body) (nat_le (length gone.terms + length come.terms) 8) (and_parts (is_plain come keys) _ sliced).1).1)
terms_picked state (Require some body) wide fits sliced = absurd (true≢false (sym sliced))
terms_picked state (Print terms kinds body) wide fits sliced = print_picked body terms (length kinds) fits.1

-- the outcome of a `replace`, of the answers of the terms of both heads
pub both_by : (gone come : Atom) (keys : ℕ) (body : Body) (state : State) (rows first second : List Row) (at : ℕ) → is_plain come keys ≡ true → at ≡ length gone.terms → first ≡ ascending (map (take at) rows) → second ≡ ascending (map (drop at) rows) → rows ≡ answers (gone.terms ++ come.terms) body state → Both first second ≡ outcome_on (Replace gone come keys body) state
both_by gone come keys body state rows first second at plain width a b found =
    let one : first ≡ answers gone.terms body state = first_answers gone.terms come.terms (gone.terms ++ come.terms) body state rows (map (take at) rows) first at refl width found refl a in
    let other : second ≡ answers come.terms body state = second_answers gone.terms come.terms (gone.terms ++ come.terms) body state rows (map (drop at) rows) second at refl width found refl b in
    ap (λ (x : List Row). Both x second) one ∙ ap (Both (answers gone.terms body state)) other
    ∙ ap (λ p. cond p (Both (answers gone.terms body state) (answers come.terms body state)) (keyed_on come keys (answers gone.terms body state) (answers come.terms body state) state)) (sym plain)

-- a `replace` that is kept by slices has key columns alone
pub plain_sliced : (stmt : Stmt) (gone come : Atom) (keys : ℕ) (body : Body) → stmt ≡ Replace gone come keys body → is_sliced stmt ≡ true → is_plain come keys ≡ true
plain_sliced stmt gone come keys body is sliced =
    (and_parts (is_plain come keys) (has_level body && nat_le (length gone.terms + length come.terms) 8) (subst (λ (s : Stmt). is_sliced s ≡ true) is sliced)).0

pub both_here : (stmt : Stmt) (gone come : Atom) (keys : ℕ) (body : Body) (state : State) (rows first second : List Row) (at : ℕ) → stmt ≡ Replace gone come keys body → is_plain come keys ≡ true → at ≡ length gone.terms → first ≡ ascending (map (take at) rows) → second ≡ ascending (map (drop at) rows)
    → rows ≡ answers (slice_terms stmt) (body_of stmt) state → Both first second ≡ outcome_on stmt state
both_here stmt gone come keys body state rows first second at is plain width a b found =
    subst (λ (s : Stmt). Both first second ≡ outcome_on s state) (sym is)
    (both_by gone come keys body state rows first second at plain width a b (subst (λ (s : Stmt). rows ≡ answers (slice_terms s) (body_of s) state) is found))

-- ---- parts

-- where all columns are key columns no key is looked up
plain_certifies : (sense : Sense) (head : Atom) (keys : ℕ) (rows : List Row) (state : State) → is_plain head keys ≡ true → CertifiesKeys sense head keys rows state
plain_certifies sense head keys rows state plain =
    subst (λ b. AllByRecursion (λ row. Certifies sense (key_body head.relation keys row) state) (cond b [] (cond (has_clash keys rows) [] rows))) (sym plain) tt

vouches_by : (sense : Sense) (stmt : Stmt) (state : State) → is_sliced stmt ≡ true → Certifies sense (body_of stmt) state → VouchesFor sense stmt state
vouches_by sense (Insert head keys body) state sliced h = (h, plain_certifies sense head keys (answers head.terms body state) state (and_parts (is_plain head keys) (has_level body) sliced).0)
vouches_by sense (Delete head body) state sliced h = h
vouches_by sense (Replace gone come keys body) state sliced h = (h, plain_certifies sense come keys (answers come.terms body state) state (and_parts (is_plain come keys) _ sliced).0)
vouches_by sense (Require some body) state sliced h = absurd (true≢false (sym sliced))
vouches_by sense (Print terms kinds body) state sliced h = h

module _ (base state : State) (stmt : Stmt) (root : Sense) (slices : List Slice) (wide : AreWide base) (fits : FitsStatement base stmt) (sliced : is_sliced stmt ≡ true) (are : AreSlicesOn (slice_terms stmt) (body_of stmt) (stated_plan (body_of stmt)) state root slices) where
  with_level : 0 < length (stated_plan (body_of stmt)).levels
  with_level = sliced_levels stmt sliced

  -- the rows of its slices are the answers of its terms
  pub rows_by : (rows : List Row) → rows ≡ ascending (sliced_rows slices) → rows ≡ answers (slice_terms stmt) (body_of stmt) state
  rows_by rows is =
      is ∙ sym (answers_of (slice_terms stmt) (body_of stmt) (stated_plan (body_of stmt)) state root slices (IsPlanOf-stated (body_of stmt)) with_level ((body_fits base stmt fits).is_bound, (body_fits base stmt fits).are_absents_bound) (terms_picked base stmt wide fits sliced).bound are)

  pub part_by_is : (outcome : Found) → outcome ≡ outcome_on stmt state → IsPartOn stmt state (record { outcome = outcome; sense = root; slices = slices; by_key = true })
  part_by_is outcome is = record {
    outcome = is;
    vouches = vouches_by (united root slices) stmt state sliced (certified_of (slice_terms stmt) (body_of stmt) (stated_plan (body_of stmt)) state root slices (IsPlanOf-stated (body_of stmt)) with_level are);
    tight = tight_of (slice_terms stmt) (body_of stmt) (stated_plan (body_of stmt)) state root slices are;
    sliced = record { by_key = sym sliced; by_slices = λ _. are; whole = λ no. absurd (true≢false (sym sliced ∙ no)) };
  }

-- without slices the root gaps are all
abbrev sense_by : List KeptGap → List Hit → Sense
sense_by gaps hits = record { gaps = gaps; hits = hits }

pub united_none : (s : Sense) → united s [] ≡ s
united_none s = ap (λ (gaps : List KeptGap). sense_by gaps (s.hits ++ [])) (append-nil s.gaps) ∙ ap (sense_by s.gaps) (append-nil s.hits)

kept_united : (outcome : Found) (certificate : Certificate) → kept_by certificate ≡ sense_of (part_of outcome certificate)
kept_united outcome (Whole sense) = sym (united_none sense)
kept_united outcome (ByKey found) = refl

-- what a certificate keeps is what its part was sensitive to
pub kept_is : (outcome : Found) (certificate : Certificate) (part : Part) → part_of outcome certificate ≡ part → kept_by certificate ≡ sense_of part
kept_is outcome certificate part is = kept_united outcome certificate ∙ ap sense_of is

-- a part without slices, of a statement that isn't kept by them
pub kept_whole : (stmt : Stmt) (state : State) (part : Part) → is_sliced stmt ≡ false → IsWhole part → IsKeptAs stmt state part
kept_whole stmt state part not one = record { by_key = one.by_key ∙ sym not; by_slices = λ yes. absurd (true≢false (sym yes ∙ not)); whole = λ _. one.slices }

-- ---- two heads

replace_narrow : (state : State) (gone come : Atom) (keys : ℕ) (body : Body) → AreWide state → FitsStatement state (Replace gone come keys body) → (length gone.terms ≤ 8) × (length come.terms ≤ 8)
replace_narrow state gone come keys body wide fits = ((head_picked state body gone wide fits.0 fits.1).narrow, (head_picked state body come wide fits.0 fits.2).narrow)

-- the heads of a `replace` are narrow
pub narrow_heads : (state : State) (stmt : Stmt) (gone come : Atom) (keys : ℕ) (body : Body) → stmt ≡ Replace gone come keys body → AreWide state → FitsStatement state stmt → (length gone.terms ≤ 8) × (length come.terms ≤ 8)
narrow_heads state stmt gone come keys body is wide fits = replace_narrow state gone come keys body wide (subst (FitsStatement state) is fits)

-- ---- joins

-- where the plan of a body can be followed, a join can
pub joins_by : (tables : List Table) (body : Body) (plan : Plan) → CanFollow tables body plan → CanJoin (state_of tables) (has_index tables) body plan
joins_by tables body plan can = record {
  of_body = can.planned.of_body;
  runnable = can.planned.runnable;
  fits = can.fits;
  has_indexes = subst (λ (p : Plan). AllByRecursion (λ (guide : Guide). has_index tables guide.relation guide.columns ≡ true) p.guides) (sym can.planned.stated) can.indexes.0;
  has_firsts = can.indexes.1;
}

-- where a statement can be evaluated, the plan of its body can be followed
pub follows_by : (tables : List Table) (stmt : Stmt) (body : Body) (plan : Plan) → body ≡ body_of stmt → IsPlanned (body_of stmt) plan → CanEvaluate tables stmt → CanFollow tables body plan
follows_by tables stmt body plan is planned can =
    subst (λ (b : Body). CanFollow tables b plan) (sym is) (record { planned = planned; indexes = can.indexes; fits = body_fits (state_of tables) stmt can.fits })

pub statement_joins : (tables : List Table) (stmt : Stmt) (body : Body) (plan : Plan) → body ≡ body_of stmt → IsPlanned (body_of stmt) plan → CanEvaluate tables stmt → CanJoin (state_of tables) (has_index tables) body plan
statement_joins tables stmt body plan is planned can = joins_by tables body plan (follows_by tables stmt body plan is planned can)

pub picked_answerable : (body : Body) (terms : List Term) → ArePicked body terms → AreAnswerable body terms
picked_answerable body terms picked = record { are_bound = picked.bound; narrow = picked.narrow }

-- the terms of a statement's slices
pub slices_answerable : (tables : List Table) (stmt : Stmt) (body : Body) (terms : List Term) → body ≡ body_of stmt → terms ≡ slice_terms stmt → CanEvaluate tables stmt → is_sliced stmt ≡ true → AreAnswerable body terms
slices_answerable tables stmt body terms is terms_are can sliced =
    subst (λ (b : Body). AreAnswerable b terms) (sym is) (subst (AreAnswerable (body_of stmt)) (sym terms_are)
    (picked_answerable (body_of stmt) (slice_terms stmt) (terms_picked (state_of tables) stmt can.wide can.fits sliced)))

pub planned_levels : (stmt : Stmt) (plan : Plan) → IsPlanned (body_of stmt) plan → is_sliced stmt ≡ true → 0 < length plan.levels
planned_levels stmt plan planned sliced = subst (λ (p : Plan). 0 < length p.levels) (sym planned.stated) (sliced_levels stmt sliced)

are_moved : (ts us : List Term) (b d : Body) (p q : Plan) (state : State) (root : Sense) (slices : List Slice) → ts ≡ us → b ≡ d → p ≡ q → AreSlicesOn ts b p state root slices → AreSlicesOn us d q state root slices
are_moved ts us b d p q state root slices terms body plan are =
    subst (λ (x : Plan). AreSlicesOn us d x state root slices) plan (subst (λ (x : Body). AreSlicesOn us x p state root slices) body (subst (λ (x : List Term). AreSlicesOn x b p state root slices) terms are))

each_first : {X : Type 0} (P : X → Type 0) (xs ys : List X) → AllByRecursion P (xs ++ ys) → AllByRecursion P xs
each_first P [] ys h = tt
each_first P (x ∷ xs) ys h = (h.0, each_first P xs ys h.1)

-- what a join answers are the slices of its body
pub found_are : (terms : List Term) (body : Body) (plan : Plan) (state : State) (root : Sense) (slices : List Slice)
    → IsRising (slice_keys slices) → AllByRecursion (IsSliceOf terms body (term_at plan.levels 0) state) slices → AreRooted body plan root (slice_keys slices) → IsTight (united root slices) state → root.hits ≡ [] → AreRootGaps root
    → AreSlicesOn terms body plan state root slices
found_are terms body plan state root slices rising each rooted tight none gaps =
    let of_root : IsTight root state = record {
      gaps = each_first (GapIsTight state) root.gaps (flat_map (λ (slice : Slice). slice.sense.gaps) slices) tight.gaps;
      hits = each_first (λ (hit : Hit). Has state hit.relation hit.row) root.hits (flat_map (λ (slice : Slice). slice.sense.hits) slices) tight.hits;
    } in
    record { ascending = rising; each = each; rooted = rooted; tight = of_root; root_hits = none; root_gaps = gaps }

-- so they are the statement's, where it is the statement's body
pub stated_are : (stmt : Stmt) (body : Body) (plan : Plan) (terms : List Term) (state : State) (root : Sense) (slices : List Slice) → body ≡ body_of stmt → IsPlanned (body_of stmt) plan → terms ≡ slice_terms stmt
    → AreSlicesOn terms body plan state root slices → AreSlicesOn (slice_terms stmt) (body_of stmt) (stated_plan (body_of stmt)) state root slices
stated_are stmt body plan terms state root slices is planned terms_are are = are_moved terms (slice_terms stmt) body (body_of stmt) plan (stated_plan (body_of stmt)) state root slices terms_are is planned.stated are

pub slices_picked : (tables : List Table) (stmt : Stmt) (body : Body) (terms : List Term) → body ≡ body_of stmt → terms ≡ slice_terms stmt → CanEvaluate tables stmt → is_sliced stmt ≡ true → ArePicked body terms
slices_picked tables stmt body terms is terms_are can sliced =
    subst (λ (b : Body). ArePicked b terms) (sym is) (subst (ArePicked (body_of stmt)) (sym terms_are) (terms_picked (state_of tables) stmt can.wide can.fits sliced))

-- ---- mending

-- the slices that a part keeps are its root gaps and its slices
pub record AreOf (part : Part) (kept : SlicesView) : Type 0 where
  pub root : kept.root ≡ part.sense
  pub slices : kept.slices ≡ part.slices

-- what the mending of a part answers are the statement's slices
pub mended_are : (stmt : Stmt) (body : Body) (plan : Plan) (terms : List Term) (s t : State) (old : Part) (kept : SlicesView) (ks keys : List ℕ) (root : Sense) (slices : List Slice)
    → body ≡ body_of stmt → IsPlanned (body_of stmt) plan → terms ≡ slice_terms stmt → AreOf old kept → ks ≡ keys → is_sliced stmt ≡ true → IsPartOn stmt s old → HaveTouched keys old.sense old.slices s t
    → (AreSlicesOn terms body plan s kept.root kept.slices → HaveTouched ks kept.root kept.slices s t → AreSlicesOn terms body plan t root slices) → AreSlicesOn (slice_terms stmt) (body_of stmt) (stated_plan (body_of stmt)) t root slices
mended_are stmt body plan terms s t old kept ks keys root slices is planned terms_are its ks_are sliced part touched right =
    let were : AreSlicesOn terms body plan s old.sense old.slices = are_moved (slice_terms stmt) terms (body_of stmt) body (stated_plan (body_of stmt)) plan s old.sense old.slices (sym terms_are) (sym is) (sym planned.stated) (part.sliced.by_slices sliced) in
    let have : HaveTouched ks old.sense old.slices s t = subst (λ (l : List ℕ). HaveTouched l old.sense old.slices s t) (sym ks_are) touched in
    are_moved terms (slice_terms stmt) body (body_of stmt) plan (stated_plan (body_of stmt)) t root slices terms_are is planned.stated
    (right (subst (λ (r : Sense). AreSlicesOn terms body plan s r kept.slices) (sym its.root) (subst (λ (l : List Slice). AreSlicesOn terms body plan s old.sense l) (sym its.slices) were))
    (subst (λ (r : Sense). HaveTouched ks r kept.slices s t) (sym its.root) (subst (λ (l : List Slice). HaveTouched ks old.sense l s t) (sym its.slices) have)))

pub mended_is : (old new : Part) (kept : SlicesView) (ks keys : List ℕ) (root : Sense) (slices : List Slice) → AreOf old kept → ks ≡ keys → new.sense ≡ root → new.slices ≡ slices → root ≡ cut ks kept.root → AreMended ks kept.slices slices → IsMendedPart keys old new
mended_is old new kept ks keys root slices its ks_are root_is slices_are made mended = record {
  root = root_is ∙ (made ∙ (ap (cut ks) its.root ∙ ap (λ (l : List ℕ). cut l old.sense) ks_are));
  slices = subst (λ (l : List Slice). AreMended keys old.slices l) (sym slices_are) (subst (λ (l : List Slice). AreMended keys l slices) its.slices (subst (λ (l : List ℕ). AreMended l kept.slices slices) ks_are mended));
}

pub mending_told : (state : State) (stmt : Stmt) (body : Body) (plan : Plan) (ks keys : List ℕ) (old new : ℕ) → body ≡ body_of stmt → IsPlanned (body_of stmt) plan → ks ≡ keys → new ≤ old + mending_cost ks body plan state → new ≤ old + mending_cost keys (body_of stmt) (stated_plan (body_of stmt)) state
mending_told state stmt body plan ks keys old new is planned ks_are h =
    subst (λ (l : List ℕ). new ≤ old + mending_cost l (body_of stmt) (stated_plan (body_of stmt)) state) ks_are (subst (λ (p : Plan). new ≤ old + mending_cost ks (body_of stmt) p state) planned.stated (subst (λ (b : Body). new ≤ old + mending_cost ks b plan state) is h))
