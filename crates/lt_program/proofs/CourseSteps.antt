-- What one more statement does to a course.
use Rattle.std.proofs.Common.{◌≡◌, ℕ, ◌+◌, ◌≤◌, true, false, List, [], ◌∷◌, ◌++◌, length, Option, sym, ap, ◌∙◌, subst}
use Rattle.lt_face.specs.State.{State}
use Rattle.lt_face.proofs.RowLemmas.{each_weaker}
use Rattle.lt_model.specs.declared.normal.Body.{Body}
use Rattle.lt_model.specs.declared.normal.Stmt.{Stmt}
use Rattle.lt_model.specs.Effect.{Effect, effect}
use Rattle.lt_model.specs.Fits.{FitsStatement}
use Rattle.lt_model.specs.Marks.{Marks, laid}
use Rattle.lt_base.specs.Tables.{Table, state_of, has_index}
use Rattle.lt_model.specs.declared.normal.Atom.{Atom}
use Rattle.lt_query.specs.Lists.{below}
use Rattle.lt_query.specs.declared.plans.Guide.{Guide}
use Rattle.lt_query.specs.Needs.{body_of}
use Rattle.lt_query.specs.Runnable.{AreWide}
use Rattle.lt_query.specs.Stated.{stated_plan}
use Rattle.lt_join.specs.Mended.{HaveTouched}
use Rattle.lt_join.specs.MendedPlan.{mending_cost}
use Rattle.lt_program.specs.declared.course.Course.{Course}
use Rattle.lt_program.specs.declared.course.Laid.{Laid}
use Rattle.lt_program.specs.Part.{Part}
use Rattle.lt_program.specs.Asked.{CanEvaluate}
use Rattle.lt_program.specs.Tally.{IsPartOn, HasIndexesOf, IsLaidOn, Grows, next, statement_cost}
use Rattle.lt_program.specs.Run.{reads_rows}
use Rattle.lt_program.specs.Split.{statement_cost_by, whole_cost}
use Rattle.lt_program.proofs.Bare.{reads_none}
use Rattle.lt_program.proofs.NoAtoms.{nothing, part_same, effect_same, cost_same}
use Rattle.lt_program.proofs.SplitCosts.{statement_whole}
use Rattle.lt_program.proofs.Widths.{AreWide-laid, FitsStatement-laid}

module _ (base : List Table) (marks : Marks) (tables : List Table) (on : IsLaidOn base marks tables) where
  wide_on : AreWide (state_of base) → AreWide (state_of tables)
  wide_on wide = subst AreWide (sym on.state) (AreWide-laid (state_of base) marks wide)

  fits_on : (stmt : Stmt) → FitsStatement (state_of base) stmt → FitsStatement (state_of tables) stmt
  fits_on stmt fits = subst (λ (s : State). FitsStatement s stmt) (sym on.state) (FitsStatement-laid (state_of base) marks stmt fits)

  indexes_on : (body : Body) → HasIndexesOf base body → HasIndexesOf tables body
  indexes_on body has = (
    each_weaker (λ (guide : Guide). has_index base guide.relation guide.columns ≡ true) (λ (guide : Guide). has_index tables guide.relation guide.columns ≡ true) (λ guide h. on.indexes guide.relation guide.columns ∙ h) (stated_plan body).guides has.0,
    each_weaker (λ (atom : Atom). has_index base atom.relation (below (length atom.terms)) ≡ true) (λ (atom : Atom). has_index tables atom.relation (below (length atom.terms)) ≡ true) (λ atom h. on.indexes atom.relation (below (length atom.terms)) ∙ h) body.absents has.1,
  )

  pub evaluates_on : (stmt : Stmt) → CanEvaluate base stmt → CanEvaluate tables stmt
  evaluates_on stmt can = record { wide = wide_on can.wide; indexes = indexes_on (body_of stmt) can.indexes; fits = fits_on stmt can.fits }

  pub cost_on : (most : Body → State → ℕ) (stmt : Stmt) (old new : ℕ) → new ≤ old + statement_cost_by most stmt (state_of tables) → new ≤ old + statement_cost_by most stmt (laid (state_of base) marks)
  cost_on most stmt old new h = subst (λ (s : State). new ≤ old + statement_cost_by most stmt s) on.state h

  pub mending_on_laid : (stmt : Stmt) (keys : List ℕ) (old new : ℕ) → new ≤ old + mending_cost keys (body_of stmt) (stated_plan (body_of stmt)) (state_of tables) → new ≤ old + mending_cost keys (body_of stmt) (stated_plan (body_of stmt)) (laid (state_of base) marks)
  mending_on_laid stmt keys old new h = subst (λ (s : State). new ≤ old + mending_cost keys (body_of stmt) (stated_plan (body_of stmt)) s) on.state h

  -- the old part, and what is touched on the way to the state with the marks laid on it
  pub old_on : (stmt : Stmt) (old : Part) (keys : List ℕ) → (s : State) × IsPartOn stmt s old × HaveTouched keys old.sense old.slices s (laid (state_of base) marks) → (s : State) × IsPartOn stmt s old × HaveTouched keys old.sense old.slices s (state_of tables)
  old_on stmt old keys h = (h.0, h.1, subst (λ (t : State). HaveTouched keys old.sense old.slices h.0 t) (sym on.state) h.2)

  -- the part is that on the database with the marks laid on it
  pub grows_on : (number : ℕ) (stmt : Stmt) (part : Part) (e : Effect) (old new : Course) → old.marks ≡ marks → IsPartOn stmt (state_of tables) part → e ≡ effect stmt (state_of tables)
      → new.parts ≡ old.parts ++ part ∷ [] → new.reply ≡ (next number e (old.reply, old.marks)).0 → new.marks ≡ (next number e (old.reply, old.marks)).1 → Grows number stmt (state_of base) old new
  grows_on number stmt part e old new same is is_effect parts reply marks_are =
      let there : state_of tables ≡ laid (state_of base) old.marks = on.state ∙ ap (laid (state_of base)) (sym same) in
      let told : e ≡ effect stmt (laid (state_of base) old.marks) = is_effect ∙ ap (effect stmt) there in
      record {
        part = part;
        is_part = subst (λ (s : State). IsPartOn stmt s part) there is;
        parts = parts;
        reply = reply ∙ ap (λ f. (next number f (old.reply, old.marks)).0) told;
        marks = marks_are ∙ ap (λ f. (next number f (old.reply, old.marks)).1) told;
      }

-- the part of a statement that reads no relation is that on any state
pub grows_alone : (base : State) (number : ℕ) (stmt : Stmt) (part own : Part) (e : Effect) (old new : Course) → reads_rows stmt ≡ false → IsPartOn stmt base part → e ≡ effect stmt base → own ≡ record { outcome = part.outcome; sense = nothing; slices = []; by_key = false }
    → new.parts ≡ old.parts ++ own ∷ [] → new.reply ≡ (next number e (old.reply, old.marks)).0 → new.marks ≡ (next number e (old.reply, old.marks)).1 → Grows number stmt base old new
grows_alone base number stmt part own e old new none is is_effect is_own parts reply marks_are =
    let told : e ≡ effect stmt (laid base old.marks) = is_effect ∙ effect_same base (laid base old.marks) stmt (reads_none stmt none) in
    record {
      part = own;
      is_part = subst (λ (p : Part). IsPartOn stmt (laid base old.marks) p) (sym is_own) (part_same base (laid base old.marks) stmt part (reads_none stmt none) is);
      parts = parts;
      reply = reply ∙ ap (λ f. (next number f (old.reply, old.marks)).0) told;
      marks = marks_are ∙ ap (λ f. (next number f (old.reply, old.marks)).1) told;
    }

pub cost_alone : (base : State) (marks : Marks) (stmt : Stmt) (old new : ℕ) → reads_rows stmt ≡ false → new ≤ old + statement_cost_by whole_cost stmt base → new ≤ old + statement_cost stmt (laid base marks)
cost_alone base marks stmt old new none h = subst (λ n. new ≤ old + n) (statement_whole stmt base ∙ cost_same base (laid base marks) stmt (reads_none stmt none)) h

-- what is laid is of no account
pub grows_taken : (number : ℕ) (stmt : Stmt) (base : State) (old mid new : Course) (l : Option Laid) → mid ≡ record old { laid = l } → Grows number stmt base mid new → Grows number stmt base old new
grows_taken number stmt base old mid new l e g =
    let h : Grows number stmt base (record old { laid = l }) new = subst (λ (x : Course). Grows number stmt base x new) e g in
    record { part = h.part; is_part = h.is_part; parts = h.parts; reply = h.reply; marks = h.marks }
