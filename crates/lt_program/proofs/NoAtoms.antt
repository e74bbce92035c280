-- A statement that reads no relation does the same on all states.
use Rattle.std.proofs.Common.{◌≡◌, ℕ, ◌+◌, true, false, cond, List, [], ◌∷◌, length, refl, sym, ap, ◌∙◌, subst, inl, arith}
use Rattle.std.specs.List.{AllByRecursion, sum_by}
use Rattle.std.specs.Prelude.{if◌then◌else◌}
use Rattle.lt_face.specs.State.{Row, State}
use Rattle.lt_model.specs.declared.normal.Atom.{Atom}
use Rattle.lt_model.specs.declared.normal.Term.{Term}
use Rattle.lt_model.specs.declared.normal.Body.{Body}
use Rattle.lt_model.specs.declared.normal.Stmt.{Stmt}
use Rattle.lt_model.specs.declared.normal.Stmt.TheVariants.{Insert, Delete, Replace, Require, Print}
use Rattle.lt_model.specs.Answers.{answers, some_answer}
use Rattle.lt_model.specs.Effect.{has_clash, key_terms, key_body, is_plain, effect}
use Rattle.lt_query.specs.Stated.{stated_plan}
use Rattle.lt_sense.specs.Kept.{Sense}
use Rattle.lt_join.specs.Certify.{IsMet, IsMissed, Certifies}
use Rattle.lt_join.specs.Cost.{bound}
use Rattle.lt_program.specs.Part.{Part}
use Rattle.lt_program.specs.declared.part.Found.{Found}
use Rattle.lt_program.specs.declared.part.Found.TheVariants.{Rows, Both, Truth}
use Rattle.lt_program.specs.Tally.{looked_up, outcome_on, CertifiesKeys, VouchesFor, IsPartOn, sense_of, keys_cost, statement_cost}
use Rattle.lt_program.proofs.Alike.{answers_alike, some_alike, effect_alike}
use Rattle.lt_program.proofs.Bare.{IsBare, IsUnread, bare_is}
use Rattle.lt_program.proofs.ReadingNone.{bare_alike, unread_alike}
use Rattle.lt_program.proofs.KeptSlices.{not_sliced, kept_whole}

-- sensitive to nothing
abbrev pub nothing : Sense
nothing = record { gaps = []; hits = [] }

no_bound : (body : Body) (state : State) → IsBare body → bound body (stated_plan body) state ≡ 0
no_bound body state e = subst (λ (b : Body). bound b (stated_plan b) state ≡ 0) (sym (bare_is body e)) refl

no_look_up : (head : Atom) (keys : ℕ) (rows : List Row) → (if is_plain head keys then [] else head ∷ []) ≡ [] → looked_up head keys rows ≡ []
no_look_up head keys rows e = elim (is_plain head keys) as (λ p. cond p [] (head ∷ []) ≡ [] → cond p [] (cond (has_clash keys rows) [] rows) ≡ []) [ true ↦ λ none. refl | false ↦ λ none. absurd (cc) ] e

no_keys_cost : (head : Atom) (keys : ℕ) (rows : List Row) (state : State) → (if is_plain head keys then [] else head ∷ []) ≡ [] → keys_cost head keys rows state ≡ 0
no_keys_cost head keys rows state e = ap (sum_by (λ row. 1 + length (answers (key_terms keys row) (key_body head.relation keys row) state))) (no_look_up head keys rows e)

-- it takes no moves
pub costs_nothing : (s : State) (stmt : Stmt) → IsUnread stmt → statement_cost stmt s ≡ 0
costs_nothing s (Insert head keys body) e = (let a = no_bound body s e.0 in let c = no_keys_cost head keys (answers head.terms body s) s e.1 in omega (arith, a, c))
costs_nothing s (Delete head body) e = no_bound body s e.0
costs_nothing s (Replace gone come keys body) e = (let a = no_bound body s e.0 in let c = no_keys_cost come keys (answers come.terms body s) s e.1 in omega (arith, a, c))
costs_nothing s (Require some body) e = no_bound body s e.0
costs_nothing s (Print terms kinds body) e = no_bound body s e.0

pub cost_same : (s t : State) (stmt : Stmt) → IsUnread stmt → statement_cost stmt s ≡ statement_cost stmt t
cost_same s t stmt e = costs_nothing s stmt e ∙ sym (costs_nothing t stmt e)

module _ (s t : State) where
  answers_same : (terms : List Term) (body : Body) → IsBare body → answers terms body s ≡ answers terms body t
  answers_same terms body e = answers_alike s t terms body (bare_alike s t body e)

  some_same : (body : Body) → IsBare body → some_answer body s ≡ some_answer body t
  some_same body e = some_alike s t body (bare_alike s t body e)

  pub effect_same : (stmt : Stmt) → IsUnread stmt → effect stmt s ≡ effect stmt t
  effect_same stmt e = effect_alike s t stmt (unread_alike s t stmt e)

  -- no row is displaced only where all columns are key columns
  plain_same : (head : Atom) (keys : ℕ) (a b c d : Found) → (if is_plain head keys then [] else head ∷ []) ≡ [] → a ≡ b → (if is_plain head keys then a else c) ≡ (if is_plain head keys then b else d)
  plain_same head keys a b c d e same = elim (is_plain head keys) as (λ p. cond p [] (head ∷ []) ≡ [] → cond p a c ≡ cond p b d) [ true ↦ λ none. same | false ↦ λ none. absurd (cc) ] e

  pub outcome_same : (stmt : Stmt) → IsUnread stmt → outcome_on stmt s ≡ outcome_on stmt t
  outcome_same (Insert head keys body) e = plain_same head keys _ _ _ _ e.1 (ap Rows (answers_same head.terms body e.0))
  outcome_same (Delete head body) e = ap Rows (answers_same head.terms body e.0)
  outcome_same (Replace gone come keys body) e =
      plain_same come keys _ _ _ _ e.1 (ap (λ rows. Both rows (answers come.terms body s)) (answers_same gone.terms body e.0) ∙ ap (Both (answers gone.terms body t)) (answers_same come.terms body e.0))
  outcome_same (Require some body) e = ap Truth (some_same body e.0)
  outcome_same (Print terms kinds body) e = ap Rows (answers_same terms body e.0)

  certifies_same : (body : Body) → IsBare body → Certifies nothing body t
  certifies_same body e a holds = inl (subst (AllByRecursion (IsMet nothing t a)) (sym e.0) tt, subst (AllByRecursion (IsMissed nothing t a)) (sym e.1) tt)

  certifies_keys : (head : Atom) (keys : ℕ) (rows : List Row) → (if is_plain head keys then [] else head ∷ []) ≡ [] → CertifiesKeys nothing head keys rows t
  certifies_keys head keys rows e = subst (AllByRecursion (λ row. Certifies nothing (key_body head.relation keys row) t)) (sym (no_look_up head keys rows e)) tt

  vouches_same : (sense : Sense) (stmt : Stmt) → IsUnread stmt → VouchesFor sense stmt s → VouchesFor nothing stmt t
  vouches_same sense (Insert head keys body) e h = (certifies_same body e.0, certifies_keys head keys (answers head.terms body t) e.1)
  vouches_same sense (Delete head body) e h = certifies_same body e.0
  vouches_same sense (Replace gone come keys body) e h = (certifies_same body e.0, certifies_keys come keys (answers come.terms body t) e.1)
  vouches_same sense (Print terms kinds body) e h = certifies_same body e.0
  vouches_same sense (Require some body) e h = record {
    when_true = λ there. let w = h.when_true (some_same body e.0 ∙ there) in (w.0, w.1, subst (AllByRecursion (IsMet nothing t w.0)) (sym e.0.0) tt, subst (AllByRecursion (IsMissed nothing t w.0)) (sym e.0.1) tt);
    when_false = λ _. certifies_same body e.0;
  }

  -- its part is that of the other state, and it was sensitive to nothing
  pub part_same : (stmt : Stmt) (part : Part) → IsUnread stmt → IsPartOn stmt s part → IsPartOn stmt t (record { outcome = part.outcome; sense = nothing; slices = []; by_key = false })
  part_same stmt part e is = record {
    outcome = is.outcome ∙ outcome_same stmt e;
    vouches = vouches_same (sense_of part) stmt e is.vouches;
    tight = record { gaps = tt; hits = tt };
    sliced = kept_whole stmt t (record { outcome = part.outcome; sense = nothing; slices = []; by_key = false }) (not_sliced stmt e.0.0) (record { by_key = refl; slices = refl });
  }
