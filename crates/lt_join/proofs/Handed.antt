-- A step of the first level whose gaps were noted by themselves, and then added to the root's.
use Rattle.std.specs.Prelude.{◌≡◌, ℕ, ◌+◌, List, [], ◌++◌, length}
use Rattle.std.proofs.Common.{sym, ap, ◌∙◌, subst, inl, inr, arith}
use Rattle.std.proofs.lemmas.List.{append-nil}
use Rattle.lt_face.specs.Lists.{IsIn}
use Rattle.lt_face.specs.State.{State}
use Rattle.lt_face.proofs.Membership.{IsIn-append_cases}
use Rattle.lt_model.specs.declared.normal.Body.{Body}
use Rattle.lt_query.specs.declared.plans.Level.{Level}
use Rattle.lt_query.specs.declared.plans.Plan.{Plan}
use Rattle.lt_sense.specs.Kept.{Sense}
use Rattle.lt_sense.specs.Sense.{IsTight}
use Rattle.lt_join.specs.AtomIter.{AtomView}
use Rattle.lt_join.specs.Level.{HasGone}
use Rattle.lt_join.specs.Sliced.{AreRootGaps}
use Rattle.lt_join.proofs.KeyByKey.{rooted_more}
use Rattle.lt_join.proofs.Lists.{length_append}
use Rattle.lt_join.proofs.PartLaws.{grows_one, grows_next, tight_both}
use Rattle.lt_join.proofs.Steps.{IsSkipped-grows}

-- the gaps of the step are of the first level
pub noted_root : (body : Body) (plan : Plan) (state : State) (none step : Sense) (level : Level) (places : List ℕ) (above atoms : List AtomView) (from given begun now key turn : ℕ) → none ≡ record { gaps = []; hits = [] }
    → HasGone body plan state none step [] level places above atoms from given begun now key turn → AreRootGaps step
noted_root body plan state none step level places above atoms from given begun now key turn empty gone = rooted_more none step (rw empty tt) gone.under

-- with the step's gaps behind the root's
pub gone_onto : (body : Body) (plan : Plan) (state : State) (none step root root' : Sense) (level : Level) (places : List ℕ) (above atoms : List AtomView) (from given begun now key turn : ℕ) → none ≡ record { gaps = []; hits = [] }
    → IsTight root state → root'.gaps ≡ root.gaps ++ step.gaps → root'.hits ≡ root.hits
    → HasGone body plan state none step [] level places above atoms from given begun now key turn → HasGone body plan state root root' [] level places above atoms from given begun now key turn
gone_onto body plan state none step root root' level places above atoms from given begun now key turn empty tight gaps hits gone =
    let no_hits : step.hits ≡ [] = gone.gains.hits ∙ ap (λ (s : Sense). s.hits) empty in
    let both : root'.hits ≡ root.hits ++ step.hits = hits ∙ sym (append-nil root.hits) ∙ ap (λ hs. root.hits ++ hs) (sym no_hits) in
    let first = grows_one root step root' gaps both in
    let next = grows_next root step root' gaps both in
    record {
      stands = record {
        grows = first;
        tight = tight_both root step root' state gaps both tight gone.stands.tight;
        skipped = λ k cell le lt. IsSkipped-grows body plan step root' next [] k (gone.stands.skipped k cell le lt);
        found = gone.stands.found;
      };
      cost = gone.cost;
      gains = record {
        gaps = (let few = gone.gains.gaps in
            let no_gaps : length none.gaps ≡ 0 = ap (λ (s : Sense). length s.gaps) empty in
            let sum : length root'.gaps ≡ length root.gaps + length step.gaps = ap length gaps ∙ length_append root.gaps step.gaps in
            omega arith);
        hits = hits;
        rises = gone.gains.rises;
        paid = gone.gains.paid;
      };
      under = λ gap at. elim (IsIn-append_cases gap root.gaps step.gaps (subst (IsIn gap) gaps at)) [
        | inl old ↦ inl old
        | inr new ↦ elim (gone.under gap new) [ inl never ↦ absurd (subst (λ (s : Sense). IsIn gap s.gaps) empty never) | inr by_guide ↦ inr by_guide ]
      ];
      reaches = gone.reaches;
      at_key = gone.at_key;
      ended = gone.ended;
    }
