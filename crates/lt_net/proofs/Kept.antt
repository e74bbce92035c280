-- What every event of a net keeps, and what it says of a settled state.
use Rattle.std.proofs.Common.{◌≡◌, ℕ, ◌≢◌, ◌⊎◌, inl, inr, Bool, true, false, ◌&&◌, List, [], ◌∷◌, Option, Some, None, refl, sym, ap, ◌∙◌, subst}
use Rattle.std.specs.Prelude.{if◌then◌else◌}
use Rattle.std.proofs.lemmas.Bool.Decides.{eqb_tells}
use Rattle.lt_model.specs.declared.mark.Mark.{Mark}
use Rattle.lt_net.specs.Same.{same_marks}
use Rattle.lt_net.proofs.Equal.{marks_decides}
use Rattle.lt_net.specs.Kept.{IsDone, IsKept, IsBare}
use Rattle.lt_net.specs.declared.job.JobState.{JobState}
use Rattle.lt_net.specs.declared.job.JobState.TheVariants.{Clean, Pending, Running, Dirty}
use Rattle.lt_net.specs.Net.{Cell, Net, State, Claim, Event, Claims, Finishes, Abandons, has_cell, update, read, first_of, same_at, woken, ended, is_held, is_pending, value_after, status_ended, claimed, finished, abandoned, claim_of, claim_step, finish_step, abandon_step, step, replay, opening, IsSettled}

-- ---- what holds of a net

pub record IsNet (net : Net) : Type 0 where
  -- each cell is an output of one job at most
  pub one_writer : (x : Cell) (j k : ℕ) → has_cell x (net.outputs j) ≡ true → has_cell x (net.outputs k) ≡ true → j ≡ k
  -- a job that isn't Pending at the opening gives empty marks there, and is no leaf
  pub quiet : (j : ℕ) (x : Cell) → net.starts j ≡ false → has_cell x (net.outputs j) ≡ true → net.gives j (read (λ y. []) (net.inputs j)) x ≡ []
  -- a job without inputs isn't Pending at the opening
  pub unread : (j : ℕ) → net.inputs j ≡ [] → net.starts j ≡ false
  pub leaves_start : (j : ℕ) → net.is_leaf j ≡ true → net.starts j ≡ true

-- ---- updates, and jobs that weren't woken

pub at_update : {X : Type 0} (f : ℕ → X) (k : ℕ) (v : X) (x : ℕ) → ((x ≡ k) × (update f k v x ≡ v)) ⊎ ((x ≢ k) × (update f k v x ≡ f x))
at_update f k v x = elim (eqb_tells x k) [ inl h ↦ inl (h.1, rw h.0) | inr h ↦ inr (h.1, rw h.0) ]

still_clean : (b : Bool) (s : JobState) → (if b then s else woken s) ≡ Clean → (b ≡ true) × (s ≡ Clean)
still_clean true s e = (refl, e)
still_clean false Clean e = cc
still_clean false Pending e = cc
still_clean false Running e = cc
still_clean false Dirty e = cc

still_running : (b : Bool) (s : JobState) → (if b then s else woken s) ≡ Running → (b ≡ true) × (s ≡ Running)
still_running true s e = (refl, e)
still_running false Clean e = cc
still_running false Pending e = cc
still_running false Running e = cc
still_running false Dirty e = cc

pub still_held : (b : Bool) (s : JobState) → is_held (if b then s else woken s) ≡ is_held s
still_held true s = refl
still_held false Clean = refl
still_held false Pending = refl
still_held false Running = refl
still_held false Dirty = refl

both : (a b : Bool) → (a && b) ≡ true → (a ≡ true) × (b ≡ true)
both true b e = (refl, e)
both false b e = cc

pub same_read : (f g : Cell → List Mark) (cs : List Cell) → same_at f g cs ≡ true → read f cs ≡ read g cs
same_read f g [] e = refl
same_read f g (c ∷ cs) e =
    let h = both (same_marks (f c) (g c)) (same_at f g cs) e in
    let rest : read f cs ≡ read g cs = same_read f g cs h.1 in
    let here : f c ≡ g c = (marks_decides (f c) (g c)).0 h.0 in
    λ i. here i ∷ rest i

-- ---- a value of an updated table

pub given : {X : Type 0} (f : ℕ → X) (k : ℕ) (v : X) (x : ℕ) (y : X) → update f k v x ≡ y → ((x ≡ k) × (v ≡ y)) ⊎ ((x ≢ k) × (f x ≡ y))
given f k v x y e = elim (at_update f k v x) [ inl h ↦ inl (h.0, sym h.1 ∙ e) | inr h ↦ inr (h.0, sym h.1 ∙ e) ]

pub update_same : {X : Type 0} (f : ℕ → X) (k : ℕ) (v : X) → update f k v k ≡ v
update_same f k v = elim (at_update f k v k) [ inl h ↦ h.1 | inr h ↦ absurd (h.0 refl) ]

was_running : (s : JobState) → is_held s ≡ true → ended s ≡ Clean → s ≡ Running
was_running Clean h e = cc
was_running Pending h e = cc
was_running Running h e = refl
was_running Dirty h e = cc

ended_free : (s : JobState) → is_held (ended s) ≡ true → ⊥
ended_free Clean h = cc
ended_free Pending h = cc
ended_free Running h = cc
ended_free Dirty h = cc

-- ---- the three events

module _ (net : Net) (s : State) (k : IsKept net s) where
  not_pending : (v : ℕ) (c : Claim) → s.claim v ≡ Some c → s.status c.job ≡ Pending → ⊥
  not_pending v c cl p = let h : is_held (s.status c.job) ≡ true = k.held v c cl in let g : false ≡ true = rw p at h in cc

  pub keeps_claim : (w j : ℕ) → s.claim w ≡ None → s.status j ≡ Pending → IsKept net (claimed net s w j)
  keeps_claim w j free pending =
      let c0 : Claim = record { job = j; inputs = read s.value (net.inputs j); prior = s.done j } in
      let mine : (c : Claim) → Some c0 ≡ Some c → c0 ≡ c = λ c g. cc in
      let lost : (v : ℕ) (c : Claim) → s.claim v ≡ Some c → j ≡ c.job → ⊥ = λ v c cl e. not_pending v c cl (ap s.status (sym e) ∙ pending) in
      record {
        clean = λ i e. elim (given s.status j Running i Clean e) [
          | inl h ↦ absurd (let f : Running ≡ Clean = h.1 in cc)
          | inr h ↦ let d = k.clean i h.1 in record { gave = d.gave; last = d.last }
        ];
        current = λ v c e r. elim (given s.claim w (Some c0) v (Some c) e) [
          | inl h ↦ subst (λ (d : Claim). d.inputs ≡ read s.value (net.inputs d.job)) (mine c h.1) refl
          | inr h ↦ elim (given s.status j Running c.job Running r) [
            | inl g ↦ absurd (lost v c h.1 (sym g.0))
            | inr g ↦ k.current v c h.1 g.1
          ]
        ];
        captured = λ v c e. elim (given s.claim w (Some c0) v (Some c) e) [
          | inl h ↦ subst (λ (d : Claim). d.prior ≡ s.done d.job) (mine c h.1) refl
          | inr h ↦ k.captured v c h.1
        ];
        held = λ v c e. elim (given s.claim w (Some c0) v (Some c) e) [
          | inl h ↦ subst (λ (d : Claim). is_held (update s.status j Running d.job) ≡ true) (mine c h.1) (ap is_held (update_same s.status j Running))
          | inr h ↦ elim (at_update s.status j Running c.job) [
            | inl g ↦ ap is_held g.1
            | inr g ↦ ap is_held g.1 ∙ k.held v c h.1
          ]
        ];
        single = λ u v b c e f g. elim (given s.claim w (Some c0) u (Some b) e) [
          | inl h ↦ elim (given s.claim w (Some c0) v (Some c) f) [
            | inl h' ↦ h.0 ∙ sym h'.0
            | inr h' ↦ absurd (lost v c h'.1 (ap (λ (d : Claim). d.job) (mine b h.1) ∙ g))
          ]
          | inr h ↦ elim (given s.claim w (Some c0) v (Some c) f) [
            | inl h' ↦ absurd (lost u b h.1 (ap (λ (d : Claim). d.job) (mine c h'.1) ∙ sym g))
            | inr h' ↦ k.single u v b c h.1 h'.1 g
          ]
        ];
        holder = λ i e. elim (at_update s.status j Running i) [
          | inl h ↦ (w, c0, update_same s.claim w (Some c0), sym h.0)
          | inr h ↦
              let old = k.holder i (sym (ap is_held h.1) ∙ e) in
              elim (at_update s.claim w (Some c0) old.0) [
                | inl g ↦ absurd (let a : None ≡ Some old.1 = sym free ∙ ap s.claim (sym g.0) ∙ old.2 in cc)
                | inr g ↦ (old.0, old.1, g.1 ∙ old.2, old.3)
              ]
        ];
        idle = λ i e. elim (at_update s.status j Running i) [
          | inl h ↦ absurd (let a : Pending ≡ Clean = sym pending ∙ ap s.status (sym h.0) ∙ k.idle i e in cc)
          | inr h ↦ h.1 ∙ k.idle i e
        ];
      }

  -- a worker's claim ends
  module _ (w : ℕ) (c : Claim) (cl : s.claim w ≡ Some c) where
    others : (v : ℕ) (b : Claim) → update s.claim w None v ≡ Some b → (s.claim v ≡ Some b) × (b.job ≢ c.job)
    others v b e = elim (given s.claim w None v (Some b) e) [
      | inl h ↦ absurd (let a : None ≡ Some b = h.1 in cc)
      | inr h ↦ (h.1, λ g. h.0 (k.single v w b c h.1 cl g))
    ]

    still_holds : (i : ℕ) → i ≢ c.job → is_held (s.status i) ≡ true → (v : ℕ) × (b : Claim) × (update s.claim w None v ≡ Some b) × (b.job ≡ i)
    still_holds i ne e =
        let old = k.holder i e in
        elim (at_update s.claim w None old.0) [
          | inl g ↦ absurd (let a : Some old.1 ≡ Some c = sym old.2 ∙ ap s.claim g.0 ∙ cl in
              let b : old.1 ≡ c = cc in ne (sym old.3 ∙ ap (λ (d : Claim). d.job) b))
          | inr g ↦ (old.0, old.1, g.1 ∙ old.2, old.3)
        ]

    not_idle : s.status c.job ≡ Clean → ⊥
    not_idle e = let a : false ≡ true = sym (ap is_held e) ∙ k.held w c cl in cc

    pub keeps_abandon : IsKept net (abandoned s w c)
    keeps_abandon = record {
      clean = λ i e. elim (given s.status c.job Pending i Clean e) [
        | inl h ↦ absurd (let f : Pending ≡ Clean = h.1 in cc)
        | inr h ↦ let d = k.clean i h.1 in record { gave = d.gave; last = d.last }
      ];
      current = λ v b e r. let o = others v b e in elim (given s.status c.job Pending b.job Running r) [
        | inl h ↦ absurd (o.1 h.0)
        | inr h ↦ k.current v b o.0 h.1
      ];
      captured = λ v b e. k.captured v b (others v b e).0;
      held = λ v b e. let o = others v b e in elim (at_update s.status c.job Pending b.job) [
        | inl h ↦ absurd (o.1 h.0)
        | inr h ↦ ap is_held h.1 ∙ k.held v b o.0
      ];
      single = λ u v a b e f g. k.single u v a b (others u a e).0 (others v b f).0 g;
      holder = λ i e. elim (at_update s.status c.job Pending i) [
        | inl h ↦ absurd (let a : false ≡ true = sym (ap is_held h.1) ∙ e in cc)
        | inr h ↦ still_holds i h.0 (sym (ap is_held h.1) ∙ e)
      ];
      idle = λ i e. elim (at_update s.status c.job Pending i) [
        | inl h ↦ absurd (not_idle (ap s.status (sym h.0) ∙ k.idle i e))
        | inr h ↦ h.1 ∙ k.idle i e
      ];
    }

    value_other : (x : Cell) → has_cell x (net.outputs c.job) ≡ false → value_after net s c x ≡ s.value x
    value_other x e = rw e

    value_own : (x : Cell) → has_cell x (net.outputs c.job) ≡ true → value_after net s c x ≡ net.gives c.job c.inputs x
    value_own x e = rw e

    -- the outputs of another job stay
    value_kept : IsNet net → (i : ℕ) → i ≢ c.job → (x : Cell) → has_cell x (net.outputs i) ≡ true → value_after net s c x ≡ s.value x
    value_kept n i ne x hx = case_on (has_cell x (net.outputs c.job)) refl
      where
        case_on : (b : Bool) → has_cell x (net.outputs c.job) ≡ b → value_after net s c x ≡ s.value x
        case_on true e = absurd (ne (n.one_writer x i c.job hx e))
        case_on false e = value_other x e

    -- what another leaf last finished with stays
    done_stays : (b : Bool) (i : ℕ) → i ≢ c.job → (if b then update s.done c.job (Some (first_of c.inputs)) else s.done) i ≡ s.done i
    done_stays false i ne = refl
    done_stays true i ne = elim (at_update s.done c.job (Some (first_of c.inputs)) i) [ inl h ↦ absurd (ne h.0) | inr h ↦ h.1 ]

    -- the inputs of a job that wasn't woken stay
    module _ (i : ℕ) (q : same_at s.value (value_after net s c) (net.inputs i) ≡ true) where
      inputs_stay : read s.value (net.inputs i) ≡ read (value_after net s c) (net.inputs i)
      inputs_stay = same_read s.value (value_after net s c) (net.inputs i) q

      -- the job that ends is done, where its captured inputs still stood
      own_done : i ≡ c.job → ended (s.status c.job) ≡ Clean → IsDone net (finished net s w c) i
      own_done e f =
          let running : s.status c.job ≡ Running = was_running (s.status c.job) (k.held w c cl) f in
          let now : c.inputs ≡ read (value_after net s c) (net.inputs c.job) =
          k.current w c cl running ∙ subst (λ j. read s.value (net.inputs j) ≡ read (value_after net s c) (net.inputs j)) e inputs_stay in
          subst (IsDone net (finished net s w c)) (sym e) (record {
            gave = λ x hx. value_own x hx ∙ ap (λ ins. net.gives c.job ins x) now;
            last = λ leaf. done_own leaf ∙ ap (λ ins. Some (first_of ins)) now;
          })
        where
          done_own : net.is_leaf c.job ≡ true → (finished net s w c).done c.job ≡ Some (first_of c.inputs)
          done_own leaf = rw leaf (update_same s.done c.job (Some (first_of c.inputs)))

      -- any other Clean job is done as before
      other_done : IsNet net → i ≢ c.job → s.status i ≡ Clean → IsDone net (finished net s w c) i
      other_done n ne f =
          let d = k.clean i f in
          record {
            gave = λ x hx. value_kept n i ne x hx ∙ d.gave x hx ∙ ap (λ ins. net.gives i ins x) inputs_stay;
            last = λ leaf. done_stays (net.is_leaf c.job) i ne ∙ d.last leaf ∙ ap (λ ins. Some (first_of ins)) inputs_stay;
          }

    pub keeps_finish : IsNet net → IsKept net (finished net s w c)
    keeps_finish n = record {
      clean = λ i e.
          let a = still_clean (same_at s.value (value_after net s c) (net.inputs i)) (status_ended s c i) e in
          elim (given s.status c.job (ended (s.status c.job)) i Clean a.1) [
            | inl h ↦ own_done i a.0 h.0 h.1
            | inr h ↦ other_done i a.0 n h.0 h.1
          ];
      current = λ v b e r. let o = others v b e in
          let a = still_running (same_at s.value (value_after net s c) (net.inputs b.job)) (status_ended s c b.job) r in
          elim (given s.status c.job (ended (s.status c.job)) b.job Running a.1) [
            | inl h ↦ absurd (o.1 h.0)
            | inr h ↦ k.current v b o.0 h.1 ∙ same_read s.value (value_after net s c) (net.inputs b.job) a.0
          ];
      captured = λ v b e. let o = others v b e in k.captured v b o.0 ∙ sym (done_stays (net.is_leaf c.job) b.job o.1);
      held = λ v b e. let o = others v b e in
          still_held (same_at s.value (value_after net s c) (net.inputs b.job)) (status_ended s c b.job) ∙
          elim (at_update s.status c.job (ended (s.status c.job)) b.job) [
            | inl h ↦ absurd (o.1 h.0)
            | inr h ↦ ap is_held h.1 ∙ k.held v b o.0
          ];
      single = λ u v a b e f g. k.single u v a b (others u a e).0 (others v b f).0 g;
      holder = λ i e.
          let e' = sym (still_held (same_at s.value (value_after net s c) (net.inputs i)) (status_ended s c i)) ∙ e in
          elim (at_update s.status c.job (ended (s.status c.job)) i) [
            | inl h ↦ absurd (ended_free (s.status c.job) (sym (ap is_held h.1) ∙ e'))
            | inr h ↦ still_holds i h.0 (sym (ap is_held h.1) ∙ e')
          ];
      idle = λ i e.
          let same : same_at s.value (value_after net s c) (net.inputs i) ≡ true = ap (same_at s.value (value_after net s c)) e in
          rw same (elim (at_update s.status c.job (ended (s.status c.job)) i) [
            | inl h ↦ absurd (not_idle (ap s.status (sym h.0) ∙ k.idle i e))
            | inr h ↦ h.1 ∙ k.idle i e
          ]);
    }

-- ---- whole runs

pub opening_kept : (net : Net) → IsNet net → IsKept net (opening net)
opening_kept net n = record {
  clean = λ j e. let q = starts_not (net.starts j) e in record {
    gave = λ x hx. sym (n.quiet j x q hx);
    last = λ leaf. absurd (let f : true ≡ false = sym (n.leaves_start j leaf) ∙ q in cc);
  };
  current = λ w c e r. cc;
  captured = λ w c e. cc;
  held = λ w c e. cc;
  single = λ v w b c e f g. cc;
  holder = λ j e. absurd (none_held (net.starts j) e);
  idle = λ j e. rw (n.unread j e);
}
  where
    starts_not : (b : Bool) → (if b then Pending else Clean) ≡ Clean → b ≡ false
    starts_not true e = cc
    starts_not false e = refl

    none_held : (b : Bool) → is_held (if b then Pending else Clean) ≡ true → ⊥
    none_held true e = cc
    none_held false e = cc

module _ (net : Net) (n : IsNet net) where
  claim_kept : (s : State) (k : IsKept net s) (w j : ℕ) (o : Option Claim) (t : State) → s.claim w ≡ o → claim_step net s w j o ≡ Some t → IsKept net t
  claim_kept s k w j None t e h = pending_case (s.status j) refl h
    where
      pending_case : (st : JobState) → s.status j ≡ st → (if is_pending st then Some (claimed net s w j) else None) ≡ Some t → IsKept net t
      pending_case Clean p g = cc
      pending_case Pending p g = let f : claimed net s w j ≡ t = cc in subst (IsKept net) f (keeps_claim net s k w j e p)
      pending_case Running p g = cc
      pending_case Dirty p g = cc
  claim_kept s k w j (Some c) t e h = cc

  -- the claim that an event ends is the worker's
  pub claim_is : (o : Option Claim) (j : ℕ) (c : Claim) → claim_of o j ≡ Some c → (o ≡ Some c) × (c.job ≡ j)
  claim_is None j c e = cc
  claim_is (Some d) j c e = elim (eqb_tells d.job j) [
    | inl h ↦ let f : Some d ≡ Some c = rw h.0 at e in let g : d ≡ c = cc in (f, sym (ap (λ (b : Claim). b.job) g) ∙ h.1)
    | inr h ↦ absurd (let f : None ≡ Some c = rw h.0 at e in cc)
  ]

  finish_kept : (s : State) (k : IsKept net s) (w j : ℕ) (o : Option Claim) (t : State) → claim_of (s.claim w) j ≡ o → finish_step net s w o ≡ Some t → IsKept net t
  finish_kept s k w j None t e h = cc
  finish_kept s k w j (Some c) t e h =
      let f : finished net s w c ≡ t = cc in
      subst (IsKept net) f (keeps_finish net s k w c (claim_is (s.claim w) j c e).0 n)

  abandon_kept : (s : State) (k : IsKept net s) (w j : ℕ) (o : Option Claim) (t : State) → claim_of (s.claim w) j ≡ o → abandon_step s w o ≡ Some t → IsKept net t
  abandon_kept s k w j None t e h = cc
  abandon_kept s k w j (Some c) t e h =
      let f : abandoned s w c ≡ t = cc in
      subst (IsKept net) f (keeps_abandon net s k w c (claim_is (s.claim w) j c e).0)

  pub step_kept : (s t : State) (ev : Event) → IsKept net s → step net s ev ≡ Some t → IsKept net t
  step_kept s t (Claims w j) k h = claim_kept s k w j (s.claim w) t refl h
  step_kept s t (Finishes w j) k h = finish_kept s k w j (claim_of (s.claim w) j) t refl h
  step_kept s t (Abandons w j) k h = abandon_kept s k w j (claim_of (s.claim w) j) t refl h

  pub replay_kept : (es : List Event) (s t : State) → IsKept net s → replay net (Some s) es ≡ Some t → IsKept net t
  replay_kept [] s t k h = let f : s ≡ t = cc in subst (IsKept net) f k
  replay_kept (ev ∷ es) s t k h = next (step net s ev) refl (λ u. replay_kept es u t) h
    where
      next : (o : Option State) → step net s ev ≡ o → ((u : State) → IsKept net u → replay net (Some u) es ≡ Some t → IsKept net t) → replay net o es ≡ Some t → IsKept net t
      next None e later g = cc
      next (Some u) e later g = later u (step_kept s u ev k e) g

  -- in a settled state each job is done
  pub settled_done : (es : List Event) (t : State) → replay net (Some (opening net)) es ≡ Some t → IsSettled t → (j : ℕ) → IsDone net t j
  settled_done es t h settled j = (replay_kept es (opening net) t (opening_kept net n) h).clean j (settled j)

-- ---- what no job gives

module _ (net : Net) where
  claim_bare : (s : State) → IsBare net s → (w j : ℕ) (o : Option Claim) (t : State) → claim_step net s w j o ≡ Some t → IsBare net t
  claim_bare s b w j None t h = pending_case (s.status j) h
    where
      pending_case : (st : JobState) → (if is_pending st then Some (claimed net s w j) else None) ≡ Some t → IsBare net t
      pending_case Clean g = cc
      pending_case Pending g = let f : claimed net s w j ≡ t = cc in subst (IsBare net) f b
      pending_case Running g = cc
      pending_case Dirty g = cc
  claim_bare s b w j (Some c) t h = cc

  finish_bare : (s : State) → IsBare net s → (w : ℕ) (o : Option Claim) (t : State) → finish_step net s w o ≡ Some t → IsBare net t
  finish_bare s b w None t h = cc
  finish_bare s b w (Some c) t h =
      let f : finished net s w c ≡ t = cc in
      let after : IsBare net (finished net s w c) = λ x nobody. ap (λ own. if own then net.gives c.job c.inputs x else s.value x) (nobody c.job) ∙ b x nobody in
      subst (IsBare net) f after

  abandon_bare : (s : State) → IsBare net s → (w : ℕ) (o : Option Claim) (t : State) → abandon_step s w o ≡ Some t → IsBare net t
  abandon_bare s b w None t h = cc
  abandon_bare s b w (Some c) t h = let f : abandoned s w c ≡ t = cc in subst (IsBare net) f b

  step_bare : (s t : State) (ev : Event) → IsBare net s → step net s ev ≡ Some t → IsBare net t
  step_bare s t (Claims w j) b h = claim_bare s b w j (s.claim w) t h
  step_bare s t (Finishes w j) b h = finish_bare s b w (claim_of (s.claim w) j) t h
  step_bare s t (Abandons w j) b h = abandon_bare s b w (claim_of (s.claim w) j) t h

  pub replay_bare : (es : List Event) (s t : State) → IsBare net s → replay net (Some s) es ≡ Some t → IsBare net t
  replay_bare [] s t b h = let f : s ≡ t = cc in subst (IsBare net) f b
  replay_bare (ev ∷ es) s t b h = next (step net s ev) refl (λ u. replay_bare es u t) h
    where
      next : (o : Option State) → step net s ev ≡ o → ((u : State) → IsBare net u → replay net (Some u) es ≡ Some t → IsBare net t) → replay net o es ≡ Some t → IsBare net t
      next None e later g = cc
      next (Some u) e later g = later u (step_bare s u ev b e) g

  pub reached_bare : (es : List Event) (t : State) → replay net (Some (opening net)) es ≡ Some t → IsBare net t
  reached_bare es t h = replay_bare es (opening net) t (λ x nobody. refl) h
