-- One claim of a row changes: what becomes of the others, and how many stand.
use Rattle.std.proofs.Common.{◌≡◌, ◌≢◌, ℕ, zero, suc, ◌+◌, ◌/◌, ◌<◌, ◌≤◌, inl, inr, List, Option, Some, None, length, get_or, set, refl, sym, ap, ◌∙◌, arith, get_or-set_other, length-set}
use Rattle.std.specs.Option.{option_map}
use Rattle.std.proofs.lemmas.Bool.Decides.{eqb_tells}
use Rattle.lt_net.specs.Net.{Claim}
use Rattle.lt_net.specs.Row.{lifted, HasNoOther}
use Rattle.lt_net.proofs.Kept.{at_update}
use Rattle.lt_net.proofs.RowClaims.{row_claim_one}
use Rattle.lt_circuit.specs.declared.cells.Held.{Held}
use Rattle.lt_circuit.specs.Board.{claim_from, standing}
use Rattle.lt_circuit.specs.Segment.{SegmentView}
use Rattle.lt_circuit.specs.Row.{HasChangedClaim, no_segment, parts, row_of, segment_at, standing_below, standing_in}
use Rattle.lt_circuit.proofs.Standing.{at_most_one_more, gone, one_less}
use Rattle.lt_circuit.proofs.Tables.{set_table}

-- a segment was changed, and in it a worker's claim
pub changed_claim : (vs : List SegmentView) (s w : ℕ) (o : Option Held) (v : SegmentView) → s < length vs → v.board.claims ≡ set (segment_at vs s).board.claims w o → HasChangedClaim s w o vs (set vs s v)
changed_claim vs s w o v inside claims = record {
  long = length-set vs s v;
  here = set_table (λ (u : SegmentView). u.board.claims) vs s v no_segment inside s
      ∙ elim (at_update (λ k. (segment_at vs k).board.claims) s v.board.claims s) [ inl h ↦ h.1 ∙ claims | inr h ↦ absurd (h.0 refl) ];
  others = λ r ne. set_table (λ (u : SegmentView). u.board.claims) vs s v no_segment inside r
      ∙ elim (at_update (λ k. (segment_at vs k).board.claims) s v.board.claims r) [ inl h ↦ absurd (ne h.0) | inr h ↦ h.1 ];
}

-- and one whose claims stay
pub unchanged_claims : (vs : List SegmentView) (s : ℕ) (v : SegmentView) → s < length vs → v.board.claims ≡ (segment_at vs s).board.claims → (r : ℕ) → (segment_at (set vs s v) r).board.claims ≡ (segment_at vs r).board.claims
unchanged_claims vs s v inside claims r =
    set_table (λ (u : SegmentView). u.board.claims) vs s v no_segment inside r
    ∙ elim (at_update (λ k. (segment_at vs k).board.claims) s v.board.claims r) [ inl h ↦ h.1 ∙ claims ∙ ap (λ k. (segment_at vs k).board.claims) (sym h.0) | inr h ↦ h.1 ]

-- a Pass ends: its segment's claims change, those of the next one don't
pub pass_claims_changed : (vs : List SegmentView) (s w : ℕ) → s < length vs → (v u : SegmentView) (mid : List SegmentView) → v.board.claims ≡ set (segment_at vs s).board.claims w None
    → u.board.claims ≡ (segment_at mid (s + 1)).board.claims → mid ≡ set vs s v → (new : List SegmentView) → new ≡ set mid (s + 1) u → s + 1 < length vs → HasChangedClaim s w None vs new
pass_claims_changed vs s w inside v u mid closed given mid_is new new_is next =
    let first = changed_claim vs s w None v inside closed in
    let long : length mid ≡ length vs = ap length mid_is ∙ length-set vs s v in
    let same : (r : ℕ) → (segment_at new r).board.claims ≡ (segment_at (set vs s v) r).board.claims =
    λ r. ap (λ xs. (segment_at xs r).board.claims) new_is ∙ unchanged_claims mid (s + 1) u (omega (arith, next, long)) given r ∙ ap (λ xs. (segment_at xs r).board.claims) mid_is in
    record {
      long = ap length new_is ∙ length-set mid (s + 1) u ∙ long;
      here = same s ∙ first.here;
      others = λ r ne. same r ∙ first.others r ne;
    }

module _ (old new : List SegmentView) (s w : ℕ) (o : Option Held) (ch : HasChangedClaim s w o old new) where
  other_segment : (r x : ℕ) → r ≢ s → (parts new r).claim x ≡ (parts old r).claim x
  other_segment r x ne = ap (λ (cs : List (Option Held)). option_map claim_from (get_or cs x None)) (ch.others r ne)

  other_worker : (r x : ℕ) → x ≢ w → (parts new r).claim x ≡ (parts old r).claim x
  other_worker r x ne = elim (eqb_tells r s) [
    | inl e ↦
        ap (λ k. (parts new k).claim x) e.1
        ∙ ap (λ (cs : List (Option Held)). option_map claim_from (get_or cs x None)) ch.here
        ∙ ap (option_map claim_from) (get_or-set_other (segment_at old s).board.claims w x o None ne)
        ∙ sym (ap (λ k. (parts old k).claim x) e.1)
    | inr e ↦ other_segment r x e.1
  ]

  -- ---- how many stand

  below_same : (n : ℕ) → n ≤ s → standing_below new n ≡ standing_below old n
  below_same zero le = refl
  below_same (suc m) le =
      let before = below_same m (omega (arith, le)) in
      let here = ap standing (ch.others m (λ e. omega (arith, e, le))) in
      omega (arith, before, here)

  below_more : (n : ℕ) → s < n → standing_below new n + standing (segment_at old s).board.claims ≡ standing_below old n + standing (segment_at new s).board.claims
  below_more zero lt = absurd (omega (arith, lt))
  below_more (suc m) lt = elim (eqb_tells m s) [
    | inl e ↦
        let before = below_same m (omega (arith, e.1)) in
        let here = ap (λ k. standing (segment_at new k).board.claims) e.1 in
        let there = ap (λ k. standing (segment_at old k).board.claims) e.1 in
        omega (arith, before, here, there)
    | inr e ↦
        let before = below_more m (omega (arith, lt, e.1)) in
        let here = ap standing (ch.others m e.1) in
        omega (arith, before, here)
  ]

  all_more : s < length old → standing_in new + standing (segment_at old s).board.claims ≡ standing_in old + standing (segment_at new s).board.claims
  all_more inside =
      ap (λ n. standing_below new n + standing (segment_at old s).board.claims) ch.long ∙ below_more (length old) inside

-- ---- a claim more

module _ (old new : List SegmentView) (s w : ℕ) (held : Held) (ch : HasChangedClaim s w (Some held) old new) (inside : s < length old) where
  pub one_more : standing_in new ≤ standing_in old + 1
  one_more =
      let all = all_more old new s w (Some held) ch inside in
      let here = ap standing ch.here in
      let most = at_most_one_more (segment_at old s).board.claims w held in
      omega (arith, all, here, most)

  module _ (free : (r : ℕ) → r < length old → (parts old r).claim w ≡ None)
      (single : (x r : ℕ) (c : Claim) → r < length old → (parts old r).claim x ≡ Some c → HasNoOther (length old) (parts old) r x) where
    pub single_more : (x r : ℕ) (c : Claim) → r < length new → (parts new r).claim x ≡ Some c → HasNoOther (length new) (parts new) r x
    single_more x r c lt e q below ne = elim (eqb_tells x w) [
      | inl f ↦
          elim (eqb_tells q s) [
            | inl g ↦ absurd (
                let away : r ≢ s = λ h. ne (g.1 ∙ sym h) in
                let none : (parts new r).claim x ≡ None = other_segment old new s w (Some held) ch r x away ∙ ap (parts old r).claim f.1 ∙ free r (omega (arith, lt, ch.long)) in
                let a : None ≡ Some c = sym none ∙ e in
                cc)
            | inr g ↦ other_segment old new s w (Some held) ch q x g.1 ∙ ap (parts old q).claim f.1 ∙ free q (omega (arith, below, ch.long))
          ]
      | inr f ↦
          other_worker old new s w (Some held) ch q x f.1
          ∙ single x r c (omega (arith, lt, ch.long)) (sym (other_worker old new s w (Some held) ch r x f.1) ∙ e) q (omega (arith, below, ch.long)) ne
    ]

    -- the new claim's place is a code's
    module _ (low : (x r : ℕ) (c : Claim) → r < length old → (parts old r).claim x ≡ Some c → c.job < 2048) (code : ℕ) (job : Claim) (at : s ≡ code / 2048) (job_is : job.job ≡ code)
        (claim : (row_of new).claim w ≡ Some job) where
      pub placed_more : (x r : ℕ) (c : Claim) → r < length new → (parts new r).claim x ≡ Some c → c.job < 2048
      placed_more x r c lt e = elim (eqb_tells x w) [
        | inl f ↦
            elim (eqb_tells r s) [
              | inl g ↦
                  let here : (parts new r).claim w ≡ Some c = ap (parts new r).claim (sym f.1) ∙ e in
                  let both : Some (lifted r c) ≡ Some job = sym (row_claim_one (parts new) w (length new) r c lt here (single_more w r c lt here)) ∙ claim in
                  let same : lifted r c ≡ job = cc in
                  let code_is = ap (λ (k : Claim). k.job) same in
                  omega (arith, code_is, job_is, at, g.1)
              | inr g ↦ absurd (
                  let none : (parts new r).claim x ≡ None = other_segment old new s w (Some held) ch r x g.1 ∙ ap (parts old r).claim f.1 ∙ free r (omega (arith, lt, ch.long)) in
                  let a : None ≡ Some c = sym none ∙ e in
                  cc)
            ]
        | inr f ↦ low x r c (omega (arith, lt, ch.long)) (sym (other_worker old new s w (Some held) ch r x f.1) ∙ e)
      ]

-- ---- a claim less

module _ (old new : List SegmentView) (s w : ℕ) (ch : HasChangedClaim s w None old new) where
  gone_here : (r x : ℕ) → r ≡ s → x ≡ w → (parts new r).claim x ≡ None
  gone_here r x e f =
      (λ i. (parts new (e i)).claim (f i)) ∙ ap (λ (cs : List (Option Held)). option_map claim_from (get_or cs w None)) ch.here
      ∙ ap (option_map claim_from) (gone (segment_at old s).board.claims w)

  pub stood_before : (r x : ℕ) (c : Claim) → (parts new r).claim x ≡ Some c → (parts old r).claim x ≡ Some c
  stood_before r x c e = elim (eqb_tells r s) [
    | inl f ↦
        elim (eqb_tells x w) [
          | inl g ↦ absurd (let a : None ≡ Some c = sym (gone_here r x f.1 g.1) ∙ e in cc)
          | inr g ↦ sym (other_worker old new s w None ch r x g.1) ∙ e
        ]
    | inr f ↦ sym (other_segment old new s w None ch r x f.1) ∙ e
  ]

  pub still_none : (r x : ℕ) → (parts old r).claim x ≡ None → (parts new r).claim x ≡ None
  still_none r x e = elim (eqb_tells r s) [
    | inl f ↦
        elim (eqb_tells x w) [
          | inl g ↦ gone_here r x f.1 g.1
          | inr g ↦ other_worker old new s w None ch r x g.1 ∙ e
        ]
    | inr f ↦ other_segment old new s w None ch r x f.1 ∙ e
  ]

  pub one_fewer : s < length old → (x : Held) → get_or (segment_at old s).board.claims w None ≡ Some x → standing_in new + 1 ≡ standing_in old
  one_fewer inside x e =
      let all = all_more old new s w None ch inside in
      let here = ap standing ch.here in
      let less = one_less (segment_at old s).board.claims w x e in
      omega (arith, all, here, less)

-- where a claim stands in one of the segments, one stands in the row
pub stands_below : (vs : List SegmentView) (n s : ℕ) → s < n → standing (segment_at vs s).board.claims ≤ standing_below vs n
stands_below vs zero s lt = absurd (omega (arith, lt))
stands_below vs (suc m) s lt = elim (eqb_tells s m) [
  | inl e ↦ let same = ap (λ k. standing (segment_at vs k).board.claims) e.1 in omega (arith, same)
  | inr e ↦ let before = stands_below vs m s (omega (arith, lt, e.1)) in omega (arith, before)
]
