-- Claims in a row of segments, and what holds of a line.
use Rattle.std.proofs.Common.{◌≡◌, ◌≢◌, ℕ, zero, suc, ◌+◌, ◌*◌, ◌<◌, inl, inr, true, false, List, [], Option, Some, None, map, length, get_or, refl, sym, ap, ◌∙◌, subst, arith}
use Rattle.std.specs.Option.{option_map}
use Rattle.std.proofs.lemmas.Bool.Decides.{eqb_tells}
use Rattle.lt_model.specs.declared.mark.Mark.{Mark}
use Rattle.lt_net.specs.declared.job.JobState.{JobState}
use Rattle.lt_net.specs.declared.job.JobState.TheVariants.{Clean, Pending, Running, Dirty}
use Rattle.lt_net.specs.Kept.{IsKept}
use Rattle.lt_net.specs.Net.{Claim, Net, State, is_held, opening, IsSettled}
use Rattle.lt_model.specs.Marks.{AreMarks, and_then}
use Rattle.lt_net.specs.Tree.{leaf_value, then_all}
use Rattle.lt_net.specs.Line.{AreSizes, IsPast, IsSerialFrom, before_segment, effect_in, line_net, part, size_in}
use Rattle.lt_net.specs.Row.{row_claim}
use Rattle.std.proofs.lemmas.List.{length-map}
use Rattle.lt_net.proofs.Fitting.{AllFit}
use Rattle.lt_net.proofs.Kept.{reached_bare}
use Rattle.lt_net.proofs.Lines.{below_serial, line_fits, line_kept}
use Rattle.lt_net.proofs.RowClaims.{row_claim_free, row_claim_none}
use Rattle.lt_circuit.specs.declared.line.LineEntry.{LineEntry}
use Rattle.lt_circuit.specs.declared.task.Prior.{Prior}
use Rattle.lt_circuit.specs.Board.{claim_from, standing, table}
use Rattle.lt_circuit.specs.Segment.{SegmentView}
use Rattle.lt_circuit.specs.Row.{parts, row_of, segment_at, sizes, standing_below, standing_in}
use Rattle.lt_circuit.specs.Line.{IsLine, leaf_place, line_event}
use Rattle.lt_circuit.proofs.Opening.{get_same, length-table}
use Rattle.lt_circuit.proofs.Standing.{none_at, some_at}

-- ---- claims that stand

none_below : (vs : List SegmentView) (n : ℕ) → standing_below vs n ≡ 0 → (r : ℕ) → r < n → standing (segment_at vs r).board.claims ≡ 0
none_below vs zero e r lt = absurd (omega (arith, lt))
none_below vs (suc s) e r lt = elim (eqb_tells r s) [
  | inl h ↦ ap (λ k. standing (segment_at vs k).board.claims) h.1 ∙ omega (arith, e)
  | inr h ↦ none_below vs s (omega (arith, e)) r (omega (arith, lt, h.1))
]

some_below : (vs : List SegmentView) (n : ℕ) → 0 < standing_below vs n → (r : ℕ) × (r < n) × (0 < standing (segment_at vs r).board.claims)
some_below vs zero h = absurd (omega (arith, h))
some_below vs (suc s) h = elim (eqb_tells (standing (segment_at vs s).board.claims) 0) [
  | inl g ↦ let r = some_below vs s (omega (arith, h, g.1)) in (r.0, omega (arith, r.1), r.2)
  | inr g ↦ (s, omega arith, omega (arith, g.1))
]

module _ (net : Net) (vs : List SegmentView) (k : IsKept net (row_of vs)) where
  -- where no job is Pending and no claim stands, each job is Clean
  pub row_idle_settled : ((code : ℕ) → (row_of vs).status code ≢ Pending) → standing_in vs ≡ 0 → IsSettled (row_of vs)
  row_idle_settled none free code = by_state ((row_of vs).status code) refl
    where
      unheld : is_held ((row_of vs).status code) ≡ true → ⊥
      unheld e =
          let h = k.holder code e in
          let gone : (row_of vs).claim h.0 ≡ None =
          row_claim_none (parts vs) h.0 (length vs) (λ r lt. ap (option_map claim_from) (none_at (segment_at vs r).board.claims h.0 (none_below vs (length vs) free r lt))) in
          let f : None ≡ Some h.1 = sym gone ∙ h.2 in cc

      by_state : (st : JobState) → (row_of vs).status code ≡ st → (row_of vs).status code ≡ Clean
      by_state Clean e = e
      by_state Pending e = absurd (none code e)
      by_state Running e = absurd (unheld (ap is_held e))
      by_state Dirty e = absurd (unheld (ap is_held e))

  -- where each job is Clean no claim stands
  pub row_settled_idle : IsSettled (row_of vs) → standing_in vs ≡ 0
  row_settled_idle settled = elim (eqb_tells (standing_in vs) 0) [
    | inl h ↦ h.1
    | inr h ↦
        let r = some_below vs (length vs) (omega (arith, h.1)) in
        let held = some_at (segment_at vs r.0).board.claims r.2 in
        let here : (parts vs r.0).claim held.0 ≡ Some (claim_from held.1) = ap (option_map claim_from) held.2 in
        absurd (by_claim r.0 r.1 held.0 (claim_from held.1) here (row_claim (length vs) (parts vs) held.0) refl)
  ]
    where
      by_claim : (r : ℕ) → r < length vs → (w : ℕ) (c : Claim) → (parts vs r).claim w ≡ Some c → (o : Option Claim) → row_claim (length vs) (parts vs) w ≡ o → ⊥
      by_claim r lt w c e None f = let g : None ≡ Some c = sym (row_claim_free (parts vs) w (length vs) f r lt) ∙ e in cc
      by_claim r lt w c e (Some d) f = let g : false ≡ true = sym (ap is_held (settled d.job)) ∙ k.held w d f in cc

module _ {T : Type 0} (does : ℕ → List Mark → List Mark) (stands_for : T → ℕ → List Mark → Type 0) (fits : List Mark → Type 0) (has : ℕ → Type 0) where
  pub start_line : (row : List SegmentView) (tallies : List (Option (Prior T))) (leaves : List ℕ) (places used capacity : ℕ) → sizes row ≡ leaves → AreSizes leaves
      → ((s i : ℕ) → i < size_in leaves s → has (256 * s + i)) → row_of row ≡ opening (line_net does leaves) → tallies ≡ table (λ k. None) places
      → ((s i : ℕ) → i < size_in leaves s → 256 * s + i < places) → standing_in row ≡ 0 → used ≡ 0
      → IsLine does stands_for fits has row [] tallies used capacity
  start_line row tallies leaves places used capacity same few there st none all free unused = record {
    replayed = ap Some (ap (λ ns. opening (line_net does ns)) same ∙ sym st);
    small = subst AreSizes (sym same) few;
    leaves_there = λ s i lt. there s i (subst (λ ns. i < size_in ns s) same lt);
    tallies_long = λ s i lt. let long = ap length none ∙ length-table {X = Option (Prior T)} (λ k. None) places in let below = all s i (subst (λ ns. i < size_in ns s) same lt) in omega (arith, long, below);
    are_tallies = record {
      each = λ i p e. absurd (let g : None ≡ Some p = sym (ap (λ l. get_or l i None) none ∙ get_same None places i) ∙ e in cc);
      there = λ i c d e. absurd (let g : None ≡ Some c = sym (ap (λ (s : State). s.done (leaf_place i)) st) ∙ d in cc);
    };
    single = λ w s c lt e. absurd (let g : None ≡ Some c = sym (row_claim_free (parts row) w (length row) (ap (λ (t : State). t.claim w) st) s lt) ∙ e in cc);
    placed = λ w s c lt e. absurd (let g : None ≡ Some c = sym (row_claim_free (parts row) w (length row) (ap (λ (t : State). t.claim w) st) s lt) ∙ e in cc);
    room = omega (arith, free, unused);
  }

  module _ (row : List SegmentView) (journal : List LineEntry) (tallies : List (Option (Prior T))) (used capacity : ℕ)
      (h : IsLine does stands_for fits has row journal tallies used capacity) where
    pub kept_line : IsKept (line_net does (sizes row)) (row_of row)
    kept_line = line_kept (sizes row) h.small does (map line_event journal) (row_of row) h.replayed

    -- ---- below the front

    module _ (none : fits []) (both : (a b : List Mark) → fits a → fits b → fits (and_then a b)) (gives : (i : ℕ) (c : List Mark) → has i → fits c → fits (does i c)) where
      pub line_all_fit : AllFit fits (row_of row)
      line_all_fit = line_fits (sizes row) h.small does fits none both (λ s i c lt f. gives (256 * s + i) c (h.leaves_there s i lt) f) (map line_event journal) (row_of row) h.replayed

      module _ (marks : (a : List Mark) → fits a → AreMarks a) (s : ℕ) (inside : s < length row) (past : IsPast (s + 1) (row_of row)) where
        pub line_serial : IsSerialFrom (effect_in does s) (before_segment (sizes row) (row_of row) s) (size_in (sizes row) s) (part s (row_of row))
        line_serial =
            below_serial (sizes row) h.small does (row_of row) (reached_bare (line_net does (sizes row)) (map line_event journal) (row_of row) h.replayed) kept_line
            (λ x. marks ((row_of row).value x) (line_all_fit.cells x)) (s + 1) (omega (arith, inside, length-map row (λ (v : SegmentView). v.board.leaves))) past s (omega arith)

        module _ (i : ℕ) (lt : i < size_in (sizes row) s) where
          place_is : leaf_place (256 * s + i) ≡ 2048 * s + 3 * i
          place_is = let b = h.small.few s in omega (arith, lt, b)

          abbrev start : List Mark
          start = then_all (leaf_value (size_in (sizes row) s) (part s (row_of row))) (before_segment (sizes row) (row_of row) s) i

          last_done : (row_of row).done (leaf_place (256 * s + i)) ≡ Some start
          last_done = ap (row_of row).done place_is ∙ line_serial.stands_for i lt

          pub line_tally_there : (p : Prior T) × (get_or tallies (256 * s + i) None ≡ Some p)
          line_tally_there =
              let b = h.small.few s in
              h.are_tallies.there (256 * s + i) start last_done (ap is_held (past (leaf_place (256 * s + i)) (omega (arith, place_is, lt, b))))

          start_is : (p : Prior T) → get_or tallies (256 * s + i) None ≡ Some p → p.correction ≡ start
          start_is p e = let k = h.are_tallies.each (256 * s + i) p e in let same : Some p.correction ≡ Some start = sym k.last ∙ last_done in cc

          pub line_tally_stands : (p : Prior T) → get_or tallies (256 * s + i) None ≡ Some p → stands_for p.tally (256 * s + i) start
          line_tally_stands p e = subst (stands_for p.tally (256 * s + i)) (start_is p e) (h.are_tallies.each (256 * s + i) p e).stands

          pub line_tally_fits : (p : Prior T) → get_or tallies (256 * s + i) None ≡ Some p → fits start
          line_tally_fits p e = subst fits (start_is p e) (h.are_tallies.each (256 * s + i) p e).fit
