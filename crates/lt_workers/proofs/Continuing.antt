-- What a seat knows while its workers go on.
use Rattle.std.proofs.Common.{◌≡◌, ℕ, ◌<◌, ◌≤◌, ⊎_elim, Bool, List, [], ◌∷◌, ◌++◌, map, Option, Some, None, true, false, cond, ltb, length, refl, sym, ap, ◌∙◌, subst, arith, append_assoc, append-nil}
use mathlib.Core.Logic.{dite}
use native.Mathlib.Decide.{ℕ_discrete, dec_le}
use Rattle.lt_net.specs.Alone.{IsUnclaimed}
use Rattle.lt_net.specs.Net.{Net, State, Claim as NetClaim, Event, Claims as Claim, Finishes, Abandons, step, claim_step, is_pending, replay, opening, IsSettled}
use Rattle.lt_turn.specs.Journal.{Extends}
use Rattle.lt_turn.specs.Rule.{above, below, joined, longer}
use Rattle.lt_turn.specs.declared.view.View.{View}
use Rattle.lt_workers.specs.declared.driving.Ended.{Ended}
use Rattle.lt_workers.specs.declared.driving.Ended.TheVariants.{Settled, NoMemory, Spared}
use Rattle.lt_workers.specs.Seen.{Stand, event_for, reached, IsKnown, Knows, Claims, AreFree, BeginsFree}
use Rattle.lt_workers.specs.Visit.{IsSame, Visits, KeepsOthers}
use Rattle.lt_workers.specs.Driven.{GaveBack, EndsAt, AreOthersFree, Continues, Drives, either_of}
use Rattle.lt_workers.proofs.Knowing.{reached_before}
use Rattle.lt_workers.proofs.Replays.{replay_parts, events_append}

-- ---- a settled machine in which no claim stands stays so

module _ (net : Net) (s : State) (unclaimed : IsUnclaimed s) (settled : IsSettled s) where
  no_step : (e : Event) → step net s e ≡ None
  no_step (Claim w j) =
      let none : s.claim w ≡ None = unclaimed w in
      let clean : is_pending (s.status j) ≡ false = ap is_pending (settled j) in
      ap (claim_step net s w j) none ∙ rw clean refl
  no_step (Finishes w j) = let none : s.claim w ≡ None = unclaimed w in rw none refl
  no_step (Abandons w j) = let none : s.claim w ≡ None = unclaimed w in rw none refl

  pub stays : (es : List Event) (t : State) → replay net (Some s) es ≡ Some t → t ≡ s
  stays [] t is = cc
  stays (e ∷ es) t is = let f : replay net None es ≡ Some t = ap (λ o. replay net o es) (sym (no_step e)) ∙ is in absurd (cc)

module _ {B : Type 0} (net_of : B → Net) where
  -- what follows a settled state in a legal journal is nothing
  pub settled_stays : (o : Option B) (seen log : List (ℕ × ℕ)) (s t : State) → (rest : List (ℕ × ℕ)) × (log ≡ seen ++ rest) → reached net_of o seen ≡ Some s → IsSettled s → IsUnclaimed s → reached net_of o log ≡ Some t → t ≡ s
  settled_stays None seen log s t x is settled free known = absurd (cc)
  settled_stays (Some b) seen log s t x is settled free known =
      let net = net_of b in
      let all : map event_for log ≡ map event_for seen ++ map event_for x.0 = ap (λ (l : List (ℕ × ℕ)). map event_for l) x.1 ∙ events_append seen x.0 in
      let p = replay_parts net (opening net) t (map event_for seen) (map event_for x.0) (ap (replay net (Some (opening net))) (sym all) ∙ known) in
      let same : p.0 ≡ s = let e : Some p.0 ≡ Some s = sym p.1 ∙ is in cc in
      stays net s free settled (map event_for x.0) t (ap (λ (u : State). replay net (Some u) (map event_for x.0)) (sym same) ∙ p.2)

  -- so it ends settled
  pub ends_settled : (v : View B) (s t : State) → Knows net_of v t → t ≡ s → IsSettled s → IsUnclaimed s → EndsAt net_of v Settled
  ends_settled v s t known same settled free = (t, known, (λ j. ap (λ (u : State). u.status j) same ∙ settled j), (λ w. ap (λ (u : State). u.claim w) same ∙ free w))

  -- and it stays so while the seat sees more
  pub settled_on : (v w : View B) → Continues net_of v w → IsKnown net_of w → EndsAt net_of v Settled → EndsAt net_of w Settled
  settled_on v w x known ends =
      let same = subst (λ (o : Option B). reached net_of o w.seen ≡ Some known.0) x.same.0 known.1 in
      ends_settled w ends.0 known.0 known.1 (settled_stays v.opening v.seen w.seen ends.0 known.0 x.later ends.1 ends.2 ends.3 same) ends.2 ends.3

  -- ---- one worker

  pub visit_later : (v w : View B) (before after : Stand B) → Visits net_of v w before after → (rest : List (ℕ × ℕ)) × (w.seen ≡ v.seen ++ rest)
  visit_later v w before after x = ⊎_elim
      (λ (e : after.pairs ≡ before.pairs). (x.extends.0, x.seen ∙ (e ∙ x.extends.1)))
      (λ (t : (code : ℕ) × (after.pairs ≡ before.pairs ++ (v.first, code) ∷ [])).
      (x.extends.0 ++ (v.first, t.0) ∷ [], x.seen ∙ (t.1 ∙ (ap (λ (l : List (ℕ × ℕ)). l ++ (v.first, t.0) ∷ []) x.extends.1 ∙ append_assoc v.seen x.extends.0 ((v.first, t.0) ∷ [])))))
      x.grew

  pub later_then : (u v w : View B) → (rest : List (ℕ × ℕ)) × (v.seen ≡ u.seen ++ rest) → (rest : List (ℕ × ℕ)) × (w.seen ≡ v.seen ++ rest) → (rest : List (ℕ × ℕ)) × (w.seen ≡ u.seen ++ rest)
  later_then u v w x y = (x.0 ++ y.0, y.1 ∙ (ap (λ (l : List (ℕ × ℕ)). l ++ y.0) x.1 ∙ append_assoc u.seen x.0 y.0))

  pub same_then : (u v w : View B) → IsSame u v → IsSame v w → IsSame u w
  same_then u v w x y = (y.0 ∙ x.0, y.1 ∙ x.1, y.2 ∙ x.2, y.3 ∙ x.3, y.4 ∙ x.4, y.5)

  pub continues_then : (u v w : View B) → Continues net_of u v → Continues net_of v w → Continues net_of u w
  continues_then u v w x y = record { same = same_then u v w x.same y.same; later = later_then u v w x.later y.later; free = y.free }

  pub continues_same : (v : View B) → v.taken ≡ None → AreFree net_of v → Continues net_of v v
  continues_same v idle free = record { same = (refl, refl, refl, refl, refl, idle); later = ([], sym (append-nil v.seen)); free = free }

  -- a look at the machine, by which no claim changes
  pub continues_look : (v w : View B) (c : Stand B) → IsSame v w → AreFree net_of v → Extends v.first v.end v.seen c.pairs → w.seen ≡ c.pairs
      → ((u : ℕ) (claim : Option NetClaim) → v.first ≤ u → u < v.end → Claims net_of v u claim → c.state.claim u ≡ claim) → ((u : ℕ) (claim : Option NetClaim) → c.state.claim u ≡ claim → Claims net_of w u claim) → Continues net_of v w
  continues_look v w c same free extends seen claims given = record {
    same = same;
    later = (extends.0, seen ∙ extends.1);
    free = λ worker low high.
        let f : w.first ≡ v.first = same.3 in
        let e : w.end ≡ v.end = same.4 in
        let from : v.first ≤ worker = omega arith in
        let to : worker < v.end = omega arith in
        given worker None (claims worker None from to (free worker from to));
  }

  -- the others are free after a claim
  pub others_free : (v w : View B) → IsSame v w → AreFree net_of v → KeepsOthers net_of v w → AreOthersFree net_of w
  others_free v w same free keeps worker low high other =
      let f : w.first ≡ v.first = same.3 in
      let e : w.end ≡ v.end = same.4 in
      keeps worker None (omega arith) (omega arith) (λ x. other (x ∙ sym f)) (free worker (omega arith) (omega arith))

  pub others_still : (v w : View B) → IsSame v w → AreOthersFree net_of v → KeepsOthers net_of v w → AreOthersFree net_of w
  others_still v w same free keeps worker low high other =
      let f : w.first ≡ v.first = same.3 in
      let e : w.end ≡ v.end = same.4 in
      keeps worker None (omega arith) (omega arith) (λ x. other (x ∙ sym f)) (free worker (omega arith) (omega arith) (λ x. other (x ∙ sym f)))

  pub all_free : (w : View B) → AreOthersFree net_of w → Claims net_of w w.first None → AreFree net_of w
  all_free w others first worker low high = dite (ℕ_discrete worker w.first)
      (λ same. λ s known. ap s.claim same ∙ first s known)
      (λ other. others worker low high other)

  -- what was so at the beginning
  pub begins_then : (v w : View B) → IsSame v w → BeginsFree net_of v → BeginsFree net_of w
  begins_then v w same free s is = free s (subst (λ (x : Option B × List (ℕ × ℕ)). reached net_of x.0 x.1 ≡ Some s) (λ k. (same.0 k, same.1 k)) is)

  -- ---- two parts of a seat

  longer_known : (o : Option B) (xs ys : List (ℕ × ℕ)) (s t : State) → reached net_of o xs ≡ Some s → reached net_of o ys ≡ Some t → (u : State) × (reached net_of o (longer xs ys) ≡ Some u)
  longer_known o xs ys s t p q = elim (ltb (length xs) (length ys)) as (λ b. (u : State) × (reached net_of o (cond b ys xs) ≡ Some u)) [ true ↦ (t, q) | false ↦ (s, p) ]

  module _ (v w j : View B) (is : j ≡ joined v w) (common : w.opening ≡ v.opening) (next : v.end ≡ w.first) (low : Extends v.first v.end v.seen j.seen) (high : Extends w.first w.end w.seen j.seen) where
    opening_low : j.opening ≡ v.opening
    opening_low = ap (λ (x : View B). x.opening) is

    opening_high : j.opening ≡ w.opening
    opening_high = opening_low ∙ sym common

    pub joined_free : AreFree net_of v → AreFree net_of w → AreFree net_of j
    joined_free first second worker above below s known =
        let f : j.first ≡ v.first = ap (λ (x : View B). x.first) is in
        let e : j.end ≡ w.end = ap (λ (x : View B). x.end) is in
        dite (dec_le v.end worker)
        (λ le.
        let r = reached_before net_of w.opening w.first w.end w.seen j.seen s high (subst (λ (o : Option B). reached net_of o j.seen ≡ Some s) opening_high known) in
        r.2 worker (omega arith) (omega arith) ∙ second worker (omega arith) (omega arith) r.0 r.1)
        (λ not.
        let r = reached_before net_of v.opening v.first v.end v.seen j.seen s low (subst (λ (o : Option B). reached net_of o j.seen ≡ Some s) opening_low known) in
        r.2 worker (omega arith) (omega arith) ∙ first worker (omega arith) (omega arith) r.0 r.1)

    known_of : (x : View B) (answer : Ended) → EndsAt net_of x answer → (s : State) × Knows net_of x s
    known_of x Settled e = (e.0, e.1)
    known_of x NoMemory e = e
    known_of x Spared e = (e.0, e.1)

    joined_known : (one other : Ended) → EndsAt net_of v one → EndsAt net_of w other → (t : State) × Knows net_of j t
    joined_known one other first second =
        let p = known_of v one first in
        let q = known_of w other second in
        let k = longer_known v.opening v.seen w.seen p.0 q.0 p.1 (subst (λ (o : Option B). reached net_of o w.seen ≡ Some q.0) common q.1) in
        (k.0, subst (λ (x : Option B × List (ℕ × ℕ)). reached net_of x.0 x.1 ≡ Some k.0) (λ i. (sym opening_low i, sym (ap (λ (x : View B). x.seen) is) i)) k.1)

    settled_second : (one : Ended) → EndsAt net_of v one → EndsAt net_of w Settled → EndsAt net_of j Settled
    settled_second one first second =
        let k = joined_known one Settled first second in
        ends_settled j second.0 k.0 k.1 (settled_stays w.opening w.seen j.seen second.0 k.0 (high.0, high.1) second.1 second.2 second.3 (subst (λ (o : Option B). reached net_of o j.seen ≡ Some k.0) opening_high k.1)) second.2 second.3

    -- of two seats that gave back the one that has seen more did so last
    joined_gave : GaveBack v → GaveBack w → GaveBack j
    joined_gave first second = by_longer (ltb (length v.seen) (length w.seen)) refl
      where
        starts : j.first ≡ v.first
        starts = ap (λ (x : View B). x.first) is

        ends : j.end ≡ w.end
        ends = ap (λ (x : View B). x.end) is

        sees : j.seen ≡ longer v.seen w.seen
        sees = ap (λ (x : View B). x.seen) is

        by_longer : (b : Bool) → ltb (length v.seen) (length w.seen) ≡ b → GaveBack j
        by_longer true e = record {
          log = second.log;
          worker = second.worker;
          code = second.code;
          job = second.job;
          seen = sees ∙ (ap (λ b. cond b w.seen v.seen) e ∙ second.seen);
          gave = second.gave;
          low = omega (arith, starts, next, first.low, first.high, second.low);
          high = omega (arith, ends, second.high);
        }
        by_longer false e = record {
          log = first.log;
          worker = first.worker;
          code = first.code;
          job = first.job;
          seen = sees ∙ (ap (λ b. cond b w.seen v.seen) e ∙ first.seen);
          gave = first.gave;
          low = omega (arith, starts, first.low);
          high = omega (arith, ends, next, first.high, second.low, second.high);
        }

    pub joined_ends : (one other : Ended) → EndsAt net_of v one → EndsAt net_of w other → EndsAt net_of j (either_of one other)
    joined_ends Settled other first second =
        let k = joined_known Settled other first second in
        ends_settled j first.0 k.0 k.1 (settled_stays v.opening v.seen j.seen first.0 k.0 (low.0, low.1) first.1 first.2 first.3 (subst (λ (o : Option B). reached net_of o j.seen ≡ Some k.0) opening_low k.1)) first.2 first.3
    joined_ends NoMemory Settled first second = settled_second NoMemory first second
    joined_ends NoMemory NoMemory first second = joined_known NoMemory NoMemory first second
    joined_ends NoMemory Spared first second = joined_known NoMemory Spared first second
    joined_ends Spared Settled first second = settled_second Spared first second
    joined_ends Spared NoMemory first second = joined_known Spared NoMemory first second
    joined_ends Spared Spared first second =
        let k = joined_known Spared Spared first second in
        (k.0, k.1, subst (λ n. 0 < n) (sym (ap (λ (x : View B). x.first) is)) first.2, joined_gave first.3 second.3)

  -- ---- what a worker net_of with an answer

  module _ (v w : View B) (before after : Stand B) (same : IsSame v w) (free : AreFree net_of v) (visits : Visits net_of v w before after) (keeps : KeepsOthers net_of v w) (first : Claims net_of w w.first None) where
    pub continues_idle : Continues net_of v w
    continues_idle = record { same = same; later = visit_later v w before after visits; free = all_free w (others_free v w same free keeps) first }

  -- the claim's end, after others were free
  pub continues_end : (v w : View B) (before after : Stand B) → IsSame v w → AreOthersFree net_of v → Visits net_of v w before after → KeepsOthers net_of v w → Claims net_of w w.first None → Continues net_of v w
  continues_end v w before after same free visits keeps first =
      record { same = same; later = visit_later v w before after visits; free = all_free w (others_still v w same free keeps) first }

  -- a claim, and what followed it
  pub continues_from : (u v w : View B) (before after : Stand B) → IsSame u v → Visits net_of u v before after → Continues net_of v w → Continues net_of u w
  continues_from u v w before after same visits x = record { same = same_then u v w same x.same; later = later_then u v w (visit_later u v before after visits) x.later; free = x.free }

  -- two halves that went on are one seat again
  pub halves_join : (u v w v' w' j : View B) (at : ℕ) (one other : Ended) → v ≡ below at u → w ≡ above at u → Drives net_of v v' one → Drives net_of w w' other
      → j ≡ joined v' w' → Extends v'.first v'.end v'.seen j.seen → Extends w'.first w'.end w'.seen j.seen → Drives net_of u j (either_of one other)
  halves_join u v w v' w' j at one other v_is w_is x y is low high =
      let a = x.0.same in
      let b = y.0.same in
      let common : w'.opening ≡ v'.opening = b.0 ∙ (ap (λ (z : View B). z.opening) w_is ∙ (sym (ap (λ (z : View B). z.opening) v_is) ∙ sym a.0)) in
      let next : v'.end ≡ w'.first = a.4 ∙ (ap (λ (z : View B). z.end) v_is ∙ (sym (ap (λ (z : View B). z.first) w_is) ∙ sym b.3)) in
      let seen : v.seen ≡ u.seen = ap (λ (z : View B). z.seen) v_is in (
        record {
          same = (
            ap (λ (z : View B). z.opening) is ∙ (a.0 ∙ ap (λ (z : View B). z.opening) v_is),
            ap (λ (z : View B). z.begun) is ∙ (a.1 ∙ ap (λ (z : View B). z.begun) v_is),
            ap (λ (z : View B). z.workers) is ∙ (a.2 ∙ ap (λ (z : View B). z.workers) v_is),
            ap (λ (z : View B). z.first) is ∙ (a.3 ∙ ap (λ (z : View B). z.first) v_is),
            ap (λ (z : View B). z.end) is ∙ (b.4 ∙ ap (λ (z : View B). z.end) w_is),
            ap (λ (z : View B). z.taken) is,
          );
          later = (
            x.0.later.0 ++ low.0,
            low.1 ∙ (ap (λ (l : List (ℕ × ℕ)). l ++ low.0) x.0.later.1 ∙ (append_assoc v.seen x.0.later.0 low.0 ∙ ap (λ (l : List (ℕ × ℕ)). l ++ (x.0.later.0 ++ low.0)) seen)),
          );
          free = joined_free v' w' j is common next low high x.0.free y.0.free;
        },
        joined_ends v' w' j is common next low high one other x.1 y.1,
      )
