-- Several behind a sign, with commas between, or none; and what one too many is: the sign isn't blamed, but the first token behind
-- it.
use Rattle.std.proofs.Common.{◌≡◌, ℕ, zero, suc, ◌-◌, Bool, true, false, cond, ◌||◌, List, [], ◌∷◌, ◌++◌, length, Option, Some, None, Ok, Err, refl, sym, ap, subst, arith}
use Rattle.std.specs.List.{flat_map, AllByRecursion}
use Rattle.lt_reading.specs.Reading.{not_allowed, too_many, Stop, Reader, behind, past_comma, no_more, refused, led, listed, maybe, some_of, trail, trailed}
use Rattle.lt_reading.specs.Language.{Level, formed, few, fine, full, below, Language, AtMost, Next, Alphabet}
use Rattle.lt_reading.proofs.Exact.{Wrong, Why, Closes, Open, to_comma, Stuck, Found, Reads, to_formed, Heads, Begins, heads_more, heads_next, heads_clash, done_is, done_not_failed, failed_is, none_viable}
use Rattle.lt_reading.proofs.Meaning.{given_reads}
use Rattle.lt_reading.proofs.Marked.{Led, led_reads}
use Rattle.lt_reading.proofs.Optional.{Maybe, maybe_reads}
use Rattle.lt_reading.proofs.Sequence.{PairBy, JointBy, pair_by_reads}
use Rattle.lt_reading.proofs.Repeat.{ending, ending_free, or_false, next_or, next_left, next_right, all_weaker, at_most_none, at_most_suc, at_most_pred, at_most_below}
use Rattle.lt_reading.proofs.Listed.{Listed, Started, listed_reads}

-- ---- the language

abbrev pub spell_trail : {T A : Type 0} → T → T → (A → List T) → List A → List T
spell_trail sign comma spell [] = []
spell_trail sign comma spell (x ∷ xs) = sign ∷ (spell x ++ flat_map (λ y. comma ∷ spell y) xs)

abbrev pub bars_trail : {T A : Type 0} → (T → T → Bool) → T → T → (A → T → Bool) → List A → T → Bool
bars_trail same sign comma bars [] = λ t. same t sign
bars_trail same sign comma bars (x ∷ xs) = ending (λ t. same t comma) bars (bars x) xs

abbrev pub Trail : {T A : Type 0} → Alphabet T → T → Language T A → ℕ → Language T (List A)
Trail m sign L room = record {
  spell = spell_trail sign m.comma L.spell;
  Holds = λ level xs. AllByRecursion (L.Holds level) xs × AtMost level (length xs) room;
  bars = bars_trail m.same sign m.comma L.bars;
}

module _ {T A : Type 0} (m : Alphabet T) (sign : T) (sign_spared : m.spared sign ≡ true) (starts : T → Bool) (L : Language T A) (r : Reader T A) (ra : Reads m L r) (begins : Begins starts true L) (started : Started starts L) (blamed : (t : T) → starts t ≡ true → m.spared t ≡ false) (free : (x : A) → L.bars x m.comma ≡ false) where
  abbrev is_sign : T → Bool
  is_sign t = m.same t sign

  -- ---- where there is room

  abbrev Parts : ℕ → Language T (Option (A × List A))
  Parts room = Maybe is_sign (Led sign (Listed m L room))

  abbrev parts_of : List A → Option (A × List A)
  parts_of [] = None
  parts_of (x ∷ xs) = Some (x, xs)

  parts_read : (room : ℕ) → Reads m (Parts room) (maybe is_sign (led m.same sign (listed m.same m.comma starts r room)))
  parts_read room =
      maybe_reads m is_sign (Led sign (Listed m L room)) (led m.same sign (listed m.same m.comma starts r room))
      (led_reads m sign (Listed m L room) (listed m.same m.comma starts r room) (listed_reads m starts L r ra begins started blamed free room))
      (λ x h. m.is_same sign)

  same_tokens : (room : ℕ) (x : Option (A × List A)) → (Parts room).Holds formed x → (Trail m sign L (suc room)).spell (some_of x) ≡ (Parts room).spell x
  same_tokens room None h = refl
  same_tokens room (Some x) h = refl

  same_bars : (room : ℕ) (x : Option (A × List A)) → (Parts room).Holds formed x → (Trail m sign L (suc room)).bars (some_of x) ≡ (Parts room).bars x
  same_bars room None h = refl
  same_bars room (Some x) h = refl

  same_list : (xs : List A) → some_of (parts_of xs) ≡ xs
  same_list [] = refl
  same_list (x ∷ xs) = refl

  to_trail : (room : ℕ) (level : Level) (x : Option (A × List A)) → (Parts room).Holds level x → (Trail m sign L (suc room)).Holds level (some_of x)
  to_trail room level None h = (tt, at_most_none level (suc room))
  to_trail room level (Some x) h = ((h.0, h.1.0), at_most_suc level (length x.1) room h.1.1)

  from_trail : (room : ℕ) (level : Level) (xs : List A) → (Trail m sign L (suc room)).Holds level xs → (Parts room).Holds level (parts_of xs)
  from_trail room level [] h = tt
  from_trail room level (x ∷ xs) h = (h.0.0, (h.0.1, at_most_pred level (length xs) room h.1))

  more_reads : (room : ℕ) → Reads m (Trail m sign L (suc room)) (trail m.same sign m.comma starts r (suc room))
  more_reads room =
      given_reads m some_of parts_of (Parts room) (maybe is_sign (led m.same sign (listed m.same m.comma starts r room))) (Trail m sign L (suc room)) (parts_read room)
      (record { same = same_tokens room; bars = same_bars room; is = λ level xs h. same_list xs; to = to_trail room; from = from_trail room })

  -- ---- where there is none

  abbrev NoRoom : Language T (List A)
  NoRoom = Trail m sign L 0

  none_weaken : (level : Level) (xs : List A) → NoRoom.Holds level xs → NoRoom.Holds (below level) xs
  none_weaken level xs h = (all_weaker (L.Holds level) (L.Holds (below level)) xs (ra.weaken level) h.0, at_most_below level (length xs) 0 h.1)

  found_at : (b : Bool) (t : T) (ts : List T) (xs : List A) (rest : List T) → is_sign t ≡ b → cond b (refused A (past_comma starts (t ∷ ts))) (no_more A (t ∷ ts)) ≡ Ok (xs, rest) → Found NoRoom (t ∷ ts) xs rest
  found_at true t ts xs rest is e = absurd (done_not_failed _ (past_comma starts (t ∷ ts)) (sym e))
  found_at false t ts xs rest is e =
      let made : List A × List T = ([], t ∷ ts) in
      subst (λ (y : List A × List T). Found NoRoom (t ∷ ts) y.0 y.1) (done_is T made (xs, rest) e) (refl, (tt, at_most_none full 0), is)

  none_found : (ts : List T) (xs : List A) (rest : List T) → trail m.same sign m.comma starts r 0 ts ≡ Ok (xs, rest) → Found NoRoom ts xs rest
  none_found [] xs rest e =
      let made : List A × List T = ([], []) in
      subst (λ (y : List A × List T). Found NoRoom [] y.0 y.1) (done_is T made (xs, rest) e) (refl, (tt, at_most_none full 0), tt)
  none_found (t ∷ ts) xs rest e = found_at (is_sign t) t ts xs rest refl e

  none_left : (rest : List T) → Next is_sign rest → trail m.same sign m.comma starts r 0 rest ≡ Ok ([], rest)
  none_left [] n = refl
  none_left (t ∷ ts) n = rw n refl

  none_again : (xs : List A) (rest : List T) → NoRoom.Holds full xs → Next (NoRoom.bars xs) rest → trail m.same sign m.comma starts r 0 (NoRoom.spell xs ++ rest) ≡ Ok (xs, rest)
  none_again [] rest h n = none_left rest n
  none_again (x ∷ xs) rest h n = absurd (omega (arith, h.1))

  sign_closes : Closes m NoRoom (sign ∷ [])
  sign_closes [] after e = absurd (m.spared_not_closing sign sign_spared cc)
  sign_closes (s ∷ []) after e = absurd (cc)
  sign_closes (s ∷ (u ∷ b)) after e = absurd (cc)

  sign_opens : Open m NoRoom (sign ∷ [])
  sign_opens =
      to_comma [] sign sign_spared refl (none_viable NoRoom fine [] (tt, at_most_none fine 0))
      (record { value = ra.sample ∷ []; more = L.spell ra.sample ++ []; holds = ((to_formed L ra.weaken full ra.sample ra.sample_holds, tt), tt); begins = refl })

  tails : (t u : T) (p q : List T) → t ∷ p ≡ u ∷ q → p ≡ q
  tails t u p q e = cc

  -- nothing in front of a sign
  not_here : (s later : List T) (t : T) → Next is_sign s → sign ∷ (t ∷ later) ≡ s → ⊥
  not_here s later t n e = heads_next is_sign s (subst (Heads is_sign true) e (m.is_same sign)) n

  -- behind the sign there is nothing that may not begin an element
  not_started : (t : T) → starts t ≡ false → Wrong NoRoom formed (sign ∷ []) t
  not_started t isnt [] later tail h n e = not_here tail later t n e
  not_started t isnt (x ∷ xs) later tail h n e =
      let rest : List T = (L.spell x ++ flat_map (λ (y : A). m.comma ∷ L.spell y) xs) ++ tail in
      let e2 : t ∷ later ≡ rest = tails sign sign (t ∷ later) rest e in
      heads_clash starts rest (heads_more starts true (L.spell x ++ flat_map (λ (y : A). m.comma ∷ L.spell y) xs) tail (heads_more starts true (L.spell x) (flat_map (λ (y : A). m.comma ∷ L.spell y) xs) (begins x h.0.0))) (subst (Heads starts false) e2 isnt)

  none_few : (t : T) → Wrong NoRoom few (sign ∷ []) t
  none_few t [] later tail h n e = not_here tail later t n e
  none_few t (x ∷ xs) later tail h n e = absurd (omega (arith, h.1))

  why_behind : (b : Bool) (t : T) → starts t ≡ b → Why m NoRoom (sign ∷ []) t (cond b too_many not_allowed)
  why_behind true t s =
      let v = started t s in
      (record { value = v.value ∷ []; more = v.more ++ []; holds = ((v.holds, tt), tt); begins = ap (λ (u : List T). sign ∷ (u ++ [])) v.begins }, blamed t s, none_few t)
  why_behind false t s = not_started t s

  stuck_behind : (ts : List T) → Stuck m NoRoom (sign ∷ ts) (behind starts ts)
  stuck_behind [] = record { front = sign ∷ []; parts = refl; closes = sign_closes; opens = sign_opens; why = λ t after is. absurd cc }
  stuck_behind (t0 ∷ ts) = record { front = sign ∷ []; parts = refl; closes = sign_closes; opens = sign_opens; why = why }
    where
      why : (t : T) (after : List T) → t0 ∷ ts ≡ t ∷ after → Why m NoRoom (sign ∷ []) t (cond (starts t0) too_many not_allowed)
      why t after is =
          let same : t0 ≡ t = cc in
          let W : T → Type 0 = λ u. Why m NoRoom (sign ∷ []) u (cond (starts t0) too_many not_allowed) in
          subst W same (why_behind (starts t0) t0 refl)

  stuck_at : (b : Bool) (t : T) (ts : List T) (stop : Stop T) → is_sign t ≡ b → cond b (refused A (past_comma starts (t ∷ ts))) (no_more A (t ∷ ts)) ≡ Err stop → Stuck m NoRoom (t ∷ ts) stop
  stuck_at true t ts stop is e =
      let S : List T → Type 0 = λ us. Stuck m NoRoom us (behind starts ts) in
      subst (λ (s : Stop T). Stuck m NoRoom (t ∷ ts) s) (failed_is (List A × List T) (behind starts ts) stop e) (subst S (ap (λ (s : T). s ∷ ts) (sym (m.same_is t sign is))) (stuck_behind ts))
  stuck_at false t ts stop is e = absurd (done_not_failed _ stop e)

  none_stuck : (ts : List T) (stop : Stop T) → trail m.same sign m.comma starts r 0 ts ≡ Err stop → Stuck m NoRoom ts stop
  none_stuck [] stop e = absurd (done_not_failed _ stop e)
  none_stuck (t ∷ ts) stop e = stuck_at (is_sign t) t ts stop refl e

  none_reads : Reads m NoRoom (trail m.same sign m.comma starts r 0)
  none_reads = record { weaken = none_weaken; sample = []; sample_holds = (tt, at_most_none full 0); found = none_found; again = none_again; stuck = none_stuck; unique = (more_reads 0).unique }

  -- Several behind a sign are read exactly.
  pub trail_reads : (room : ℕ) → Reads m (Trail m sign L room) (trail m.same sign m.comma starts r room)
  trail_reads zero = none_reads
  trail_reads (suc room) = more_reads room

-- ---- behind a list

-- what may not stand behind a list and what trails it
abbrev pub bars_trailed : {T A : Type 0} → Alphabet T → T → Language T A → ℕ → (A × List A) × List A → T → Bool
bars_trailed m sign L room (x, []) = λ t. (Listed m L room).bars x t || m.same t sign
bars_trailed m sign L room (x, y ∷ ys) = bars_trail m.same sign m.comma L.bars (y ∷ ys)

abbrev pub Trailed : {T A : Type 0} → Alphabet T → T → Language T A → ℕ → Language T ((A × List A) × List A)
Trailed m sign L room = PairBy (bars_trailed m sign L room) (Listed m L room) (λ x. Trail m sign L (room - length x.1))

module _ {T A : Type 0} (m : Alphabet T) (sign : T) (sign_spared : m.spared sign ≡ true) (sign_no_comma : m.same sign m.comma ≡ false) (starts : T → Bool) (L : Language T A) (r : Reader T A) (ra : Reads m L r) (begins : Begins starts true L) (started : Started starts L) (blamed : (t : T) → starts t ≡ true → m.spared t ≡ false) (free : (x : A) → L.bars x m.comma ≡ false) (sign_free : (x : A) → L.bars x sign ≡ false) (room : ℕ) where
  abbrev Front : Language T (A × List A)
  Front = Listed m L room

  abbrev Behind : A × List A → Language T (List A)
  Behind x = Trail m sign L (room - length x.1)

  trailed_second : (x : A × List A) (ys : List A) (q : List T) → (Behind x).Holds formed ys → Next (bars_trailed m sign L room (x, ys)) q → Next ((Behind x).bars ys) q
  trailed_second x [] q h n = next_right (Front.bars x) (λ t. m.same t sign) q n
  trailed_second x (y ∷ ys) q h n = n

  trailed_first : (x : A × List A) (ys : List A) (q : List T) → (Behind x).Holds formed ys → Next (bars_trailed m sign L room (x, ys)) q → Next (Front.bars x) ((Behind x).spell ys ++ q)
  trailed_first x [] q h n = next_left (Front.bars x) (λ t. m.same t sign) q n
  trailed_first x (y ∷ ys) q h n = ending_free (λ t. m.same t m.comma) L.bars (L.bars x.0) x.1 sign sign_no_comma sign_free (sign_free x.0)

  trailed_joint : (x : A × List A) (ys : List A) (q : List T) → (Behind x).Holds formed ys → Next (Front.bars x) ((Behind x).spell ys ++ q) → Next ((Behind x).bars ys) q → Next (bars_trailed m sign L room (x, ys)) q
  trailed_joint x [] q h n k = next_or (Front.bars x) (λ t. m.same t sign) q n k
  trailed_joint x (y ∷ ys) q h n k = k

  joint : JointBy (bars_trailed m sign L room) Front Behind
  joint = record { second = trailed_second; first = trailed_first; joint = trailed_joint }

  -- A list with commas, and what trails it, is read exactly.
  pub trailed_reads : Reads m (Trailed m sign L room) (trailed m.same sign m.comma starts r room)
  trailed_reads =
      pair_by_reads m (bars_trailed m sign L room) Front (listed m.same m.comma starts r room) Behind (λ x. trail m.same sign m.comma starts r (room - length x.1)) (listed_reads m starts L r ra begins started blamed free room)
      (λ x. trail_reads m sign sign_spared starts L r ra begins started blamed free (room - length x.1)) joint

  -- a token that nothing there bars may stand behind it
  pub trailed_free : (t : T) → m.same t m.comma ≡ false → m.same t sign ≡ false → ((x : A) → L.bars x t ≡ false) → (x : (A × List A) × List A) → bars_trailed m sign L room x t ≡ false
  trailed_free t no_comma no_sign none ((x, xs), []) = or_false (Front.bars (x, xs) t) (m.same t sign) (ending_free (λ t. m.same t m.comma) L.bars (L.bars x) xs t no_comma none (none x)) no_sign
  trailed_free t no_comma no_sign none ((x, xs), y ∷ ys) = ending_free (λ t. m.same t m.comma) L.bars (L.bars y) ys t no_comma none (none y)
