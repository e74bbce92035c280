-- Each step keeps the turn's rule.
use Rattle.std.proofs.Common.{◌≡◌, ◌≢◌, ℕ, zero, suc, ◌+◌, ◌*◌, ◌%◌, ◌<◌, ◌≤◌, ◌⊎◌, eqb, List, [], ◌∷◌, ◌++◌, length, get_or, set, refl, sym, ap, ◌∙◌, inl, inr, ⊎_elim, arith, subst, append_assoc, append-nil, eq-eqb, ne_eqb, le-ltb, lt-ltb, ltb, cond, true, false, Option, Some, None}
use Rattle.std.specs.Prelude.{MatchBool}
use mathlib.Core.Logic.{dite}
use mathlib.Core.Option.{none, some, some-ne-none, some-injective}
use mathlib.Core.Option as maybe
use native.Mathlib.Decide.{ℕ_discrete, dec_le}
use lib.ListN.{get_elem?}
use lib.Seq.{set-get_or}
use Rattle.std.proofs.lemmas.List.{set_comm}
use prog.Atomic.{either}
use Rattle.atomic_table.specs.Table.{State, Me, step, keeps, takes, gives, stepped, opening, Allows, Splits, Joins, Final, Seen}
use Rattle.atomic_table.proofs.Lists.{set_again, set_else, at_longer}
use Rattle.lt_turn.specs.declared.view.View.{View}
use Rattle.lt_turn.specs.Journal.{Entry, IsOutside, Extends, GoesOn}
use Rattle.lt_turn.specs.Rule.{opening_view, holding, caught_up, below, above, longer, meeting, calm, spent, AreApart, Fits, Passed, Takes, tried, freed, compared}
use Rattle.lt_turn.proofs.Journals.{extends_same, extends_more, extends_part, extends_both, extends_both', extends_between, goes_same, goes_more, whole}
use Rattle.lt_turn.proofs.Views.{set_there, set_one, each_set, each_snoc, Apart, apart_set, apart_snoc}

module _ {T O : Type 0} (opn : T → O) (jrn : T → List Entry) where
  abbrev St : Type 0
  St = State (Option T) (View O)

  abbrev M : Type 0
  M = Me (Option T) (View O)

  abbrev Rule : St → Type 0
  Rule = Passed opn jrn

  -- what the rule says of the view at a place
  abbrev Place : (s : St) → Rule s → List Entry → ℕ → ℕ → ℕ → View O → Type 0
  Place s r log bit holder j v = v.first < v.end → Fits r.base r.begun r.workers log bit holder j v

  first_fits : (x : T) (workers : ℕ) → (j : ℕ) (u : View O) → get_elem? (opening_view (opn x) (jrn x) workers ∷ []) j ≡ some u → Fits (opn x) (jrn x) workers (jrn x) 0 0 j u
  first_fits x workers zero u e = subst (Fits (opn x) (jrn x) workers (jrn x) 0 0 0) (some-injective _ _ e) record {
    opening_is = refl;
    begun_is = refl;
    workers_is = refl;
    within = omega arith;
    since = ([], sym (append-nil (jrn x)));
    extends = extends_same 0 workers (jrn x);
    compares = tt;
    holds = inl refl;
  }
  first_fits x workers (suc j) u e = absurd (some-ne-none u (sym e))

  alone : (a : View O) (i j : ℕ) (v w : View O) → i ≢ j → get_elem? (a ∷ []) i ≡ some v → get_elem? (a ∷ []) j ≡ some w → AreApart v w
  alone a zero zero v w ne e f = absurd (ne refl)
  alone a zero (suc j) v w ne e f = absurd (some-ne-none w (sym f))
  alone a (suc i) j v w ne e f = absurd (some-ne-none v (sym e))

  pub opens : (x : T) (workers word : ℕ) → word ≡ 2 * length (jrn x) → Rule (opening (word ∷ []) (Some x ∷ []) (opening_view (opn x) (jrn x) workers))
  opens x workers word is = record {
    base = opn x;
    begun = jrn x;
    workers = workers;
    log = jrn x;
    bit = 0;
    holder = 0;
    words = ap (λ (n : ℕ). n ∷ []) (omega arith);
    flag = omega arith;
    free = λ _. (x, refl, refl, refl);
    held = λ e. absurd (omega arith);
    goes_on = goes_same workers (jrn x);
    seats = λ j v e _. first_fits x workers j v e;
    apart = λ i j v w ne e f _ _. alone (opening_view (opn x) (jrn x) workers) i j v w ne e f;
  }

  word_is : (s : St) (r : Rule s) → get_or s.words 0 0 ≡ 2 * length r.log + r.bit
  word_is s r = ap (λ (l : List ℕ). get_or l 0 0) r.words

  -- the seat takes the turn, which is free
  taken_by : (s : St) (r : Rule s) (id : ℕ) (v : View O) (x : T) (homes : List (maybe.Option (Option T))) (word : ℕ) → get_elem? s.views id ≡ some v → r.bit ≡ 0 → v.first < v.end → jrn x ≡ r.log → word ≡ get_or s.words 0 0 + 1
      → Rule record { words = set s.words 0 word; homes = homes; views = set s.views id (holding v (jrn x)) }
  taken_by s r id v x homes word at free some_number is up =
      let w : View O = holding v (jrn x) in
      let mine = r.seats id v at some_number in
      let now = word_is s r in record {
        base = r.base;
        begun = r.begun;
        workers = r.workers;
        log = r.log;
        bit = 1;
        holder = id;
        words = ap (λ (l : List ℕ). set l 0 word) r.words ∙ ap (λ (n : ℕ). n ∷ []) (omega arith);
        flag = omega arith;
        free = λ e. absurd (omega arith);
        held = λ _. (w, set_there s.views id w v at, some_number, ap Some is);
        goes_on = r.goes_on;
        seats = each_set (Place s r r.log 1 id) s.views id w
            (λ _. record { opening_is = mine.opening_is; begun_is = mine.begun_is; workers_is = mine.workers_is; within = mine.within; since = mine.since; extends = mine.extends; compares = mine.compares; holds = inr (refl, refl, ap Some is) })
            (λ j u other e p. let f = r.seats j u e p in
            record { opening_is = f.opening_is; begun_is = f.begun_is; workers_is = f.workers_is; within = f.within; since = f.since; extends = f.extends; compares = f.compares; holds = ⊎_elim (λ (n : u.taken ≡ None). inl n) (λ (t : (r.bit ≡ 1) × (r.holder ≡ j) × (u.taken ≡ Some r.log)). let b : r.bit ≡ 1 = t.0 in absurd (omega arith)) f.holds });
        apart = apart_set s.views id w r.apart (λ j u other e p q. r.apart id j v u (λ same. other (sym same)) at e some_number q);
      }

  -- what a seat knows of where the journal began
  goes_from : (workers few : ℕ) (begun old log now : List Entry) → few ≡ workers → old ≡ begun → now ≡ log → GoesOn workers begun log → GoesOn few old now
  goes_from workers few begun old log now w b n x = subst (λ (t : ℕ × List Entry × List Entry). GoesOn t.0 t.1 t.2) (λ k. (sym w k, sym b k, sym n k)) x

  told_hit : (slots : ℕ) (me w : M) (n old new : ℕ) (x : T) → n ≡ old → Takes opn jrn x me w → tried opn jrn (step slots 0 old new none) me n w
  told_hit slots me w n old new x hit t = subst (λ b. MatchBool b ((y : T) × Takes opn jrn y me w) (w ≡ me)) (sym (eq-eqb n old hit)) (x, t)

  told_miss : (slots : ℕ) (me : M) (n old new : ℕ) → n ≢ old → tried opn jrn (step slots 0 old new none) me n me
  told_miss slots me n old new miss = subst (λ b. MatchBool b ((y : T) × Takes opn jrn y me me) (me ≡ me)) (sym (ne_eqb n old miss)) refl

  -- who found the word that it expected has the value
  pub took : (slots : ℕ) (me w : M) (n old new : ℕ) → n ≡ old → tried opn jrn (step slots 0 old new none) me n w → (x : T) × Takes opn jrn x me w
  took slots me w n old new hit t = subst (λ b. MatchBool b ((y : T) × Takes opn jrn y me w) (w ≡ me)) (eq-eqb n old hit) t

  pub tries : (slots id : ℕ) (me : M) (old new : ℕ) → old % 2 ≡ 0 → new ≡ old + 1 → me.0.first < me.0.end
      → Allows Rule slots id me 0 (λ n. either (eqb n old) new n) (tried opn jrn (step slots 0 old new none) me)
  tries slots id me old new even up some_number s r wide at small =
      let n : ℕ = get_or s.words 0 0 in
      let now = word_is s r in
      let flag = r.flag in
      let mine = r.seats id me.0 at some_number in
      dite (ℕ_discrete n old)
      (λ hit.
      let free : r.bit ≡ 0 = omega arith in
      let f = r.free free in
      let x : T = f.0 in
      let next : new ≡ n + 1 = omega arith in (
        holding me.0 (jrn x),
        takes 0 (Some x),
        ap (λ (l : List (maybe.Option (Option T))). get_elem? l 0) f.1,
        subst (λ b. Rule (stepped s 0 (either b new n) id me.1 (holding me.0 (jrn x)) (takes 0 (Some x)))) (sym (eq-eqb n old hit)) (taken_by s r id me.0 x _ new at free some_number f.3 next),
        told_hit slots me (holding me.0 (jrn x), (0, Some x) ∷ me.1) n old new x hit (mine.opening_is ∙ ap Some (sym f.2), subst (Extends me.0.first me.0.end me.0.seen) (sym f.3) mine.extends, goes_from r.workers me.0.workers r.begun me.0.begun r.log (jrn x) mine.workers_is mine.begun_is f.3 r.goes_on, refl),
      ))
      (λ miss. (
        me.0,
        keeps,
        tt,
        subst (λ b. Rule (stepped s 0 (either b new n) id me.1 me.0 keeps)) (sym (ne_eqb n old miss)) (same s r id me at),
        told_miss slots me n old new miss,
      ))
    where
      same : (s : St) (r : Rule s) (id : ℕ) (me : M) → get_elem? s.views id ≡ some me.0 → Rule (stepped s 0 (get_or s.words 0 0) id me.1 me.0 keeps)
      same s r id me at = subst Rule (λ k. record { words = sym (set-get_or s.words 0 0) k; homes = s.homes; views = sym (set_again s.views id me.0 at) k }) r

  -- the journal that comes back: the one that was taken, or that with one entry more, of this worker
  grown : (v : View O) (log now : List Entry) → ((now ≡ log) ⊎ ((code : ℕ) × (now ≡ log ++ (v.first, code) ∷ []))) → (first end : ℕ) (seen : List Entry) → ((code : ℕ) → IsOutside first end (v.first, code))
      → Extends first end seen log → Extends first end seen now
  grown v log now how first end seen out x = ⊎_elim
      (λ (e : now ≡ log). subst (Extends first end seen) (sym e) x)
      (λ (t : (code : ℕ) × (now ≡ log ++ (v.first, code) ∷ [])). subst (Extends first end seen) (sym t.1) (extends_more first end seen log (v.first, t.0) (out t.0) x)) how

  goes_grown : (v : View O) (log now : List Entry) (workers : ℕ) (begun : List Entry) → v.first < workers → ((now ≡ log) ⊎ ((code : ℕ) × (now ≡ log ++ (v.first, code) ∷ []))) → GoesOn workers begun log → GoesOn workers begun now
  goes_grown v log now workers begun small how x = ⊎_elim
      (λ (e : now ≡ log). subst (GoesOn workers begun) (sym e) x)
      (λ (t : (code : ℕ) × (now ≡ log ++ (v.first, code) ∷ [])). subst (GoesOn workers begun) (sym t.1) (goes_more workers begun log (v.first, t.0) small x)) how

  since_grown : (log now begun seen : List Entry) (first end : ℕ) → Extends first end seen now → (rest : List Entry) × (seen ≡ begun ++ rest) → (rest : List Entry) × (now ≡ begun ++ rest)
  since_grown log now begun seen first end x t = (t.0 ++ x.0, x.1 ∙ (ap (λ (l : List Entry). l ++ x.0) t.1 ∙ append_assoc begun t.0 x.0))

  -- the value y comes back
  given_back : (s : St) (r : Rule s) (id : ℕ) (v : View O) (y : T) (word : ℕ) → length s.homes ≡ 1 → get_elem? s.views id ≡ some v → v.first < v.end → r.bit ≡ 1 → r.holder ≡ id
      → v.opening ≡ Some (opn y) → ((jrn y ≡ r.log) ⊎ ((code : ℕ) × (jrn y ≡ r.log ++ (v.first, code) ∷ []))) → word ≡ 2 * length (jrn y)
      → Rule record { words = set s.words 0 word; homes = set s.homes 0 (some (Some y)); views = set s.views id (caught_up v (jrn y)) }
  given_back s r id v y word one at some_number held holds same how is =
      let w : View O = caught_up v (jrn y) in
      let mine = r.seats id v at some_number in
      let inside : v.first < r.workers = let a = mine.within in omega arith in
      let seen = grown v r.log (jrn y) how in record {
        base = r.base;
        begun = r.begun;
        workers = r.workers;
        log = jrn y;
        bit = 0;
        holder = 0;
        words = ap (λ (l : List ℕ). set l 0 word) r.words ∙ ap (λ (n : ℕ). n ∷ []) (omega arith);
        flag = omega arith;
        free = λ _. (y, set_one s.homes (some (Some y)) one, (let e : Some (opn y) ≡ Some r.base = sym same ∙ mine.opening_is in cc), refl);
        held = λ e. absurd (omega arith);
        goes_on = goes_grown v r.log (jrn y) r.workers r.begun inside how r.goes_on;
        seats = each_set (Place s r (jrn y) 0 0) s.views id w
            (λ _. record {
              opening_is = mine.opening_is;
              begun_is = mine.begun_is;
              workers_is = mine.workers_is;
              within = mine.within;
              since = since_more v r.log (jrn y) r.begun how (since_grown r.log r.log r.begun v.seen v.first v.end mine.extends mine.since);
              extends = extends_same v.first v.end (jrn y);
              compares = tt;
              holds = inl refl;
            })
            (λ j u other e p. let f = r.seats j u e p in record {
              opening_is = f.opening_is;
              begun_is = f.begun_is;
              workers_is = f.workers_is;
              within = f.within;
              since = f.since;
              extends = seen u.first u.end u.seen (λ code. ⊎_elim (λ (low : u.end ≤ v.first). inr low) (λ (high : v.end ≤ u.first). inl (omega arith)) (r.apart j id u v other e at p some_number)) f.extends;
              compares = f.compares;
              holds = ⊎_elim (λ (n : u.taken ≡ None). inl n) (λ (t : (r.bit ≡ 1) × (r.holder ≡ j) × (u.taken ≡ Some r.log)). absurd (other (sym t.1 ∙ holds))) f.holds;
            });
        apart = apart_set s.views id w r.apart (λ j u other e p q. r.apart id j v u (λ z. other (sym z)) at e some_number q);
      }
    where
      since_more : (v : View O) (log now begun : List Entry) → ((now ≡ log) ⊎ ((code : ℕ) × (now ≡ log ++ (v.first, code) ∷ []))) → (rest : List Entry) × (log ≡ begun ++ rest) → (rest : List Entry) × (now ≡ begun ++ rest)
      since_more v log now begun how t = ⊎_elim
          (λ (e : now ≡ log). (t.0, e ∙ t.1))
          (λ (u : (code : ℕ) × (now ≡ log ++ (v.first, code) ∷ [])). (t.0 ++ (v.first, u.0) ∷ [], u.1 ∙ (ap (λ (l : List Entry). l ++ (v.first, u.0) ∷ []) t.1 ∙ append_assoc begun t.0 ((v.first, u.0) ∷ []))))
          how

  abbrev in_hand : List (ℕ × Option T) → Option T
  in_hand [] = None
  in_hand (x ∷ xs) = x.1

  told_free : (slots : ℕ) (v : View O) (y : T) (word : ℕ) → freed jrn (step slots 0 word 0 none) (v, (0, Some y) ∷ []) word (caught_up v (jrn y), [])
  told_free slots v y word z e = let h : Some y ≡ Some z = ap in_hand e in let same : y ≡ z = cc in ap (λ (x : T). (caught_up v (jrn x), [])) same

  pub frees : (slots id : ℕ) (me : M) (v : View O) (y : T) (log : List Entry) (word : ℕ) → slots ≡ 1 → me ≡ (v, (0, Some y) ∷ []) → v.first < v.end → v.taken ≡ Some log → v.opening ≡ Some (opn y)
      → ((jrn y ≡ log) ⊎ ((code : ℕ) × (jrn y ≡ log ++ (v.first, code) ∷ []))) → word ≡ 2 * length (jrn y)
      → Allows Rule slots id me 0 (λ _. word) (λ _. freed jrn (step slots 0 word 0 none) me word)
  frees slots id me v y log word one this some_number took same how is = subst (λ (m : M). Allows Rule slots id m 0 (λ _. word) (λ _. freed jrn (step slots 0 word 0 none) m word)) (sym this) (λ s r wide at small. ⊎_elim
      (λ (none : v.taken ≡ None). absurd (cc))
      (λ (t : (r.bit ≡ 1) × (r.holder ≡ id) × (v.taken ≡ Some r.log)).
      let it : log ≡ r.log = let e : Some log ≡ Some r.log = sym took ∙ t.2 in cc in
      (caught_up v (jrn y), gives, tt, given_back s r id v y word (wide ∙ one) at some_number t.0 t.1 same (subst (λ (l : List Entry). (jrn y ≡ l) ⊎ ((code : ℕ) × (jrn y ≡ l ++ (v.first, code) ∷ []))) it how) is, told_free slots v y word))
      (r.seats id v at some_number).holds)

  pub splits : (id : ℕ) (v : View O) (at : ℕ) → v.first < at → at < v.end → v.taken ≡ None → Splits Rule id v (below at v) (above at v)
  splits id v at low high idle s r here =
      let some_number : v.first < v.end = omega arith in
      let mine = r.seats id v here some_number in
      let w : View O = below at v in
      let u : View O = above at v in
      let within = mine.within in
      let vs : List (View O) = set s.views id w in record {
        base = r.base;
        begun = r.begun;
        workers = r.workers;
        log = r.log;
        bit = r.bit;
        holder = r.holder;
        words = r.words;
        flag = r.flag;
        free = r.free;
        held = λ e. let h = r.held e in (h.0, at_longer vs (u ∷ []) r.holder h.0 (set_else s.views id r.holder w (λ same. absurd (not_idle h.0 r.log v idle h.3 (some-injective _ _ (sym h.1 ∙ (ap (get_elem? s.views) same ∙ here))))) ∙ h.1), h.2, h.3);
        goes_on = r.goes_on;
        seats = each_snoc (Place s r r.log r.bit r.holder) vs u
            (λ _. record { opening_is = mine.opening_is; begun_is = mine.begun_is; workers_is = mine.workers_is; within = mine.within; since = mine.since; extends = extends_part v.first v.end at v.end v.seen r.log (omega arith) (omega arith) mine.extends; compares = tt; holds = inl refl })
            (each_set (Place s r r.log r.bit r.holder) s.views id w
            (λ _. record { opening_is = mine.opening_is; begun_is = mine.begun_is; workers_is = mine.workers_is; within = omega arith; since = mine.since; extends = extends_part v.first v.end v.first at v.seen r.log (omega arith) (omega arith) mine.extends; compares = tt; holds = inl idle })
            (λ j x other e p. r.seats j x e p));
        apart = apart_snoc vs u
            (apart_set s.views id w r.apart (λ j x other e p q. ⊎_elim (λ (a : v.end ≤ x.first). inl (omega arith)) (λ (a : x.end ≤ v.first). inr a) (r.apart id j v x (λ z. other (sym z)) here e some_number q)))
            (λ j x e p q. each_set (λ (j' : ℕ) (x' : View O). x'.first < x'.end → AreApart u x') s.views id w
            (λ _. inr (omega arith))
            (λ j' x' other e' q'. ⊎_elim (λ (a : v.end ≤ x'.first). inl a) (λ (a : x'.end ≤ v.first). inr (omega arith)) (r.apart id j' v x' (λ z. other (sym z)) here e' some_number q'))
            j x e q);
      }
    where
      not_idle : (h : View O) (log : List Entry) (v : View O) → v.taken ≡ None → h.taken ≡ Some log → h ≡ v → ⊥
      not_idle h log v idle took same = let t : h.taken ≡ v.taken = ap (λ (x : View O). x.taken) same in cc

  pub joins : (id : ℕ) (v : View O) (other : ℕ) (w : View O) → v.first < v.end → w.first < w.end → v.end ≡ w.first → v.taken ≡ None → w.taken ≡ None → Joins Rule id v other w (meeting v w) spent
  joins id v other w some_number some_other next idle still s r here ne there =
      let both : View O = meeting v w in
      let was : get_elem? s.views other ≡ some w = sym (set_else s.views id other both ne) ∙ there in
      let mine = r.seats id v here some_number in
      let theirs = r.seats other w was some_other in
      let vs : List (View O) = set s.views id both in record {
        base = r.base;
        begun = r.begun;
        workers = r.workers;
        log = r.log;
        bit = r.bit;
        holder = r.holder;
        words = r.words;
        flag = r.flag;
        free = r.free;
        held = λ e. let h = r.held e in
            let not_me : r.holder ≢ id = λ same. not_idle h.0 r.log v idle h.3 (some-injective _ _ (sym h.1 ∙ (ap (get_elem? s.views) same ∙ here))) in
            let not_it : r.holder ≢ other = λ same. not_idle h.0 r.log w still h.3 (some-injective _ _ (sym h.1 ∙ (ap (get_elem? s.views) same ∙ was))) in
            (h.0, set_else vs other r.holder spent not_it ∙ (set_else s.views id r.holder both not_me ∙ h.1), h.2, h.3);
        goes_on = r.goes_on;
        seats = each_set (Place s r r.log r.bit r.holder) vs other spent
            (λ p. absurd (omega arith))
            (λ j x o e p. each_set (Place s r r.log r.bit r.holder) s.views id both
            (λ _. record {
              opening_is = mine.opening_is;
              begun_is = mine.begun_is;
              workers_is = mine.workers_is;
              within = theirs.within;
              since = since_longer r.begun v.seen w.seen mine.since theirs.since;
              extends = extends_longer v.first v.end w.end v.seen w.seen r.log mine.extends (subst (λ (n : ℕ). Extends n w.end w.seen r.log) (sym next) theirs.extends);
              compares = parts_longer v.first v.end w.end v.seen w.seen r.log mine.extends (subst (λ (n : ℕ). Extends n w.end w.seen r.log) (sym next) theirs.extends);
              holds = inl refl;
            })
            (λ j' x' o' e' p'. r.seats j' x' e' p')
            j x e p);
        apart = apart_all s r id v other w here was some_number some_other next ne;
      }
    where
      not_idle : (h : View O) (log : List Entry) (v : View O) → v.taken ≡ None → h.taken ≡ Some log → h ≡ v → ⊥
      not_idle h log v idle took same = let t : h.taken ≡ v.taken = ap (λ (x : View O). x.taken) same in cc

      since_longer : (begun xs ys : List Entry) → (rest : List Entry) × (xs ≡ begun ++ rest) → (rest : List Entry) × (ys ≡ begun ++ rest) → (rest : List Entry) × (longer xs ys ≡ begun ++ rest)
      since_longer begun xs ys p q = elim (ltb (length xs) (length ys)) as (λ b. (rest : List Entry) × (cond b ys xs ≡ begun ++ rest)) [ true ↦ q | false ↦ p ]

      parts_longer : (first at end : ℕ) (xs ys log : List Entry) → Extends first at xs log → Extends at end ys log → Extends first at xs (longer xs ys) × Extends at end ys (longer xs ys)
      parts_longer first at end xs ys log p q = dite (dec_le (length ys) (length xs))
          (λ le. subst (λ b. Extends first at xs (cond b ys xs) × Extends at end ys (cond b ys xs)) (sym (le-ltb (length xs) (length ys) le)) (extends_same first at xs, extends_between at end ys xs log p.0 le p.1 q))
          (λ not. let lt : length xs < length ys = omega arith in subst (λ b. Extends first at xs (cond b ys xs) × Extends at end ys (cond b ys xs)) (sym (lt-ltb (length xs) (length ys) lt)) (extends_between first at xs ys log q.0 (omega arith) q.1 p, extends_same at end ys))

      extends_longer : (first at end : ℕ) (xs ys log : List Entry) → Extends first at xs log → Extends at end ys log → Extends first end (longer xs ys) log
      extends_longer first at end xs ys log p q = dite (dec_le (length ys) (length xs))
          (λ le. subst (λ b. Extends first end (cond b ys xs) log) (sym (le-ltb (length xs) (length ys) le)) (extends_both' first at end xs ys log le p q))
          (λ not. let lt : length xs < length ys = omega arith in subst (λ b. Extends first end (cond b ys xs) log) (sym (lt-ltb (length xs) (length ys) lt)) (extends_both first at end xs ys log (omega arith) p q))

      apart_both : (v w u : View O) → v.end ≡ w.first → u.first < u.end → AreApart v u → AreApart w u → AreApart (meeting v w) u
      apart_both v w u next more a b = ⊎_elim
          (λ (behind : v.end ≤ u.first). ⊎_elim (λ (h : w.end ≤ u.first). inl h) (λ (h : u.end ≤ w.first). absurd (omega arith)) b)
          (λ (before : u.end ≤ v.first). inr before)
          a

      apart_all : (s : St) (r : Rule s) (id : ℕ) (v : View O) (other : ℕ) (w : View O) → get_elem? s.views id ≡ some v → get_elem? s.views other ≡ some w → v.first < v.end → w.first < w.end → v.end ≡ w.first → ¬ (other ≡ id)
          → Apart (set (set s.views id (meeting v w)) other spent)
      apart_all s r id v other w here was pv pw next ne =
          let both : View O = meeting v w in
          let without : Apart (set s.views other spent) = apart_set s.views other spent r.apart (λ j u o e p q. absurd (omega arith)) in
          subst Apart (sym (set_comm s.views id other both spent (λ z. ne (sym z))))
          (apart_set (set s.views other spent) id both without (λ j u o e p q.
          each_set (λ (j' : ℕ) (u' : View O). j' ≢ id → u'.first < u'.end → AreApart both u') s.views other spent
          (λ _ none. absurd (omega arith))
          (λ j' u' o' e' n' q'. apart_both v w u' next q' (r.apart id j' v u' (λ z. n' (sym z)) here e' pv q') (r.apart other j' w u' (λ z. o' (sym z)) was e' pw q'))
          j u e o q))

  pub compares : (slots id : ℕ) (me : M) → me.0.first < me.0.end → Allows Rule slots id me 0 (λ n. n) (compared (step slots 0 0 0 none) me)
  compares slots id me some_number s r wide at small =
      let v : View O = me.0 in
      let w : View O = calm v in
      let mine = r.seats id v at some_number in (
        w,
        keeps,
        tt,
        subst (λ (ws : List ℕ). Rule record { words = ws; homes = s.homes; views = set s.views id w }) (sym (set-get_or s.words 0 0)) record {
          base = r.base;
          begun = r.begun;
          workers = r.workers;
          log = r.log;
          bit = r.bit;
          holder = r.holder;
          words = r.words;
          flag = r.flag;
          free = r.free;
          held = λ e. let h = r.held e in dite (ℕ_discrete r.holder id)
              (λ same. let it : h.0 ≡ v = some-injective _ _ (sym h.1 ∙ (ap (get_elem? s.views) same ∙ at)) in
              (w, ap (get_elem? (set s.views id w)) same ∙ set_there s.views id w v at, some_number, sym (ap (λ (x : View O). x.taken) it) ∙ h.3))
              (λ other. (h.0, set_else s.views id r.holder w other ∙ h.1, h.2, h.3));
          goes_on = r.goes_on;
          seats = each_set (Place s r r.log r.bit r.holder) s.views id w
              (λ _. record { opening_is = mine.opening_is; begun_is = mine.begun_is; workers_is = mine.workers_is; within = mine.within; since = mine.since; extends = mine.extends; compares = tt; holds = mine.holds })
              (λ j u other e p. r.seats j u e p);
          apart = apart_set s.views id w r.apart (λ j u other e p q. r.apart id j v u (λ z. other (sym z)) at e some_number q);
        },
        (refl, mine.compares),
      )

  -- the one seat that has every number finds the turn free, and has seen the whole journal
  pub closes : (s : St) (r : Rule s) (id : ℕ) (v : View O) → get_elem? s.views id ≡ some v → v.first < v.end → v.first ≡ 0 → v.end ≡ v.workers → v.taken ≡ None
      → (x : T) × (s.homes ≡ some (Some x) ∷ []) × (v.opening ≡ Some (opn x)) × (jrn x ≡ v.seen) × GoesOn v.workers v.begun v.seen
  closes s r id v at some_number first end idle =
      let mine = r.seats id v at some_number in
      let flag = r.flag in
      let free : r.bit ≡ 0 = dite (ℕ_discrete r.bit 0) (λ z. z) (λ not. absurd (no_holder (omega arith))) in
      let f = r.free free in
      let all : Extends 0 r.workers v.seen r.log = subst (λ (n : ℕ × ℕ). Extends n.0 n.1 v.seen r.log) (λ k. (first k, (end ∙ mine.workers_is) k)) mine.extends in
      let is = whole r.workers r.begun v.seen r.log mine.since all r.goes_on in
      (f.0, f.1, mine.opening_is ∙ ap Some (sym f.2), f.3 ∙ is, goes_from r.workers v.workers r.begun v.begun r.log v.seen mine.workers_is mine.begun_is (sym is) r.goes_on)
    where
      no_holder : r.bit ≡ 1 → ⊥
      no_holder e =
          let h = r.held e in
          let fits = r.seats r.holder h.0 h.1 h.2 in
          let mine = r.seats id v at some_number in
          let inside = fits.within in
          let every : v.end ≡ r.workers = end ∙ mine.workers_is in
          let more : h.0.first < h.0.end = h.2 in
          dite (ℕ_discrete r.holder id)
          (λ same. let it : h.0 ≡ v = some-injective _ _ (sym h.1 ∙ (ap (get_elem? s.views) same ∙ at)) in let t : h.0.taken ≡ v.taken = ap (λ (x : View O). x.taken) it in let took = h.3 in cc)
          (λ other. ⊎_elim (λ (a : h.0.end ≤ v.first). absurd (omega arith)) (λ (a : v.end ≤ h.0.first). absurd (omega arith)) (r.apart r.holder id h.0 v other h.1 at h.2 some_number))

  pub closes_with : (id : ℕ) (v : View O) (ws : List ℕ) (xs : List (Option T)) (value : Option T) → Final (Seen Rule id v) ws xs → get_elem? xs 0 ≡ some value → v.first < v.end → v.first ≡ 0 → v.end ≡ v.workers → v.taken ≡ None
      → (x : T) × (value ≡ Some x) × (v.opening ≡ Some (opn x)) × (jrn x ≡ v.seen) × GoesOn v.workers v.begun v.seen
  closes_with id v ws xs value f is some_number first end idle =
      let z = closes f.0 f.1.0 id v f.1.1 some_number first end idle in
      let home : get_elem? xs 0 ≡ some (Some z.0) = f.4 0 (Some z.0) (ap (λ (l : List (maybe.Option (Option T))). get_elem? l 0) z.1) in
      (z.0, some-injective _ _ (sym is ∙ home), z.2, z.3, z.4)
