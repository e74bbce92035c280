-- One token: this very one, one of a table, or any that a test turns into a value, with a second test for its range.
use Rattle.std.proofs.Common.{◌≡◌, Bool, true, false, cond, List, [], ◌∷◌, ◌++◌, Option, Some, None, Ok, Err, refl, sym, ap, subst, ◌∙◌}
use Rattle.std.specs.List.{AllByRecursion}
use Rattle.lt_reading.specs.Reading.{not_allowed, too_large, Stop, ranged, chosen, one, always, this, in_table, token}
use Rattle.lt_reading.specs.Language.{formed, few, fine, full, Language, Next, none, Alphabet}
use Rattle.lt_reading.proofs.Exact.{Why, Stuck, Found, Reads, Weaken, to_formed, done_is, failed_is, stop_rest, next_none, stuck_here, at_end}

pub record OneToken {T A : Type 0} (m : Alphabet T) (of : T → Option A) (within : A → Bool) (L : Language T A) : Type 0 where
  pub shape : A → T
  pub spelled : (x : A) → L.spell x ≡ shape x ∷ []
  pub bars : (x : A) → L.bars x ≡ none
  pub weaken : Weaken L
  pub means : (t : T) (x : A) → of t ≡ Some x → (t ≡ shape x) × L.Holds few x
  pub holds : (x : A) → L.Holds formed x → of (shape x) ≡ Some x
  pub fits : (x : A) → L.Holds few x → within x ≡ true → L.Holds full x
  pub fine_fits : (x : A) → L.Holds fine x → within x ≡ true
  pub numbers : (x : A) → within x ≡ false → m.IsNumber (shape x)
  pub sample : A
  pub sample_holds : L.Holds full sample

module _ {T A : Type 0} (m : Alphabet T) (of : T → Option A) (within : A → Bool) (L : Language T A) (k : OneToken m of within L) where
  spell_is : (x : A) (r : List T) → L.spell x ++ r ≡ k.shape x ∷ r
  spell_is x r = ap (λ (s : List T). s ++ r) (k.spelled x)

  free : (x : A) (rest : List T) → Next (L.bars x) rest
  free x rest = subst (λ (b : T → Bool). Next b rest) (sym (k.bars x)) (next_none rest)

  in_range : (b : Bool) (y : A) (t : T) (ts : List T) (x : A) (rest : List T) → within y ≡ b → ranged b y t ts ≡ Ok (x, rest) → (y ≡ x) × (ts ≡ rest) × (within y ≡ true)
  in_range true y t ts x rest w e = let q = done_is T (y, ts) (x, rest) e in (ap (λ p. p.0) q, ap (λ p. p.1) q, w)
  in_range false y t ts x rest w e = absurd cc

  found_one : (o : Option A) (t : T) (ts : List T) (x : A) (rest : List T) → of t ≡ o → chosen within o t ts ≡ Ok (x, rest) → Found L (t ∷ ts) x rest
  found_one (Some y) t ts x rest eo e =
      let q = in_range (within y) y t ts x rest refl e in
      let w = k.means t y eo in
      let made : Found L (t ∷ ts) y ts = (ap (λ (s : T). s ∷ ts) w.0 ∙ sym (spell_is y ts), k.fits y w.1 q.2, free y ts) in
      let P : A → List T → Type 0 = λ z r. Found L (t ∷ ts) z r in
      subst (λ (z : A). P z rest) q.0 (subst (λ (r : List T). P y r) q.1 made)
  found_one None t ts x rest eo e = absurd (cc)

  found_ : (ts : List T) (x : A) (rest : List T) → one of within ts ≡ Ok (x, rest) → Found L ts x rest
  found_ [] x rest e = absurd cc
  found_ (t ∷ ts) x rest e = found_one (of t) t ts x rest refl e

  again_ : (x : A) (rest : List T) → L.Holds full x → Next (L.bars x) rest → one of within (L.spell x ++ rest) ≡ Ok (x, rest)
  again_ x rest h n = ap (one of within) (spell_is x rest) ∙ rw (k.holds x (to_formed L k.weaken full x h), k.fine_fits x (k.weaken full x h)) refl

  unique_ : (x y : A) (r q : List T) → L.Holds formed x → L.Holds formed y → Next (L.bars x) r → Next (L.bars y) q → L.spell x ++ r ≡ L.spell y ++ q → (x ≡ y) × (r ≡ q)
  unique_ x y r q hx hy nx ny e =
      let c : k.shape x ∷ r ≡ k.shape y ∷ q = sym (spell_is x r) ∙ e ∙ spell_is y q in
      let same : k.shape x ≡ k.shape y = cc in
      let rest : r ≡ q = cc in
      let both : Some x ≡ Some y = sym (k.holds x hx) ∙ ap of same ∙ k.holds y hy in
      (cc, rest)

  out_of_range : (b : Bool) (y : A) (t0 : T) (ts : List T) (stop : Stop T) → within y ≡ b → ranged b y t0 ts ≡ Err stop → (record { rest = t0 ∷ ts; cause = too_large } ≡ stop) × (within y ≡ false)
  out_of_range true y t0 ts stop w e = absurd cc
  out_of_range false y t0 ts stop w e = (failed_is (A × List T) _ stop e, w)

  -- a number out of range
  large : (y : A) (t0 : T) (ts : List T) → of t0 ≡ Some y → within y ≡ false → (t : T) (after : List T) → t0 ∷ ts ≡ t ∷ after → Why m L [] t too_large
  large y t0 ts eo out t after is =
      let w = k.means t0 y eo in
      let t-is : t0 ≡ t = cc in (
        record { value = y; more = []; holds = w.1; begins = k.spelled y ∙ ap (λ (s : T). s ∷ []) (sym w.0 ∙ t-is) },
        subst m.IsNumber (sym w.0 ∙ t-is) (k.numbers y out),
        λ x later tail h n e2.
            let heads : t ∷ later ≡ k.shape x ∷ tail = e2 ∙ spell_is x tail in
            let x-is : t ≡ k.shape x = cc in
            let same : Some y ≡ Some x = sym eo ∙ ap of (t-is ∙ x-is) ∙ k.holds x (to_formed L k.weaken fine x h) in
            let yx : y ≡ x = cc in
            let yes : within x ≡ true = k.fine_fits x h in
            let no : within x ≡ false = ap within (sym yx) ∙ out in
            cc,
      )

  -- no such token
  strange : (t0 : T) (ts : List T) → of t0 ≡ None → (t : T) (after : List T) → t0 ∷ ts ≡ t ∷ after → Why m L [] t not_allowed
  strange t0 ts eo t after is x later tail h n e2 =
      let heads : t ∷ later ≡ k.shape x ∷ tail = e2 ∙ spell_is x tail in
      let t-is : t0 ≡ k.shape x = cc in
      let clash : None ≡ Some x = sym eo ∙ ap of t-is ∙ k.holds x h in
      cc

  at_token : (o : Option A) (t0 : T) (ts : List T) (stop : Stop T) → of t0 ≡ o → chosen within o t0 ts ≡ Err stop → Stuck m L (t0 ∷ ts) stop
  at_token (Some y) t0 ts stop eo e =
      let q = out_of_range (within y) y t0 ts stop refl e in
      let S : Stop T → Type 0 = λ s. Stuck m L (t0 ∷ ts) s in
      subst S q.0 (stuck_here m L k.weaken k.sample k.sample_holds (record { rest = t0 ∷ ts; cause = too_large }) (large y t0 ts eo q.1))
  at_token None t0 ts stop eo e =
      let q = failed_is (A × List T) (record { rest = t0 ∷ ts; cause = not_allowed }) stop e in
      let S : Stop T → Type 0 = λ s. Stuck m L (t0 ∷ ts) s in
      subst S q (stuck_here m L k.weaken k.sample k.sample_holds (record { rest = t0 ∷ ts; cause = not_allowed }) (strange t0 ts eo))

  stuck_ : (ts : List T) (stop : Stop T) → one of within ts ≡ Err stop → Stuck m L ts stop
  stuck_ [] stop e = at_end m L k.weaken k.sample k.sample_holds stop (stop_rest (A × List T) (record { rest = []; cause = not_allowed }) stop e)
  stuck_ (t0 ∷ ts) stop e = at_token (of t0) t0 ts stop refl e

  -- A reader of one token is exact.
  pub one_reads : Reads m L (one of within)
  one_reads = record { weaken = k.weaken; sample = k.sample; sample_holds = k.sample_holds; found = found_; again = again_; stuck = stuck_; unique = unique_ }

-- ---- tokens with no range: a value is spelled by `shape`, and is one where `Form` holds

abbrev pub Plain : {T A : Type 0} → (A → T) → (A → Type 0) → Language T A
Plain shape Form = record { spell = λ x. shape x ∷ []; Holds = λ level x. Form x; bars = λ x. none }

pub plain_reads : {T A : Type 0} (m : Alphabet T) (shape : A → T) (Form : A → Type 0) (of : T → Option A)
    → ((t : T) (x : A) → of t ≡ Some x → (t ≡ shape x) × Form x) → ((x : A) → Form x → of (shape x) ≡ Some x) → (x0 : A) → Form x0 → Reads m (Plain shape Form) (one of always)
plain_reads {T} {A} m shape Form of means holds x0 h0 = one_reads m of always (Plain shape Form) (record {
  shape = shape;
  spelled = λ x. refl;
  bars = λ x. refl;
  weaken = λ level x h. h;
  means = means;
  holds = holds;
  fits = λ x h w. h;
  fine_fits = λ x h. refl;
  numbers = λ x h. absurd cc;
  sample = x0;
  sample_holds = h0;
})

-- ---- this very token

abbrev pub The : {T : Type 0} → T → Language T (Unit {0})
The s = Plain (λ x. s) (λ x. Unit {0})

if_some : {A : Type 0} (b : Bool) (x y : A) → cond b (Some x) None ≡ Some y → (b ≡ true) × (x ≡ y)
if_some true x y e = (refl, cc)
if_some false x y e = absurd cc

pub token_reads : {T : Type 0} (m : Alphabet T) (s : T) → Reads m (The s) (token m.same s)
token_reads {T} m s = plain_reads m (λ x. s) (λ x. Unit {0}) (this m.same s) (λ t x e. (m.same_is t s (if_some (m.same t s) tt x e).0, tt)) (λ x h. rw (m.is_same s) refl) tt tt

-- ---- one of a table

pub table_means : {T A : Type 0} (m : Alphabet T) (shape : A → T) (Form : A → Type 0) (table : List (T × A)) → AllByRecursion (λ e. (e.0 ≡ shape e.1) × Form e.1) table → (t : T) (x : A) → in_table m.same table t ≡ Some x → (t ≡ shape x) × Form x
table_means {T} {A} m shape Form [] each t x e = absurd cc
table_means {T} {A} m shape Form (entry ∷ table) each t x e = go (m.same t entry.0) (table_means m shape Form table each.1 t x) refl e
  where
    go : (b : Bool) → (in_table m.same table t ≡ Some x → (t ≡ shape x) × Form x) → m.same t entry.0 ≡ b → cond b (Some entry.1) (in_table m.same table t) ≡ Some x → (t ≡ shape x) × Form x
    go true ih s e2 = let value : entry.1 ≡ x = cc in (m.same_is t entry.0 s ∙ each.0.0 ∙ ap shape value, subst Form value each.0.1)
    go false ih s e2 = ih e2

-- each value of the form is in the table, and the table has no others
pub table_reads : {T A : Type 0} (m : Alphabet T) (shape : A → T) (Form : A → Type 0) (table : List (T × A)) → AllByRecursion (λ e. (e.0 ≡ shape e.1) × Form e.1) table → ((x : A) → Form x → in_table m.same table (shape x) ≡ Some x)
    → (x0 : A) → Form x0 → Reads m (Plain shape Form) (one (in_table m.same table) always)
table_reads m shape Form table each holds x0 h0 = plain_reads m shape Form (in_table m.same table) (table_means m shape Form table each) holds x0 h0
