-- When a way to write a thing and the set of its spellings say the same: what is written so is one of the spellings,
-- and each spelling is written so.
use Rattle.std.proofs.Common.{◌≡◌, ℕ, suc, List, [], ◌∷◌, ◌++◌, length, refl, sym, ap, subst, ◌∙◌, arith}
use Rattle.std.specs.Prelude.{map}
use Rattle.std.specs.List.{flat_map, AllByRecursion}
use Rattle.std.proofs.lemmas.List.{length-map}
use Rattle.lt_reading.specs.Language.{Level, formed, few, fine, full, AtMost}
use Rattle.lt_model.specs.Tokens.{Shape}
use Rattle.lt_model.specs.Grammar.{Language, the, ◌·◌, each, listed, limited, comma, AtMost as HasAtMost}
use Rattle.lt_grammar.specs.Grammar.{only, with_commas}
use Rattle.lt_grammar.specs.Meaning.{level_of}

-- a thing with what is asked of it, these tokens and this value
abbrev pub Written : {A V : Type 0} → (A → Type 0) → (A → List Shape) → (A → V) → V → List Shape → Type 0
Written {A} Holds spell value v ts = (a : A) × Holds a × (value a ≡ v) × (spell a ≡ ts)

pub record Agrees {A V : Type 0} (Holds : A → Type 0) (spell : A → List Shape) (value : A → V) (P : V → Language) : Type 0 where
  pub there : (a : A) → Holds a → P (value a) (spell a)
  pub back : (v : V) (ts : List Shape) → P v ts → Written Holds spell value v ts

-- ---- limits

pub to_limit : (level : Level) (n limit : ℕ) → AtMost level n limit → HasAtMost (level_of level) limit n
to_limit formed n limit h = tt
to_limit few n limit h = h
to_limit fine n limit h = h
to_limit full n limit h = h

pub from_limit : (level : Level) (n limit : ℕ) → HasAtMost (level_of level) limit n → AtMost level n limit
from_limit formed n limit h = tt
from_limit few n limit h = h
from_limit fine n limit h = h
from_limit full n limit h = h

-- one more on both sides
more_limit : (level : Level) (n limit : ℕ) → AtMost level n limit → AtMost level (suc n) (suc limit)
more_limit formed n limit h = tt
more_limit few n limit h = omega (arith, h)
more_limit fine n limit h = omega (arith, h)
more_limit full n limit h = omega (arith, h)

less_limit : (level : Level) (n limit : ℕ) → AtMost level (suc n) (suc limit) → AtMost level n limit
less_limit formed n limit h = tt
less_limit few n limit h = omega (arith, h)
less_limit fine n limit h = omega (arith, h)
less_limit full n limit h = omega (arith, h)

-- ---- one after the other

module _ {A V : Type 0} {Holds : A → Type 0} {spell : A → List Shape} {value : A → V} {P : V → Language} (agrees : Agrees Holds spell value P) where
  -- behind this token
  pub led_agrees : (s : Shape) → Agrees Holds (λ a. s ∷ spell a) value (λ v. the s · P v)
  led_agrees s = record { there = λ a h. (s ∷ [], spell a, refl, refl, agrees.there a h); back = back }
    where
      back : (v : V) (ts : List Shape) → (the s · P v) ts → Written Holds (λ a. s ∷ spell a) value v ts
      back v ts h =
          let x = agrees.back v h.1 h.4 in
          (x.0, x.1, x.2, ap (λ (us : List Shape). s ∷ us) x.3 ∙ ap (λ (us : List Shape). us ++ h.1) (sym h.3) ∙ sym h.2)

  -- in front of these tokens
  pub ended_agrees : (us : List Shape) (Q : Language) → Q us → ((ts : List Shape) → Q ts → us ≡ ts) → Agrees Holds (λ a. spell a ++ us) value (λ v. P v · Q)
  ended_agrees us Q q is = record { there = λ a h. (spell a, us, refl, agrees.there a h, q); back = back }
    where
      back : (v : V) (ts : List Shape) → (P v · Q) ts → Written Holds (λ a. spell a ++ us) value v ts
      back v ts h =
          let x = agrees.back v h.0 h.3 in
          (x.0, x.1, x.2, ap (λ (s : List Shape). s ++ us) x.3 ∙ ap (λ (s : List Shape). h.0 ++ s) (is h.1 h.4) ∙ sym h.2)

  pub pair_agrees : {B W : Type 0} {Holds' : B → Type 0} {spell' : B → List Shape} {value' : B → W} {Q : W → Language} → Agrees Holds' spell' value' Q
      → Agrees (λ (x : A × B). Holds x.0 × Holds' x.1) (λ x. spell x.0 ++ spell' x.1) (λ x. (value x.0, value' x.1)) (λ (v : V × W). P v.0 · Q v.1)
  pair_agrees {B} {W} {Holds'} {spell'} {value'} {Q} other = record { there = λ x h. (spell x.0, spell' x.1, refl, agrees.there x.0 h.0, other.there x.1 h.1); back = back }
    where
      back : (v : V × W) (ts : List Shape) → (P v.0 · Q v.1) ts → Written (λ (x : A × B). Holds x.0 × Holds' x.1) (λ x. spell x.0 ++ spell' x.1) (λ x. (value x.0, value' x.1)) v ts
      back v ts h =
          let x = agrees.back v.0 h.0 h.3 in
          let y = other.back v.1 h.1 h.4 in
          ((x.0, y.0), (x.1, y.1), ap (λ (a : V). (a, value' y.0)) x.2 ∙ ap (λ (b : W). (v.0, b)) y.2, ap (λ (s : List Shape). s ++ spell' y.0) x.3 ∙ ap (λ (s : List Shape). h.0 ++ s) y.3 ∙ sym h.2)

  -- ---- lists

  -- all, one after the other
  each_there : (xs : List A) → AllByRecursion Holds xs → each P (map value xs) (flat_map spell xs)
  each_there [] h = refl
  each_there (x ∷ xs) h = (spell x, flat_map spell xs, refl, agrees.there x h.0, each_there xs h.1)

  each_back : (vs : List V) (ts : List Shape) → each P vs ts → Written (AllByRecursion Holds) (flat_map spell) (map value) vs ts
  each_back [] ts h = ([], tt, refl, sym h)
  each_back (v ∷ vs) ts h =
      let x = agrees.back v h.0 h.3 in
      let y = each_back vs h.1 h.4 in
      (x.0 ∷ y.0, (x.1, y.1), ap (λ (a : V). a ∷ map value y.0) x.2 ∙ ap (λ (b : List V). v ∷ b) y.2, ap (λ (s : List Shape). s ++ flat_map spell y.0) x.3 ∙ ap (λ (s : List Shape). h.0 ++ s) y.3 ∙ sym h.2)

  pub each_agrees : Agrees (AllByRecursion Holds) (flat_map spell) (map value) (each P)
  each_agrees = record { there = each_there; back = each_back }

-- one or more, with commas between
module _ {A V : Type 0} {Holds : A → Type 0} {spell : A → List Shape} {value : A → V} {P : V → Language} (agrees : Agrees Holds spell value P) where
  abbrev pub AreSome : A × List A → Type 0
  AreSome x = Holds x.0 × AllByRecursion Holds x.1

  abbrev pub some_tokens : A × List A → List Shape
  some_tokens x = with_commas spell x.0 x.1

  abbrev pub some_value : A × List A → List V
  some_value x = value x.0 ∷ map value x.1

  others : Agrees (AllByRecursion Holds) (flat_map (λ y. only comma ++ spell y)) (map value) (each (λ v. the comma · P v))
  others = each_agrees (led_agrees agrees comma)

  both : Agrees AreSome some_tokens (λ x. (value x.0, map value x.1)) (λ (v : V × List V). P v.0 · each (λ w. the comma · P w) v.1)
  both = pair_agrees agrees others

  listed_back : (vs : List V) (ts : List Shape) → listed P vs ts → Written AreSome some_tokens some_value vs ts
  listed_back [] ts h = absurd h
  listed_back (v ∷ vs) ts h =
      let x = both.back (v, vs) ts h in
      (x.0, x.1, ap (λ (w : V × List V). w.0 ∷ w.1) x.2, x.3)

  pub listed_agrees : Agrees AreSome some_tokens some_value (listed P)
  listed_agrees = record { there = λ x h. both.there x h; back = listed_back }

  -- at most so many
  abbrev pub AreFew : Level → ℕ → A × List A → Type 0
  AreFew level most x = Holds x.0 × (AllByRecursion Holds x.1 × AtMost level (length x.1) most)

  few_there : (level : Level) (most : ℕ) (x : A × List A) → AreFew level most x → limited (level_of level) (suc most) listed P (some_value x) (some_tokens x)
  few_there level most x h = (
    to_limit level (suc (length (map value x.1))) (suc most) (more_limit level (length (map value x.1)) most (subst (λ n. AtMost level n most) (sym (length-map x.1 value)) h.1.1)),
    listed_agrees.there x (h.0, h.1.0),
  )

  few_back : (level : Level) (most : ℕ) (vs : List V) (ts : List Shape) → limited (level_of level) (suc most) listed P vs ts → Written (AreFew level most) some_tokens some_value vs ts
  few_back level most vs ts h =
      let x = listed_agrees.back vs ts h.1 in
      let size : length (some_value x.0) ≡ suc (length x.0.1) = ap suc (length-map x.0.1 value) in
      let limit : AtMost level (suc (length x.0.1)) (suc most) = subst (λ n. AtMost level n (suc most)) (ap (λ (w : List V). length w) (sym x.2) ∙ size) (from_limit level (length vs) (suc most) h.0) in
      (x.0, (x.1.0, (x.1.1, less_limit level (length x.0.1) most limit)), x.2, x.3)

  pub few_agrees : (level : Level) (most : ℕ) → Agrees (AreFew level most) some_tokens some_value (limited (level_of level) (suc most) listed P)
  few_agrees level most = record { there = few_there level most; back = few_back level most }

  -- any number, at most so many
  pub each_few_agrees : (level : Level) (most : ℕ) → Agrees (λ xs. AllByRecursion Holds xs × AtMost level (length xs) most) (flat_map spell) (map value) (limited (level_of level) most each P)
  each_few_agrees level most = record { there = there; back = back }
    where
      all : Agrees (AllByRecursion Holds) (flat_map spell) (map value) (each P)
      all = each_agrees agrees

      there : (xs : List A) → AllByRecursion Holds xs × AtMost level (length xs) most → limited (level_of level) most each P (map value xs) (flat_map spell xs)
      there xs h = (to_limit level (length (map value xs)) most (subst (λ n. AtMost level n most) (sym (length-map xs value)) h.1), all.there xs h.0)

      back : (vs : List V) (ts : List Shape) → limited (level_of level) most each P vs ts → Written (λ xs. AllByRecursion Holds xs × AtMost level (length xs) most) (flat_map spell) (map value) vs ts
      back vs ts h =
          let x = all.back vs ts h.1 in
          (x.0, (x.1, subst (λ n. AtMost level n most) (ap (λ (w : List V). length w) (sym x.2) ∙ length-map x.0 value) (from_limit level (length vs) most h.0)), x.2, x.3)
