-- What is known of tokens.
use Rattle.std.proofs.Common.{◌≡◌, ◌≢◌, ℕ, Bool, true, false, ◌||◌, List, refl, sym as turned, ap, ◌∙◌, inl, inr, ◌⊎◌}
use Rattle.std.proofs.lemmas.Bool.{or_cases, true≢false}
use Rattle.std.specs.Str.{bytes_eq}
use Rattle.std.proofs.lemmas.Slice.Eq.{bytes_eq-Decides}
use Rattle.lt_reading.specs.Language.{Alphabet}
use Rattle.lt_model.specs.Tokens.{Shape, word, number, symbol, sign}
use Rattle.lt_model.specs.Grammar.{comma, semicolon, arrow}
use Rattle.lt_grammar.specs.Tokens.{Text, same_shape}
use Rattle.lt_grammar.specs.Grammar.{is_spared}

same_text : (a b : List ℕ) → bytes_eq a b ≡ true → a ≡ b
same_text a b = (bytes_eq-Decides a b).0

text_same : (a : List ℕ) → bytes_eq a a ≡ true
text_same a = (bytes_eq-Decides a a).1 refl

pub same_shape_is : (a b : Shape) → same_shape a b ≡ true → a ≡ b
same_shape_is (word a) (word b) h = ap word (same_text a b h)
same_shape_is (number a) (number b) h = ap number (same_text a b h)
same_shape_is (symbol a) (symbol b) h = ap symbol (same_text a b h)
same_shape_is (sign a) (sign b) h = ap sign (same_text a b h)
same_shape_is _ _ h = absurd cc

pub shape_same : (a : Shape) → same_shape a a ≡ true
shape_same (word a) = text_same a
shape_same (number a) = text_same a
shape_same (symbol a) = text_same a
shape_same (sign a) = text_same a

-- Tokens that a test tells apart differ. Where their texts are written out `cc` would compare these at length.
pub differ : (a b : Shape) → same_shape a b ≡ false → a ≢ b
differ a b h e = let k : true ≡ false = ap (λ (x : Bool). x) (go e) in cc
  where
    go : a ≡ b → true ≡ false
    go e = let s : same_shape a a ≡ same_shape a b = ap (same_shape a) e in rw (shape_same a, h) at s

pub not_number : (digits : Text) → comma ≢ number digits
not_number digits e = differ comma (number digits) refl e

-- one of two tokens
either : (t a b : Shape) → (same_shape t a || same_shape t b) ≡ true → (t ≡ a) ⊎ (t ≡ b)
either t a b h = elim (or_cases (same_shape t a) (same_shape t b) h) [ inl e ↦ inl (same_shape_is t a e) | inr e ↦ inr (same_shape_is t b e) ]

pub spared_not_closing : (t : Shape) → is_spared t ≡ true → t ≢ semicolon
spared_not_closing t h e = elim (either t comma arrow h) [ inl c ↦ differ comma semicolon refl (turned c ∙ e) | inr a ↦ differ arrow semicolon refl (turned a ∙ e) ]

arrow_no_number : (digits : Text) → arrow ≢ number digits
arrow_no_number digits e = differ arrow (number digits) refl e

pub spared_no_number : (t : Shape) → is_spared t ≡ true → (digits : Text) × (t ≡ number digits) → ⊥
spared_no_number t h d = elim (either t comma arrow h) [ inl c ↦ not_number d.0 (turned c ∙ d.1) | inr a ↦ arrow_no_number d.0 (turned a ∙ d.1) ]

-- what a test that refuses both passes is blamed
pub blamed : (p : Shape → Bool) → p comma ≡ false → p arrow ≡ false → (t : Shape) → p t ≡ true → is_spared t ≡ false
blamed p no_comma no_arrow t h =
    elim (is_spared t) as (λ b. is_spared t ≡ b → b ≡ false) [
      | true ↦ λ e. elim (either t comma arrow e) [ inl c ↦ absurd (true≢false (turned h ∙ ap p c ∙ no_comma)) | inr a ↦ absurd (true≢false (turned h ∙ ap p a ∙ no_arrow)) ]
      | false ↦ λ e. refl
    ] refl

-- what is blamed is neither of them, and what is neither is blamed
pub unspared : (t : Shape) → is_spared t ≡ false → (t ≢ comma) × (t ≢ arrow)
unspared t h = (λ e. true≢false (turned (ap is_spared e) ∙ h), λ e. true≢false (turned (ap is_spared e) ∙ h))

pub spared_not : (t : Shape) → t ≢ comma → t ≢ arrow → is_spared t ≡ false
spared_not t no_comma no_arrow =
    elim (is_spared t) as (λ b. is_spared t ≡ b → b ≡ false) [
      | true ↦ λ e. elim (either t comma arrow e) [ inl c ↦ absurd (no_comma c) | inr a ↦ absurd (no_arrow a) ]
      | false ↦ λ e. refl
    ] refl

-- the comma and the arrow, and the semicolon, at which a statement is judged
abbrev pub marks : Alphabet Shape
marks = record {
  same = same_shape;
  same_is = same_shape_is;
  is_same = shape_same;
  comma = comma;
  spared = is_spared;
  closing = semicolon;
  IsNumber = λ t. (digits : Text) × (t ≡ number digits);
  comma_spared = refl;
  spared_not_closing = spared_not_closing;
  spared_no_number = spared_no_number;
}
