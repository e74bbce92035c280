-- The text of a statement that was read between two places of a cursor.
use Rattle.std.proofs.Common.{◌≡◌, ℕ, ◌+◌, ◌-◌, ◌≤◌, List, [], ◌∷◌, ◌++◌, length, map, take, Ok, refl, sym, ap, subst, ◌∙◌, append_assoc, arith}
use Rattle.std.proofs.lemmas.List.{length-append, map-append, append_cancel_right}
use Rattle.lt_model.specs.Grammar.{semicolon}
use Rattle.lt_model.specs.Tokens.{Shape, Token, Read, tokens_at}
use Rattle.lt_model.specs.Script as script
use Rattle.lt_model.specs.declared.syntax.Statement.{Statement}
use Rattle.lt_script.specs.Pieces.{IsBack, Passes, Skipped}
use Rattle.lt_script.specs.Ahead.{Source, Place, read_all, ahead, shapes, passed_tokens, IsBehind, decided, undecided, EndsSo, IsPlace}
use Rattle.lt_script.specs.Valued.{valued_statement_at}
use Rattle.lt_script.specs.Forms.{IsRead}
use Rattle.lt_script.proofs.Ends.{last_token}
use Rattle.lt_script.proofs.Backs.{back_on}
use Rattle.lt_script.proofs.Behind.{to_token}
use Rattle.lt_script.proofs.Places.{parts, shapes_are}
use Rattle.lt_script.proofs.Lines.{moved, from_none, from_any, shapes_from}
use Rattle.lt_script.proofs.Stated.{Stated, stated}
use Rattle.lt_script.proofs.Between.{further, taken, AreBetween, are_between}

-- what was passed between two places
pub record PassedBetween (p q : Place) (us : List Shape) : Type 0 where
  pub ts : List Token
  pub are : passed_tokens q ≡ passed_tokens p ++ ts
  pub shapes_are : script.shapes ts ≡ us

shapes_length : (ts : List Token) → length (script.shapes ts) ≡ length ts
shapes_length [] = refl
shapes_length (t ∷ ts) = omega (arith, shapes_length ts)

module _ (p q : Place) (us : List Shape) (same : q.source ≡ p.source) (h : shapes p ≡ us ++ shapes q) where
  all_same : passed_tokens p ++ (ahead p).0 ≡ passed_tokens q ++ (ahead q).0
  all_same = sym (ap (λ (r : Read). r.0) (parts p)) ∙ ap (λ (x : Source). (read_all x).0) (sym same) ∙ ap (λ (r : Read). r.0) (parts q)

  shapes_same : script.shapes (ahead p).0 ≡ us ++ script.shapes (ahead q).0
  shapes_same = sym (shapes_are p) ∙ h ∙ ap (λ (vs : List Shape). us ++ vs) (shapes_are q)

  fewer : length (passed_tokens p) ≤ length (passed_tokens q)
  fewer =
      omega (
        arith,
        ap (λ (ts : List Token). length ts) all_same,
        length-append (passed_tokens p) (ahead p).0,
        length-append (passed_tokens q) (ahead q).0,
        ap (λ (vs : List Shape). length vs) shapes_same,
        length-append us (script.shapes (ahead q).0),
        shapes_length (ahead p).0,
        shapes_length (ahead q).0,
      )

  pub passed_between : PassedBetween p q us
  passed_between =
      let f = further (passed_tokens p) (ahead p).0 (passed_tokens q) (ahead q).0 all_same fewer in
      record {
        ts = f.0;
        are = f.1;
        shapes_are = append_cancel_right (script.shapes f.0) us (script.shapes (ahead q).0) (sym (map-append (λ (t : Token). t.shape) f.0 (ahead q).0) ∙ ap script.shapes (sym f.2) ∙ shapes_same);
      }

-- the bytes that are left at a place are some, where tokens stand there
module _ (p q : Place) (s : Statement) (line0 line after : ℕ) (left0 from left : List ℕ) (w : IsPlace p.source (passed_tokens p) line0 left0) (k : Skipped line0 left0 line from) (same : tokens_at line from ≡ tokens_at line0 left0)
    (v : IsPlace q.source (passed_tokens q) after left) (read : valued_statement_at (shapes p) ≡ Ok (s, shapes q)) (here : q.source ≡ p.source) where
  st : Stated s (shapes p) (shapes q)
  st = stated s (shapes p) (shapes q) read

  some_tokens : (tokens_at line0 left0).0 ≡ [] → ⊥
  some_tokens none =
      let all : (read_all p.source).0 ≡ passed_tokens p ++ (tokens_at line0 left0).0 = ap (λ (r : Read). r.0) w.reads in
      let there : (read_all p.source).0 ≡ passed_tokens p ++ (ahead p).0 = ap (λ (r : Read). r.0) (parts p) in
      let n : length (passed_tokens p ++ (ahead p).0) ≡ length (passed_tokens p ++ []) = ap (λ (ts : List Token). length ts) (sym there ∙ all ∙ ap (λ (ts : List Token). passed_tokens p ++ ts) none) in
      let m : length (shapes p) ≡ length (st.tokens ++ shapes q) = ap (λ (vs : List Shape). length vs) st.parts in
      let l : length (shapes p) ≡ length (script.shapes (ahead p).0) = ap (λ (vs : List Shape). length vs) (shapes_are p) in
      omega (arith, n, m, l, st.some, length-append (passed_tokens p) (ahead p).0, length-append (passed_tokens p) [], length-append st.tokens (shapes q), shapes_length (ahead p).0)

  between : PassedBetween p q st.tokens
  between = passed_between p q st.tokens here st.parts

  -- the place behind the statement is right behind its semicolon
  ends_so : EndsSo q.source (passed_tokens q) after left
  ends_so =
      let shapes_now : script.shapes (passed_tokens q) ≡ (script.shapes (passed_tokens p) ++ st.ends.front) ++ semicolon ∷ [] =
      ap script.shapes between.are ∙ map-append (λ (t : Token). t.shape) (passed_tokens p) between.ts ∙ ap (λ (vs : List Shape). script.shapes (passed_tokens p) ++ vs) (between.shapes_are ∙ st.ends.is)
      ∙ sym (append_assoc (script.shapes (passed_tokens p)) st.ends.front (semicolon ∷ [])) in
      let last = last_token semicolon (script.shapes (passed_tokens p) ++ st.ends.front) (passed_tokens q) shapes_now in
      v.ends last.before last.last last.are last.is

  read_of_text : (text : List ℕ) → AreBetween line from left text between.ts after → IsRead text (after - line) s
  read_of_text text b =
      let f = from_none line after text between.ts b.passes in
      record {
        tokens = st.tokens;
        divides = λ l.
            let n : f.lines + l ≡ l + (after - line) = omega (arith, f.after_is) in
            (map (moved l) f.ts0, subst (λ (m : ℕ). Passes l text (map (moved l) f.ts0) m []) n (from_any l f.lines text f.ts0 f.passes), shapes_from l f.ts0 ∙ sym f.shapes_are ∙ between.shapes_are);
        begins = st.begins;
        reads = st.reads;
        ends = b.ends;
      }

  at_bytes : (b : ℕ) (behind : List ℕ) → from ≡ b ∷ behind → (back : IsBack left0 p.source.bytes) → Passes p.source.line back.front (passed_tokens p) line0 left0 → (text : List ℕ) × AreBetween line (b ∷ behind) left text between.ts after
  at_bytes b behind is back h =
      let tail_is : k.tail ≡ b ∷ behind = k.same (λ none. let no : b ∷ behind ≡ [] = sym is ∙ none in absurd cc) ∙ is in
      let e = ends_so in
      are_between p.source.line line after b p.source.bytes (back.front ++ k.back.front) behind e.front left (passed_tokens p) between.ts
      ((back_on k.tail left0 p.source.bytes k.back back).parts ∙ ap (λ (us : List ℕ). (back.front ++ k.back.front) ++ us) tail_is)
      (ap (λ (x : Source). x.bytes) (sym here) ∙ e.parts)
      (subst (λ (us : List ℕ). Passes p.source.line (back.front ++ k.back.front) (passed_tokens p) line us) tail_is (to_token p.source (passed_tokens p) line0 line left0 k.tail back h k.back k.passes))
      (λ more. ap (λ (x : Source). tokens_at x.line ((e.front ++ 59 ∷ []) ++ more)) (sym here) ∙ e.leads more ∙ ap (λ (ts : List Token). let r : Read = (ts ++ (tokens_at after more).0, (tokens_at after more).1) in r) between.are)
      (omega (arith, st.some, ap (λ (vs : List Shape). length vs) between.shapes_are, shapes_length between.ts))

  by_bytes : (us : List ℕ) → from ≡ us → IsBehind p.source (passed_tokens p) line0 left0 → (text : List ℕ) × AreBetween line us left text between.ts after
  by_bytes [] is w = absurd (some_tokens (ap (λ (r : Read). r.0) (sym same ∙ ap (tokens_at line) is)))
  by_bytes (b ∷ behind) is (decided back h) = at_bytes b behind is back h
  by_bytes (b ∷ behind) is (undecided before last upto tail are h goes first none) = absurd (some_tokens (ap (λ (us : List ℕ). (tokens_at line0 us).0) none))

  pub learned : IsRead (take (length from - length left) from) (after - line) s
  learned =
      let x = by_bytes from refl w.behind in
      subst (λ (us : List ℕ). IsRead us (after - line) s) (sym (taken from x.0 left x.1.parts)) (read_of_text x.0 x.1)
