-- From a place over some statements: white space and comments stand before each.
use Rattle.std.proofs.Common.{inl, ◌≡◌, ◌≢◌, ℕ, ◌+◌, ◌<◌, ◌≤◌, List, [], ◌∷◌, ◌++◌, length, refl, sym, ap, subst, ◌∙◌, append_assoc, arith}
use Rattle.std.proofs.lemmas.List.{append-nil, length-append, map-append, append_cancel_left}
use Rattle.lt_model.specs.Tokens as tokens
use Rattle.lt_model.specs.Tokens.{Shape, Token, Read, tokens_at}
use Rattle.lt_model.specs.Script as script
use Rattle.lt_model.specs.declared.syntax.Statement.{Statement}
use Rattle.lt_script.specs.Pieces.{IsBack, Passes, Skipped}
use Rattle.lt_script.specs.Ahead.{Source, Place, read_all, ahead, shapes, passed_tokens, IsBehind, decided, undecided, IsPlace}
use Rattle.lt_script.specs.Forms.{IsTakenOff, AreRead, GoesPast}
use Rattle.lt_script.proofs.Backs.{back_same, back_on}
use Rattle.lt_script.proofs.Lines.{passes_few}
use Rattle.lt_script.proofs.Places.{parts, shapes_are}
use Rattle.lt_script.proofs.Chains.{read_none, read_on, read_one}

-- ---- fronts, one behind the other

abbrev read_of : List Token → tokens.Ending → Read
read_of ts ending = (ts, ending)

pub passes_weaker : (line after : ℕ) (front left : List ℕ) (ts : List Token) → Passes line front ts after [] → Passes line front ts after left
unfolding Passes
passes_weaker line after front left ts h = λ more begins. h more tt

regroup : (line last : ℕ) (f g more : List ℕ) (ts us : List Token) (mid : Read) → tokens_at line (f ++ (g ++ more)) ≡ read_of (ts ++ mid.0) mid.1 → mid ≡ read_of (us ++ (tokens_at last more).0) (tokens_at last more).1
    → tokens_at line ((f ++ g) ++ more) ≡ read_of ((ts ++ us) ++ (tokens_at last more).0) (tokens_at last more).1
regroup line last f g more ts us mid h k =
    ap (tokens_at line) (append_assoc f g more) ∙ h ∙ ap (λ (r : Read). read_of (ts ++ r.0) r.1) k
    ∙ ap (λ (vs : List Token). read_of vs (tokens_at last more).1) (sym (append_assoc ts us (tokens_at last more).0))

-- the first, whatever comes behind it
pub passes_join : (line after last : ℕ) (f g : List ℕ) (ts us : List Token) → Passes line f ts after [] → Passes after g us last [] → Passes line (f ++ g) (ts ++ us) last []
unfolding Passes
passes_join line after last f g ts us h k = λ more begins. regroup line last f g more ts us (tokens_at after (g ++ more)) (h (g ++ more) tt) (k more tt)

-- the first, where the other begins as what is left behind it
pub passes_past : (line after last : ℕ) (f g left : List ℕ) (ts us : List Token) → Passes line f ts after (g ++ left) → g ≢ [] → Passes after g us last [] → Passes line (f ++ g) (ts ++ us) last []
unfolding Passes
passes_past line after last f [] left ts us h some k = absurd (some refl)
passes_past line after last f (b ∷ g) left ts us h some k = λ more begins. regroup line last f (b ∷ g) more ts us (tokens_at after ((b ∷ g) ++ more)) (h ((b ∷ g) ++ more) (b, g ++ more, refl, inl refl)) (k more tt)

-- ---- no statement, and one more

empty_passes : (line : ℕ) → Passes line [] [] line []
unfolding Passes
empty_passes line = λ more begins. refl

pub past_none : (line : ℕ) (bytes : List ℕ) → GoesPast line bytes line bytes []
past_none line bytes = record { back = back_same bytes; ts = []; passes = empty_passes line; are = read_none; ends = λ some. absurd (some refl); still = λ none. (refl, refl, refl) }

abbrev EndsIn : List ℕ → Type 0
EndsIn bytes = (front : List ℕ) × (bytes ≡ front ++ 59 ∷ [])

ends_some : (bytes : List ℕ) → EndsIn bytes → bytes ≢ []
ends_some bytes h = λ none. omega (arith, ap (λ (us : List ℕ). length us) (sym none ∙ h.1), length-append h.0 (59 ∷ []))

front_some : (bytes text rest : List ℕ) → EndsIn text → bytes ≡ text ++ rest → bytes ≢ []
front_some bytes text rest h parts = λ none. omega (arith, ap (λ (us : List ℕ). length us) (sym none ∙ parts), length-append text rest, ap (λ (us : List ℕ). length us) h.1, length-append h.0 (59 ∷ []))

ends_behind : (front bytes : List ℕ) → EndsIn bytes → EndsIn (front ++ bytes)
ends_behind front bytes h = (front ++ h.0, ap (λ (us : List ℕ). front ++ us) h.1 ∙ sym (append_assoc front h.0 (59 ∷ [])))

not_none : {A : Type 0} (xs : List A) (x : A) → xs ++ x ∷ [] ≡ [] → ⊥
not_none xs x e = omega (arith, ap (λ us. length us) e, length-append xs (x ∷ []))

-- over white space and comments, and then a statement
module _ (line mid after lines : ℕ) (bytes here tail rest : List ℕ) (read : List Statement) (s : Statement) (g : GoesPast line bytes mid here read) (k : Skipped mid here after tail) (t : IsTakenOff tail rest lines s) where
  abbrev text : List ℕ
  text = t.0

  abbrev at : List ℕ
  at = k.back.front ++ text

  tail_is : k.tail ≡ text ++ rest
  tail_is = k.same (front_some tail text rest t.2.ends t.1) ∙ t.1

  abbrev taken : List Token
  taken = (t.2.divides after).0

  one : Passes mid at taken (after + lines) []
  one = passes_past mid after (after + lines) k.back.front text rest [] taken (subst (λ (us : List ℕ). Passes mid k.back.front [] after us) tail_is k.passes) (ends_some text t.2.ends) (t.2.divides after).1

  parts_are : bytes ≡ (g.back.front ++ at) ++ rest
  parts_are =
      g.back.parts ∙ ap (λ (us : List ℕ). g.back.front ++ us) (k.back.parts ∙ ap (λ (us : List ℕ). k.back.front ++ us) tail_is ∙ sym (append_assoc k.back.front text rest))
      ∙ sym (append_assoc g.back.front at rest)

  are_now : AreRead (read ++ s ∷ []) (script.shapes (g.ts ++ taken))
  are_now =
      subst (AreRead (read ++ s ∷ []))
      (ap (λ (us : List Shape). script.shapes g.ts ++ us) (sym (t.2.divides after).2) ∙ sym (map-append (λ (u : Token). u.shape) g.ts taken))
      (read_on read (s ∷ []) (script.shapes g.ts) t.2.tokens g.are (read_one text lines s t.2))

  pub past_more : GoesPast line bytes (after + lines) rest (read ++ s ∷ [])
  past_more = record {
    back = record { front = g.back.front ++ at; parts = parts_are };
    ts = g.ts ++ taken;
    passes = passes_join line mid (after + lines) g.back.front at g.ts taken g.passes one;
    are = are_now;
    ends = λ some. ends_behind g.back.front at (ends_behind k.back.front text t.2.ends);
    still = λ none. absurd (not_none read s none);
  }

-- lines are counted in 64 bits
pub taken_fits : (line lines most : ℕ) (bytes rest : List ℕ) (s : Statement) → line + length bytes < most → IsTakenOff bytes rest lines s → line + lines + length rest < most
taken_fits line lines most bytes rest s fits t =
    let few : line + lines ≤ line + length t.0 = passes_few line (line + lines) t.0 (t.2.divides line).0 (t.2.divides line).1 in
    omega (arith, fits, few, ap (λ (us : List ℕ). length us) t.1, length-append t.0 rest)

-- ---- in a source

module _ (source : Source) (passed : List Token) (line after : ℕ) (left rest : List ℕ) (w : IsPlace source passed line left) where
  still_there : (g : GoesPast line left after rest []) → IsPlace source (passed ++ g.ts) after rest
  still_there g =
      let there = g.still refl in
      let here : IsPlace source (passed ++ g.ts) line left = subst (λ (ts : List Token). IsPlace source ts line left) (sym (append-nil passed) ∙ ap (λ (us : List Token). passed ++ us) (sym there.2)) w in
      subst (λ (n : ℕ). IsPlace source (passed ++ g.ts) n rest) (sym there.1) (subst (λ (us : List ℕ). IsPlace source (passed ++ g.ts) line us) (sym there.0) here)

  module _ (s : Statement) (read : List Statement) (g : GoesPast line left after rest (s ∷ read)) where
    ends_now : EndsIn g.back.front
    ends_now = g.ends (λ e. absurd cc)

    none_left : left ≡ [] → ⊥
    none_left none = front_some left g.back.front rest ends_now g.back.parts none

    there_by : (back : IsBack left source.bytes) → Passes source.line back.front passed line left → IsPlace source (passed ++ g.ts) after rest
    unfolding Passes
    there_by back h =
        let front : List ℕ = back.front ++ g.back.front in
        let way : Passes source.line front (passed ++ g.ts) after [] =
        passes_past source.line line after back.front g.back.front rest passed g.ts (subst (λ (us : List ℕ). Passes source.line back.front passed line us) g.back.parts h) (ends_some g.back.front ends_now) g.passes in
        let ends = ends_behind back.front g.back.front ends_now in
        record {
          back = back_on rest left source.bytes g.back back;
          behind = decided (back_on rest left source.bytes g.back back) (passes_weaker source.line after front rest (passed ++ g.ts) way);
          ends = λ before last are shape. record {
            front = ends.0;
            parts = (back_on rest left source.bytes g.back back).parts ∙ ap (λ (us : List ℕ). us ++ rest) ends.1;
            leads = λ more. ap (λ (us : List ℕ). tokens_at source.line (us ++ more)) (sym ends.1) ∙ way more tt;
          };
          reads = ap (tokens_at source.line) (back_on rest left source.bytes g.back back).parts ∙ way rest tt;
        }

    moved_there : IsBehind source passed line left → IsPlace source (passed ++ g.ts) after rest
    moved_there (decided back h) = there_by back h
    moved_there (undecided before last upto tail same h goes first none) = absurd (none_left none)

  -- the place behind the statements that were passed
  pub place_past : (read : List Statement) (g : GoesPast line left after rest read) → IsPlace source (passed ++ g.ts) after rest
  place_past [] g = still_there g
  place_past (s ∷ read) g = moved_there s read g w.behind

-- the tokens between two places
pub shapes_between : (p q : Place) (ts : List Token) → q.source ≡ p.source → passed_tokens q ≡ passed_tokens p ++ ts → shapes p ≡ script.shapes ts ++ shapes q
shapes_between p q ts same h =
    let there : (read_all q.source).0 ≡ passed_tokens q ++ (ahead q).0 = ap (λ (r : Read). r.0) (parts q) in
    let here : (read_all p.source).0 ≡ passed_tokens p ++ (ahead p).0 = ap (λ (r : Read). r.0) (parts p) in
    let all : passed_tokens p ++ (ahead p).0 ≡ passed_tokens p ++ (ts ++ (ahead q).0) =
    sym here ∙ ap (λ (x : Source). (read_all x).0) (sym same) ∙ there ∙ ap (λ (us : List Token). us ++ (ahead q).0) h ∙ append_assoc (passed_tokens p) ts (ahead q).0 in
    shapes_are p ∙ ap script.shapes (append_cancel_left (passed_tokens p) (ahead p).0 (ts ++ (ahead q).0) all) ∙ map-append (λ (u : Token). u.shape) ts (ahead q).0
    ∙ ap (λ (us : List Shape). script.shapes ts ++ us) (sym (shapes_are q))
