-- What is still read of statements where some were read before.
use Rattle.std.proofs.Common.{◌≡◌, ℕ, zero, suc, ◌-◌, ◌<◌, Bool, true, false, cond, List, [], ◌∷◌, ◌++◌, length, Ok, Err, refl, sym, ap, ◌∙◌, append_assoc, arith}
use Rattle.std.proofs.lemmas.List.{append-nil, length-append}
use Rattle.lt_face.specs.Limits.{most_statements}
use Rattle.lt_reading.specs.Reading.{◌>>=◌, next_is, joined, no_more, many_at, many, at_once}
use Rattle.lt_reading.proofs.Loops.{Shrinks, before, begun, goes_on, ends, fails}
use Rattle.lt_model.specs.Tokens.{Shape}
use Rattle.lt_model.specs.declared.syntax.Statement.{Statement}
use Rattle.lt_grammar.specs.Productions.{starts_statement}
use Rattle.lt_script.specs.declared.refusal.Refusal.{Refusal}
use Rattle.lt_script.specs.declared.refusal.Refusal.TheVariants.{NoMemory, Fault}
use Rattle.lt_script.specs.Parsed.{Fails, Stop, Outcome, Reader}
use Rattle.lt_script.specs.Valued.{valued_statement_at}
use Rattle.lt_script.specs.Forms.{put_before, more_statements}
use Rattle.lt_script.proofs.Bridges.{statements_shrink}

-- ---- any things

put_none : {A : Type 0} (r : Outcome (List A)) → put_before [] r ≡ r
put_none (Ok x) = refl
put_none (Err e) = refl

module _ {A : Type 0} (p : Shape → Bool) (e : Reader A) (over : List Shape → Stop) where
  -- one step on
  fuel_step : (f g room : ℕ) (t : Shape) (ts : List Shape) → ((x : A) (rest : List Shape) → e (t ∷ ts) ≡ Ok (x, rest) → many_at p e over f room rest ≡ many_at p e over g room rest) → many_at p e over (suc f) (suc room) (t ∷ ts) ≡ many_at p e over (suc g) (suc room) (t ∷ ts)
  fuel_step f g room t ts same = go (e (t ∷ ts)) refl
    where
      go : (o : Outcome A) → e (t ∷ ts) ≡ o → cond (p t) (o >>= λ x. joined x.0 (many_at p e over f room x.1)) (no_more A (t ∷ ts)) ≡ cond (p t) (o >>= λ x. joined x.0 (many_at p e over g room x.1)) (no_more A (t ∷ ts))
      go (Ok x) is = ap (λ (r : Outcome (List A)). cond (p t) (joined x.0 r) (no_more A (t ∷ ts))) (same x.0 x.1 is)
      go (Err s) is = refl

  -- more fuel changes nothing
  fuel_same : Shrinks e → (f g room : ℕ) (ts : List Shape) → length ts < f → length ts < g → many_at p e over f room ts ≡ many_at p e over g room ts
  fuel_same less zero g room ts h k = absurd (omega (arith, h))
  fuel_same less (suc f) zero room ts h k = absurd (omega (arith, k))
  fuel_same less (suc f) (suc g) room [] h k = refl
  fuel_same less (suc f) (suc g) zero (t ∷ ts) h k = refl
  fuel_same less (suc f) (suc g) (suc room) (t ∷ ts) h k =
      fuel_step f g room t ts (λ x rest is. fuel_same less f g room rest (omega (arith, h, less (t ∷ ts) x rest is)) (omega (arith, k, less (t ∷ ts) x rest is)))

  regroup : (front : List A) (x : A) (r : Outcome (List A)) → put_before front (before (x ∷ []) r) ≡ put_before (front ++ x ∷ []) r
  regroup front x (Ok y) = ap (λ (xs : List A). Ok (xs, y.1)) (sym (append_assoc front (x ∷ []) y.0))
  regroup front x (Err s) = refl

  one_more : Shrinks e → (front : List A) (room : ℕ) (ts : List Shape) (x : A) (rest : List Shape) → next_is p ts ≡ true → e ts ≡ Ok (x, rest)
      → put_before front (many p e over (suc room) ts) ≡ put_before (front ++ x ∷ []) (many p e over room rest)
  one_more less front room ts x rest h k =
      let s = goes_on p e over less [] room ts (many p e over (suc room) ts) x rest h k (begun p e over ts (suc room)) in
      let one : before (x ∷ []) (many p e over room rest) ≡ many p e over (suc room) ts = ap (before (x ∷ [])) (fuel_same less (suc (length rest)) s.fuel room rest (omega arith) s.enough) ∙ s.is in
      ap (put_before front) (sym one) ∙ regroup front x (many p e over room rest)

-- ---- statements

abbrev room_of : List Statement → ℕ
room_of front = most_statements - length front

pub more_at_first : (ts : List Shape) → more_statements [] ts ≡ many starts_statement valued_statement_at at_once most_statements ts
more_at_first ts = put_none (many starts_statement valued_statement_at at_once most_statements ts)

pub more_one : (front : List Statement) (s : Statement) (ts rest : List Shape) → next_is starts_statement ts ≡ true → valued_statement_at ts ≡ Ok (s, rest) → length front < most_statements → more_statements front ts ≡ more_statements (front ++ s ∷ []) rest
more_one front s ts rest h k lt =
    let left : room_of front ≡ suc (room_of (front ++ s ∷ [])) = omega (arith, lt, length-append front (s ∷ [])) in
    ap (λ (n : ℕ). put_before front (many starts_statement valued_statement_at at_once n ts)) left
    ∙ one_more starts_statement valued_statement_at at_once statements_shrink front (room_of (front ++ s ∷ [])) ts s rest h k

pub more_ends : (front : List Statement) (ts : List Shape) → next_is starts_statement ts ≡ false → more_statements front ts ≡ Ok (front, ts)
more_ends front ts h =
    let room : ℕ = room_of front in
    let all : Outcome (List Statement) = many starts_statement valued_statement_at at_once room ts in
    ap (put_before front) (ends starts_statement valued_statement_at at_once [] room ts all h (begun starts_statement valued_statement_at at_once ts room))
    ∙ ap (λ (xs : List Statement). Ok (xs, ts)) (append-nil front)

pub more_fails : (refusal : Refusal) (front : List Statement) (ts left : List Shape) → next_is starts_statement ts ≡ true → length front < most_statements → Fails refusal left (valued_statement_at ts) → Fails refusal left (more_statements front ts)
more_fails NoMemory front ts left h lt k = tt
more_fails (Fault c) front ts left h lt k =
    let room : ℕ = room_of front - 1 in
    let more : room_of front ≡ suc room = omega (arith, lt) in
    let all : Outcome (List Statement) = many starts_statement valued_statement_at at_once (suc room) ts in
    ap (λ (n : ℕ). put_before front (many starts_statement valued_statement_at at_once n ts)) more
    ∙ ap (put_before front) (fails starts_statement valued_statement_at at_once [] room ts all _ h k (begun starts_statement valued_statement_at at_once ts (suc room)))
