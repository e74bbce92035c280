-- Texts written one after another.
use Rattle.std.proofs.Common.{◌≡◌, ◌≤◌, ◌++◌, ◌∙◌, List, [], ℕ, Result, Ok, Err, sym, ap, subst, append_assoc, append-nil, arith}
use Rattle.std.specs.Prelude.{Option}
use Rattle.std.proofs.KnownBytes.{Appends-nil, Appends-trans}
use Rattle.std.specs.Io.KnownBytes.{Appends}
use Rattle.lt_report.specs.Puts.{AppendsFront, Puts}

abbrev Bytes : Type 0
Bytes = Option (List ℕ)

-- the text was written, and no count of faults fell
pub record Did (old new : Bytes) (before now : ℕ) (text : List ℕ) : Type 0 where
  pub written : Appends old new text
  pub later : before ≤ now

pub did_none : (old : Bytes) (before : ℕ) → Did old old before before []
did_none old before = record { written = Appends-nil old; later = omega arith }

-- one text more
pub did_more : (a b c : Bytes) (s t u : ℕ) (x y z : List ℕ) → Did a b s t x → Appends b c y → t ≤ u → z ≡ x ++ y → Did a c s u z
did_more a b c s t u x y z did more later is = record {
  written = subst (Appends a c) (sym is) (Appends-trans a b c x y did.written more);
  later = omega (arith, did.later, later);
}

front_after : (a b c : Bytes) (x y all rest : List ℕ) → Appends a b x → AppendsFront b c y → all ≡ (x ++ y) ++ rest → AppendsFront a c all
front_after a b c x y all rest first f is = (
  x ++ f.0,
  f.1 ++ rest,
  is ∙ ap (λ (s : List ℕ). s ++ rest) (ap (λ (s : List ℕ). x ++ s) f.2 ∙ sym (append_assoc x f.0 f.1)) ∙ append_assoc (x ++ f.0) f.1 rest,
  Appends-trans a b c x f.0 first f.3,
)

-- the last text
pub ends : {T E : Type 0} (r : Result T E) (a b c : Bytes) (s t u : ℕ) (x y all : List ℕ) → Did a b s t x → Puts r b c t u y → all ≡ x ++ y → Puts r a c s u all
ends (Ok v) a b c s t u x y all did p is = record {
  ok = subst (Appends a c) (sym is) (Appends-trans a b c x y did.written p.ok);
  err = tt;
  cause = record { later = omega (arith, did.later, p.cause.later); failed = tt };
}
ends (Err e) a b c s t u x y all did p is = record {
  ok = tt;
  err = front_after a b c x y all [] did.written p.err (is ∙ sym (append-nil (x ++ y)));
  cause = record { later = omega (arith, did.later, p.cause.later); failed = omega (arith, did.later, p.cause.failed) };
}

-- all was written
pub all_done : {T : Type 0} (E : Type 0) (v : T) (a b : Bytes) (s t : ℕ) (x all : List ℕ) → Did a b s t x → all ≡ x → Puts {T = T} {E = E} (Ok v) a b s t all
all_done E v a b s t x all did is = record { ok = subst (Appends a b) (sym is) did.written; err = tt; cause = record { later = did.later; failed = tt } }

-- a text that wasn't written to its end, and none after it
pub stops : {T E F U : Type 0} (r : Result T E) (e : E) (f : F) (a b c : Bytes) (s t u : ℕ) (x y all rest : List ℕ) → r ≡ Err e → Did a b s t x → Puts {T = U} {E = F} (Err f) b c t u y → all ≡ (x ++ y) ++ rest → Puts r a c s u all
stops r e f a b c s t u x y all rest is did p parts =
    rw is (record {
      ok = tt;
      err = front_after a b c x y all rest did.written p.err parts;
      cause = record { later = omega (arith, did.later, p.cause.later); failed = omega (arith, did.later, p.cause.failed) };
    })

-- and so of the first text
pub stops_first : {T E F U : Type 0} (r : Result T E) (e : E) (f : F) (a b : Bytes) (s t : ℕ) (x all rest : List ℕ) → r ≡ Err e → Puts {T = U} {E = F} (Err f) a b s t x → all ≡ x ++ rest → Puts r a b s t all
stops_first r e f a b s t x all rest is p parts = stops r e f a a b s s t [] x all rest is (did_none a s) p parts

-- what a call that succeeded wrote
pub did_of : {T : Type 0} (E : Type 0) (v : T) (a b : Bytes) (s t : ℕ) (x : List ℕ) → Puts {T = T} {E = E} (Ok v) a b s t x → Did a b s t x
did_of E v a b s t x p = record { written = p.ok; later = p.cause.later }
