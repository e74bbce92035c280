-- What a call that writes has done, from what those in it did.
use Rattle.std.proofs.Common.{◌≡◌, ◌≤◌, ◌++◌, List, [], ℕ, Result, Ok, Err, refl, sym, ap, subst, arith, append_assoc, append-nil, ◌∙◌}
use Rattle.std.specs.Prelude.{Option, Some, None}
use Rattle.std.proofs.KnownBytes.{Appends-nil, Appends-trans}
use Rattle.std.specs.Io.KnownBytes.{Appends, Keeps}
use Rattle.lt_edges.specs.Causes.{HasCause}
use Rattle.lt_report.specs.Puts.{AppendsFront, Puts}
use Rattle.lt_report.proofs.Going.{Did, did_more}
use Rattle.lt_world.specs.declared.halt.Halt.{Halt}
use Rattle.lt_world.specs.declared.halt.Halt.TheVariants.{NoMemory}
use Rattle.lt_world.specs.Writing.{Writes}

abbrev Bytes : Type 0
Bytes = Option (List ℕ)

-- a front of what was written before, and nothing since
pub front_so_far : (a b : Bytes) (s t : ℕ) (x all rest : List ℕ) → Did a b s t x → all ≡ x ++ rest → AppendsFront a b all
front_so_far a b s t x all rest did is = (x, rest, is, did.written)

-- a front of the next text too
pub front_more : (a b c : Bytes) (s t : ℕ) (x y all rest : List ℕ) → Did a b s t x → AppendsFront b c y → all ≡ (x ++ y) ++ rest → AppendsFront a c all
front_more a b c s t x y all rest did f is =
    (x ++ f.0, f.1 ++ rest, is ∙ ap (λ (u : List ℕ). u ++ rest) (ap (λ (u : List ℕ). x ++ u) f.2 ∙ sym (append_assoc x f.0 f.1)) ∙ append_assoc (x ++ f.0) f.1 rest, Appends-trans a b c x f.0 did.written f.3)

module _ {T : Type 0} where
  -- all was written
  pub all_written : (v : T) {U E : Type 0} (u : U) (h i : Bytes) (w x : ℕ) (text said : List ℕ) → Puts {T = U} {E = E} (Ok u) h i w x text → said ≡ text → Writes (Ok v) h i w x said
  all_written v {U} {E} u h i w x text said p is = record { ok = subst (Appends h i) (sym is) p.ok; err = tt; later = p.cause.later; failed = λ e. absurd cc }

  -- nothing was to be written
  pub none_written : (v : T) (h : Bytes) (w : ℕ) (said : List ℕ) → said ≡ [] → Writes (Ok v) h h w w said
  none_written v h w said is = record { ok = subst (Appends h h) (sym is) (Appends-nil h); err = tt; later = omega arith; failed = λ e. absurd cc }

  -- a write failed
  pub write_failed : (r : Result T Halt) (e : Halt) {U E : Type 0} (f : E) (h i : Bytes) (w x : ℕ) (text said : List ℕ) → r ≡ Err e → Puts {T = U} {E = E} (Err f) h i w x text → said ≡ text → Writes r h i w x said
  write_failed r e {U} {E} f h i w x text said is p same =
      subst (λ (q : Result T Halt). Writes q h i w x said) (sym is)
      (record { ok = tt; err = subst (AppendsFront h i) (sym same) p.err; later = p.cause.later; failed = λ x. p.cause.failed })

  -- memory was refused, and nothing was written
  pub memory_refused : (r : Result T Halt) (e : Halt) (h : Bytes) (w : ℕ) (said : List ℕ) → r ≡ Err e → e ≡ NoMemory → Writes r h h w w said
  memory_refused r e h w said is none =
      subst (λ (q : Result T Halt). Writes q h h w w said) (sym (is ∙ ap (λ (f : Halt). let q : Result T Halt = Err f in q) none))
      (record { ok = tt; err = ([], said, refl, Appends-nil h); later = omega arith; failed = λ e. absurd cc })

module _ {T : Type 0} where
  -- memory was refused behind what was written
  pub refused_behind : (r : Result T Halt) (e : Halt) {U E : Type 0} (u : U) (h i : Bytes) (w x : ℕ) (text said : List ℕ) → r ≡ Err e → e ≡ NoMemory → Puts {T = U} {E = E} (Ok u) h i w x text → said ≡ text → Writes r h i w x said
  refused_behind r e {U} {E} u h i w x text said is none p same =
      subst (λ (q : Result T Halt). Writes q h i w x said) (sym (is ∙ ap (λ (f : Halt). let q : Result T Halt = Err f in q) none))
      (record { ok = tt; err = (text, [], same ∙ sym (append-nil text), p.ok); later = p.cause.later; failed = λ e. absurd cc })

module _ {T : Type 0} where
  -- what was done by a call that failed, which is passed on
  pub passed_on : (r : Result T Halt) (e : Halt) {U : Type 0} (f : Halt) (h i : Bytes) (w x : ℕ) (text said : List ℕ) → r ≡ Err e → e ≡ f → Writes {T = U} (Err f) h i w x text → said ≡ text → Writes r h i w x said
  passed_on r e {U} f h i w x text said is same wrote alike =
      subst (λ (q : Result T Halt). Writes q h i w x said) (sym (is ∙ ap (λ (g : Halt). let q : Result T Halt = Err g in q) same))
      (record { ok = tt; err = subst (AppendsFront h i) (sym alike) wrote.err; later = wrote.later; failed = λ e. wrote.failed cc })

pub kept_appends : (a b : Bytes) → Keeps a b → Appends a b []
kept_appends None b k = tt
kept_appends (Some x) None k = absurd k
kept_appends (Some x) (Some y) k = k ∙ sym (append-nil x)

-- a flush writes nothing
pub flushed : {T E : Type 0} (r : Result T E) (a b : Bytes) (s t : ℕ) → Keeps a b → HasCause s t r → Puts r a b s t []
flushed (Ok v) a b s t k c = record { ok = kept_appends a b k; err = tt; cause = c }
flushed (Err e) a b s t k c = record { ok = tt; err = ([], [], refl, kept_appends a b k); cause = c }

-- nor does it change what was written before
pub did_kept : (a b c : Bytes) (s t u : ℕ) (x : List ℕ) → Did a b s t x → Keeps b c → t ≤ u → Did a c s u x
did_kept a b c s t u x did k later = did_more a b c s t u x [] x did (kept_appends b c k) later (sym (append-nil x))
