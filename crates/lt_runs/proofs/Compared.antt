-- The replies of readers are those on the versions that they name.
use Rattle.std.proofs.Common.{◌≡◌, ◌⊎◌, ℕ, zero, suc, ◌+◌, ◌<◌, ◌↔◌, Bool, true, false, List, [], ◌∷◌, ◌++◌, length, map, get_or, Some, None, slice_get, refl, sym, ap, subst, ◌∙◌, arith, ⊎_elim}
use Rattle.std.specs.Prelude.{IsTrue}
use Rattle.std.specs.List.{AllByRecursion}
use Rattle.std.proofs.lemmas.List.{length_push}
use mathlib.Core.List.{IsPrefix}
use lib.Dec.{eqb}
use lib.Pointwise.{bytes_decides, pointwise, pointwise_decides}
use Rattle.lt_face.specs.State.{State}
use Rattle.lt_face.proofs.RowLemmas.{each_weaker}
use Rattle.lt_model.specs.declared.normal.Stmt.{Stmt}
use Rattle.lt_model.specs.declared.reply.Reply.{Reply}
use Rattle.lt_model.specs.Fits.{Fits}
use Rattle.lt_delta.proofs.Owners.{own_same}
use Rattle.lt_base.specs.Tables.{Table, state_of}
use Rattle.lt_readers.specs.declared.version.Version.{Version}
use Rattle.lt_readers.specs.Lists.{IsHistory}
use Rattle.lt_readers.proofs.Beginnings.{prefix_get, prefix_self, some_same}
use Rattle.lt_readers.proofs.Fitting.{fits_at}
use Rattle.lt_runs.specs.Reading.{CountsAll, IsAllPosted, IsAnswer, IsReady, IsRight, MayCompare}
use Rattle.lt_runs.proofs.Asked.{answers_later, each_push, ready_fits}
use Rattle.lt_runs.proofs.Posted.{mapped_get}

got_there : (log : List Version) (i : ℕ) → i < length log → (v : Version) × (slice_get log i ≡ Some v)
got_there [] i below = absurd (omega (arith, below))
got_there (v ∷ log) zero below = (v, refl)
got_there (v ∷ log) (suc i) below = got_there log i (omega (arith, below))

-- what stands in a history at a number that was posted stands there in what was posted
same_place : (log all : List Version) (i : ℕ) (v : Version) → IsPrefix log all → i < length log → slice_get all i ≡ Some v → slice_get log i ≡ Some v
same_place log all i v pre below there =
    let u = got_there log i below in
    let same : u.0 ≡ v = some_same u.0 v (sym (prefix_get log all i u.0 pre u.1) ∙ there) in
    subst (λ (w : Version). slice_get log i ≡ Some w) same u.1

module _ (program : List Stmt) (versions : List (List Table)) (log all : List Version) (p : IsAllPosted versions log) (ready : IsReady program log) (h : IsHistory all) (pre : IsPrefix log all) where
  right_answer : (answer : ℕ × Reply) → IsAnswer program all answer → IsRight program versions answer
  right_answer answer a =
      let f = h p.first (prefix_get log all 0 p.first pre p.begins) a.place a.version a.there in
      let below : a.place < length log = omega (arith, f.0, f.1, f.2, p.number, p.most_is) in
      let here : slice_get log a.place ≡ Some a.version = same_place log all a.place a.version pre below a.there in
      let at : answer.0 ≡ suc a.place = omega (arith, a.number, f.0, p.number) in
      let state : State = state_of a.version.db in
      let listed : slice_get ([] ∷ map (λ (w : Version). state_of w.db) log) (suc a.place) ≡ Some state = mapped_get (λ (w : Version). state_of w.db) log a.place a.version here in
      record {
        state = state;
        there = subst (λ n. slice_get (map state_of versions) n ≡ Some state) (sym at) (subst (λ (ss : List State). slice_get ss (suc a.place) ≡ Some state) p.states listed);
        fits = fits_at log p.first a.version a.place program p.history p.begins here (ready_fits program log ready p.first p.begins);
        reply = a.reply;
      }

  right_answers : (answers : List (ℕ × Reply)) → AllByRecursion (IsAnswer program all) answers → AllByRecursion (IsRight program versions) answers
  right_answers answers each = each_weaker (IsAnswer program all) (IsRight program versions) right_answer answers each

-- what was learnt goes on what was seen and what was told
learnt : (old told new : List Version) → ((new ≡ told) × IsPrefix old told) ⊎ ((new ≡ old) × IsPrefix told old) → IsPrefix told new × IsPrefix old new
learnt old told new either =
    ⊎_elim
    (λ (t : (new ≡ told) × IsPrefix old told). (subst (IsPrefix told) (sym t.0) (prefix_self told), subst (IsPrefix old) (sym t.0) t.1))
    (λ (t : (new ≡ old) × IsPrefix told old). (subst (IsPrefix told) (sym t.0) t.1, subst (IsPrefix old) (sym t.0) (prefix_self old)))
    either

-- all of a reader's replies are right, once it has learnt what was posted
pub all_right : (program : List Stmt) (versions : List (List Table)) (log was told new : List Version) (answers : List (ℕ × Reply)) → IsAllPosted versions log → IsReady program log → told ≡ log
    → ((new ≡ told) × IsPrefix was told) ⊎ ((new ≡ was) × IsPrefix told was) → IsHistory new → AllByRecursion (IsAnswer program was) answers → AllByRecursion (IsRight program versions) answers
all_right program versions log was told new answers posted ready is either history each =
    let both = learnt was told new either in
    let pre : IsPrefix log new = subst (λ (l : List Version). IsPrefix l new) is both.0 in
    right_answers program versions log new posted ready history pre answers (answers_later program was new answers both.1 each)

pub may_compare : (program : List Stmt) (versions : List (List Table)) (answer : ℕ × Reply) → IsRight program versions answer → MayCompare program versions answer.0
may_compare program versions answer r state there = let same : r.state ≡ state = cc (r.there, there) in subst (λ (s : State). Fits s program) same r.fits

pub not_mapped : {X Y : Type 0} (f : X → Y) (xs : List X) (i : ℕ) → slice_get xs i ≡ None → slice_get (map f xs) i ≡ None
not_mapped f [] i is = refl
not_mapped f (x ∷ xs) zero is = absurd cc
not_mapped f (x ∷ xs) (suc i) is = not_mapped f xs i is

-- the state of the version that is there
pub right_state : (program : List Stmt) (versions : List (List Table)) (answer : ℕ × Reply) (db : List Table) (r : IsRight program versions answer) → slice_get versions answer.0 ≡ Some db → r.state ≡ state_of db
right_state program versions answer db r there = let here = mapped_get state_of versions answer.0 db there in cc (r.there, here)

-- nothing is right of a version that isn't there
pub none_right : (program : List Stmt) (versions : List (List Table)) (answer : ℕ × Reply) → IsRight program versions answer → slice_get versions answer.0 ≡ None → ⊥
none_right program versions answer r none = let gone = not_mapped state_of versions answer.0 none in absurd (cc (r.there, gone))

-- ---- what is equal

-- equal lists have the same at each place
pub same_at : {X : Type 0} (xs ys : List X) (i : ℕ) (x y : X) → i < length xs → i < length ys → x ≡ get_or xs i x → y ≡ get_or ys i y → xs ≡ ys → x ≡ y
same_at xs ys i x y in_xs in_ys is_x is_y same = own_same (λ z. z) xs ys i x y in_xs in_ys is_x is_y (ap (map (λ z. z)) same)

pub rows_decide : (xs ys : List (List ℕ)) → (pointwise (pointwise eqb) xs ys ≡ true → xs ≡ ys) × (xs ≡ ys → pointwise (pointwise eqb) xs ys ≡ true)
rows_decide = pointwise_decides bytes_decides

-- ---- how many are right

each_before : {X : Type 0} (P : X → Type 0) (xs : List X) (x : X) → AllByRecursion P (xs ++ x ∷ []) → AllByRecursion P xs × P x
each_before P [] x all = (tt, all.0)
each_before P (y ∷ xs) x all = let rest = each_before P xs x all.1 in ((all.0, rest.0), rest.1)

pub counts_none : {X : Type 0} (P : X → Type 0) → CountsAll P [] 0
counts_none P = record { within = omega arith; all = λ h. refl; only = λ h. tt }

pub counts_more : {X : Type 0} (P : X → Type 0) (xs : List X) (x : X) (same : Bool) (before after : ℕ) → (IsTrue same ↔ P x) → (same ≡ true → after ≡ before + 1) → (same ≡ false → after ≡ before)
    → CountsAll P xs before → CountsAll P (xs ++ x ∷ []) after
counts_more P xs x true before after told more stays c =
    let n = length_push xs x in
    let grown = more refl in
    record {
      within = omega (arith, c.within, grown, n);
      all = λ h. let parts = each_before P xs x h in omega (arith, c.all parts.0, grown, n);
      only = λ h. each_push P xs x (c.only (omega (arith, h, grown, n))) (told.0 refl);
    }
counts_more P xs x false before after told more stays c =
    let n = length_push xs x in
    let kept = stays refl in
    record {
      within = omega (arith, c.within, kept, n);
      all = λ h. let parts = each_before P xs x h in let never : false ≡ true = told.1 parts.1 in absurd cc;
      only = λ h. absurd (omega (arith, h, kept, n, c.within));
    }
