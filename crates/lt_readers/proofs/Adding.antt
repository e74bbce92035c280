-- A version is added to the history.
use Rattle.std.proofs.Common.{◌≡◌, ℕ, zero, suc, ◌+◌, ◌<◌, ◌≤◌, ◌==◌, ◌⊎◌, Bool, true, false, List, [], ◌∷◌, ◌++◌, length, Some, None, slice_get, refl, ap, sym, subst, ◌∙◌, arith, inl, inr, ⊎_elim, length-append}
use Rattle.std.proofs.lemmas.List.{append-nil}
use Rattle.std.proofs.lemmas.Bool.Decides.{nat_tests}
use mathlib.Core.List.{IsPrefix}
use prog.Atomic.{either}
use Rattle.logbook.specs.Pages.{Cell, cell, keeps, no_nib, step, Moves, Goes}
use Rattle.lt_base.specs.Tables.{Table, state_of}
use Rattle.lt_readers.specs.declared.version.Version.{Version}
use Rattle.lt_readers.specs.Lists.{EndsIn, IsHistory, Follows, MayFollow, HasRelations}
use Rattle.lt_readers.specs.History.{IsKept, Adds}
use Rattle.lt_readers.proofs.Beginnings.{prefix_whole, prefix_get, last_get, first_get, some_same}

pub ends_snoc : (log : List Version) (e : Version) → EndsIn (log ++ e ∷ []) e
ends_snoc [] e = refl
ends_snoc (u ∷ []) e = refl
ends_snoc (u ∷ (w ∷ rest)) e = ends_snoc (w ∷ rest) e

snoc_get : (log : List Version) (e v : Version) (i : ℕ) → slice_get (log ++ e ∷ []) i ≡ Some v → (slice_get log i ≡ Some v) ⊎ ((i ≡ length log) × (e ≡ v))
snoc_get [] e v zero h = inr (refl, some_same e v h)
snoc_get [] e v (suc i) h = absurd cc
snoc_get (u ∷ log) e v zero h = inl h
snoc_get (u ∷ log) e v (suc i) h = ⊎_elim (λ t. inl t) (λ (t : (i ≡ length log) × (e ≡ v)). inr (ap suc t.0, t.1)) (snoc_get log e v i h)

-- what follows the last follows the first
after_last : (u l e : Version) (n i : ℕ) → Follows u n l → (e.number ≡ l.number + 1) → (e.most ≡ l.most) → (e.number ≤ e.most) → HasRelations (state_of l.db) (state_of e.db) → i ≡ suc n → Follows u i e
after_last u l e n i f number most bound relations is =
    (omega (arith, f.0, number, is), most ∙ f.1, bound, λ relation width wide. relations relation width (f.3 relation width wide))

follows_snoc : (log : List Version) (e u v : Version) (i : ℕ) → IsHistory log → MayFollow log e → slice_get log 0 ≡ Some u → slice_get (log ++ e ∷ []) i ≡ Some v → Follows u i v
follows_snoc log e u v i h m begins at =
    let l = last_get log m.0 m.1 in
    ⊎_elim
    (λ (t : slice_get log i ≡ Some v). h u begins i v t)
    (λ (t : (i ≡ length log) × (e ≡ v)). subst (λ (w : Version). Follows u i w) t.1 (after_last u m.0 e l.0 i (h u begins l.0 m.0 l.2) m.2 m.3 m.4 m.5 (t.0 ∙ l.1)))
    (snoc_get log e v i at)

pub history_snoc : (log : List Version) (e : Version) → IsHistory log → MayFollow log e → IsHistory (log ++ e ∷ [])
history_snoc log e h m first begins i v at =
    let u = first_get log m.0 m.1 in
    let same : u.0 ≡ first = some_same u.0 first (sym (prefix_get log (log ++ e ∷ []) 0 u.0 (e ∷ [], refl) u.1) ∙ begins) in
    subst (λ (w : Version). Follows w i v) same (follows_snoc log e u.0 v i h m u.1 at)

-- fewer were posted than the next number tells
pub posts_below : (log : List Version) (e : Version) (posts : ℕ) → IsHistory log → MayFollow log e → length log ≡ suc posts → posts + 1 ≤ e.number
posts_below log e posts h m count =
    let l = last_get log m.0 m.1 in
    let u = first_get log m.0 m.1 in
    let is : m.0.number ≡ u.0.number + l.0 = (h u.0 u.1 l.0 m.0 l.2).0 in
    omega (arith, is, m.2, l.1, count)

pub history_one : (v : Version) → v.number ≤ v.most → IsHistory (v ∷ [])
history_one v bound first begins zero w at =
    let a : v ≡ first = some_same v first begins in
    let b : v ≡ w = some_same v w at in
    subst (λ (f : Version). Follows f 0 w) a (subst (λ (x : Version). Follows v 0 x) b (omega arith, refl, bound, λ relation width wide. wide))
history_one v bound first begins (suc i) w at = absurd cc

abbrev pub shown : List Version → List Version
shown log = []

abbrev pub moved : List Version → List Version → ℕ → Type 0
moved xs ys n = Unit {0}

adds_goes : (log v : List Version) (e : Version) (old posts : ℕ) → length v ≡ suc old → MayFollow v e → length log ≡ suc posts → IsHistory log → IsPrefix v log
    → (b : Bool) → (posts == old) ≡ b
    → Goes IsKept shown moved 0 (v, (no_nib, None)) (λ n. either (n == old) (old + 1) n) (Adds (step 0 old (old + 1) e) (v, (no_nib, None))) ((posts, true) ∷ []) log
adds_goes log v e old posts len may count legal pre true is =
    let here : posts ≡ old = grind (arith, nat_tests) in
    let same : v ≡ log = prefix_whole v log pre (omega (arith, len, count, here)) in
    let may' : MayFollow log e = subst (λ (l : List Version). MayFollow l e) same may in
    let n : length (log ++ e ∷ []) ≡ suc (either (posts == old) (old + 1) posts) = rw is (omega (arith, length-append log (e ∷ []), count, here)) in (
      keeps,
      e ∷ [],
      None,
      tt,
      record { posts = either (posts == old) (old + 1) posts; words = refl; count = n; legal = history_snoc log e legal may' },
      inl (refl, refl),
      rw is (ap (λ w. w ++ e ∷ []) (sym same)),
    )
adds_goes log v e old posts len may count legal pre false is =
    let all : log ++ [] ≡ log = append-nil log in
    let n : length (log ++ []) ≡ suc (either (posts == old) (old + 1) posts) = rw is (ap length all ∙ count) in (
      keeps,
      [],
      None,
      tt,
      record { posts = either (posts == old) (old + 1) posts; words = refl; count = n; legal = subst IsHistory (sym all) legal },
      inl (refl, refl),
      rw is tt,
    )

-- whatever the history is, the exchange adds the version to all that was seen, or finds that it is longer
pub adds_moves : (v : List Version) (e : Version) (old : ℕ) → length v ≡ suc old → MayFollow v e
    → Moves IsKept shown moved 0 (v, (no_nib, None)) (λ n. either (n == old) (old + 1) n) (Adds (step 0 old (old + 1) e) (v, (no_nib, None)))
adds_moves v e old len may cs log kept pre away =
    let P : List Cell → Type 0 = λ c. (0 < length c) × ((cell c 0).1 ≡ true) × Goes IsKept shown moved 0 (v, (no_nib, None)) (λ n. either (n == old) (old + 1) n) (Adds (step 0 old (old + 1) e) (v, (no_nib, None))) c log in
    subst P (sym kept.words) (omega arith, refl, adds_goes log v e old kept.posts len may kept.count kept.legal pre (kept.posts == old) refl)

pub same_last : (log : List Version) (v w : Version) → EndsIn log v → EndsIn log w → v ≡ w
same_last log v w a b = some_same v w (sym a ∙ b)

-- the version that a database is posted as may come next
pub may_follow : (log : List Version) (l w : Version) (db : List Table) → EndsIn log l → l.number < l.most → HasRelations (state_of l.db) (state_of db)
    → w ≡ record { number = l.number + 1; most = l.most; db = db } → MayFollow log w
may_follow log l w db ends room relations is =
    subst (λ (x : Version). MayFollow log x) (sym is) (l, ends, refl, refl, omega (arith, room), relations)
