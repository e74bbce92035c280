-- The least row from a row on, where rows are laid over others.
use Rattle.std.proofs.Common.{◌≡◌, ◌<◌, ◌≤◌, Bool, true, false, cond, not, ◌||◌, List, [], ◌∷◌, length, Option, Some, None, refl, sym, ap, ◌∙◌, subst, arith}
use Rattle.std.specs.Prelude.{fold, filter, find}
use mathlib.Core.Bool.{true≢false}
use Rattle.std.specs.List.{AllByRecursion}
use Rattle.std.specs.Ordering.{is_lt, is_eq}
use Rattle.std.specs.declared.cmp.Ordering.{Ordering}
use Rattle.std.specs.declared.cmp.Ordering.TheVariants.{Less, Equal, Greater}
use Rattle.lt_face.specs.Rows.{row_cmp, by_order, IsAscending, has_row, with_row, first_from, first_above}
use Rattle.lt_face.specs.State.{Row}
use Rattle.lt_face.proofs.RowLemmas.{rows_total, rows_exact, cmp_itself, less_back, greater_back, each_weaker, each_filter}
use Rattle.lt_face.proofs.Above.{find_agree}
use Rattle.lt_model.proofs.Laws.{itself}
use Rattle.lt_flat.specs.Flat.{kept}
use Rattle.lt_over.specs.Overlaid.{overlaid, lesser, is_reached}
use Rattle.lt_over.proofs.Overlays.{bare_rows}

-- a row above one that isn't below q isn't below q
pub up_from : (a b q : Row) → row_cmp a b ≡ Less → is_lt (row_cmp a q) ≡ false → is_lt (row_cmp b q) ≡ false
up_from a b q less h = by (row_cmp b q) refl
  where
    by : (o : Ordering) → row_cmp b q ≡ o → is_lt o ≡ false
    by Less e = absurd (true≢false (sym (ap is_lt (rows_total.trans a b q less e)) ∙ h))
    by Equal e = refl
    by Greater e = refl

some_same : {X : Type 0} (x y : X) → Some x ≡ Some y → x ≡ y
some_same x y e = cc

-- ---- what a search finds

pub found_each : (P : Row → Type 0) (p : Row → Bool) (rows : List Row) (r : Row) → AllByRecursion P rows → find p rows ≡ Some r → P r
found_each P p [] r all h = absurd cc
found_each P p (x ∷ rows) r all h =
    elim (p x) as (λ b. cond b (Some x) (find p rows) ≡ Some r → P r) [
      | true ↦ λ e. subst P (some_same x r e) all.0
      | false ↦ λ e. found_each P p rows r all.1 e
    ] h

or_true : (b : Bool) → (b || true) ≡ true
or_true true = refl
or_true false = refl

pub found_has : (p : Row → Bool) (rows : List Row) (r : Row) → find p rows ≡ Some r → has_row rows r ≡ true
found_has p [] r h = absurd cc
found_has p (x ∷ rows) r h =
    elim (p x) as (λ b. cond b (Some x) (find p rows) ≡ Some r → (is_eq (row_cmp x r) || has_row rows r) ≡ true) [
      | true ↦ λ e. subst (λ (s : Row). (is_eq (row_cmp x s) || has_row rows s) ≡ true) (some_same x r e) (ap (λ b. b || has_row rows x) (itself x))
      | false ↦ λ e. ap (λ b. is_eq (row_cmp x r) || b) (found_has p rows r e) ∙ or_true (is_eq (row_cmp x r))
    ] h

pub found_passes : (p : Row → Bool) (rows : List Row) (r : Row) → find p rows ≡ Some r → p r ≡ true
found_passes p [] r h = absurd cc
found_passes p (x ∷ rows) r h =
    elim (p x) as (λ b. p x ≡ b → cond b (Some x) (find p rows) ≡ Some r → p r ≡ true) [
      | true ↦ λ is e. subst (λ (s : Row). p s ≡ true) (some_same x r e) is
      | false ↦ λ is e. found_passes p rows r e
    ] refl h

-- a search passes a row that fails, be it kept or not
skipped : (p : Row → Bool) (k : Bool) (x : Row) (rows : List Row) → p x ≡ false → find p (cond k (x ∷ rows) rows) ≡ find p rows
skipped p true x rows fails = ap (λ b. cond b (Some x) (find p rows)) fails
skipped p false x rows fails = refl

pub kept_none : (p : Row → Bool) (base gone : List Row) → find p base ≡ None → find p (kept base gone) ≡ None
kept_none p [] gone h = refl
kept_none p (x ∷ base) gone h =
    elim (p x) as (λ b. p x ≡ b → cond b (Some x) (find p base) ≡ None → find p (kept (x ∷ base) gone) ≡ None) [
      | true ↦ λ is e. absurd cc
      | false ↦ λ is e. skipped p (not (has_row gone x)) x (kept base gone) is ∙ kept_none p base gone e
    ] refl h

pub kept_here : (p : Row → Bool) (base gone : List Row) (r : Row) → find p base ≡ Some r → has_row gone r ≡ false → find p (kept base gone) ≡ Some r
kept_here p [] gone r h stays = absurd cc
kept_here p (x ∷ base) gone r h stays =
    elim (p x) as (λ b. p x ≡ b → cond b (Some x) (find p base) ≡ Some r → find p (kept (x ∷ base) gone) ≡ Some r) [
      | true ↦ λ is e.
          let same : x ≡ r = some_same x r e in
          let here : has_row gone x ≡ false = ap (has_row gone) same ∙ stays in
          ap (λ b. find p (cond (not b) (x ∷ kept base gone) (kept base gone))) here ∙ ap (λ b. cond b (Some x) (find p (kept base gone))) is ∙ e
      | false ↦ λ is e. skipped p (not (has_row gone x)) x (kept base gone) is ∙ kept_here p base gone r e stays
    ] refl h

-- where the least row that passes is taken out, the search goes on above it
pub kept_past : (p : Row → Bool) (base gone : List Row) (r : Row) → ((a b : Row) → row_cmp a b ≡ Less → p a ≡ true → p b ≡ true) → IsAscending base → find p base ≡ Some r → has_row gone r ≡ true → find p (kept base gone) ≡ first_above (kept base gone) r
kept_past p [] gone r up rises h out = absurd cc
kept_past p (x ∷ base) gone r up rises h out =
    elim (p x) as (λ b. p x ≡ b → cond b (Some x) (find p base) ≡ Some r → find p (kept (x ∷ base) gone) ≡ first_above (kept (x ∷ base) gone) r) [
      | true ↦ λ is e.
          let same : x ≡ r = some_same x r e in
          let here : has_row gone x ≡ true = ap (has_row gone) same ∙ out in
          rw here
          (find_agree p (λ s. is_lt (row_cmp r s)) (kept base gone)
          (each_filter (λ s. p s ≡ is_lt (row_cmp r s)) (λ s. not (has_row gone s)) base
          (each_weaker (λ s. row_cmp x s ≡ Less) (λ s. p s ≡ is_lt (row_cmp r s)) (λ s k. up x s k is ∙ sym (ap is_lt (ap (λ (t : Row). row_cmp t s) (sym same) ∙ k))) base rises.0)))
      | false ↦ λ is e.
          let lower : row_cmp x r ≡ Less = found_each (λ s. row_cmp x s ≡ Less) p base r rises.0 e in
          let fails : is_lt (row_cmp r x) ≡ false = ap is_lt (less_back x r lower) in
          skipped p (not (has_row gone x)) x (kept base gone) is
          ∙ kept_past p base gone r up rises.1 e out
          ∙ sym (skipped (λ s. is_lt (row_cmp r s)) (not (has_row gone x)) x (kept base gone) fails)
    ] refl h

-- ---- fewer rows are left

pub le_filter : (p q : Row → Bool) (rows : List Row) → ((s : Row) → q s ≡ true → p s ≡ true) → length (filter q rows) ≤ length (filter p rows)
le_filter p q [] more = omega arith
le_filter p q (x ∷ rows) more =
    elim (q x) as (λ b. q x ≡ b → length (cond b (x ∷ filter q rows) (filter q rows)) ≤ length (filter p (x ∷ rows))) [
      | true ↦ λ e. rw (more x e) (omega (arith, le_filter p q rows more))
      | false ↦ λ e. elim (p x) as (λ b. length (filter q rows) ≤ length (cond b (x ∷ filter p rows) (filter p rows))) [ true ↦ omega (arith, le_filter p q rows more) | false ↦ le_filter p q rows more ]
    ] refl

pub fewer : (p q : Row → Bool) (rows : List Row) (r : Row) → ((s : Row) → q s ≡ true → p s ≡ true) → find p rows ≡ Some r → q r ≡ false → length (filter q rows) < length (filter p rows)
fewer p q [] r more h out = absurd cc
fewer p q (x ∷ rows) r more h out =
    elim (p x) as (λ b. p x ≡ b → cond b (Some x) (find p rows) ≡ Some r → length (filter q (x ∷ rows)) < length (cond b (x ∷ filter p rows) (filter p rows))) [
      | true ↦ λ is e.
          let off : q x ≡ false = ap q (some_same x r e) ∙ out in
          rw off (omega (arith, le_filter p q rows more))
      | false ↦ λ is e. rw (fails (q x) refl is) (fewer p q rows r more e out)
    ] refl h
  where
    fails : (b : Bool) → q x ≡ b → p x ≡ false → q x ≡ false
    fails true e is = absurd (true≢false (sym (more x e) ∙ is))
    fails false e is = e

-- ---- the lesser of two

pub first-with_row : (rows : List Row) (row q : Row) → first_from (with_row rows row) q ≡ cond (is_lt (row_cmp row q)) (first_from rows q) (lesser (first_from rows q) (Some row))
first-with_row [] row q = elim (is_lt (row_cmp row q)) as (λ b. cond (not b) (Some row) None ≡ cond b None (Some row)) [ true ↦ refl | false ↦ refl ]
first-with_row (r ∷ rs) row q =
    elim (row_cmp r row) as (λ o. row_cmp r row ≡ o → first_from (by_order o (r ∷ with_row rs row) (r ∷ rs) (row ∷ (r ∷ rs))) q ≡ cond (is_lt (row_cmp row q)) (first_from (r ∷ rs) q) (lesser (first_from (r ∷ rs) q) (Some row))) [
      | Less ↦ λ e. low (is_lt (row_cmp r q)) refl (first-with_row rs row q) (ap is_lt (less_back r row e))
      | Equal ↦ λ e. let same : r ≡ row = rows_exact r row e in tie same (is_lt (row_cmp row q)) refl
      | Greater ↦ λ e. high (greater_back r row e) (is_lt (row_cmp row q)) refl
    ] refl
  where
    both : (c : Bool) → Some r ≡ cond c (Some r) (Some r)
    both true = refl
    both false = refl

    low : (b : Bool) → is_lt (row_cmp r q) ≡ b → first_from (with_row rs row) q ≡ cond (is_lt (row_cmp row q)) (first_from rs q) (lesser (first_from rs q) (Some row)) → is_lt (row_cmp row r) ≡ false → first_from (r ∷ with_row rs row) q ≡ cond (is_lt (row_cmp row q)) (first_from (r ∷ rs) q) (lesser (first_from (r ∷ rs) q) (Some row))
    low true e more off = rw e more
    low false e more off = rw (e, off) (both (is_lt (row_cmp row q)))

    tie : r ≡ row → (b : Bool) → is_lt (row_cmp row q) ≡ b → first_from (r ∷ rs) q ≡ cond (is_lt (row_cmp row q)) (first_from (r ∷ rs) q) (lesser (first_from (r ∷ rs) q) (Some row))
    tie same true e = ap (λ b. cond b (first_from (r ∷ rs) q) (lesser (first_from (r ∷ rs) q) (Some row))) (sym e)
    tie same false e =
        let here : is_lt (row_cmp r q) ≡ false = ap (λ (s : Row). is_lt (row_cmp s q)) same ∙ e in
        let off : is_lt (row_cmp row r) ≡ false = ap (λ (s : Row). is_lt (row_cmp s r)) (sym same) ∙ ap is_lt (cmp_itself r) in
        rw (here, off) (both (is_lt (row_cmp row q)))

    high : row_cmp row r ≡ Less → (b : Bool) → is_lt (row_cmp row q) ≡ b → first_from (row ∷ (r ∷ rs)) q ≡ cond (is_lt (row_cmp row q)) (first_from (r ∷ rs) q) (lesser (first_from (r ∷ rs) q) (Some row))
    high less true e = rw e refl
    high less false e =
        let there : is_lt (row_cmp r q) ≡ false = up_from row r q less e in
        rw (e, there, less) refl

lesser_none : (o : Option Row) → lesser o None ≡ o
lesser_none None = refl
lesser_none (Some x) = refl

absorbed : (a : Option Row) (p : Row) (c : Option Row) → ((s : Row) → c ≡ Some s → row_cmp p s ≡ Less) → lesser (lesser a (Some p)) c ≡ lesser a (Some p)
absorbed a p None h = lesser_none (lesser a (Some p))
absorbed None p (Some s) h = rw (less_back p s (h s refl)) refl
absorbed (Some x) p (Some s) h =
    elim (is_lt (row_cmp p x)) as (λ b. is_lt (row_cmp p x) ≡ b → lesser (cond b (Some p) (Some x)) (Some s) ≡ cond b (Some p) (Some x)) [
      | true ↦ λ e. rw (less_back p s (h s refl)) refl
      | false ↦ λ e. rw (up_from p s x (h s refl) e) refl
    ] refl

-- the least of two sets of rows is the lesser of their least
first-fold : (rows come : List Row) (q : Row) → IsAscending come → first_from (fold with_row rows come) q ≡ lesser (first_from rows q) (first_from come q)
first-fold rows [] q up = sym (lesser_none (first_from rows q))
first-fold rows (p ∷ come) q up =
    first-fold (with_row rows p) come q up.1
    ∙ ap (λ o. lesser o (first_from come q)) (first-with_row rows p q)
    ∙ join (first_from rows q) (is_lt (row_cmp p q)) refl
  where
    join : (a : Option Row) (b : Bool) → is_lt (row_cmp p q) ≡ b → lesser (cond (is_lt (row_cmp p q)) a (lesser a (Some p))) (first_from come q) ≡ lesser a (first_from (p ∷ come) q)
    join a true e = rw e refl
    join a false e = rw e (absorbed a p (first_from come q) (λ s h. found_each (λ t. row_cmp p t ≡ Less) (λ r. not (is_lt (row_cmp r q))) come s up.0 h))

pub first-overlaid : (base gone come : List Row) (q : Row) (b z : Option Row) → IsAscending come → b ≡ first_from come q → z ≡ lesser (first_from (kept base gone) q) b → z ≡ first_from (overlaid base gone come) q
first-overlaid base gone come q b z up is_b is_z = is_z ∙ ap (λ o. lesser (first_from (kept base gone) q) o) is_b ∙ sym (first-fold (kept base gone) come q up)

-- ---- what is asked of a row holds of those above it

less_is : (o : Ordering) → is_lt o ≡ true → o ≡ Less
less_is Less h = refl
less_is Equal h = absurd (true≢false (sym h))
less_is Greater h = absurd (true≢false (sym h))

pub above_up : (r a b : Row) → row_cmp a b ≡ Less → is_lt (row_cmp r a) ≡ true → is_lt (row_cmp r b) ≡ true
above_up r a b less h = ap is_lt (rows_total.trans r a b (less_is (row_cmp r a) h) less)

pub from_up : (q a b : Row) → row_cmp a b ≡ Less → not (is_lt (row_cmp a q)) ≡ true → not (is_lt (row_cmp b q)) ≡ true
from_up q a b less h = ap not (up_from a b q less (not_true (is_lt (row_cmp a q)) h))
  where
    not_true : (b : Bool) → not b ≡ true → b ≡ false
    not_true true e = absurd (true≢false (sym e))
    not_true false e = refl

pub lower_than : (r a s : Row) → is_lt (row_cmp r a) ≡ true → is_lt (row_cmp a s) ≡ true → is_lt (row_cmp r s) ≡ true
lower_than r a s h k = above_up r a s (less_is (row_cmp a s) k) h

-- ---- the same, of the two searches

pub from_none : (base gone : List Row) (q : Row) → first_from base q ≡ None → first_from (kept base gone) q ≡ None
from_none base gone q h = kept_none (λ r. not (is_lt (row_cmp r q))) base gone h

pub from_here : (base gone : List Row) (q r : Row) → first_from base q ≡ Some r → has_row gone r ≡ false → first_from (kept base gone) q ≡ Some r
from_here base gone q r h stays = kept_here (λ s. not (is_lt (row_cmp s q))) base gone r h stays

pub from_past : (base gone : List Row) (q r : Row) → IsAscending base → first_from base q ≡ Some r → has_row gone r ≡ true → first_from (kept base gone) q ≡ first_above (kept base gone) r
from_past base gone q r up h out = kept_past (λ s. not (is_lt (row_cmp s q))) base gone r (from_up q) up h out

pub from_has : (base : List Row) (q r : Row) → first_from base q ≡ Some r → has_row base r ≡ true
from_has base q r h = found_has (λ s. not (is_lt (row_cmp s q))) base r h

pub above_none : (base gone : List Row) (r : Row) → first_above base r ≡ None → first_above (kept base gone) r ≡ None
above_none base gone r h = kept_none (λ s. is_lt (row_cmp r s)) base gone h

pub above_here : (base gone : List Row) (r s : Row) → first_above base r ≡ Some s → has_row gone s ≡ false → first_above (kept base gone) r ≡ Some s
above_here base gone r s h stays = kept_here (λ t. is_lt (row_cmp r t)) base gone s h stays

pub above_past : (base gone : List Row) (r s : Row) → IsAscending base → first_above base r ≡ Some s → has_row gone s ≡ true → first_above (kept base gone) r ≡ first_above (kept base gone) s
above_past base gone r s up h out = kept_past (λ t. is_lt (row_cmp r t)) base gone s (above_up r) up h out

pub above_has : (base : List Row) (r s : Row) → first_above base r ≡ Some s → has_row base s ≡ true
above_has base r s h = found_has (λ t. is_lt (row_cmp r t)) base s h

pub above_fewer : (base : List Row) (r s : Row) → first_above base r ≡ Some s → length (filter (λ t. is_lt (row_cmp s t)) base) < length (filter (λ t. is_lt (row_cmp r t)) base)
above_fewer base r s h =
    fewer (λ t. is_lt (row_cmp r t)) (λ t. is_lt (row_cmp s t)) base s
    (λ t k. lower_than r s t (found_passes (λ u. is_lt (row_cmp r u)) base s h) k) h (ap is_lt (cmp_itself s))

-- ---- a row that is put in comes first

not_below_through : (k r p : Row) → is_lt (row_cmp k r) ≡ false → is_lt (row_cmp r p) ≡ false → is_lt (row_cmp k p) ≡ false
not_below_through k r p above more = by (row_cmp k p) refl
  where
    off : (o : Ordering) → row_cmp r p ≡ o → is_lt (row_cmp r p) ≡ false → row_cmp k p ≡ Less → row_cmp k r ≡ Less
    off Less e h less = absurd (true≢false (sym (ap is_lt e) ∙ h))
    off Equal e h less = subst (λ (s : Row). row_cmp k s ≡ Less) (sym (rows_exact r p e)) less
    off Greater e h less = rows_total.trans k p r less (greater_back r p e)

    by : (o : Ordering) → row_cmp k p ≡ o → is_lt o ≡ false
    by Less e = absurd (true≢false (sym (ap is_lt (off (row_cmp r p) refl more e)) ∙ above))
    by Equal e = refl
    by Greater e = refl

lesser_reached : (a : Option Row) (r p : Row) → ((k : Row) → a ≡ Some k → is_lt (row_cmp k r) ≡ false) → is_lt (row_cmp r p) ≡ false → lesser a (Some p) ≡ Some p
lesser_reached None r p above more = refl
lesser_reached (Some k) r p above more =
    elim (row_cmp p k) as (λ o. row_cmp p k ≡ o → cond (is_lt o) (Some p) (Some k) ≡ Some p) [
      | Less ↦ λ e. refl
      | Equal ↦ λ e. ap Some (sym (rows_exact p k e))
      | Greater ↦ λ e. absurd (true≢false (sym (ap is_lt (greater_back p k e)) ∙ not_below_through k r p (above k refl) more))
    ] refl

-- what is kept isn't below the first of all
kept_not_below : (p : Row → Bool) (base gone : List Row) (r k : Row) → IsAscending base → find p base ≡ Some r → find p (kept base gone) ≡ Some k → is_lt (row_cmp k r) ≡ false
kept_not_below p [] gone r k up h there = absurd cc
kept_not_below p (x ∷ base) gone r k up h there =
    elim (p x) as (λ b. p x ≡ b → cond b (Some x) (find p base) ≡ Some r → is_lt (row_cmp k r) ≡ false) [
      | true ↦ λ is e.
          let same : x ≡ r = some_same x r e in
          subst (λ (s : Row). is_lt (row_cmp k s) ≡ false) same (first (not (has_row gone x)) is there)
      | false ↦ λ is e. kept_not_below p base gone r k up.1 e (sym (skipped p (not (has_row gone x)) x (kept base gone) is) ∙ there)
    ] refl h
  where
    first : (b : Bool) → p x ≡ true → find p (cond b (x ∷ kept base gone) (kept base gone)) ≡ Some k → is_lt (row_cmp k x) ≡ false
    first true is e = let here : x ≡ k = some_same x k (sym (ap (λ c. cond c (Some x) (find p (kept base gone))) is) ∙ e) in ap is_lt (ap (λ (s : Row). row_cmp s x) (sym here) ∙ cmp_itself x)
    first false is e = ap is_lt (less_back x k (found_each (λ s. row_cmp x s ≡ Less) p (kept base gone) k (each_filter (λ s. row_cmp x s ≡ Less) (λ s. not (has_row gone s)) base up.0) e))

stops : (p : Row → Bool) (base gone : List Row) (r : Row) (more : Option Row) → IsAscending base → find p base ≡ Some r → is_reached more r ≡ true → lesser (find p (kept base gone)) more ≡ more
stops p base gone r None up h reached = absurd (true≢false (sym reached))
stops p base gone r (Some put) up h reached =
    lesser_reached (find p (kept base gone)) r put (λ k e. kept_not_below p base gone r k up h e) (not_true (is_lt (row_cmp r put)) reached)
  where
    not_true : (b : Bool) → not b ≡ true → b ≡ false
    not_true true e = absurd (true≢false (sym e))
    not_true false e = refl

pub lesser_before : (more : Option Row) (r : Row) → is_reached more r ≡ false → lesser (Some r) more ≡ Some r
lesser_before None r off = refl
lesser_before (Some put) r off =
    elim (row_cmp r put) as (λ o. row_cmp r put ≡ o → not (is_lt o) ≡ false → lesser (Some r) (Some put) ≡ Some r) [
      | Less ↦ λ e h. rw (less_back r put e) refl
      | Equal ↦ λ e h. absurd (true≢false h)
      | Greater ↦ λ e h. absurd (true≢false h)
    ] refl off

pub from_stops : (base gone : List Row) (q r : Row) (more : Option Row) → IsAscending base → first_from base q ≡ Some r → is_reached more r ≡ true → lesser (first_from (kept base gone) q) more ≡ more
from_stops base gone q r more up h reached = stops (λ s. not (is_lt (row_cmp s q))) base gone r more up h reached

pub above_stops : (base gone : List Row) (r s : Row) (more : Option Row) → IsAscending base → first_above base r ≡ Some s → is_reached more s ≡ true → lesser (first_above (kept base gone) r) more ≡ more
above_stops base gone r s more up h reached = stops (λ t. is_lt (row_cmp r t)) base gone s more up h reached

-- with nothing laid over it the base's least row is the least
pub first-bare : (base gone come : List Row) (q : Row) (first : Option Row) → gone ≡ [] → come ≡ [] → first ≡ first_from base q → first ≡ first_from (overlaid base gone come) q
first-bare base gone come q first none no_more is = is ∙ ap (λ (rows : List Row). first_from rows q) (sym (bare_rows base gone come none no_more))
