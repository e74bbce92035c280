-- The iterators of a level are opened one after another, each from where the one before stands, or all at one key.
use Rattle.std.specs.Prelude.{◌≡◌, ◌≢◌, ℕ, zero, suc, ◌+◌, ◌-◌, ◌^◌, ◌<◌, ◌≤◌, nat_le, true, false, List, [], ◌∷◌, ◌++◌, map, length, slice_get, Some}
use Rattle.std.specs.List.{AllByRecursion}
use Rattle.std.proofs.Common.{refl, sym, ap, ◌∙◌, subst, inl, inr, cond, arith, get_or, set}
use Rattle.std.proofs.lemmas.Option.{slice_get_within}
use Rattle.lt_face.specs.Keys.{IsKeyList, end_key, least_from}
use Rattle.lt_face.proofs.KeyLemmas.{least_above}
use Rattle.lt_face.specs.Lists.{IsIn}
use Rattle.lt_face.specs.State.{State}
use Rattle.lt_face.specs.declared.key.Gap.{Gap}
use Rattle.lt_query.specs.declared.plans.Plan.{Plan}
use Rattle.lt_sense.specs.Kept.{Sense}
use Rattle.lt_sense.specs.Sense.{IsTight}
use Rattle.lt_join.specs.AtomIter.{AtomView, atom_keys, atom_here, atom_still}
use Rattle.lt_join.specs.Level.{IsOpenedFrom, AreOpened, AreSensed, HoldsAt, RiseFrom, heres_of, lists_of}
use Rattle.lt_join.specs.Told.{TakesGap}
use Rattle.lt_join.proofs.Opened.{opened_none, opened_more, opened_end, holder_opened}
use Rattle.lt_join.proofs.OpenedAtoms.{opened_still}
use Rattle.lt_join.proofs.Sensed.{AreSensed-none, AreSensed-chain, AreSensed-within, AreSensed-move, open_keys}

-- ---- what those at some places have

mapped_other : {X Y : Type 0} (f : Y → X) (d : X) (xs : List Y) (p q : ℕ) (y : Y) → q ≢ p → get_or (map f (set xs p y)) q d ≡ get_or (map f xs) q d
mapped_other f d [] p q y ne = refl
mapped_other f d (x ∷ xs) zero zero y ne = absurd (ne refl)
mapped_other f d (x ∷ xs) zero (suc q) y ne = refl
mapped_other f d (x ∷ xs) (suc p) zero y ne = refl
mapped_other f d (x ∷ xs) (suc p) (suc q) y ne = mapped_other f d xs p q y (λ same. ne (ap suc same))

mapped_same : {X Y : Type 0} (f : Y → X) (d : X) (xs : List Y) (p : ℕ) (y : Y) → p < length xs → get_or (map f (set xs p y)) p d ≡ f y
mapped_same f d [] p y lt = absurd (omega arith)
mapped_same f d (x ∷ xs) zero y lt = refl
mapped_same f d (x ∷ xs) (suc p) y lt = mapped_same f d xs p y (omega arith)

-- one that is at another place has changed
pub places_other : {X Y : Type 0} (f : Y → X) (d : X) (xs : List Y) (places : List ℕ) (p : ℕ) (y : Y) → (IsIn p places → ⊥) → map (λ q. get_or (map f (set xs p y)) q d) places ≡ map (λ q. get_or (map f xs) q d) places
places_other f d xs [] p y out = refl
places_other f d xs (q ∷ places) p y out =
    let one = mapped_other f d xs p q y (λ same. out (inl same)) in
    let rest = places_other f d xs places p y (λ h. out (inr h)) in
    ap (λ k. k ∷ map (λ q. get_or (map f (set xs p y)) q d) places) one ∙ ap (λ ks. get_or (map f xs) q d ∷ ks) rest

map_push : {X Y : Type 0} (f : X → Y) (xs : List X) (x : X) → map f (xs ++ x ∷ []) ≡ map f xs ++ f x ∷ []
map_push f [] x = refl
map_push f (y ∷ xs) x = ap (λ ys. f y ∷ ys) (map_push f xs x)

-- and its place is the next
pub places_more : {X Y : Type 0} (f : Y → X) (d : X) (xs : List Y) (places : List ℕ) (p : ℕ) (y : Y) → (IsIn p places → ⊥) → p < length xs → map (λ q. get_or (map f (set xs p y)) q d) (places ++ p ∷ []) ≡ map (λ q. get_or (map f xs) q d) places ++ f y ∷ []
places_more f d xs places p y out within =
    map_push (λ q. get_or (map f (set xs p y)) q d) places p
    ∙ ap (λ ks. ks ++ get_or (map f (set xs p y)) p d ∷ []) (places_other f d xs places p y out)
    ∙ ap (λ k. map (λ q. get_or (map f xs) q d) places ++ k ∷ []) (mapped_same f d xs p y within)

all_push : {X : Type 0} (P : X → Type 0) (xs : List X) (x : X) → AllByRecursion P xs → P x → AllByRecursion P (xs ++ x ∷ [])
all_push P [] x all p = (p, tt)
all_push P (y ∷ xs) x all p = (all.0, all_push P xs x all.1 p)

all_weaker : (P Q : ℕ → Type 0) → ((x : ℕ) → P x → Q x) → (xs : List ℕ) → AllByRecursion P xs → AllByRecursion Q xs
all_weaker P Q f [] all = tt
all_weaker P Q f (x ∷ xs) all = (f x all.0, all_weaker P Q f xs all.1)

long_push : (xs : List ℕ) (x : ℕ) → length (xs ++ x ∷ []) ≡ length xs + 1
long_push [] x = refl
long_push (y ∷ xs) x = let e = long_push xs x in omega (arith, e)

-- ---- rising

-- where the last stands
abbrev pub last_from : ℕ → List ℕ → ℕ
last_from from [] = from
last_from from (here ∷ heres) = last_from here heres

last_push : (from : ℕ) (heres : List ℕ) (here : ℕ) → last_from from (heres ++ here ∷ []) ≡ here
last_push from [] here = refl
last_push from (x ∷ heres) here = last_push x heres here

rise_push : (from : ℕ) (lists : List (List ℕ)) (heres : List ℕ) (keys : List ℕ) (here : ℕ) → RiseFrom from lists heres → here ≡ least_from keys (last_from from heres) → RiseFrom from (lists ++ keys ∷ []) (heres ++ here ∷ [])
rise_push from [] [] keys here rise is = (is, tt)
rise_push from [] (x ∷ heres) keys here rise is = absurd rise
rise_push from (ks ∷ lists) [] keys here rise is = absurd rise
rise_push from (ks ∷ lists) (x ∷ heres) keys here rise is = (rise.0, rise_push x lists heres keys here rise.1 is)

-- those at these places are opened, the last of which stands at the key
pub record HasRisen (plan : Plan) (state : State) (keys : List ℕ) (done : List ℕ) (above atoms : List AtomView) (from key : ℕ) (old new : Sense) (begun now : ℕ) : Type 0 where
  pub opened : AreOpened done above atoms
  pub sensed : AreSensed plan state keys old new from key begun now
  pub rising : RiseFrom from (lists_of atoms done) (heres_of atoms done)
  pub is_last : key ≡ last_from from (heres_of atoms done)
  pub most : AllByRecursion (λ here. here ≤ key) (heres_of atoms done)
  pub each : now ≡ begun + length done
  pub low : key ≤ 2 ^ 128 - 1
  pub goes_on : 0 < length done → key ≢ end_key

pub risen_none : (plan : Plan) (state : State) (keys : List ℕ) (atoms : List AtomView) (from : ℕ) (s : Sense) (begun : ℕ) → from ≤ 2 ^ 128 - 1 → IsTight s state → HasRisen plan state keys [] atoms atoms from from s s begun begun
risen_none plan state keys atoms from s begun low tight = record {
  opened = opened_none atoms;
  sensed = AreSensed-none plan state keys s from from begun (omega arith) tight;
  rising = tt;
  is_last = refl;
  most = tt;
  each = omega arith;
  low = low;
  goes_on = λ some. absurd (omega (arith, some));
}

least_low : (ks : List ℕ) (b : ℕ) → IsKeyList ks → least_from ks b ≤ 2 ^ 128 - 1
least_low [] b up = omega arith
least_low (k ∷ ks) b up = elim (nat_le b k) as (λ t. cond t k (least_from ks b) ≤ 2 ^ 128 - 1) [ true ↦ (let s = up.0 in omega (arith, s)) | false ↦ least_low ks b up.2 ]

-- the moves to the next one
pub risen_sensed : (plan : Plan) (state : State) (keys : List ℕ) (done : List ℕ) (above atoms : List AtomView) (from key : ℕ) (old mid new : Sense) (begun now : ℕ) (place : ℕ) (atom next : AtomView) (gap : Gap) → HasRisen plan state keys done above atoms from key old mid begun now
    → HoldsAt plan state keys atom → IsOpenedFrom atom next → next.trie.here ≡ least_from (atom_keys next) key → gap.lo ≡ key → gap.hi ≡ next.trie.here → TakesGap mid place (atom_still next) gap new → AreSensed plan state keys old new from gap.hi begun (now + 1)
risen_sensed plan state keys done above atoms from key old mid new begun now place atom next gap risen holder is here lo hi takes =
    let lands : gap.hi ≡ least_from (atom_keys next) gap.lo = hi ∙ here ∙ ap (least_from (atom_keys next)) (sym lo) in
    let move = AreSensed-move plan state keys next gap place mid new now (holder_opened plan state keys atom next holder is) lands takes risen.sensed.tight in
    AreSensed-chain plan state keys old mid new from key gap.lo gap.hi begun now (now + 1) risen.sensed move (omega (arith, lo))

-- the next one
pub risen_more : (plan : Plan) (state : State) (keys : List ℕ) (done : List ℕ) (above atoms : List AtomView) (from key : ℕ) (old mid new : Sense) (begun now : ℕ) (place : ℕ) (atom next : AtomView) (gap : Gap) → HasRisen plan state keys done above atoms from key old mid begun now
    → (IsIn place done → ⊥) → slice_get atoms place ≡ Some atom → HoldsAt plan state keys atom → IsOpenedFrom atom next → next.trie.here ≡ least_from (atom_keys next) key → gap.lo ≡ key → gap.hi ≡ next.trie.here → TakesGap mid place (atom_still next) gap new → gap.hi ≢ end_key
    → HasRisen plan state keys (done ++ place ∷ []) above (set atoms place next) from gap.hi old new begun (now + 1)
risen_more plan state keys done above atoms from key old mid new begun now place atom next gap risen out there holder is here lo hi takes goes_on =
    let within = slice_get_within atoms place atom there in
    let heres : heres_of (set atoms place next) (done ++ place ∷ []) ≡ heres_of atoms done ++ atom_here next ∷ [] = places_more atom_here 0 atoms done place next out within in
    let lists : lists_of (set atoms place next) (done ++ place ∷ []) ≡ lists_of atoms done ++ atom_keys next ∷ [] = places_more atom_keys [] atoms done place next out within in
    let up : key ≤ gap.hi = subst (λ k. key ≤ k) (sym (hi ∙ here)) (least_above (atom_keys next) key risen.low) in
    record {
      opened = opened_more done place above atoms atom next risen.opened out there is;
      sensed = risen_sensed plan state keys done above atoms from key old mid new begun now place atom next gap risen holder is here lo hi takes;
      rising = subst (λ hs. RiseFrom from (lists_of (set atoms place next) (done ++ place ∷ [])) hs) (sym heres) (subst (λ ls. RiseFrom from ls (heres_of atoms done ++ atom_here next ∷ [])) (sym lists)
          (rise_push from (lists_of atoms done) (heres_of atoms done) (atom_keys next) (atom_here next) risen.rising (here ∙ ap (least_from (atom_keys next)) risen.is_last)));
      is_last = hi ∙ sym (ap (last_from from) heres ∙ last_push from (heres_of atoms done) (atom_here next));
      most = subst (AllByRecursion (λ k. k ≤ gap.hi)) (sym heres)
          (all_push (λ k. k ≤ gap.hi) (heres_of atoms done) (atom_here next) (all_weaker (λ k. k ≤ key) (λ k. k ≤ gap.hi) (λ k le. omega (arith, le, up)) (heres_of atoms done) risen.most) (omega (arith, hi)));
      each = (let e = risen.each in let n = long_push done place in omega (arith, e, n));
      low = subst (λ k. k ≤ 2 ^ 128 - 1) (sym (hi ∙ here)) (least_low (atom_keys next) key (open_keys plan state keys next (holder_opened plan state keys atom next holder is)));
      goes_on = λ some. goes_on;
    }

-- one that stands at its end was the first
pub risen_closed : (plan : Plan) (state : State) (keys : List ℕ) (done : List ℕ) (above atoms : List AtomView) (from key : ℕ) (old new : Sense) (begun now : ℕ) → HasRisen plan state keys done above atoms from key old new begun now → key ≡ end_key → atoms ≡ above
risen_closed plan state keys [] above atoms from key old new begun now risen e = opened_end above atoms risen.opened
risen_closed plan state keys (p ∷ done) above atoms from key old new begun now risen e = absurd (risen.goes_on (omega arith) e)

-- ---- at one key

-- those at these places are opened, and stand at the key
pub record AreAtKey (plan : Plan) (state : State) (keys : List ℕ) (done : List ℕ) (above atoms : List AtomView) (key : ℕ) (old new : Sense) (begun now : ℕ) : Type 0 where
  pub opened : AreOpened done above atoms
  pub sensed : AreSensed plan state keys old new key key begun now
  pub at_key : AllByRecursion (λ here. here ≡ key) (heres_of atoms done)
  pub there : AllByRecursion (λ keys. IsIn key keys) (lists_of atoms done)
  pub each : begun + length done ≤ now
  pub within : now ≤ begun + length done + length done

-- the next one
pub at_key_more : (plan : Plan) (state : State) (keys : List ℕ) (done : List ℕ) (above atoms : List AtomView) (key : ℕ) (old mid new : Sense) (begun now later : ℕ) (place : ℕ) (atom next : AtomView) → AreAtKey plan state keys done above atoms key old mid begun now
    → (IsIn place done → ⊥) → slice_get atoms place ≡ Some atom → IsOpenedFrom atom next → next.trie.here ≡ key → IsIn key (atom_keys next) → AreSensed plan state keys mid new key key now later → now + 1 ≤ later → later ≤ now + 2
    → AreAtKey plan state keys (done ++ place ∷ []) above (set atoms place next) key old new begun later
at_key_more plan state keys done above atoms key old mid new begun now later place atom next are out there is here in_keys sensed one two =
    let within = slice_get_within atoms place atom there in
    let heres : heres_of (set atoms place next) (done ++ place ∷ []) ≡ heres_of atoms done ++ atom_here next ∷ [] = places_more atom_here 0 atoms done place next out within in
    let lists : lists_of (set atoms place next) (done ++ place ∷ []) ≡ lists_of atoms done ++ atom_keys next ∷ [] = places_more atom_keys [] atoms done place next out within in
    record {
      opened = opened_more done place above atoms atom next are.opened out there is;
      sensed = AreSensed-chain plan state keys old mid new key key key key begun now later are.sensed sensed (omega arith);
      at_key = subst (AllByRecursion (λ k. k ≡ key)) (sym heres) (all_push (λ k. k ≡ key) (heres_of atoms done) (atom_here next) are.at_key here);
      there = subst (AllByRecursion (λ ks. IsIn key ks)) (sym lists) (all_push (λ ks. IsIn key ks) (lists_of atoms done) (atom_keys next) are.there in_keys);
      each = (let e = are.each in let n = long_push done place in omega (arith, e, n, one));
      within = (let e = are.within in let n = long_push done place in omega (arith, e, n, two));
    }

-- whatever the next one has
pub key_sensed : (plan : Plan) (state : State) (keys : List ℕ) (done : List ℕ) (above atoms : List AtomView) (key : ℕ) (old mid new : Sense) (begun now later : ℕ) (here : ℕ) → AreAtKey plan state keys done above atoms key old mid begun now → AreSensed plan state keys mid new key here now later → AreSensed plan state keys old new key key begun later
key_sensed plan state keys done above atoms key old mid new begun now later here are sensed =
    AreSensed-chain plan state keys old mid new key key key key begun now later are.sensed (AreSensed-within plan state keys mid new key here key key now later later sensed (λ k above below. absurd (omega (arith, above, below))) (omega arith)) (omega arith)

-- the next one lacks the key
pub lacks_key : (plan : Plan) (state : State) (keys : List ℕ) (done : List ℕ) (above atoms : List AtomView) (key : ℕ) (old mid new : Sense) (begun now later : ℕ) (here : ℕ) → AreAtKey plan state keys done above atoms key old mid begun now
    → AreSensed plan state keys mid new key here now later → key ≤ here → here ≢ key → AreSensed plan state keys old new key (key + 1) begun later
lacks_key plan state keys done above atoms key old mid new begun now later here are sensed reaches apart =
    let behind : key + 1 ≤ here = omega (arith, reaches, apart) in
    AreSensed-chain plan state keys old mid new key key key (key + 1) begun now later are.sensed (AreSensed-within plan state keys mid new key here key (key + 1) now later later sensed (λ k above below. (above, omega (arith, below, behind))) (omega arith)) (omega arith)

-- ---- one alone

-- it was opened at or before the key, and stands there or past it
pub lone_opened : (plan : Plan) (state : State) (keys : List ℕ) (atom next : AtomView) (gap : Gap) (place key from : ℕ) (old new : Sense) (begun : ℕ) → HoldsAt plan state keys atom → IsOpenedFrom atom next → next.trie.here ≡ least_from (atom_keys next) from → gap.lo ≡ from → gap.hi ≡ next.trie.here → from ≤ key
    → TakesGap old place (atom_still next) gap new → IsTight old state → AreSensed plan state keys old new key gap.hi begun (begun + 1)
lone_opened plan state keys atom next gap place key from old new begun holder is here lo hi low takes tight =
    let lands : gap.hi ≡ least_from (atom_keys next) gap.lo = hi ∙ here ∙ ap (least_from (atom_keys next)) (sym lo) in
    let move = AreSensed-move plan state keys next gap place old new begun (holder_opened plan state keys atom next holder is) lands takes tight in
    AreSensed-within plan state keys old new gap.lo gap.hi key gap.hi begun (begun + 1) (begun + 1) move (λ k above below. (omega (arith, lo, low, above), below)) (omega arith)

-- it stood before the key, and went there or past it
pub lone_sought : (plan : Plan) (state : State) (keys : List ℕ) (atom next last : AtomView) (first gap : Gap) (place key from : ℕ) (old mid new : Sense) (begun : ℕ) → HoldsAt plan state keys atom → IsOpenedFrom atom next → next.trie.here ≡ least_from (atom_keys next) from → first.lo ≡ from → first.hi ≡ next.trie.here → from ≤ key
    → TakesGap old place (atom_still next) first mid → IsTight old state → atom_still last ≡ atom_still next → atom_keys last ≡ atom_keys next → last.trie.here ≡ least_from (atom_keys next) key → gap.lo ≡ key → gap.hi ≡ last.trie.here → TakesGap mid place (atom_still last) gap new
    → AreSensed plan state keys old new key gap.hi begun (begun + 2)
lone_sought plan state keys atom next last first gap place key from old mid new begun holder is here lo hi low takes tight still same_keys sought gap_lo gap_hi takes_next =
    let lands : first.hi ≡ least_from (atom_keys next) first.lo = hi ∙ here ∙ ap (least_from (atom_keys next)) (sym lo) in
    let move = AreSensed-move plan state keys next first place old mid begun (holder_opened plan state keys atom next holder is) lands takes tight in
    let last_is = opened_still atom next last is still in
    let last_lands : gap.hi ≡ least_from (atom_keys last) gap.lo = gap_hi ∙ sought ∙ ap (λ ks. least_from ks key) (sym same_keys) ∙ ap (least_from (atom_keys last)) (sym gap_lo) in
    let last_move = AreSensed-move plan state keys last gap place mid new (begun + 1) (holder_opened plan state keys atom last holder last_is) last_lands takes_next move.tight in
    let none = AreSensed-within plan state keys old mid first.lo first.hi key key begun (begun + 1) (begun + 1) move (λ k above below. absurd (omega (arith, above, below))) (omega arith) in
    AreSensed-within plan state keys old new key gap.hi key gap.hi begun ((begun + 1) + 1) (begun + 2)
    (AreSensed-chain plan state keys old mid new key key gap.lo gap.hi begun (begun + 1) ((begun + 1) + 1) none last_move (omega (arith, gap_lo))) (λ k above below. (above, below)) (omega arith)

-- where it came to the key, that is one of its keys
pub least_there : (keys : List ℕ) (bound key : ℕ) → least_from keys bound ≡ key → key < 2 ^ 120 → IsIn key keys
least_there [] bound key is low = absurd (omega (arith, is, low))
least_there (k ∷ keys) bound key is low =
    elim (nat_le bound k) as (λ b. cond b k (least_from keys bound) ≡ key → IsIn key (k ∷ keys)) [ true ↦ λ e. inl e | false ↦ λ e. inr (least_there keys bound key e low) ] is
