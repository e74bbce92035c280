-- Programs one after another, on a database that takes their marks as they come.
use Rattle.std.proofs.Common.{◌≡◌, ℕ, zero, suc, ◌+◌, ◌<◌, ◌≤◌, Bool, true, false, List, [], ◌∷◌, ◌++◌, length, map, take, drop, get_or, append_assoc, append-nil, length-append, refl, sym, ap, subst, ◌∙◌, arith}
use Rattle.std.proofs.lemmas.List.{drop-take, map-append, take_all, take-append-drop, take-take}
use Rattle.std.specs.List.{AllByRecursion}
use Rattle.lt_face.specs.State.{State}
use Rattle.lt_face.proofs.RowLemmas.{each_weaker}
use Rattle.lt_model.specs.declared.normal.Stmt.{Stmt}
use Rattle.lt_model.specs.declared.reply.Reply.{Reply}
use Rattle.lt_model.specs.Fits.{IsWide, Fits, FitMarks}
use Rattle.lt_model.specs.Marks.{Marks, laid}
use Rattle.lt_model.specs.Run.{run}
use Rattle.lt_model.specs.Serial.{serial}
use Rattle.lt_model.proofs.Laws.{serial_joins}
use Rattle.lt_base.specs.Tables.{state_of}
use Rattle.lt_program.specs.declared.going.Ran.{Ran}
use Rattle.lt_program.specs.Alone.{kept_if}
use Rattle.lt_program.specs.Run.{AreReplied}
use Rattle.lt_batch.specs.declared.fold.Fold.{Fold}
use Rattle.lt_batch.specs.Batch.{serial_replies, serial_effects, serial_state}
use Rattle.lt_batch.specs.Folding.{HasGone, HasRun, IsAlike}
use Rattle.lt_batch.proofs.Widths.{as_wide-laid, program_fits, marks_fit, AreAsWide}

-- ---- what programs leave

pub as_wide-serial : (programs : List (List Stmt)) (s : State) → AreAsWide (serial_state programs s) s
as_wide-serial [] s r = refl
as_wide-serial (p ∷ programs) s r = as_wide-serial programs (laid s (run p s).1) r ∙ as_wide-laid s (run p s).1 r

-- fits the programs that fit what they began on
pub fit_later : (programs ps : List (List Stmt)) (s t : State) → t ≡ serial_state programs s → AllByRecursion (Fits s) ps → AllByRecursion (Fits t) ps
fit_later programs ps s t is fits =
    each_weaker (Fits s) (Fits t) (program_fits s t (λ r. sym (subst (λ (u : State). AreAsWide u s) (sym is) (as_wide-serial programs s) r))) ps fits

replies_joined : (a b : List (List Stmt)) (s t : State) → t ≡ serial_state a s → serial_replies a s ++ serial_replies b t ≡ serial_replies (a ++ b) s
replies_joined a b s t is =
    ap (λ (u : State). serial_replies a s ++ serial_replies b u) is
    ∙ sym (map-append (λ (done : Reply × Marks). done.0) (serial a s).0 (serial b (serial_state a s)).0)
    ∙ ap (λ (out : List (Reply × Marks) × State). map (λ (done : Reply × Marks). done.0) out.0) (sym (serial_joins a b s))

effects_joined : (a b : List (List Stmt)) (s t : State) → t ≡ serial_state a s → serial_effects a s ++ serial_effects b t ≡ serial_effects (a ++ b) s
effects_joined a b s t is =
    ap (λ (u : State). serial_effects a s ++ serial_effects b u) is
    ∙ sym (map-append (λ (done : Reply × Marks). done.1) (serial a s).0 (serial b (serial_state a s)).0)
    ∙ ap (λ (out : List (Reply × Marks) × State). map (λ (done : Reply × Marks). done.1) out.0) (sym (serial_joins a b s))

state_joined : (a b : List (List Stmt)) (s t : State) → t ≡ serial_state a s → serial_state b t ≡ serial_state (a ++ b) s
state_joined a b s t is = ap (serial_state b) is ∙ ap (λ (out : List (Reply × Marks) × State). out.1) (sym (serial_joins a b s))

both_parts : {X : Type 0} (P : X → Type 0) (xs ys : List X) → AllByRecursion P xs → AllByRecursion P ys → AllByRecursion P (xs ++ ys)
both_parts P [] ys first more = more
both_parts P (x ∷ xs) ys first more = (first.0, both_parts P xs ys first.1 more)

-- ---- one program, and more of them

kept_fits : (keeps : Bool) (s : State) (marks : Marks) → FitMarks s marks → FitMarks s (kept_if keeps marks)
kept_fits true s marks fits = fits
kept_fits false s marks fits = tt

pub gone_none : (f : Fold) → HasGone [] f f
gone_none f = record {
  replies = sym (append-nil f.replies);
  printed = tt;
  wrote = [];
  effects = sym (append-nil f.effects);
  each = refl;
  kept = λ k. refl;
  fit = tt;
  state = refl;
  keeps = refl;
}

-- a program ran, and what it did is put down
pub gone_one : (program : List Stmt) (keeps : Bool) (old mid new : Fold) (ran : Ran) → (old.keeps ≡ true → keeps ≡ true) → HasRun program keeps old mid ran
    → new.replies ≡ mid.replies ++ ran.reply ∷ [] → new.effects ≡ mid.effects ++ kept_if mid.keeps ran.marks ∷ [] → new.db ≡ mid.db → new.keeps ≡ mid.keeps → HasGone (program ∷ []) old new
gone_one program keeps old mid new ran asked h replies effects db same = record {
  replies = replies ∙ ap (λ (rs : List Reply). rs ++ ran.reply ∷ []) h.replies ∙ ap (λ (r : Reply). old.replies ++ r ∷ []) h.reply;
  printed = (subst AreReplied h.reply h.printed, tt);
  wrote = kept_if mid.keeps ran.marks ∷ [];
  effects = effects ∙ ap (λ (es : List Marks). es ++ kept_if mid.keeps ran.marks ∷ []) h.effects;
  each = refl;
  kept = λ k. ap (λ (m : Marks). m ∷ []) (ap (λ (b : Bool). kept_if b ran.marks) (h.keeps ∙ k) ∙ (h.marks ∙ ap (λ (b : Bool). kept_if b (run program (state_of old.db)).1) (asked k)));
  fit = (kept_fits mid.keeps (state_of old.db) ran.marks (subst (FitMarks (state_of old.db)) (sym h.marks) (kept_fits keeps (state_of old.db) (run program (state_of old.db)).1 h.fits)), tt);
  state = ap state_of db ∙ h.state;
  keeps = same ∙ h.keeps;
}

pub gone_more : (a b : List (List Stmt)) (old mid new : Fold) → HasGone a old mid → HasGone b mid new → HasGone (a ++ b) old new
gone_more a b old mid new first more =
    let s = state_of old.db in
    let t = state_of mid.db in
    record {
      replies =
          more.replies
          ∙ ap (λ (rs : List Reply). rs ++ serial_replies b t) first.replies
          ∙ append_assoc old.replies (serial_replies a s) (serial_replies b t)
          ∙ ap (λ (rs : List Reply). old.replies ++ rs) (replies_joined a b s t first.state);
      printed = subst (AllByRecursion AreReplied) (replies_joined a b s t first.state) (both_parts AreReplied (serial_replies a s) (serial_replies b t) first.printed more.printed);
      wrote = first.wrote ++ more.wrote;
      effects = more.effects ∙ ap (λ (es : List Marks). es ++ more.wrote) first.effects ∙ append_assoc old.effects first.wrote more.wrote;
      each = length-append first.wrote more.wrote ∙ ap (λ (n : ℕ). n + length more.wrote) first.each ∙ ap (λ (n : ℕ). length a + n) more.each ∙ sym (length-append a b);
      kept = λ k.
          ap (λ (es : List Marks). es ++ more.wrote) (first.kept k)
          ∙ ap (λ (es : List Marks). serial_effects a s ++ es) (more.kept (first.keeps ∙ k))
          ∙ effects_joined a b s t first.state;
      fit =
          let later = each_weaker (FitMarks t) (FitMarks s) (marks_fit t s (subst (λ (u : State). AreAsWide u s) (sym first.state) (as_wide-serial a s))) more.wrote more.fit in
          both_parts (FitMarks s) first.wrote more.wrote first.fit later;
      state = more.state ∙ state_joined a b s t first.state;
      keeps = more.keeps ∙ first.keeps;
    }

-- the same where the database has got indexes before
pub gone_alike : (programs : List (List Stmt)) (old mid new : Fold) → IsAlike old mid → HasGone programs mid new → HasGone programs old new
gone_alike programs old mid new like h = record {
  replies = h.replies ∙ ap (λ (rs : List Reply). rs ++ serial_replies programs (state_of mid.db)) like.replies ∙ ap (λ (s : State). old.replies ++ serial_replies programs s) like.state;
  printed = subst (λ (s : State). AllByRecursion AreReplied (serial_replies programs s)) like.state h.printed;
  wrote = h.wrote;
  effects = h.effects ∙ ap (λ (es : List Marks). es ++ h.wrote) like.effects;
  each = h.each;
  kept = λ k. h.kept (like.keeps ∙ k) ∙ ap (serial_effects programs) like.state;
  fit = subst (λ (s : State). AllByRecursion (FitMarks s) h.wrote) like.state h.fit;
  state = h.state ∙ ap (serial_state programs) like.state;
  keeps = h.keeps ∙ like.keeps;
}

pub alike_more : (old mid new : Fold) → IsAlike old mid → IsAlike mid new → IsAlike old new
alike_more old mid new first more = record {
  state = more.state ∙ first.state;
  indexes = λ relation columns h. more.indexes relation columns (first.indexes relation columns h);
  replies = more.replies ∙ first.replies;
  effects = more.effects ∙ first.effects;
  keeps = more.keeps ∙ first.keeps;
}

-- ---- parts of a list

each_left : {X Y : Type 0} (P : Y → Type 0) (f : X → Y) (xs : List X) (n : ℕ) → AllByRecursion P (map f xs) → AllByRecursion P (map f (drop n xs))
each_left P f [] zero all = tt
each_left P f [] (suc n) all = tt
each_left P f (x ∷ xs) zero all = all
each_left P f (x ∷ xs) (suc n) all = each_left P f xs n all.1

pub each_taken : {X Y : Type 0} (P : Y → Type 0) (f : X → Y) (xs : List X) (n : ℕ) → AllByRecursion P (map f xs) → AllByRecursion P (map f (take n xs))
each_taken P f [] zero all = tt
each_taken P f [] (suc n) all = tt
each_taken P f (x ∷ xs) zero all = tt
each_taken P f (x ∷ xs) (suc n) all = (all.0, each_taken P f xs n all.1)

pub taken_more : {X Y : Type 0} (f : X → Y) (xs : List X) (n count : ℕ) → map f (take (n + count) xs) ≡ map f (take n xs) ++ map f (take count (drop n xs))
taken_more {X} f xs n count =
    let joined : take n xs ++ take count (drop n xs) ≡ take (n + count) xs =
    ap (λ (ys : List X). ys ++ take count (drop n xs)) (sym (take-take n (n + count) xs (omega arith)))
    ∙ ap (λ (ys : List X). take n (take (n + count) xs) ++ ys) (sym (drop-take n count xs))
    ∙ take-append-drop n (take (n + count) xs) in
    ap (map f) (sym joined) ∙ map-append f (take n xs) (take count (drop n xs))

pub first_taken : {X Y : Type 0} (f : X → Y) (xs : List X) (x : X) → 0 < length xs → x ≡ get_or xs 0 x → map f (take 1 xs) ≡ f x ∷ []
first_taken f [] x some is = absurd (omega arith)
first_taken f (y ∷ xs) x some is = ap (λ z. f z ∷ []) (sym is)

-- the first n programs, and some more
pub gone_steps : {X : Type 0} (f : X → List Stmt) (xs : List X) (n count : ℕ) (old mid new : Fold) → HasGone (map f (take n xs)) old mid → HasGone (map f (take count (drop n xs))) mid new → HasGone (map f (take (n + count) xs)) old new
gone_steps f xs n count old mid new first more =
    subst (λ (ps : List (List Stmt)). HasGone ps old new) (sym (taken_more f xs n count)) (gone_more (map f (take n xs)) (map f (take count (drop n xs))) old mid new first more)

-- what fits at first, of those that are left
pub left_fit : {X : Type 0} (f : X → List Stmt) (xs : List X) (n : ℕ) (old mid : Fold) → HasGone (map f (take n xs)) old mid → AllByRecursion (Fits (state_of old.db)) (map f xs) → AllByRecursion (Fits (state_of mid.db)) (map f (drop n xs))
left_fit f xs n old mid gone fits = fit_later (map f (take n xs)) (map f (drop n xs)) (state_of old.db) (state_of mid.db) gone.state (each_left (Fits (state_of old.db)) f xs n fits)

pub all_gone : {X : Type 0} (f : X → List Stmt) (xs : List X) (n : ℕ) (old new : Fold) → length xs ≤ n → HasGone (map f (take n xs)) old new → HasGone (map f xs) old new
all_gone f xs n old new whole h = subst (λ ys. HasGone (map f ys) old new) (take_all n xs whole) h

-- ---- a whole batch

pub record IsWhole (programs : List (List Stmt)) (s : State) (asked : Bool) (replies : List Reply) (effects : List Marks) (left : State) : Type 0 where
  pub are_replies : replies ≡ serial_replies programs s
  pub are_effects : asked ≡ true → effects ≡ serial_effects programs s
  pub each : length effects ≡ length programs
  pub state : left ≡ serial_state programs s
  pub fit : AllByRecursion (FitMarks s) effects
  pub widths : (relation width : ℕ) → IsWide s relation width → IsWide left relation width
  pub printed : AllByRecursion AreReplied replies

-- what a fold of all programs from none on has put down
pub whole : (programs : List (List Stmt)) (s : State) (asked : Bool) (old new : Fold) → old.replies ≡ [] → old.effects ≡ [] → state_of old.db ≡ s → old.keeps ≡ asked → HasGone programs old new
    → IsWhole programs s asked new.replies new.effects (state_of new.db)
whole programs s asked old new none empty base keeps h =
    let are = h.replies ∙ ap (λ (rs : List Reply). rs ++ serial_replies programs (state_of old.db)) none ∙ ap (serial_replies programs) base in
    let wrote : new.effects ≡ h.wrote = h.effects ∙ ap (λ (es : List Marks). es ++ h.wrote) empty in
    let state : state_of new.db ≡ serial_state programs s = h.state ∙ ap (serial_state programs) base in
    record {
      are_replies = are;
      are_effects = λ k. wrote ∙ h.kept (keeps ∙ k) ∙ ap (serial_effects programs) base;
      each = ap length wrote ∙ h.each;
      state = state;
      fit = subst (AllByRecursion (FitMarks s)) (sym wrote) (subst (λ (t : State). AllByRecursion (FitMarks t) h.wrote) base h.fit);
      widths = λ relation width wide. subst (λ (t : State). IsWide t relation width) (sym state) (as_wide-serial programs s relation ∙ wide);
      printed = subst (AllByRecursion AreReplied) (sym are) (subst (λ (t : State). AllByRecursion AreReplied (serial_replies programs t)) base h.printed);
    }

pub effects_long : (programs : List (List Stmt)) (s : State) → length (serial_effects programs s) ≡ length programs
effects_long [] s = refl
effects_long (program ∷ programs) s = ap suc (effects_long programs (laid s (run program s).1))
