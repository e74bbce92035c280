-- Each step at the two copies keeps their rule.
use Rattle.std.proofs.Common.{◌≡◌, ◌≢◌, ◌⊎◌, ℕ, List, [], ◌∷◌, ◌++◌, slice_set, Option, Some, None, fold, refl, sym, ap, ◌∙◌, subst, ⊎_elim}
use mathlib.Core.Option.{some}
use lib.ListN.{get_elem?}
use Rattle.crossbeam_utils.specs.Register.{Admits, Turns, TurnsAt, Forks, Merges}
use Rattle.atomic_table.proofs.Lists.{at_set, at_snoc}
use Rattle.logbook.specs.Pages.{Book}
use Rattle.lt_readers.specs.declared.front.Front.{Front}
use Rattle.lt_readers.specs.declared.pass.View.{View}
use Rattle.lt_readers.specs.Passes.{Kept, Tells, Knows, Met, Shown, unknowing}

kept_set : (x : Front) (views : List View) (id : ℕ) (v : View) → Kept x views → Tells v x.seen.book → Kept x (slice_set views id v)
kept_set x views id v h mine j u e =
    ⊎_elim
    (λ (t : (j ≡ id) × (v ≡ u)). subst (λ (w : View). Tells w x.seen.book) t.1 mine)
    (λ (t : (j ≢ id) × (get_elem? views j ≡ some u)). h j u t.1)
    (at_set views id j v u e)

kept_snoc : (x : Front) (views : List View) (v : View) → Kept x views → Tells v x.seen.book → Kept x (views ++ v ∷ [])
kept_snoc x views v h mine j u e =
    ⊎_elim
    (λ (was : get_elem? views j ≡ some u). h j u was)
    (λ (same : v ≡ u). subst (λ (w : View). Tells w x.seen.book) same mine)
    (at_snoc views v u j e)

nothing : (book : Book) → Tells unknowing book
nothing book s is = absurd cc

pub meets : (id : ℕ) (v : View) → Turns Kept id v (λ x. x) Met
meets id v x views h at = (v, kept_set x views id v h (h id v at), (refl, h id v at))

tells_itself : (x : Front) → Tells (record { of = Some x.seen }) x.seen.book
tells_itself x s is = let e : s ≡ x.seen = cc in ap (λ t. t.book) e

pub shows : (id : ℕ) (v : View) (x y : Front) → x.seen.book ≡ y.seen.book → TurnsAt Kept id v x y Shown
shows id v x y same views h at =
    let h' : Kept y views = λ j u e. subst (Tells u) same (h j u e) in
    (record { of = Some y.seen }, kept_set y views id (record { of = Some y.seen }) h' (tells_itself y), refl)

pub forks : (id : ℕ) (v : View) → Forks Kept id v v v
forks id v x views h at = kept_snoc x (slice_set views id v) v (kept_set x views id v h (h id v at)) (h id v at)

pub merges : (id : ℕ) (v : View) (other : ℕ) (w : View) → Merges Kept id v other w w unknowing
merges id v other w x views h at apart there =
    let theirs : Tells w x.seen.book = ⊎_elim (λ (t : (other ≡ id) × (w ≡ w)). absurd (apart t.0)) (λ (t : (other ≢ id) × (get_elem? views other ≡ some w)). h other w t.1) (at_set views id other w w there) in
    kept_set x (slice_set views id w) other unknowing (kept_set x views id w h theirs) (nothing x.seen.book)

pub admits : Admits Kept unknowing
admits x views h = kept_snoc x views unknowing h (nothing x.seen.book)

pub begins : (x : Front) → Kept x (unknowing ∷ [])
begins x = kept_snoc x [] unknowing (λ j u e. absurd cc) (nothing x.seen.book)

-- after posts the copies come to the last one
pub fold_last : (rest : List Front) (front : Front) (s : _) → fold (λ state (post : Front). post.seen) s (rest ++ front ∷ []) ≡ front.seen
fold_last [] front s = refl
fold_last (post ∷ rest) front s = fold_last rest front post.seen

pub shown_last : (rest l : List Front) (post front next : Front) (s : _) → next.seen ≡ fold (λ state (p : Front). p.seen) s l → l ≡ rest ++ post ∷ [] → post.seen ≡ front.seen → next.seen ≡ front.seen
shown_last rest l post front next s is last same = is ∙ (ap (λ k. fold (λ state (p : Front). p.seen) s k) last ∙ (fold_last rest post s ∙ same))

-- what tells of a history and of a front's tells of one
knows_one : (v : View) (a b : Book) → Knows v a → Tells v b → (o : Option _) → v.of ≡ o → a ≡ b
knows_one v a b k t None is = absurd (k.0 is)
knows_one v a b k t (Some s) is = sym (k.1 s is) ∙ t s is

pub one_book : (v : View) (a b : Book) → Knows v a → Tells v b → a ≡ b
one_book v a b k t = knows_one v a b k t v.of refl

-- what was shown tells of its history
pub shown_knows : (v : View) (x : Front) (book : Book) → v ≡ record { of = Some x.seen } → x.seen.book ≡ book → Knows v book
shown_knows v x book is same = ((λ none. let e : Some x.seen ≡ None = sym (ap (λ (w : View). w.of) is) ∙ none in absurd cc), λ s e. subst (λ (w : View). (t : _) → w.of ≡ Some t → t.book ≡ book) (sym is) (λ t f. let g : t ≡ x.seen = cc in ap (λ u. u.book) g ∙ same) s e)
