-- The rows that the marks of a relation put in and take out.
use Rattle.std.proofs.Common.{◌≡◌, ◌≢◌, ℕ, zero, suc, ◌+◌, ◌<◌, Bool, true, false, not, ◌&&◌, List, [], ◌∷◌, ◌++◌, map, take, Some, refl, sym, ap, ◌∙◌, subst, arith}
use Rattle.std.specs.Prelude.{◌==◌, if◌then◌else◌}
use Rattle.std.specs.List.{AllByRecursion, slice_get}
use Rattle.std.proofs.lemmas.Bool.{eq-eqb, ne_eqb}
use Rattle.lt_face.specs.State.{Row}
use Rattle.lt_model.specs.declared.mark.Mark.{Mark}
use Rattle.lt_model.specs.Marks.{Marks, AreMarks}
use Rattle.lt_delta.specs.Laying.{same_sign, marked}
use Rattle.lt_delta.proofs.Starts.{later_on}

-- the mark's row, where it is of the relation and of this sign
abbrev pub one_marked : ℕ → Bool → Mark → List Row
one_marked relation plus m = if m.relation == relation && same_sign m.plus plus then m.row ∷ [] else []

first : (relation : ℕ) (plus : Bool) (m : Mark) (marks : Marks) → marked relation plus (m ∷ marks) ≡ one_marked relation plus m ++ marked relation plus marks
first relation plus m marks = elim (m.relation == relation && same_sign m.plus plus) as (λ b. (if b then m.row ∷ marked relation plus marks else marked relation plus marks) ≡ (if b then m.row ∷ [] else []) ++ marked relation plus marks) [ true ↦ refl | false ↦ refl ]

grouped : (a b c : List Row) → (a ++ b) ++ c ≡ a ++ (b ++ c)
grouped [] b c = refl
grouped (x ∷ a) b c = ap (λ (l : List Row). x ∷ l) (grouped a b c)

alone : (a : List Row) → a ++ [] ≡ a
alone [] = refl
alone (x ∷ a) = ap (λ (l : List Row). x ∷ l) (alone a)

marked_more : (relation : ℕ) (plus : Bool) (marks : Marks) (i : ℕ) (m : Mark) → slice_get marks i ≡ Some m → marked relation plus (take (i + 1) marks) ≡ marked relation plus (take i marks) ++ one_marked relation plus m
marked_more relation plus [] i m at = absurd cc
marked_more relation plus (n ∷ marks) zero m at =
    let e : n ≡ m = cc in
    first relation plus n [] ∙ alone (one_marked relation plus n) ∙ ap (one_marked relation plus) e
marked_more relation plus (n ∷ marks) (suc i) m at =
    let e : suc i + 1 ≡ suc (i + 1) = omega arith in
    ap (λ k. marked relation plus (take k (n ∷ marks))) e
    ∙ first relation plus n (take (i + 1) marks)
    ∙ ap (λ (l : List Row). one_marked relation plus n ++ l) (marked_more relation plus marks i m at)
    ∙ sym (grouped (one_marked relation plus n) (marked relation plus (take i marks)) (one_marked relation plus m))
    ∙ ap (λ (l : List Row). l ++ one_marked relation plus m) (sym (first relation plus n (take i marks)))

-- a mark of the relation and of this sign is added
pub is_marked : (relation : ℕ) (plus : Bool) (marks : Marks) (i : ℕ) (m : Mark) (done new : List Row) (row : Row) → slice_get marks i ≡ Some m → done ≡ marked relation plus (take i marks)
    → m.relation ≡ relation → m.plus ≡ plus → row ≡ m.row → new ≡ done ++ row ∷ [] → new ≡ marked relation plus (take (i + 1) marks)
is_marked relation plus marks i m done new row at before same sign copy is =
    let b : (m.relation == relation && same_sign m.plus plus) ≡ true = ap (λ x. x && same_sign m.plus plus) (eq-eqb m.relation relation same) ∙ ap (λ x. same_sign x plus) sign ∙ itself plus in
    is ∙ ap (λ (l : List Row). l ++ row ∷ []) before ∙ ap (λ (r : Row). marked relation plus (take i marks) ++ r ∷ []) copy
    ∙ ap (λ x. marked relation plus (take i marks) ++ (if x then m.row ∷ [] else [])) (sym b)
    ∙ sym (marked_more relation plus marks i m at)
  where
    itself : (p : Bool) → same_sign p p ≡ true
    itself true = refl
    itself false = refl

-- one of the other sign isn't
pub not_signed : (relation : ℕ) (plus : Bool) (marks : Marks) (i : ℕ) (m : Mark) (done : List Row) → slice_get marks i ≡ Some m → done ≡ marked relation plus (take i marks) → m.plus ≡ not plus → done ≡ marked relation plus (take (i + 1) marks)
not_signed relation plus marks i m done at before sign =
    let b : (m.relation == relation && same_sign m.plus plus) ≡ false = ap (λ x. (m.relation == relation) && same_sign x plus) sign ∙ off (m.relation == relation) plus in
    before ∙ sym (alone (marked relation plus (take i marks)))
    ∙ ap (λ x. marked relation plus (take i marks) ++ (if x then m.row ∷ [] else [])) (sym b)
    ∙ sym (marked_more relation plus marks i m at)
  where
    off : (x p : Bool) → (x && same_sign (not p) p) ≡ false
    off true true = refl
    off true false = refl
    off false p = refl

-- ---- where the relation's marks begin and end

none_marked : (relation : ℕ) (plus : Bool) (marks : Marks) → AllByRecursion (λ (m : Mark). m.relation ≢ relation) marks → marked relation plus marks ≡ []
none_marked relation plus [] off = refl
none_marked relation plus (m ∷ marks) off =
    ap (λ x. if x && same_sign m.plus plus then m.row ∷ marked relation plus marks else marked relation plus marks) (ne_eqb m.relation relation off.0) ∙ none_marked relation plus marks off.1

-- none before the place is
pub begins : (relation : ℕ) (plus : Bool) (marks : Marks) (i : ℕ) → ((p : ℕ) (m : Mark) → slice_get marks p ≡ Some m → p < i → m.relation < relation) → [] ≡ marked relation plus (take i marks)
begins relation plus marks zero before = refl
begins relation plus [] (suc i) before = refl
begins relation plus (x ∷ marks) (suc i) before =
    let lt : x.relation < relation = before 0 x refl (omega arith) in
    begins relation plus marks i (λ p m at lt. before (suc p) m at (omega arith))
    ∙ ap (λ b. if b && same_sign x.plus plus then x.row ∷ marked relation plus (take i marks) else marked relation plus (take i marks)) (sym (ne_eqb x.relation relation (λ e. absurd (omega (arith, lt, e)))))

-- none is from a mark of a later relation on
pub ends : (relation : ℕ) (plus : Bool) (marks : Marks) (i : ℕ) (m : Mark) → AreMarks marks → slice_get marks i ≡ Some m → relation < m.relation → marked relation plus (take i marks) ≡ marked relation plus marks
ends relation plus [] i m up at lt = absurd cc
ends relation plus (x ∷ marks) zero m up at lt =
    let same : x ≡ m = cc in
    let is : x.relation ≡ m.relation = ap (λ (n : Mark). n.relation) same in
    sym (none_marked relation plus (x ∷ marks) (λ e. absurd (omega (arith, is, lt, e)), later_on relation x marks (omega (arith, is, lt)) up.0))
ends relation plus (x ∷ marks) (suc i) m up at lt =
    first relation plus x (take i marks) ∙ ap (λ (l : List Row). one_marked relation plus x ++ l) (ends relation plus marks i m up.1 at lt) ∙ sym (first relation plus x marks)

-- the same of lists to whose rows something is done
pub is_marked_by : (f : Row → Row) (relation : ℕ) (plus : Bool) (marks : Marks) (i : ℕ) (m : Mark) (done new : List Row) (row : Row) → slice_get marks i ≡ Some m → done ≡ map f (marked relation plus (take i marks))
    → m.relation ≡ relation → m.plus ≡ plus → row ≡ f m.row → new ≡ done ++ row ∷ [] → new ≡ map f (marked relation plus (take (i + 1) marks))
is_marked_by f relation plus marks i m done new row at before same sign copy is =
    let old = marked relation plus (take i marks) in
    is ∙ ap (λ (l : List Row). l ++ row ∷ []) before ∙ ap (λ (r : Row). map f old ++ r ∷ []) copy
    ∙ sym (map_push f old m.row)
    ∙ ap (map f) (is_marked relation plus marks i m old (old ++ m.row ∷ []) m.row at refl same sign refl refl)
  where
    map_push : (f : Row → Row) (rows : List Row) (row : Row) → map f (rows ++ row ∷ []) ≡ map f rows ++ f row ∷ []
    map_push f [] row = refl
    map_push f (r ∷ rows) row = ap (λ (l : List Row). f r ∷ l) (map_push f rows row)

pub not_signed_by : (f : Row → Row) (relation : ℕ) (plus : Bool) (marks : Marks) (i : ℕ) (m : Mark) (done : List Row) → slice_get marks i ≡ Some m → done ≡ map f (marked relation plus (take i marks)) → m.plus ≡ not plus
    → done ≡ map f (marked relation plus (take (i + 1) marks))
not_signed_by f relation plus marks i m done at before sign = before ∙ ap (map f) (not_signed relation plus marks i m (marked relation plus (take i marks)) at refl sign)

-- what is so of each mark is so of the one at a place
pub mark_at : (P : Mark → Type 0) (marks : Marks) (i : ℕ) (m : Mark) → AllByRecursion P marks → slice_get marks i ≡ Some m → P m
mark_at P [] i m all at = absurd cc
mark_at P (n ∷ marks) zero m all at =
    let e : n ≡ m = cc in
    subst P e all.0
mark_at P (n ∷ marks) (suc i) m all at = mark_at P marks i m all.1 at
