-- A program that can't read a row that a mark is on does the same with the marks laid.
use Rattle.std.proofs.Common.{◌≡◌, ℕ, zero, suc, ◌<◌, ◌≤◌, Bool, true, false, cond, not, ◌&&◌, List, [], ◌∷◌, ◌++◌, length, map, take, drop, get_or, Option, Some, None, refl, sym, ap, ◌∙◌, subst, inl, inr, arith}
use mathlib.Core.Bool.{true≢false}
use Rattle.std.specs.Prelude.{slice_index, ◌==◌, ◌||◌, ◌⊎◌, if◌then◌else◌, filter, flat_map, slice_get, unwrap_or, ◌-◌, ◌+◌}
use Rattle.std.specs.List.{AllByRecursion, list_any}
use Rattle.std.specs.Ordering.{is_eq}
use Rattle.std.specs.declared.cmp.Ordering.{Ordering}
use Rattle.std.specs.declared.cmp.Ordering.TheVariants.{Less, Equal, Greater}
use Rattle.std.proofs.lemmas.List.{drop_more}
use Rattle.std.proofs.lemmas.Bool.{and_from, cases_lt, eq-eqb, eqb-true, or_left, or_right}
use Rattle.lt_face.specs.Lists.{IsIn}
use Rattle.lt_face.specs.Rows.{row_cmp, has_row}
use Rattle.lt_face.specs.State.{Row, State, Has, AgreeOn, rows_in}
use Rattle.lt_face.proofs.RowLemmas.{rows_exact}
use Rattle.lt_model.specs.declared.mark.Mark.{Mark}
use Rattle.lt_model.specs.declared.normal.Term.{Term}
use Rattle.lt_model.specs.declared.normal.Term.TheVariants.{Var, Cell}
use Rattle.lt_model.specs.declared.normal.Atom.{Atom}
use Rattle.lt_model.specs.declared.normal.Body.{Body}
use Rattle.lt_model.specs.declared.normal.Stmt.{Stmt}
use Rattle.lt_model.specs.declared.normal.Stmt.TheVariants.{Insert, Delete, Replace, Require, Print}
use Rattle.lt_model.specs.Answers.{Assignment, ascending, cells_of, picks, rows_under, holds, assignment_of, answer_of, answers, some_answer}
use Rattle.lt_model.specs.Effect.{Effect, Writes, Requires, Prints, Clashes, same_row, fresh, key_terms, key_body, has_clash, displaced_by, displaced, marks_on, marks_of, is_plain, displacing, coming, behind, effect}
use Rattle.lt_model.specs.Laws.{mark_on, later}
use Rattle.lt_model.specs.Marks.{Marks, laid}
use Rattle.lt_model.specs.Run.{Progress, run_on, run_from, run}
use Rattle.lt_model.proofs.Laws.{laid_has}
use Rattle.lt_query.specs.Answering.{Stands, Lacks}
use Rattle.lt_query.specs.Needs.{body_of}
use Rattle.lt_query.proofs.Ascending.{ascending_same}
use Rattle.lt_query.proofs.Picks.{IsIn-picks, Stands-from_picks, IsIn-answers, IsIn-answers_from, some_answer_is, some_answer-true}
use Rattle.lt_join.proofs.Repair.{IsAscending-answers}
use Rattle.lt_base.proofs.Apart.{has_from, has_to}
use Rattle.lt_batch.specs.Bearing.{may_be, may_be_of, bears_on_atoms, bears_on_head, bears_on_coming, bears_on, bears_on_some}
use Rattle.lt_program.proofs.Bare.{neither}
use Rattle.lt_program.proofs.ReadingMarked.{long_laid}

-- the states agree on each row that the word tells of
abbrev pub Agree : State → State → (Mark → Bool) → Type 0
Agree s t tells = (mark : Mark) → tells mark ≡ true → AgreeOn s t mark.relation mark.row

agree_back : (s t : State) (tells : Mark → Bool) → Agree s t tells → Agree t s tells
agree_back s t tells agree mark h = ((agree mark h).1, (agree mark h).0)

abbrev named : ℕ → Row → Mark
named relation row = record { relation = relation; row = row; plus = true }

some_same : {X : Type 0} {x y : X} → Some x ≡ Some y → x ≡ y
some_same {X} {x} {y} e = cc

-- ---- atoms

-- the cells of the terms may be of them
own_cells : (a : Assignment) (terms : List Term) → may_be_of terms (cells_of a terms) ≡ true
own_cells a [] = refl
own_cells a (Cell c ∷ terms) = and_from (c == c) (may_be_of terms (cells_of a terms)) (eq-eqb c c refl) (own_cells a terms)
own_cells a (Var v ∷ terms) = own_cells a terms

-- no cells may be of any terms
pub of_none : (terms : List Term) → may_be_of terms [] ≡ true
of_none [] = refl
of_none (term ∷ terms) = refl

own_atom : (a : Assignment) (atom : Atom) → (atom.relation == atom.relation && may_be_of atom.terms (cells_of a atom.terms)) ≡ true
own_atom a atom = and_from (atom.relation == atom.relation) (may_be_of atom.terms (cells_of a atom.terms)) (eq-eqb atom.relation atom.relation refl) (own_cells a atom.terms)

first_agree : (s t : State) (a : Assignment) (atom : Atom) (atoms : List Atom) → Agree s t (λ mark. bears_on_atoms mark (atom ∷ atoms)) → AgreeOn s t atom.relation (cells_of a atom.terms)
first_agree s t a atom atoms agree = agree (named atom.relation (cells_of a atom.terms)) (or_left _ (bears_on_atoms (named atom.relation (cells_of a atom.terms)) atoms) (own_atom a atom))

rest_agree : (s t : State) (atom : Atom) (atoms : List Atom) → Agree s t (λ mark. bears_on_atoms mark (atom ∷ atoms)) → Agree s t (λ mark. bears_on_atoms mark atoms)
rest_agree s t atom atoms agree mark h = agree mark (or_right (mark.relation == atom.relation && may_be_of atom.terms mark.row) (bears_on_atoms mark atoms) h)

stands : (s t : State) (a : Assignment) (atoms : List Atom) → Agree s t (λ mark. bears_on_atoms mark atoms) → Stands a atoms s → Stands a atoms t
stands s t a [] agree there = tt
stands s t a (atom ∷ atoms) agree there = ((first_agree s t a atom atoms agree).0 there.0, stands s t a atoms (rest_agree s t atom atoms agree) there.1)

lacks_too : (s t : State) (a : Assignment) (atoms : List Atom) → Agree s t (λ mark. bears_on_atoms mark atoms) → Lacks a atoms s → Lacks a atoms t
lacks_too s t a [] agree none = tt
lacks_too s t a (atom ∷ atoms) agree none = ((λ there. none.0 ((first_agree s t a atom atoms agree).1 there)), lacks_too s t a atoms (rest_agree s t atom atoms agree) none.1)

-- one cell after another
pub next_of : (terms : List Term) (row : Row) (i x : ℕ) (t : Term) (b : Bool) → i < length terms → i < length row → x ≡ slice_index row i → b ≡ may_be (get_or terms i t) x
    → may_be_of (drop i terms) (drop i row) ≡ (b && may_be_of (drop (i + 1) terms) (drop (i + 1) row))
next_of terms row i x t b below inside at is =
    ap (λ (ts : List Term). may_be_of ts (drop i row)) (drop_more terms i t below)
    ∙ ap (may_be_of (get_or terms i t ∷ drop (i + 1) terms)) (drop_more row i 0 inside)
    ∙ ap (λ (c : Bool). c && may_be_of (drop (i + 1) terms) (drop (i + 1) row)) (ap (may_be (get_or terms i t)) (sym at) ∙ sym is)

-- ---- lists, item by item

pub any_at : {X : Type 0} (p : X → Bool) (xs : List X) (i : ℕ) (x : X) → slice_get xs i ≡ Some x → p x ≡ true → list_any p xs ≡ true
any_at p [] i x at is = absurd cc
any_at p (y ∷ xs) zero x at is = or_left (p y) (list_any p xs) (ap p (some_same at) ∙ is)
any_at p (y ∷ xs) (suc i) x at is = or_right (p y) (list_any p xs) (any_at p xs i x at is)

pub none_more : {X : Type 0} (p : X → Bool) (xs : List X) (i : ℕ) (x : X) → slice_get xs i ≡ Some x → p x ≡ false → list_any p (take i xs) ≡ false → list_any p (take (suc i) xs) ≡ false
none_more p [] i x at is none = absurd cc
none_more p (y ∷ xs) zero x at is none = ap (λ (b : Bool). b || list_any p (take 0 xs)) (ap p (some_same at) ∙ is)
none_more p (y ∷ xs) (suc i) x at is none =
    let parts = neither (p y) (list_any p (take i xs)) none in
    ap (λ (b : Bool). b || list_any p (take (suc i) xs)) parts.0 ∙ none_more p xs i x at is parts.1

-- ---- bodies

-- the states agree on each row that a body may read
pub record AgreeFor (s t : State) (body : Body) : Type 0 where
  pub atoms : Agree s t (λ mark. bears_on_atoms mark body.atoms)
  pub absents : Agree s t (λ mark. bears_on_atoms mark body.absents)

for_back : (s t : State) (body : Body) → AgreeFor s t body → AgreeFor t s body
for_back s t body h = record { atoms = agree_back s t (λ mark. bears_on_atoms mark body.atoms) h.atoms; absents = agree_back s t (λ mark. bears_on_atoms mark body.absents) h.absents }

pick_there : (s t : State) (body : Body) (pick : List Row) → AgreeFor s t body → IsIn pick (picks body.atoms s) → rows_under (assignment_of body pick) body.atoms ≡ pick → IsIn pick (picks body.atoms t)
pick_there s t body pick h at same =
    let a : Assignment = assignment_of body pick in
    let there : Stands a body.atoms s = Stands-from_picks a body.atoms s (subst (λ p. IsIn p (picks body.atoms s)) (sym same) at) in
    subst (λ p. IsIn p (picks body.atoms t)) same (IsIn-picks a body.atoms t (stands s t a body.atoms h.atoms there))

answer_kept : (s t : State) (terms : List Term) (body : Body) → AgreeFor s t body → (row : Row) → IsIn row (answers terms body s) → IsIn row (answers terms body t)
answer_kept s t terms body h row there =
    let found = IsIn-answers_from terms body s row there in
    subst (λ r. IsIn r (answers terms body t)) found.4
    (IsIn-answers terms body t found.0 (pick_there s t body found.0 h found.1 found.2) found.2 found.3 (lacks_too s t (assignment_of body found.0) body.absents h.absents found.5))

answers_alike : (s t : State) (terms : List Term) (body : Body) → AgreeFor s t body → answers terms body s ≡ answers terms body t
answers_alike s t terms body h =
    ascending_same (answers terms body s) (answers terms body t) (IsAscending-answers terms body s) (IsAscending-answers terms body t)
    (answer_kept s t terms body h) (answer_kept t s terms body (for_back s t body h))

some_kept : (s t : State) (body : Body) → AgreeFor s t body → some_answer body s ≡ true → some_answer body t ≡ true
some_kept s t body h is =
    let found = some_answer-true body s is in
    some_answer_is body t found.0 (pick_there s t body found.0 h found.1 found.2) found.2 found.3 (lacks_too s t (assignment_of body found.0) body.absents h.absents found.4)

bool_same : (x y : Bool) → (x ≡ true → y ≡ true) → (y ≡ true → x ≡ true) → x ≡ y
bool_same true y f g = sym (f refl)
bool_same false true f g = g refl
bool_same false false f g = refl

some_alike : (s t : State) (body : Body) → AgreeFor s t body → some_answer body s ≡ some_answer body t
some_alike s t body h = bool_same (some_answer body s) (some_answer body t) (some_kept s t body h) (some_kept t s body (for_back s t body h))

-- ---- displaced rows

both : (x y : Bool) → (x && y) ≡ true → (x ≡ true) × (y ≡ true)
both true y h = (refl, h)
both false y h = absurd (true≢false (sym h))

-- what may have the key of a row of terms may have the terms' key
of_key : (keys : ℕ) (a : Assignment) (terms more : List Term) (row : Row) → may_be_of (map Cell (take keys (cells_of a terms)) ++ more) row ≡ true → may_be_of (take keys terms) row ≡ true
of_key zero a terms more row h = refl
of_key (suc keys) a [] more row h = refl
of_key (suc keys) a (term ∷ terms) more [] h = refl
of_key (suc keys) a (Cell c ∷ terms) more (x ∷ row) h =
    let here = both (c == x) (may_be_of (map Cell (take keys (cells_of a terms)) ++ more) row) h in
    and_from (c == x) (may_be_of (take keys terms) row) here.0 (of_key keys a terms more row here.1)
of_key (suc keys) a (Var v ∷ terms) more (x ∷ row) h =
    of_key keys a terms more row (both (a v == x) (may_be_of (map Cell (take keys (cells_of a terms)) ++ more) row) h).1

-- the key as a body
key_agrees : (s t : State) (keys : ℕ) (head : Atom) (a : Assignment) (row : Row) → is_plain head keys ≡ false → Agree s t (λ mark. bears_on_head mark keys head) → cells_of a head.terms ≡ row → AgreeFor s t (key_body head.relation keys row)
key_agrees s t keys head a row keyed agree is = record {
  atoms = λ mark h. agree mark (told mark (or_first mark h));
  absents = λ mark h. absurd (true≢false (sym h));
}
  where
    or_first : (mark : Mark) → ((mark.relation == head.relation && may_be_of (key_terms keys row) mark.row) || false) ≡ true → (mark.relation == head.relation && may_be_of (key_terms keys row) mark.row) ≡ true
    or_first mark h = elim (mark.relation == head.relation && may_be_of (key_terms keys row) mark.row) as (λ b. (b || false) ≡ true → b ≡ true) [ true ↦ λ e. refl | false ↦ λ e. e ] h

    told : (mark : Mark) → (mark.relation == head.relation && may_be_of (key_terms keys row) mark.row) ≡ true → bears_on_head mark keys head ≡ true
    told mark h =
        let here = both (mark.relation == head.relation) (may_be_of (key_terms keys row) mark.row) h in
        let key : may_be_of (map Cell (take keys (cells_of a head.terms)) ++ fresh 0 (length row - keys)) mark.row ≡ true =
        subst (λ (r : Row). may_be_of (map Cell (take keys r) ++ fresh 0 (length row - keys)) mark.row ≡ true) (sym is) here.1 in
        and_from (not (is_plain head keys)) (mark.relation == head.relation && may_be_of (take keys head.terms) mark.row) (ap not keyed)
        (and_from (mark.relation == head.relation) (may_be_of (take keys head.terms) mark.row) here.0 (of_key keys a head.terms (fresh 0 (length row - keys)) mark.row key))

flat_map_same : {X Y : Type 0} (f g : X → List Y) (xs : List X) → ((x : X) → IsIn x xs → f x ≡ g x) → flat_map f xs ≡ flat_map g xs
flat_map_same f g [] h = refl
flat_map_same f g (x ∷ xs) h = ap (λ ys. ys ++ flat_map f xs) (h x (inl refl)) ∙ ap (λ ys. g x ++ ys) (flat_map_same f g xs (λ y at. h y (inr at)))

displaced_alike : (s t u : State) (keys : ℕ) (head : Atom) (body : Body) → is_plain head keys ≡ false → Agree s t (λ mark. bears_on_head mark keys head)
    → displaced head.relation keys s (answers head.terms body u) ≡ displaced head.relation keys t (answers head.terms body u)
displaced_alike s t u keys head body keyed agree =
    ap ascending (flat_map_same (displaced_by head.relation keys s) (displaced_by head.relation keys t) (answers head.terms body u) (λ row at.
    let found = IsIn-answers_from head.terms body u row at in
    ap (filter (λ other. not (same_row other row))) (answers_alike s t (key_terms keys row) (key_body head.relation keys row) (key_agrees s t keys head (assignment_of body found.0) row keyed agree found.4))))

-- ---- statements

coming_alike : (s t u : State) (keys : ℕ) (head : Atom) (body : Body) → Agree s t (λ mark. bears_on_head mark keys head)
    → coming head keys (answers head.terms body u) s ≡ coming head keys (answers head.terms body u) t
coming_alike s t u keys head body agree = go (is_plain head keys) refl
  where
    plain : Effect
    plain = Writes (marks_on head.relation true (answers head.terms body u))

    keyed : List Row → Effect
    keyed gone = cond (has_clash keys (answers head.terms body u)) Clashes (Writes (displacing head.relation gone (answers head.terms body u)))

    go : (b : Bool) → is_plain head keys ≡ b → coming head keys (answers head.terms body u) s ≡ coming head keys (answers head.terms body u) t
    go true e =
        ap (λ b. cond b plain (keyed (displaced head.relation keys s (answers head.terms body u)))) e
        ∙ sym (ap (λ b. cond b plain (keyed (displaced head.relation keys t (answers head.terms body u)))) e)
    go false e = ap (λ gone. cond (is_plain head keys) plain (keyed gone)) (displaced_alike s t u keys head body e agree)

heads_alike : (s t : State) (keys : ℕ) (head : Atom) (body : Body) → AgreeFor s t body → Agree s t (λ mark. bears_on_head mark keys head)
    → coming head keys (answers head.terms body s) s ≡ coming head keys (answers head.terms body t) t
heads_alike s t keys head body h agree = coming_alike s t s keys head body agree ∙ ap (λ rows. coming head keys rows t) (answers_alike s t head.terms body h)

marks_alike : (s t : State) (plus : Bool) (head : Atom) (body : Body) → AgreeFor s t body → marks_of plus head body s ≡ marks_of plus head body t
marks_alike s t plus head body h = ap (marks_on head.relation plus) (answers_alike s t head.terms body h)

for_body : (s t : State) (stmt : Stmt) → Agree s t (λ mark. bears_on mark stmt) → AgreeFor s t (body_of stmt)
for_body s t stmt agree = record {
  atoms = λ mark h. agree mark (or_left (bears_on_atoms mark (body_of stmt).atoms) (bears_on_atoms mark (body_of stmt).absents || bears_on_coming mark stmt) h);
  absents = λ mark h. agree mark (or_right (bears_on_atoms mark (body_of stmt).atoms) (bears_on_atoms mark (body_of stmt).absents || bears_on_coming mark stmt) (or_left (bears_on_atoms mark (body_of stmt).absents) (bears_on_coming mark stmt) h));
}

for_head : (s t : State) (stmt : Stmt) → Agree s t (λ mark. bears_on mark stmt) → Agree s t (λ mark. bears_on_coming mark stmt)
for_head s t stmt agree mark h = agree mark (or_right (bears_on_atoms mark (body_of stmt).atoms) (bears_on_atoms mark (body_of stmt).absents || bears_on_coming mark stmt) (or_right (bears_on_atoms mark (body_of stmt).absents) (bears_on_coming mark stmt) h))

effect_alike : (s t : State) (stmt : Stmt) → Agree s t (λ mark. bears_on mark stmt) → effect stmt s ≡ effect stmt t
effect_alike s t (Insert head keys body) agree = heads_alike s t keys head body (for_body s t (Insert head keys body) agree) (for_head s t (Insert head keys body) agree)
effect_alike s t (Delete head body) agree = ap Writes (marks_alike s t false head body (for_body s t (Delete head body) agree))
effect_alike s t (Replace gone come keys body) agree =
    ap (λ m. behind m (coming come keys (answers come.terms body s) s)) (marks_alike s t false gone body (for_body s t (Replace gone come keys body) agree))
    ∙ ap (behind (marks_of false gone body t)) (heads_alike s t keys come body (for_body s t (Replace gone come keys body) agree) (for_head s t (Replace gone come keys body) agree))
effect_alike s t (Require true body) agree = ap Requires (some_alike s t body (for_body s t (Require true body) agree))
effect_alike s t (Require false body) agree = ap (λ b. Requires (not b)) (some_alike s t body (for_body s t (Require false body) agree))
effect_alike s t (Print terms kinds body) agree = ap (Prints kinds) (answers_alike s t terms body (for_body s t (Print terms kinds body) agree))

-- ---- whole runs

-- whatever marks are laid on both, the states agree on what each statement may read
abbrev StayAgreed : State → State → List Stmt → Type 0
StayAgreed s t program = AllByRecursion (λ (stmt : Stmt). (marks : Marks) → Agree (laid s marks) (laid t marks) (λ mark. bears_on mark stmt)) program

run_from_alike : (j : ℕ) (program : List Stmt) (s t : State) (p : Progress) → StayAgreed s t program → run_from j program s p ≡ run_from j program t p
run_from_alike j [] s t p h = refl
run_from_alike j (stmt ∷ program) s t p h =
    let told : effect stmt (laid s p.marks) ≡ effect stmt (laid t p.marks) = effect_alike (laid s p.marks) (laid t p.marks) stmt (h.0 p.marks) in
    let rest : run_from (j + 1) program s ≡ run_from (j + 1) program t = λ i. λ q. run_from_alike (j + 1) program s t q h.1 i in
    ap (λ e. run_on j p e (run_from (j + 1) program s)) told ∙ ap (run_on j p (effect stmt (laid t p.marks))) rest

-- ---- states with marks laid

equal_is : (o : Ordering) → is_eq o ≡ true → o ≡ Equal
equal_is Less h = absurd (true≢false (sym h))
equal_is Equal h = refl
equal_is Greater h = absurd (true≢false (sym h))

-- no mark is on a row that none of them bears on
unnamed : (tells : Mark → Bool) (marks : Marks) (relation : ℕ) (row : Row) → list_any tells marks ≡ false → ((plus : Bool) → tells (record { relation = relation; row = row; plus = plus }) ≡ true) → mark_on marks relation row ≡ None
unnamed tells [] relation row none told = refl
unnamed tells (m ∷ marks) relation row none told =
    let parts = neither (tells m) (list_any tells marks) none in
    let rest = unnamed tells marks relation row parts.1 told in
    ap (λ (o : Option Bool). later o (if m.relation == relation && is_eq (row_cmp m.row row) then Some m.plus else None)) rest
    ∙ ap (λ (b : Bool). if b then Some m.plus else None) (other (m.relation == relation && is_eq (row_cmp m.row row)) refl parts.0)
  where
    other : (b : Bool) → (m.relation == relation && is_eq (row_cmp m.row row)) ≡ b → tells m ≡ false → (m.relation == relation && is_eq (row_cmp m.row row)) ≡ false
    other false e off = e
    other true e off =
        let here = both (m.relation == relation) (is_eq (row_cmp m.row row)) e in
        let on : tells m ≡ true =
        ap (λ (r : ℕ). tells (record { relation = r; row = m.row; plus = m.plus })) (eqb-true m.relation relation here.0)
        ∙ ap (λ (r : Row). tells (record { relation = relation; row = r; plus = m.plus })) (rows_exact m.row row (equal_is (row_cmp m.row row) here.1))
        ∙ told m.plus in
        absurd (true≢false (sym on ∙ off))

past_get : {X : Type 0} (xs : List X) (n : ℕ) → length xs ≤ n → slice_get xs n ≡ None
past_get [] n le = refl
past_get (x ∷ xs) zero le = absurd (omega arith)
past_get (x ∷ xs) (suc n) le = past_get xs n (omega arith)

past_rows : (state : State) (relation : ℕ) → length state ≤ relation → rows_in state relation ≡ []
past_rows state relation le = rw (past_get state relation le) refl

-- a row that no mark is on
has_same : (s : State) (marks : Marks) (relation : ℕ) (row : Row) → mark_on marks relation row ≡ None → has_row (rows_in s relation) row ≡ has_row (rows_in (laid s marks) relation) row
has_same s marks relation row none = elim (cases_lt relation (length s)) [
  | inl lt ↦ sym (laid_has s marks relation row lt ∙ ap (λ (o : Option Bool). unwrap_or o (has_row (rows_in s relation) row)) none)
  | inr ge ↦
      let long = long_laid s marks in
      ap (λ (rows : List Row). has_row rows row) (past_rows s relation (omega (arith, ge)) ∙ sym (past_rows (laid s marks) relation (omega (arith, long, ge))))
]

both_laid : (s t : State) (more : Marks) (relation : ℕ) (row : Row) → length s ≡ length t → has_row (rows_in s relation) row ≡ has_row (rows_in t relation) row → has_row (rows_in (laid s more) relation) row ≡ has_row (rows_in (laid t more) relation) row
both_laid s t more relation row long same = elim (cases_lt relation (length s)) [
  | inl lt ↦ laid_has s more relation row lt ∙ ap (unwrap_or (mark_on more relation row)) same ∙ sym (laid_has t more relation row (omega (arith, long, lt)))
  | inr ge ↦
      let first = long_laid s more in
      let second = long_laid t more in
      ap (λ (rows : List Row). has_row rows row) (past_rows (laid s more) relation (omega (arith, first, ge)) ∙ sym (past_rows (laid t more) relation (omega (arith, second, long, ge))))
]

agrees : (s t : State) (relation : ℕ) (row : Row) → has_row (rows_in s relation) row ≡ has_row (rows_in t relation) row → AgreeOn s t relation row
agrees s t relation row same = (λ there. has_from (rows_in t relation) row (sym same ∙ has_to (rows_in s relation) row there), λ there. has_from (rows_in s relation) row (same ∙ has_to (rows_in t relation) row there))

module _ (s : State) (marks : Marks) (program : List Stmt) (none : list_any (bears_on_some program) marks ≡ false) where
  agreed : (more : Marks) (mark : Mark) → ((plus : Bool) → bears_on_some program (record { relation = mark.relation; row = mark.row; plus = plus }) ≡ true) → AgreeOn (laid s more) (laid (laid s marks) more) mark.relation mark.row
  agreed more mark told =
      let off : mark_on marks mark.relation mark.row ≡ None = unnamed (bears_on_some program) marks mark.relation mark.row none told in
      agrees (laid s more) (laid (laid s marks) more) mark.relation mark.row (both_laid s (laid s marks) more mark.relation mark.row (long_laid s marks) (has_same s marks mark.relation mark.row off))

  stay : (rest : List Stmt) → ((mark : Mark) (stmt : Stmt) → IsIn stmt rest → bears_on mark stmt ≡ true → bears_on_some program mark ≡ true) → StayAgreed s (laid s marks) rest
  stay [] from = tt
  stay (stmt ∷ rest) from =
      (λ more mark h. agreed more mark (λ plus. from (record { relation = mark.relation; row = mark.row; plus = plus }) stmt (inl refl) h), stay rest (λ mark other at h. from mark other (inr at) h))

any_of : (mark : Mark) (program : List Stmt) (stmt : Stmt) → IsIn stmt program → bears_on mark stmt ≡ true → bears_on_some program mark ≡ true
any_of mark [] stmt at h = absurd at
any_of mark (first ∷ program) stmt at h = elim at [
  | inl same ↦ or_left (bears_on mark first) (bears_on_some program mark) (ap (bears_on mark) same ∙ h)
  | inr later ↦ or_right (bears_on mark first) (bears_on_some program mark) (any_of mark program stmt later h)
]

pub run-unborne : (program : List Stmt) (s : State) (marks : Marks) → list_any (bears_on_some program) marks ≡ false → run program s ≡ run program (laid s marks)
run-unborne program s marks none = run_from_alike 1 program s (laid s marks) (record { marks = []; prints = [] }) (stay s marks program none program (λ mark stmt at h. any_of mark program stmt at h))
