-- Tokens that are a statement's but for constants are a statement of the same form.
use Rattle.std.proofs.Common.{◌≡◌, ℕ, suc, ◌+◌, ◌≤◌, Bool, true, false, List, [], ◌∷◌, ◌++◌, map, length, refl, sym, ap, subst, ◌∙◌}
use Rattle.std.specs.Prelude.{codes}
use Rattle.std.proofs.lemmas.List.{length-map}
use Rattle.lt_face.specs.Limits.{most_columns, most_literals, most_variables}
use Rattle.lt_model.specs.declared.kind.Kind.TheVariants.{Int, Sym}
use Rattle.lt_model.specs.declared.syntax.Term.{Term}
use Rattle.lt_model.specs.declared.syntax.Term.TheVariants.{Name, Cell}
use Rattle.lt_model.specs.declared.syntax.Head.{Head}
use Rattle.lt_model.specs.declared.syntax.Literal.{Literal}
use Rattle.lt_model.specs.declared.syntax.Literal.TheVariants.{Atom, Absent, Cmp, Sum}
use Rattle.lt_model.specs.declared.syntax.Statement.{Statement}
use Rattle.lt_model.specs.declared.syntax.Statement.TheVariants.{Insert, Delete, Replace, Require, Print}
use Rattle.lt_model.specs.Alike.{Same, Alike, AlikeTokens}
use Rattle.lt_model.specs.Cells.{sym_cell}
use Rattle.lt_model.specs.Forms.{on_term, on_head, on_literal, on_statement, cells_in, numbered_term, past_terms, numbered_terms, numbered_head, numbered_literal, numbered_body, numbered}
use Rattle.lt_model.specs.Sentences.{Level, formed, few, fine, legal, AtMost, UpTo, HasFewVariables, Language, the, ◌·◌, each, comma, listed, limited, semicolon, minus_sign, digits_value, signed, greatest, signed_cell, SpellsTerm, SpellsTerms, SpellsHead, op_text, sum_text, SpellsLiteral, SpellsBody, where_word, SpellsWhere, some_text, SpellsForm}
use Rattle.lt_model.specs.Tokens.{Shape, word, number, symbol, sign}
use Rattle.lt_model.specs.Variables.{literal_terms, variables}
use Rattle.lt_model.proofs.OnCells.{variables-on}

-- ---- the number of a constant doesn't hang on its cell

past-on : (f : ℕ → ℕ) (n : ℕ) (ts : List Term) → past_terms n (map (on_term f) ts) ≡ past_terms n ts
past-on f n ts = ap (λ m. n + m) (cells_long f ts)
  where
    cells_long : (f : ℕ → ℕ) (ts : List Term) → length (cells_in (map (on_term f) ts)) ≡ length (cells_in ts)
    cells_long f [] = refl
    cells_long f (Name name ∷ ts) = cells_long f ts
    cells_long f (Cell kind cell ∷ ts) = ap suc (cells_long f ts)

term_numbered-on : (f : ℕ → ℕ) (n : ℕ) (t : Term) → numbered_term n (on_term f t) ≡ numbered_term n t
term_numbered-on f n (Name name) = refl
term_numbered-on f n (Cell kind cell) = refl

terms_numbered-on : (f : ℕ → ℕ) (n : ℕ) (ts : List Term) → numbered_terms n (map (on_term f) ts) ≡ numbered_terms n ts
terms_numbered-on f n [] = refl
terms_numbered-on f n (t ∷ ts) =
    ap (λ x. x ∷ numbered_terms (past_terms n (on_term f t ∷ [])) (map (on_term f) ts)) (term_numbered-on f n t)
    ∙ (ap (λ m. numbered_term n t ∷ numbered_terms m (map (on_term f) ts)) (past-on f n (t ∷ [])) ∙ ap (λ w. numbered_term n t ∷ w) (terms_numbered-on f (past_terms n (t ∷ [])) ts))

head_numbered-on : (f : ℕ → ℕ) (n : ℕ) (head : Head) → numbered_head n (on_head f head) ≡ numbered_head n head
head_numbered-on f n head = ap (λ (ts : List Term). record { relation = head.relation; terms = ts }) (terms_numbered-on f n head.terms)

literal_numbered-on : (f : ℕ → ℕ) (n : ℕ) (l : Literal) → numbered_literal n (on_literal f l) ≡ numbered_literal n l
literal_numbered-on f n (Atom head) = ap Atom (head_numbered-on f n head)
literal_numbered-on f n (Absent head) = ap Absent (head_numbered-on f n head)
literal_numbered-on f n (Cmp left op right) =
    ap (λ t. Cmp t op (numbered_term (past_terms n (on_term f left ∷ [])) (on_term f right))) (term_numbered-on f n left)
    ∙ (ap (λ m. Cmp (numbered_term n left) op (numbered_term m (on_term f right))) (past-on f n (left ∷ [])) ∙ ap (Cmp (numbered_term n left) op) (term_numbered-on f (past_terms n (left ∷ [])) right))
literal_numbered-on f n (Sum var a minus b) =
    ap (λ t. Sum var t minus (numbered_term (past_terms n (on_term f a ∷ [])) (on_term f b))) (term_numbered-on f n a)
    ∙ (ap (λ m. Sum var (numbered_term n a) minus (numbered_term m (on_term f b))) (past-on f n (a ∷ [])) ∙ ap (Sum var (numbered_term n a) minus) (term_numbered-on f (past_terms n (a ∷ [])) b))

literal_terms-on : (f : ℕ → ℕ) (l : Literal) → literal_terms (on_literal f l) ≡ map (on_term f) (literal_terms l)
literal_terms-on f (Atom head) = refl
literal_terms-on f (Absent head) = refl
literal_terms-on f (Cmp left op right) = refl
literal_terms-on f (Sum var a minus b) = refl

body_numbered-on : (f : ℕ → ℕ) (n : ℕ) (body : List Literal) → numbered_body n (map (on_literal f) body) ≡ numbered_body n body
body_numbered-on f n [] = refl
body_numbered-on f n (l ∷ ls) =
    ap (λ x. x ∷ numbered_body (past_terms n (literal_terms (on_literal f l))) (map (on_literal f) ls)) (literal_numbered-on f n l)
    ∙ (ap (λ m. numbered_literal n l ∷ numbered_body m (map (on_literal f) ls)) (ap (past_terms n) (literal_terms-on f l) ∙ past-on f n (literal_terms l)) ∙ ap (λ w. numbered_literal n l ∷ w) (body_numbered-on f (past_terms n (literal_terms l)) ls))

-- a body behind these terms
behind-on : (f : ℕ → ℕ) (n : ℕ) (ts : List Term) (body : List Literal) → numbered_body (past_terms n (map (on_term f) ts)) (map (on_literal f) body) ≡ numbered_body (past_terms n ts) body
behind-on f n ts body = ap (λ m. numbered_body m (map (on_literal f) body)) (past-on f n ts) ∙ body_numbered-on f (past_terms n ts) body

pub numbered-on : (f : ℕ → ℕ) (s : Statement) → numbered (on_statement f s) ≡ numbered s
numbered-on f (Insert head body) =
    ap (λ h. Insert h (numbered_body (past_terms 0 (map (on_term f) head.terms)) (map (on_literal f) body))) (head_numbered-on f 0 head) ∙ ap (Insert (numbered_head 0 head)) (behind-on f 0 head.terms body)
numbered-on f (Delete head body) =
    ap (λ h. Delete h (numbered_body (past_terms 0 (map (on_term f) head.terms)) (map (on_literal f) body))) (head_numbered-on f 0 head) ∙ ap (Delete (numbered_head 0 head)) (behind-on f 0 head.terms body)
numbered-on f (Replace gone come body) =
    let n = past_terms 0 gone.terms in
    let changed = map (on_literal f) body in
    let come' = on_head f come in
    ap (λ h. Replace h (numbered_head (past_terms 0 (map (on_term f) gone.terms)) come') (numbered_body (past_terms (past_terms 0 (map (on_term f) gone.terms)) come'.terms) changed)) (head_numbered-on f 0 gone)
    ∙ (ap (λ m. Replace (numbered_head 0 gone) (numbered_head m come') (numbered_body (past_terms m come'.terms) changed)) (past-on f 0 gone.terms)
    ∙ (ap (λ h. Replace (numbered_head 0 gone) h (numbered_body (past_terms n come'.terms) changed)) (head_numbered-on f n come) ∙ ap (Replace (numbered_head 0 gone) (numbered_head n come)) (behind-on f n come.terms body)))
numbered-on f (Require some body) = ap (Require some) (body_numbered-on f 0 body)
numbered-on f (Print terms body) =
    ap (λ ts. Print ts (numbered_body (past_terms 0 (map (on_term f) terms)) (map (on_literal f) body))) (terms_numbered-on f 0 terms) ∙ ap (Print (numbered_terms 0 terms)) (behind-on f 0 terms body)

-- ---- tokens

-- with 0 for each cell
abbrev bare : ℕ → ℕ
bare cell = 0

-- tokens alike a thing's are those of one that has the same under e
abbrev Goes : {A B : Type 0} → Level → (A → Language) → (A → B) → Type 0
Goes {A} level P e = (x : A) (ts us : List Shape) → P x ts → Alike level ts us → (y : A) × P y us × (e y ≡ e x)

-- the parts of tokens, beside those of others
parts : (level : Level) (ts a b us : List Shape) → ts ≡ a ++ b → Alike level ts us → (c : List Shape) × (d : List Shape) × (us ≡ c ++ d) × Alike level a c × Alike level b d
parts level ts a b us e h = cut a b us (subst (λ (w : List Shape). Alike level w us) e h)
  where
    cut : (a b us : List Shape) → Alike level (a ++ b) us → (c : List Shape) × (d : List Shape) × (us ≡ c ++ d) × Alike level a c × Alike level b d
    cut [] b us h = ([], us, refl, refl, h)
    cut (t ∷ a) b [] h = absurd h
    cut (t ∷ a) b (u ∷ us) h = let r = cut a b us h.1 in (u ∷ r.0, r.1, ap (λ (w : List Shape). u ∷ w) r.2, (h.0, r.3), r.4)

one_alike : (level : Level) (t : Shape) (us : List Shape) → Alike level (t ∷ []) us → (u : Shape) × (us ≡ u ∷ []) × Same level t u
one_alike level t [] h = absurd h
one_alike level t (u ∷ us) h = (u, ap (λ (w : List Shape). u ∷ w) h.1, h.0)

the_alike : (level : Level) (s : Shape) (ts us : List Shape) → ((u : Shape) → Same level s u → u ≡ s) → ts ≡ s ∷ [] → Alike level ts us → us ≡ s ∷ []
the_alike level s ts us same e h =
    let one = one_alike level s us (subst (λ (w : List Shape). Alike level w us) e h) in
    one.1 ∙ ap (λ (u : Shape). u ∷ []) (same one.0 one.2)

word_alike : (level : Level) (x : List ℕ) (ts us : List Shape) → ts ≡ word x ∷ [] → Alike level ts us → us ≡ word x ∷ []
word_alike level x ts us e h = the_alike level (word x) ts us (λ u s. s) e h

sign_alike : (level : Level) (x : List ℕ) (ts us : List Shape) → ts ≡ sign x ∷ [] → Alike level ts us → us ≡ sign x ∷ []
sign_alike level x ts us e h = the_alike level (sign x) ts us (λ u s. s) e h

number_alike : (level : Level) (minus : Bool) (digits : List ℕ) (ts us : List Shape) → ts ≡ signed minus digits → Alike level ts us → (other : List ℕ) × (us ≡ signed minus other) × UpTo level (greatest minus) (digits_value other)
number_alike level false digits ts us e h =
    let one = one_alike level (number digits) us (subst (λ (w : List Shape). Alike level w us) e h) in
    let same = one.2 in
    (same.0, one.1 ∙ ap (λ (u : Shape). u ∷ []) same.1, same.2 false)
number_alike level true digits ts us e h =
    let both = parts level ts (minus_sign ∷ []) (number digits ∷ []) us e h in
    let one = one_alike level (number digits) both.1 both.4 in
    let same = one.2 in
    let front : both.0 ≡ minus_sign ∷ [] = sign_alike level (codes "-") (minus_sign ∷ []) both.0 refl both.3 in
    (same.0, both.2 ∙ (ap (λ (w : List Shape). w ++ both.1) front ∙ ap (λ (w : List Shape). minus_sign ∷ w) (one.1 ∙ ap (λ (u : Shape). u ∷ []) same.1)), same.2 true)

term_goes : (level : Level) → Goes level (SpellsTerm level) (on_term bare)
term_goes level (Name name) ts us h alike = (Name name, (word_alike level name ts us h.0 alike, h.1), refl)
term_goes level (Cell Int cell) ts us h alike =
    let n = number_alike level h.0 h.1 ts us h.2 alike in
    (Cell Int (signed_cell h.0 (digits_value n.0)), (h.0, n.0, n.1, refl, n.2), refl)
term_goes level (Cell Sym cell) ts us h alike =
    let one = one_alike level (symbol h.0) us (subst (λ (w : List Shape). Alike level w us) h.1 alike) in
    let same = one.2 in
    (Cell Sym (sym_cell same.0), (same.0, one.1 ∙ ap (λ (u : Shape). u ∷ []) same.1, refl), refl)

-- ---- lists

each_goes : {A B : Type 0} (level : Level) (P : A → Language) (e : A → B) → Goes level P e → (xs : List A) (ts us : List Shape) → each P xs ts → Alike level ts us → (ys : List A) × each P ys us × (map e ys ≡ map e xs)
each_goes level P e go [] ts us h alike = ([], subst (λ (w : List Shape). Alike level w us) h alike, refl)
each_goes level P e go (x ∷ xs) ts us h alike =
    let cut = parts level ts h.0 h.1 us h.2 alike in
    let first = go x h.0 cut.0 h.3 cut.3 in
    let rest = each_goes level P e go xs h.1 cut.1 h.4 cut.4 in
    (first.0 ∷ rest.0, (cut.0, cut.1, cut.2, first.1, rest.1), ap (λ y. y ∷ map e rest.0) first.2 ∙ ap (λ w. e x ∷ w) rest.2)

comma_goes : {A B : Type 0} (level : Level) (P : A → Language) (e : A → B) → Goes level P e → Goes level (λ y. the comma · P y) e
comma_goes level P e go x ts us h alike =
    let cut = parts level ts h.0 h.1 us h.2 alike in
    let next = go x h.1 cut.1 h.4 cut.4 in
    (next.0, (cut.0, cut.1, cut.2, sign_alike level (codes ",") h.0 cut.0 h.3 cut.3, next.1), next.2)

listed_goes : {A B : Type 0} (level : Level) (P : A → Language) (e : A → B) → Goes level P e → (xs : List A) (ts us : List Shape) → listed P xs ts → Alike level ts us → (ys : List A) × listed P ys us × (map e ys ≡ map e xs)
listed_goes level P e go [] ts us h alike = absurd h
listed_goes level P e go (x ∷ xs) ts us h alike =
    let cut = parts level ts h.0 h.1 us h.2 alike in
    let first = go x h.0 cut.0 h.3 cut.3 in
    let rest = each_goes level (λ y. the comma · P y) e (comma_goes level P e go) xs h.1 cut.1 h.4 cut.4 in
    (first.0 ∷ rest.0, (cut.0, cut.1, cut.2, first.1, rest.1), ap (λ y. y ∷ map e rest.0) first.2 ∙ ap (λ w. e x ∷ w) rest.2)

as_long : {A B : Type 0} (e : A → B) (xs ys : List A) → map e ys ≡ map e xs → length xs ≡ length ys
as_long e xs ys same = sym (length-map xs e) ∙ (ap length (sym same) ∙ length-map ys e)

limited_goes : {A B : Type 0} (level : Level) (limit : ℕ) (P : A → Language) (e : A → B) → Goes level P e → Goes level (limited level limit listed P) (map e)
limited_goes level limit P e go xs ts us h alike =
    let all = listed_goes level P e go xs ts us h.1 alike in
    (all.0, (subst (AtMost level limit) (as_long e xs all.0 all.2) h.0, all.1), all.2)

-- ---- heads and bodies

terms_goes : (level : Level) → Goes level (SpellsTerms level) (map (on_term bare))
terms_goes level terms ts us h alike =
    let cut = parts level ts h.0 h.1 us h.2 alike in
    let m = h.4 in
    let inner = parts level h.1 m.0 m.1 cut.1 m.2 cut.4 in
    let all = limited_goes level most_columns (SpellsTerm level) (on_term bare) (term_goes level) terms m.0 inner.0 m.3 inner.3 in
    (all.0, (cut.0, cut.1, cut.2, sign_alike level (codes "(") h.0 cut.0 h.3 cut.3, (inner.0, inner.1, inner.2, all.1, sign_alike level (codes ")") m.1 inner.1 m.4 inner.4)), all.2)

head_goes : (level : Level) → Goes level (SpellsHead level) (on_head bare)
head_goes level head ts us h alike =
    let cut = parts level ts h.0 h.1 us h.2 alike in
    let all = terms_goes level head.terms h.1 cut.1 h.4 cut.4 in
    (record { relation = head.relation; terms = all.0 }, (cut.0, cut.1, cut.2, (word_alike level head.relation h.0 cut.0 (h.3).0 cut.3, (h.3).1), all.1), ap (λ (w : List Term). record { relation = head.relation; terms = w }) all.2)

literal_goes : (level : Level) → Goes level (SpellsLiteral level) (on_literal bare)
literal_goes level (Atom head) ts us h alike = let all = head_goes level head ts us h alike in (Atom all.0, all.1, ap Atom all.2)
literal_goes level (Absent head) ts us h alike =
    let cut = parts level ts h.0 h.1 us h.2 alike in
    let all = head_goes level head h.1 cut.1 h.4 cut.4 in
    (Absent all.0, (cut.0, cut.1, cut.2, word_alike level (codes "not") h.0 cut.0 h.3 cut.3, all.1), ap Absent all.2)
literal_goes level (Cmp left op right) ts us h alike =
    let cut = parts level ts h.0 h.1 us h.2 alike in
    let m = h.4 in
    let inner = parts level h.1 m.0 m.1 cut.1 m.2 cut.4 in
    let a = term_goes level left h.0 cut.0 h.3 cut.3 in
    let b = term_goes level right m.1 inner.1 m.4 inner.4 in
    (Cmp a.0 op b.0, (cut.0, cut.1, cut.2, a.1, (inner.0, inner.1, inner.2, sign_alike level (op_text op) m.0 inner.0 m.3 inner.3, b.1)), ap (λ t. Cmp t op (on_term bare b.0)) a.2 ∙ ap (Cmp (on_term bare left) op) b.2)
literal_goes level (Sum var x minus y) ts us h alike =
    let cut = parts level ts h.0 h.1 us h.2 alike in
    let m = h.4 in
    let second = parts level h.1 m.0 m.1 cut.1 m.2 cut.4 in
    let k = m.4 in
    let third = parts level m.1 k.0 k.1 second.1 k.2 second.4 in
    let l = k.4 in
    let fourth = parts level k.1 l.0 l.1 third.1 l.2 third.4 in
    let a = term_goes level x k.0 third.0 k.3 third.3 in
    let b = term_goes level y l.1 fourth.1 l.4 fourth.4 in (
      Sum var a.0 minus b.0,
      (
        cut.0,
        cut.1,
        cut.2,
        (word_alike level var h.0 cut.0 (h.3).0 cut.3, (h.3).1),
        (
          second.0,
          second.1,
          second.2,
          sign_alike level (codes "=") m.0 second.0 m.3 second.3,
          (third.0, third.1, third.2, a.1, (fourth.0, fourth.1, fourth.2, sign_alike level (sum_text minus) l.0 fourth.0 l.3 fourth.3, b.1)),
        ),
      ),
      ap (λ t. Sum var t minus (on_term bare b.0)) a.2 ∙ ap (Sum var (on_term bare x) minus) b.2,
    )

body_goes : (level : Level) → Goes level (SpellsBody level) (map (on_literal bare))
body_goes level = limited_goes level most_literals (SpellsLiteral level) (on_literal bare) (literal_goes level)

spells_where : (level : Level) (body : List Literal) (us front back : List Shape) → us ≡ front ++ back → front ≡ where_word ∷ [] → SpellsBody level body back → SpellsWhere level body us
spells_where level [] us front back e w h = absurd h.1
spells_where level (l ∷ ls) us front back e w h = (front, back, e, w, h)

where_goes : (level : Level) → Goes level (SpellsWhere level) (map (on_literal bare))
where_goes level [] ts us h alike = ([], subst (λ (w : List Shape). Alike level w us) h alike, refl)
where_goes level (l ∷ ls) ts us h alike =
    let cut = parts level ts h.0 h.1 us h.2 alike in
    let all = body_goes level (l ∷ ls) h.1 cut.1 h.4 cut.4 in
    (all.0, spells_where level all.0 us cut.0 cut.1 cut.2 (word_alike level (codes "where") h.0 cut.0 h.3 cut.3) all.1, all.2)

-- a head, a body that may be left out, and the semicolon
ruled_goes : (level : Level) (head : Head) (body : List Literal) (ts us : List Shape) → (SpellsHead level head · SpellsWhere level body · the semicolon) ts → Alike level ts us
    → (other : Head) × (literals : List Literal) × (SpellsHead level other · SpellsWhere level literals · the semicolon) us × (on_head bare other ≡ on_head bare head) × (map (on_literal bare) literals ≡ map (on_literal bare) body)
ruled_goes level head body ts us h alike =
    let cut = parts level ts h.0 h.1 us h.2 alike in
    let m = h.4 in
    let inner = parts level h.1 m.0 m.1 cut.1 m.2 cut.4 in
    let a = head_goes level head h.0 cut.0 h.3 cut.3 in
    let b = where_goes level body m.0 inner.0 m.3 inner.3 in
    (a.0, b.0, (cut.0, cut.1, cut.2, a.1, (inner.0, inner.1, inner.2, b.1, sign_alike level (codes ";") m.1 inner.1 m.4 inner.4)), a.2, b.2)

-- a body and the semicolon
ended_goes : (level : Level) (body : List Literal) (ts us : List Shape) → (SpellsBody level body · the semicolon) ts → Alike level ts us → (literals : List Literal) × (SpellsBody level literals · the semicolon) us × (map (on_literal bare) literals ≡ map (on_literal bare) body)
ended_goes level body ts us h alike =
    let cut = parts level ts h.0 h.1 us h.2 alike in
    let b = body_goes level body h.0 cut.0 h.3 cut.3 in
    (b.0, (cut.0, cut.1, cut.2, b.1, sign_alike level (codes ";") h.1 cut.1 h.4 cut.4), b.2)

-- ---- statements

form_goes : (level : Level) → Goes level (SpellsForm level) (on_statement bare)
form_goes level (Insert head body) ts us h alike =
    let cut = parts level ts h.0 h.1 us h.2 alike in
    let r = ruled_goes level head body h.1 cut.1 h.4 cut.4 in
    (Insert r.0 r.1, (cut.0, cut.1, cut.2, word_alike level (codes "insert") h.0 cut.0 h.3 cut.3, r.2), ap (λ x. Insert x (map (on_literal bare) r.1)) r.3 ∙ ap (Insert (on_head bare head)) r.4)
form_goes level (Delete head body) ts us h alike =
    let cut = parts level ts h.0 h.1 us h.2 alike in
    let r = ruled_goes level head body h.1 cut.1 h.4 cut.4 in
    (Delete r.0 r.1, (cut.0, cut.1, cut.2, word_alike level (codes "delete") h.0 cut.0 h.3 cut.3, r.2), ap (λ x. Delete x (map (on_literal bare) r.1)) r.3 ∙ ap (Delete (on_head bare head)) r.4)
form_goes level (Replace gone come body) ts us h alike =
    let cut = parts level ts h.0 h.1 us h.2 alike in
    let m = h.4 in
    let second = parts level h.1 m.0 m.1 cut.1 m.2 cut.4 in
    let k = m.4 in
    let third = parts level m.1 k.0 k.1 second.1 k.2 second.4 in
    let g = head_goes level gone m.0 second.0 m.3 second.3 in
    let r = ruled_goes level come body k.1 third.1 k.4 third.4 in (
      Replace g.0 r.0 r.1,
      (cut.0, cut.1, cut.2, word_alike level (codes "replace") h.0 cut.0 h.3 cut.3, (second.0, second.1, second.2, g.1, (third.0, third.1, third.2, word_alike level (codes "by") k.0 third.0 k.3 third.3, r.2))),
      ap (λ x. Replace x (on_head bare r.0) (map (on_literal bare) r.1)) g.2 ∙ (ap (λ x. Replace (on_head bare gone) x (map (on_literal bare) r.1)) r.3 ∙ ap (Replace (on_head bare gone) (on_head bare come)) r.4),
    )
form_goes level (Require some body) ts us h alike =
    let cut = parts level ts h.0 h.1 us h.2 alike in
    let m = h.4 in
    let second = parts level h.1 m.0 m.1 cut.1 m.2 cut.4 in
    let r = ended_goes level body m.1 second.1 m.4 second.4 in
    (Require some r.0, (cut.0, cut.1, cut.2, word_alike level (codes "require") h.0 cut.0 h.3 cut.3, (second.0, second.1, second.2, word_alike level (some_text some) m.0 second.0 m.3 second.3, r.1)), ap (Require some) r.2)
form_goes level (Print terms body) ts us h alike =
    let cut = parts level ts h.0 h.1 us h.2 alike in
    let m = h.4 in
    let second = parts level h.1 m.0 m.1 cut.1 m.2 cut.4 in
    let k = m.4 in
    let third = parts level m.1 k.0 k.1 second.1 k.2 second.4 in
    let a = terms_goes level terms m.0 second.0 m.3 second.3 in
    let r = ended_goes level body k.1 third.1 k.4 third.4 in (
      Print a.0 r.0,
      (cut.0, cut.1, cut.2, word_alike level (codes "print") h.0 cut.0 h.3 cut.3, (second.0, second.1, second.2, a.1, (third.0, third.1, third.2, word_alike level (codes "where") k.0 third.0 k.3 third.3, r.1))),
      ap (λ x. Print x (map (on_literal bare) r.0)) a.2 ∙ ap (Print (map (on_term bare) terms)) r.2,
    )

few_alike : (level : Level) (s other : Statement) → variables s ≡ variables other → HasFewVariables level s → HasFewVariables level other
few_alike formed s other same h = tt
few_alike few s other same h = tt
few_alike fine s other same h = tt
few_alike legal s other same h = subst (λ (names : List (List ℕ)). length names ≤ most_variables) same h

pub alike_tokens : AlikeTokens
alike_tokens level s ts us h alike =
    let other = form_goes level s ts us h.1 alike in
    let names : variables s ≡ variables other.0 = sym (variables-on bare s) ∙ (ap variables (sym other.2) ∙ variables-on bare other.0) in
    (other.0, (few_alike level s other.0 names h.0, other.1), sym (numbered-on bare other.0) ∙ (ap numbered other.2 ∙ numbered-on bare s))
