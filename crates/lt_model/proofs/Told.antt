-- The cells of a statement are told from its tokens, from the left.
use Rattle.std.proofs.Common.{◌≡◌, ℕ, Bool, true, false, cond, List, [], ◌∷◌, ◌++◌, refl, sym, ap, ◌∙◌, append_assoc}
use Rattle.std.specs.Prelude.{flat_map, codes}
use Rattle.std.proofs.lemmas.List.{append-nil}
use Rattle.lt_model.specs.declared.kind.Kind.TheVariants.{Int, Sym}
use Rattle.lt_model.specs.declared.syntax.Term.{Term}
use Rattle.lt_model.specs.declared.syntax.Term.TheVariants.{Name, Cell}
use Rattle.lt_model.specs.declared.syntax.Head.{Head}
use Rattle.lt_model.specs.declared.syntax.Literal.{Literal}
use Rattle.lt_model.specs.declared.syntax.Literal.TheVariants.{Atom, Absent, Cmp, Sum}
use Rattle.lt_model.specs.declared.syntax.Statement.TheVariants.{Insert, Delete, Replace, Require, Print}
use Rattle.lt_model.specs.Alike.{Before, plain, ended, after, after_all, cell_at, read_cells, TokensTellCells}
use Rattle.lt_model.specs.Forms.{cells_in, cells_of}
use Rattle.lt_model.specs.Sentences.{Level, the, ◌·◌, each, comma, listed, left_paren, right_paren, semicolon, SpellsName, digits_value, signed, signed_cell, SpellsTerm, SpellsTerms, SpellsHead, op_text, sum_text, SpellsLiteral, SpellsBody, where_word, SpellsWhere, some_text, SpellsForm}
use Rattle.lt_model.specs.Tokens.{Shape, word, sign}
use Rattle.lt_model.specs.Variables.{literal_terms}
use Rattle.lt_model.proofs.Filled.{cells_append}

-- the tokens have these cells, and lead from what stands before them to what stands before the next
record Tells (b : Before) (ts : List Shape) (these : List ℕ) (e : Before) : Type 0 where
  pub cells : read_cells b ts ≡ these
  pub leads : after_all b ts ≡ e

after-append : (b : Before) (us vs : List Shape) → after_all b (us ++ vs) ≡ after_all (after_all b us) vs
after-append b [] vs = refl
after-append b (t ∷ us) vs = after-append (after b t) us vs

read-append : (b : Before) (us vs : List Shape) → read_cells b (us ++ vs) ≡ read_cells b us ++ read_cells (after_all b us) vs
read-append b [] vs = refl
read-append b (t ∷ us) vs = ap (λ w. cell_at b t ++ w) (read-append (after b t) us vs) ∙ sym (append_assoc (cell_at b t) (read_cells (after b t) us) (read_cells (after_all (after b t) us) vs))

-- the one and then the other
both_tell : (b m e : Before) (ts us vs : List Shape) (xs ys : List ℕ) → ts ≡ us ++ vs → Tells b us xs m → Tells m vs ys e → Tells b ts (xs ++ ys) e
both_tell b m e ts us vs xs ys are first second =
    record {
      cells = ap (read_cells b) are ∙ (read-append b us vs ∙ (ap (λ w. w ++ read_cells (after_all b us) vs) first.cells ∙ ap (λ w. xs ++ w) (ap (λ (d : Before). read_cells d vs) first.leads ∙ second.cells)));
      leads = ap (after_all b) are ∙ (after-append b us vs ∙ (ap (λ (d : Before). after_all d vs) first.leads ∙ second.leads));
    }

-- with the cells written otherwise
told_so : (b e : Before) (ts : List Shape) (xs ys : List ℕ) → xs ≡ ys → Tells b ts xs e → Tells b ts ys e
told_so b e ts xs ys same t = record { cells = t.cells ∙ same; leads = t.leads }

one_tells : (b e : Before) (t : Shape) (ts : List Shape) → ts ≡ t ∷ [] → cell_at b t ≡ [] → after b t ≡ e → Tells b ts [] e
one_tells b e t ts are none leads = record { cells = ap (read_cells b) are ∙ ap (λ w. w ++ []) none; leads = ap (after_all b) are ∙ leads }

name_tells : (b : Before) (name : List ℕ) (ts : List Shape) → SpellsName name ts → Tells b ts [] ended
name_tells b name ts h = one_tells b ended (word name) ts h.0 refl (ap (λ is. cond is plain ended) h.1)

int_tells : (minus : Bool) (digits : List ℕ) (cell : ℕ) (ts : List Shape) → ts ≡ signed minus digits → cell ≡ signed_cell minus (digits_value digits) → Tells plain ts (cell ∷ []) ended
int_tells false digits cell ts are is = record { cells = ap (read_cells plain) are ∙ ap (λ c. c ∷ []) (sym is); leads = ap (after_all plain) are }
int_tells true digits cell ts are is = record { cells = ap (read_cells plain) are ∙ ap (λ c. c ∷ []) (sym is); leads = ap (after_all plain) are }

term_tells : (level : Level) (t : Term) (ts : List Shape) → SpellsTerm level t ts → Tells plain ts (cells_in (t ∷ [])) ended
term_tells level (Name name) ts h = name_tells plain name ts h
term_tells level (Cell Int cell) ts h = int_tells h.0 h.1 cell ts h.2 h.3
term_tells level (Cell Sym cell) ts h = record { cells = ap (read_cells plain) h.1 ∙ ap (λ c. c ∷ []) (sym h.2); leads = ap (after_all plain) h.1 }

-- ---- terms

more_terms : (level : Level) (ts : List Term) (us : List Shape) → each (λ y. the comma · SpellsTerm level y) ts us → Tells ended us (cells_in ts) ended
more_terms level [] us h = record { cells = ap (read_cells ended) h; leads = ap (after_all ended) h }
more_terms level (t ∷ ts) us h =
    let one = h.3 in
    let first = both_tell ended plain ended h.0 one.0 one.1 [] (cells_in (t ∷ [])) one.2 (one_tells ended plain comma one.0 one.3 refl refl) (term_tells level t one.1 one.4) in
    told_so ended ended us (cells_in (t ∷ []) ++ cells_in ts) (cells_in (t ∷ ts)) (sym (cells_append (t ∷ []) ts)) (both_tell ended ended ended us h.0 h.1 (cells_in (t ∷ [])) (cells_in ts) h.2 first (more_terms level ts h.1 h.4))

listed_terms : (level : Level) (ts : List Term) (us : List Shape) → listed (SpellsTerm level) ts us → Tells plain us (cells_in ts) ended
listed_terms level [] us h = absurd h
listed_terms level (t ∷ ts) us h =
    told_so plain ended us (cells_in (t ∷ []) ++ cells_in ts) (cells_in (t ∷ ts)) (sym (cells_append (t ∷ []) ts))
    (both_tell plain ended ended us h.0 h.1 (cells_in (t ∷ [])) (cells_in ts) h.2 (term_tells level t h.0 h.3) (more_terms level ts h.1 h.4))

terms_tell : (level : Level) (b : Before) (ts : List Term) (us : List Shape) → after b left_paren ≡ plain → SpellsTerms level ts us → Tells b us (cells_in ts) plain
terms_tell level b ts us opens h =
    let m = h.4 in
    let all = listed_terms level ts m.0 (m.3).1 in
    let behind = both_tell plain ended plain h.1 m.0 m.1 (cells_in ts) [] m.2 all (one_tells ended plain right_paren m.1 m.4 refl refl) in
    told_so b plain us (cells_in ts ++ []) (cells_in ts) (append-nil (cells_in ts)) (both_tell b plain plain us h.0 h.1 [] (cells_in ts ++ []) h.2 (one_tells b plain left_paren h.0 h.3 refl opens) behind)

head_tells : (level : Level) (b : Before) (head : Head) (us : List Shape) → SpellsHead level head us → Tells b us (cells_in head.terms) plain
head_tells level b head us h = both_tell b ended plain us h.0 h.1 [] (cells_in head.terms) h.2 (name_tells b head.relation h.0 h.3) (terms_tell level ended head.terms h.1 refl h.4)

-- ---- bodies

-- where a literal leaves what comes next
abbrev end_of : Literal → Before
end_of (Atom head) = plain
end_of (Absent head) = plain
end_of (Cmp left op right) = ended
end_of (Sum var a minus b) = ended

comma_plain : (l : Literal) → after (end_of l) comma ≡ plain
comma_plain (Atom head) = refl
comma_plain (Absent head) = refl
comma_plain (Cmp left op right) = refl
comma_plain (Sum var a minus b) = refl

semicolon_plain : (l : Literal) → after (end_of l) semicolon ≡ plain
semicolon_plain (Atom head) = refl
semicolon_plain (Absent head) = refl
semicolon_plain (Cmp left op right) = refl
semicolon_plain (Sum var a minus b) = refl

literal_tells : (level : Level) (l : Literal) (us : List Shape) → SpellsLiteral level l us → Tells plain us (cells_in (literal_terms l)) (end_of l)
literal_tells level (Atom head) us h = head_tells level plain head us h
literal_tells level (Absent head) us h = both_tell plain plain plain us h.0 h.1 [] (cells_in head.terms) h.2 (one_tells plain plain (word (codes "not")) h.0 h.3 refl refl) (head_tells level plain head h.1 h.4)
literal_tells level (Cmp left op right) us h =
    let m = h.4 in
    let behind = both_tell ended plain ended h.1 m.0 m.1 [] (cells_in (right ∷ [])) m.2 (one_tells ended plain (sign (op_text op)) m.0 m.3 refl refl) (term_tells level right m.1 m.4) in
    told_so plain ended us (cells_in (left ∷ []) ++ cells_in (right ∷ [])) (cells_in (left ∷ right ∷ [])) (sym (cells_append (left ∷ []) (right ∷ [])))
    (both_tell plain ended ended us h.0 h.1 (cells_in (left ∷ [])) (cells_in (right ∷ [])) h.2 (term_tells level left h.0 h.3) behind)
literal_tells level (Sum var a minus b) us h =
    let m = h.4 in
    let k = m.4 in
    let l = k.4 in
    let last = both_tell ended plain ended k.1 l.0 l.1 [] (cells_in (b ∷ [])) l.2 (one_tells ended plain (sign (sum_text minus)) l.0 l.3 refl refl) (term_tells level b l.1 l.4) in
    let sum = told_so plain ended m.1 (cells_in (a ∷ []) ++ cells_in (b ∷ [])) (cells_in (a ∷ b ∷ [])) (sym (cells_append (a ∷ []) (b ∷ []))) (both_tell plain ended ended m.1 k.0 k.1 (cells_in (a ∷ [])) (cells_in (b ∷ [])) k.2 (term_tells level a k.0 k.3) last) in
    let behind = both_tell ended plain ended h.1 m.0 m.1 [] (cells_in (a ∷ b ∷ [])) m.2 (one_tells ended plain (sign (codes "=")) m.0 m.3 refl refl) sum in
    both_tell plain ended ended us h.0 h.1 [] (cells_in (a ∷ b ∷ [])) h.2 (name_tells plain var h.0 h.3) behind

-- the cells of these literals, up to the semicolon
abbrev Bodies : List Literal → List Shape → Before → Type 0
Bodies ls us b = (e : Before) × Tells b us (cells_in (flat_map literal_terms ls)) e × (after e semicolon ≡ plain)

more_literals : (level : Level) (b : Before) (ls : List Literal) (us : List Shape) → after b comma ≡ plain → after b semicolon ≡ plain → each (λ y. the comma · SpellsLiteral level y) ls us → Bodies ls us b
more_literals level b [] us goes closes h = (b, record { cells = ap (read_cells b) h; leads = ap (after_all b) h }, closes)
more_literals level b (l ∷ ls) us goes closes h =
    let one = h.3 in
    let first = both_tell b plain (end_of l) h.0 one.0 one.1 [] (cells_in (literal_terms l)) one.2 (one_tells b plain comma one.0 one.3 refl goes) (literal_tells level l one.1 one.4) in
    let rest = more_literals level (end_of l) ls h.1 (comma_plain l) (semicolon_plain l) h.4 in
    let terms = flat_map literal_terms ls in
    (rest.0, told_so b rest.0 us (cells_in (literal_terms l) ++ cells_in terms) (cells_in (literal_terms l ++ terms)) (sym (cells_append (literal_terms l) terms)) (both_tell b (end_of l) rest.0 us h.0 h.1 (cells_in (literal_terms l)) (cells_in terms) h.2 first rest.1), rest.2)

body_tells : (level : Level) (ls : List Literal) (us : List Shape) → SpellsBody level ls us → Bodies ls us plain
body_tells level [] us h = absurd h.1
body_tells level (l ∷ ls) us k =
    let h = k.1 in
    let rest = more_literals level (end_of l) ls h.1 (comma_plain l) (semicolon_plain l) h.4 in
    let terms = flat_map literal_terms ls in
    (rest.0, told_so plain rest.0 us (cells_in (literal_terms l) ++ cells_in terms) (cells_in (literal_terms l ++ terms)) (sym (cells_append (literal_terms l) terms)) (both_tell plain (end_of l) rest.0 us h.0 h.1 (cells_in (literal_terms l)) (cells_in terms) h.2 (literal_tells level l h.0 h.3) rest.1), rest.2)

where_tells : (level : Level) (ls : List Literal) (us : List Shape) → SpellsWhere level ls us → Bodies ls us plain
where_tells level [] us h = (plain, record { cells = ap (read_cells plain) h; leads = ap (after_all plain) h }, refl)
where_tells level (l ∷ ls) us h =
    let rest = body_tells level (l ∷ ls) h.1 h.4 in
    (rest.0, both_tell plain plain rest.0 us h.0 h.1 [] (cells_in (flat_map literal_terms (l ∷ ls))) h.2 (one_tells plain plain where_word h.0 h.3 refl refl) rest.1, rest.2)

-- a body and the semicolon
closed_tells : (ls : List Literal) (ts us vs : List Shape) → ts ≡ us ++ vs → Bodies ls us plain → vs ≡ semicolon ∷ [] → Tells plain ts (cells_in (flat_map literal_terms ls)) plain
closed_tells ls ts us vs are body end =
    let cells = cells_in (flat_map literal_terms ls) in
    told_so plain plain ts (cells ++ []) cells (append-nil cells) (both_tell plain body.0 plain ts us vs cells [] are body.1 (one_tells body.0 plain semicolon vs end refl body.2))

-- ---- statements

ruled_tells : (level : Level) (head : Head) (body : List Literal) (us : List Shape) → (SpellsHead level head · SpellsWhere level body · the semicolon) us → Tells plain us (cells_in (head.terms ++ flat_map literal_terms body)) plain
ruled_tells level head body us h =
    let m = h.4 in
    let terms = flat_map literal_terms body in
    told_so plain plain us (cells_in head.terms ++ cells_in terms) (cells_in (head.terms ++ terms)) (sym (cells_append head.terms terms))
    (both_tell plain plain plain us h.0 h.1 (cells_in head.terms) (cells_in terms) h.2 (head_tells level plain head h.0 h.3) (closed_tells body h.1 m.0 m.1 m.2 (where_tells level body m.0 m.3) m.4))

pub tokens_tell_cells : TokensTellCells
tokens_tell_cells level (Insert head body) ts h =
    let terms = flat_map literal_terms body in
    (both_tell plain plain plain ts h.0 h.1 [] (cells_in (head.terms ++ terms)) h.2 (one_tells plain plain (word (codes "insert")) h.0 h.3 refl refl) (ruled_tells level head body h.1 h.4)).cells
    ∙ ap (λ (w : List Term). cells_in (w ++ terms)) (sym (append-nil head.terms))
tokens_tell_cells level (Delete head body) ts h =
    let terms = flat_map literal_terms body in
    (both_tell plain plain plain ts h.0 h.1 [] (cells_in (head.terms ++ terms)) h.2 (one_tells plain plain (word (codes "delete")) h.0 h.3 refl refl) (ruled_tells level head body h.1 h.4)).cells
    ∙ ap (λ (w : List Term). cells_in (w ++ terms)) (sym (append-nil head.terms))
tokens_tell_cells level (Replace gone come body) ts h =
    let m = h.4 in
    let k = m.4 in
    let terms = flat_map literal_terms body in
    let last = both_tell plain plain plain m.1 k.0 k.1 [] (cells_in (come.terms ++ terms)) k.2 (one_tells plain plain (word (codes "by")) k.0 k.3 refl refl) (ruled_tells level come body k.1 k.4) in
    let rest = both_tell plain plain plain h.1 m.0 m.1 (cells_in gone.terms) (cells_in (come.terms ++ terms)) m.2 (head_tells level plain gone m.0 m.3) last in
    (both_tell plain plain plain ts h.0 h.1 [] (cells_in gone.terms ++ cells_in (come.terms ++ terms)) h.2 (one_tells plain plain (word (codes "replace")) h.0 h.3 refl refl) rest).cells
    ∙ (sym (cells_append gone.terms (come.terms ++ terms))
    ∙ (ap cells_in (sym (append_assoc gone.terms come.terms terms)) ∙ ap (λ (w : List Term). cells_in ((gone.terms ++ w) ++ terms)) (sym (append-nil come.terms))))
tokens_tell_cells level (Require true body) ts h = required level true refl body ts h
  where
    required : (level : Level) (some : Bool) → after plain (word (some_text some)) ≡ plain → (body : List Literal) (ts : List Shape) → SpellsForm level (Require some body) ts → read_cells plain ts ≡ cells_of (Require some body)
    required level some is body ts h =
        let m = h.4 in
        let k = m.4 in
        let cells = cells_in (flat_map literal_terms body) in
        let rest = both_tell plain plain plain h.1 m.0 m.1 [] cells m.2 (one_tells plain plain (word (some_text some)) m.0 m.3 refl is) (closed_tells body m.1 k.0 k.1 k.2 (body_tells level body k.0 k.3) k.4) in
        (both_tell plain plain plain ts h.0 h.1 [] cells h.2 (one_tells plain plain (word (codes "require")) h.0 h.3 refl refl) rest).cells
tokens_tell_cells level (Require false body) ts h =
    let m = h.4 in
    let k = m.4 in
    let cells = cells_in (flat_map literal_terms body) in
    let rest = both_tell plain plain plain h.1 m.0 m.1 [] cells m.2 (one_tells plain plain (word (codes "none")) m.0 m.3 refl refl) (closed_tells body m.1 k.0 k.1 k.2 (body_tells level body k.0 k.3) k.4) in
    (both_tell plain plain plain ts h.0 h.1 [] cells h.2 (one_tells plain plain (word (codes "require")) h.0 h.3 refl refl) rest).cells
tokens_tell_cells level (Print terms body) ts h =
    let m = h.4 in
    let k = m.4 in
    let n = k.4 in
    let cells = cells_in (flat_map literal_terms body) in
    let last = both_tell plain plain plain m.1 k.0 k.1 [] cells k.2 (one_tells plain plain where_word k.0 k.3 refl refl) (closed_tells body k.1 n.0 n.1 n.2 (body_tells level body n.0 n.3) n.4) in
    let rest = both_tell plain plain plain h.1 m.0 m.1 (cells_in terms) cells m.2 (terms_tell level plain terms m.0 refl m.3) last in
    (both_tell plain plain plain ts h.0 h.1 [] (cells_in terms ++ cells) h.2 (one_tells plain plain (word (codes "print")) h.0 h.3 refl refl) rest).cells ∙ sym (cells_append terms (flat_map literal_terms body))
