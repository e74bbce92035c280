-- The reader from left to right at statements, programs and items: each is found again where it was spelled.
use Rattle.std.proofs.Common.{◌≡◌, ℕ, ◌≤◌, ◌<◌, Bool, true, false, cond, List, [], ◌∷◌, ◌++◌, length, Option, Some, None, refl, sym, ap, subst, ◌∙◌, append_assoc, arith}
use Rattle.std.specs.Prelude.{codes, take, drop}
use Rattle.std.proofs.lemmas.List.{take-append-drop, length-take-le}
use Rattle.std.specs.List.{list_any}
use Rattle.std.specs.Str.{bytes_eq}
use Rattle.lt_model.specs.declared.kind.Kind.{Kind}
use Rattle.lt_model.specs.declared.kind.Kind.TheVariants.{Int, Sym}
use Rattle.lt_model.specs.declared.syntax.Head.{Head}
use Rattle.lt_model.specs.declared.syntax.Literal.{Literal}
use Rattle.lt_model.specs.declared.syntax.Statement.{Statement}
use Rattle.lt_model.specs.declared.syntax.Statement.TheVariants.{Insert, Delete, Replace, Require, Print}
use Rattle.lt_model.specs.declared.syntax.Program.{Program}
use Rattle.lt_model.specs.declared.syntax.Item.{Item}
use Rattle.lt_model.specs.declared.syntax.Item.TheVariants.{Relation, Batch, Show}
use Rattle.lt_model.specs.Tokens.{Shape, word, number}
use Rattle.lt_model.specs.Grammar.{Level, AtMost, the, ◌·◌, listed, arrow, left_paren, right_paren, semicolon, digits_value, greatest, some_text, where_word, SpellsHead, SpellsBody, SpellsWhere, SpellsForm, SpellsStatement, SpellsProgram, SpellsKind, SpellsValues, SpellsColumns, SpellsVersion, SpellsAt, SpellsItem}
use Rattle.lt_model.proofs.Reader.{Reading, ◌>>=◌, same_shape, read_the, read_name, within, in_range, has_few, given, read_each, is_comma, read_listed, read_limited, read_terms, Again, Any, front_len, back_len, step, then_token, last_token, then_name, is_within, is_in_range, is_few, given_is, Begins, Next, each_again, listed_again, limited_again, terms_again, read_head, head_again, read_body, body_again, read_where, where_again, then_end}

-- ---- statements

-- a head, a body that may be left out, and `;`
abbrev pub read_ruled : ℕ → Level → (Head → List Literal → Statement) → List Shape → Reading Statement
read_ruled n level f ts = read_head n level ts >>= λ h. read_where n level h.1 >>= λ b. read_the semicolon b.1 >>= λ e. Some (f h.0 b.0, e.1)

ruled_again : (n : ℕ) (level : Level) (f : Head → List Literal → Statement) (head : Head) (body : List Literal) (us r : List Shape) → length us < n → (SpellsHead level head · SpellsWhere level body · the semicolon) us → read_ruled n level f (us ++ r) ≡ Some (f head body, r)
ruled_again n level f head body us r small h =
    let m = h.4 in
    let a : length h.0 ≤ length us = front_len us h.0 h.1 h.2 in
    let b : length h.1 ≤ length us = back_len us h.0 h.1 h.2 in
    let c : length m.0 ≤ length h.1 = front_len h.1 m.0 m.1 m.2 in
    step (read_head n level) (λ h. read_where n level h.1 >>= λ b. read_the semicolon b.1 >>= λ e. Some (f h.0 b.0, e.1)) us h.0 h.1 r head h.2 (head_again n level head h.0 (h.1 ++ r) (omega (arith, a, small)) h.3)
    ∙ ap (λ (u : List Shape). read_where n level u >>= λ b. read_the semicolon b.1 >>= λ e. Some (f head b.0, e.1)) (then_end h.1 m.0 m.1 r m.2 m.4)
    ∙ ap (λ o. o >>= λ b. read_the semicolon b.1 >>= λ e. Some (f head b.0, e.1)) (where_again n level body m.0 r (omega (arith, b, c, small)) m.3)

abbrev pub read_ended : ℕ → Level → (List Literal → Statement) → List Shape → Reading Statement
read_ended n level f ts = read_body n level ts >>= λ b. read_the semicolon b.1 >>= λ e. Some (f b.0, e.1)

ended_again : (n : ℕ) (level : Level) (f : List Literal → Statement) (body : List Literal) (us r : List Shape) → length us < n → (SpellsBody level body · the semicolon) us → read_ended n level f (us ++ r) ≡ Some (f body, r)
ended_again n level f body us r small h =
    let a : length h.0 ≤ length us = front_len us h.0 h.1 h.2 in
    ap (λ (u : List Shape). read_ended n level f u) (then_end us h.0 h.1 r h.2 h.4)
    ∙ ap (λ o. o >>= λ b. read_the semicolon b.1 >>= λ e. Some (f b.0, e.1)) (body_again n level body h.0 r (omega (arith, a, small)) h.3)

abbrev pub read_some : List Shape → Reading Bool
read_some [] = None
read_some (t ∷ ts) = cond (same_shape t (word (some_text true))) (Some (true, ts)) (cond (same_shape t (word (some_text false))) (Some (false, ts)) None)

some_again : (some : Bool) (us r : List Shape) → us ≡ word (some_text some) ∷ [] → read_some (us ++ r) ≡ Some (some, r)
some_again some us r e = ap (λ (u : List Shape). read_some (u ++ r)) e ∙ known some
  where
    known : (some : Bool) → read_some (word (some_text some) ∷ r) ≡ Some (some, r)
    known true = refl
    known false = refl

abbrev pub read_replace : ℕ → Level → List Shape → Reading Statement
read_replace n level ts = read_head n level ts >>= λ h. read_the (word (codes "by")) h.1 >>= λ b. read_ruled n level (Replace h.0) b.1

abbrev pub read_print : ℕ → Level → List Shape → Reading Statement
read_print n level ts = read_terms n level ts >>= λ x. read_the where_word x.1 >>= λ w. read_ended n level (Print x.0) w.1

abbrev pub read_form_by : ℕ → Level → List ℕ → List Shape → Reading Statement
read_form_by n level x ts =
    cond (bytes_eq x (codes "insert")) (read_ruled n level Insert ts)
    (cond (bytes_eq x (codes "delete")) (read_ruled n level Delete ts)
    (cond (bytes_eq x (codes "replace")) (read_replace n level ts)
    (cond (bytes_eq x (codes "require")) (read_some ts >>= λ s. read_ended n level (Require s.0) s.1)
    (cond (bytes_eq x (codes "print")) (read_print n level ts) None))))

abbrev pub read_form : ℕ → Level → List Shape → Reading Statement
read_form n level (word x ∷ ts) = read_form_by n level x ts
read_form n level _ = None

-- a word, and then the rest
word_first : (x : List ℕ) (us a b r : List Shape) → us ≡ a ++ b → a ≡ word x ∷ [] → us ++ r ≡ word x ∷ (b ++ r)
word_first x us a b r e f = ap (λ (u : List Shape). u ++ r) e ∙ append_assoc a b r ∙ ap (λ (u : List Shape). u ++ (b ++ r)) f

pub form_again : (n : ℕ) (level : Level) (s : Statement) (us r : List Shape) → length us < n → SpellsForm level s us → read_form n level (us ++ r) ≡ Some (s, r)
form_again n level (Insert head body) us r small h =
    let a : length h.1 ≤ length us = back_len us h.0 h.1 h.2 in
    ap (read_form n level) (word_first (codes "insert") us h.0 h.1 r h.2 h.3) ∙ ruled_again n level Insert head body h.1 r (omega (arith, a, small)) h.4
form_again n level (Delete head body) us r small h =
    let a : length h.1 ≤ length us = back_len us h.0 h.1 h.2 in
    ap (read_form n level) (word_first (codes "delete") us h.0 h.1 r h.2 h.3) ∙ ruled_again n level Delete head body h.1 r (omega (arith, a, small)) h.4
form_again n level (Replace gone come body) us r small h =
    let m = h.4 in
    let k = m.4 in
    let a : length h.1 ≤ length us = back_len us h.0 h.1 h.2 in
    let b : length m.0 ≤ length h.1 = front_len h.1 m.0 m.1 m.2 in
    let c : length m.1 ≤ length h.1 = back_len h.1 m.0 m.1 m.2 in
    let d : length k.1 ≤ length m.1 = back_len m.1 k.0 k.1 k.2 in
    ap (read_form n level) (word_first (codes "replace") us h.0 h.1 r h.2 h.3)
    ∙ step (read_head n level) (λ h. read_the (word (codes "by")) h.1 >>= λ b. read_ruled n level (Replace h.0) b.1) h.1 m.0 m.1 r gone m.2 (head_again n level gone m.0 (m.1 ++ r) (omega (arith, a, b, small)) m.3)
    ∙ then_token (word (codes "by")) (λ b. read_ruled n level (Replace gone) b.1) m.1 k.0 k.1 r k.2 k.3
    ∙ ruled_again n level (Replace gone) come body k.1 r (omega (arith, a, c, d, small)) k.4
form_again n level (Require some body) us r small h =
    let m = h.4 in
    let a : length h.1 ≤ length us = back_len us h.0 h.1 h.2 in
    let b : length m.1 ≤ length h.1 = back_len h.1 m.0 m.1 m.2 in
    ap (read_form n level) (word_first (codes "require") us h.0 h.1 r h.2 h.3)
    ∙ step read_some (λ s. read_ended n level (Require s.0) s.1) h.1 m.0 m.1 r some m.2 (some_again some m.0 (m.1 ++ r) m.3)
    ∙ ended_again n level (Require some) body m.1 r (omega (arith, a, b, small)) m.4
form_again n level (Print terms body) us r small h =
    let m = h.4 in
    let k = m.4 in
    let a : length h.1 ≤ length us = back_len us h.0 h.1 h.2 in
    let b : length m.0 ≤ length h.1 = front_len h.1 m.0 m.1 m.2 in
    let c : length m.1 ≤ length h.1 = back_len h.1 m.0 m.1 m.2 in
    let d : length k.1 ≤ length m.1 = back_len m.1 k.0 k.1 k.2 in
    ap (read_form n level) (word_first (codes "print") us h.0 h.1 r h.2 h.3)
    ∙ step (read_terms n level) (λ x. read_the where_word x.1 >>= λ w. read_ended n level (Print x.0) w.1) h.1 m.0 m.1 r terms m.2 (terms_again n level terms m.0 (m.1 ++ r) (omega (arith, a, b, small)) m.3)
    ∙ then_token where_word (λ w. read_ended n level (Print terms) w.1) m.1 k.0 k.1 r k.2 k.3
    ∙ ended_again n level (Print terms) body k.1 r (omega (arith, a, c, d, small)) k.4

abbrev pub read_statement : ℕ → Level → List Shape → Reading Statement
read_statement n level ts = read_form n level ts >>= λ x. given (has_few level x.0) x

statement_again : (n : ℕ) (level : Level) → Again (SpellsStatement level) Any n (read_statement n level)
statement_again n level s us r small h ok =
    ap (λ o. o >>= λ x. given (has_few level x.0) x) (form_again n level s us r small h.1) ∙ given_is (has_few level s) (s, r) (is_few level s h.0)

abbrev pub is_statement_word : Shape → Bool
is_statement_word t =
    list_any (same_shape t) (word (codes "insert") ∷ word (codes "delete") ∷ word (codes "replace") ∷ word (codes "require") ∷ word (codes "print") ∷ [])

word_begins : (begins : Shape → Bool) (s : Shape) (us a b : List Shape) → us ≡ a ++ b → a ≡ s ∷ [] → begins s ≡ true → Begins begins us
word_begins begins s us a b e f h = (s, b, e ∙ ap (λ (u : List Shape). u ++ b) f, h)

statement_begins : (level : Level) (s : Statement) (us : List Shape) → SpellsStatement level s us → Begins is_statement_word us
statement_begins level (Insert head body) us h = word_begins is_statement_word (word (codes "insert")) us h.1.0 h.1.1 h.1.2 h.1.3 refl
statement_begins level (Delete head body) us h = word_begins is_statement_word (word (codes "delete")) us h.1.0 h.1.1 h.1.2 h.1.3 refl
statement_begins level (Replace gone come body) us h = word_begins is_statement_word (word (codes "replace")) us h.1.0 h.1.1 h.1.2 h.1.3 refl
statement_begins level (Require some body) us h = word_begins is_statement_word (word (codes "require")) us h.1.0 h.1.1 h.1.2 h.1.3 refl
statement_begins level (Print terms body) us h = word_begins is_statement_word (word (codes "print")) us h.1.0 h.1.1 h.1.2 h.1.3 refl

-- ---- programs

abbrev pub read_statements : ℕ → Level → List Shape → Reading (List Statement)
read_statements n level ts = read_limited level 64 (read_each n is_statement_word (read_statement n level) ts)

abbrev pub read_program : ℕ → Level → List Shape → Reading Program
read_program n level ts =
    read_the (word (codes "program")) ts >>= λ p. read_name p.1 >>= λ x. read_statements n level x.1 >>= λ y.
    read_the (word (codes "end")) y.1 >>= λ e. read_the semicolon e.1 >>= λ z. Some (record { name = x.0; statements = y.0 }, z.1)

-- a word ends the list
word_next : (begins : Shape → Bool) (s : Shape) (us a b r : List Shape) → us ≡ a ++ b → a ≡ s ∷ [] → begins s ≡ false → Next begins (us ++ r)
word_next begins s us a b r e f h = subst (Next begins) (sym (ap (λ (u : List Shape). u ++ r) e ∙ ap (λ (u : List Shape). (u ++ b) ++ r) f)) h

program_again : (n : ℕ) (level : Level) → Again (SpellsProgram level) Any n (read_program n level)
program_again n level p us r small h ok =
    let m = h.4 in
    let k = m.4 in
    let e = k.4 in
    let a : length h.1 ≤ length us = back_len us h.0 h.1 h.2 in
    let b : length m.1 ≤ length h.1 = back_len h.1 m.0 m.1 m.2 in
    let c : length k.0 ≤ length m.1 = front_len m.1 k.0 k.1 k.2 in
    let list : read_each n is_statement_word (read_statement n level) (k.0 ++ (k.1 ++ r)) ≡ Some (p.statements, k.1 ++ r) =
    each_again (SpellsStatement level) Any is_statement_word n (read_statement n level) (statement_again n level) (statement_begins level) (λ t ts h. tt) p.statements n k.0 (k.1 ++ r)
    (omega (arith, a, b, c, small)) (omega (arith, a, b, c, small)) k.3.1 tt (word_next is_statement_word (word (codes "end")) k.1 e.0 e.1 r e.2 e.3 refl) in
    then_token (word (codes "program")) (λ p. read_name p.1 >>= λ x. read_statements n level x.1 >>= λ y. read_the (word (codes "end")) y.1 >>= λ e. read_the semicolon e.1 >>= λ z. Some (record { name = x.0; statements = y.0 }, z.1)) us h.0 h.1 r h.2 h.3
    ∙ then_name p.name (λ x. read_statements n level x.1 >>= λ y. read_the (word (codes "end")) y.1 >>= λ e. read_the semicolon e.1 >>= λ z. Some (record { name = x.0; statements = y.0 }, z.1)) h.1 m.0 m.1 r m.2 m.3
    ∙ step (read_statements n level) (λ y. read_the (word (codes "end")) y.1 >>= λ e. read_the semicolon e.1 >>= λ z. Some (record { name = p.name; statements = y.0 }, z.1)) m.1 k.0 k.1 r p.statements k.2
    (limited_again level 64 (read_each n is_statement_word (read_statement n level) (k.0 ++ (k.1 ++ r))) p.statements (k.1 ++ r) k.3.0 list)
    ∙ then_token (word (codes "end")) (λ e. read_the semicolon e.1 >>= λ z. Some (record { name = p.name; statements = p.statements }, z.1)) k.1 e.0 e.1 r e.2 e.3
    ∙ last_token semicolon (λ z. Some (record { name = p.name; statements = p.statements }, z.1)) e.1 r e.4

abbrev pub is_program_word : Shape → Bool
is_program_word t = same_shape t (word (codes "program"))

program_begins : (level : Level) (p : Program) (us : List Shape) → SpellsProgram level p us → Begins is_program_word us
program_begins level p us h = word_begins is_program_word (word (codes "program")) us h.0 h.1 h.2 h.3 refl

-- ---- items

abbrev pub read_kind : List Shape → Reading Kind
read_kind [] = None
read_kind (t ∷ ts) = cond (same_shape t (word (codes "int"))) (Some (Int, ts)) (cond (same_shape t (word (codes "sym"))) (Some (Sym, ts)) None)

kind_again : (k : Kind) (us r : List Shape) → SpellsKind k us → read_kind (us ++ r) ≡ Some (k, r)
kind_again Int us r h = ap (λ (u : List Shape). read_kind (u ++ r)) h
kind_again Sym us r h = ap (λ (u : List Shape). read_kind (u ++ r)) h

-- behind an arrow, or none
abbrev pub read_values : ℕ → List Shape → Reading (List Kind)
read_values n [] = None
read_values n (t ∷ ts) = cond (same_shape t arrow) (read_listed n read_kind ts) (Some ([], t ∷ ts))

-- all kinds, and how many stand before the arrow
abbrev pub read_columns : ℕ → Level → List Shape → Reading (List Kind × ℕ)
read_columns n level ts = read_listed n read_kind ts >>= λ k. read_values n k.1 >>= λ v. given (within level 8 (length (k.0 ++ v.0))) ((k.0 ++ v.0, length k.0), v.1)

kinds_again : (n : ℕ) (kinds : List Kind) (us r : List Shape) → length us < n → listed SpellsKind kinds us → Next is_comma r → read_listed n read_kind (us ++ r) ≡ Some (kinds, r)
kinds_again n kinds us r small h next = listed_again SpellsKind Any n read_kind (λ k us r small h ok. kind_again k us r h) (λ ts. tt) kinds us r small h tt next

values_again : (n : ℕ) (values : List Kind) (us r : List Shape) → length us < n → SpellsValues values us → read_values n (us ++ (right_paren ∷ r)) ≡ Some (values, right_paren ∷ r)
values_again n [] us r small h = ap (λ (u : List Shape). read_values n (u ++ (right_paren ∷ r))) h
values_again n (k ∷ ks) us r small h =
    let a : length h.1 ≤ length us = back_len us h.0 h.1 h.2 in
    ap (λ (u : List Shape). read_values n (u ++ (right_paren ∷ r))) h.2 ∙ ap (λ (u : List Shape). read_values n ((u ++ h.1) ++ (right_paren ∷ r))) h.3
    ∙ kinds_again n (k ∷ ks) h.1 (right_paren ∷ r) (omega (arith, a, small)) h.4 refl

-- behind the key columns stands no comma
values_next : (values : List Kind) (us r : List Shape) → SpellsValues values us → Next is_comma (us ++ (right_paren ∷ r))
values_next [] us r h = subst (λ (u : List Shape). Next is_comma (u ++ (right_paren ∷ r))) (sym h) refl
values_next (k ∷ ks) us r h = subst (λ (u : List Shape). Next is_comma (u ++ (right_paren ∷ r))) (sym (h.2 ∙ ap (λ (u : List Shape). u ++ h.1) h.3)) refl

parts_again : (n : ℕ) (level : Level) (front back : List Kind) (us r : List Shape) → length us < n → AtMost level 8 (length (front ++ back)) → (listed SpellsKind front · SpellsValues back) us
    → read_columns n level (us ++ (right_paren ∷ r)) ≡ Some ((front ++ back, length front), right_paren ∷ r)
parts_again n level front back us r small few_ h =
    let a : length h.0 ≤ length us = front_len us h.0 h.1 h.2 in
    let b : length h.1 ≤ length us = back_len us h.0 h.1 h.2 in
    step (read_listed n read_kind) (λ k. read_values n k.1 >>= λ v. given (within level 8 (length (k.0 ++ v.0))) ((k.0 ++ v.0, length k.0), v.1)) us h.0 h.1 (right_paren ∷ r) front h.2
    (kinds_again n front h.0 (h.1 ++ (right_paren ∷ r)) (omega (arith, a, small)) h.3 (values_next back h.1 r h.4))
    ∙ ap (λ o. o >>= λ v. given (within level 8 (length (front ++ v.0))) ((front ++ v.0, length front), v.1)) (values_again n back h.1 r (omega (arith, b, small)) h.4)
    ∙ given_is (within level 8 (length (front ++ back))) ((front ++ back, length front), right_paren ∷ r) (is_within level 8 (length (front ++ back)) few_)

columns_again : (n : ℕ) (level : Level) (keys : ℕ) (kinds : List Kind) (us r : List Shape) → length us < n → SpellsColumns level keys kinds us → read_columns n level (us ++ (right_paren ∷ r)) ≡ Some ((kinds, keys), right_paren ∷ r)
columns_again n level keys kinds us r small h =
    let whole : take keys kinds ++ drop keys kinds ≡ kinds = take-append-drop keys kinds in
    let count : length (take keys kinds) ≡ keys = length-take-le keys kinds h.0 in
    parts_again n level (take keys kinds) (drop keys kinds) us r small (subst (λ (ks : List Kind). AtMost level 8 (length ks)) (sym whole) h.1) h.2
    ∙ ap (λ (ks : List Kind). Some ((ks, length (take keys kinds)), right_paren ∷ r)) whole
    ∙ ap (λ (k : ℕ). Some ((kinds, k), right_paren ∷ r)) count

abbrev pub read_version : Level → List Shape → Reading ℕ
read_version level (number d ∷ ts) = given (in_range level (greatest false) (digits_value d)) (digits_value d, ts)
read_version level _ = None

version_again : (level : Level) (version : ℕ) (us r : List Shape) → SpellsVersion level version us → read_version level (us ++ r) ≡ Some (version, r)
version_again level version us r h =
    ap (λ (u : List Shape). read_version level (u ++ r)) h.1
    ∙ ap (λ (v : ℕ). given (in_range level (greatest false) v) (v, r)) (sym h.2)
    ∙ given_is (in_range level (greatest false) version) (version, r) (is_in_range level (greatest false) version h.3)

abbrev pub read_at : Level → List Shape → Reading (Option ℕ)
read_at level [] = None
read_at level (t ∷ ts) = cond (same_shape t (word (codes "at"))) (read_version level ts >>= λ v. Some (Some v.0, v.1)) (Some (None, t ∷ ts))

at_again : (level : Level) (version : Option ℕ) (us r : List Shape) → SpellsAt level version us → read_at level (us ++ (semicolon ∷ r)) ≡ Some (version, semicolon ∷ r)
at_again level None us r h = ap (λ (u : List Shape). read_at level (u ++ (semicolon ∷ r))) h
at_again level (Some version) us r h =
    ap (λ (u : List Shape). read_at level (u ++ (semicolon ∷ r))) h.2 ∙ ap (λ (u : List Shape). read_at level ((u ++ h.1) ++ (semicolon ∷ r))) h.3
    ∙ ap (λ o. o >>= λ v. Some (Some v.0, v.1)) (version_again level version h.1 (semicolon ∷ r) h.4)

abbrev pub read_relation : ℕ → Level → List Shape → Reading Item
read_relation n level ts =
    read_name ts >>= λ x. read_the left_paren x.1 >>= λ l. read_columns n level l.1 >>= λ k.
    read_the right_paren k.1 >>= λ p. read_the semicolon p.1 >>= λ e. Some (Relation x.0 k.0.0 k.0.1, e.1)

abbrev pub read_batch : ℕ → Level → List Shape → Reading Item
read_batch n level ts =
    read_limited level 256 (read_each n is_program_word (read_program n level) ts) >>= λ p. read_the (word (codes "commit")) p.1 >>= λ c. read_the semicolon c.1 >>= λ e. Some (Batch p.0, e.1)

abbrev pub read_show : Level → List Shape → Reading Item
read_show level ts = read_name ts >>= λ x. read_at level x.1 >>= λ v. read_the semicolon v.1 >>= λ e. Some (Show x.0 v.0, e.1)

abbrev pub read_item_by : ℕ → Level → List ℕ → List Shape → Reading Item
read_item_by n level x ts =
    cond (bytes_eq x (codes "relation")) (read_relation n level ts) (cond (bytes_eq x (codes "batch")) (read_batch n level ts) (cond (bytes_eq x (codes "show")) (read_show level ts) None))

abbrev pub read_item : ℕ → Level → List Shape → Reading Item
read_item n level (word x ∷ ts) = read_item_by n level x ts
read_item n level _ = None

pub item_again : (n : ℕ) (level : Level) → Again (SpellsItem level) Any n (read_item n level)
item_again n level (Relation name kinds keys) us r small h ok =
    let m = h.4 in
    let k = m.4 in
    let j = k.4 in
    let e = j.4 in
    let a : length h.1 ≤ length us = back_len us h.0 h.1 h.2 in
    let b : length m.1 ≤ length h.1 = back_len h.1 m.0 m.1 m.2 in
    let c : length k.1 ≤ length m.1 = back_len m.1 k.0 k.1 k.2 in
    let d : length j.0 ≤ length k.1 = front_len k.1 j.0 j.1 j.2 in
    let ends : j.1 ++ r ≡ right_paren ∷ (e.1 ++ r) = ap (λ (u : List Shape). u ++ r) e.2 ∙ ap (λ (u : List Shape). (u ++ e.1) ++ r) e.3 in
    let list : read_columns n level (j.0 ++ (j.1 ++ r)) ≡ Some ((kinds, keys), j.1 ++ r) =
    subst (λ (u : List Shape). read_columns n level (j.0 ++ u) ≡ Some ((kinds, keys), u)) (sym ends) (columns_again n level keys kinds j.0 (e.1 ++ r) (omega (arith, a, b, c, d, small)) j.3) in
    ap (read_item n level) (word_first (codes "relation") us h.0 h.1 r h.2 h.3)
    ∙ then_name name (λ x. read_the left_paren x.1 >>= λ l. read_columns n level l.1 >>= λ k. read_the right_paren k.1 >>= λ p. read_the semicolon p.1 >>= λ e. Some (Relation x.0 k.0.0 k.0.1, e.1)) h.1 m.0 m.1 r m.2 m.3
    ∙ then_token left_paren (λ l. read_columns n level l.1 >>= λ k. read_the right_paren k.1 >>= λ p. read_the semicolon p.1 >>= λ e. Some (Relation name k.0.0 k.0.1, e.1)) m.1 k.0 k.1 r k.2 k.3
    ∙ step (read_columns n level) (λ k. read_the right_paren k.1 >>= λ p. read_the semicolon p.1 >>= λ e. Some (Relation name k.0.0 k.0.1, e.1)) k.1 j.0 j.1 r (kinds, keys) j.2 list
    ∙ then_token right_paren (λ p. read_the semicolon p.1 >>= λ e. Some (Relation name kinds keys, e.1)) j.1 e.0 e.1 r e.2 e.3
    ∙ last_token semicolon (λ e. Some (Relation name kinds keys, e.1)) e.1 r e.4
item_again n level (Batch programs) us r small h ok =
    let m = h.4 in
    let e = m.4 in
    let a : length h.1 ≤ length us = back_len us h.0 h.1 h.2 in
    let b : length m.0 ≤ length h.1 = front_len h.1 m.0 m.1 m.2 in
    let list : read_each n is_program_word (read_program n level) (m.0 ++ (m.1 ++ r)) ≡ Some (programs, m.1 ++ r) =
    each_again (SpellsProgram level) Any is_program_word n (read_program n level) (program_again n level) (program_begins level) (λ t ts h. tt) programs n m.0 (m.1 ++ r)
    (omega (arith, a, b, small)) (omega (arith, a, b, small)) m.3.1 tt (word_next is_program_word (word (codes "commit")) m.1 e.0 e.1 r e.2 e.3 refl) in
    ap (read_item n level) (word_first (codes "batch") us h.0 h.1 r h.2 h.3)
    ∙ step (λ us. read_limited level 256 (read_each n is_program_word (read_program n level) us)) (λ p. read_the (word (codes "commit")) p.1 >>= λ c. read_the semicolon c.1 >>= λ e. Some (Batch p.0, e.1)) h.1 m.0 m.1 r programs m.2
    (limited_again level 256 (read_each n is_program_word (read_program n level) (m.0 ++ (m.1 ++ r))) programs (m.1 ++ r) m.3.0 list)
    ∙ then_token (word (codes "commit")) (λ c. read_the semicolon c.1 >>= λ e. Some (Batch programs, e.1)) m.1 e.0 e.1 r e.2 e.3
    ∙ last_token semicolon (λ e. Some (Batch programs, e.1)) e.1 r e.4
item_again n level (Show name version) us r small h ok =
    let m = h.4 in
    let k = m.4 in
    ap (read_item n level) (word_first (codes "show") us h.0 h.1 r h.2 h.3)
    ∙ then_name name (λ x. read_at level x.1 >>= λ v. read_the semicolon v.1 >>= λ e. Some (Show x.0 v.0, e.1)) h.1 m.0 m.1 r m.2 m.3
    ∙ ap (λ (u : List Shape). read_at level u >>= λ v. read_the semicolon v.1 >>= λ e. Some (Show name v.0, e.1)) (then_end m.1 k.0 k.1 r k.2 k.4)
    ∙ ap (λ o. o >>= λ v. read_the semicolon v.1 >>= λ e. Some (Show name v.0, e.1)) (at_again level version k.0 r k.3)

-- ---- scripts

abbrev pub always : Shape → Bool
always t = true

pub item_begins : (level : Level) (item : Item) (us : List Shape) → SpellsItem level item us → Begins always us
item_begins level (Relation name kinds keys) us h = word_begins always (word (codes "relation")) us h.0 h.1 h.2 h.3 refl
item_begins level (Batch programs) us h = word_begins always (word (codes "batch")) us h.0 h.1 h.2 h.3 refl
item_begins level (Show name version) us h = word_begins always (word (codes "show")) us h.0 h.1 h.2 h.3 refl

abbrev pub read_items : ℕ → Level → List Shape → Reading (List Item)
read_items n level ts = read_each n always (read_item n level) ts
