-- Statements, programs and items of the tree are written as the language spells what they stand for.
use Rattle.std.proofs.Common.{◌≡◌, ℕ, suc, ◌+◌, Bool, true, false, List, [], ◌∷◌, ◌++◌, length, Option, Some, None, refl, sym as turned, ap, subst, ◌∙◌, append_assoc, arith}
use Rattle.std.specs.Prelude.{map, flat_map, take, drop}
use Rattle.std.specs.List.{AllByRecursion}
use Rattle.std.proofs.lemmas.List.{map-id, length-append, length-take-le, take-append-drop}
use Rattle.std.proofs.Math.Seq.{take-append_seam, drop-append_seam}
use Rattle.lt_reading.specs.Language.{Level, formed, few, fine, full, AtMost}
use Rattle.lt_model.specs.declared.kind.Kind.{Kind}
use Rattle.lt_model.specs.declared.kind.Kind.TheVariants.{Int, Sym}
use Rattle.lt_model.specs.declared.syntax.Term.{Term as TermValue}
use Rattle.lt_model.specs.declared.syntax.Head.{Head as HeadValue}
use Rattle.lt_model.specs.declared.syntax.Literal.{Literal as LiteralValue}
use Rattle.lt_model.specs.declared.syntax.Statement.{Statement as StatementValue}
use Rattle.lt_model.specs.declared.syntax.Statement.TheVariants.{Insert, Delete, Replace, Require, Print}
use Rattle.lt_model.specs.declared.syntax.Program.{Program as ProgramValue}
use Rattle.lt_model.specs.declared.syntax.Item.{Item as ItemValue}
use Rattle.lt_model.specs.declared.syntax.Item.TheVariants.{Relation, Batch, Show}
use Rattle.lt_model.specs.Tokens.{Shape, word, number}
use Rattle.lt_model.specs.Grammar.{UpTo, HasFewVariables, the, ◌·◌, limited, listed, each, arrow, left_paren, right_paren, semicolon, where_word, some_text, greatest, digits_value, SpellsName, SpellsTerms, SpellsHead, SpellsBody, SpellsWhere, SpellsForm, SpellsStatement, SpellsProgram, SpellsKind, SpellsValues, SpellsColumns, SpellsAt, SpellsItem}
use Rattle.lt_grammar.specs.Tokens.{Text, relation_word, batch_word, program_word, end_word, commit_word, show_word, at_word, insert_word, delete_word, replace_word, by_word, require_word, print_word}
use Rattle.lt_grammar.specs.Grammar.{Term, Head, Literal, Statement, insert, delete, replace, require, print, Program, Item, relation, batch, show, only, kind_token, kinds_tokens, values_tokens, columns_tokens, head_tokens, where_tokens, need_token, statement_tokens, program_tokens, at_tokens, item_tokens, IsName, IsHead, IsWhere, IsForm, IsStatement, IsProgram, IsVersion, IsItem}
use Rattle.lt_grammar.specs.Meaning.{level_of, head_value, literal_value, statement_value, program_value, version_value, item_value}
use Rattle.lt_grammar.proofs.Agrees.{Written, Agrees, to_limit, from_limit, led_agrees, ended_agrees, pair_agrees, listed_agrees, each_few_agrees, AreFew}
use Rattle.lt_grammar.proofs.BodiesAgree.{names_agree, from_range, to_range, terms_agree, argument_tokens, argument_value, arguments_agree, heads_agree, literals_agree, body_tokens, bodies_value, bodies_agree, wheres_agree}
use Rattle.lt_grammar.proofs.Variables.{to_few, from_few}
use Rattle.lt_grammar.proofs.Scripts.{all_kinds}

-- in front of one token, and of two
one_more : {A V : Type 0} {Holds : A → Type 0} {spell : A → List Shape} {value : A → V} {P : V → List Shape → Type 0} → Agrees Holds spell value P → (s : Shape) → Agrees Holds (λ a. spell a ++ s ∷ []) value (λ v. P v · the s)
one_more agrees s = ended_agrees agrees (s ∷ []) (the s) refl (λ ts h. turned h)

two_more : {A V : Type 0} {Holds : A → Type 0} {spell : A → List Shape} {value : A → V} {P : V → List Shape → Type 0} → Agrees Holds spell value P → (s t : Shape) → Agrees Holds (λ a. spell a ++ s ∷ t ∷ []) value (λ v. P v · the s · the t)
two_more agrees s t =
    ended_agrees agrees (s ∷ t ∷ []) (the s · the t) (s ∷ [], t ∷ [], refl, refl, refl)
    (λ ts h. ap (λ (us : List Shape). s ∷ us) (turned h.4) ∙ ap (λ (us : List Shape). us ++ h.1) (turned h.3) ∙ turned h.2)

-- ---- statements, up to the semicolon and with it

-- a head and what may stand behind it
abbrev pub ruled_tokens : Head × List Literal → List Shape
ruled_tokens x = head_tokens x.0 ++ (where_tokens x.1 ++ only semicolon)

abbrev pub ruled_value : Head × List Literal → HeadValue × List LiteralValue
ruled_value x = (head_value x.0, map literal_value x.1)

ruled : (level : Level) → Agrees (λ (x : Head × List Literal). IsHead level x.0 × IsWhere level x.1) ruled_tokens ruled_value (λ (v : HeadValue × List LiteralValue). SpellsHead (level_of level) v.0 · SpellsWhere (level_of level) v.1 · the semicolon)
ruled level = pair_agrees (heads_agree level) (one_more (wheres_agree level) semicolon)

replaced : (level : Level) → Agrees (λ (x : Head × (Head × List Literal)). IsHead level x.0 × (IsHead level x.1.0 × IsWhere level x.1.1)) (λ x. head_tokens x.0 ++ (by_word ∷ ruled_tokens x.1)) (λ x. (head_value x.0, ruled_value x.1))
    (λ (v : HeadValue × (HeadValue × List LiteralValue)). SpellsHead (level_of level) v.0 · the by_word · SpellsHead (level_of level) v.1.0 · SpellsWhere (level_of level) v.1.1 · the semicolon)
replaced level = pair_agrees (heads_agree level) (led_agrees (ruled level) by_word)

needed : (level : Level) → Agrees (λ (x : Literal × List Literal). AreFew (literals_agree level) level 15 x) (λ x. body_tokens x ++ only semicolon) bodies_value (λ v. SpellsBody (level_of level) v · the semicolon)
needed level = one_more (bodies_agree level) semicolon

printed : (level : Level)
    → Agrees (λ (x : (Term × List Term) × (Literal × List Literal)). AreFew (terms_agree level) level 7 x.0 × AreFew (literals_agree level) level 15 x.1) (λ x. argument_tokens x.0 ++ (where_word ∷ (body_tokens x.1 ++ only semicolon)))
    (λ x. (argument_value x.0, bodies_value x.1)) (λ (v : List TermValue × List LiteralValue). SpellsTerms (level_of level) v.0 · the where_word · SpellsBody (level_of level) v.1 · the semicolon)
printed level = pair_agrees (arguments_agree level) (led_agrees (needed level) where_word)

need_same : (some : Bool) → word (some_text some) ≡ need_token some
need_same true = refl
need_same false = refl

-- the tokens of a statement, grouped from the right
abbrev grouped : Statement → List Shape
grouped (insert h ls) = insert_word ∷ ruled_tokens (h, ls)
grouped (delete h ls) = delete_word ∷ ruled_tokens (h, ls)
grouped (replace gone come ls) = replace_word ∷ (head_tokens gone ++ (by_word ∷ ruled_tokens (come, ls)))
grouped (require some l ls) = require_word ∷ word (some_text some) ∷ (body_tokens (l, ls) ++ only semicolon)
grouped (print t ts l ls) = print_word ∷ (argument_tokens (t, ts) ++ (where_word ∷ (body_tokens (l, ls) ++ only semicolon)))

regroup : (s : Statement) → grouped s ≡ statement_tokens s
regroup (insert h ls) = ap (λ (ts : List Shape). insert_word ∷ ts) (turned (append_assoc (head_tokens h) (where_tokens ls) (only semicolon)))
regroup (delete h ls) = ap (λ (ts : List Shape). delete_word ∷ ts) (turned (append_assoc (head_tokens h) (where_tokens ls) (only semicolon)))
regroup (replace gone come ls) =
    let tail : List Shape = head_tokens come ++ where_tokens ls in
    let first : head_tokens gone ++ (by_word ∷ ruled_tokens (come, ls)) ≡ head_tokens gone ++ (by_word ∷ (tail ++ only semicolon)) = ap (λ (ts : List Shape). head_tokens gone ++ (by_word ∷ ts)) (turned (append_assoc (head_tokens come) (where_tokens ls) (only semicolon))) in
    let second : head_tokens gone ++ (by_word ∷ (tail ++ only semicolon)) ≡ (head_tokens gone ++ only by_word) ++ (tail ++ only semicolon) = turned (append_assoc (head_tokens gone) (only by_word) (tail ++ only semicolon)) in
    ap (λ (ts : List Shape). replace_word ∷ ts) (first ∙ second ∙ turned (append_assoc (head_tokens gone ++ only by_word) tail (only semicolon)))
regroup (require some l ls) = ap (λ (s : Shape). require_word ∷ s ∷ (body_tokens (l, ls) ++ only semicolon)) (need_same some)
regroup (print t ts l ls) = ap (λ (us : List Shape). print_word ∷ us) (turned (append_assoc (argument_tokens (t, ts)) (where_tokens (l ∷ ls)) (only semicolon)))

form_there : (level : Level) (s : Statement) → IsForm level s → SpellsForm (level_of level) (statement_value s) (grouped s)
form_there level (insert h ls) k = (led_agrees (ruled level) insert_word).there (h, ls) k
form_there level (delete h ls) k = (led_agrees (ruled level) delete_word).there (h, ls) k
form_there level (replace gone come ls) k = (led_agrees (replaced level) replace_word).there (gone, (come, ls)) k
form_there level (require some l ls) k = (led_agrees (led_agrees (needed level) (word (some_text some))) require_word).there (l, ls) k
form_there level (print t ts l ls) k = (led_agrees (printed level) print_word).there ((t, ts), (l, ls)) k

form_back : (level : Level) (v : StatementValue) (ts : List Shape) → SpellsForm (level_of level) v ts → Written (IsForm level) grouped statement_value v ts
form_back level (Insert head body) ts h =
    let x = (led_agrees (ruled level) insert_word).back (head, body) ts h in
    (insert x.0.0 x.0.1, x.1, ap (λ (w : HeadValue × List LiteralValue). Insert w.0 w.1) x.2, x.3)
form_back level (Delete head body) ts h =
    let x = (led_agrees (ruled level) delete_word).back (head, body) ts h in
    (delete x.0.0 x.0.1, x.1, ap (λ (w : HeadValue × List LiteralValue). Delete w.0 w.1) x.2, x.3)
form_back level (Replace gone come body) ts h =
    let x = (led_agrees (replaced level) replace_word).back (gone, (come, body)) ts h in
    (replace x.0.0 x.0.1.0 x.0.1.1, x.1, ap (λ (w : HeadValue × (HeadValue × List LiteralValue)). Replace w.0 w.1.0 w.1.1) x.2, x.3)
form_back level (Require some body) ts h =
    let x = (led_agrees (led_agrees (needed level) (word (some_text some))) require_word).back body ts h in
    (require some x.0.0 x.0.1, x.1, ap (Require some) x.2, x.3)
form_back level (Print terms body) ts h =
    let x = (led_agrees (printed level) print_word).back (terms, body) ts h in
    (print x.0.0.0 x.0.0.1 x.0.1.0 x.0.1.1, x.1, ap (λ (w : List TermValue × List LiteralValue). Print w.0 w.1) x.2, x.3)

statement_back : (level : Level) (v : StatementValue) (ts : List Shape) → SpellsStatement (level_of level) v ts → Written (IsStatement level) statement_tokens statement_value v ts
statement_back level v ts h =
    let x = form_back level v ts h.1 in
    (x.0, (x.1, from_few level x.0 (subst (HasFewVariables (level_of level)) (turned x.2) h.0)), x.2, turned (regroup x.0) ∙ x.3)

pub statements_agree : (level : Level) → Agrees (IsStatement level) statement_tokens statement_value (SpellsStatement (level_of level))
statements_agree level = record { there = λ s h. (to_few level s h.1, subst (SpellsForm (level_of level) (statement_value s)) (regroup s) (form_there level s h.0)); back = statement_back level }

-- ---- programs

abbrev program_grouped : Text × List Statement → List Shape
program_grouped x = program_word ∷ word x.0 ∷ (flat_map statement_tokens x.1 ++ end_word ∷ semicolon ∷ [])

program_parts : (level : Level) → Agrees (λ (x : Text × List Statement). IsName x.0 × (AllByRecursion (IsStatement level) x.1 × AtMost level (length x.1) 64)) program_grouped (λ x. (x.0, map statement_value x.1))
    (λ (v : Text × List StatementValue). the program_word · SpellsName v.0 · limited (level_of level) 64 each (SpellsStatement (level_of level)) v.1 · the end_word · the semicolon)
program_parts level = led_agrees (pair_agrees names_agree (two_more (each_few_agrees (statements_agree level) level 64) end_word semicolon)) program_word

program_regroup : (p : Program) → program_grouped (p.name, p.statements) ≡ program_tokens p
program_regroup p = ap (λ (ts : List Shape). program_word ∷ word p.name ∷ ts) (turned (append_assoc (flat_map statement_tokens p.statements) (only end_word) (only semicolon)))

program_back : (level : Level) (v : ProgramValue) (ts : List Shape) → SpellsProgram (level_of level) v ts → Written (IsProgram level) program_tokens program_value v ts
program_back level v ts h =
    let x = (program_parts level).back (v.name, v.statements) ts h in
    let value : Text × List StatementValue → ProgramValue = λ w. record { name = w.0; statements = w.1 } in
    let p : Program = record { name = x.0.0; statements = x.0.1 } in
    (p, x.1, ap value x.2, turned (program_regroup p) ∙ x.3)

pub programs_agree : (level : Level) → Agrees (IsProgram level) program_tokens program_value (SpellsProgram (level_of level))
programs_agree level = record { there = λ p h. subst (SpellsProgram (level_of level) (program_value p)) (program_regroup p) ((program_parts level).there (p.name, p.statements) h); back = program_back level }

-- ---- the parts of items

kind_there : (k : Kind) → Unit {0} → SpellsKind k (only (kind_token k))
kind_there Int h = refl
kind_there Sym h = refl

kind_back : (k : Kind) (ts : List Shape) → SpellsKind k ts → Written (λ (x : Kind). Unit {0}) (λ x. only (kind_token x)) (λ x. x) k ts
kind_back Int ts h = (Int, tt, refl, turned h)
kind_back Sym ts h = (Sym, tt, refl, turned h)

pub kinds_agree : Agrees (λ (x : Kind). Unit {0}) (λ x. only (kind_token x)) (λ x. x) SpellsKind
kinds_agree = record { there = kind_there; back = kind_back }

version_there : (level : Level) (x : Option Text) → IsVersion level x → SpellsAt (level_of level) (version_value x) (at_tokens x)
version_there level None h = refl
version_there level (Some digits) h = (at_word ∷ [], number digits ∷ [], refl, refl, (digits, refl, refl, to_range level false (digits_value digits) h))

version_back : (level : Level) (v : Option ℕ) (ts : List Shape) → SpellsAt (level_of level) v ts → Written (IsVersion level) at_tokens version_value v ts
version_back level None ts h = (None, tt, refl, turned h)
version_back level (Some version) ts h =
    let k = h.4 in
    (Some k.0, from_range level false (digits_value k.0) (subst (λ n. UpTo (level_of level) (greatest false) n) k.2 k.3), ap Some (turned k.2), ap (λ (us : List Shape). at_word ∷ us) (turned k.1) ∙ ap (λ (us : List Shape). us ++ h.1) (turned h.3) ∙ turned h.2)

pub versions_agree : (level : Level) → Agrees (IsVersion level) at_tokens version_value (SpellsAt (level_of level))
versions_agree level = record { there = version_there level; back = version_back level }

-- ---- items

-- one or more kinds with commas between
kinds_there : (k : Kind) (ks : List Kind) → listed SpellsKind (k ∷ ks) (kinds_tokens k ks)
kinds_there k ks = subst (λ (xs : List Kind). listed SpellsKind (k ∷ xs) (kinds_tokens k ks)) (map-id ks) ((listed_agrees kinds_agree).there (k, ks) (tt, all_kinds ks))

kinds_back : (v : List Kind) (ts : List Shape) → listed SpellsKind v ts → (k : Kind) × (ks : List Kind) × (k ∷ ks ≡ v) × (kinds_tokens k ks ≡ ts)
kinds_back v ts h = let x = (listed_agrees kinds_agree).back v ts h in (x.0.0, x.0.1, ap (λ (xs : List Kind). x.0.0 ∷ xs) (turned (map-id x.0.1)) ∙ x.2, x.3)

values_there : (vs : List Kind) → SpellsValues vs (values_tokens vs)
values_there [] = refl
values_there (v ∷ vs) = (arrow ∷ [], kinds_tokens v vs, refl, refl, kinds_there v vs)

values_back : (v : List Kind) (ts : List Shape) → SpellsValues v ts → values_tokens v ≡ ts
values_back [] ts h = turned h
values_back (v ∷ vs) ts h =
    let x = kinds_back (v ∷ vs) h.1 h.4 in
    let first : x.0 ≡ v = heads_same x.0 v x.1 vs x.2 in
    let rest : x.1 ≡ vs = tails_same x.0 v x.1 vs x.2 in
    let same : kinds_tokens v vs ≡ h.1 = subst (λ (ks : List Kind). kinds_tokens v ks ≡ h.1) rest (subst (λ (k : Kind). kinds_tokens k x.1 ≡ h.1) first x.3) in
    ap (λ (us : List Shape). arrow ∷ us) same ∙ ap (λ (us : List Shape). us ++ h.1) (turned h.3) ∙ turned h.2
  where
    heads_same : (a b : Kind) (as_ bs : List Kind) → a ∷ as_ ≡ b ∷ bs → a ≡ b
    heads_same a b as_ bs e = cc

    tails_same : (a b : Kind) (as_ bs : List Kind) → a ∷ as_ ≡ b ∷ bs → as_ ≡ bs
    tails_same a b as_ bs e = cc

-- ---- columns

abbrev Columns : Type 0
Columns = (Kind × List Kind) × List Kind

abbrev columns_spelled : Columns → List Shape
columns_spelled x = columns_tokens x.0.0 x.0.1 x.1

abbrev front_of : Columns → List Kind
front_of x = x.0.0 ∷ x.0.1

abbrev columns_value : Columns → List Kind × ℕ
columns_value x = (front_of x ++ x.1, length (front_of x))

abbrev AreColumns : Level → Columns → Type 0
AreColumns level x = AtMost level (length x.0.1 + length x.1) 7

more_room : (level : Level) (n m : ℕ) → AtMost level n 7 → m ≡ suc n → AtMost level m 8
more_room formed n m h e = tt
more_room few n m h e = omega (arith, h, e)
more_room fine n m h e = omega (arith, h, e)
more_room full n m h e = omega (arith, h, e)

less_room : (level : Level) (n m : ℕ) → AtMost level m 8 → m ≡ suc n → AtMost level n 7
less_room formed n m h e = tt
less_room few n m h e = omega (arith, h, e)
less_room fine n m h e = omega (arith, h, e)
less_room full n m h e = omega (arith, h, e)

columns_count : (x : Columns) → length (front_of x ++ x.1) ≡ suc (length x.0.1 + length x.1)
columns_count x = let e : length (front_of x ++ x.1) ≡ length (front_of x) + length x.1 = length-append (front_of x) x.1 in omega (arith, e)

columns_there : (level : Level) (x : Columns) → AreColumns level x → SpellsColumns (level_of level) (columns_value x).1 (columns_value x).0 (columns_spelled x)
columns_there level x h =
    let front : List Kind = front_of x in
    let count : length (front ++ x.1) ≡ length front + length x.1 = length-append front x.1 in (
      omega (arith, count),
      to_limit level (length (front ++ x.1)) 8 (more_room level (length x.0.1 + length x.1) (length (front ++ x.1)) h (columns_count x)),
      (
        kinds_tokens x.0.0 x.0.1,
        values_tokens x.1,
        refl,
        subst (λ (ks : List Kind). listed SpellsKind ks (kinds_tokens x.0.0 x.0.1)) (turned (take-append_seam front x.1)) (kinds_there x.0.0 x.0.1),
        subst (λ (ks : List Kind). SpellsValues ks (values_tokens x.1)) (turned (drop-append_seam front x.1)) (values_there x.1),
      ),
    )

abbrev with_count : List Kind → ℕ → List Kind × ℕ
with_count ks n = (ks, n)

both_same : (xs ys : List Kind) (n m : ℕ) → xs ≡ ys → n ≡ m → with_count xs n ≡ with_count ys m
both_same xs ys n m e f = ap (λ (ks : List Kind). with_count ks n) e ∙ ap (with_count ys) f

columns_back : (level : Level) (v : List Kind × ℕ) (ts : List Shape) → SpellsColumns (level_of level) v.1 v.0 ts → Written (AreColumns level) columns_spelled columns_value v ts
columns_back level v ts h =
    let p = h.2 in
    let k = kinds_back (take v.1 v.0) p.0 p.3 in
    let x : Columns = ((k.0, k.1), drop v.1 v.0) in
    let whole : front_of x ++ x.1 ≡ v.0 = ap (λ (ks : List Kind). ks ++ drop v.1 v.0) k.2 ∙ take-append-drop v.1 v.0 in
    let count : length (front_of x) ≡ v.1 = ap (λ (ks : List Kind). length ks) k.2 ∙ length-take-le v.1 v.0 h.0 in
    let size : length v.0 ≡ suc (length x.0.1 + length x.1) = ap (λ (ks : List Kind). length ks) (turned whole) ∙ columns_count x in (
      x,
      less_room level (length x.0.1 + length x.1) (length v.0) (from_limit level (length v.0) 8 h.1) size,
      both_same (front_of x ++ x.1) v.0 (length (front_of x)) v.1 whole count,
      ap (λ (us : List Shape). us ++ values_tokens x.1) k.3 ∙ ap (λ (us : List Shape). p.0 ++ us) (values_back (drop v.1 v.0) p.1 p.4) ∙ turned p.2,
    )

columns_agree : (level : Level) → Agrees (AreColumns level) columns_spelled columns_value (λ (v : List Kind × ℕ). SpellsColumns (level_of level) v.1 v.0)
columns_agree level = record { there = columns_there level; back = columns_back level }

relation_parts : (level : Level)
    → Agrees (λ (x : Text × Columns). IsName x.0 × AreColumns level x.1) (λ x. relation_word ∷ word x.0 ∷ left_paren ∷ (columns_spelled x.1 ++ right_paren ∷ semicolon ∷ [])) (λ x. (x.0, columns_value x.1))
    (λ (v : Text × (List Kind × ℕ)). the relation_word · SpellsName v.0 · the left_paren · SpellsColumns (level_of level) v.1.1 v.1.0 · the right_paren · the semicolon)
relation_parts level = led_agrees (pair_agrees names_agree (led_agrees (two_more (columns_agree level) right_paren semicolon) left_paren)) relation_word

batch_parts : (level : Level)
    → Agrees (λ (ps : List Program). AllByRecursion (IsProgram level) ps × AtMost level (length ps) 256) (λ ps. batch_word ∷ (flat_map program_tokens ps ++ commit_word ∷ semicolon ∷ [])) (map program_value)
    (λ (v : List ProgramValue). the batch_word · limited (level_of level) 256 each (SpellsProgram (level_of level)) v · the commit_word · the semicolon)
batch_parts level = led_agrees (two_more (each_few_agrees (programs_agree level) level 256) commit_word semicolon) batch_word

show_parts : (level : Level)
    → Agrees (λ (x : Text × Option Text). IsName x.0 × IsVersion level x.1) (λ x. show_word ∷ word x.0 ∷ (at_tokens x.1 ++ semicolon ∷ [])) (λ x. (x.0, version_value x.1))
    (λ (v : Text × Option ℕ). the show_word · SpellsName v.0 · SpellsAt (level_of level) v.1 · the semicolon)
show_parts level = led_agrees (pair_agrees names_agree (one_more (versions_agree level) semicolon)) show_word

-- the tokens of an item, grouped from the right
abbrev item_grouped : Item → List Shape
item_grouped (relation r k ks vs) = relation_word ∷ word r ∷ left_paren ∷ (columns_tokens k ks vs ++ right_paren ∷ semicolon ∷ [])
item_grouped (batch ps) = batch_word ∷ (flat_map program_tokens ps ++ commit_word ∷ semicolon ∷ [])
item_grouped (show r version) = show_word ∷ word r ∷ (at_tokens version ++ semicolon ∷ [])

item_regroup : (x : Item) → item_grouped x ≡ item_tokens x
item_regroup (relation r k ks vs) = ap (λ (ts : List Shape). relation_word ∷ word r ∷ left_paren ∷ ts) (turned (append_assoc (columns_tokens k ks vs) (only right_paren) (only semicolon)))
item_regroup (batch ps) = ap (λ (ts : List Shape). batch_word ∷ ts) (turned (append_assoc (flat_map program_tokens ps) (only commit_word) (only semicolon)))
item_regroup (show r version) = refl

grouped_there : (level : Level) (x : Item) → IsItem level x → SpellsItem (level_of level) (item_value x) (item_grouped x)
grouped_there level (relation r k ks vs) h = (relation_parts level).there (r, ((k, ks), vs)) h
grouped_there level (batch ps) h = (batch_parts level).there ps h
grouped_there level (show r version) h = (show_parts level).there (r, version) h

grouped_back : (level : Level) (v : ItemValue) (ts : List Shape) → SpellsItem (level_of level) v ts → Written (IsItem level) item_grouped item_value v ts
grouped_back level (Relation name kinds keys) ts h =
    let x = (relation_parts level).back (name, (kinds, keys)) ts h in
    (relation x.0.0 x.0.1.0.0 x.0.1.0.1 x.0.1.1, x.1, ap (λ (w : Text × (List Kind × ℕ)). Relation w.0 w.1.0 w.1.1) x.2, x.3)
grouped_back level (Batch programs) ts h = let x = (batch_parts level).back programs ts h in (batch x.0, x.1, ap Batch x.2, x.3)
grouped_back level (Show name version) ts h =
    let x = (show_parts level).back (name, version) ts h in
    (show x.0.0 x.0.1, x.1, ap (λ (w : Text × Option ℕ). Show w.0 w.1) x.2, x.3)

item_back : (level : Level) (v : ItemValue) (ts : List Shape) → SpellsItem (level_of level) v ts → Written (IsItem level) item_tokens item_value v ts
item_back level v ts h = let x = grouped_back level v ts h in (x.0, x.1, x.2, turned (item_regroup x.0) ∙ x.3)

-- An item of the tree spells what it stands for; and each spelling of an item is that of a tree.
pub items_agree : (level : Level) → Agrees (IsItem level) item_tokens item_value (SpellsItem (level_of level))
items_agree level = record { there = λ x h. subst (SpellsItem (level_of level) (item_value x)) (item_regroup x) (grouped_there level x h); back = item_back level }
