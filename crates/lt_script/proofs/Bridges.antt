-- The readers that give values read what those of the grammar's tree read.
use Rattle.std.proofs.Common.{◌≡◌, ℕ, zero, suc, Bool, true, false, List, [], ◌∷◌, ◌++◌, length, map, Option, Some, None, Ok, Err, refl, sym, ap, subst, ◌∙◌, inl, inr, ◌⊎◌}
use Rattle.std.specs.Prelude.{cond, fold, nat_le, flat_map}
use Rattle.lt_reading.specs.Reading.{Reader, Outcome, Stop, ◌>>=◌, given, both, led, ended, choice, maybe, many, many_at, joined, refused, no_more, halt, listed, past_comma, token, close, closed, not_allowed, too_full, at_once}
use Rattle.lt_reading.proofs.Loops.{Shrinks}
use Rattle.lt_model.specs.Tokens.{Shape}
use Rattle.lt_model.specs.Grammar.{comma, semicolon, left_paren, right_paren, where_word, digits_value}
use Rattle.lt_model.specs.Variables.{with_name}
use Rattle.lt_model.specs.declared.kind.Kind.{Kind}
use Rattle.lt_model.specs.declared.syntax.Op.{Op}
use Rattle.lt_model.specs.declared.syntax.Term.{Term}
use Rattle.lt_model.specs.declared.syntax.Head.{Head}
use Rattle.lt_model.specs.declared.syntax.Literal.{Literal}
use Rattle.lt_model.specs.declared.syntax.Statement.{Statement}
use Rattle.lt_model.specs.declared.syntax.Program.{Program}
use Rattle.lt_model.specs.declared.syntax.Item.{Item}
use Rattle.lt_grammar.specs.Tokens.{Text, same_shape, batch_word, program_word, end_word, commit_word, show_word, at_word, insert_word, delete_word, replace_word, by_word, require_word, print_word, not_word, equals, minus}
use Rattle.lt_grammar.specs.Grammar as grammar
use Rattle.lt_grammar.specs.Grammar.{few_names}
use Rattle.lt_grammar.specs.Meaning.{term_value, terms_value, head_value, literal_value, body_value, statement_value, program_value, item_value}
use Rattle.lt_grammar.specs.Productions as tree
use Rattle.lt_grammar.specs.Productions.{batch_at, body_at, constant_at, delete_at, equation_at, form_at, head_at, insert_at, is_at, item_at, literal_at, name_at, need_at, number_at, op_at, other_op_at, plus_at, print_at, program_at, quoted_at, relation_at, replace_at, require_at, rest_at, show_at, statement_at, term_at, terms_at, where_at}
use Rattle.lt_script.proofs.Shrink.{terms_shrink as tree_terms_shrink, literals_shrink as tree_literals_shrink, statements_shrink as tree_statements_shrink, programs_shrink as tree_programs_shrink}
use Rattle.lt_script.specs.Valued as valued
use Rattle.lt_script.specs.Valued.{valued_batch_at, valued_body_at, valued_constant_at, valued_delete_at, valued_equation_at, valued_form_at, valued_head_at, valued_insert_at, valued_item_at, valued_literal_at, valued_number_at, valued_print_at, valued_program_at, valued_replace_at, valued_require_at, valued_rest_at, valued_show_at, valued_statement_at, valued_term_at, valued_terms_at, valued_where_at}
use Rattle.lt_script.specs.Names.{term_names, terms_names, literal_names, body_names, statement_names, few_variables}

abbrev seen : {A B : Type 0} → (A → B) → Outcome Shape A → Outcome Shape B
seen f o = o >>= λ x. Ok (f x.0, x.1)

-- the second reader reads what the first one reads, and gives what it stands for
pub record Same {A B : Type 0} (f : A → B) (r : Reader Shape A) (q : Reader Shape B) : Type 0 where
  pub at : (ts : List Shape) → q ts ≡ given f r ts

-- ---- by the parts of a production

itself : {A : Type 0} (r : Reader Shape A) → Same (λ x. x) r r
itself r = record { at = λ ts. go (r ts) }
  where
    go : {A : Type 0} (o : Outcome Shape A) → o ≡ seen (λ x. x) o
    go (Ok (x, rest)) = refl
    go (Err e) = refl

fused : {A B C : Type 0} (f : A → B) (g : B → C) (o : Outcome Shape A) → seen g (seen f o) ≡ seen (λ x. g (f x)) o
fused f g (Ok x) = refl
fused f g (Err e) = refl

swapped : {A B : Type 0} (f g : A → B) → ((x : A) → f x ≡ g x) → (o : Outcome Shape A) → seen f o ≡ seen g o
swapped f g same (Ok x) = ap (λ y. Ok (y, x.1)) (same x.0)
swapped f g same (Err e) = refl

mapped : {A B C D : Type 0} (f : A → B) (h : A → C) (k : B → D) (g : C → D) (r : Reader Shape A) (q : Reader Shape B) → ((x : A) → k (f x) ≡ g (h x)) → Same f r q → Same g (given h r) (given k q)
mapped f h k g r q same s = record { at = λ ts. ap (seen k) (s.at ts) ∙ fused f k (r ts) ∙ swapped (λ x. k (f x)) (λ x. g (h x)) same (r ts) ∙ sym (fused h g (r ts)) }

-- what is made of the value alone
made : {A B C : Type 0} (f : A → B) (k : B → C) (g : A → C) (r : Reader Shape A) (q : Reader Shape B) → ((x : A) → k (f x) ≡ g x) → Same f r q → Same g r (given k q)
made f k g r q same s = record { at = λ ts. ap (seen k) (s.at ts) ∙ fused f k (r ts) ∙ swapped (λ x. k (f x)) g same (r ts) }

second : {A B C D : Type 0} (f : A → B) (g : C → D) (x : A) (o : Outcome Shape C) → (seen g o >>= λ y. Ok ((f x, y.0), y.1)) ≡ seen {B = B × D} (λ (z : A × C). (f z.0, g z.1)) (o >>= λ y. Ok ((x, y.0), y.1))
second f g x (Ok y) = refl
second f g x (Err e) = refl

paired : {A B C D : Type 0} (f : A → B) (g : C → D) (r : Reader Shape A) (q : Reader Shape B) (r2 : Reader Shape C) (q2 : Reader Shape D) → Same f r q → Same g r2 q2 → Same (λ (z : A × C). (f z.0, g z.1)) (both r r2) (both q q2)
paired {A} {B} {C} {D} f g r q r2 q2 s t = record { at = λ ts. ap (λ o. o >>= λ x. q2 x.1 >>= λ y. Ok ((x.0, y.0), y.1)) (s.at ts) ∙ go (r ts) }
  where
    go : (o : Outcome Shape A) → (seen f o >>= λ x. q2 x.1 >>= λ y. Ok ((x.0, y.0), y.1)) ≡ seen {B = B × D} (λ (z : A × C). (f z.0, g z.1)) (o >>= λ x. r2 x.1 >>= λ y. Ok ((x.0, y.0), y.1))
    go (Ok x) = ap (λ o. o >>= λ y. Ok ((f x.0, y.0), y.1)) (t.at x.1) ∙ second f g x.0 (r2 x.1)
    go (Err e) = refl

behind : {A B : Type 0} (f : A → B) (s : Shape) (r : Reader Shape A) (q : Reader Shape B) → Same f r q → Same f (led same_shape s r) (led same_shape s q)
behind {A} {B} f s r q h = mapped (λ (z : Unit {0} × A). (z.0, f z.1)) (λ (z : Unit {0} × A). z.1) (λ (z : Unit {0} × B). z.1) f (both (token same_shape s) r) (both (token same_shape s) q) (λ z. refl) (paired (λ (x : Unit {0}). x) f (token same_shape s) (token same_shape s) r q (itself (token same_shape s)) h)

before : {A B : Type 0} (f : A → B) (s : Shape) (r : Reader Shape A) (q : Reader Shape B) → Same f r q → Same f (ended same_shape s r) (ended same_shape s q)
before {A} {B} f s r q h = mapped (λ (z : A × Unit {0}). (f z.0, z.1)) (λ (z : A × Unit {0}). z.0) (λ (z : B × Unit {0}). z.0) f (both r (token same_shape s)) (both q (token same_shape s)) (λ z. refl) (paired f (λ (x : Unit {0}). x) r q (token same_shape s) (token same_shape s) h (itself (token same_shape s)))

abbrev either : {A B C D : Type 0} → (A → B) → (C → D) → A ⊎ C → B ⊎ D
either f g (inl x) = inl (f x)
either f g (inr x) = inr (g x)

chosen : {A B C D : Type 0} (f : A → B) (g : C → D) (p : Shape → Bool) (r : Reader Shape A) (q : Reader Shape B) (r2 : Reader Shape C) (q2 : Reader Shape D) → Same f r q → Same g r2 q2 → Same (either f g) (choice p r r2) (choice p q q2)
chosen {A} {B} {C} {D} f g p r q r2 q2 s t = record { at = reads }
  where
    chooses : (b : Bool) (ts : List Shape) → cond b (given (λ x. inl x) q ts) (given (λ x. inr x) q2 ts) ≡ seen (either f g) (cond b (given (λ x. inl x) r ts) (given (λ x. inr x) r2 ts))
    chooses true ts = (mapped f (λ x. inl x) (λ x. inl x) (either f g) r q (λ x. refl) s).at ts
    chooses false ts = (mapped g (λ x. inr x) (λ x. inr x) (either f g) r2 q2 (λ x. refl) t).at ts

    reads : (ts : List Shape) → choice p q q2 ts ≡ given (either f g) (choice p r r2) ts
    reads [] = refl
    reads (t ∷ ts) = chooses (p t) (t ∷ ts)

abbrev option : {A B : Type 0} → (A → B) → Option A → Option B
option f None = None
option f (Some x) = Some (f x)

perhaps : {A B : Type 0} (f : A → B) (p : Shape → Bool) (r : Reader Shape A) (q : Reader Shape B) → Same f r q → Same (option f) (maybe p r) (maybe p q)
perhaps {A} {B} f p r q s = record { at = reads }
  where
    chooses : (b : Bool) (ts : List Shape) → cond b (given (λ x. Some x) q ts) (Ok (None, ts)) ≡ seen (option f) (cond b (given (λ x. Some x) r ts) (Ok (None, ts)))
    chooses true ts = (mapped f (λ x. Some x) (λ x. Some x) (option f) r q (λ x. refl) s).at ts
    chooses false ts = refl

    reads : (ts : List Shape) → maybe p q ts ≡ given (option f) (maybe p r) ts
    reads [] = refl
    reads (t ∷ ts) = chooses (p t) (t ∷ ts)

-- ---- loops

last : {A B : Type 0} (f : A → B) (x : A) (o : Outcome Shape (List A)) → joined (f x) (seen (map f) o) ≡ seen (map f) (joined x o)
last f x (Ok y) = refl
last f x (Err e) = refl

one_more : {A B : Type 0} (f : A → B) (m : Reader Shape (List A)) (n : Reader Shape (List B)) → ((ts : List Shape) → n ts ≡ seen (map f) (m ts)) → (o : Outcome Shape A) → (seen f o >>= λ x. joined x.0 (n x.1)) ≡ seen (map f) (o >>= λ x. joined x.0 (m x.1))
one_more f m n h (Ok x) = ap (joined (f x.0)) (h x.1) ∙ last f x.0 (m x.1)
one_more f m n h (Err e) = refl

with_room : {A B : Type 0} (f : A → B) (m : Reader Shape (List A)) (n : Reader Shape (List B)) (r : Reader Shape A) (q : Reader Shape B) → Same f r q → ((ts : List Shape) → n ts ≡ seen (map f) (m ts)) → (b : Bool) (ts : List Shape)
    → cond b (q ts >>= λ x. joined x.0 (n x.1)) (no_more B ts) ≡ seen (map f) (cond b (r ts >>= λ x. joined x.0 (m x.1)) (no_more A ts))
with_room f m n r q s h true ts = ap (λ o. o >>= λ x. joined x.0 (n x.1)) (s.at ts) ∙ one_more f m n h (r ts)
with_room f m n r q s h false ts = refl

without_room : {A B : Type 0} (f : A → B) (stop : Stop Shape) (b : Bool) (ts : List Shape) → cond b (refused B stop) (no_more B ts) ≡ seen (map f) (cond b (refused A stop) (no_more A ts))
without_room f stop true ts = refl
without_room f stop false ts = refl

several_at : {A B : Type 0} (f : A → B) (p : Shape → Bool) (over : List Shape → Stop Shape) (r : Reader Shape A) (q : Reader Shape B) → Same f r q → (n room : ℕ) (ts : List Shape) → many_at p q over n room ts ≡ seen (map f) (many_at p r over n room ts)
several_at f p over r q s zero room ts = refl
several_at f p over r q s (suc n) zero [] = refl
several_at f p over r q s (suc n) (suc room) [] = refl
several_at f p over r q s (suc n) zero (t ∷ ts) = without_room f (over (t ∷ ts)) (p t) (t ∷ ts)
several_at f p over r q s (suc n) (suc room) (t ∷ ts) = with_room f (many_at p r over n room) (many_at p q over n room) r q s (several_at f p over r q s n room) (p t) (t ∷ ts)

several : {A B : Type 0} (f : A → B) (p : Shape → Bool) (over : List Shape → Stop Shape) (room : ℕ) (r : Reader Shape A) (q : Reader Shape B) → Same f r q → Same (map f) (many p r over room) (many p q over room)
several f p over room r q s = record { at = λ ts. several_at f p over r q s (suc (length ts)) room ts }

in_list : {A B : Type 0} (f : A → B) (starts : Shape → Bool) (room : ℕ) (r : Reader Shape A) (q : Reader Shape B) → Same f r q → Same (λ (x : A × List A). (f x.0, map f x.1)) (listed same_shape comma starts r room) (listed same_shape comma starts q room)
in_list f starts room r q s =
    paired f (map f) r q (many (λ t. same_shape t comma) (led same_shape comma r) (past_comma starts) room) (many (λ t. same_shape t comma) (led same_shape comma q) (past_comma starts) room) s
    (several f (λ t. same_shape t comma) (past_comma starts) room (led same_shape comma r) (led same_shape comma q) (behind f comma r q s))

shut_by : {A B : Type 0} (f : A → B) (x : A) (ts us : List Shape) (w b : Bool) → cond b (cond w (Ok (f x, ts)) (halt us too_full)) (halt us not_allowed) ≡ seen f (cond b (cond w (Ok (x, ts)) (halt us too_full)) (halt us not_allowed))
shut_by f x ts us true true = refl
shut_by f x ts us false true = refl
shut_by f x ts us w false = refl

shut : {A B : Type 0} (f : A → B) (ends : Shape → Bool) (w : Bool) (x : A) (ts : List Shape) → close ends w (f x) ts ≡ seen f (close ends w x ts)
shut f ends w x [] = refl
shut f ends w x (t ∷ ts) = shut_by f x ts (t ∷ ts) w (ends t)

shut_all : {A B : Type 0} (f : A → B) (ends : Shape → Bool) (within : A → Bool) (of_value : B → Bool) → ((x : A) → of_value (f x) ≡ within x) → (o : Outcome Shape A) → (seen f o >>= λ x. close ends (of_value x.0) x.0 x.1) ≡ seen f (o >>= λ x. close ends (within x.0) x.0 x.1)
shut_all f ends within of_value same (Ok x) = ap (λ w. close ends w (f x.0) x.1) (same x.0) ∙ shut f ends (within x.0) x.0 x.1
shut_all f ends within of_value same (Err e) = refl

ends_so : {A B : Type 0} (f : A → B) (ends : Shape → Bool) (within : A → Bool) (of_value : B → Bool) (r : Reader Shape A) (q : Reader Shape B) → ((x : A) → of_value (f x) ≡ within x) → Same f r q → Same f (closed ends within r) (closed ends of_value q)
ends_so f ends within of_value r q same s = record { at = λ ts. ap (λ o. o >>= λ x. close ends (of_value x.0) x.0 x.1) (s.at ts) ∙ shut_all f ends within of_value same (r ts) }

-- ---- terms

numbers : (m : Bool) → Same digits_value (number_at m) (valued_number_at m)
numbers m = record { at = λ ts. refl }

abbrev constant_part : Text ⊎ (Text ⊎ Text) → ℕ ⊎ (ℕ ⊎ Text)
constant_part = either digits_value (either digits_value (λ x. x))

constant_value : (x : Text ⊎ (Text ⊎ Text)) → valued.constant_of (constant_part x) ≡ term_value (tree.constant_of x)
constant_value (inl digits) = refl
constant_value (inr (inl digits)) = refl
constant_value (inr (inr text)) = refl

constants : Same term_value constant_at valued_constant_at
unfolding constant_at valued_constant_at
constants = mapped constant_part tree.constant_of valued.constant_of term_value _ _ constant_value
    (chosen digits_value (either digits_value (λ x. x)) tree.is_minus _ _ _ _ (behind digits_value minus _ _ (numbers true)) (chosen digits_value (λ x. x) tree.is_number _ _ _ _ (numbers false) (itself quoted_at)))

term_of : (x : Text ⊎ grammar.Term) → valued.term_of (either (λ x. x) term_value x) ≡ term_value (tree.term_of x)
term_of (inl text) = refl
term_of (inr c) = refl

terms : Same term_value term_at valued_term_at
unfolding term_at valued_term_at
terms = mapped (either (λ x. x) term_value) tree.term_of valued.term_of term_value _ _ term_of (chosen (λ x. x) term_value tree.is_word _ _ _ _ (itself name_at) constants)

abbrev arguments_part : grammar.Term × List grammar.Term → Term × List Term
arguments_part x = (term_value x.0, map term_value x.1)

abbrev arguments_value : grammar.Term × List grammar.Term → List Term
arguments_value x = terms_value x.0 x.1

arguments : Same arguments_value terms_at valued_terms_at
unfolding terms_at valued_terms_at
arguments = made arguments_part valued.all_of arguments_value _ _ (λ x. refl)
    (behind arguments_part left_paren _ _ (before arguments_part right_paren _ _ (in_list term_value tree.starts_term 7 _ _ terms)))

heads : Same head_value head_at valued_head_at
unfolding head_at valued_head_at
heads = mapped (λ (x : Text × (grammar.Term × List grammar.Term)). (x.0, arguments_value x.1)) tree.head_of valued.head_of head_value _ _ (λ x. refl) (paired (λ x. x) arguments_value _ _ _ _ (itself name_at) arguments)

-- ---- literals

abbrev summand : Bool × grammar.Term → Bool × Term
summand x = (x.0, term_value x.1)

abbrev equation_part : grammar.Term × Option (Bool × grammar.Term) → Term × Option (Bool × Term)
equation_part x = (term_value x.0, option summand x.1)

equations : Same equation_part equation_at valued_equation_at
unfolding equation_at valued_equation_at
equations = behind equation_part equals _ _ (paired term_value (option summand) _ _ _ _ terms (perhaps summand tree.is_plus _ _ (paired (λ x. x) term_value _ _ _ _ (itself plus_at) terms)))

abbrev right_part : Op × grammar.Term → Op × Term
right_part x = (x.0, term_value x.1)

abbrev rest_part : tree.Rest → valued.Rest
rest_part = either arguments_value (either equation_part right_part)

rests : Same rest_part rest_at valued_rest_at
unfolding rest_at valued_rest_at
rests = chosen arguments_value (either equation_part right_part) tree.is_left_paren _ _ _ _ arguments
    (chosen equation_part right_part tree.is_equals _ _ _ _ equations (paired (λ x. x) term_value _ _ _ _ (itself other_op_at) terms))

abbrev named_part : Text × tree.Rest → Text × valued.Rest
named_part x = (x.0, rest_part x.1)

abbrev compare_part : grammar.Term × (Op × grammar.Term) → Term × (Op × Term)
compare_part x = (term_value x.0, right_part x.1)

abbrev literal_part : grammar.Head ⊎ ((Text × tree.Rest) ⊎ (grammar.Term × (Op × grammar.Term))) → Head ⊎ ((Text × valued.Rest) ⊎ (Term × (Op × Term)))
literal_part = either head_value (either named_part compare_part)

literal_of : (x : grammar.Head ⊎ ((Text × tree.Rest) ⊎ (grammar.Term × (Op × grammar.Term)))) → valued.literal_of (literal_part x) ≡ literal_value (tree.literal_of x)
literal_of (inl h) = refl
literal_of (inr (inl (v, inl ts))) = refl
literal_of (inr (inl (v, inr (inl (a, None))))) = refl
literal_of (inr (inl (v, inr (inl (a, Some b))))) = refl
literal_of (inr (inl (v, inr (inr (op, t))))) = refl
literal_of (inr (inr (c, (op, t)))) = refl

literals : Same literal_value literal_at valued_literal_at
unfolding literal_at valued_literal_at
literals = mapped literal_part tree.literal_of valued.literal_of literal_value _ _ literal_of
    (chosen head_value (either named_part compare_part) tree.is_not _ _ _ _ (behind head_value not_word _ _ heads)
    (chosen named_part compare_part tree.is_word _ _ _ _ (paired (λ x. x) rest_part _ _ _ _ (itself name_at) rests)
    (paired term_value right_part _ _ _ _ constants (paired (λ x. x) term_value _ _ _ _ (itself op_at) terms))))

abbrev literals_part : grammar.Literal × List grammar.Literal → Literal × List Literal
literals_part x = (literal_value x.0, map literal_value x.1)

abbrev literals_value : grammar.Literal × List grammar.Literal → List Literal
literals_value x = body_value x.0 x.1

bodies : Same literals_value body_at valued_body_at
unfolding body_at valued_body_at
bodies = made literals_part valued.all_of literals_value _ _ (λ x. refl) (in_list literal_value tree.starts_literal 15 _ _ literals)

where_of : (x : Option (grammar.Literal × List grammar.Literal)) → valued.where_of (option literals_value x) ≡ map literal_value (tree.where_of x)
where_of None = refl
where_of (Some ls) = refl

wheres : Same (map literal_value) where_at valued_where_at
unfolding where_at valued_where_at
wheres = mapped (option literals_value) tree.where_of valued.where_of (map literal_value) _ _ where_of (perhaps literals_value tree.is_where _ _ (behind literals_value where_word _ _ bodies))

-- ---- statements

abbrev rule_part : grammar.Head × List grammar.Literal → Head × List Literal
rule_part x = (head_value x.0, map literal_value x.1)

rules_read : Same rule_part (both head_at where_at) (both valued_head_at valued_where_at)
rules_read = paired head_value (map literal_value) _ _ _ _ heads wheres

inserts : Same rule_part insert_at valued_insert_at
unfolding insert_at valued_insert_at
inserts = behind rule_part insert_word _ _ rules_read

deletes : Same rule_part delete_at valued_delete_at
unfolding delete_at valued_delete_at
deletes = behind rule_part delete_word _ _ rules_read

abbrev replace_part : grammar.Head × (grammar.Head × List grammar.Literal) → Head × (Head × List Literal)
replace_part x = (head_value x.0, rule_part x.1)

replaces : Same replace_part replace_at valued_replace_at
unfolding replace_at valued_replace_at
replaces = behind replace_part replace_word _ _ (paired head_value rule_part _ _ _ _ (before head_value by_word _ _ heads) rules_read)

abbrev require_part : Bool × (grammar.Literal × List grammar.Literal) → Bool × List Literal
require_part x = (x.0, literals_value x.1)

requires_read : Same require_part require_at valued_require_at
unfolding require_at valued_require_at
requires_read = behind require_part require_word _ _ (paired (λ x. x) literals_value _ _ _ _ (itself need_at) bodies)

abbrev print_part : (grammar.Term × List grammar.Term) × (grammar.Literal × List grammar.Literal) → List Term × List Literal
print_part x = (arguments_value x.0, literals_value x.1)

prints : Same print_part print_at valued_print_at
unfolding print_at valued_print_at
prints = behind print_part print_word _ _ (paired arguments_value literals_value _ _ _ _ arguments (behind literals_value where_word _ _ bodies))

abbrev form_part : tree.Form → valued.Form
form_part = either rule_part (either rule_part (either replace_part (either require_part print_part)))

form_of : (x : tree.Form) → valued.form_of (form_part x) ≡ statement_value (tree.form_of x)
form_of (inl x) = refl
form_of (inr (inl x)) = refl
form_of (inr (inr (inl x))) = refl
form_of (inr (inr (inr (inl x)))) = refl
form_of (inr (inr (inr (inr x)))) = refl

forms : Same statement_value form_at valued_form_at
unfolding form_at valued_form_at
forms = mapped form_part tree.form_of valued.form_of statement_value _ _ form_of
    (chosen rule_part (either rule_part (either replace_part (either require_part print_part))) tree.is_insert _ _ _ _ inserts
    (chosen rule_part (either replace_part (either require_part print_part)) tree.is_delete _ _ _ _ deletes
    (chosen replace_part (either require_part print_part) tree.is_replace _ _ _ _ replaces
    (chosen require_part print_part tree.is_require _ _ _ _ requires_read prints))))

term_names_same : (t : grammar.Term) → term_names (term_value t) ≡ grammar.term_names t
term_names_same (grammar.name text) = refl
term_names_same (grammar.numeral m digits) = refl
term_names_same (grammar.quoted text) = refl

terms_names_same : (ts : List grammar.Term) → terms_names (map term_value ts) ≡ flat_map grammar.term_names ts
terms_names_same [] = refl
terms_names_same (t ∷ ts) = ap (λ (s : List (List ℕ)). s ++ terms_names (map term_value ts)) (term_names_same t) ∙ ap (λ (s : List (List ℕ)). grammar.term_names t ++ s) (terms_names_same ts)

pair_names_same : (a b : grammar.Term) → term_names (term_value a) ++ term_names (term_value b) ≡ grammar.term_names a ++ grammar.term_names b
pair_names_same a b = ap (λ (s : List (List ℕ)). s ++ term_names (term_value b)) (term_names_same a) ∙ ap (λ (s : List (List ℕ)). grammar.term_names a ++ s) (term_names_same b)

literal_names_same : (l : grammar.Literal) → literal_names (literal_value l) ≡ grammar.literal_names l
literal_names_same (grammar.atom h) = terms_names_same (h.first ∷ h.others)
literal_names_same (grammar.absent h) = terms_names_same (h.first ∷ h.others)
literal_names_same (grammar.compare left op right) = pair_names_same left right
literal_names_same (grammar.sum v a m b) = ap (λ (s : List (List ℕ)). v ∷ s) (pair_names_same a b)

body_names_same : (ls : List grammar.Literal) → body_names (map literal_value ls) ≡ flat_map grammar.literal_names ls
body_names_same [] = refl
body_names_same (l ∷ ls) = ap (λ (s : List (List ℕ)). s ++ body_names (map literal_value ls)) (literal_names_same l) ∙ ap (λ (s : List (List ℕ)). grammar.literal_names l ++ s) (body_names_same ls)

-- terms before a body
rule_names_same : (ts : List grammar.Term) (ls : List grammar.Literal) → terms_names (map term_value ts) ++ body_names (map literal_value ls) ≡ flat_map grammar.term_names ts ++ flat_map grammar.literal_names ls
rule_names_same ts ls = ap (λ (s : List (List ℕ)). s ++ body_names (map literal_value ls)) (terms_names_same ts) ∙ ap (λ (s : List (List ℕ)). flat_map grammar.term_names ts ++ s) (body_names_same ls)

statement_names_same : (s : grammar.Statement) → statement_names (statement_value s) ≡ grammar.statement_names s
statement_names_same (grammar.insert h ls) = rule_names_same (h.first ∷ h.others) ls
statement_names_same (grammar.delete h ls) = rule_names_same (h.first ∷ h.others) ls
statement_names_same (grammar.replace gone come ls) =
    ap (λ (s : List (List ℕ)). s ++ (terms_names (terms_value come.first come.others) ++ body_names (map literal_value ls))) (terms_names_same (gone.first ∷ gone.others))
    ∙ ap (λ (s : List (List ℕ)). grammar.head_names gone ++ s) (rule_names_same (come.first ∷ come.others) ls)
statement_names_same (grammar.require some l ls) = body_names_same (l ∷ ls)
statement_names_same (grammar.print t ts l ls) = rule_names_same (t ∷ ts) (l ∷ ls)

few_same : (s : grammar.Statement) → few_variables (statement_value s) ≡ few_names s
unfolding few_variables few_names
few_same s = ap (λ (names : List (List ℕ)). nat_le (length (fold with_name [] names)) 16) (statement_names_same s)

statements : Same statement_value statement_at valued_statement_at
unfolding statement_at valued_statement_at
statements = ends_so statement_value (λ t. same_shape t semicolon) few_names few_variables _ _ few_same forms

-- ---- programs and items

abbrev program_part : Text × List grammar.Statement → Text × List Statement
program_part x = (x.0, map statement_value x.1)

programs : Same program_value program_at valued_program_at
unfolding program_at valued_program_at
programs = mapped program_part tree.program_of valued.program_of program_value _ _ (λ x. refl)
    (behind program_part program_word _ _ (paired (λ x. x) (map statement_value) _ _ _ _ (itself name_at)
    (before (map statement_value) semicolon _ _ (before (map statement_value) end_word _ _ (several statement_value tree.starts_statement at_once 64 _ _ statements)))))

batches : Same (map program_value) batch_at valued_batch_at
unfolding batch_at valued_batch_at
batches = behind (map program_value) batch_word _ _ (before (map program_value) semicolon _ _ (before (map program_value) commit_word _ _ (several program_value tree.is_program at_once 256 _ _ programs)))

abbrev show_part : Text × Option Text → Text × Option ℕ
show_part x = (x.0, option digits_value x.1)

shows : Same show_part show_at valued_show_at
unfolding show_at valued_show_at
shows = behind show_part show_word _ _ (paired (λ x. x) (option digits_value) _ _ _ _ (itself name_at) (before (option digits_value) semicolon _ _ (perhaps digits_value is_at _ _ (behind digits_value at_word _ _ (numbers false)))))

abbrev item_part : (Text × ((Kind × List Kind) × List Kind)) ⊎ (List grammar.Program ⊎ (Text × Option Text)) → (Text × ((Kind × List Kind) × List Kind)) ⊎ (List Program ⊎ (Text × Option ℕ))
item_part = either (λ x. x) (either (map program_value) show_part)

item_of : (x : (Text × ((Kind × List Kind) × List Kind)) ⊎ (List grammar.Program ⊎ (Text × Option Text))) → valued.item_of (item_part x) ≡ item_value (tree.item_of x)
item_of (inl x) = refl
item_of (inr (inl ps)) = refl
item_of (inr (inr (r, None))) = refl
item_of (inr (inr (r, Some digits))) = refl

items : Same item_value item_at valued_item_at
unfolding item_at valued_item_at
items = mapped item_part tree.item_of valued.item_of item_value _ _ item_of
    (chosen (λ (x : Text × ((Kind × List Kind) × List Kind)). x) (either (map program_value) show_part) tree.is_relation _ _ _ _ (itself relation_at) (chosen (map program_value) show_part tree.is_batch _ _ _ _ batches shows))

-- ---- what was read, by the tree

abbrev pair : {B : Type 0} → B → List Shape → B × List Shape
pair x rest = (x, rest)

-- a tree whose value was read
pub record Tree {A B : Type 0} (f : A → B) (r : Reader Shape A) (ts : List Shape) (x : B) (rest : List Shape) : Type 0 where
  pub tree : A
  pub read : r ts ≡ Ok (tree, rest)
  pub is : x ≡ f tree

tree_of : {A B : Type 0} (f : A → B) (r : Reader Shape A) (q : Reader Shape B) → Same f r q → (ts : List Shape) (x : B) (rest : List Shape) → q ts ≡ Ok (x, rest) → Tree f r ts x rest
tree_of {A} {B} f r q s ts x rest e = go (r ts) refl (sym (s.at ts) ∙ e)
  where
    go : (o : Outcome Shape A) → r ts ≡ o → seen f o ≡ Ok (x, rest) → Tree f r ts x rest
    go (Ok (y, us)) is h =
        let both : pair (f y) us ≡ pair x rest = cc in
        let a : f y ≡ x = ap (λ (p : B × List Shape). p.0) both in
        let b : us ≡ rest = ap (λ (p : B × List Shape). p.1) both in
        record { tree = y; read = subst (λ (vs : List Shape). r ts ≡ Ok (y, vs)) b is; is = sym a }
    go (Err stop) is h = absurd cc

stop_of : {A B : Type 0} (f : A → B) (r : Reader Shape A) (q : Reader Shape B) → Same f r q → (ts : List Shape) (stop : Stop Shape) → q ts ≡ Err stop → r ts ≡ Err stop
stop_of {A} {B} f r q s ts stop e = go (r ts) refl (sym (s.at ts) ∙ e)
  where
    go : (o : Outcome Shape A) → r ts ≡ o → seen f o ≡ Err stop → r ts ≡ Err stop
    go (Ok x) is h = absurd cc
    go (Err other) is h = let a : other ≡ stop = cc in is ∙ ap (λ (t : Stop Shape). Err t) a

shrink : {A B : Type 0} (f : A → B) (r : Reader Shape A) (q : Reader Shape B) → Same f r q → Shrinks r → Shrinks q
shrink f r q s h ts x rest e = let t = tree_of f r q s ts x rest e in h ts t.tree rest t.read

pub item_tree : (ts : List Shape) (x : Item) (rest : List Shape) → valued_item_at ts ≡ Ok (x, rest) → Tree item_value item_at ts x rest
item_tree ts x rest e = tree_of item_value item_at valued_item_at items ts x rest e

pub item_stop : (ts : List Shape) (stop : Stop Shape) → valued_item_at ts ≡ Err stop → item_at ts ≡ Err stop
item_stop ts stop e = stop_of item_value item_at valued_item_at items ts stop e

pub statement_tree : (ts : List Shape) (x : Statement) (rest : List Shape) → valued_statement_at ts ≡ Ok (x, rest) → Tree statement_value statement_at ts x rest
statement_tree ts x rest e = tree_of statement_value statement_at valued_statement_at statements ts x rest e

-- what a tree's tokens are read as
pub statement_read : (ts : List Shape) (s : grammar.Statement) (rest : List Shape) → statement_at ts ≡ Ok (s, rest) → valued_statement_at ts ≡ Ok (statement_value s, rest)
statement_read ts s rest e = statements.at ts ∙ ap (seen statement_value) e

-- ---- each reader that a loop calls takes at least one token

pub terms_shrink : Shrinks (led same_shape comma valued_term_at)
terms_shrink = shrink term_value _ _ (behind term_value comma _ _ terms) tree_terms_shrink

pub literals_shrink : Shrinks (led same_shape comma valued_literal_at)
literals_shrink = shrink literal_value _ _ (behind literal_value comma _ _ literals) tree_literals_shrink

pub statements_shrink : Shrinks valued_statement_at
statements_shrink = shrink statement_value _ _ statements tree_statements_shrink

pub programs_shrink : Shrinks valued_program_at
programs_shrink = shrink program_value _ _ programs tree_programs_shrink
