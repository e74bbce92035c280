-- What is read where a test on the next token holds, and where it doesn't.
use Rattle.std.proofs.Common.{◌≡◌, ℕ, zero, suc, Bool, true, false, List, [], ◌∷◌, Option, Some, None, Ok, Err, refl, ap, ◌∙◌, inl, inr}
use Rattle.std.specs.Prelude.{cond}
use Rattle.lt_reading.specs.Reading.{Outcome, halt, not_allowed, too_full, close, token, Reader, ◌>>=◌, next_is, given, led, both, choice, maybe, past_comma, listed, some_of, trail}
use Rattle.lt_model.specs.declared.syntax.Op.TheVariants.{Eq}
use Rattle.lt_model.specs.declared.kind.Kind.{Kind}
use Rattle.lt_model.specs.Tokens.{Shape}
use Rattle.lt_model.specs.Grammar.{left_paren, where_word, semicolon, comma, arrow}
use Rattle.lt_grammar.specs.Tokens.{same_shape, minus, equals, not_word, insert_word, delete_word, replace_word, require_word, at_word, relation_word, batch_word}
use Rattle.lt_grammar.specs.Productions.{stands, is_word, is_number, name_at, quoted_at, op_at, other_op_at, plus_at, is_plus, is_at, relation_at, kind_at, starts_kind}
use Rattle.lt_script.specs.Valued.{valued_number_at, constant_of, valued_constant_at, term_of, valued_term_at, valued_terms_at, valued_equation_at, valued_rest_at, valued_head_at, literal_of, valued_literal_at, valued_body_at, where_of, valued_where_at, insert_of, delete_of, replace_of, require_of, print_of, valued_insert_at, valued_delete_at, valued_replace_at, valued_require_at, valued_print_at, form_of, valued_form_at, relation_of, batch_of, show_of, item_of, valued_item_at, valued_batch_at, valued_show_at}

pub constant_minus : (ts : List Shape) → stands minus ts ≡ true → valued_constant_at ts ≡ given constant_of (given (λ x. inl x) (led same_shape minus (valued_number_at true))) ts
unfolding valued_constant_at
constant_minus [] h = absurd cc
constant_minus (t ∷ ts) h = rw h refl

pub constant_number : (ts : List Shape) → stands minus ts ≡ false → next_is is_number ts ≡ true → valued_constant_at ts ≡ given constant_of (given (λ x. inr x) (given (λ x. inl x) (valued_number_at false))) ts
unfolding valued_constant_at
constant_number [] h k = absurd cc
constant_number (t ∷ ts) h k = rw (h, k) refl

pub constant_quoted : (ts : List Shape) → stands minus ts ≡ false → next_is is_number ts ≡ false → valued_constant_at ts ≡ given constant_of (given (λ x. inr x) (given (λ x. inr x) quoted_at)) ts
unfolding valued_constant_at
constant_quoted [] h k = refl
constant_quoted (t ∷ ts) h k = rw (h, k) refl

pub term_name : (ts : List Shape) → next_is is_word ts ≡ true → valued_term_at ts ≡ given term_of (given (λ x. inl x) name_at) ts
unfolding valued_term_at
term_name [] h = absurd cc
term_name (t ∷ ts) h = rw h refl

pub term_constant : (ts : List Shape) → next_is is_word ts ≡ false → valued_term_at ts ≡ given term_of (given (λ x. inr x) valued_constant_at) ts
unfolding valued_term_at valued_constant_at
term_constant [] h = refl
term_constant (t ∷ ts) h = rw h refl

pub op_equals : (ts : List Shape) → stands equals ts ≡ true → op_at ts ≡ given (λ x. Eq) (token same_shape equals) ts
unfolding op_at
op_equals [] h = absurd cc
op_equals (t ∷ ts) h = rw h refl

pub op_other : (ts : List Shape) → stands equals ts ≡ false → op_at ts ≡ other_op_at ts
unfolding op_at other_op_at
op_other [] h = refl
op_other (t ∷ ts) h = rw h refl

-- ---- equations: what stands behind the first term

pub equation_sum : (ts : List Shape) → next_is is_plus ts ≡ true → maybe is_plus (both plus_at valued_term_at) ts ≡ given (λ x. Some x) (both plus_at valued_term_at) ts
equation_sum [] h = absurd cc
equation_sum (t ∷ ts) h = rw h refl

pub equation_plain : (ts : List Shape) → next_is is_plus ts ≡ false → maybe is_plus (both plus_at valued_term_at) ts ≡ Ok (None, ts)
equation_plain [] h = refl
equation_plain (t ∷ ts) h = rw h refl

-- ---- what follows a name

pub rest_atom : (ts : List Shape) → stands left_paren ts ≡ true → valued_rest_at ts ≡ given (λ x. inl x) valued_terms_at ts
unfolding valued_rest_at
rest_atom [] h = absurd cc
rest_atom (t ∷ ts) h = rw h refl

pub rest_equation : (ts : List Shape) → stands left_paren ts ≡ false → stands equals ts ≡ true → valued_rest_at ts ≡ given (λ x. inr x) (given (λ x. inl x) valued_equation_at) ts
unfolding valued_rest_at
rest_equation [] h k = absurd cc
rest_equation (t ∷ ts) h k = rw (h, k) refl

pub rest_other : (ts : List Shape) → stands left_paren ts ≡ false → stands equals ts ≡ false → valued_rest_at ts ≡ given (λ x. inr x) (given (λ x. inr x) (both other_op_at valued_term_at)) ts
unfolding valued_rest_at other_op_at
rest_other [] h k = refl
rest_other (t ∷ ts) h k = rw (h, k) refl

-- ---- two steps in one

abbrev made : {A : Type 0} → A → List Shape → Outcome Shape A
made x ts = Ok (x, ts)

again : {A B C : Type 0} (f : A → B) (g : B → C) (r : Reader Shape A) (ts : List Shape) → given g (given f r) ts ≡ given (λ x. g (f x)) r ts
again f g r ts = go f g (r ts)
  where
    go : {A B C : Type 0} (f : A → B) (g : B → C) (o : Outcome Shape A) → ((o >>= λ x. made (f x.0) x.1) >>= λ y. made (g y.0) y.1) ≡ (o >>= λ x. made (g (f x.0)) x.1)
    go f g (Ok x) = refl
    go f g (Err e) = refl

-- ---- literals

pub literal_absent : (ts : List Shape) → stands not_word ts ≡ true → valued_literal_at ts ≡ given (λ x. literal_of (inl x)) (led same_shape not_word valued_head_at) ts
unfolding valued_literal_at
literal_absent [] h = absurd cc
literal_absent (t ∷ ts) h =
    ap (λ b. cond b (given (λ x. inl x) (led same_shape not_word valued_head_at) (t ∷ ts)) (given (λ x. inr x) (choice is_word (both name_at valued_rest_at) (both valued_constant_at (both op_at valued_term_at))) (t ∷ ts)) >>= λ x. Ok (literal_of x.0, x.1)) h
    ∙ again (λ x. inl x) literal_of (led same_shape not_word valued_head_at) (t ∷ ts)

pub literal_named : (ts : List Shape) → stands not_word ts ≡ false → next_is is_word ts ≡ true → valued_literal_at ts ≡ given (λ x. literal_of (inr x)) (given (λ x. inl x) (both name_at valued_rest_at)) ts
unfolding valued_literal_at
literal_named [] k h = absurd cc
literal_named (t ∷ ts) k h = rw (k, h) (again (λ x. inr x) literal_of (given (λ x. inl x) (both name_at valued_rest_at)) (t ∷ ts))

pub literal_constant : (ts : List Shape) → stands not_word ts ≡ false → next_is is_word ts ≡ false → valued_literal_at ts ≡ given (λ x. literal_of (inr x)) (given (λ x. inr x) (both valued_constant_at (both op_at valued_term_at))) ts
unfolding valued_literal_at valued_constant_at
literal_constant [] k h = refl
literal_constant (t ∷ ts) k h = rw (k, h) (again (λ x. inr x) literal_of (given (λ x. inr x) (both valued_constant_at (both op_at valued_term_at))) (t ∷ ts))

-- ---- `where` parts

pub where_some : (ts : List Shape) → stands where_word ts ≡ true → valued_where_at ts ≡ given where_of (given (λ x. Some x) (led same_shape where_word valued_body_at)) ts
unfolding valued_where_at
where_some [] h = absurd cc
where_some (t ∷ ts) h = rw h refl

pub where_none : (ts : List Shape) → stands where_word ts ≡ false → valued_where_at ts ≡ Ok ([], ts)
unfolding valued_where_at
where_none [] h = refl
where_none (t ∷ ts) h = rw h refl

-- ---- statements up to their semicolon

pub form_insert : (ts : List Shape) → stands insert_word ts ≡ true → valued_form_at ts ≡ given insert_of valued_insert_at ts
unfolding valued_form_at
form_insert [] h0 = absurd cc
form_insert (t ∷ ts) h0 = rw (h0) (again (λ x. inl x) form_of valued_insert_at (t ∷ ts))

pub form_delete : (ts : List Shape) → stands insert_word ts ≡ false → stands delete_word ts ≡ true → valued_form_at ts ≡ given delete_of valued_delete_at ts
unfolding valued_form_at
form_delete [] h0 h1 = absurd cc
form_delete (t ∷ ts) h0 h1 = rw (h0, h1) (again (λ x. inr x) form_of (given (λ x. inl x) valued_delete_at) (t ∷ ts) ∙ again (λ x. inl x) (λ x. form_of (inr x)) valued_delete_at (t ∷ ts))

pub form_replace : (ts : List Shape) → stands insert_word ts ≡ false → stands delete_word ts ≡ false → stands replace_word ts ≡ true → valued_form_at ts ≡ given replace_of valued_replace_at ts
unfolding valued_form_at
form_replace [] h0 h1 h2 = absurd cc
form_replace (t ∷ ts) h0 h1 h2 = rw (h0, h1, h2) (again (λ x. inr x) form_of (given (λ x. inr x) (given (λ x. inl x) valued_replace_at)) (t ∷ ts) ∙ again (λ x. inr x) (λ x. form_of (inr x)) (given (λ x. inl x) valued_replace_at) (t ∷ ts) ∙ again (λ x. inl x) (λ x. form_of (inr (inr x))) valued_replace_at (t ∷ ts))

pub form_require : (ts : List Shape) → stands insert_word ts ≡ false → stands delete_word ts ≡ false → stands replace_word ts ≡ false → stands require_word ts ≡ true → valued_form_at ts ≡ given require_of valued_require_at ts
unfolding valued_form_at
form_require [] h0 h1 h2 h3 = absurd cc
form_require (t ∷ ts) h0 h1 h2 h3 = rw (h0, h1, h2, h3) (again (λ x. inr x) form_of (given (λ x. inr x) (given (λ x. inr x) (given (λ x. inl x) valued_require_at))) (t ∷ ts) ∙ again (λ x. inr x) (λ x. form_of (inr x)) (given (λ x. inr x) (given (λ x. inl x) valued_require_at)) (t ∷ ts) ∙ again (λ x. inr x) (λ x. form_of (inr (inr x))) (given (λ x. inl x) valued_require_at) (t ∷ ts) ∙ again (λ x. inl x) (λ x. form_of (inr (inr (inr x)))) valued_require_at (t ∷ ts))

pub form_print : (ts : List Shape) → stands insert_word ts ≡ false → stands delete_word ts ≡ false → stands replace_word ts ≡ false → stands require_word ts ≡ false → valued_form_at ts ≡ given print_of valued_print_at ts
unfolding valued_form_at valued_print_at
form_print [] h0 h1 h2 h3 = refl
form_print (t ∷ ts) h0 h1 h2 h3 = rw (h0, h1, h2, h3) (again (λ x. inr x) form_of (given (λ x. inr x) (given (λ x. inr x) (given (λ x. inr x) valued_print_at))) (t ∷ ts) ∙ again (λ x. inr x) (λ x. form_of (inr x)) (given (λ x. inr x) (given (λ x. inr x) valued_print_at)) (t ∷ ts) ∙ again (λ x. inr x) (λ x. form_of (inr (inr x))) (given (λ x. inr x) valued_print_at) (t ∷ ts) ∙ again (λ x. inr x) (λ x. form_of (inr (inr (inr x)))) valued_print_at (t ∷ ts))

-- ---- the semicolon that ends a statement

pub close_refuses : {A : Type 0} (w : Bool) (x : A) (ts : List Shape) → stands semicolon ts ≡ false → close (λ t. same_shape t semicolon) w x ts ≡ halt ts not_allowed
close_refuses w x [] h = refl
close_refuses w x (t ∷ ts) h = rw h refl

pub close_full : {A : Type 0} (w : Bool) (x : A) (ts : List Shape) → w ≡ false → stands semicolon ts ≡ true → close (λ t. same_shape t semicolon) w x ts ≡ halt ts too_full
close_full w x [] h k = absurd cc
close_full w x (t ∷ ts) h k = rw (h, k) refl

pub close_ends : {A : Type 0} (w : Bool) (x : A) (ts : List Shape) → w ≡ true → stands semicolon ts ≡ true → close (λ t. same_shape t semicolon) w x ts ≡ given (λ y. x) (token same_shape semicolon) ts
close_ends w x [] h k = absurd cc
close_ends w x (t ∷ ts) h k = rw (h, k) refl

-- ---- versions

pub version_some : (ts : List Shape) → stands at_word ts ≡ true → maybe is_at (led same_shape at_word (valued_number_at false)) ts ≡ given (λ x. Some x) (led same_shape at_word (valued_number_at false)) ts
version_some [] h = absurd cc
version_some (t ∷ ts) h = rw h refl

pub version_none : (ts : List Shape) → stands at_word ts ≡ false → maybe is_at (led same_shape at_word (valued_number_at false)) ts ≡ Ok (None, ts)
version_none [] h = refl
version_none (t ∷ ts) h = rw h refl

-- ---- items

pub item_relation : (ts : List Shape) → stands relation_word ts ≡ true → valued_item_at ts ≡ given relation_of relation_at ts
unfolding valued_item_at
item_relation [] h = absurd cc
item_relation (t ∷ ts) h = rw h (again (λ x. inl x) item_of relation_at (t ∷ ts))

pub item_batch : (ts : List Shape) → stands relation_word ts ≡ false → stands batch_word ts ≡ true → valued_item_at ts ≡ given batch_of valued_batch_at ts
unfolding valued_item_at
item_batch [] h k = absurd cc
item_batch (t ∷ ts) h k = rw (h, k) (again (λ x. inr x) item_of (given (λ x. inl x) valued_batch_at) (t ∷ ts) ∙ again (λ x. inl x) (λ x. item_of (inr x)) valued_batch_at (t ∷ ts))

pub item_show : (ts : List Shape) → stands relation_word ts ≡ false → stands batch_word ts ≡ false → valued_item_at ts ≡ given show_of valued_show_at ts
unfolding valued_item_at valued_show_at
item_show [] h k = refl
item_show (t ∷ ts) h k = rw (h, k) (again (λ x. inr x) item_of (given (λ x. inr x) valued_show_at) (t ∷ ts) ∙ again (λ x. inr x) (λ x. item_of (inr x)) valued_show_at (t ∷ ts))

-- ---- value columns

pub trail_none : (room : ℕ) (ts : List Shape) → stands arrow ts ≡ false → trail same_shape arrow comma starts_kind kind_at room ts ≡ Ok ([], ts)
trail_none zero [] h = refl
trail_none zero (t ∷ ts) h = rw h refl
trail_none (suc room) [] h = refl
trail_none (suc room) (t ∷ ts) h = rw h refl

pub trail_full : (ts : List Shape) → stands arrow ts ≡ true → trail same_shape arrow comma starts_kind kind_at 0 ts ≡ Err (past_comma starts_kind ts)
trail_full [] h = absurd cc
trail_full (t ∷ ts) h = rw h refl

pub trail_some : (room : ℕ) (ts : List Shape) → stands arrow ts ≡ true → trail same_shape arrow comma starts_kind kind_at (suc room) ts ≡ given (λ x. x.0 ∷ x.1) (led same_shape arrow (listed same_shape comma starts_kind kind_at room)) ts
trail_some room [] h = absurd cc
trail_some room (t ∷ ts) h =
    let behind : Outcome Shape (Option (Kind × List Kind)) = given (λ x. Some x) (led same_shape arrow (listed same_shape comma starts_kind kind_at room)) (t ∷ ts) in
    let left : Outcome Shape (Option (Kind × List Kind)) = made None (t ∷ ts) in
    ap (λ b. cond b behind left >>= λ x. made (some_of x.0) x.1) h ∙ again (λ x. Some x) some_of (led same_shape arrow (listed same_shape comma starts_kind kind_at room)) (t ∷ ts)
