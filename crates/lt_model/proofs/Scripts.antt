-- Scripts of worked examples: their bytes are these items, and then the end.
use Rattle.std.proofs.Common.{◌≡◌, ℕ, true, List, [], refl, sym, ap, subst}
use Rattle.std.specs.Prelude.{codes}
use Rattle.std.specs.Fmt.{digits}
use Rattle.std.specs.List.{list_all}
use Rattle.lt_model.specs.declared.syntax.Item.{Item}
use Rattle.lt_model.specs.Tokens.{Shape, Ending, finished, tokens}
use Rattle.lt_model.specs.Grammar.{legal, Derives}
use Rattle.lt_model.specs.Script.{Script, ended, End, shapes}
use Rattle.lt_model.proofs.Spelling.{script_tokens, can_item, spell_items}
use Rattle.lt_model.proofs.Samples as s

-- the tokens of the text are the items' spelling
pub whole : (text : List ℕ) (line : ℕ) (items : List Item) → (tokens text).1 ≡ finished line → shapes (tokens text).0 ≡ script_tokens items → list_all (can_item legal) items ≡ true → Script text items End
whole text line items end same can =
    ended (tokens text).0 line items (ap (λ (e : Ending). ((tokens text).0, e)) end) (subst (λ (ts : List Shape). Derives legal ts items) (sym same) (spell_items legal items can))

nothing : Script [] [] End
nothing = whole [] 1 [] refl refl refl

empty_batch : Script (codes "relation r(int); batch commit; show r;") s.empty_batch End
unfolding digits
empty_batch = whole (codes "relation r(int); batch commit; show r;") 1 s.empty_batch refl refl refl

pub two_inserts : Script (codes "relation r(int); batch program p insert r(2); insert r(1); end; commit; show r;") s.two_inserts End
unfolding digits
two_inserts = whole (codes "relation r(int); batch program p insert r(2); insert r(1); end; commit; show r;") 1 s.two_inserts refl refl refl

three_buyers : Script (codes "relation stock(int,int); batch program l insert stock(1,2); end; commit;\nbatch\nprogram a require some stock(1,n), n > 0; replace stock(1,n) by stock(1,m) where stock(1,n), m = n - 1; end;\nprogram b require some stock(1,n), n > 0; replace stock(1,n) by stock(1,m) where stock(1,n), m = n - 1; end;\nprogram c require some stock(1,n), n > 0; replace stock(1,n) by stock(1,m) where stock(1,n), m = n - 1; end;\ncommit; show stock;") s.three_buyers End
unfolding digits
three_buyers = whole (codes "relation stock(int,int); batch program l insert stock(1,2); end; commit;\nbatch\nprogram a require some stock(1,n), n > 0; replace stock(1,n) by stock(1,m) where stock(1,n), m = n - 1; end;\nprogram b require some stock(1,n), n > 0; replace stock(1,n) by stock(1,m) where stock(1,n), m = n - 1; end;\nprogram c require some stock(1,n), n > 0; replace stock(1,n) by stock(1,m) where stock(1,n), m = n - 1; end;\ncommit; show stock;") 6 s.three_buyers refl refl refl

delete_then_insert : Script (codes "relation r(int); batch program l insert r(1); end; commit; batch program p1 delete r(1); end; program p2 insert r(1); end; commit; show r;") s.delete_then_insert End
unfolding digits
delete_then_insert = whole (codes "relation r(int); batch program l insert r(1); end; commit; batch program p1 delete r(1); end; program p2 insert r(1); end; commit; show r;") 1 s.delete_then_insert refl refl refl

insert_then_require : Script (codes "relation flag(int); batch program p1 insert flag(1); end; program p2 require some flag(x); end; commit;") s.insert_then_require End
unfolding digits
insert_then_require = whole (codes "relation flag(int); batch program p1 insert flag(1); end; program p2 require some flag(x); end; commit;") 1 s.insert_then_require refl refl refl

phantom : Script (codes "relation r(int); batch program l insert r(1); insert r(9); end; commit; batch program p1 insert r(5); end; program p2 print (x) where r(x), x > 3; end; commit;") s.phantom End
unfolding digits
phantom = whole (codes "relation r(int); batch program l insert r(1); insert r(9); end; commit; batch program p1 insert r(5); end; program p2 print (x) where r(x), x > 3; end; commit;") 1 s.phantom refl refl refl

pinned : Script (codes "relation r(int); batch program l insert r(1); insert r(9); end; commit; batch program p1 insert r(20); end; program p2 print (x) where r(x), x = 1; end; commit;") s.pinned End
unfolding digits
pinned = whole (codes "relation r(int); batch program l insert r(1); insert r(9); end; commit; batch program p1 insert r(20); end; program p2 print (x) where r(x), x = 1; end; commit;") 1 s.pinned refl refl refl

triangle : Script (codes "relation e(int,int); batch program l insert e(1,2); insert e(2,3); insert e(1,3); end; commit; batch program p print (a,b,c) where e(a,b), e(b,c), e(a,c); end; commit;") s.triangle End
unfolding digits
triangle = whole (codes "relation e(int,int); batch program l insert e(1,2); insert e(2,3); insert e(1,3); end; commit; batch program p print (a,b,c) where e(a,b), e(b,c), e(a,c); end; commit;") 1 s.triangle refl refl refl

loops : Script (codes "relation e(int,int); batch program l insert e(1,1); insert e(1,2); end; commit; batch program p print (x) where e(x,x); end; commit;") s.loops End
unfolding digits
loops = whole (codes "relation e(int,int); batch program l insert e(1,1); insert e(1,2); end; commit; batch program p print (x) where e(x,x); end; commit;") 1 s.loops refl refl refl

past_the_range : Script (codes "relation r(int); batch program l insert r(9223372036854775807); end; commit; relation s(int); batch program p insert s(m) where r(n), m = n + 1; end; commit; show s;") s.past_the_range End
unfolding digits
past_the_range = whole (codes "relation r(int); batch program l insert r(9223372036854775807); end; commit; relation s(int); batch program p insert s(m) where r(n), m = n + 1; end; commit; show s;") 1 s.past_the_range refl refl refl

least_int : Script (codes "relation r(int); batch program p insert r(-9223372036854775808); end; commit; show r;") s.least_int End
unfolding digits
least_int = whole (codes "relation r(int); batch program p insert r(-9223372036854775808); end; commit; show r;") 1 s.least_int refl refl refl

replace_by_itself : Script (codes "relation r(int); batch program l insert r(4); end; commit; batch program p replace r(x) by r(x) where r(x); end; commit; show r;") s.replace_by_itself End
unfolding digits
replace_by_itself = whole (codes "relation r(int); batch program l insert r(4); end; commit; batch program p replace r(x) by r(x) where r(x); end; commit; show r;") 1 s.replace_by_itself refl refl refl

without_repeats : Script (codes "relation e(int,int); batch program l insert e(1,7); insert e(2,7); end; commit; batch program p print (y) where e(x,y); end; commit;") s.without_repeats End
unfolding digits
without_repeats = whole (codes "relation e(int,int); batch program l insert e(1,7); insert e(2,7); end; commit; batch program p print (y) where e(x,y); end; commit;") 1 s.without_repeats refl refl refl

unbound : Script (codes "relation r(int); batch program p insert r(z) where r(x); end; program q insert r(1); end; commit;") s.unbound End
unfolding digits
unbound = whole (codes "relation r(int); batch program p insert r(z) where r(x); end; program q insert r(1); end; commit;") 1 s.unbound refl refl refl

symbol15 : Script (codes "relation s(sym); batch program p insert s('abcdefghijklmno'); end; commit; show s;") s.symbol15 End
unfolding digits
symbol15 = whole (codes "relation s(sym); batch program p insert s('abcdefghijklmno'); end; commit; show s;") 1 s.symbol15 refl refl refl

codes_of_items : Script (codes "show x; relation r(int); relation r(sym); show r at 1; show r at 0;") s.codes_of_items End
unfolding digits
codes_of_items = whole (codes "show x; relation r(int); relation r(sym); show r at 1; show r at 0;") 1 s.codes_of_items refl refl refl

codes_of_programs : Script (codes "relation r(int); batch program a insert t(1); end; program b insert r(1,2); end; program c insert r('x'); end; commit;") s.codes_of_programs End
unfolding digits
codes_of_programs = whole (codes "relation r(int); batch program a insert t(1); end; program b insert r(1,2); end; program c insert r('x'); end; commit;") 1 s.codes_of_programs refl refl refl

older_version : Script (codes "relation r(int); batch program p insert r(2); insert r(1); end; commit; show r; batch program q delete r(1); end; commit; show r at 1; show r;") s.older_version End
unfolding digits
older_version = whole (codes "relation r(int); batch program p insert r(2); insert r(1); end; commit; show r; batch program q delete r(1); end; commit; show r at 1; show r;") 1 s.older_version refl refl refl

refused : Script (codes "relation r(int); batch program l insert r(1); end; commit; batch program p insert r(2); require none r(2); insert r(3); end; commit; show r;") s.refused End
unfolding digits
refused = whole (codes "relation r(int); batch program l insert r(1); end; commit; batch program p insert r(2); require none r(2); insert r(3); end; commit; show r;") 1 s.refused refl refl refl

negated : Script (codes "relation r(int); relation s(int); batch program l insert r(1); insert r(2); insert s(2); end; commit; batch program q print (x) where r(x), not s(x); end; commit;") s.negated End
unfolding digits
negated = whole (codes "relation r(int); relation s(int); batch program l insert r(1); insert r(2); insert s(2); end; commit; batch program q print (x) where r(x), not s(x); end; commit;") 1 s.negated refl refl refl

negated_after_delete : Script (codes "relation r(int); relation s(int); batch program l insert r(1); insert r(2); insert s(2); end; commit; batch program p delete s(2); end; program q print (x) where r(x), not s(x); end; commit;") s.negated_after_delete End
unfolding digits
negated_after_delete = whole (codes "relation r(int); relation s(int); batch program l insert r(1); insert r(2); insert s(2); end; commit; batch program p delete s(2); end; program q print (x) where r(x), not s(x); end; commit;") 1 s.negated_after_delete refl refl refl

negated_after_insert : Script (codes "relation r(int); relation s(int); batch program l insert r(1); insert r(2); insert s(2); end; commit; batch program p insert s(1); end; program q print (x) where r(x), not s(x); end; commit;") s.negated_after_insert End
unfolding digits
negated_after_insert = whole (codes "relation r(int); relation s(int); batch program l insert r(1); insert r(2); insert s(2); end; commit; batch program p insert s(1); end; program q print (x) where r(x), not s(x); end; commit;") 1 s.negated_after_insert refl refl refl

negated_alone : Script (codes "relation r(int); relation s(int); batch program l insert r(1); insert r(2); insert s(2); end; commit; batch program p print (x) where not r(x); end; commit;") s.negated_alone End
unfolding digits
negated_alone = whole (codes "relation r(int); relation s(int); batch program l insert r(1); insert r(2); insert s(2); end; commit; batch program p print (x) where not r(x); end; commit;") 1 s.negated_alone refl refl refl

no_seven : Script (codes "relation r(int); relation s(int); batch program l insert r(1); insert r(2); insert s(2); end; commit; batch program p require some not s(7); end; commit;") s.no_seven End
unfolding digits
no_seven = whole (codes "relation r(int); relation s(int); batch program l insert r(1); insert r(2); insert s(2); end; commit; batch program p require some not s(7); end; commit;") 1 s.no_seven refl refl refl

one_for_a_key : Script (codes "relation f(int -> int); batch program p insert f(1,5); insert f(1,6); end; commit; show f;") s.one_for_a_key End
unfolding digits
one_for_a_key = whole (codes "relation f(int -> int); batch program p insert f(1,5); insert f(1,6); end; commit; show f;") 1 s.one_for_a_key refl refl refl

clash : Script (codes "relation e(int,int); relation f(int -> int); batch program l insert e(1,2); insert e(1,3); end; commit; batch program p insert f(x,y) where e(x,y); end; commit;") s.clash End
unfolding digits
clash = whole (codes "relation e(int,int); relation f(int -> int); batch program l insert e(1,2); insert e(1,3); end; commit; batch program p insert f(x,y) where e(x,y); end; commit;") 1 s.clash refl refl refl

one_after_another : Script (codes "relation f(int->int); batch program l insert f(1,5); end; commit; batch program p1 insert f(1,6); end; program p2 insert f(1,7); end; commit; show f;") s.one_after_another End
unfolding digits
one_after_another = whole (codes "relation f(int->int); batch program l insert f(1,5); end; commit; batch program p1 insert f(1,6); end; program p2 insert f(1,7); end; commit; show f;") 1 s.one_after_another refl refl refl
