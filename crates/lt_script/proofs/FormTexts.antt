-- What a text of a form is read as: the form's statement with the text's constants.
use Rattle.std.proofs.Common.{◌≡◌, ◌≢◌, ℕ, zero, suc, ◌+◌, List, [], ◌∷◌, ◌++◌, take, drop, Option, Some, None, Ok, refl, sym, ap, subst, ◌∙◌, append_assoc}
use Rattle.std.proofs.lemmas.List.{append-nil}
use Rattle.lt_model.specs.declared.syntax.Statement.{Statement}
use Rattle.lt_model.specs.Alike.{Alike, plain, read_cells}
use Rattle.lt_model.specs.Forms.{filled, cells_of, numbered, IsFormOf}
use Rattle.lt_model.specs.Grammar.{formed, legal, SpellsForm}
use Rattle.lt_model.specs.Script as script
use Rattle.lt_model.specs.Tokens.{Shape, Token, Read, finished, tokens, tokens_at}
use Rattle.lt_model.proofs.Alike.{alike_tokens}
use Rattle.lt_model.proofs.Filled.{forms_fill}
use Rattle.lt_model.proofs.Numbers.{numbers_within}
use Rattle.lt_model.proofs.Told.{tokens_tell_cells}
use Rattle.lt_script.specs.declared.slots.Blank.{Blank}
use Rattle.lt_script.specs.declared.slots.Blank.TheVariants.{Number, Symbol}
use Rattle.lt_script.specs.declared.slots.Slot.{Slot}
use Rattle.lt_script.specs.Forms.{HasForm, IsRead, IsKnown}
use Rattle.lt_script.specs.Pieces.{Passes}
use Rattle.lt_script.specs.Placed.{Closes, Divides, IsDivided, ArePlacedFrom, ArePlaced}
use Rattle.lt_script.specs.Valued.{valued_statement_at}
use Rattle.lt_script.proofs.Counted.{constants_few}
use Rattle.lt_script.proofs.Good.{AreGood, tokens_good}
use Rattle.lt_script.proofs.Lexing.{lexed_alike, divides_once}
use Rattle.lt_script.proofs.Trees.{HasTree, read_has_tree, spelled_has_tree, tree_is_spelled, tree_is_formed, tree_is_read, tree_begins, tree_is_within}

-- ---- the text of which a form is made

tree_of_read : (text : List ℕ) (lines : ℕ) (s : Statement) → (r : IsRead text lines s) → HasTree s r.tokens
tree_of_read text lines s r = read_has_tree s r.tokens (subst (λ (ts : List Shape). valued_statement_at ts ≡ Ok (s, [])) (append-nil r.tokens) (r.reads []))

abbrev ended_on : ℕ → List Token → Read
ended_on line ts = (ts, finished line)

-- a text's own tokens
divided : (text : List ℕ) (lines : ℕ) (us : List Shape) → Divides text lines us → (ts : List Token) × (tokens text ≡ ended_on (1 + lines) ts) × (script.shapes ts ≡ us)
unfolding Passes
divided text lines us divides = go (divides 1)
  where
    go : (ts : List Token) × Passes 1 text ts (1 + lines) [] × (script.shapes ts ≡ us) → (ts : List Token) × (tokens text ≡ ended_on (1 + lines) ts) × (script.shapes ts ≡ us)
    go (ts, passes, are) = (ts, ap (tokens_at 1) (sym (append-nil text)) ∙ (passes [] tt ∙ ap (ended_on (1 + lines)) (append-nil ts)), are)

pub form_of_read : (text : List ℕ) (lines : ℕ) (s : Statement) → IsRead text lines s → IsFormOf text (numbered s)
form_of_read text lines s r =
    let tree = tree_of_read text lines s r in
    let d = divided text lines r.tokens r.divides in
    let good : AreGood r.tokens = subst AreGood (ap (λ (read : Read). script.shapes read.0) d.1 ∙ d.2) (tokens_good 1 text) in
    let within = tree_is_within s r.tokens tree good in
    record {
      whole = s;
      ts = d.0;
      line = 1 + lines;
      divides = d.1;
      spells = subst (SpellsForm formed s) (sym d.2) (tree_is_formed s r.tokens tree);
      is = refl;
      within = numbers_within s within (constants_few s within);
    }

-- ---- tokens that are a statement's but for constants

alike_has_tree : (s : Statement) (ts us : List Shape) (cells : List ℕ) → HasTree s ts → Alike legal ts us → read_cells plain us ≡ cells → HasTree (filled (numbered s) cells) us
alike_has_tree s ts us cells tree alike told =
    let other = alike_tokens legal s ts us (tree_is_spelled s ts tree) alike in
    let own : read_cells plain us ≡ cells_of other.0 = tokens_tell_cells legal other.0 us other.1.1 in
    let same : filled (numbered s) cells ≡ other.0 = ap (λ (x : Statement). filled x cells) (sym other.2) ∙ (ap (λ (cs : List ℕ). filled (numbered other.0) cs) (sym told ∙ own) ∙ forms_fill other.0) in
    subst (λ (x : Statement). HasTree x us) (sym same) (spelled_has_tree other.0 us other.1)

-- ---- a semicolon stands last in each text of a form

abbrev EndsSo : List ℕ → Type 0
EndsSo bytes = (front : List ℕ) × (bytes ≡ front ++ 59 ∷ [])

tail_ends : (x y : ℕ) (text : List ℕ) → EndsSo (x ∷ (y ∷ text)) → EndsSo (y ∷ text)
tail_ends x y text ([], is) = absurd cc
tail_ends x y text (z ∷ front, is) = (front, cc)

drop_ends : (n : ℕ) (text : List ℕ) → EndsSo text → drop n text ≢ [] → EndsSo (drop n text)
drop_ends zero text ends some = ends
drop_ends (suc n) [] ends some = absurd (some refl)
drop_ends (suc zero) (x ∷ []) ends some = absurd (some refl)
drop_ends (suc (suc n)) (x ∷ []) ends some = absurd (some refl)
drop_ends (suc n) (x ∷ (y ∷ text)) ends some = drop_ends n (y ∷ text) (tail_ends x y text ends) some

joined_ends : (front bytes : List ℕ) → EndsSo bytes → EndsSo (front ++ bytes)
joined_ends front bytes (others, is) = (front ++ others, ap (λ (us : List ℕ). front ++ us) is ∙ sym (append_assoc front others (59 ∷ [])))

-- something closes a constant
closes_by_some : (blank : Blank) (bytes left : List ℕ) → Closes blank bytes left → bytes ≢ []
closes_by_some (Number minus) [] [] h none = absurd h.1
closes_by_some (Number minus) [] (x ∷ left) h none = let e = h.0 in absurd cc
closes_by_some (Number minus) (b ∷ bytes) left h none = absurd cc
closes_by_some Symbol bytes left h none = absurd cc

none_of_none : (n : ℕ) (text : List ℕ) → text ≡ [] → take n text ≡ []
none_of_none zero text e = refl
none_of_none (suc n) text e = ap (λ (us : List ℕ). take (suc n) us) e

some_behind : (blank : Blank) (slots : List Slot) (text : List ℕ) (lines : ℕ) → ArePlacedFrom (Some blank) slots text lines → text ≢ []
some_behind blank [] text lines placed = closes_by_some blank text placed.0 placed.2
some_behind blank (slot ∷ slots) text lines placed = λ none. closes_by_some blank (take slot.before text) placed.3.chunk placed.3.closes (none_of_none slot.before text none)

texts_end : (last : Option Blank) (slots : List Slot) (text bytes cells : List ℕ) (lines : ℕ) → ArePlacedFrom last slots text lines → HasForm slots text bytes cells → EndsSo text → EndsSo bytes
texts_end last [] text bytes cells lines placed fits ends = subst EndsSo (sym fits.0) ends
texts_end last (slot ∷ slots) text bytes [] lines placed fits ends = absurd fits
texts_end last (slot ∷ slots) text bytes (cell ∷ cells) lines placed (constant, after, is, written, more) ends =
    let n : ℕ = slot.before + slot.len in
    let rest : EndsSo (drop n text) = drop_ends n text ends (some_behind slot.blank slots (drop n text) placed.1 placed.4) in
    let behind : EndsSo after = texts_end (Some slot.blank) slots (drop n text) after cells placed.1 placed.4 more rest in
    subst EndsSo (sym is) (joined_ends (take slot.before text) (constant ++ after) (joined_ends constant after behind))

-- ---- each text of a form

pub known_by : (text : List ℕ) (slots : List Slot) (lines : ℕ) (s : Statement) → IsRead text lines s → ArePlaced slots text → IsKnown (text, numbered s) slots lines
known_by text slots lines s r placed = λ bytes cells fits. go bytes cells fits (lexed_alike slots text placed)
  where
    go : (bytes cells : List ℕ) → HasForm slots text bytes cells
        → (others : ℕ) × (ts : List Shape) × Divides text others ts × ((bytes cells : List ℕ) → HasForm slots text bytes cells → (us : List Shape) × Divides bytes others us × Alike legal ts us × (read_cells plain us ≡ cells))
        → IsRead bytes lines (filled (numbered s) cells)
    go bytes cells fits (others, ts, divides, each) =
        let same = divides_once text others lines ts r.tokens divides r.divides in
        let x = each bytes cells fits in
        let tree = alike_has_tree s r.tokens x.0 cells (tree_of_read text lines s r) (subst (λ (us : List Shape). Alike legal us x.0) same.1 x.2) x.3 in
        record {
          tokens = x.0;
          divides = subst (λ (n : ℕ). Divides bytes n x.0) same.0 x.1;
          begins = tree_begins (filled (numbered s) cells) x.0 tree;
          reads = tree_is_read (filled (numbered s) cells) x.0 tree;
          ends = texts_end None slots text bytes cells placed.0 placed.1 fits r.ends;
        }

-- ---- what is learned of a text

pub divided_by : (text : List ℕ) (lines : ℕ) (s : Statement) → IsRead text lines s → IsDivided text
divided_by text lines s r = (lines, r.tokens, r.divides, r.ends)

pub known_as : (form : List ℕ × Statement) (text : List ℕ) (slots : List Slot) (lines : ℕ) (s : Statement) → IsRead text lines s → ArePlaced slots text → form.0 ≡ text → form.1 ≡ numbered s → IsKnown form slots lines
known_as form text slots lines s r placed same is = λ bytes cells fits.
    subst (λ (x : Statement). IsRead bytes lines (filled x cells)) (sym is) (known_by text slots lines s r placed bytes cells (subst (λ (us : List ℕ). HasForm slots us bytes cells) same fits))

pub fills_again : (s form : Statement) (cells : List ℕ) → form ≡ numbered s → cells ≡ cells_of s → filled form cells ≡ s
fills_again s form cells is own = ap (λ (x : Statement). filled x cells) is ∙ (ap (filled (numbered s)) own ∙ forms_fill s)
