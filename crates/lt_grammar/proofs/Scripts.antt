-- Items are read exactly, and where their reader stops is known.
use Rattle.std.proofs.Common.{◌≡◌, ℕ, ◌+◌, ◌-◌, Bool, true, false, List, [], ◌∷◌, ◌++◌, length, Option, Some, None, Err, refl, sym as turned, ap, inl, inr, ◌⊎◌, arith}
use Rattle.std.specs.List.{flat_map, AllByRecursion}
use Rattle.lt_reading.specs.Reading.{Stop, in_table, both, led, ended, between, choice, maybe, many, at_once}
use Rattle.lt_reading.specs.Language.{Level, formed, few, fine, full, AtMost, Language, none}
use Rattle.lt_reading.proofs.Exact.{Reads, Begins}
use Rattle.lt_reading.proofs.OneToken.{Plain, table_reads}
use Rattle.lt_reading.proofs.Sequence.{Both, loose_reads}
use Rattle.lt_reading.proofs.Meaning.{given_reads}
use Rattle.lt_reading.proofs.Marked.{Led, Ended, Between, led_reads, ended_reads, between_reads}
use Rattle.lt_reading.proofs.Choice.{Choice, choice_reads}
use Rattle.lt_reading.proofs.Optional.{Maybe, maybe_reads}
use Rattle.lt_reading.proofs.Repeat.{Many, ending_free}
use Rattle.lt_reading.proofs.Listed.{Started, several_reads}
use Rattle.lt_reading.proofs.Trail.{Trailed, trailed_reads, trailed_free}
use Rattle.lt_reading.proofs.Scripts as scripts
use Rattle.lt_model.specs.Tokens.{Shape, word}
use Rattle.lt_model.specs.Grammar.{semicolon, arrow, left_paren, right_paren}
use Rattle.lt_grammar.specs.Tokens.{Text, same_shape, relation_word, batch_word, commit_word, show_word, at_word, int_word, sym_word}
use Rattle.lt_model.specs.declared.kind.Kind.{Kind}
use Rattle.lt_model.specs.declared.kind.Kind.TheVariants.{Int, Sym}
use Rattle.lt_grammar.specs.Grammar.{Program, Item, relation, batch, show, IsItem, only, in_parens, kind_token, columns_tokens, program_tokens, at_tokens, item_tokens, Items, script_marks}
use Rattle.lt_grammar.specs.Productions.{name_at, number_at, program_at, is_program, kind_table, kind_at, starts_kind, columns_at, relation_at, batch_at, is_at, show_at, is_relation, is_batch, item_of, item_at}
use Rattle.lt_grammar.proofs.Shapes.{marks, blamed, same_shape_is}
use Rattle.lt_grammar.proofs.Terms.{Names, names_read, Numbers, numbers_read}
use Rattle.lt_grammar.proofs.Programs.{or_true, Programs, programs_read, programs_begin, programs_start}

-- ---- kinds

abbrev pub Kinds : Language Shape Kind
Kinds = Plain kind_token (λ x. Unit {0})

kind_in_table : (x : Kind) → Unit {0} → in_table same_shape kind_table (kind_token x) ≡ Some x
kind_in_table Int h = refl
kind_in_table Sym h = refl

pub kinds_read : Reads marks Kinds kind_at
unfolding kind_at
kinds_read = table_reads marks kind_token (λ x. Unit {0}) kind_table ((refl, tt), ((refl, tt), tt)) kind_in_table Int tt

kinds_begin : Begins starts_kind true Kinds
kinds_begin Int h = refl
kinds_begin Sym h = refl

kinds_start : Started starts_kind Kinds
kinds_start t h =
    elim (or_true (same_shape t int_word) (same_shape t sym_word) h) [
      | inl e ↦ record { value = Int; more = []; holds = tt; begins = ap (λ (s : Shape). s ∷ []) (turned (same_shape_is t int_word e)) }
      | inr e ↦ record { value = Sym; more = []; holds = tt; begins = ap (λ (s : Shape). s ∷ []) (turned (same_shape_is t sym_word e)) }
    ]

-- ---- relations, batches, questions

abbrev pub Columns : Language Shape ((Kind × List Kind) × List Kind)
Columns = Trailed marks arrow Kinds 7

pub columns_read : Reads marks Columns columns_at
unfolding columns_at
columns_read = trailed_reads marks arrow refl refl starts_kind Kinds kind_at kinds_read kinds_begin kinds_start (blamed starts_kind refl refl) (λ x. refl) (λ x. refl) 7

columns_end : (x : (Kind × List Kind) × List Kind) → Columns.bars x right_paren ≡ false
columns_end = trailed_free marks arrow refl refl starts_kind Kinds kind_at kinds_read kinds_begin kinds_start (blamed starts_kind refl refl) (λ x. refl) (λ x. refl) 7 right_paren refl refl (λ x. refl)

abbrev pub Relations : Language Shape (Text × ((Kind × List Kind) × List Kind))
Relations = Led relation_word (Both Names (Ended semicolon (Between left_paren right_paren Columns)))

pub relations_read : Reads marks Relations relation_at
unfolding relation_at
relations_read =
    led_reads marks relation_word (Both Names (Ended semicolon (Between left_paren right_paren Columns))) (both name_at (ended same_shape semicolon (between same_shape left_paren right_paren columns_at)))
    (loose_reads marks Names name_at (Ended semicolon (Between left_paren right_paren Columns)) (ended same_shape semicolon (between same_shape left_paren right_paren columns_at)) names_read
    (ended_reads marks semicolon (Between left_paren right_paren Columns) (between same_shape left_paren right_paren columns_at) (between_reads marks left_paren right_paren Columns columns_at columns_read columns_end)
    (λ x. refl))
    (λ a t. refl))

abbrev pub Batches : Language Shape (List Program)
Batches = Led batch_word (Ended semicolon (Ended commit_word (Many is_program Programs 256)))

pub batches_read : Reads marks Batches batch_at
unfolding batch_at
batches_read =
    led_reads marks batch_word (Ended semicolon (Ended commit_word (Many is_program Programs 256))) (ended same_shape semicolon (ended same_shape commit_word (many is_program program_at at_once 256)))
    (ended_reads marks semicolon (Ended commit_word (Many is_program Programs 256)) (ended same_shape commit_word (many is_program program_at at_once 256))
    (ended_reads marks commit_word (Many is_program Programs 256) (many is_program program_at at_once 256) (several_reads marks is_program Programs program_at programs_read programs_begin programs_start (blamed is_program refl refl) (λ x t h. refl) 256)
    (λ xs. ending_free is_program Programs.bars none xs commit_word refl (λ y. refl) refl))
    (λ x. refl))

abbrev pub Versions : Language Shape (Option Text)
Versions = Maybe is_at (Led at_word (Numbers false))

versions_free : (x : Option Text) → Versions.bars x semicolon ≡ false
versions_free None = refl
versions_free (Some d) = refl

abbrev pub Shows : Language Shape (Text × Option Text)
Shows = Led show_word (Both Names (Ended semicolon Versions))

pub shows_read : Reads marks Shows show_at
unfolding show_at
shows_read =
    led_reads marks show_word (Both Names (Ended semicolon Versions)) (both name_at (ended same_shape semicolon (maybe is_at (led same_shape at_word (number_at false)))))
    (loose_reads marks Names name_at (Ended semicolon Versions) (ended same_shape semicolon (maybe is_at (led same_shape at_word (number_at false)))) names_read
    (ended_reads marks semicolon Versions (maybe is_at (led same_shape at_word (number_at false)))
    (maybe_reads marks is_at (Led at_word (Numbers false)) (led same_shape at_word (number_at false)) (led_reads marks at_word (Numbers false) (number_at false) (numbers_read false)) (λ x h. refl))
    versions_free)
    (λ a t. refl))

-- ---- items

abbrev pub Parts : Type 0
Parts = (Text × ((Kind × List Kind) × List Kind)) ⊎ (List Program ⊎ (Text × Option Text))

abbrev ItemParts : Language Shape Parts
ItemParts = Choice Relations (Choice Batches Shows)

abbrev pub item_parts : Item → Parts
item_parts (relation r k ks vs) = inl (r, ((k, ks), vs))
item_parts (batch ps) = inr (inl ps)
item_parts (show r version) = inr (inr (r, version))

item_same : (a : Parts) → ItemParts.Holds formed a → item_tokens (item_of a) ≡ ItemParts.spell a
item_same (inl (r, ((k, ks), []))) h = refl
item_same (inl (r, ((k, ks), v ∷ vs))) h = refl
item_same (inr (inl ps)) h = refl
item_same (inr (inr (r, None))) h = refl
item_same (inr (inr (r, Some d))) h = refl

item_bars_same : (a : Parts) → ItemParts.Holds formed a → Items.bars (item_of a) ≡ ItemParts.bars a
item_bars_same (inl x) h = refl
item_bars_same (inr (inl ps)) h = refl
item_bars_same (inr (inr x)) h = refl

item_is : (x : Item) → item_of (item_parts x) ≡ x
item_is (relation r k ks vs) = refl
item_is (batch ps) = refl
item_is (show r version) = refl

-- so many, and so many behind them, are at most 7 together
room_to : (level : Level) (n m : ℕ) → AtMost level n 7 → AtMost level m (7 - n) → AtMost level (n + m) 7
room_to formed n m h k = tt
room_to few n m h k = omega (arith, h, k)
room_to fine n m h k = omega (arith, h, k)
room_to full n m h k = omega (arith, h, k)

room_front : (level : Level) (n m : ℕ) → AtMost level (n + m) 7 → AtMost level n 7
room_front formed n m h = tt
room_front few n m h = omega (arith, h)
room_front fine n m h = omega (arith, h)
room_front full n m h = omega (arith, h)

room_behind : (level : Level) (n m : ℕ) → AtMost level (n + m) 7 → AtMost level m (7 - n)
room_behind formed n m h = tt
room_behind few n m h = omega (arith, h)
room_behind fine n m h = omega (arith, h)
room_behind full n m h = omega (arith, h)

item_to : (level : Level) (a : Parts) → ItemParts.Holds level a → IsItem level (item_of a)
item_to level (inl (r, ((k, ks), vs))) h = (h.0, room_to level (length ks) (length vs) h.1.0.1.1 h.1.1.1)
item_to level (inr (inl ps)) h = h
item_to level (inr (inr (r, None))) h = h
item_to level (inr (inr (r, Some d))) h = h

pub all_kinds : (ks : List Kind) → AllByRecursion (λ (k : Kind). Unit {0}) ks
all_kinds [] = tt
all_kinds (k ∷ ks) = (tt, all_kinds ks)

item_from : (level : Level) (x : Item) → IsItem level x → ItemParts.Holds level (item_parts x)
item_from level (relation r k ks vs) h = (h.0, ((tt, (all_kinds ks, room_front level (length ks) (length vs) h.1)), (all_kinds vs, room_behind level (length ks) (length vs) h.1)))
item_from level (batch ps) h = h
item_from level (show r None) h = h
item_from level (show r (Some d)) h = h

no_batch : Begins is_batch false Shows
no_batch x h = refl

no_relation : Begins is_relation false (Choice Batches Shows)
no_relation (inl x) h = refl
no_relation (inr x) h = refl

-- The reader of an item is exact.
pub items_read : Reads marks Items item_at
unfolding item_at
items_read =
    given_reads marks item_of item_parts ItemParts (choice is_relation relation_at (choice is_batch batch_at show_at)) Items
    (choice_reads marks is_relation Relations relation_at (Choice Batches Shows) (choice is_batch batch_at show_at) relations_read
    (choice_reads marks is_batch Batches batch_at Shows show_at batches_read shows_read (λ x h. refl) no_batch)
    (λ x h. refl) no_relation)
    (record { same = item_same; bars = item_bars_same; is = λ level x h. item_is x; to = item_to; from = item_from })

-- items begin with words: a test that all of these pass
abbrev any : Shape → Bool
any t = true

items_begin : Begins any true Items
items_begin (relation r k ks vs) h = refl
items_begin (batch ps) h = refl
items_begin (show r version) h = refl

-- ---- scripts

abbrev pub script_tokens : List Item → List Shape
script_tokens items = flat_map item_tokens items

-- each item ends with a semicolon
item_end : (x : Item) → (b : List Shape) × (item_tokens x ≡ b ++ semicolon ∷ [])
item_end (relation r k ks vs) = (relation_word ∷ word r ∷ in_parens (columns_tokens k ks vs), refl)
item_end (batch ps) = (batch_word ∷ (flat_map program_tokens ps ++ only commit_word), refl)
item_end (show r version) = (show_word ∷ word r ∷ at_tokens version, refl)

pub item_halted : (done : List Item) (ts : List Shape) (stop : Stop Shape) → AllByRecursion (IsItem full) done → item_at ts ≡ Err stop → scripts.Halted script_marks Items (script_tokens done) ts stop
item_halted = scripts.halted marks Items item_at items_read any true items_begin (λ x t. refl) item_end
