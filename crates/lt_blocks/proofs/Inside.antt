-- What a reader knows, line after line.
use Rattle.std.proofs.Common.{◌≡◌, ◌<◌, ◌≤◌, ◌+◌, ◌==◌, ◌∙◌, ℕ, zero, suc, true, false, cond, List, [], ◌∷◌, ◌++◌, length, take, get_or, inl, inr, refl, sym, ap, subst, append_assoc, append-nil, arith}
use Rattle.std.specs.List.{AllByRecursion}
use Rattle.std.proofs.lemmas.Bool.{eqb-true}
use Rattle.std.proofs.lemmas.Grind.{flat_map-append}
use Rattle.std.proofs.lemmas.List.{length-append}
use Rattle.lt_blocks.specs.declared.block.Block.{Block}
use Rattle.lt_batch.specs.declared.replaying.Written.{Written}
use Rattle.lt_blocks.specs.declared.words.Header.{Header}
use Rattle.lt_blocks.specs.Lines.{entry_words, header_words, script_words, IsEntry, IsHeader, Lacks}
use Rattle.lt_blocks.specs.Blocks.{block_text, blocks_text, entries_text, entry_text, header_of, header_text, line_feeds, script_text, IsBadLine, IsBlock}
use Rattle.lt_blocks.specs.declared.reader.Reader.{Reader}
use Rattle.lt_blocks.specs.declared.reader.Stage.{Stage}
use Rattle.lt_blocks.specs.declared.reader.Stage.TheVariants as stages
use Rattle.lt_blocks.specs.Reading.{begun_text, HasRead, HasReadTo, IsInside, IsMore}
use Rattle.lt_blocks.proofs.Cuts.{lacks_both}
use Rattle.lt_blocks.proofs.Lined.{ended_as, entry_lacks, header_lacks, script_lacks, unended}

-- ---- line feeds

feeds_both : (xs ys : List ℕ) → line_feeds (xs ++ ys) ≡ line_feeds xs + line_feeds ys
feeds_both [] ys = omega arith
feeds_both (x ∷ xs) ys =
    let rest : line_feeds (xs ++ ys) ≡ line_feeds xs + line_feeds ys = feeds_both xs ys in
    elim (x == 10) as (λ t. cond t (suc (line_feeds (xs ++ ys))) (line_feeds (xs ++ ys)) ≡ cond t (suc (line_feeds xs)) (line_feeds xs) + line_feeds ys) [ true ↦ omega (arith, rest) | false ↦ omega (arith, rest) ]

feeds_none : (xs : List ℕ) → Lacks 10 xs → line_feeds xs ≡ 0
feeds_none [] p = refl
feeds_none (x ∷ xs) p =
    let rest : line_feeds xs ≡ 0 = feeds_none xs p.1 in
    elim (x == 10) as (λ t. x == 10 ≡ t → cond t (suc (line_feeds xs)) (line_feeds xs) ≡ 0) [ true ↦ (λ e. absurd (p.0 (eqb-true x 10 e))) | false ↦ (λ e. rest) ] refl

pub feeds_few : (xs : List ℕ) → line_feeds xs ≤ length xs
feeds_few [] = omega arith
feeds_few (x ∷ xs) =
    let rest : line_feeds xs ≤ length xs = feeds_few xs in
    elim (x == 10) as (λ t. cond t (suc (line_feeds xs)) (line_feeds xs) ≤ suc (length xs)) [ true ↦ omega (arith, rest) | false ↦ omega (arith, rest) ]

-- a line that ended is one more
line_more : (front line : List ℕ) → Lacks 10 line → line_feeds ((front ++ line) ++ 10 ∷ []) ≡ line_feeds front + 1
line_more front line p = omega (arith, feeds_both (front ++ line) (10 ∷ []), feeds_both front line, feeds_none line p)

-- ---- texts

entries_more : (entries : List Written) (e : Written) → entries_text (entries ++ e ∷ []) ≡ entries_text entries ++ entry_text e
entries_more entries e = flat_map-append entry_text entries (e ∷ []) ∙ ap (λ (t : List ℕ). entries_text entries ++ t) (append-nil (entry_text e))

blocks_more : (blocks : List Block) (b : Block) → blocks_text (blocks ++ b ∷ []) ≡ blocks_text blocks ++ block_text b
blocks_more blocks b = flat_map-append block_text blocks (b ∷ []) ∙ ap (λ (t : List ℕ). blocks_text blocks ++ t) (append-nil (block_text b))

all_more : {X : Type 0} (P : X → Type 0) (xs : List X) (x : X) → AllByRecursion P xs → P x → AllByRecursion P (xs ++ x ∷ [])
all_more P [] x h p = (p, tt)
all_more P (y ∷ xs) x h p = (h.0, all_more P xs x h.1 p)

-- ---- a line that ended

module _ (blocks : List Block) (h : Header) (entries : List Written) (line : List ℕ) (number : ℕ) (bytes : List ℕ) where
  module _ (at : IsInside blocks h entries 0 line number bytes) where
    abbrev between : bytes ≡ blocks_text blocks ++ line
    between = at.parts ∙ ap (λ (t : List ℕ). t ++ line) (append-nil (blocks_text blocks))

    abbrev counted : number ≡ line_feeds (blocks_text blocks) + 1
    counted = at.number_is ∙ ap (λ (t : List ℕ). line_feeds t + 1) (append-nil (blocks_text blocks))

    -- and begins a block
    pub more_header : (new : Header) → line ≡ header_words new → IsHeader new → IsMore blocks new entries new.entries number (bytes ++ 10 ∷ [])
    more_header new is small =
        let none : entries ≡ [] = at.begun in
        record {
          within = at.within;
          entries_within = at.entries_within;
          header_within = small;
          count = let n : length entries ≡ 0 = ap (λ (es : List Written). length es) none in omega (arith, n);
          parts =
              ap (λ (t : List ℕ). t ++ 10 ∷ []) between ∙ append_assoc (blocks_text blocks) line (10 ∷ [])
              ∙ ap (λ (t : List ℕ). blocks_text blocks ++ (t ++ 10 ∷ [])) is
              ∙ ap (λ (t : List ℕ). blocks_text blocks ++ t) (sym (append-nil (header_text new)) ∙ ap (λ (es : List Written). header_text new ++ entries_text es) (sym none));
          number_is = let n = line_more (blocks_text blocks) line at.lacks in let same : line_feeds (bytes ++ 10 ∷ []) ≡ line_feeds ((blocks_text blocks ++ line) ++ 10 ∷ []) = ap (λ (t : List ℕ). line_feeds (t ++ 10 ∷ [])) between in omega (arith, counted, n, same);
        }

    -- and is the one behind which the script begins
    pub to_script : line ≡ script_words → AllByRecursion IsBlock blocks × (bytes ++ 10 ∷ [] ≡ blocks_text blocks ++ script_text)
    to_script is = (at.within, ap (λ (t : List ℕ). t ++ 10 ∷ []) between ∙ append_assoc (blocks_text blocks) line (10 ∷ []) ∙ ap (λ (t : List ℕ). blocks_text blocks ++ (t ++ 10 ∷ [])) is)

    -- and is neither
    pub bad_between : (line ≡ script_words → ⊥) → ((new : Header) → IsHeader new → line ≡ header_words new → ⊥) → (more : List ℕ) → IsBadLine ((bytes ++ 10 ∷ []) ++ more) number
    bad_between script header more = inl (record {
      blocks = blocks;
      within = at.within;
      rest = line ++ (10 ∷ more);
      parts =
          ap (λ (t : List ℕ). (t ++ 10 ∷ []) ++ more) between ∙ append_assoc (blocks_text blocks ++ line) (10 ∷ []) more ∙ append_assoc (blocks_text blocks) line (10 ∷ more);
      line_is = counted;
      no_block = λ new after small e. header new small (ended_as line (header_words new) more after at.lacks (header_lacks new small) e);
      no_script = λ after e. script (ended_as line script_words more after at.lacks script_lacks e);
    })

    -- it hasn't ended
    pub unended_between : IsBadLine bytes number
    unended_between = inl (record {
      blocks = blocks;
      within = at.within;
      rest = line;
      parts = between;
      line_is = counted;
      no_block = λ new after small e. unended line (header_words new) after at.lacks e;
      no_script = λ after e. unended line script_words after at.lacks e;
    })

  module _ (missing : ℕ) (at : IsInside blocks h entries (suc missing) line number bytes) where
    abbrev front : List ℕ
    front = blocks_text blocks ++ (header_text h ++ entries_text entries)

    -- and is an entry
    pub more_entry : (e : Written) → line ≡ entry_words e → IsEntry e → IsMore blocks h (entries ++ e ∷ []) missing number (bytes ++ 10 ∷ [])
    more_entry e is small =
        let begun = at.begun in
        record {
          within = at.within;
          entries_within = all_more IsEntry entries e at.entries_within small;
          header_within = begun.1;
          count = omega (arith, begun.0, length-append entries (e ∷ []));
          parts =
              ap (λ (t : List ℕ). t ++ 10 ∷ []) at.parts ∙ append_assoc front line (10 ∷ []) ∙ ap (λ (t : List ℕ). front ++ (t ++ 10 ∷ [])) is
              ∙ append_assoc (blocks_text blocks) (header_text h ++ entries_text entries) (entry_text e)
              ∙ ap (λ (t : List ℕ). blocks_text blocks ++ t) (append_assoc (header_text h) (entries_text entries) (entry_text e) ∙ ap (λ (t : List ℕ). header_text h ++ t) (sym (entries_more entries e)));
          number_is = let n = line_more front line at.lacks in let same : line_feeds (bytes ++ 10 ∷ []) ≡ line_feeds ((front ++ line) ++ 10 ∷ []) = ap (λ (t : List ℕ). line_feeds (t ++ 10 ∷ [])) at.parts in omega (arith, at.number_is, n, same);
        }

    -- and is none
    pub bad_inside : ((e : Written) → IsEntry e → line ≡ entry_words e → ⊥) → (more : List ℕ) → IsBadLine ((bytes ++ 10 ∷ []) ++ more) number
    bad_inside none more = inr (record {
      blocks = blocks;
      within = at.within;
      header = h;
      header_within = at.begun.1;
      entries = entries;
      entries_within = at.entries_within;
      few = omega (arith, at.begun.0);
      rest = line ++ (10 ∷ more);
      parts = ap (λ (t : List ℕ). (t ++ 10 ∷ []) ++ more) at.parts ∙ append_assoc (front ++ line) (10 ∷ []) more ∙ append_assoc front line (10 ∷ more);
      line_is = at.number_is;
      no_entry = λ e after small is. none e small (ended_as line (entry_words e) more after at.lacks (entry_lacks e small) is);
    })

    pub unended_inside : IsBadLine bytes number
    unended_inside = inr (record {
      blocks = blocks;
      within = at.within;
      header = h;
      header_within = at.begun.1;
      entries = entries;
      entries_within = at.entries_within;
      few = omega (arith, at.begun.0);
      rest = line;
      parts = at.parts;
      line_is = at.number_is;
      no_entry = λ e after small is. unended line (entry_words e) after at.lacks is;
    })

-- no more comes
pub unended_line : (blocks : List Block) (h : Header) (entries : List Written) (missing : ℕ) (line : List ℕ) (number : ℕ) (bytes : List ℕ) → IsInside blocks h entries missing line number bytes → IsBadLine bytes number
unended_line blocks h entries zero line number bytes at = unended_between blocks h entries line number bytes at
unended_line blocks h entries (suc missing) line number bytes at = unended_inside blocks h entries line number bytes missing at

-- ---- the next line

pub next_entry : (blocks : List Block) (h : Header) (entries : List Written) (missing number : ℕ) (bytes : List ℕ) → IsMore blocks h entries missing number bytes → 0 < missing → IsInside blocks h entries missing [] (number + 1) bytes
next_entry blocks h entries zero number bytes at some = absurd (omega (arith, some))
next_entry blocks h entries (suc missing) number bytes at some = record {
  within = at.within;
  entries_within = at.entries_within;
  begun = (at.count, at.header_within);
  parts = at.parts ∙ sym (append-nil (blocks_text blocks ++ (header_text h ++ entries_text entries)));
  number_is = let same : line_feeds bytes ≡ line_feeds (blocks_text blocks ++ (header_text h ++ entries_text entries)) = ap line_feeds at.parts in omega (arith, at.number_is, same);
  lacks = tt;
}

-- a block is complete
pub next_block : (blocks : List Block) (h : Header) (entries : List Written) (number : ℕ) (bytes : List ℕ) → IsMore blocks h entries 0 number bytes
    → IsInside (blocks ++ record { number = h.batch; programs = h.programs; entries = entries } ∷ []) h [] 0 [] (number + 1) bytes
next_block blocks h entries number bytes at =
    let b : Block = record { number = h.batch; programs = h.programs; entries = entries } in
    let count : length entries ≡ h.entries = omega (arith, at.count) in
    let header : header_text (header_of b) ≡ header_text h =
    ap (λ n. header_text (record { batch = h.batch; programs = h.programs; entries = n })) count in
    let whole : bytes ≡ blocks_text (blocks ++ b ∷ []) =
    at.parts ∙ ap (λ (t : List ℕ). blocks_text blocks ++ (t ++ entries_text entries)) (sym header) ∙ sym (blocks_more blocks b) in
    record {
      within = all_more IsBlock blocks b at.within (record { header = record { batch = at.header_within.batch; programs = at.header_within.programs; entries = subst (λ n. n < 4294967296) (sym count) at.header_within.entries }; entries = at.entries_within });
      entries_within = tt;
      begun = refl;
      parts = whole ∙ sym (append-nil (blocks_text (blocks ++ b ∷ []))) ∙ sym (append-nil (blocks_text (blocks ++ b ∷ []) ++ []));
      number_is = let same : line_feeds bytes ≡ line_feeds (blocks_text (blocks ++ b ∷ []) ++ []) = ap line_feeds (whole ∙ sym (append-nil (blocks_text (blocks ++ b ∷ [])))) in omega (arith, at.number_is, same);
      lacks = tt;
    }

-- a byte of a line
pub next_byte : (blocks : List Block) (h : Header) (entries : List Written) (missing : ℕ) (line : List ℕ) (number : ℕ) (bytes : List ℕ) → IsInside blocks h entries missing line number bytes → (byte : ℕ) → (byte ≡ 10 → ⊥)
    → IsInside blocks h entries missing (line ++ byte ∷ []) number (bytes ++ byte ∷ [])
next_byte blocks h entries missing line number bytes at byte other = record {
  within = at.within;
  entries_within = at.entries_within;
  begun = at.begun;
  parts = ap (λ (t : List ℕ). t ++ byte ∷ []) at.parts ∙ append_assoc (blocks_text blocks ++ begun_text missing h entries) line (byte ∷ []);
  number_is = at.number_is;
  lacks = lacks_both 10 line (byte ∷ []) at.lacks (other, tt);
}

-- ---- the same of a reader

pub inside : (r : Reader) (bytes : List ℕ) → r.stage ≡ stages.Reading → HasRead r bytes → IsInside r.blocks.items r.header r.entries.items r.missing r.line.items r.number bytes
inside r bytes stage read = subst (λ (st : Stage). HasReadTo st r bytes) stage read

pub as_reading : (r : Reader) (bytes : List ℕ) → r.stage ≡ stages.Reading → IsInside r.blocks.items r.header r.entries.items r.missing r.line.items r.number bytes → HasRead r bytes
as_reading r bytes stage at = subst (λ (st : Stage). HasReadTo st r bytes) (sym stage) at

-- a block is stored
pub stored : (blocks later : List Block) (h : Header) (entries left : List Written) (missing : ℕ) (line : List ℕ) (number : ℕ) (bytes : List ℕ) → IsMore blocks h entries missing number bytes → missing ≡ 0
    → later ≡ blocks ++ record { number = h.batch; programs = h.programs; entries = entries } ∷ [] → left ≡ [] → line ≡ [] → IsInside later h left missing line (number + 1) bytes
stored blocks later h entries left missing line number bytes at none grown empty cleared =
    subst (λ (bs : List Block). IsInside bs h left missing line (number + 1) bytes) (sym grown)
    (subst (λ (es : List Written). IsInside (blocks ++ record { number = h.batch; programs = h.programs; entries = entries } ∷ []) h es missing line (number + 1) bytes) (sym empty)
    (subst (λ (l : List ℕ). IsInside (blocks ++ record { number = h.batch; programs = h.programs; entries = entries } ∷ []) h [] missing l (number + 1) bytes) (sym cleared)
    (subst (λ n. IsInside (blocks ++ record { number = h.batch; programs = h.programs; entries = entries } ∷ []) h [] n [] (number + 1) bytes) (sym none)
    (next_block blocks h entries number bytes (subst (λ n. IsMore blocks h entries n number bytes) none at)))))

-- a line inside a block is an entry, or isn't
module _ (blocks : List Block) (h : Header) (entries : List Written) (line : List ℕ) (number : ℕ) (bytes : List ℕ) where
  pub entry_more : (missing left : ℕ) → left + 1 ≡ missing → IsInside blocks h entries missing line number bytes → (e : Written) → line ≡ entry_words e → IsEntry e → IsMore blocks h (entries ++ e ∷ []) left number (bytes ++ 10 ∷ [])
  entry_more missing left is at e words small =
      let same : missing ≡ suc left = omega (arith, is) in
      more_entry blocks h entries line number bytes left (subst (λ n. IsInside blocks h entries n line number bytes) same at) e words small

  pub entry_none : (missing : ℕ) → 0 < missing → IsInside blocks h entries missing line number bytes → ((e : Written) → IsEntry e → line ≡ entry_words e → ⊥) → (more : List ℕ) → IsBadLine ((bytes ++ 10 ∷ []) ++ more) number
  entry_none zero some at none more = absurd (omega (arith, some))
  entry_none (suc missing) some at none more = bad_inside blocks h entries line number bytes missing at none more

-- a reader whose fields are those of another knows the same
pub again : (st : Stage) (r : Reader) (bytes : List ℕ) → HasReadTo st r bytes
    → HasReadTo st (record { blocks = r.blocks; header = r.header; entries = r.entries; missing = r.missing; line = r.line; number = r.number; stage = r.stage }) bytes
again stages.Reading r bytes h = h
again stages.Script r bytes h = h
again stages.Bad r bytes h = h

-- one byte more of a piece
pub one_more : (bytes piece : List ℕ) (i : ℕ) → i < length piece → (bytes ++ take i piece) ++ get_or piece i 0 ∷ [] ≡ bytes ++ take (i + 1) piece
one_more bytes piece i within = append_assoc bytes (take i piece) (get_or piece i 0 ∷ []) ∙ ap (λ (t : List ℕ). bytes ++ t) (take_one piece i within)
  where
    take_one : (xs : List ℕ) (k : ℕ) → k < length xs → take k xs ++ get_or xs k 0 ∷ [] ≡ take (k + 1) xs
    take_one [] k h = absurd (omega (arith, h))
    take_one (x ∷ xs) zero h = refl
    take_one (x ∷ xs) (suc k) h =
        let further : k < length xs = omega (arith, h) in
        let after : suc k + 1 ≡ suc (k + 1) = omega arith in
        rw after (ap (λ (t : List ℕ). x ∷ t) (take_one xs k further))
