-- The bytes that a feed was pushed, and what comes behind them, have a reading that begins with the items it answered.
use Rattle.std.proofs.Common.{◌≡◌, ℕ, Bool, true, false, List, [], ◌++◌, length, refl, sym, ap, subst, append-nil, ◌≤◌, arith}
use Rattle.std.proofs.lemmas.List.{length-append}
use Rattle.std.specs.Prelude.{Option, Some, None}
use Rattle.lt_model.specs.declared.syntax.Item.{Item}
use Rattle.lt_model.specs.Tokens.{Read, tokens_at}
use Rattle.lt_model.specs.Script as script
use Rattle.lt_model.specs.Script.{Script}
use Rattle.lt_script.specs.declared.feed.Feed.{Feed}
use Rattle.lt_script.specs.declared.feed.Fault.{Fault}
use Rattle.lt_script.specs.Feed.{kept_of, IsMore, StandsBy, HasFed}
use Rattle.lt_script.proofs.Feeds.{leads_all}
use Rattle.lt_script.proofs.Totality.{BeginsReading, goes_on}

pub feeds_on : (f : Feed) (bytes : List ℕ) (items : List Item) → HasFed f bytes items → (more : List ℕ) → IsMore f.ended more → BeginsReading (bytes ++ more) items
feeds_on f bytes items h more may = go f.fault f.ended f.line (kept_of f) h may
  where
    go : (o : Option Fault) (ended : Bool) (line : ℕ) (kept : List ℕ) → StandsBy o ended line kept bytes items → IsMore ended more → BeginsReading (bytes ++ more) items
    go None ended line kept o may =
        let left : Read = tokens_at line (kept ++ more) in
        goes_on (length left.0) (bytes ++ more) o.done left.0 items left.1 (omega arith) (leads_all line kept bytes items o more) o.derived
    go (Some fault) ended line kept s may = record {
      more = [];
      close = script.Fault fault.line fault.code;
      is_script = subst (λ (is : List Item). Script (bytes ++ more) is (script.Fault fault.line fault.code)) (sym (append-nil items)) (s.1 more may);
    }

pub none_more : (ended : Bool) → IsMore ended []
none_more true = refl
none_more false = tt

-- and with nothing behind them
pub fed_reading : (f : Feed) (bytes : List ℕ) (items : List Item) → HasFed f bytes items → BeginsReading bytes items
fed_reading f bytes items h = subst (λ (bs : List ℕ). BeginsReading bs items) (append-nil bytes) (feeds_on f bytes items h [] (none_more f.ended))

-- no more is kept than was pushed
pub kept_few : (f : Feed) (bytes : List ℕ) (items : List Item) → HasFed f bytes items → length (kept_of f) ≤ length bytes
kept_few f bytes items h = go f.fault f.ended f.line (kept_of f) h
  where
    go : (o : Option Fault) (ended : Bool) (line : ℕ) (kept : List ℕ) → StandsBy o ended line kept bytes items → length kept ≤ length bytes
    go None ended line kept o = let n : length bytes ≡ length (o.front ++ kept) = ap (λ (bs : List ℕ). length bs) o.parts in omega (arith, n, length-append o.front kept)
    go (Some fault) ended line kept s = let n : length kept ≡ 0 = ap (λ (bs : List ℕ). length bs) s.0 in omega (arith, n)
