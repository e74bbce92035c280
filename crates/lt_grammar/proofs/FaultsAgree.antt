-- The items, the open scripts and the faults of the tree's grammar are those of the language.
use Rattle.std.proofs.Common.{◌≡◌, ℕ, List, [], ◌∷◌, ◌++◌, sym, subst}
use Rattle.std.specs.Prelude.{map}
use Rattle.lt_reading.specs.Language.{Level, formed, few, fine, full}
use Rattle.lt_reading.specs.Faults as reading
use Rattle.lt_model.specs.declared.syntax.Item.{Item as ItemValue}
use Rattle.lt_model.specs.Tokens.{Shape}
use Rattle.lt_model.specs.Grammar.{Derives}
use Rattle.lt_model.specs.Faults.{IsOpen, Faulty, not_allowed, too_many, too_many_variables, too_large, NoFault}
use Rattle.lt_grammar.specs.Grammar.{Item, Items, script_marks}
use Rattle.lt_grammar.specs.Meaning.{level_of, item_value}
use Rattle.lt_grammar.proofs.Agrees.{each_agrees}
use Rattle.lt_grammar.proofs.Shapes.{unspared, spared_not}
use Rattle.lt_grammar.proofs.ItemsAgree.{items_agree}

pub to_derives : (level : Level) (ts : List Shape) (items : List Item) → reading.Derives Items level ts items → Derives (level_of level) ts (map item_value items)
to_derives level ts items d = subst (λ (us : List Shape). Derives (level_of level) us (map item_value items)) (sym d.spelled) ((each_agrees (items_agree level)).there items d.each)

pub from_derives : (level : Level) (ts : List Shape) (values : List ItemValue) → Derives (level_of level) ts values → (items : List Item) × reading.Derives Items level ts items × (map item_value items ≡ values)
from_derives level ts values d =
    let x = (each_agrees (items_agree level)).back values ts d in
    (x.0, record { each = x.1; spelled = sym x.3 }, x.2)

pub to_open : (level : Level) (ts : List Shape) → reading.IsOpen Items level ts → IsOpen (level_of level) ts
to_open level ts o = (o.0, map item_value o.1, to_derives level (ts ++ o.0) o.1 o.2)

pub from_open : (level : Level) (ts : List Shape) → IsOpen (level_of level) ts → reading.IsOpen Items level ts
from_open level ts o = let x = from_derives level (ts ++ o.0) o.1 o.2 in (o.0, x.0, x.1)

pub to_faulty : (before : List Shape) (t : Shape) (code : ℕ) → reading.Faulty script_marks Items before t code → Faulty before t code
to_faulty before t code (reading.not_allowed h) = not_allowed (λ o. h (from_open formed (before ++ t ∷ []) o))
to_faulty before t code (reading.too_many o blamed h) = too_many (to_open formed (before ++ t ∷ []) o) (unspared t blamed).0 (unspared t blamed).1 (λ k. h (from_open few (before ++ t ∷ []) k))
to_faulty before t code (reading.too_large n o h) = too_large n.0 n.1 (to_open few (before ++ t ∷ []) o) (λ k. h (from_open fine (before ++ t ∷ []) k))
to_faulty before t code (reading.too_full same o h) = too_many_variables same (to_open fine (before ++ t ∷ []) o) (λ k. h (from_open full (before ++ t ∷ []) k))

pub from_faulty : (before : List Shape) (t : Shape) (code : ℕ) → Faulty before t code → reading.Faulty script_marks Items before t code
from_faulty before t code (not_allowed h) = reading.not_allowed (λ o. h (to_open formed (before ++ t ∷ []) o))
from_faulty before t code (too_many o no_comma no_arrow h) = reading.too_many (from_open formed (before ++ t ∷ []) o) (spared_not t no_comma no_arrow) (λ k. h (to_open few (before ++ t ∷ []) k))
from_faulty before t code (too_large digits is o h) = reading.too_large (digits, is) (from_open few (before ++ t ∷ []) o) (λ k. h (to_open fine (before ++ t ∷ []) k))
from_faulty before t code (too_many_variables same o h) = reading.too_full same (from_open fine (before ++ t ∷ []) o) (λ k. h (to_open full (before ++ t ∷ []) k))

pub to_no_fault : (ts : List Shape) → reading.NoFault script_marks Items ts → NoFault ts
to_no_fault ts h before t after code is fault = h before t after code is (from_faulty before t code fault)

pub from_no_fault : (ts : List Shape) → NoFault ts → reading.NoFault script_marks Items ts
from_no_fault ts h before t after code is fault = h before t after code is (to_faulty before t code fault)
