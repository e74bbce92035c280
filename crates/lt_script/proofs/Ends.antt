-- The last token of an item is a semicolon.
use Rattle.std.proofs.Common.{◌≡◌, List, [], ◌∷◌, ◌++◌, refl, sym, ap, ◌∙◌, append_assoc}
use Rattle.lt_model.specs.declared.syntax.Item.{Item}
use Rattle.lt_model.specs.declared.syntax.Item.TheVariants.{Relation, Batch, Show}
use Rattle.lt_model.specs.Tokens.{Shape, Token}
use Rattle.lt_model.specs.Grammar.{legal, semicolon, SpellsItem}
use Rattle.lt_model.specs.Script as script

-- these end with this one
pub record EndsWith (t : Shape) (us : List Shape) : Type 0 where
  pub front : List Shape
  pub is : us ≡ front ++ t ∷ []

alone : (t : Shape) (us : List Shape) → us ≡ t ∷ [] → EndsWith t us
alone t us e = record { front = []; is = e }

further : (t : Shape) (front back us : List Shape) → us ≡ front ++ back → EndsWith t back → EndsWith t us
further t front back us e h = record { front = front ++ h.front; is = e ∙ ap (λ (vs : List Shape). front ++ vs) h.is ∙ sym (append_assoc front h.front (t ∷ [])) }

pub item_ends : (item : Item) (us : List Shape) → SpellsItem legal item us → EndsWith semicolon us
item_ends (Relation name kinds keys) us h =
    further semicolon h.0 h.1 us h.2
    (further semicolon h.4.0 h.4.1 h.1 h.4.2
    (further semicolon h.4.4.0 h.4.4.1 h.4.1 h.4.4.2
    (further semicolon h.4.4.4.0 h.4.4.4.1 h.4.4.1 h.4.4.4.2 (further semicolon h.4.4.4.4.0 h.4.4.4.4.1 h.4.4.4.1 h.4.4.4.4.2 (alone semicolon h.4.4.4.4.1 h.4.4.4.4.4)))))
item_ends (Batch programs) us h =
    further semicolon h.0 h.1 us h.2
    (further semicolon h.4.0 h.4.1 h.1 h.4.2 (further semicolon h.4.4.0 h.4.4.1 h.4.1 h.4.4.2 (alone semicolon h.4.4.1 h.4.4.4)))
item_ends (Show name version) us h =
    further semicolon h.0 h.1 us h.2
    (further semicolon h.4.0 h.4.1 h.1 h.4.2 (further semicolon h.4.4.0 h.4.4.1 h.4.1 h.4.4.2 (alone semicolon h.4.4.1 h.4.4.4)))

-- tokens whose last shape is this one
pub record LastToken (t : Shape) (ts : List Token) : Type 0 where
  pub before : List Token
  pub last : Token
  pub are : ts ≡ before ++ last ∷ []
  pub is : last.shape ≡ t

pub last_token : (t : Shape) (front : List Shape) (ts : List Token) → script.shapes ts ≡ front ++ t ∷ [] → LastToken t ts
last_token t [] [] e = absurd cc
last_token t (s ∷ front) [] e = absurd cc
last_token t [] (u ∷ []) e = let same : u.shape ≡ t = cc in record { before = []; last = u; are = refl; is = same }
last_token t [] (u ∷ v ∷ ts) e = absurd cc
last_token t (s ∷ front) (u ∷ ts) e =
    let more : script.shapes ts ≡ front ++ t ∷ [] = cc in
    let k = last_token t front ts more in
    record { before = u ∷ k.before; last = k.last; are = ap (λ (us : List Token). u ∷ us) k.are; is = k.is }
