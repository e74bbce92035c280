-- What stands by key.
use Rattle.std.proofs.Common.{◌≡◌, ℕ, ◌+◌, ◌<◌, Bool, true, false, ◌||◌, List, [], ◌∷◌, ◌++◌, length, take, get_or, refl, sym, ap, ◌∙◌}
use Rattle.std.proofs.lemmas.List.Folds.{list_any-append}
use Rattle.lt_face.specs.State.{Row}
use Rattle.lt_sense.specs.ByKeyRest.{KeyLists}
use Rattle.lt_sense.specs.ByKeyTold.{rest_at, rests_at, RestAll}
use Rattle.lt_sense.proofs.Lies.{take_next}
use Rattle.lt_sense.proofs.Spanned.{or_none}

-- one more at the end
pub rest_last : (rest : List KeyLists) (part : KeyLists) (key relation : ℕ) (row : Row) → rests_at key (rest ++ part ∷ []) relation row ≡ (rests_at key rest relation row || rest_at key part relation row)
rest_last rest part key relation row =
    list_any-append (λ (o : KeyLists). rest_at key o relation row) rest (part ∷ [])
    ∙ ap (λ b. rests_at key rest relation row || b) (or_none (rest_at key part relation row))

pub rest_none : (rest : List KeyLists) → RestAll rest rest []
rest_none rest key relation row below = sym (or_none (rests_at key rest relation row))

or_right : (a b c : Bool) → ((a || b) || c) ≡ (a || (b || c))
or_right true b c = refl
or_right false b c = refl

pub rest_next : (others : List KeyLists) (i : ℕ) (part : KeyLists) (old mid new : List KeyLists) → i < length others → part ≡ get_or others i part → new ≡ mid ++ part ∷ [] → RestAll old mid (take i others) → RestAll old new (take (i + 1) others)
rest_next others i part old mid new lt there is all key relation row below =
    ap (λ xs. rests_at key xs relation row) is
    ∙ rest_last mid part key relation row
    ∙ ap (λ b. b || rest_at key part relation row) (all key relation row below)
    ∙ or_right (rests_at key old relation row) (rests_at key (take i others) relation row) (rest_at key part relation row)
    ∙ ap (λ b. rests_at key old relation row || b) (sym (rest_last (take i others) part key relation row))
    ∙ ap (λ xs. rests_at key old relation row || rests_at key xs relation row) (sym (take_next others i part lt there))
