-- Blocks beside the batches of a script, batch after batch.
use Rattle.std.proofs.Common.{◌≡◌, ◌≤◌, ◌<◌, ◌+◌, ◌++◌, ◌∷◌, ◌∙◌, Bool, true, false, List, [], ℕ, suc, length, refl, sym, ap, subst, append-nil, append_assoc, arith}
use Rattle.std.specs.Prelude.{Option, Some, None, fold, slice_get, if◌then◌else◌, nat_le, nat_lt, unwrap_or}
use Rattle.std.specs.List.{AllZip}
use Rattle.std.proofs.lemmas.List.{length-append}
use Rattle.std.proofs.lemmas.Option.{slice_get_past}
use Rattle.lt_model.specs.declared.kind.Kind.{Kind}
use Rattle.lt_model.specs.declared.syntax.Item.{Item}
use Rattle.lt_model.specs.declared.syntax.Item.TheVariants.{Batch, Relation, Show}
use Rattle.lt_model.specs.declared.syntax.Program.{Program}
use Rattle.lt_model.specs.Report as model
use Rattle.lt_model.specs.Report.{Text, bad_text, opening, says, shown, step, with_relation}
use Rattle.lt_model.specs.Schema.{number_of}
use Rattle.lt_blocks.specs.declared.block.Block.{Block}
use Rattle.lt_world.specs.Replays.{begun_at, AreRight, IsLeft, IsRefusedAt, IsRight, IsRightAt, IsRightItem, IsWrongAt, IsWrongItem, Missing, Wrong}
use Rattle.lt_world.specs.Traces.{batch_in, batches_from, Begun}
use Rattle.lt_world.proofs.Traced.{from_more}

-- ---- as many batches as versions

either_versions : (b : Bool) (m v w : model.World) → length v.versions ≡ length m.versions → length w.versions ≡ length m.versions → length (if b then v else w).versions ≡ length m.versions
either_versions true m v w a b = a
either_versions false m v w a b = b

related : (m : model.World) (name : Text) (kinds : List Kind) (keys : ℕ) (o : Option ℕ) → length (with_relation m name kinds keys o).versions ≡ length m.versions
related m name kinds keys (Some relation) = refl
related m name kinds keys None = either_versions (nat_le 64 (length m.schema)) m (says m (bad_text 25)) _ refl refl

shows : (m : model.World) (name : Text) (version : Option ℕ) (o : Option ℕ) → length (shown m name version o).versions ≡ length m.versions
shows m name version None = refl
shows m name version (Some relation) = either_versions (nat_lt (length m.versions) (unwrap_or version 0)) m (says m (bad_text 26)) _ refl refl

one_counted : (marks : Bool) (m : model.World) (item : Item) → length (step marks m item).versions ≡ length m.versions + length (batch_in m item)
one_counted marks m (Relation name kinds keys) = related m name kinds keys (number_of m.schema name) ∙ omega arith
one_counted marks m (Batch programs) = length-append m.versions _
one_counted marks m (Show name version) = shows m name version (number_of m.schema name) ∙ omega arith

pub counted : (marks : Bool) (m : model.World) (items : List Item) → length (fold (step marks) m items).versions ≡ length m.versions + length (batches_from marks m items)
counted marks m [] = omega arith
counted marks m (item ∷ items) = omega (arith, counted marks (step marks m item) items, one_counted marks m item, length-append (batch_in m item) (batches_from marks (step marks m item) items))

zip_length : (bs : List Begun) (xs : List Block) → AllZip IsRight bs xs → length xs ≡ length bs
zip_length [] [] a = refl
zip_length [] (x ∷ xs) a = absurd a
zip_length (b ∷ bs) [] a = absurd a
zip_length (b ∷ bs) (x ∷ xs) a = ap (λ n. suc n) (zip_length bs xs a.1)

-- where the blocks of these items' batches are right, so many versions were made
pub used_length : (marks : Bool) (items : List Item) (used : List Block) → AreRight marks items used → length used ≡ length (fold (step marks) opening items).versions
used_length marks items used right = omega (arith, zip_length (batches_from marks opening items) used right, counted marks opening items)

-- ---- one item more

zip_more : (bs cs : List Begun) (xs ys : List Block) → AllZip IsRight bs xs → AllZip IsRight cs ys → AllZip IsRight (bs ++ cs) (xs ++ ys)
zip_more [] cs [] ys a b = b
zip_more [] cs (x ∷ xs) ys a b = absurd a
zip_more (t ∷ bs) cs [] ys a b = absurd a
zip_more (t ∷ bs) cs (x ∷ xs) ys a b = (a.0, zip_more bs cs xs ys a.1 b)

right_more : (marks : Bool) (items : List Item) (item : Item) (used more : List Block) → AreRight marks items used → AllZip IsRight (batch_in (fold (step marks) opening items) item) more → AreRight marks (items ++ item ∷ []) (used ++ more)
right_more marks items item used more right next =
    subst (λ (bs : List Begun). AllZip IsRight bs (used ++ more)) (sym (from_more marks opening items item)) (zip_more (batches_from marks opening items) (batch_in (fold (step marks) opening items) item) used more right next)

-- the blocks of these items' batches are right, and these are left
pub record IsUsed (marks : Bool) (items : List Item) (blocks : List Block) : Type 0 where
  pub used : List Block
  pub rest : List Block
  pub parts : blocks ≡ used ++ rest
  pub right : AreRight marks items used

pub used_none : (marks : Bool) (blocks : List Block) → IsUsed marks [] blocks
used_none marks blocks = record { used = []; rest = blocks; parts = refl; right = tt }

next_there : (used : List Block) (b : Block) (rest : List Block) → slice_get (used ++ b ∷ rest) (length used) ≡ Some b
next_there [] b rest = refl
next_there (x ∷ used) b rest = next_there used b rest

next_missing : (used : List Block) → slice_get (used ++ []) (length used) ≡ None
next_missing used = subst (λ (bs : List Block). slice_get bs (length used) ≡ None) (sym (append-nil used)) (slice_get_past used (length used) (omega arith))

-- what is at the place of the next batch
at_next : (marks : Bool) (items : List Item) (blocks used rest : List Block) → blocks ≡ used ++ rest → AreRight marks items used → slice_get blocks (length (fold (step marks) opening items).versions) ≡ slice_get (used ++ rest) (length used)
at_next marks items blocks used rest parts right =
    ap (λ n. slice_get blocks n) (sym (used_length marks items used right)) ∙ ap (λ (bs : List Block). slice_get bs (length used)) parts

pub used_more : (marks : Bool) (items : List Item) (item : Item) (blocks : List Block) → IsUsed marks items blocks → IsRightItem (fold (step marks) opening items) item blocks → IsUsed marks (items ++ item ∷ []) blocks
used_more marks items (Relation name kinds keys) blocks u r = record {
  used = u.used ++ [];
  rest = u.rest;
  parts = u.parts ∙ ap (λ (bs : List Block). bs ++ u.rest) (sym (append-nil u.used));
  right = right_more marks items (Relation name kinds keys) u.used [] u.right tt;
}
used_more marks items (Show name version) blocks u r = record {
  used = u.used ++ [];
  rest = u.rest;
  parts = u.parts ∙ ap (λ (bs : List Block). bs ++ u.rest) (sym (append-nil u.used));
  right = right_more marks items (Show name version) u.used [] u.right tt;
}
used_more marks items (Batch programs) blocks u r = go u.rest u.parts
  where
    here : model.World
    here = fold (step marks) opening items

    go : (rest : List Block) → blocks ≡ u.used ++ rest → IsUsed marks (items ++ Batch programs ∷ []) blocks
    go [] parts = absurd (subst (IsRightAt (begun_at here programs)) (at_next marks items blocks u.used [] parts u.right ∙ next_missing u.used) r)
    go (b ∷ rest) parts = record {
      used = u.used ++ b ∷ [];
      rest = rest;
      parts = parts ∙ sym (append_assoc u.used (b ∷ []) rest);
      right =
          right_more marks items (Batch programs) u.used (b ∷ []) u.right
          (subst (IsRightAt (begun_at here programs)) (at_next marks items blocks u.used (b ∷ rest) parts u.right ∙ next_there u.used b rest) r, tt);
    }

-- ---- a block that isn't right, or is left

-- the item is a batch that is refused
pub record IsRefusedItem (marks : Bool) (items : List Item) (item : Item) (blocks : List Block) (place : ℕ) : Type 0 where
  pub programs : List Program
  pub is : item ≡ Batch programs
  pub refused : IsRefusedAt marks items programs blocks place

pub refused_item : (marks : Bool) (items : List Item) (item : Item) (blocks : List Block) (place : ℕ) → IsUsed marks items blocks → IsWrongItem (fold (step marks) opening items) item blocks place → IsRefusedItem marks items item blocks place
refused_item marks items (Relation name kinds keys) blocks place u w = absurd w
refused_item marks items (Show name version) blocks place u w = absurd w
refused_item marks items (Batch programs) blocks place u w = record { programs = programs; is = refl; refused = go u.rest u.parts }
  where
    here : model.World
    here = fold (step marks) opening items

    wrong : (rest : List Block) (o : Option Block) → blocks ≡ u.used ++ rest → slice_get (u.used ++ rest) (length u.used) ≡ o → IsWrongAt (begun_at here programs) o place
    wrong rest o parts e = subst (λ (b : Option Block). IsWrongAt (begun_at here programs) b place) (at_next marks items blocks u.used rest parts u.right ∙ e) w

    go : (rest : List Block) → blocks ≡ u.used ++ rest → IsRefusedAt marks items programs blocks place
    go [] parts = Missing (subst (AreRight marks items) (sym (parts ∙ append-nil u.used)) u.right) (wrong [] None parts (next_missing u.used))
    go (b ∷ rest) parts = Wrong u.used b rest parts u.right (wrong (b ∷ rest) (Some b) parts (next_there u.used b rest))

-- behind the last item
pub none_left : (marks : Bool) (items : List Item) (blocks : List Block) → IsUsed marks items blocks → length blocks ≤ length (fold (step marks) opening items).versions → AreRight marks items blocks
none_left marks items blocks u few = go u.rest u.parts
  where
    go : (rest : List Block) → blocks ≡ u.used ++ rest → AreRight marks items blocks
    go [] parts = subst (AreRight marks items) (sym (parts ∙ append-nil u.used)) u.right
    go (b ∷ rest) parts =
        let all : length blocks ≡ length (u.used ++ b ∷ rest) = ap (λ (bs : List Block). length bs) parts in
        absurd (let no : length u.used + 1 ≤ length u.used = omega (arith, all, length-append u.used (b ∷ rest), few, used_length marks items u.used u.right) in omega (arith, no))

pub some_left : (marks : Bool) (items : List Item) (blocks : List Block) → IsUsed marks items blocks → length (fold (step marks) opening items).versions < length blocks → IsLeft marks items blocks
some_left marks items blocks u more = go u.rest u.parts
  where
    go : (rest : List Block) → blocks ≡ u.used ++ rest → IsLeft marks items blocks
    go [] parts =
        let all : length blocks ≡ length u.used = ap (λ (bs : List Block). length bs) (parts ∙ append-nil u.used) in
        absurd (let no : length u.used < length u.used = omega (arith, all, more, used_length marks items u.used u.right) in omega (arith, no))
    go (b ∷ rest) parts = record { front = u.used; block = b; rest = rest; parts = parts; right = u.right }
