-- What the fold writes of several items, and what a session has answered of them.
use Rattle.std.proofs.Common.{◌≡◌, ◌++◌, ◌∷◌, ◌∙◌, Bool, true, false, List, [], ℕ, length, Some, None, refl, sym, ap, subst, append-nil, append_assoc}
use Rattle.std.specs.Prelude.{Option, fold, if◌then◌else◌, nat_le, nat_lt, unwrap_or}
use Rattle.std.proofs.lemmas.List.{map-append}
use Rattle.std.proofs.lemmas.List.Sums.{fold-append}
use Rattle.std.proofs.KnownBytes.{Appends-trans}
use Rattle.std.specs.Io.KnownBytes.{Appends}
use Rattle.lt_model.specs.declared.kind.Kind.{Kind}
use Rattle.lt_model.specs.declared.syntax.Item.{Item}
use Rattle.lt_model.specs.declared.syntax.Item.TheVariants.{Relation, Batch, Show}
use Rattle.lt_model.specs.declared.syntax.Program.{Program}
use Rattle.lt_model.specs.Report.{Text, World, bad_text, says, shown, step, with_relation}
use Rattle.lt_model.specs.Schema.{number_of}
use Rattle.lt_report.specs.Puts.{AppendsFront}
use Rattle.lt_world.specs.Lines.{items_of, said_all}
use Rattle.lt_world.specs.World.{said, unwritten}
use Rattle.lt_world.proofs.Said.{step_says}

-- ---- what was written before doesn't matter

relation_stands : (m : World) (name : Text) (kinds : List Kind) (keys : ℕ) (o : Option ℕ) → unwritten (with_relation (unwritten m) name kinds keys o) ≡ unwritten (with_relation m name kinds keys o)
relation_stands m name kinds keys (Some relation) = refl
relation_stands m name kinds keys None = full (nat_le 64 (length m.schema))
  where
    full : (b : Bool) → unwritten (if b then says (unwritten m) (bad_text 25) else record (unwritten m) { schema = m.schema ++ (name, kinds, keys) ∷ []; state = m.state ++ record { width = length kinds; rows = [] } ∷ [] })
        ≡ unwritten (if b then says m (bad_text 25) else record m { schema = m.schema ++ (name, kinds, keys) ∷ []; state = m.state ++ record { width = length kinds; rows = [] } ∷ [] })
    full true = refl
    full false = refl

shown_stands : (m : World) (name : Text) (version o : Option ℕ) → unwritten (shown (unwritten m) name version o) ≡ unwritten (shown m name version o)
shown_stands m name version None = refl
shown_stands m name version (Some relation) = later (nat_lt (length m.versions) (unwrap_or version 0)) _ _ _ _
  where
    later : (b : Bool) (t u v x : Text) → unwritten (if b then says (unwritten m) t else says (unwritten m) u) ≡ unwritten (if b then says m v else says m x)
    later true t u v x = refl
    later false t u v x = refl

step_stands : (marks : Bool) (m : World) (item : Item) → unwritten (step marks (unwritten m) item) ≡ unwritten (step marks m item)
step_stands marks m (Relation name kinds keys) = relation_stands m name kinds keys (number_of m.schema name)
step_stands marks m (Batch programs) = refl
step_stands marks m (Show name version) = shown_stands m name version (number_of m.schema name)

fold_stands : (marks : Bool) (m : World) (items : List Item) → unwritten (fold (step marks) (unwritten m) items) ≡ unwritten (fold (step marks) m items)
fold_stands marks m [] = refl
fold_stands marks m (item ∷ items) =
    sym (fold_stands marks (step marks (unwritten m) item) items)
    ∙ ap (λ (n : World). unwritten (fold (step marks) n items)) (step_stands marks m item)
    ∙ fold_stands marks (step marks m item) items

-- ---- several items

-- the fold adds it
pub fold_says : (marks : Bool) (m : World) (items : List Item) → (fold (step marks) m items).text ≡ m.text ++ said_all marks m items
fold_says marks m [] = sym (append-nil m.text)
fold_says marks m (item ∷ items) =
    fold_says marks (step marks m item) items
    ∙ ap (λ (t : Text). t ++ said_all marks (step marks m item) items) (step_says marks m item)
    ∙ append_assoc m.text (said marks m item) (said_all marks (step marks m item) items)
    ∙ ap (λ (n : World). m.text ++ (said marks m item ++ (fold (step marks) n items).text)) (sym (step_stands marks m item))
    ∙ ap (λ (t : Text). m.text ++ t) (sym (fold_says marks (step marks (unwritten m) item) items))

-- of the first items, and of those behind them
pub said_behind : (marks : Bool) (m : World) (items more : List Item) → said_all marks m (items ++ more) ≡ said_all marks m items ++ said_all marks (fold (step marks) m items) more
said_behind marks m items more =
    ap (λ (n : World). n.text) (fold-append (step marks) (unwritten m) items more)
    ∙ fold_says marks (fold (step marks) (unwritten m) items) more
    ∙ ap (λ (n : World). said_all marks m items ++ (fold (step marks) n more).text) (fold_stands marks m items)

-- a front of what the first items say is one of what all say
pub front_of_more : (marks : Bool) (m : World) (items more : List Item) (h i : Option (List ℕ)) → AppendsFront h i (said_all marks m items) → AppendsFront h i (said_all marks m (items ++ more))
front_of_more marks m items more h i f = (
  f.0,
  f.1 ++ said_all marks (fold (step marks) m items) more,
  said_behind marks m items more ∙ ap (λ (t : Text). t ++ said_all marks (fold (step marks) m items) more) f.2 ∙ append_assoc f.0 f.1 (said_all marks (fold (step marks) m items) more),
  f.3,
)

-- all of the first, and of those behind them, or a front of that
pub appends_behind : (marks : Bool) (m : World) (items more : List Item) (h i j : Option (List ℕ)) → Appends h i (said_all marks m items) → Appends i j (said_all marks (fold (step marks) m items) more)
    → Appends h j (said_all marks m (items ++ more))
appends_behind marks m items more h i j a b = subst (Appends h j) (sym (said_behind marks m items more)) (Appends-trans h i j (said_all marks m items) (said_all marks (fold (step marks) m items) more) a b)

pub front_behind : (marks : Bool) (m : World) (items more : List Item) (h i j : Option (List ℕ)) → Appends h i (said_all marks m items) → AppendsFront i j (said_all marks (fold (step marks) m items) more)
    → AppendsFront h j (said_all marks m (items ++ more))
front_behind marks m items more h i j a f = (
  said_all marks m items ++ f.0,
  f.1,
  said_behind marks m items more ∙ ap (λ (t : Text). said_all marks m items ++ t) f.2 ∙ sym (append_assoc (said_all marks m items) f.0 f.1),
  Appends-trans h i j (said_all marks m items) f.0 a f.3,
)

-- one batch more
pub items_more : (batches : List (List Program)) (programs : List Program) → items_of (batches ++ programs ∷ []) ≡ items_of batches ++ Batch programs ∷ []
items_more batches programs = map-append (λ (ps : List Program). Batch ps) batches (programs ∷ [])
