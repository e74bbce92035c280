-- What the fold writes of an item, behind what it wrote before.
use Rattle.std.proofs.Common.{◌≡◌, ℕ, Bool, true, false, List, [], ◌∷◌, ◌++◌, length, map, Some, None, refl, sym, ap, ◌∙◌, append_assoc}
use Rattle.std.specs.Prelude.{Option, fold, if◌then◌else◌, nat_le, nat_lt, unwrap_or}
use Rattle.std.proofs.lemmas.List.{append-nil}
use Rattle.std.proofs.lemmas.List.Sums.{fold-append}
use Rattle.lt_face.specs.State.{rows_in}
use Rattle.lt_model.specs.declared.kind.Kind.{Kind}
use Rattle.lt_model.specs.declared.syntax.Item.{Item}
use Rattle.lt_model.specs.declared.syntax.Item.TheVariants.{Relation, Batch, Show}
use Rattle.lt_model.specs.Schema.{number_of, columns_of}
use Rattle.lt_model.specs.Script.{Close}
use Rattle.lt_model.specs.Report.{Text, World, at_version, bad_text, close_text, opening, report, says, show_text, shown, step, with_relation}
use Rattle.lt_base.specs.Tables.{Table, state_of}
use Rattle.lt_world.specs.declared.world.World as session
use Rattle.lt_world.specs.World.{said, Shows, unwritten}

-- the same text, whether a test holds or not
either : (b : Bool) (m : World) (t u : Text) → (if b then says m t else says m u).text ≡ m.text ++ (if b then says (unwritten m) t else says (unwritten m) u).text
either true m t u = refl
either false m t u = refl

-- a relation that is new: there is room for it, or it has a code
declared : (b : Bool) (m : World) (t : Text) (v : World) (x : World) → v.text ≡ m.text → x.text ≡ [] → (if b then says m t else v).text ≡ m.text ++ (if b then says (unwritten m) t else x).text
declared true m t v x e f = refl
declared false m t v x e f = e ∙ sym (append-nil m.text) ∙ ap (λ (u : Text). m.text ++ u) (sym f)

related : (m : World) (name : Text) (kinds : List Kind) (keys : ℕ) (o : Option ℕ) → (with_relation m name kinds keys o).text ≡ m.text ++ (with_relation (unwritten m) name kinds keys o).text
related m name kinds keys (Some relation) = refl
related m name kinds keys None = declared (nat_le 64 (length m.schema)) m (bad_text 25) _ _ refl refl

then_at : (m : World) (version : Option ℕ) → at_version (unwritten m) version ≡ at_version m version
then_at m None = refl
then_at m (Some v) = refl

shows_text : (m : World) (name : Text) (version : Option ℕ) (o : Option ℕ) → (shown m name version o).text ≡ m.text ++ (shown (unwritten m) name version o).text
shows_text m name version None = refl
shows_text m name version (Some relation) =
    rw (then_at m version) (either (nat_lt (length m.versions) (unwrap_or version 0)) m (bad_text 26) (show_text name version (columns_of m.schema name) (rows_in (at_version m version) relation)))

-- a step adds it
pub step_says : (marks : Bool) (m : World) (item : Item) → (step marks m item).text ≡ m.text ++ said marks m item
step_says marks m (Relation name kinds keys) = related m name kinds keys (number_of m.schema name)
step_says marks m (Batch programs) = refl
step_says marks m (Show name version) = shows_text m name version (number_of m.schema name)

-- more items add more
pub record Adds (m : World) (text : Text) : Type 0 where
  pub more : Text
  pub is : text ≡ m.text ++ more

fold_adds : (marks : Bool) (m : World) (items : List Item) → Adds m (fold (step marks) m items).text
fold_adds marks m [] = record { more = []; is = sym (append-nil m.text) }
fold_adds marks m (item ∷ items) =
    let a = fold_adds marks (step marks m item) items in
    record {
      more = said marks m item ++ a.more;
      is = a.is ∙ ap (λ (t : Text). t ++ a.more) (step_says marks m item) ∙ append_assoc m.text (said marks m item) a.more;
    }

-- what was written of the first items is a front of the report
pub report_goes_on : (marks : Bool) (items more : List Item) (close : Close) → Adds (fold (step marks) opening items) (report marks (items ++ more) close)
report_goes_on marks items more close =
    let a = fold_adds marks (fold (step marks) opening items) more in
    record {
      more = a.more ++ close_text close;
      is =
          ap (λ (w : World). w.text ++ close_text close) (fold-append (step marks) opening items more)
          ∙ ap (λ (t : Text). t ++ close_text close) a.is
          ∙ append_assoc (fold (step marks) opening items).text a.more (close_text close);
    }

-- the session stands there with nothing written, too
pub Shows-unwritten : (w : session.World) (m : World) → Shows w m → Shows w (unwritten m)
Shows-unwritten w m s = record { schema = s.schema; some = s.some; widths = s.widths; state = s.state; versions = s.versions; older = s.older }

-- and where more was written
pub Shows-says : (w v : session.World) (m : World) (text : Text) → v.schema ≡ w.schema → v.database ≡ w.database → v.versions ≡ w.versions → Shows w m → Shows v (says m text)
Shows-says w v m text schema database versions s = record {
  schema = s.schema ∙ sym schema;
  some = s.some;
  widths = s.widths;
  state = s.state ∙ ap state_of (sym database);
  versions = s.versions ∙ ap (λ (vs : List (List Table)). map state_of vs) (sym versions);
  older = s.older;
}

says_either : (w : session.World) (m : World) (b : Bool) (t u : Text) → Shows w m → Shows w (if b then says m t else says m u)
says_either w m true t u s = Shows-says w w m t refl refl refl s
says_either w m false t u s = Shows-says w w m u refl refl refl s

-- a session stays where it is while it shows
pub shown_stays : (w : session.World) (m : World) (name : Text) (at o : Option ℕ) → Shows w m → Shows w (shown m name at o)
shown_stays w m name at None s = Shows-says w w m (bad_text 20) refl refl refl s
shown_stays w m name at (Some n) s = says_either w m (nat_lt (length m.versions) (unwrap_or at 0)) (bad_text 26) _ s
