-- What a session writes of a relation that is there, now or at a version that is there.
use Rattle.std.proofs.Common.{◌≡◌, ◌≤◌, ℕ, Bool, List, length, Some, refl, sym, ap, subst, ◌∙◌}
use Rattle.std.specs.Prelude.{Option, slice_get, IfSome}
use Rattle.std.specs.Borrow.{Bor}
use Rattle.std.specs.Option.{option_copied}
use Rattle.lt_face.specs.State.{Row, State, rows_in, Relation}
use Rattle.lt_model.specs.declared.kind.Kind.{Kind}
use Rattle.lt_model.specs.Schema.{Schema, number_of, columns_of}
use Rattle.lt_model.specs.Report as model
use Rattle.lt_model.specs.declared.syntax.Item.TheVariants.{Show}
use Rattle.lt_model.specs.Report.{at_version, says, shown, show_text}
use Rattle.lt_base.specs.Tables.{Table, state_of}
use Rattle.lt_report.specs.Texts.{held}
use Rattle.lt_world.specs.Versions.{IsFront, database_of}
use Rattle.lt_world.specs.World.{said, Shows, unwritten}
use Rattle.lt_world.specs.declared.world.World.{World}
use Rattle.lt_world.proofs.Columns.{some_columns, front_then, set_wide, set_held}
use Rattle.lt_world.proofs.Folds.{shows}
use Rattle.lt_world.proofs.Said.{Shows-unwritten}
use Rattle.lt_world.proofs.Versions.{state_at, made}

module _ (w : World) (m : model.World) (s : Shows w m) (name : List ℕ) (n : ℕ) (at : Option ℕ) (db : List Table) (versions : List (List Table)) (columns : List Kind) (rows : Option (Bor Relation))
    (found : Some n ≡ number_of w.schema name) (listed : versions ≡ w.versions) (there : Some db ≡ database_of w.database versions at)
    (cols : columns ≡ columns_of w.schema name) (are : option_copied rows ≡ slice_get (state_of db) n) where
  place : number_of m.schema name ≡ Some n
  place = ap (λ (h : Schema). number_of h name) s.schema ∙ sym found

  chosen : database_of w.database w.versions at ≡ Some db
  chosen = sym (there ∙ ap (λ (vs : List (List Table)). database_of w.database vs at) listed)

  same_columns : columns ≡ columns_of m.schema name
  same_columns = cols ∙ ap (λ (h : Schema). columns_of h name) (sym s.schema)

  state : at_version m at ≡ state_of db
  state = state_at m w.database w.versions s.state s.versions at db chosen

  pub some : 1 ≤ length columns
  some = subst (λ (ks : List Kind). 1 ≤ length ks) (sym same_columns) (some_columns m.schema name n s.some place)

  pub wide : IfSome rows (λ set. set.now.width ≡ length columns)
  wide =
      subst (λ (ks : List Kind). IfSome rows (λ set. set.now.width ≡ length ks)) (sym same_columns)
      (set_wide rows m.schema (state_of db) name n place (subst (IsFront m.schema) state (front_then m at s.widths s.older)) are)

  pub is_shown : shown m name at (number_of m.schema name) ≡ says m (show_text name at columns (held (λ (set : Relation). set.rows) rows))
  is_shown =
      shows m name n at place (made m w.database w.versions s.state s.versions at db chosen)
      ∙ ap (λ (ks : List Kind). says m (show_text name at ks (rows_in (at_version m at) n))) (sym same_columns)
      ∙ ap (λ (st : State). says m (show_text name at columns (rows_in st n))) state
      ∙ ap (λ (rs : List Row). says m (show_text name at columns rs)) (sym (set_held rows (state_of db) n are))

pub show_said : (marks : Bool) (w : World) (m : model.World) (s : Shows w m) (name : List ℕ) (n : ℕ) (at : Option ℕ) (db : List Table) (columns : List Kind) (rows : Option (Bor Relation))
    → Some n ≡ number_of w.schema name → Some db ≡ database_of w.database w.versions at → columns ≡ columns_of w.schema name → option_copied rows ≡ slice_get (state_of db) n
    → said marks m (Show name at) ≡ show_text name at columns (held (λ (set : Relation). set.rows) rows)
show_said marks w m s name n at db columns rows found there cols are =
    ap (λ (v : model.World). v.text) (is_shown w (unwritten m) (Shows-unwritten w m s) name n at db w.versions columns rows found refl there cols are)
